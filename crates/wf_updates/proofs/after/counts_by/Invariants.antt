use Rattle.std.proofs.Common.{◌≡◌, take}
use Rattle.wf_updates.specs.After.{count_by, counted}
use Rattle.wf_updates.proofs.after.counts_by.Given as goal

abbrev pub invariant-loop-act : goal.invariant-loop-act
invariant-loop-act l = l.counts ≡ counted (count_by l.done l.started) (take l.act-index l.unclosed)
