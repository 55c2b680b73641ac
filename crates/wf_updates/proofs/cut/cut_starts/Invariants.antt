use Rattle.std.proofs.Common.{◌≡◌, filter, take}
use Rattle.wf_model.specs.Bits.{bit}
use Rattle.wf_updates.proofs.cut.cut_starts.Given as goal

abbrev pub invariant-loop-start : goal.invariant-loop-start
invariant-loop-start l = l.cut ≡ filter (λ start. bit l.known start.act.0) (take l.start-index l.starts)
