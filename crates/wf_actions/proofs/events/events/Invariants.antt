use Rattle.std.proofs.Common.{◌≡◌, take}
use Rattle.wf_actions.specs.Events.{numbers_of}
use Rattle.wf_actions.proofs.events.events.Given as goal

abbrev pub invariant-loop-number : goal.invariant-loop-number
invariant-loop-number l = numbers_of l.events ≡ take l.number-index l.numbers
