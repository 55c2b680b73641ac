use Rattle.std.proofs.Common.{◌≡◌, take}
use Rattle.wf_updates.specs.Tables.{past_numbers}
use Rattle.wf_updates.proofs.numbers.past_numbers.Given as goal

abbrev pub invariant-loop-number : goal.invariant-loop-number
invariant-loop-number l = l.past ≡ past_numbers (take l.number-index l.numbers)
