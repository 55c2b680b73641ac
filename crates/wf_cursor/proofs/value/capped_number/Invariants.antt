use Rattle.std.proofs.Common.{◌≡◌, ◌^◌, ◌-◌, min, take}
use Rattle.wf_cursor.specs.Values.{number}
use Rattle.wf_cursor.proofs.value.capped_number.Given as goal

abbrev pub invariant-loop-digit : goal.invariant-loop-digit
invariant-loop-digit l = l.number ≡ min (number (take l.digit-index l.digits)) (2 ^ 64 - 1)
