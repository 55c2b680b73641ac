use Rattle.std.proofs.Common.{◌≡◌, ◌-◌}
use Rattle.wf_text.specs.Declarations.{outputs, outputs_from}
use Rattle.wf_text.proofs.declarations.outputs.Given as goal

abbrev pub invariant-loop-turn : goal.invariant-loop-turn
invariant-loop-turn l = outputs l.fn.cursor ≡ outputs_from (l._turn-end - l._turn) l.found l.cursor
