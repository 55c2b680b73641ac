use Rattle.std.proofs.Common.{◌≡◌, ◌-◌}
use Rattle.wf_text.specs.Declarations.{declarations, declarations_from}
use Rattle.wf_text.proofs.declarations.declarations.Given as goal

abbrev pub invariant-loop-turn : goal.invariant-loop-turn
invariant-loop-turn l = declarations l.fn.cursor ≡ declarations_from (l._turn-end - l._turn) l.cursor
