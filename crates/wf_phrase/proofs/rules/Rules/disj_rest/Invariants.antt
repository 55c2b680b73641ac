use Rattle.std.proofs.Common.{◌≡◌, ◌-◌}
use Rattle.wf_phrase.specs.Operators.{or_operator}
use Rattle.wf_phrase.specs.Expressions.{chain_from, rest_of, conj, parens}
use Rattle.wf_phrase.proofs.rules.Rules.disj_rest.Given as goal

abbrev pub invariant-loop-turn : goal.invariant-loop-turn
invariant-loop-turn g l = rest_of or_operator (conj l.self.depth (parens l.self.depth)) l.fn.left l.fn.cursor ≡ chain_from or_operator (conj l.self.depth (parens l.self.depth)) (l._turn-end - l._turn) l.left l.cursor
