use Rattle.std.proofs.Common.{◌≡◌, ◌-◌}
use Rattle.wf_phrase.specs.Operators.{and_operator}
use Rattle.wf_phrase.specs.Expressions.{chain_from, rest_of, neg, parens}
use Rattle.wf_phrase.proofs.rules.Rules.conj_rest.Given as goal

abbrev pub invariant-loop-turn : goal.invariant-loop-turn
invariant-loop-turn g l = rest_of and_operator (neg l.self.depth (parens l.self.depth)) l.fn.left l.fn.cursor ≡ chain_from and_operator (neg l.self.depth (parens l.self.depth)) (l._turn-end - l._turn) l.left l.cursor
