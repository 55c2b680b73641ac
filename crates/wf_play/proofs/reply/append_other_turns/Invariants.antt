use Rattle.std.proofs.Common.{◌≡◌, ◌++◌, ◌+◌, drop, flat_map}
use Rattle.std.specs.List.{enumerate_from}
use lib.Chars.{codes}
use Rattle.wf_play.specs.Replies.{unit_turn_text}
use Rattle.wf_play.proofs.reply.append_other_turns.Given as goal

abbrev pub invariant-loop-at : goal.invariant-loop-at
invariant-loop-at l =
    l.text ++ flat_map (λ turn. codes ", " ++ unit_turn_text l.chart turn) (enumerate_from (l.at + 1) (drop l.at l.turns))
    ≡ l.fn.text ++ flat_map (λ turn. codes ", " ++ unit_turn_text l.chart turn) (enumerate_from 1 l.turns)
