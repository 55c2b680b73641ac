use Rattle.std.proofs.Common.{◌≡◌, ℕ, ◌<◌, length, get_or, take, None}
use Rattle.wf_actions.specs.Writes.{winner, past_variables}
use Rattle.wf_actions.proofs.writes.winners.Given as goal

-- as far as the loop has come, the write of each variable that stays
abbrev pub invariant-loop-write : goal.invariant-loop-write
invariant-loop-write l =
    (length l.best.items ≡ past_variables l.writes)
    × ((x : ℕ) → x < past_variables l.writes → get_or l.best.items x None ≡ winner x (take l.write-index l.writes))
