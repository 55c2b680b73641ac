-- Of other calls. Where a start stands among those of a step.
use Rattle.std.specs.Prelude.{ℕ, ◌==◌, ◌&&◌, Bool}
use Rattle.std.specs.declared.cmp.Ordering.{Ordering}
use Rattle.std.specs.Ordering.{nat_cmp, ordering_then}
use Rattle.wf_model.specs.declared.update.StartAt.{StartAt}

-- its transition and its place among that one's actions
abbrev pub place_of : StartAt → ℕ × ℕ
place_of start = (start.trans.0, start.place)

-- by transition, then by place
abbrev pub place_cmp : ℕ × ℕ → ℕ × ℕ → Ordering
place_cmp a b = ordering_then (nat_cmp a.0 b.0) (nat_cmp a.1 b.1)

abbrev pub is_at : ℕ → ℕ → StartAt → Bool
is_at t place start = (start.trans.0 == t) && (start.place == place)
