-- Inner. What a step sees, by the lists that are kept.
use Rattle.std.specs.Prelude.{ℕ, ◌==◌, Bool, List, Some, slice_get, slice_index, IsOk}
use Rattle.std.specs.List.{list_any}
use Rattle.wf_model.specs.declared.ids.EventId.{EventId}
use Rattle.wf_model.specs.declared.value.Val.{Val}
use Rattle.wf_model.specs.declared.expr.Expr.{Expr}
use Rattle.wf_model.specs.Seen.{Seen, HasAll, var_sorts}
use Rattle.wf_model.specs.Sorts.{sort_of}
use Rattle.wf_semantics.specs.Snapshot.{Snapshot}
use Rattle.wf_model.specs.Bits.{bit}

-- what expressions read of the states that are in, the values of the variables, and the activities' open items and
-- completions
abbrev pub seen_by : List Bool → List Val → List ℕ → List Bool → Seen
seen_by active store counts dones =
    record { state = λ s. Some (bit active s); var = slice_get store; count = λ a. Some (slice_index counts a); done = λ a. Some (bit dones a) }

-- the expression has a sort where this is read, and all that it names is there
abbrev pub CanBeRead : Seen → Expr → Type 0
CanBeRead seen e = IsOk (sort_of (var_sorts seen) e) × HasAll seen e

abbrev pub was_raised : List EventId → ℕ → Bool
was_raised raised e = list_any (λ r. r.0 == e) raised

-- a snapshot with these values, where these events are there
abbrev pub seeing : Seen → (ℕ → Bool) → Snapshot
seeing seen there = record { seen = seen; there = there }
