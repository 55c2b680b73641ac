-- Of other calls. The blockers of a part's transitions, as sets of places in the part's list.
use Rattle.std.specs.Prelude.{ℕ, ◌≡◌, ◌<◌, ◌≤◌, ◌==◌, Bool, List, All, map, length}
use Rattle.std.specs.List.{list_any, range_with_len}
use Rattle.wf_model.specs.Bits.{bit}
use Rattle.wf_model.specs.Limits.{max_transitions}
use Rattle.wf_model.specs.declared.ids.TransId.{TransId}
use Rattle.wf_parts.specs.declared.data.PartTransition.{PartTransition}
use Rattle.wf_parts.specs.declared.rows.Rows.{Rows}
use Rattle.wf_parts.specs.declared.rows.Rows.TheVariants.{One, Four, Sixteen}

-- the set of those that pass, by their places, among so many numbers
abbrev pub places : {A : Type 0} → ℕ → (A → Bool) → List A → List Bool
places count test xs = map (bit (map test xs)) (range_with_len 0 count)

-- transition t is among these
abbrev pub names : List TransId → ℕ → Bool
names ids t = list_any (λ id. id.0 == t) ids

-- the places of the transitions that block this one
abbrev pub row_of : ℕ → List PartTransition → PartTransition → List Bool
row_of count transitions trans = places count (λ other. names trans.blockers other.id.0) transitions

abbrev pub rows_of : ℕ → List PartTransition → List (List Bool)
rows_of count transitions = map (row_of count transitions) transitions

-- a row for each of the transitions, each as narrow as so many allow
abbrev pub AreRows : List PartTransition → Rows → Type 0
AreRows transitions (One rows) = (length transitions ≤ 64) × (rows ≡ rows_of 64 transitions)
AreRows transitions (Four rows) = (64 < length transitions) × (length transitions ≤ 256) × (rows ≡ rows_of 256 transitions)
AreRows transitions (Sixteen rows) = (256 < length transitions) × (length transitions ≤ 1024) × (rows ≡ rows_of 1024 transitions)

-- the transition and those that block it are numbered as a chart's are
pub record IsNumbered (trans : PartTransition) : Type 0 where
  pub here : trans.id.0 < max_transitions
  pub blockers : All (λ id. id.0 < max_transitions) trans.blockers
