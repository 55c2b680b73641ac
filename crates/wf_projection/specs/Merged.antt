-- Of other calls. The merged list of the units' histories, by the places of its admissions.
use Rattle.std.specs.Prelude.{ℕ, zero, suc, ◌+◌, ◌≡◌, List, [], map, flat_map, length, Option, Some, None, slice_get}
use Rattle.std.specs.Option.{option_map}
use Rattle.std.specs.List.{range_with_len}
use Rattle.wf_model.specs.declared.chart.Chart.{Chart}
use Rattle.wf_model.specs.declared.outer.Entry.{Entry}
use Rattle.wf_machine.specs.declared.admission.Place.{Place}
use Rattle.wf_machine.specs.Server.{numbers_sealed}
use Rattle.wf_machine.specs.Machine.{place_of}
use Rattle.wf_histories.specs.Histories.{Admission, History, seals, taken}
use Rattle.wf_histories.specs.Agreement.{least_taken, entry}
use Rattle.wf_histories.specs.Laws.{merged_of, IsCentral}
use Rattle.wf_steps.specs.Room.{Kept}

-- these are the units' histories, in unit order
abbrev pub AreOf : List Kept → (ℕ → History) → Type 0
AreOf histories h = map (λ kept. kept.past) histories ≡ map h (range_with_len 0 (length histories))

-- where the entries of step k stand: in unit order, the numbers of the admissions that each unit's Turn k - 2 sealed
abbrev pub places_at : ℕ → (ℕ → History) → ℕ → List Place
places_at n h zero = []
places_at n h (suc zero) = []
places_at n h (suc (suc j)) = flat_map (λ u. map (place_of u) (numbers_sealed (seals (h u)) j)) (range_with_len 0 n)

-- what each Turn of a unit sealed, by places; and of all units, in unit order

abbrev pub turn_places : ℕ → History → ℕ → List Place
turn_places u h j = map (place_of u) (numbers_sealed (seals h) (j + 1))

abbrev pub unit_places : ℕ → History → List (List Place)
unit_places u h = map (turn_places u h) (range_with_len 0 (taken h))

abbrev pub AreTurns : List (List (List Place)) → (ℕ → History) → Type 0
AreTurns units h = units ≡ map (λ u. unit_places u (h u)) (range_with_len 0 (length units))

-- THE MERGED LIST of n units, from step 1 to the least taken count + 2
unfoldable pub merged_places : ℕ → (ℕ → History) → List (List Place)
merged_places n h = map (places_at n h) (range_with_len 1 (least_taken n h + 2))

-- the admission with this number, where numbers count from 1
abbrev pub numbered : List Admission → ℕ → Option Admission
numbered admissions zero = None
numbered admissions (suc n) = slice_get admissions n

-- the entry that stands at a place
abbrev pub entry_at : (ℕ → History) → Place → Option Entry
entry_at h place = option_map (λ a. entry place.unit.0 a.outer) (numbered (h place.unit.0).admissions place.number)

-- the entries at these places are a run of the chart, over which each unit shows the central state
pub record IsCentralAt (chart : Chart) (h : ℕ → History) (places : List (List Place)) : Type 0 where
  pub entries : map (map (entry_at h)) places ≡ map (map Some) (merged_of chart h)
  pub central : IsCentral chart h
