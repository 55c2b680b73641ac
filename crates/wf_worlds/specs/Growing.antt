-- Of the laws. What a server keeps of its history as it admits and takes turns.
use Rattle.std.specs.Prelude.{ℕ, suc, ◌+◌, ◌-◌, ◌≡◌, ◌<◌, ◌≤◌, nat_le, min, is_ok, true, List, [], ◌∷◌, ◌++◌, length, drop, sum, map}
use Rattle.std.specs.List.{list_all, range_with_len}
use Rattle.wf_model.specs.Limits.{max_sealed}
use Rattle.wf_model.specs.declared.chart.Chart.{Chart}
use Rattle.wf_model.specs.declared.outer.Outer.{Outer}
use Rattle.wf_parts.specs.declared.data.PartData.{PartData}
use Rattle.wf_model.specs.declared.update.Update.{Update}
use Rattle.wf_model.specs.Accepted.{IsAccepted}
use Rattle.wf_parts.specs.Parts.{part_of}
use Rattle.wf_lockstep.specs.Within.{is_at_unit}
use Rattle.wf_histories.specs.Histories.{Admission, TurnDone, History, seals, taken, sealed_by, local, local_update}
use Rattle.wf_histories.specs.Follows.{item_acts, is_there, are_first, Follows}
use Rattle.wf_owns.specs.Ranges.{has_item}
use Rattle.wf_worlds.specs.Admitting.{outers, lets_in}

-- h's admissions and Turns are the first ones of g's
pub record GoesOn (h g : History) : Type 0 where
  pub more : List Admission
  pub later : List TurnDone
  pub admissions : g.admissions ≡ h.admissions ++ more
  pub turns : g.turns ≡ h.turns ++ later

-- it seals no more than it has
abbrev pub Fits : History → Type 0
Fits h = sum (seals h) ≤ length h.admissions

-- a history that goes on keeps what its unit made: its views, and its updates up to taken + 1
abbrev pub UpdatesGoOn : Type 0
UpdatesGoOn =
    (h g : History) (part : PartData) → GoesOn h g → Fits h →
    ((j : ℕ) → j ≤ taken h → local part g j ≡ local part h j) × ((j : ℕ) → j ≤ taken h + 1 → local_update part g j ≡ local_update part h j)

-- what no Turn has sealed
abbrev pub waiting_of : History → List Outer
waiting_of h = outers (drop (sum (seals h)) h.admissions)

-- what every history of the unit has: what Follows asks of what is sealed, and the same of what still waits; each Turn's step, and that it
-- seals few
pub record Good (chart : Chart) (u : ℕ) (h : History) : Type 0 where
  pub at_unit : list_all (is_at_unit chart u) (outers h.admissions) ≡ true
  pub items : list_all has_item (outers h.admissions) ≡ true
  pub there : (j : ℕ) → j < taken h → list_all (is_there (item_acts (part_of chart u) h j)) (sealed_by h (suc j)) ≡ true
  pub waiting : list_all (is_there (item_acts (part_of chart u) h (taken h))) (waiting_of h) ≡ true
  pub once : are_first [] (outers h.admissions) ≡ true
  pub steps : map (λ turn. turn.step) h.turns ≡ range_with_len 1 (taken h)
  pub few : list_all (λ n. nat_le n max_sealed) (seals h) ≡ true

abbrev pub unsealed : History → ℕ
unsealed h = length h.admissions - sum (seals h)

-- with this admission, and with the Turn that takes in these updates

abbrev pub admitted : History → Admission → History
admitted h a = record h { admissions = h.admissions ++ a ∷ [] }

abbrev pub turned : History → List Update → History
turned h updates = record h { turns = h.turns ++ record { step = taken h + 1; inputs = updates; sealed = min max_sealed (unsealed h) } ∷ [] }

-- an admission that the rule lets in keeps it
abbrev pub AdmitKeeps : Type 0
AdmitKeeps = (chart : Chart) (u : ℕ) (h : History) (a : Admission) → IsAccepted chart → Fits h → Good chart u h → is_ok (lets_in (part_of chart u) h a.outer) ≡ true → Good chart u (admitted h a)

-- and so does a Turn
abbrev pub TurnKeeps : Type 0
TurnKeeps = (chart : Chart) (u : ℕ) (h : History) (updates : List Update) → Fits h → Good chart u h → Good chart u (turned h updates)

-- it is all that the central law asks of a history
abbrev pub GoodFollows : Type 0
GoodFollows = (chart : Chart) (u : ℕ) (h : History) → Good chart u h → Follows chart u h
