-- Of the laws. The admission rule by a unit's part and its own history.
use Rattle.std.specs.Prelude.{ℕ, ◌==◌, ◌&&◌, not, Bool, true, false, List, [], ◌∷◌, map, find, Result, Ok, Err, if◌then◌else◌}
use Rattle.std.specs.Option.{option_map_or}
use Rattle.std.specs.List.{list_any}
use Rattle.wf_model.specs.declared.ids.ActId.{ActId}
use Rattle.wf_model.specs.declared.outer.Output.{Output}
use Rattle.wf_model.specs.declared.outer.Outer.{Outer}
use Rattle.wf_model.specs.declared.outer.Outer.TheVariants.{Happen, Complete}
use Rattle.wf_model.specs.declared.outer.OuterFault.{OuterFault}
use Rattle.wf_model.specs.declared.outer.OuterFault.TheVariants.{WrongUnit, NoItem, AlreadyDone, WrongOutput}
use Rattle.wf_model.specs.declared.ids.VarId.{VarId}
use Rattle.wf_model.specs.declared.value.Sort.{Sort}
use Rattle.wf_parts.specs.declared.data.PartData.{PartData}
use Rattle.wf_model.specs.Seen.{val_sort}
use Rattle.wf_model.specs.Sorts.{alike}
use Rattle.wf_semantics.specs.Admission.{completes}
use Rattle.wf_histories.specs.Histories.{Admission, History, taken}
use Rattle.wf_histories.specs.Follows.{is_own_act, item_acts, is_item}

-- event e is at the part's unit
abbrev pub is_own_event : PartData → ℕ → Bool
is_own_event part e = list_any (λ known. (known.id.0 == e) && option_map_or (λ unit. unit.0 == part.unit.0) known.unit false) part.events

-- one value of its sort for each of these outputs, in order
abbrev pub are_own_values : List (VarId × Sort) → List Output → Bool
are_own_values [] [] = true
are_own_values [] (o ∷ os) = false
are_own_values (x ∷ xs) [] = false
are_own_values (x ∷ xs) (o ∷ os) = (o.var.0 == x.0.0) && (alike x.1 (val_sort o.val) && are_own_values xs os)

abbrev pub are_own_outputs : PartData → ℕ → List Output → Bool
are_own_outputs part a outputs = option_map_or (λ known. are_own_values known.outputs outputs) (find (λ known. known.id.0 == a) part.acts) false

-- the first refusal that applies, where the unit's items are of these activities and these outers were admitted before
unfoldable pub may_admit : PartData → List ActId → List Outer → Outer → Result (Unit {0}) OuterFault
may_admit part acts before (Happen e) = if is_own_event part e.0 then Ok tt else Err WrongUnit
may_admit part acts before (Complete n a outputs) =
    if not (is_own_act part a.0) then Err WrongUnit
    else if not (is_item acts n a.0) then Err NoItem
    else if list_any (completes n) before then Err AlreadyDone
    else if not (are_own_outputs part a.0 outputs) then Err WrongOutput
    else Ok tt

-- what the admissions hold
abbrev pub outers : List Admission → List Outer
outers xs = map (λ a. a.outer) xs

-- after the unit's taken steps, with all its admissions
abbrev pub lets_in : PartData → History → Outer → Result (Unit {0}) OuterFault
lets_in part h o = may_admit part (item_acts part h (taken h)) (outers h.admissions) o
