-- Inner. Which completions of a unit's items are refused.
use Rattle.std.specs.Prelude.{ℕ, ◌==◌, ◌&&◌, not, Bool, true, false, List, [], ◌∷◌, Result, Ok, Err, if◌then◌else◌}
use Rattle.wf_model.specs.declared.ids.ActId.{ActId}
use Rattle.wf_model.specs.declared.ids.VarId.{VarId}
use Rattle.wf_model.specs.declared.value.Sort.{Sort}
use Rattle.wf_model.specs.declared.outer.Entry.{Entry}
use Rattle.wf_model.specs.declared.outer.Outer.{Outer}
use Rattle.wf_model.specs.declared.outer.Outer.TheVariants.{Happen, Complete}
use Rattle.wf_model.specs.declared.outer.Output.{Output}
use Rattle.wf_model.specs.declared.outer.OuterFault.{OuterFault}
use Rattle.wf_model.specs.declared.outer.OuterFault.TheVariants.{NoItem, AlreadyDone, WrongOutput}
use Rattle.wf_model.specs.Seen.{val_sort}
use Rattle.wf_model.specs.Sorts.{alike}
use Rattle.wf_semantics.specs.Items.{Item, item_at}
use Rattle.wf_semantics.specs.Admission.{is_of, is_closed, is_pending}

-- a value of the wanted variable, of its sort
abbrev pub is_wanted : VarId × Sort → Output → Bool
is_wanted w o = (o.var.0 == w.0.0) && alike w.1 (val_sort o.val)

-- one such value for each wanted variable, in order
abbrev pub are_wanted : List (VarId × Sort) → List Output → Bool
are_wanted [] [] = true
are_wanted [] (o ∷ os) = false
are_wanted (w ∷ ws) [] = false
are_wanted (w ∷ ws) (o ∷ os) = is_wanted w o && are_wanted ws os

-- the first refusal that applies, where the activity gives the wanted variables
unfoldable pub may_complete : List Item → ℕ → ActId → List Output → List (VarId × Sort) → Result (Unit {0}) OuterFault
may_complete items n a outputs wanted =
    if not (is_of a.0 (item_at items n)) then Err NoItem
    else if is_closed (item_at items n) then Err AlreadyDone
    else if not (are_wanted wanted outputs) then Err WrongOutput
    else Ok tt

-- one of these entries completes the item that an outer at unit u completes
abbrev pub completes_again : List Entry → ℕ → Outer → Bool
completes_again entries u (Happen e) = false
completes_again entries u (Complete n a outputs) = is_pending entries u n

-- an item that is pending counts as closed
abbrev pub unless_pending : Result (Unit {0}) OuterFault → Bool → Result (Unit {0}) OuterFault
unless_pending (Err NoItem) pending = Err NoItem
unless_pending answer pending = if pending then Err AlreadyDone else answer
