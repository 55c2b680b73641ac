-- The admission rule: which outers a unit may admit.
use Rattle.std.specs.Prelude.{ℕ, ◌==◌, ◌&&◌, ◌||◌, ◌++◌, not, Bool, true, false, List, [], ◌∷◌, Option, Some, None, Result, Ok, Err, is_ok, slice_get, if◌then◌else◌}
use Rattle.std.specs.Option.{option_map_or}
use Rattle.std.specs.List.{list_any}
use Rattle.wf_model.specs.declared.ids.VarId.{VarId}
use Rattle.wf_model.specs.declared.chart.Chart.{Chart}
use Rattle.wf_model.specs.declared.outer.Output.{Output}
use Rattle.wf_model.specs.declared.outer.Outer.{Outer}
use Rattle.wf_model.specs.declared.outer.Outer.TheVariants.{Happen, Complete}
use Rattle.wf_model.specs.declared.outer.Entry.{Entry}
use Rattle.wf_model.specs.declared.outer.OuterFault.{OuterFault}
use Rattle.wf_model.specs.declared.outer.OuterFault.TheVariants.{WrongUnit, NoItem, AlreadyDone, WrongOutput}
use Rattle.wf_model.specs.Seen.{val_sort}
use Rattle.wf_model.specs.Sorts.{var_sort, alike}
use Rattle.wf_semantics.specs.Items.{Item, item_at}
use Rattle.wf_semantics.specs.Run.{act_unit}

-- event e is at unit u
abbrev pub is_event_at : Chart → ℕ → ℕ → Bool
is_event_at chart u e =
    option_map_or (λ event. option_map_or (λ unit. unit.0 == u) event.unit false) (slice_get chart.events e) false

-- activity a is at unit u
abbrev pub is_act_at : Chart → ℕ → ℕ → Bool
is_act_at chart u a = option_map_or (λ unit. unit == u) (act_unit chart a) false

abbrev pub is_of : ℕ → Option Item → Bool
is_of a None = false
is_of a (Some item) = item.act.0 == a

abbrev pub is_closed : Option Item → Bool
is_closed None = false
is_closed (Some item) = item.closed

abbrev pub completes : ℕ → Outer → Bool
completes n (Happen e) = false
completes n (Complete item a outputs) = item == n

-- one of these entries completes unit u's item n
abbrev pub is_pending : List Entry → ℕ → ℕ → Bool
is_pending pending u n = list_any (λ x. (x.unit.0 == u) && completes n x.outer) pending

-- one value of the right sort for each of these variables, in order
abbrev pub are_values : Chart → List VarId → List Output → Bool
are_values chart [] [] = true
are_values chart [] (o ∷ os) = false
are_values chart (x ∷ xs) [] = false
are_values chart (x ∷ xs) (o ∷ os) =
    (o.var.0 == x.0) && (option_map_or (λ sort. alike sort (val_sort o.val)) (var_sort chart x.0) false && are_values chart xs os)

abbrev pub are_outputs_of : Chart → ℕ → List Output → Bool
are_outputs_of chart a outputs = option_map_or (λ act. are_values chart act.outputs outputs) (slice_get chart.acts a) false

-- the first refusal that applies, where these entries are pending
unfoldable pub may_be_admitted : Chart → (ℕ → List Item) → List Entry → ℕ → Outer → Result (Unit {0}) OuterFault
may_be_admitted chart items pending u (Happen e) = if is_event_at chart u e.0 then Ok tt else Err WrongUnit
may_be_admitted chart items pending u (Complete n a outputs) =
    if not (is_act_at chart u a.0) then Err WrongUnit
    else if not (is_of a.0 (item_at (items u) n)) then Err NoItem
    else if is_closed (item_at (items u) n) || is_pending pending u n then Err AlreadyDone
    else if not (are_outputs_of chart a.0 outputs) then Err WrongOutput
    else Ok tt

-- each of these entries may be admitted, where those before it are pending and so are the given ones
abbrev pub may_come_after : Chart → (ℕ → List Item) → List Entry → List Entry → Bool
may_come_after chart items pending [] = true
may_come_after chart items pending (x ∷ xs) = is_ok (may_be_admitted chart items pending x.unit.0 x.outer) && may_come_after chart items (pending ++ x ∷ []) xs

-- the entries may come in the next step
abbrev pub may_come : Chart → (ℕ → List Item) → List Entry → Bool
may_come chart items entries = may_come_after chart items [] entries
