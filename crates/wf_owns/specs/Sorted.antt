-- Of the laws. The sorts of what a part's transitions read of a view of the part.
use Rattle.std.specs.Prelude.{ℕ, ◌≡◌, ◌==◌, ◌&&◌, Bool, true, List, flat_map, find, Option, Some, Ok, slice_get}
use Rattle.std.specs.Option.{option_map, option_map_or}
use Rattle.std.specs.List.{list_all}
use Rattle.wf_model.specs.declared.ids.VarId.{VarId}
use Rattle.wf_model.specs.declared.value.Val.{Val}
use Rattle.wf_model.specs.declared.value.Sort.{Sort}
use Rattle.wf_model.specs.declared.value.Sort.TheVariants as sorts
use Rattle.wf_model.specs.declared.expr.Expr.{Expr}
use Rattle.wf_model.specs.declared.chart.Action.TheVariants.{Assign}
use Rattle.wf_model.specs.declared.chart.Chart.{Chart}
use Rattle.wf_model.specs.declared.outer.Output.{Output}
use Rattle.wf_model.specs.declared.outer.Outer.{Outer}
use Rattle.wf_parts.specs.declared.data.PartTransition.{PartTransition}
use Rattle.wf_parts.specs.declared.data.PartData.{PartData}
use Rattle.wf_model.specs.declared.update.Write.{Write}
use Rattle.wf_model.specs.declared.update.Update.{Update}
use Rattle.wf_model.specs.Seen.{val_sort, var_sorts}
use Rattle.wf_model.specs.Sorts.{sort_of, alike}
use Rattle.wf_model.specs.Accepted.{IsAccepted}
use Rattle.wf_parts.specs.Parts.{part_of}
use Rattle.wf_views.specs.Views.{View, first_view, sees, outputs_of, outputs_in}
use Rattle.wf_views.specs.OwnSteps.{own_update}
use Rattle.wf_views.specs.Absorbing.{absorbed}
use Rattle.wf_views.specs.Relevant.{cut_update}
use Rattle.wf_views.specs.Laws.{IsViewOf}
use Rattle.wf_lockstep.specs.Within.{is_at_unit}
use Rattle.wf_parts.specs.Peers.{Knowledge}

-- the sort of a variable that the part knows
abbrev pub part_sort : PartData → ℕ → Option Sort
part_sort part x = option_map (λ known. known.sort) (find (λ known. known.id.0 == x) part.vars)

-- a known variable's value is of its sort
abbrev pub is_fit_value : PartData → ℕ → Val → Bool
is_fit_value part x val = option_map_or (λ sort. alike sort (val_sort val)) (part_sort part x) true

abbrev pub is_fit_output : PartData → Output → Bool
is_fit_output part o = is_fit_value part o.var.0 o.val

abbrev pub is_fit_write : PartData → Write → Bool
is_fit_write part w = is_fit_value part w.var.0 w.val

-- an update gives no known variable a value of another sort
abbrev pub is_fit : PartData → Update → Bool
is_fit part update = list_all (is_fit_write part) update.writes && list_all (is_fit_output part) (flat_map outputs_of update.outer)

-- nor does a view have one
pub record IsSortedView (part : PartData) (view : View) : Type 0 where
  pub vars : list_all (is_fit_output part) view.vars ≡ true
  pub next : list_all (is_fit_output part) (outputs_in view.next) ≡ true

-- each guard is of sort bool, and each value that an own transition assigns is of its variable's sort
abbrev pub IsSortedPart : PartData → Type 0
IsSortedPart part =
    (i : ℕ) (trans : PartTransition) → slice_get part.transitions i ≡ Some trans →
    ((guard : Expr) → trans.guard ≡ Some guard → sort_of (part_sort part) guard ≡ Ok sorts.Bool)
    × ((k : ℕ) (x : VarId) (value : Expr) → slice_get trans.actions k ≡ Some (Assign x value) → (s : Sort) × (part_sort part x.0 ≡ Some s) × (sort_of (part_sort part) value ≡ Ok s))

abbrev pub PartIsSorted : Type 0
PartIsSorted = (chart : Chart) (u : ℕ) → IsAccepted chart → IsSortedPart (part_of chart u)

abbrev pub FirstIsSorted : Type 0
FirstIsSorted = (chart : Chart) (u : ℕ) → IsAccepted chart → IsSortedView (part_of chart u) (first_view (part_of chart u))

abbrev pub AbsorbedIsSorted : Type 0
AbsorbedIsSorted = (part : PartData) (view : View) (updates : List Update) → IsSortedView part view → list_all (is_fit part) updates ≡ true → IsSortedView part (absorbed part view updates)

-- what a step sees of a view has the part's sorts
abbrev pub SeesSorts : Type 0
SeesSorts = (part : PartData) (view : View) → IsViewOf part view → IsSortedView part view → var_sorts (sees part view).seen ≡ part_sort part

-- an own update is fit for every unit
abbrev pub OwnIsFit : Type 0
OwnIsFit =
    (chart : Chart) (u v k : ℕ) (view : View) (outers : List Outer) → IsAccepted chart → IsViewOf (part_of chart u) view → IsSortedView (part_of chart u) view → list_all (is_at_unit chart u) outers ≡ true →
    is_fit (part_of chart v) (own_update (part_of chart u) k view outers) ≡ true

-- and so is what is cut of it
abbrev pub CutIsFit : Type 0
CutIsFit = (part : PartData) (known : Knowledge) (update : Update) → is_fit part update ≡ true → is_fit part (cut_update known update) ≡ true
