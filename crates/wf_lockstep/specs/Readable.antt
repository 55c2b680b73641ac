-- Of the laws. What a part's transitions read of a view of the part is there.
use Rattle.std.specs.Prelude.{ℕ, ◌≡◌, Some, slice_get}
use Rattle.wf_model.specs.declared.ids.VarId.{VarId}
use Rattle.wf_model.specs.declared.expr.Expr.{Expr}
use Rattle.wf_model.specs.declared.chart.Action.TheVariants.{Assign}
use Rattle.wf_model.specs.declared.chart.Chart.{Chart}
use Rattle.wf_parts.specs.declared.data.PartTransition.{PartTransition}
use Rattle.wf_model.specs.Accepted.{IsAccepted}
use Rattle.wf_model.specs.Seen.{HasAll}
use Rattle.wf_parts.specs.Parts.{part_of}
use Rattle.wf_views.specs.Views.{View, sees}
use Rattle.wf_views.specs.Laws.{IsViewOf}

-- the guard of each of the part's transitions, and each value that an own one assigns
abbrev pub PartReads : Type 0
PartReads =
    (chart : Chart) (u : ℕ) (view : View) (i : ℕ) (trans : PartTransition) → IsAccepted chart → IsViewOf (part_of chart u) view → slice_get (part_of chart u).transitions i ≡ Some trans →
    ((guard : Expr) → trans.guard ≡ Some guard → HasAll (sees (part_of chart u) view).seen guard)
    × ((k : ℕ) (x : VarId) (value : Expr) → slice_get trans.actions k ≡ Some (Assign x value) → HasAll (sees (part_of chart u) view).seen value)
