-- Inner. What can be evaluated, what fires by rows, and the tables of truths by number.
use Rattle.std.specs.Prelude.{ℕ, ◌<◌, ◌^◌, ◌==◌, ◌&&◌, not, Bool, false, List, Option, length, find, unwrap_or, All, IsTrue, IfSome}
use Rattle.std.specs.Option.{option_map_or}
use Rattle.std.specs.List.{list_any}
use Rattle.wf_model.specs.declared.expr.Expr.{Expr}
use Rattle.wf_model.specs.declared.chart.Action.{Action}
use Rattle.wf_model.specs.declared.chart.Action.TheVariants.{Assign, Raise, Start}
use Rattle.wf_model.specs.Seen.{Seen, HasAll}
use Rattle.wf_parts.specs.declared.data.PartTransition.{PartTransition}
use Rattle.wf_parts.specs.Rows.{names}
use Rattle.wf_expr.specs.Ints.{has_small_ints}
use Rattle.wf_updates.specs.Tables.{entry}

-- the snapshot has all that the expression names, and a value can hold each of its integers
abbrev pub CanRead : Seen → Expr → Type 0
CanRead seen expr = IsTrue (has_small_ints expr) × HasAll seen expr

abbrev pub CanPerform : Seen → Action → Type 0
CanPerform seen (Assign x value) = CanRead seen value
CanPerform seen (Raise e) = Unit {0}
CanPerform seen (Start a) = Unit {0}

-- so the transition can be tried, and can act
pub record CanFire (seen : Seen) (trans : PartTransition) : Type 0 where
  pub guard : IfSome trans.guard (CanRead seen)
  pub few : length trans.actions < 2 ^ 8
  pub actions : All (CanPerform seen) trans.actions

-- the truth that stands at a number, false where none does
abbrev pub holds : List (Option Bool) → ℕ → Bool
holds table k = unwrap_or (entry table k) false

-- what a test says of the first transition with this number
abbrev pub says_of : (PartTransition → Bool) → List PartTransition → ℕ → Bool
says_of test transitions t = option_map_or test (find (λ trans. trans.id.0 == t) transitions) false

-- the transition passes, and none of these that passes blocks it
abbrev pub is_unblocked : List PartTransition → (PartTransition → Bool) → PartTransition → Bool
is_unblocked transitions test trans = test trans && not (list_any (λ other. test other && names trans.blockers other.id.0) transitions)
