-- What an accepted chart's expressions are, and what a snapshot of the chart has for them.
use Rattle.std.proofs.Common.{◌≡◌, ℕ, ◌<◌, ◌≤◌, true, List, length, Option, Some, None, Result, Ok, Err, slice_get, refl, sym, ap, ◌∙◌, arith, ltb-true}
use Rattle.std.specs.Prelude.{nat_lt, nat_le, is_ok, IsSome, IsOk}
use Rattle.std.specs.List.{list_all}
use Rattle.std.specs.Option.{option_map}
use Rattle.std.proofs.lemmas.Bool.{leb-true}
use Rattle.wf_model.specs.Limits.{max_nodes, max_actions}
use Rattle.wf_model.specs.declared.value.Val.{Val}
use Rattle.wf_model.specs.declared.value.Sort.{Sort}
use Rattle.wf_model.specs.declared.value.Sort.TheVariants as sorts
use Rattle.wf_model.specs.declared.expr.TypeFault.{TypeFault}
use Rattle.wf_model.specs.declared.expr.Expr.{Expr, end_of-Expr, more_of-Expr}
use Rattle.wf_model.specs.declared.expr.Expr.TheVariants as e
use Rattle.wf_model.specs.declared.ids.VarId.{VarId}
use Rattle.wf_model.specs.declared.chart.Action.{Action}
use Rattle.wf_model.specs.declared.chart.Action.TheVariants.{Assign}
use Rattle.wf_model.specs.declared.chart.Transition.{Transition}
use Rattle.wf_model.specs.declared.chart.Chart.{Chart}
use Rattle.wf_model.specs.Seen.{Seen, HasAll, option_sort, var_sorts}
use Rattle.wf_model.specs.Sorts.{sort_of, var_sort, alike}
use Rattle.wf_model.specs.Accepted.{IsAccepted, is_sorted, all_of, gives, has_sort, nodes, is_known_expr, is_small_transition, is_small_action, is_known_transition, is_known_action, is_sorted_transition, is_sorted_action}
use Rattle.wf_semantics.specs.Shown.{Shows}
use Rattle.wf_model.proofs.Bools.{and_both}
use Rattle.wf_semantics.proofs.Children.{item_at}
use Rattle.wf_semantics.proofs.Facts.{rules, parts}
use Rattle.wf_model.proofs.Items.{all_at}

-- an expression has the same sort over a snapshot of the chart as over the chart
pub typed : (chart : Chart) (seen : Seen) (x : Expr) (sort : Sort) → Shows chart seen → sort_of (var_sort chart) x ≡ Ok sort → sort_of (var_sorts seen) x ≡ Ok sort
typed chart seen x sort shows h =
    let same : var_sorts seen ≡ var_sort chart = λ i y. shows.vars y i in
    ap (λ (vars : ℕ → Option Sort). sort_of vars x) same ∙ h

some_of_sort : (o : Option Val) (sort : Sort) → option_sort o ≡ Some sort → IsSome o
some_of_sort None sort h = cc
some_of_sort (Some val) sort h = refl

has_var : (chart : Chart) (seen : Seen) → Shows chart seen → (x : ℕ) → x < length chart.vars → IsSome (seen.var x)
has_var chart seen shows x lt =
    let w = item_at chart.vars x lt in
    some_of_sort (seen.var x) w.0.sort (shows.vars x ∙ ap (option_map (λ var. var.sort)) w.1)

-- a snapshot of the chart has all that an expression names whose numbers are those of parts of the chart
pub known : (chart : Chart) (seen : Seen) (x : Expr) → Shows chart seen → is_known_expr chart x ≡ true → HasAll seen x
known chart seen (e.Bool b) shows h = tt
known chart seen (e.Int n) shows h = tt
known chart seen (e.Text t) shows h = tt
known chart seen (e.Var x) shows h = has_var chart seen shows x.0 (ltb-true x.0 (length chart.vars) h)
known chart seen (e.In s) shows h = shows.states s.0 (ltb-true s.0 (length chart.states) h)
known chart seen (e.Count a) shows h = shows.counts a.0 (ltb-true a.0 (length chart.acts) h)
known chart seen (e.Done a) shows h = shows.dones a.0 (ltb-true a.0 (length chart.acts) h)
known chart seen (e.Not' p (more_of-Expr x end_of-Expr)) shows h = known chart seen x shows h
known chart seen (e.Neg' p (more_of-Expr x end_of-Expr)) shows h = known chart seen x shows h
known chart seen (e.Bin' op p (more_of-Expr x end_of-Expr) q (more_of-Expr y end_of-Expr)) shows h =
    let both = and_both (is_known_expr chart x) (is_known_expr chart y) h in
    (known chart seen x shows both.0, known chart seen y shows both.1)

-- an expression of the chart, of this sort
pub record IsExprOf (chart : Chart) (x : Expr) (sort : Sort) : Type 0 where
  pub small : nodes x ≤ max_nodes
  pub sorted : sort_of (var_sort chart) x ≡ Ok sort
  pub known : is_known_expr chart x ≡ true

-- so a snapshot of the chart has all that its value is read from
pub can_read : (chart : Chart) (seen : Seen) (x : Expr) (sort : Sort) → Shows chart seen → IsExprOf chart x sort → IsOk (sort_of (var_sorts seen) x) × HasAll seen x
can_read chart seen x sort shows of = (ap is_ok (typed chart seen x sort shows of.sorted), known chart seen x shows of.known)

alike_is : (a b : Sort) → alike a b ≡ true → b ≡ a
alike_is sorts.Bool sorts.Bool h = refl
alike_is sorts.Bool sorts.Int h = cc
alike_is sorts.Bool sorts.Text h = cc
alike_is sorts.Int sorts.Bool h = cc
alike_is sorts.Int sorts.Int h = refl
alike_is sorts.Int sorts.Text h = cc
alike_is sorts.Text sorts.Bool h = cc
alike_is sorts.Text sorts.Int h = cc
alike_is sorts.Text sorts.Text h = refl

gives_is : (sort : Sort) (r : Result Sort TypeFault) → gives sort r ≡ true → r ≡ Ok sort
gives_is sort (Ok other) h = ap Ok (alike_is sort other h)
gives_is sort (Err fault) h = cc

sorted_all : (chart : Chart) → is_sorted chart ≡ true → list_all (is_sorted_transition chart) chart.transitions ≡ true
unfolding is_sorted
sorted_all chart h = grind arith

sorted_at : (chart : Chart) (t : ℕ) (trans : Transition) → IsAccepted chart → slice_get chart.transitions t ≡ Some trans → is_sorted_transition chart trans ≡ true
sorted_at chart t trans ok e =
    all_at (is_sorted_transition chart) chart.transitions (sorted_all chart (rules chart ok).sorted) t trans e

-- what the guard of a transition is, where the chart is accepted
pub guard_of : (chart : Chart) (t : ℕ) (trans : Transition) (guard : Expr) → IsAccepted chart → slice_get chart.transitions t ≡ Some trans → trans.guard ≡ Some guard → IsExprOf chart guard sorts.Bool
guard_of chart t trans guard ok e q =
    let p = parts chart ok in
    let small = all_at is_small_transition chart.transitions p.small_transitions t trans e in
    let named = all_at (is_known_transition chart) chart.transitions p.known_transitions t trans e in
    let sorted = sorted_at chart t trans ok e in
    let few : all_of (λ (x : Expr). nat_le (nodes x) max_nodes) trans.guard ≡ true = grind arith in
    let found : all_of (is_known_expr chart) trans.guard ≡ true = grind arith in
    let fits : all_of (λ (x : Expr). has_sort chart x sorts.Bool) trans.guard ≡ true = grind arith in
    record {
      small = leb-true (nodes guard) max_nodes (ap (all_of (λ (x : Expr). nat_le (nodes x) max_nodes)) (sym q) ∙ few);
      sorted = gives_is sorts.Bool (sort_of (var_sort chart) guard) (ap (all_of (λ (x : Expr). has_sort chart x sorts.Bool)) (sym q) ∙ fits);
      known = ap (all_of (is_known_expr chart)) (sym q) ∙ found;
    }

-- actions of the chart
pub record AreActionsOf (chart : Chart) (acts : List Action) : Type 0 where
  pub few : length acts ≤ max_actions
  pub small : list_all is_small_action acts ≡ true
  pub known : list_all (is_known_action chart) acts ≡ true
  pub sorted : list_all (is_sorted_action chart) acts ≡ true

-- what the actions of a transition are, where the chart is accepted
pub actions_are : (chart : Chart) (t : ℕ) (trans : Transition) → IsAccepted chart → slice_get chart.transitions t ≡ Some trans → AreActionsOf chart trans.actions
actions_are chart t trans ok e =
    let p = parts chart ok in
    let small = all_at is_small_transition chart.transitions p.small_transitions t trans e in
    let named = all_at (is_known_transition chart) chart.transitions p.known_transitions t trans e in
    let sorted = sorted_at chart t trans ok e in
    record {
      few = leb-true (length trans.actions) max_actions (grind arith);
      small = grind arith;
      known = grind arith;
      sorted = grind arith;
    }

-- an assignment among them: its variable is one of the chart, and its value has the variable's sort
pub value_of_action : (chart : Chart) (acts : List Action) (i : ℕ) (x : VarId) (value : Expr) → AreActionsOf chart acts → slice_get acts i ≡ Some (Assign x value) → (x.0 < length chart.vars) × (sort : Sort) × (var_sort chart x.0 ≡ Some sort) × IsExprOf chart value sort
value_of_action chart acts i x value are e =
    let small = all_at is_small_action acts are.small i (Assign x value) e in
    let named = and_both (nat_lt x.0 (length chart.vars)) (is_known_expr chart value) (all_at (is_known_action chart) acts are.known i (Assign x value) e) in
    let lt = ltb-true x.0 (length chart.vars) named.0 in
    let w = item_at chart.vars x.0 lt in
    let is : var_sort chart x.0 ≡ Some w.0.sort = ap (option_map (λ var. var.sort)) w.1 in
    let fits = ap (all_of (has_sort chart value)) (sym is) ∙ all_at (is_sorted_action chart) acts are.sorted i (Assign x value) e in
    (lt, w.0.sort, is, record { small = leb-true (nodes value) max_nodes small; sorted = gives_is w.0.sort (sort_of (var_sort chart) value) fits; known = named.1 })
