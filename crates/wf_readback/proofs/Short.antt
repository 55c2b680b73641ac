-- The literals of an accepted chart can be read.
use Rattle.std.proofs.Common.{◌≡◌, ℕ, ◌^◌, ◌&&◌, true, nat_lt, nat_le, List, [], ◌∷◌, length, Option, Some, None, Result, Ok, Err, refl, ap, arith, inl, inr, cond}
use Rattle.std.specs.List.{list_all}
use Rattle.std.specs.Option.{option_map}
use Rattle.std.proofs.lemmas.Bool.{cases_Bool}
use Rattle.std.proofs.lemmas.Bool.Decides.{nat_tests}
use Rattle.wf_model.specs.declared.ids.VarId.{VarId}
use Rattle.wf_model.specs.declared.value.Sort.{Sort}
use Rattle.wf_model.specs.declared.value.Sort.TheVariants as sorts
use Rattle.wf_model.specs.declared.expr.TypeFault.{TypeFault}
use Rattle.wf_model.specs.declared.expr.TypeFault.TheVariants.{Mismatch}
use Rattle.wf_model.specs.declared.expr.Expr.{Expr, end_of-Expr, more_of-Expr}
use Rattle.wf_model.specs.declared.expr.Expr.TheVariants as e
use Rattle.wf_model.specs.declared.chart.Action.{Action}
use Rattle.wf_model.specs.declared.chart.Action.TheVariants as act
use Rattle.wf_model.specs.declared.chart.Transition.{Transition}
use Rattle.wf_model.specs.declared.chart.Chart.{Chart}
use Rattle.wf_model.specs.Steps.{◌>>=◌, both}
use Rattle.wf_model.specs.Sorts.{sort_of, var_sort, op_sort, takes}
use Rattle.wf_model.specs.Seen.{val_sort}
use Rattle.wf_model.specs.Sorts.{alike}
use Rattle.wf_model.specs.Accepted.{IsAccepted, is_accepted, is_sorted, is_sorted_transition, is_sorted_action, has_sort, gives, all_of, is_known_expr, is_known_action, is_known_transition}
use Rattle.wf_model.proofs.Bools.{and_both, and_true}
use Rattle.wf_semantics.proofs.Children.{item_at}
use Rattle.wf_model.specs.Limits.{max_int}
use Rattle.wf_readback.proofs.ExprSpans.{has_short_literals}
use Rattle.wf_readback.specs.Held.{is_short_value}
use Rattle.wf_readback.proofs.ChartSpans.{is_short_action, is_short_transition, is_short}
use Rattle.wf_readback.proofs.ChartNames.{below}
use Rattle.wf_readback.proofs.Known.{known}
use Rattle.wf_readback.specs.Held.{has_short_texts, is_held_action, is_held_transition, is_held}

record HasSort (r : Result Sort TypeFault) : Type 0 where
  sort : Sort
  is : r ≡ Ok sort

of_gives : (s : Sort) (r : Result Sort TypeFault) → gives s r ≡ true → HasSort r
of_gives s (Ok t) h = record { sort = t; is = refl }
of_gives s (Err f) h = cc

of_step : (r : Result Sort TypeFault) (f : Sort → Result Sort TypeFault) → HasSort (r >>= f) → HasSort r
of_step (Ok t) f h = record { sort = t; is = refl }
of_step (Err d) f h = let is = h.is in cc

record HaveSorts (a b : Result Sort TypeFault) : Type 0 where
  left : HasSort a
  right : HasSort b

of_both : (f : Sort → Sort → Result Sort TypeFault) (a b : Result Sort TypeFault) → HasSort (both f a b) → HaveSorts a b
of_both f (Ok s) (Ok t) h = record { left = record { sort = s; is = refl }; right = record { sort = t; is = refl } }
of_both f (Ok s) (Err d) h = let is = h.is in cc
of_both f (Err d) b h = let is = h.is in cc

int_sort : (n : ℕ) → HasSort (cond (nat_lt n (2 ^ 63)) (Ok sorts.Int) (Err Mismatch)) → nat_le n max_int ≡ true
int_sort n h =
    elim (cases_Bool (nat_lt n (2 ^ 63))) [
      | inl small ↦ grind (arith, nat_tests)
      | inr large ↦ let is = rw large at h.is in cc
    ]

-- an Int that has a sort isn't too great
literals_short : (vars : ℕ → Option Sort) (x : Expr) → HasSort (sort_of vars x) → has_short_texts x ≡ true → has_short_literals x ≡ true
literals_short vars (e.Bool b) s h = refl
literals_short vars (e.Int n) s h = int_sort n s
literals_short vars (e.Text t) s h = h
literals_short vars (e.Var x) s h = refl
literals_short vars (e.In i) s h = refl
literals_short vars (e.Count a) s h = refl
literals_short vars (e.Done a) s h = refl
literals_short vars (e.Not' p (more_of-Expr x end_of-Expr)) s h = literals_short vars x (of_step (sort_of vars x) (takes sorts.Bool sorts.Bool) s) h
literals_short vars (e.Neg' p (more_of-Expr x end_of-Expr)) s h = literals_short vars x (of_step (sort_of vars x) (takes sorts.Int sorts.Int) s) h
literals_short vars (e.Bin' op p (more_of-Expr x end_of-Expr) q (more_of-Expr y end_of-Expr)) s h =
    let sides = of_both (op_sort op) (sort_of vars x) (sort_of vars y) s in
    let texts = and_both (has_short_texts x) (has_short_texts y) h in
    and_true (has_short_literals x) (has_short_literals y) (literals_short vars x sides.left texts.0) (literals_short vars y sides.right texts.1)

sorted_of : (chart : Chart) → IsAccepted chart → is_sorted chart ≡ true
unfolding is_accepted
sorted_of chart ok = grind arith

sorted_transitions : (chart : Chart) → is_sorted chart ≡ true → list_all (is_sorted_transition chart) chart.transitions ≡ true
unfolding is_sorted
sorted_transitions chart h = (and_both (list_all (λ x. alike (val_sort x.first) x.sort) chart.vars) (list_all (is_sorted_transition chart) chart.transitions) h).1

module _ (chart : Chart) where
  value_sort : (x : VarId) (value : Expr) (sort : Option Sort) → var_sort chart x.0 ≡ sort → nat_lt x.0 (length chart.vars) ≡ true → all_of (has_sort chart value) sort ≡ true → HasSort (sort_of (var_sort chart) value)
  value_sort x value (Some s) is here h = of_gives s (sort_of (var_sort chart) value) h
  value_sort x value None is here h =
      let v = item_at chart.vars x.0 (below x.0 (length chart.vars) here) in
      let some : var_sort chart x.0 ≡ Some v.0.sort = ap (option_map (λ var. var.sort)) v.1 in
      cc

  action_short : (x : Action) → is_known_action chart x ≡ true → is_sorted_action chart x ≡ true → is_held_action x ≡ true → is_short_action x ≡ true
  action_short (act.Assign x value) knows sorted held =
      let p = and_both (nat_lt x.0 (length chart.vars)) (is_known_expr chart value) knows in
      literals_short (var_sort chart) value (value_sort x value (var_sort chart x.0) refl p.0 sorted) held
  action_short (act.Raise event) knows sorted held = refl
  action_short (act.Start a) knows sorted held = refl

  actions_short : (xs : List Action) → list_all (is_known_action chart) xs ≡ true → list_all (is_sorted_action chart) xs ≡ true → list_all is_held_action xs ≡ true → list_all is_short_action xs ≡ true
  actions_short [] knows sorted held = refl
  actions_short (x ∷ xs) knows sorted held =
      let a = and_both (is_known_action chart x) (list_all (is_known_action chart) xs) knows in
      let b = and_both (is_sorted_action chart x) (list_all (is_sorted_action chart) xs) sorted in
      let c = and_both (is_held_action x) (list_all is_held_action xs) held in
      and_true (is_short_action x) (list_all is_short_action xs) (action_short x a.0 b.0 c.0) (actions_short xs a.1 b.1 c.1)

  guard_short : (guard : Option Expr) → all_of (λ x. has_sort chart x sorts.Bool) guard ≡ true → all_of has_short_texts guard ≡ true → all_of has_short_literals guard ≡ true
  guard_short None sorted held = refl
  guard_short (Some x) sorted held = literals_short (var_sort chart) x (of_gives sorts.Bool (sort_of (var_sort chart) x) sorted) held

  transition_short : (t : Transition) → is_known_transition chart t ≡ true → is_sorted_transition chart t ≡ true → is_held_transition t ≡ true → is_short_transition t ≡ true
  transition_short t knows sorted held =
      let front = nat_lt t.source.0 (length chart.states) && nat_lt t.target.0 (length chart.states) && all_of (λ event. nat_lt event.0 (length chart.events)) t.event && all_of (is_known_expr chart) t.guard in
      let a = and_both front (list_all (is_known_action chart) t.actions) knows in
      let b = and_both (all_of (λ x. has_sort chart x sorts.Bool) t.guard) (list_all (is_sorted_action chart) t.actions) sorted in
      let c = and_both (all_of has_short_texts t.guard) (list_all is_held_action t.actions) held in
      and_true (all_of has_short_literals t.guard) (list_all is_short_action t.actions) (guard_short t.guard b.0 c.0) (actions_short t.actions a.1 b.1 c.1)

  transitions_short : (ts : List Transition) → list_all (is_known_transition chart) ts ≡ true → list_all (is_sorted_transition chart) ts ≡ true → list_all is_held_transition ts ≡ true → list_all is_short_transition ts ≡ true
  transitions_short [] knows sorted held = refl
  transitions_short (t ∷ ts) knows sorted held =
      let a = and_both (is_known_transition chart t) (list_all (is_known_transition chart) ts) knows in
      let b = and_both (is_sorted_transition chart t) (list_all (is_sorted_transition chart) ts) sorted in
      let c = and_both (is_held_transition t) (list_all is_held_transition ts) held in
      and_true (is_short_transition t) (list_all is_short_transition ts) (transition_short t a.0 b.0 c.0) (transitions_short ts a.1 b.1 c.1)

pub short_of : (chart : Chart) → IsAccepted chart → is_held chart ≡ true → is_short chart ≡ true
unfolding is_held is_short
short_of chart ok held =
    let h = and_both (list_all (λ x. is_short_value x.first) chart.vars) (list_all is_held_transition chart.transitions) held in
    and_true (list_all (λ x. is_short_value x.first) chart.vars) (list_all is_short_transition chart.transitions) h.0
    (transitions_short chart chart.transitions (known chart ok).transitions (sorted_transitions chart (sorted_of chart ok)) h.1)
