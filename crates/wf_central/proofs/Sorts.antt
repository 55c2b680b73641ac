-- Stores that have the sorts of the chart's variables.
use Rattle.std.proofs.Common.{◌≡◌, ℕ, zero, suc, ◌<◌, ◌==◌, ◌&&◌, ◌||◌, not, cond, Bool, true, false, List, [], ◌∷◌, ◌++◌, length, map, set, Option, Some, None, Result, Ok, Err, is_ok, refl, sym, ◌∙◌, ap, ap₂, arith, eqb-true, true≢false, slice_get}
use Rattle.std.specs.List.{list_all}
use Rattle.std.specs.Option.{option_map, option_map_or}
use Rattle.wf_model.specs.declared.ids.VarId.{VarId}
use Rattle.wf_model.specs.declared.value.Val.{Val}
use Rattle.wf_model.specs.declared.value.Sort.{Sort}
use Rattle.wf_model.specs.declared.value.Sort.TheVariants as s
use Rattle.wf_model.specs.declared.chart.Variable.{Variable}
use Rattle.wf_model.specs.declared.chart.Activity.{Activity}
use Rattle.wf_model.specs.declared.chart.Chart.{Chart}
use Rattle.wf_model.specs.declared.ids.ActId.{ActId}
use Rattle.wf_model.specs.declared.outer.Output.{Output}
use Rattle.wf_model.specs.declared.outer.Outer.{Outer}
use Rattle.wf_model.specs.declared.outer.Outer.TheVariants.{Happen, Complete}
use Rattle.wf_model.specs.declared.outer.OuterFault.{OuterFault}
use Rattle.wf_model.specs.declared.outer.OuterFault.TheVariants.{WrongUnit, NoItem, AlreadyDone, WrongOutput}
use Rattle.wf_model.specs.declared.outer.Entry.{Entry}
use Rattle.wf_model.specs.Accepted.{IsAccepted, is_sorted, is_sorted_transition}
use Rattle.wf_model.specs.Seen.{val_sort, option_sort}
use Rattle.wf_model.specs.Sorts.{var_sort, alike}
use Rattle.wf_semantics.specs.Items.{item_at}
use Rattle.std.proofs.lemmas.List.{length-map}
use Rattle.wf_semantics.proofs.Children.{item_at as item_of}
use Rattle.wf_semantics.specs.Effects.{after_outputs, after_outer, after_entries}
use Rattle.wf_semantics.specs.Run.{CentralState}
use Rattle.wf_semantics.specs.Admission.{may_be_admitted, may_come_after, is_act_at, is_of, is_closed, is_pending, are_values, are_outputs_of}
use Rattle.wf_semantics.specs.Shown.{HasSorts}
use Rattle.wf_model.proofs.Bools.{and_both}
use Rattle.wf_semantics.proofs.Facts.{rules}

alike_same : (a b : Sort) → alike a b ≡ true → a ≡ b
alike_same s.Bool s.Bool h = refl
alike_same s.Int s.Int h = refl
alike_same s.Text s.Text h = refl
alike_same s.Bool s.Int h = absurd (true≢false (sym h))
alike_same s.Bool s.Text h = absurd (true≢false (sym h))
alike_same s.Int s.Bool h = absurd (true≢false (sym h))
alike_same s.Int s.Text h = absurd (true≢false (sym h))
alike_same s.Text s.Bool h = absurd (true≢false (sym h))
alike_same s.Text s.Int h = absurd (true≢false (sym h))

-- a value of the right sort keeps the sorts
sorted_set : (store : List Val) (vars : List Variable) (i : ℕ) (v : Val) → map val_sort store ≡ map (λ x. x.sort) vars → option_map (λ x. x.sort) (slice_get vars i) ≡ Some (val_sort v)
    → map val_sort (set store i v) ≡ map (λ x. x.sort) vars
sorted_set [] vars i v e k = e
sorted_set (y ∷ ys) [] i v e k = cc
sorted_set (y ∷ ys) (x ∷ xs) zero v e k =
    let all : val_sort y ∷ map val_sort ys ≡ x.sort ∷ map (λ (z : Variable). z.sort) xs = e in
    let here : Some x.sort ≡ Some (val_sort v) = k in
    let head : val_sort v ≡ x.sort = cc in
    let tail : map val_sort ys ≡ map (λ (z : Variable). z.sort) xs = cc in
    ap₂ (λ (a : Sort) (l : List Sort). a ∷ l) head tail
sorted_set (y ∷ ys) (x ∷ xs) (suc i) v e k =
    let all : val_sort y ∷ map val_sort ys ≡ x.sort ∷ map (λ (z : Variable). z.sort) xs = e in
    let head : val_sort y ≡ x.sort = cc in
    let tail : map val_sort ys ≡ map (λ (z : Variable). z.sort) xs = cc in
    ap₂ (λ (a : Sort) (l : List Sort). a ∷ l) head (sorted_set ys xs i v tail k)

-- wanted outputs keep the sorts
sorted_outputs : (chart : Chart) (xs : List VarId) (os : List Output) (store : List Val) → are_values chart xs os ≡ true → HasSorts chart store → HasSorts chart (after_outputs os store)
sorted_outputs chart xs [] store h sorts = sorts
sorted_outputs chart [] (o ∷ os) store h sorts = absurd (true≢false (sym h))
sorted_outputs chart (x ∷ xs) (o ∷ os) store h sorts =
    let outer = and_both (o.var.0 == x.0) (option_map_or (λ (sort : Sort). alike sort (val_sort o.val)) (var_sort chart x.0) false && are_values chart xs os) h in
    let inner = and_both (option_map_or (λ (sort : Sort). alike sort (val_sort o.val)) (var_sort chart x.0) false) (are_values chart xs os) outer.1 in
    sorted_outputs chart xs os (set store o.var.0 o.val) inner.1
    (sorted_set store chart.vars o.var.0 o.val sorts (ap (var_sort chart) (eqb-true o.var.0 x.0 outer.0) ∙ of_sort (var_sort chart x.0) inner.0))
  where
    of_sort : (w : Option Sort) → option_map_or (λ sort. alike sort (val_sort o.val)) w false ≡ true → w ≡ Some (val_sort o.val)
    of_sort None k = absurd (true≢false (sym k))
    of_sort (Some sort) k = ap Some (alike_same sort (val_sort o.val) k)

abbrev answer : Bool → Bool → Bool → Bool → Result (Unit {0}) OuterFault
answer here of shut wanted = cond (not here) (Err WrongUnit) (cond (not of) (Err NoItem) (cond shut (Err AlreadyDone) (cond (not wanted) (Err WrongOutput) (Ok tt))))

-- what is admitted gives the wanted outputs
admitted_outputs : (chart : Chart) (c : CentralState) (pending : List Entry) (u n : ℕ) (a : ActId) (os : List Output) → is_ok (may_be_admitted chart c.items pending u (Complete n a os)) ≡ true → are_outputs_of chart a.0 os ≡ true
unfolding may_be_admitted
admitted_outputs chart c pending u n a os h =
    go (is_act_at chart u a.0) (is_of a.0 (item_at (c.items u) n)) (is_closed (item_at (c.items u) n) || is_pending pending u n) (are_outputs_of chart a.0 os) h
  where
    go : (here of shut wanted : Bool) → is_ok (answer here of shut wanted) ≡ true → wanted ≡ true
    go here of shut true q = refl
    go true true false false q = absurd (true≢false (sym q))
    go true true true false q = absurd (true≢false (sym q))
    go true false shut false q = absurd (true≢false (sym q))
    go false of shut false q = absurd (true≢false (sym q))

sorted_outer : (chart : Chart) (c : CentralState) (pending : List Entry) (u : ℕ) (o : Outer) (store : List Val) → is_ok (may_be_admitted chart c.items pending u o) ≡ true → HasSorts chart store → HasSorts chart (after_outer o store)
sorted_outer chart c pending u (Happen e) store h sorts = sorts
sorted_outer chart c pending u (Complete n a os) store h sorts = go (slice_get chart.acts a.0) (admitted_outputs chart c pending u n a os h)
  where
    go : (w : Option Activity) → option_map_or (λ act. are_values chart act.outputs os) w false ≡ true → HasSorts chart (after_outputs os store)
    go None k = absurd (true≢false (sym k))
    go (Some act) k = sorted_outputs chart act.outputs os store k sorts

-- entries that may come keep the sorts
pub sorted_after : (chart : Chart) (c : CentralState) (pending entries : List Entry) (store : List Val) → may_come_after chart c.items pending entries ≡ true → HasSorts chart store → HasSorts chart (after_entries entries store)
sorted_after chart c pending [] store h sorts = sorts
sorted_after chart c pending (x ∷ xs) store h sorts =
    let both = and_both (is_ok (may_be_admitted chart c.items pending x.unit.0 x.outer)) (may_come_after chart c.items (pending ++ x ∷ []) xs) h in
    sorted_after chart c (pending ++ x ∷ []) xs (after_outer x.outer store) both.1 (sorted_outer chart c pending x.unit.0 x.outer store both.0 sorts)

-- first values have the sorts
pub first_sorts : (chart : Chart) → IsAccepted chart → HasSorts chart (map (λ x. x.first) chart.vars)
unfolding is_sorted
first_sorts chart ok = go chart.vars (and_both (list_all (λ (x : Variable). alike (val_sort x.first) x.sort) chart.vars) (list_all (is_sorted_transition chart) chart.transitions) (rules chart ok).sorted).0
  where
    go : (vars : List Variable) → list_all (λ x. alike (val_sort x.first) x.sort) vars ≡ true → map val_sort (map (λ x. x.first) vars) ≡ map (λ x. x.sort) vars
    go [] h = refl
    go (x ∷ xs) h =
        let both = and_both (alike (val_sort x.first) x.sort) (list_all (λ (y : Variable). alike (val_sort y.first) y.sort) xs) h in
        ap₂ (λ (a : Sort) (l : List Sort). a ∷ l) (alike_same (val_sort x.first) x.sort both.0) (go xs both.1)

-- the sort of a value in the store is its variable's
pub store_sort : (store : List Val) (vars : List Variable) (i : ℕ) → map val_sort store ≡ map (λ x. x.sort) vars → option_sort (slice_get store i) ≡ option_map (λ x. x.sort) (slice_get vars i)
store_sort [] [] i e = refl
store_sort [] (x ∷ xs) i e = cc
store_sort (y ∷ ys) [] i e = cc
store_sort (y ∷ ys) (x ∷ xs) zero e =
    let all : val_sort y ∷ map val_sort ys ≡ x.sort ∷ map (λ (z : Variable). z.sort) xs = e in
    let head : val_sort y ≡ x.sort = cc in
    ap Some head
store_sort (y ∷ ys) (x ∷ xs) (suc i) e =
    let all : val_sort y ∷ map val_sort ys ≡ x.sort ∷ map (λ (z : Variable). z.sort) xs = e in
    let tail : map val_sort ys ≡ map (λ (z : Variable). z.sort) xs = cc in
    store_sort ys xs i tail

-- there is a value for each variable
pub store_has : (chart : Chart) (store : List Val) (x : ℕ) → HasSorts chart store → x < length chart.vars → (v : Val) × (slice_get store x ≡ Some v)
store_has chart store x sorts lt =
    item_of store x (omega (arith, ap length sorts, length-map store val_sort, length-map chart.vars (λ (y : Variable). y.sort), lt))
