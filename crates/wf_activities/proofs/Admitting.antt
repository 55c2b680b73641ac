-- The answer to a completion at a unit, from the answer of its item.
use Rattle.std.proofs.Common.{◌≡◌, ℕ, zero, suc, ◌<◌, ◌==◌, ◌||◌, not, cond, nat_lt, Bool, true, false, List, [], ◌∷◌, map, length, get_or, Option, Some, None, Ok, Err, refl, sym, ◌∙◌, ap, arith, true≢false, eqb-true, ltb-true, inl, inr}
use Rattle.std.specs.List.{slice_get, list_all}
use Rattle.std.specs.Option.{option_map, option_map_or}
use Rattle.std.proofs.lemmas.Option.{slice_get_past}
use Rattle.std.proofs.lemmas.List.{length-map, get_or-map}
use Rattle.wf_model.specs.declared.ids.ActId.{ActId}
use Rattle.wf_model.specs.declared.ids.VarId.{VarId}
use Rattle.wf_model.specs.declared.value.Sort.{Sort}
use Rattle.wf_model.specs.declared.chart.Activity.{Activity}
use Rattle.wf_model.specs.declared.chart.Variable.{Variable}
use Rattle.wf_model.specs.declared.chart.Chart.{Chart}
use Rattle.wf_model.specs.declared.outer.Output.{Output}
use Rattle.wf_model.specs.declared.outer.Outer.TheVariants.{Complete}
use Rattle.wf_model.specs.declared.outer.Entry.{Entry}
use Rattle.wf_model.specs.declared.outer.OuterFault.TheVariants.{WrongUnit, NoItem, AlreadyDone, WrongOutput}
use Rattle.wf_model.specs.Accepted.{IsAccepted, is_unit, is_known_activity}
use Rattle.wf_model.specs.Sorts.{var_sort}
use Rattle.wf_semantics.specs.Items.{Item, item_at}
use Rattle.wf_semantics.specs.Admission.{is_act_at, is_of, is_closed, is_pending, may_be_admitted}
use Rattle.wf_model.proofs.Bools.{and_both}
use Rattle.wf_semantics.proofs.Children.{lt_or_ge, item_at as item_there}
use Rattle.wf_semantics.proofs.Facts.{parts}
use Rattle.wf_model.proofs.Items.{all_at}
use Rattle.wf_activities.specs.Completing.{are_wanted, may_complete, unless_pending}
use Rattle.wf_activities.specs.Laws.{HaveSorts, CompletesByAdmission}
use Rattle.wf_activities.specs.UnitItems.{UnitItems}
use Rattle.wf_activities.specs.Stock.{Stock, AreOf, items_at, with_sorts, wanted_of}
use Rattle.wf_activities.proofs.LawsHold.{values_wanted}

-- an activity that is at a unit is one of the chart
pub act_there : (chart : Chart) (u a : ℕ) → is_act_at chart u a ≡ true → (act : Activity) × (slice_get chart.acts a ≡ Some act) × (act.unit.0 ≡ u)
act_there chart u a h = go (slice_get chart.acts a) refl h
  where
    go : (o : Option Activity) → slice_get chart.acts a ≡ o → option_map_or (λ unit. unit == u) (option_map (λ (act : Activity). act.unit.0) o) false ≡ true
        → (act : Activity) × (slice_get chart.acts a ≡ Some act) × (act.unit.0 ≡ u)
    go None e k = absurd (true≢false (sym k))
    go (Some act) e k = (act, e, eqb-true act.unit.0 u k)

known_act : (chart : Chart) → IsAccepted chart → (a : ℕ) (act : Activity) → slice_get chart.acts a ≡ Some act → is_known_activity chart act ≡ true
known_act chart ok a act e = all_at (is_known_activity chart) chart.acts (parts chart ok).known_activities a act e

-- the unit of an activity is one of the chart
pub unit_known : (chart : Chart) → IsAccepted chart → (a : ℕ) (act : Activity) → slice_get chart.acts a ≡ Some act → act.unit.0 < length chart.units
unit_known chart ok a act e =
    ltb-true act.unit.0 (length chart.units) (and_both (is_unit chart act.unit) (list_all (λ x. nat_lt x.0 (length chart.vars)) act.outputs) (known_act chart ok a act e)).0

none : {A : Type 0} (x : A) → Some x ≡ None → ⊥
none x q = cc

-- what is there is within
pub get_within : {A : Type 0} (xs : List A) (i : ℕ) (x : A) → slice_get xs i ≡ Some x → i < length xs
get_within xs i x e = elim (lt_or_ge i (length xs)) [ inl l ↦ l | inr g ↦ absurd (none x (sym e ∙ slice_get_past xs i (omega arith))) ]

have_sorts : (chart : Chart) (xs : List VarId) → list_all (λ x. nat_lt x.0 (length chart.vars)) xs ≡ true → HaveSorts chart xs (with_sorts chart xs)
have_sorts chart [] h = tt
have_sorts chart (x ∷ xs) h =
    let both = and_both (nat_lt x.0 (length chart.vars)) (list_all (λ x. nat_lt x.0 (length chart.vars)) xs) h in
    go (slice_get chart.vars x.0) refl (ltb-true x.0 (length chart.vars) both.0) (have_sorts chart xs both.1)
  where
    go : (o : Option Variable) → slice_get chart.vars x.0 ≡ o → x.0 < length chart.vars → HaveSorts chart xs (with_sorts chart xs) → HaveSorts chart (x ∷ xs) (with_sorts chart (x ∷ xs))
    go None e lt r = let w = item_there chart.vars x.0 lt in absurd (none w.0 (sym w.1 ∙ e))
    go (Some v) e lt r = let s : var_sort chart x.0 ≡ Some v.sort = ap (option_map (λ (v : Variable). v.sort)) e in rw s (refl, s, r)

-- the outputs of an activity have their sorts
pub outputs_sorted : (chart : Chart) → IsAccepted chart → (a : ℕ) (act : Activity) → slice_get chart.acts a ≡ Some act → HaveSorts chart act.outputs (with_sorts chart act.outputs)
outputs_sorted chart ok a act e =
    have_sorts chart act.outputs (and_both (is_unit chart act.unit) (list_all (λ x. nat_lt x.0 (length chart.vars)) act.outputs) (known_act chart ok a act e)).1

mapped_at : {A B : Type 0} (f : A → B) (xs : List A) (i : ℕ) (x : A) (d : B) → slice_get xs i ≡ Some x → get_or (map f xs) i d ≡ f x
mapped_at f [] i x d e = cc
mapped_at f (y ∷ xs) zero x d e = let same : y ≡ x = cc in ap f same
mapped_at f (y ∷ xs) (suc i) x d e = mapped_at f xs i x d e

-- the wanted outputs that are kept for an activity
pub wanted_read : (chart : Chart) (stock : Stock) (a : ℕ) (act : Activity) (wanted : List (VarId × Sort)) → AreOf chart stock → slice_get chart.acts a ≡ Some act → wanted ≡ get_or stock.wanted a wanted
    → wanted ≡ with_sorts chart act.outputs
unfolding wanted_of
wanted_read chart stock a act wanted of e is =
    is ∙ ap (λ (table : List (List (VarId × Sort))). get_or table a wanted) of.wanted ∙ mapped_at (λ (act : Activity). with_sorts chart act.outputs) chart.acts a act wanted e

pub wanted_length : (chart : Chart) (stock : Stock) → AreOf chart stock → length stock.wanted ≡ length chart.acts
unfolding wanted_of
wanted_length chart stock of = ap length of.wanted ∙ length-map chart.acts (λ (act : Activity). with_sorts chart act.outputs)

-- the items of a unit, as they are kept
pub units_length : (units : List UnitItems) (stock : Stock) → map (λ i. i.items) units ≡ stock.items → length units ≡ length stock.items
units_length units stock e = sym (length-map units (λ (i : UnitItems). i.items)) ∙ ap length e

pub items_read : (units : List UnitItems) (stock : Stock) (u : ℕ) (x : UnitItems) → map (λ i. i.items) units ≡ stock.items → u < length units → x ≡ get_or units u x → x.items ≡ items_at stock u
items_read units stock u x e lt is =
    ap (λ (i : UnitItems). i.items) is ∙ sym (get_or-map (λ (i : UnitItems). i.items) units u x [] lt) ∙ ap (λ (l : List (List Item)). get_or l u []) e

module _ (chart : Chart) (items : ℕ → List Item) (pending : List Entry) (u n : ℕ) (a : ActId) (outputs : List Output) where
  pub wrong_unit : is_act_at chart u a.0 ≡ false → Err WrongUnit ≡ may_be_admitted chart items pending u (Complete n a outputs)
  unfolding may_be_admitted
  wrong_unit h = rw h refl

  pub answered : (act : Activity) (wanted : List (VarId × Sort)) → is_act_at chart u a.0 ≡ true → slice_get chart.acts a.0 ≡ Some act → HaveSorts chart act.outputs wanted
      → unless_pending (may_complete (items u) n a outputs wanted) (is_pending pending u n) ≡ may_be_admitted chart items pending u (Complete n a outputs)
  unfolding may_be_admitted may_complete
  answered act wanted at known sorts =
      rw (at, known, values_wanted chart act.outputs wanted outputs sorts)
      (cases (is_of a.0 (item_at (items u) n)) (is_closed (item_at (items u) n)) (is_pending pending u n) (are_wanted wanted outputs))
    where
      cases : (p q r s : Bool) → unless_pending (cond (not p) (Err NoItem) (cond q (Err AlreadyDone) (cond (not s) (Err WrongOutput) (Ok tt)))) r
          ≡ cond (not p) (Err NoItem) (cond (q || r) (Err AlreadyDone) (cond (not s) (Err WrongOutput) (Ok tt)))
      cases false q r s = refl
      cases true true true s = refl
      cases true true false s = refl
      cases true false true false = refl
      cases true false true true = refl
      cases true false false false = refl
      cases true false false true = refl

pub completes_by_admission : CompletesByAdmission
completes_by_admission chart items pending u n a outputs act wanted at known sorts = sym (answered chart items pending u n a outputs act wanted at known sorts)
