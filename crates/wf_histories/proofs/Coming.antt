-- Entries that may come, unit by unit.
use Rattle.std.proofs.Common.{◌≡◌, ℕ, zero, suc, ◌+◌, ◌<◌, ◌≤◌, ◌==◌, ◌||◌, ◌&&◌, not, cond, Bool, true, false, List, [], ◌∷◌, ◌++◌, map, flat_map, Option, Some, None, slice_get, refl, sym, ap, ap₂, ◌∙◌, arith, eqb-true, eq-eqb, true≢false, append_assoc}
use Rattle.std.specs.Prelude.{is_ok, Result, Ok, Err}
use Rattle.std.specs.Option.{option_map}
use Rattle.std.specs.List.{list_any, list_all, range_with_len}
use Rattle.std.proofs.lemmas.List.{append-nil}
use Rattle.std.proofs.lemmas.List.Folds.{list_any-append}
use Rattle.std.proofs.lemmas.Option.{slice_get-map}
use Rattle.wf_model.specs.declared.chart.Chart.{Chart}
use Rattle.wf_model.specs.declared.outer.Outer.{Outer}
use Rattle.wf_model.specs.declared.outer.Outer.TheVariants.{Happen, Complete}
use Rattle.wf_model.specs.declared.outer.OuterFault.{OuterFault}
use Rattle.wf_model.specs.declared.outer.OuterFault.TheVariants.{WrongUnit, NoItem, AlreadyDone, WrongOutput}
use Rattle.wf_model.specs.declared.outer.Entry.{Entry}
use Rattle.wf_semantics.specs.Items.{Item, item_at}
use Rattle.wf_semantics.specs.Run.{CentralState}
use Rattle.wf_semantics.specs.Admission.{is_event_at, is_act_at, is_of, is_closed, completes, is_pending, are_outputs_of, may_be_admitted, may_come_after}
use Rattle.wf_model.proofs.Bools.{and_both, and_true, not_true}
use Rattle.wf_runs.proofs.Parts.{comes_in_parts}
use Rattle.wf_lockstep.specs.Within.{is_at_unit}
use Rattle.wf_histories.specs.Agreement.{entry}
use Rattle.wf_histories.specs.Follows.{is_act, is_item, is_there, is_first, are_first}

pub not_so : (b : Bool) → not b ≡ true → b ≡ false
not_so true h = sym h
not_so false h = refl

or_parts : (a b : Bool) → (a || b) ≡ false → (a ≡ false) × (b ≡ false)
or_parts true b h = absurd (true≢false h)
or_parts false b h = (refl, h)

pub first_parts : (before xs ys : List Outer) → are_first before (xs ++ ys) ≡ (are_first before xs && are_first (before ++ xs) ys)
first_parts before [] ys = ap (λ (l : List Outer). are_first l ys) (sym (append-nil before))
first_parts before (x ∷ xs) ys =
    ap (λ (b : Bool). is_first before x && b) (first_parts (before ++ x ∷ []) xs ys ∙ ap (λ (l : List Outer). are_first (before ++ x ∷ []) xs && are_first l ys) (append_assoc before (x ∷ []) xs))
    ∙ and_assoc (is_first before x) (are_first (before ++ x ∷ []) xs) (are_first (before ++ x ∷ xs) ys)
  where
    and_assoc : (p q r : Bool) → (p && (q && r)) ≡ ((p && q) && r)
    and_assoc true q r = refl
    and_assoc false q r = refl

is_item_of : (items : List Item) (n a : ℕ) → is_item (map (λ x. x.act) items) n a ≡ is_of a (item_at items n)
is_item_of items zero a = refl
is_item_of items (suc n) a = ap (is_act a) (slice_get-map (λ (x : Item). x.act) items n) ∙ go (slice_get items n)
  where
    go : (o : Option Item) → is_act a (option_map (λ x. x.act) o) ≡ is_of a o
    go None = refl
    go (Some x) = refl

-- the answer to a completion, by what is tested, and to an event
abbrev answer : Bool → Bool → Bool → Bool → Result (Unit {0}) OuterFault
answer at of done fit = cond (not at) (Err WrongUnit) (cond (not of) (Err NoItem) (cond done (Err AlreadyDone) (cond (not fit) (Err WrongOutput) (Ok tt))))

abbrev event_answer : Bool → Result (Unit {0}) OuterFault
event_answer at = cond at (Ok tt) (Err WrongUnit)

answer_ok : (at of done fit : Bool) → at ≡ true → of ≡ true → done ≡ false → fit ≡ true → is_ok (answer at of done fit) ≡ true
answer_ok true true false true a b c d = refl
answer_ok true true true fit a b c d = absurd (true≢false c)
answer_ok true true false false a b c d = absurd (true≢false (sym d))
answer_ok true false done fit a b c d = absurd (true≢false (sym b))
answer_ok false of done fit a b c d = absurd (true≢false (sym a))

event_ok : (at : Bool) → at ≡ true → is_ok (event_answer at) ≡ true
event_ok true h = refl
event_ok false h = absurd (true≢false (sym h))

module _ (chart : Chart) (c : CentralState) (v : ℕ) (before : List Outer) (closed : (n : ℕ) → is_closed (item_at (c.items v) n) ≡ list_any (completes n) before) where
  -- one outer of unit v
  outer_comes : (pending : List Entry) (pre : List Outer) (o : Outer) → ((n : ℕ) → is_pending pending v n ≡ list_any (completes n) pre) →
      is_at_unit chart v o ≡ true → is_there (map (λ x. x.act) (c.items v)) o ≡ true → is_first (before ++ pre) o ≡ true → is_ok (may_be_admitted chart c.items pending v o) ≡ true
  unfolding may_be_admitted
  outer_comes pending pre (Happen e) pend at there first = event_ok (is_event_at chart v e.0) at
  outer_comes pending pre (Complete n a os) pend at there first =
      let both = and_both (is_act_at chart v a.0) (are_outputs_of chart a.0 os) at in
      answer_ok (is_act_at chart v a.0) (is_of a.0 (item_at (c.items v) n)) (is_closed (item_at (c.items v) n) || is_pending pending v n) (are_outputs_of chart a.0 os)
      both.0 (sym (is_item_of (c.items v) n a.0) ∙ there)
      (ap₂ (λ (p q : Bool). p || q) (closed n) (pend n) ∙ sym (list_any-append (completes n) before pre) ∙ not_so (list_any (completes n) (before ++ pre)) first)
      both.1

  -- the outers of unit v, one after another
  pub block_comes : (pending : List Entry) (pre os : List Outer) → ((n : ℕ) → is_pending pending v n ≡ list_any (completes n) pre) →
      list_all (is_at_unit chart v) os ≡ true → list_all (is_there (map (λ x. x.act) (c.items v))) os ≡ true → are_first (before ++ pre) os ≡ true → may_come_after chart c.items pending (map (entry v) os) ≡ true
  block_comes pending pre [] pend at there first = refl
  block_comes pending pre (o ∷ os) pend at there first =
      let a = and_both (is_at_unit chart v o) (list_all (is_at_unit chart v) os) at in
      let t = and_both (is_there (map (λ x. x.act) (c.items v)) o) (list_all (is_there (map (λ x. x.act) (c.items v))) os) there in
      let f = and_both (is_first (before ++ pre) o) (are_first ((before ++ pre) ++ o ∷ []) os) first in
      and_true (is_ok (may_be_admitted chart c.items pending v o)) (may_come_after chart c.items (pending ++ entry v o ∷ []) (map (entry v) os))
      (outer_comes pending pre o pend a.0 t.0 f.0)
      (block_comes (pending ++ entry v o ∷ []) (pre ++ o ∷ []) os
      (λ n. list_any-append (λ x. (x.unit.0 == v) && completes n x.outer) pending (entry v o ∷ [])
      ∙ ap₂ (λ (p q : Bool). p || ((q && completes n o) || false)) (pend n) (eq-eqb v v refl)
      ∙ sym (list_any-append (completes n) pre (o ∷ [])))
      a.1 t.1 (ap (λ (l : List Outer). are_first l os) (sym (append_assoc before pre (o ∷ []))) ∙ f.1))

-- what is needed of each unit
pub record Ready (chart : Chart) (c : CentralState) (v : ℕ) (os : List Outer) : Type 0 where
  pub before : List Outer
  pub closed : (n : ℕ) → is_closed (item_at (c.items v) n) ≡ list_any (completes n) before
  pub at_unit : list_all (is_at_unit chart v) os ≡ true
  pub there : list_all (is_there (map (λ x. x.act) (c.items v))) os ≡ true
  pub first : are_first before os ≡ true

-- none is of a unit from a on
abbrev NoneFrom : ℕ → List Entry → Type 0
NoneFrom a pending = (v n : ℕ) → a ≤ v → is_pending pending v n ≡ false

none_block : (a v n : ℕ) (os : List Outer) → a < v → is_pending (map (entry a) os) v n ≡ false
none_block a v n [] lt = refl
none_block a v n (o ∷ os) lt = ap₂ (λ (p q : Bool). (p && completes n o) || q) (not_true (a == v) (λ e. omega (arith, eqb-true a v e))) (none_block a v n os lt)

module _ (chart : Chart) (c : CentralState) (f : ℕ → List Outer) where
  -- all units' outers, in unit order
  pub units_come : (a m : ℕ) (pending : List Entry) → NoneFrom a pending → ((v : ℕ) → v < a + m → Ready chart c v (f v)) → may_come_after chart c.items pending (flat_map (λ v. map (entry v) (f v)) (range_with_len a m)) ≡ true
  units_come a zero pending none ready = refl
  units_come a (suc m) pending none ready =
      let r = ready a (omega arith) in
      comes_in_parts chart c pending (map (entry a) (f a)) (flat_map (λ v. map (entry v) (f v)) (range_with_len (a + 1) m))
      ∙ and_true (may_come_after chart c.items pending (map (entry a) (f a))) (may_come_after chart c.items (pending ++ map (entry a) (f a)) (flat_map (λ v. map (entry v) (f v)) (range_with_len (a + 1) m)))
      (block_comes chart c a r.before r.closed pending [] (f a) (λ n. none a n (omega arith)) r.at_unit r.there (ap (λ (l : List Outer). are_first l (f a)) (append-nil r.before) ∙ r.first))
      (units_come (a + 1) m (pending ++ map (entry a) (f a))
      (λ v n le. list_any-append (λ x. (x.unit.0 == v) && completes n x.outer) pending (map (entry a) (f a)) ∙ ap₂ (λ (p q : Bool). p || q) (none v n (omega arith)) (none_block a v n (f a) (omega arith)))
      (λ v lt. ready v (omega arith)))
