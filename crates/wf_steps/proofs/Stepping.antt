-- What a unit keeps stays what the definitions make of its history, by a Turn and by an admission.
use Rattle.std.proofs.Common.{◌≡◌, ℕ, zero, suc, ◌+◌, ◌<◌, ◌≤◌, ◌==◌, ◌||◌, cond, Bool, true, false, List, [], ◌∷◌, ◌++◌, map, length, Option, Some, None, refl, sym, ap, ap₂, ◌∙◌, subst, arith, eqb-true, eq-eqb, true≢false}
use Rattle.std.specs.Prelude.{position, nat_eq}
use Rattle.std.specs.HashMap.{HashMap, IsEmpty, get}
use Rattle.std.specs.Map.{lookup}
use Rattle.std.specs.List.{sum, insert, position_from}
use Rattle.std.proofs.lemmas.Iterator.Adapters.{position_from-zero}
use Rattle.std.proofs.lemmas.List.Sums.{sum_by_push}
use Rattle.wf_model.specs.declared.ids.ActId.{ActId}
use Rattle.wf_model.specs.declared.outer.Outer.{Outer}
use Rattle.wf_model.specs.declared.outer.Outer.TheVariants.{Happen, Complete}
use Rattle.wf_model.specs.declared.update.StartAt.{StartAt}
use Rattle.wf_model.specs.declared.update.Update.{Update}
use Rattle.wf_model.proofs.Bools.{not_true}
use Rattle.wf_parts.specs.declared.data.PartData.{PartData}
use Rattle.wf_semantics.specs.Items.{Item, new_item, close}
use Rattle.wf_activities.specs.UnitItems.{UnitItems}
use Rattle.wf_views.specs.Views.{View, first_view}
use Rattle.wf_views.specs.OwnSteps.{own_update}
use Rattle.wf_histories.specs.Histories.{Admission, History, no_update, seals, taken, inputs_at, sealed_by, local, local_update}
use Rattle.wf_histories.specs.Follows.{item_acts, new_acts}
use Rattle.wf_worlds.specs.Growing.{admitted, turned}
use Rattle.wf_worlds.specs.Worlds.{first_history}
use Rattle.wf_worlds.proofs.GoesOn.{inputs_on, local_on, update_on, admit_on, turn_on}
use Rattle.wf_worlds.proofs.Growing.{items_on, turn_seals, turn_takes}
use Rattle.wf_steps.specs.declared.prepared.Prepared.{Prepared}
use Rattle.wf_steps.specs.Items.{own_acts, is_completed, items_from, items_of, item_steps, in_order, new_starts, all_at}
use Rattle.wf_steps.specs.Growing.{place_of, sealing, MayAdmit, MayTurn, IsMade, no_records, with_admission, with_turn}
use Rattle.wf_steps.specs.Replicas.{IsReplica, prepared_of, closed_by}
use Rattle.wf_steps.proofs.Turning.{all_now}
use Rattle.wf_steps.proofs.Made.{made_fits}
use Rattle.wf_steps.proofs.Kept.{completed_more, completed_there}
use Rattle.wf_steps.proofs.ItemsGrow.{length_items, items_alike, items_more, items_closed}

map_twice : {A B C : Type 0} (f : A → B) (g : B → C) (xs : List A) → map (λ x. g (f x)) xs ≡ map g (map f xs)
map_twice f g [] = refl
map_twice f g (x ∷ xs) = ap (λ l. g (f x) ∷ l) (map_twice f g xs)

-- THE STEPS OF ITEMS

pub steps_on : (part : PartData) (h g : History) → ((j : ℕ) → j < taken h → all_at part g j ≡ all_at part h j) → (j : ℕ) → j ≤ taken h → item_steps part g j ≡ item_steps part h j
unfolding item_steps
steps_on part h g same zero l = refl
steps_on part h g same (suc j) l =
    ap₂ (λ (a b : List ℕ). a ++ b) (steps_on part h g same j (omega arith)) (ap (λ (all : List Update). map (λ (s : StartAt). suc j) (new_starts part all)) (same j (omega arith)))

-- WITH ONE TURN MORE

module _ (part : PartData) (past : History) (inputs : List Update) (made : IsMade part past) where
  abbrev starts : List StartAt
  starts = new_starts part (insert inputs part.unit.0 (local_update part past (suc (taken past))))

  acts_next : item_acts part past (taken past) ++ map (λ (s : StartAt). s.act) starts ≡ item_acts part (turned past inputs) (suc (taken past))
  unfolding item_acts in_order
  acts_next = ap₂ (λ (a b : List ActId). a ++ b) (sym (items_on part past (turned past inputs) (turn_on past inputs) (made_fits part made) (taken past) (omega arith)))
      (ap (new_acts part) (sym (all_now part past inputs (made_fits part made))))

  all_before : (j : ℕ) → j < taken past → all_at part (turned past inputs) j ≡ all_at part past j
  all_before j l = ap₂ (λ (ins : List Update) (own : Update). insert ins part.unit.0 own) (inputs_on past (turned past inputs) (turn_on past inputs) (made_fits part made) j l) (update_on past (turned past inputs) (turn_on past inputs) (made_fits part made) part (suc j) (omega arith))

  pub steps_next : item_steps part past (taken past) ++ map (λ (s : StartAt). taken past + 1) starts ≡ item_steps part (turned past inputs) (suc (taken past))
  unfolding item_steps
  steps_next =
      ap₂ (λ (a b : List ℕ). a ++ b) (sym (steps_on part past (turned past inputs) all_before (taken past) (omega arith)))
      (ap (λ (n : ℕ). map (λ (s : StartAt). n) starts) (let e : taken past + 1 ≡ suc (taken past) = omega arith in e)
      ∙ ap (λ (all : List Update). map (λ (s : StartAt). suc (taken past)) (new_starts part all)) (sym (all_now part past inputs (made_fits part made))))

  pub items_next : items_of part past ++ map (λ (s : StartAt). new_item s.act) starts ≡ items_of part (turned past inputs)
  unfolding items_of
  items_next =
      ap (λ (l : List Item). items_from (is_completed past) 1 (item_acts part past (taken past)) ++ l) (map_twice (λ (s : StartAt). s.act) new_item starts)
      ∙ sym (items_more (is_completed past) 1 (item_acts part past (taken past)) (map (λ (s : StartAt). s.act) starts) (λ k l. completed_there part made k (omega (arith, l))))
      ∙ ap (items_from (is_completed past) 1) (acts_next ∙ ap (item_acts part (turned past inputs)) (sym (turn_takes past inputs)))

-- WITH ONE ADMISSION MORE

or_false : (b : Bool) → (b || false) ≡ b
or_false true = refl
or_false false = refl

pub closes : (part : PartData) (past : History) (request : ℕ) (o : Outer) → IsMade part past → items_of part (admitted past (record { request = request; outer = o })) ≡ closed_by o (items_of part past)
unfolding items_of
closes part past request (Happen e) made =
    let a : Admission = record { request = request; outer = Happen e } in
    ap (items_from (is_completed (admitted past a)) 1) (items_on part past (admitted past a) (admit_on past a) (made_fits part made) (taken past) (omega arith))
    ∙ items_alike (is_completed (admitted past a)) (is_completed past) 1 (item_acts part past (taken past)) (λ k l m. completed_more past a k ∙ or_false (is_completed past k))
closes part past request (Complete n act outputs) made =
    let a : Admission = record { request = request; outer = Complete n act outputs } in
    ap (items_from (is_completed (admitted past a)) 1) (items_on part past (admitted past a) (admit_on past a) (made_fits part made) (taken past) (omega arith))
    ∙ items_alike (is_completed (admitted past a)) (λ k. is_completed past k || ((0 + n) == k)) 1 (item_acts part past (taken past))
    (λ k l m. completed_more past a k ∙ ap (λ x. is_completed past k || (x == k)) (let e : n ≡ 0 + n = omega arith in e))
    ∙ items_closed (is_completed past) 0 n (item_acts part past (taken past))

-- the place of a request among more admissions

some_none : {k : ℕ} → ◌≡◌ {A = Option ℕ} (Some k) None → ⊥
some_none e = cc

pub eqb_comm : (m n : ℕ) → (m == n) ≡ (n == m)
eqb_comm m n = go (m == n) refl
  where
    go : (b : Bool) → (m == n) ≡ b → (m == n) ≡ (n == m)
    go true e = e ∙ sym (eq-eqb n m (sym (eqb-true m n e)))
    go false e = e ∙ sym (not_true (n == m) (λ f. true≢false (sym (eq-eqb m n (sym (eqb-true n m f))) ∙ e)))

place_from : (xs : List Admission) (a : Admission) (q i : ℕ) → position_from (λ (x : Admission). x.request == a.request) i xs ≡ None →
    cond (q == a.request) (Some (i + length xs)) (position_from (λ (x : Admission). x.request == q) i xs) ≡ position_from (λ (x : Admission). x.request == q) i (xs ++ a ∷ [])
place_from [] a q i none = ap₂ (λ (b : Bool) (k : ℕ). cond b (Some k) None) (eqb_comm q a.request) (let e : i + 0 ≡ i = omega arith in e)
place_from (x ∷ xs) a q i none = go (x.request == a.request) (x.request == q) refl refl none (place_from xs a q (i + 1))
  where
    clash : x.request ≡ q → ((x.request == a.request) ≡ false) → (q == a.request) ≡ false
    clash e f = ap (λ (n : ℕ). n == a.request) (sym e) ∙ f

    go : (b c : Bool) → (x.request == a.request) ≡ b → (x.request == q) ≡ c → cond b (Some i) (position_from (λ (x : Admission). x.request == a.request) (i + 1) xs) ≡ None →
        (position_from (λ (x : Admission). x.request == a.request) (i + 1) xs ≡ None → cond (q == a.request) (Some (i + 1 + length xs)) (position_from (λ (x : Admission). x.request == q) (i + 1) xs) ≡ position_from (λ (x : Admission). x.request == q) (i + 1) (xs ++ a ∷ [])) →
        cond (q == a.request) (Some (i + suc (length xs))) (cond c (Some i) (position_from (λ (x : Admission). x.request == q) (i + 1) xs)) ≡ cond c (Some i) (position_from (λ (x : Admission). x.request == q) (i + 1) (xs ++ a ∷ []))
    go true c e f none rest = absurd (some_none none)
    go false true e f none rest = ap (λ (b : Bool). cond b (Some (i + suc (length xs))) (Some i)) (clash (eqb-true x.request q f) e)
    go false false e f none rest =
        ap (λ (k : ℕ). cond (q == a.request) (Some k) (position_from (λ (x : Admission). x.request == q) (i + 1) xs)) (let e : i + suc (length xs) ≡ i + 1 + length xs = omega arith in e) ∙ rest none

pub place_more : (xs : List Admission) (a : Admission) (q : ℕ) → position (λ (x : Admission). x.request == a.request) xs ≡ None →
    cond (q == a.request) (Some (length xs)) (position (λ (x : Admission). x.request == q) xs) ≡ position (λ (x : Admission). x.request == q) (xs ++ a ∷ [])
place_more xs a q none =
    ap₂ (λ (k : ℕ) (o : Option ℕ). cond (q == a.request) (Some k) o) (let e : length xs ≡ 0 + length xs = omega arith in e) (position_from-zero (λ (x : Admission). x.request == q) xs)
    ∙ place_from xs a q 0 (sym (position_from-zero (λ (x : Admission). x.request == a.request) xs) ∙ none)
    ∙ sym (position_from-zero (λ (x : Admission). x.request == q) (xs ++ a ∷ []))

module _ (part : PartData) (acts : List ActId) (past : History) (view : View) (items : UnitItems) (last next : Update) (sealed : ℕ) (index : ℕ → Option ℕ) (r : IsReplica part acts past view items last next sealed index) where
  module _ (prepared : Prepared) (may : MayTurn part past prepared.done.inputs) (is : prepared ≡ prepared_of part past prepared.done.inputs) (items' : UnitItems) where
    abbrev inputs : List Update
    inputs = prepared.done.inputs

    pub on_turned : items'.items ≡ items.items ++ map (λ (s : StartAt). new_item s.act) prepared.starts → items'.steps ≡ items.steps ++ map (λ (s : StartAt). prepared.done.step) prepared.starts →
        IsReplica part acts (turned past inputs) prepared.view items' next prepared.next (sealed + prepared.done.sealed) index
    on_turned items_are steps_are =
        let tk : taken (turned past inputs) ≡ suc (taken past) = turn_takes past inputs in
        let starts_are : prepared.starts ≡ new_starts part (insert inputs part.unit.0 (local_update part past (suc (taken past)))) = ap (λ (p : Prepared). p.starts) is in
        let step_is : prepared.done.step ≡ taken past + 1 = ap (λ (p : Prepared). p.done.step) is in
        let sealed_is : prepared.done.sealed ≡ sealing past = ap (λ (p : Prepared). p.done.sealed) is in
        let sums : sum (seals (turned past inputs)) ≡ sum (seals past) + sealing past = ap sum (turn_seals past inputs) ∙ sum_by_push (λ x. x) (seals past) (sealing past) in
        record {
          made = with_turn past inputs r.made may;
          acts_are = r.acts_are;
          view_is = ap (λ (p : Prepared). p.view) is ∙ ap (local part (turned past inputs)) (sym tk);
          items_are = items_are ∙ ap₂ (λ (l : List Item) (s : List StartAt). l ++ map (λ (x : StartAt). new_item x.act) s) r.items_are starts_are ∙ items_next part past inputs r.made;
          steps_are =
              steps_are ∙ ap₂ (λ (l : List ℕ) (s : List StartAt). l ++ map (λ (x : StartAt). prepared.done.step) s) r.steps_are starts_are
              ∙ ap (λ (n : ℕ). item_steps part past (taken past) ++ map (λ (x : StartAt). n) (new_starts part (insert inputs part.unit.0 (local_update part past (suc (taken past)))))) step_is
              ∙ steps_next part past inputs r.made ∙ ap (item_steps part (turned past inputs)) (sym tk);
          last_is = r.next_is ∙ sym (update_on past (turned past inputs) (turn_on past inputs) (made_fits part r.made) part (suc (taken past)) (omega arith)) ∙ ap (local_update part (turned past inputs)) (sym tk);
          next_is = ap (λ (p : Prepared). p.next) is ∙ ap (λ n. local_update part (turned past inputs) (suc n)) (sym tk);
          sealed_is = omega (arith, r.sealed_is, sums, sealed_is);
          index_is = r.index_is;
        }

    pub turned_is : items'.items ≡ items.items ++ map (λ (s : StartAt). new_item s.act) prepared.starts → items'.steps ≡ items.steps ++ map (λ (s : StartAt). prepared.done.step) prepared.starts →
        (past' : History) (last' next' : Update) (sealed' : ℕ) → past' ≡ record past { turns = past.turns ++ prepared.done ∷ [] } → last' ≡ next → next' ≡ prepared.next → sealed' ≡ sealed + prepared.done.sealed →
        IsReplica part acts past' prepared.view items' last' next' sealed' index
    turned_is items_are steps_are past' last' next' sealed' past_is last_is next_is sum_is =
        subst (λ n. IsReplica part acts past' prepared.view items' last' next' n index) (sym sum_is)
        (subst (λ u. IsReplica part acts past' prepared.view items' last' u (sealed + prepared.done.sealed) index) (sym next_is)
        (subst (λ u. IsReplica part acts past' prepared.view items' u prepared.next (sealed + prepared.done.sealed) index) (sym last_is)
        (subst (λ h. IsReplica part acts h prepared.view items' next prepared.next (sealed + prepared.done.sealed) index)
        (sym (past_is ∙ ap (λ (p : Prepared). record past { turns = past.turns ++ p.done ∷ [] }) is)) (on_turned items_are steps_are))))

  module _ (request : ℕ) (outer : Outer) (may : MayAdmit part past (record { request = request; outer = outer })) (items' : UnitItems) (index' : ℕ → Option ℕ) where
    pub on_admitted : items'.items ≡ closed_by outer items.items → items'.steps ≡ items.steps → ((q : ℕ) → index' q ≡ cond (q == request) (Some (length past.admissions)) (index q)) →
        IsReplica part acts (admitted past (record { request = request; outer = outer })) view items' last next sealed index'
    on_admitted items_are steps_are index_are =
        let a : Admission = record { request = request; outer = outer } in
        let fits = made_fits part r.made in
        record {
          made = with_admission past a r.made may;
          acts_are = r.acts_are;
          view_is = r.view_is ∙ sym (local_on past (admitted past a) (admit_on past a) fits part (taken past) (omega arith));
          items_are = items_are ∙ ap (closed_by outer) r.items_are ∙ sym (closes part past request outer r.made);
          steps_are = steps_are ∙ r.steps_are ∙ sym (steps_on part past (admitted past a) (λ j l. ap (λ (own : Update). insert (inputs_at past j) part.unit.0 own) (update_on past (admitted past a) (admit_on past a) fits part (suc j) (omega arith))) (taken past) (omega arith));
          last_is = r.last_is ∙ sym (update_on past (admitted past a) (admit_on past a) fits part (taken past) (omega arith));
          next_is = r.next_is ∙ sym (update_on past (admitted past a) (admit_on past a) fits part (suc (taken past)) (omega arith));
          sealed_is = r.sealed_is;
          index_is = λ q. index_are q ∙ ap (λ (o : Option ℕ). cond (q == request) (Some (length past.admissions)) o) (r.index_is q) ∙ place_more past.admissions a q may.fresh;
        }

    pub admitted_is : items'.items ≡ closed_by outer items.items → items'.steps ≡ items.steps → ((q : ℕ) → index' q ≡ cond (q == request) (Some (length past.admissions)) (index q)) →
        (past' : History) → past' ≡ admitted past (record { request = request; outer = outer }) → IsReplica part acts past' view items' last next sealed index'
    admitted_is items_are steps_are index_are past' is = subst (λ h. IsReplica part acts h view items' last next sealed index') (sym is) (on_admitted items_are steps_are index_are)

-- BEFORE THE FIRST RECORD

pub none_there : {S : Type 0} (m : HashMap ℕ ℕ S) → IsEmpty m → (q : ℕ) → get nat_eq m q ≡ None
none_there m empty q = ap (λ (es : List (ℕ × ℕ)). lookup (nat_eq q) es) empty

module _ (part : PartData) (acts : List ActId) (past : History) (view : View) (items : UnitItems) (last next : Update) (index : ℕ → Option ℕ) where
  pub first_is : past ≡ first_history part.unit.0 → acts ≡ own_acts part → view ≡ first_view part → items.items ≡ [] → items.steps ≡ [] → last ≡ no_update part.unit → next ≡ own_update part 1 (first_view part) [] → ((q : ℕ) → index q ≡ None) →
      IsReplica part acts past view items last next 0 index
  unfolding local sealed_by items_of item_acts item_steps
  first_is past_is acts_are view_is items_are steps_are last_is next_is index_is =
      let P : History → Type 0 = λ h. IsReplica part acts h view items last next 0 index in
      subst P (sym past_is)
      (record { made = no_records; acts_are = acts_are; view_is = view_is; items_are = items_are; steps_are = steps_are; last_is = last_is; next_is = next_is; sealed_is = refl; index_is = index_is })
