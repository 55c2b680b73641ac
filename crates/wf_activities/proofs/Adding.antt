-- Room that is made at one unit after another, and starts that are added one after another.
use Rattle.std.proofs.Common.{◌≡◌, ◌≢◌, ℕ, ◌+◌, ◌<◌, ◌≤◌, ◌==◌, cond, Bool, true, false, List, [], ◌∷◌, ◌++◌, length, map, filter, get_or, set, Option, Some, None, refl, sym, ◌∙◌, ap, subst, arith, eq-eqb, eqb-true, true≢false, append-nil}
use Rattle.std.specs.List.{slice_get}
use Rattle.std.specs.Option.{option_map, option_map_or}
use Rattle.std.proofs.lemmas.List.{get_or-map}
use Rattle.wf_model.specs.declared.chart.Activity.{Activity}
use Rattle.wf_model.specs.declared.chart.Chart.{Chart}
use Rattle.wf_model.specs.declared.update.StartAt.{StartAt}
use Rattle.wf_semantics.specs.Items.{Item}
use Rattle.wf_semantics.specs.Run.{is_at}
use Rattle.wf_activities.specs.UnitItems.{UnitItems}
use Rattle.wf_activities.specs.Stock.{items_in, room_in}
use Rattle.wf_activities.proofs.Closing.{part_set}

-- room was made at one unit more
pub reserved_more : (units : List UnitItems) (lengths : List ℕ) (u : ℕ) (y : UnitItems) → u < length units → map (λ i. i.items) (set units u y) ≡ map (λ i. i.items) units
    → get_or lengths u 0 ≤ length (items_in units u) + y.room → ((k : ℕ) → k < u → get_or lengths k 0 ≤ length (items_in units k) + room_in units k)
    → (k : ℕ) → k < u + 1 → get_or lengths k 0 ≤ length (items_in (set units u y) k) + room_in (set units u y) k
reserved_more units lengths u y lt same here before k le = go (u == k) refl
  where
    still : items_in (set units u y) k ≡ items_in units k
    still = ap (λ (l : List (List Item)). get_or l k []) same

    go : (p : Bool) → (u == k) ≡ p → get_or lengths k 0 ≤ length (items_in (set units u y) k) + room_in (set units u y) k
    go true q =
        let room : room_in (set units u y) k ≡ y.room = part_set (λ (i : UnitItems). i.room) 0 units u y k lt ∙ ap (λ (b : Bool). cond b y.room (room_in units k)) q in
        omega (arith, ap length still, room, subst (λ (j : ℕ). get_or lengths j 0 ≤ length (items_in units j) + y.room) (eqb-true u k q) here)
    go false q =
        let room : room_in (set units u y) k ≡ room_in units k = part_set (λ (i : UnitItems). i.room) 0 units u y k lt ∙ ap (λ (b : Bool). cond b y.room (room_in units k)) q in
        let other : u ≢ k = λ r. true≢false (sym (eq-eqb u k r) ∙ q) in
        let below : k < u = omega arith in
        omega (arith, ap length still, room, before k below)

-- where a start of a known activity is
at_unit : (chart : Chart) (s : StartAt) (act : Activity) (v : ℕ) → slice_get chart.acts s.act.0 ≡ Some act → is_at chart v s ≡ (act.unit.0 == v)
at_unit chart s act v known = ap (λ (o : Option Activity). option_map_or (λ w. w == v) (option_map (λ (x : Activity). x.unit.0) o) false) known

-- a start of a known activity is at its unit
pub one_start : (chart : Chart) (s : StartAt) (act : Activity) → slice_get chart.acts s.act.0 ≡ Some act → length (filter (is_at chart act.unit.0) (s ∷ [])) ≡ 1
one_start chart s act known = ap (λ (b : Bool). length (cond b (s ∷ []) [])) (at_unit chart s act act.unit.0 known ∙ eq-eqb act.unit.0 act.unit.0 refl)

-- a start of an activity that the chart doesn't have is at no unit
pub no_start : (chart : Chart) (s : StartAt) → slice_get chart.acts s.act.0 ≡ None → (v : ℕ) → filter (is_at chart v) (s ∷ []) ≡ []
no_start chart s unknown v = ap (λ (o : Option Activity). cond (option_map_or (λ w. w == v) (option_map (λ (x : Activity). x.unit.0) o) false) (s ∷ []) []) unknown

module _ (chart : Chart) (s : StartAt) (units : List UnitItems) (act : Activity) (known : slice_get chart.acts s.act.0 ≡ Some act) (lt : act.unit.0 < length units) (y d : UnitItems) where
  -- what is kept of each start stands behind what is kept of those before
  pub started_one : {X : Type 0} (part : UnitItems → List X) (f : StartAt → X) → part y ≡ part (get_or units act.unit.0 d) ++ f s ∷ []
      → (v : ℕ) → get_or (map part (set units act.unit.0 y)) v [] ≡ get_or (map part units) v [] ++ map f (filter (is_at chart v) (s ∷ []))
  started_one {X} part f new v =
      part_set part [] units act.unit.0 y v lt
      ∙ go (act.unit.0 == v) refl
      ∙ ap (λ (b : Bool). get_or (map part units) v [] ++ map f (cond b (s ∷ []) [])) (sym (at_unit chart s act v known))
    where
      go : (p : Bool) → (act.unit.0 == v) ≡ p → cond p (part y) (get_or (map part units) v []) ≡ get_or (map part units) v [] ++ map f (cond p (s ∷ []) [])
      go true q = new ∙ ap (λ (l : List X). l ++ f s ∷ []) (sym (get_or-map part units act.unit.0 d [] lt) ∙ ap (λ (k : ℕ). get_or (map part units) k []) (eqb-true act.unit.0 v q))
      go false q = sym (append-nil (get_or (map part units) v []))

  -- and takes room for one item, at its unit alone
  pub room_one : (get_or units act.unit.0 d).room ≤ y.room + 1 → (v : ℕ) → room_in units v ≤ room_in (set units act.unit.0 y) v + length (filter (is_at chart v) (s ∷ []))
  room_one less v =
      let long : length (filter (is_at chart v) (s ∷ [])) ≡ length (cond (act.unit.0 == v) (s ∷ []) []) = ap (λ (b : Bool). length (cond b (s ∷ []) [])) (at_unit chart s act v known) in
      go (act.unit.0 == v) refl (part_set (λ (i : UnitItems). i.room) 0 units act.unit.0 y v lt) long
    where
      go : (p : Bool) → (act.unit.0 == v) ≡ p → room_in (set units act.unit.0 y) v ≡ cond p y.room (room_in units v) → length (filter (is_at chart v) (s ∷ [])) ≡ length (cond p (s ∷ []) [])
          → room_in units v ≤ room_in (set units act.unit.0 y) v + length (filter (is_at chart v) (s ∷ []))
      go true q e long =
          let was : room_in units v ≡ (get_or units act.unit.0 d).room = ap (room_in units) (sym (eqb-true act.unit.0 v q)) ∙ get_or-map (λ (i : UnitItems). i.room) units act.unit.0 d 0 lt in
          let one_more : length (filter (is_at chart v) (s ∷ [])) ≡ 1 = long in
          omega (arith, was, e, one_more, less)
      go false q e long = omega (arith, e)

-- no more starts are at a unit than there are
pub few_at : {X : Type 0} (p : X → Bool) (xs : List X) → length (filter p xs) ≤ length xs
few_at p [] = omega arith
few_at {X} p (x ∷ xs) = go (p x) (few_at p xs)
  where
    go : (b : Bool) → length (filter p xs) ≤ length xs → length (cond b (x ∷ filter p xs) (filter p xs)) ≤ length (x ∷ xs)
    go true h = omega arith
    go false h = omega arith
