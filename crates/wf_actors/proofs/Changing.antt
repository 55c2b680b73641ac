-- What all units are, as two of them are handed what the other sent.
use Rattle.std.proofs.Common.{◌≡◌, ◌≢◌, ℕ, zero, suc, ◌+◌, ◌<◌, List, [], ◌∷◌, ◌++◌, length, map, get_or, Some, option_map, slice_get, refl, sym, ap, ◌∙◌, subst, arith}
use Rattle.std.specs.Prelude.{slice_set}
use Rattle.std.proofs.lemmas.Option.{slice_get_within, slice_get-get_or}
use native.Mathlib.Decide.{ℕ_discrete}
use Rattle.wf_exchange.specs.Ports.{AllJoined}
use Rattle.wf_exchange.proofs.Places.{got_other, some_same}
use Rattle.wf_actors.specs.declared.unit.UnitActor.{UnitActor}
use Rattle.wf_actors.specs.Pairs.{HasAll, AreApart, IsUnit, AreUnits, TakesOver, AllTakeOver, HasAllOf, ways_of, traffic, traffic_at}
use Rattle.wf_actors.proofs.Pairings.{takes_stay, takes_then, is_unit_stays}

-- A LIST IN WHICH TWO PLACES CHANGED

pub record TwoChange {X : Type 0} (old new : List X) (u v : ℕ) (a b a_now b_now : X) : Type 0 where
  pub first : slice_get old u ≡ Some a
  pub second : slice_get old v ≡ Some b
  pub first_now : slice_get new u ≡ Some a_now
  pub second_now : slice_get new v ≡ Some b_now
  pub others : (x : ℕ) → x ≢ u → x ≢ v → slice_get new x ≡ slice_get old x

module _ {X : Type 0} where
  front_was : (xs ys : List X) (u : ℕ) (d : X) → u < length xs → slice_get (xs ++ ys) u ≡ Some (get_or xs u d)
  front_was [] ys u d lt = absurd (omega arith)
  front_was (x ∷ xs) ys zero d lt = refl
  front_was (x ∷ xs) ys (suc u) d lt = front_was xs ys u d (omega arith)

  back_was : (xs ys : List X) (v : ℕ) (d : X) → length xs ≡ v → 0 < length ys → slice_get (xs ++ ys) v ≡ Some (get_or ys 0 d)
  back_was [] [] v d e lt = absurd (omega arith)
  back_was [] (y ∷ ys) zero d e lt = refl
  back_was [] (y ∷ ys) (suc v) d e lt = absurd (omega arith)
  back_was (x ∷ xs) ys zero d e lt = absurd (omega arith)
  back_was (x ∷ xs) ys (suc v) d e lt = back_was xs ys v d (omega arith) lt

  front_is : (xs ys : List X) (u : ℕ) (y : X) → u < length xs → slice_get (slice_set xs u y ++ ys) u ≡ Some y
  front_is [] ys u y lt = absurd (omega arith)
  front_is (x ∷ xs) ys zero y lt = refl
  front_is (x ∷ xs) ys (suc u) y lt = front_is xs ys u y (omega arith)

  -- the place behind the front, whatever that is
  back_is : (xs ws ys : List X) (v : ℕ) (y : X) → length xs ≡ v → length ws ≡ length xs → 0 < length ys → slice_get (ws ++ slice_set ys 0 y) v ≡ Some y
  back_is xs [] [] v y e l lt = absurd (omega arith)
  back_is xs [] (z ∷ zs) zero y e l lt = refl
  back_is xs [] (z ∷ zs) (suc v) y e l lt = absurd (omega arith)
  back_is [] (w ∷ ws) ys v y e l lt = absurd (omega arith)
  back_is (x ∷ xs) (w ∷ ws) ys zero y e l lt = absurd (omega arith)
  back_is (x ∷ xs) (w ∷ ws) ys (suc v) y e l lt = back_is xs ws ys v y (omega arith) (omega arith) lt

  -- a place that isn't the first one of the back
  back_stays : (xs ys : List X) (v x : ℕ) (b : X) → length xs ≡ v → x ≢ v → slice_get (xs ++ slice_set ys 0 b) x ≡ slice_get (xs ++ ys) x
  back_stays [] ys v x b e n = got_other ys 0 x b (λ z. n (z ∙ e))
  back_stays (k ∷ xs) ys v zero b e n = refl
  back_stays (k ∷ xs) ys zero (suc x) b e n = absurd (omega arith)
  back_stays (k ∷ xs) ys (suc v) (suc x) b e n = back_stays xs ys v x b (omega arith) (λ z. n (ap suc z))

  others_stay : (xs ys : List X) (u v x : ℕ) (a b : X) → length xs ≡ v → x ≢ u → x ≢ v → slice_get (slice_set xs u a ++ slice_set ys 0 b) x ≡ slice_get (xs ++ ys) x
  others_stay [] ys u v x a b e n m = back_stays [] ys v x b e m
  others_stay (k ∷ xs) ys zero v zero a b e n m = absurd (n refl)
  others_stay (k ∷ xs) ys zero zero (suc x) a b e n m = absurd (omega arith)
  others_stay (k ∷ xs) ys zero (suc v) (suc x) a b e n m = back_stays xs ys v x b (omega arith) (λ z. m (ap suc z))
  others_stay (k ∷ xs) ys (suc u) v zero a b e n m = refl
  others_stay (k ∷ xs) ys (suc u) zero (suc x) a b e n m = absurd (omega arith)
  others_stay (k ∷ xs) ys (suc u) (suc v) (suc x) a b e n m = others_stay xs ys u v x a b (omega arith) (λ z. n (ap suc z)) (λ z. m (ap suc z))

  set_length : (xs : List X) (u : ℕ) (y : X) → length (slice_set xs u y) ≡ length xs
  set_length [] u y = refl
  set_length (x ∷ xs) zero y = refl
  set_length (x ∷ xs) (suc u) y = let ih = set_length xs u y in omega arith

  pub two_change : (old front back : List X) (u v : ℕ) (d e a b : X) → old ≡ front ++ back → length front ≡ v → u < length front → 0 < length back
      → TwoChange old (slice_set front u a ++ slice_set back 0 b) u v (get_or front u d) (get_or back 0 e) a b
  two_change old front back u v d e a b parts len lt some =
      record {
        first = ap (λ l. slice_get l u) parts ∙ front_was front back u d lt;
        second = ap (λ l. slice_get l v) parts ∙ back_was front back v e len some;
        first_now = front_is front (slice_set back 0 b) u a lt;
        second_now = back_is front (slice_set front u a) back v b len (set_length front u a) some;
        others = (λ x n m. others_stay front back u v x a b len n m ∙ sym (ap (λ l. slice_get l x) parts));
      }

module _ {D : Type 0} where
  -- SO IT IS WITH THE UNITS

  module _ (old new : List (UnitActor D)) (u v : ℕ) (a b a_now b_now : UnitActor D) (two : TwoChange old new u v a b a_now b_now) where
    pub two_take : TakesOver a a_now → TakesOver b b_now → AllTakeOver old new
    two_take one other = record { each = (λ x was now at at_now. at_place x was now at at_now (ℕ_discrete x u) (ℕ_discrete x v)) }
      where
        at_place : (x : ℕ) (was now : UnitActor D) → slice_get old x ≡ Some was → slice_get new x ≡ Some now → Dec (x ≡ u) → Dec (x ≡ v) → TakesOver was now
        at_place x was now at at_now (yes e) d =
            subst (λ y. TakesOver was y) (some_same a_now now (sym two.first_now ∙ sym (ap (slice_get new) e) ∙ at_now))
            (subst (λ y. TakesOver y a_now) (some_same a was (sym two.first ∙ sym (ap (slice_get old) e) ∙ at)) one)
        at_place x was now at at_now (no n) (yes e) =
            subst (λ y. TakesOver was y) (some_same b_now now (sym two.second_now ∙ sym (ap (slice_get new) e) ∙ at_now))
            (subst (λ y. TakesOver y b_now) (some_same b was (sym two.second ∙ sym (ap (slice_get old) e) ∙ at)) other)
        at_place x was now at at_now (no n) (no m) =
            subst (λ y. TakesOver was y) (some_same was now (sym at ∙ sym (two.others x n m) ∙ at_now)) (takes_stay was)

    first_traffic : (y : ℕ) → traffic_at new u y ≡ Some (traffic a_now y)
    first_traffic y = ap (option_map (λ (actor : UnitActor D). traffic actor y)) two.first_now

    second_traffic : (y : ℕ) → traffic_at new v y ≡ Some (traffic b_now y)
    second_traffic y = ap (option_map (λ (actor : UnitActor D). traffic actor y)) two.second_now

    pub first_has_all : HasAll (traffic a_now v) (traffic b_now u) → HasAllOf new u v
    first_has_all h reader sender at_u at_v =
        subst (λ t. HasAll t sender) (some_same (traffic a_now v) reader (sym (first_traffic v) ∙ at_u))
        (subst (λ t. HasAll (traffic a_now v) t) (some_same (traffic b_now u) sender (sym (second_traffic u) ∙ at_v)) h)

    pub second_has_all : HasAll (traffic b_now u) (traffic a_now v) → HasAllOf new v u
    second_has_all h reader sender at_v at_u =
        subst (λ t. HasAll t sender) (some_same (traffic b_now u) reader (sym (second_traffic u) ∙ at_v))
        (subst (λ t. HasAll (traffic b_now u) t) (some_same (traffic a_now v) sender (sym (first_traffic v) ∙ at_u)) h)

    pub two_others : ((w : ℕ) → w ≢ v → traffic a_now w ≡ traffic a w) → ((w : ℕ) → w ≢ u → traffic b_now w ≡ traffic b w) → (x y : ℕ) → AreApart x y u v → traffic_at new x y ≡ traffic_at old x y
    two_others same_a same_b x y apart = at_place (ℕ_discrete x u) (ℕ_discrete x v)
      where
        at_place : Dec (x ≡ u) → Dec (x ≡ v) → traffic_at new x y ≡ traffic_at old x y
        at_place (yes e) d =
            ap (λ k. traffic_at new k y) e
            ∙ first_traffic y
            ∙ ap Some (same_a y (apart.0 e))
            ∙ sym (ap (option_map (λ (actor : UnitActor D). traffic actor y)) two.first)
            ∙ sym (ap (λ k. traffic_at old k y) e)
        at_place (no n) (yes e) =
            ap (λ k. traffic_at new k y) e
            ∙ second_traffic y
            ∙ ap Some (same_b y (apart.1 e))
            ∙ sym (ap (option_map (λ (actor : UnitActor D). traffic actor y)) two.second)
            ∙ sym (ap (λ k. traffic_at old k y) e)
        at_place (no n) (no m) = ap (option_map (λ (actor : UnitActor D). traffic actor y)) (two.others x n m)

  -- ALL OF THEM, one change after the other

  pub all_stay : (units : List (UnitActor D)) → AllTakeOver units units
  all_stay units = record { each = (λ u old new at at_now. subst (λ y. TakesOver old y) (some_same old new (sym at ∙ at_now)) (takes_stay old)) }

  pub all_then : (a b c : List (UnitActor D)) → length b ≡ length a → AllTakeOver a b → AllTakeOver b c → AllTakeOver a c
  all_then a b c len p q =
      record {
        each = (λ u old new at at_now.
            let between = get_or b u old in
            let here : slice_get b u ≡ Some between = slice_get-get_or b u old (let lt = slice_get_within a u old at in omega (arith, lt, len)) in
            takes_then old between new (p.each u old between at here) (q.each u between new here at_now));
      }

  pub ways_stay : (a b : List (UnitActor D)) → length b ≡ length a → AllTakeOver a b → map ways_of b ≡ map ways_of a
  ways_stay [] [] len all = refl
  ways_stay [] (y ∷ ys) len all = absurd (omega arith)
  ways_stay (x ∷ xs) [] len all = absurd (omega arith)
  ways_stay (x ∷ xs) (y ∷ ys) len all =
      let t = all.each 0 x y refl refl in
      let rest = ways_stay xs ys (omega (arith, len)) (record { each = (λ u old new at at_now. all.each (suc u) old new at at_now) }) in
      λ i. t.rings i ∷ rest i

  pub joined_stay : (a b : List (UnitActor D)) → length b ≡ length a → AllTakeOver a b → AllJoined (map ways_of a) → AllJoined (map ways_of b)
  joined_stay a b len all joined = subst AllJoined (sym (ways_stay a b len all)) joined

  pub units_stay : (a b : List (UnitActor D)) → length b ≡ length a → AllTakeOver a b → AreUnits a → AreUnits b
  units_stay a b len all are u actor at =
      let was = get_or a u actor in
      let here : slice_get a u ≡ Some was = slice_get-get_or a u actor (let lt = slice_get_within b u actor at in omega (arith, lt, len)) in
      subst (λ n. IsUnit n u actor) (sym len) (is_unit_stays (length a) u was actor (all.each u was actor here at) (are u was here))

  -- WHAT THEY HAVE OF EACH OTHER

  pub has_stays : (a b : List (UnitActor D)) (x y : ℕ) → traffic_at b x y ≡ traffic_at a x y → traffic_at b y x ≡ traffic_at a y x → HasAllOf a x y → HasAllOf b x y
  has_stays a b x y same back h reader sender at_x at_y = h reader sender (sym same ∙ at_x) (sym back ∙ at_y)

  -- those of the units below `first` and unit `second`, and then `first` too
  module _ (a b : List (UnitActor D)) (first second : ℕ) (lt : first < second) (others : (x y : ℕ) → AreApart x y first second → traffic_at b x y ≡ traffic_at a x y) where
    before : (k : ℕ) → k < first → traffic_at b k second ≡ traffic_at a k second
    before k below = others k second ((λ e. absurd (omega (arith, e, below))), (λ e. absurd (omega (arith, e, below, lt))))

    behind : (k : ℕ) → k < first → traffic_at b second k ≡ traffic_at a second k
    behind k below = others second k ((λ e. absurd (omega (arith, e, lt))), (λ e f. absurd (omega (arith, f, below))))

    pub first_next : ((k : ℕ) → k < first → HasAllOf a k second) → HasAllOf b first second → (k : ℕ) → k < first + 1 → HasAllOf b k second
    first_next has here k below = at_place (ℕ_discrete k first)
      where
        at_place : Dec (k ≡ first) → HasAllOf b k second
        at_place (yes e) = subst (λ w. HasAllOf b w second) (sym e) here
        at_place (no n) = let under : k < first = omega (arith, below, n) in has_stays a b k second (before k under) (behind k under) (has k under)

    pub second_next : ((k : ℕ) → k < first → HasAllOf a second k) → HasAllOf b second first → (k : ℕ) → k < first + 1 → HasAllOf b second k
    second_next has here k below = at_place (ℕ_discrete k first)
      where
        at_place : Dec (k ≡ first) → HasAllOf b second k
        at_place (yes e) = subst (λ w. HasAllOf b second w) (sym e) here
        at_place (no n) = let under : k < first = omega (arith, below, n) in has_stays a b second k (behind k under) (before k under) (has k under)

    pub others_next : (c : List (UnitActor D)) → ((x y : ℕ) → x ≢ second → y ≢ second → traffic_at a x y ≡ traffic_at c x y) → (x y : ℕ) → x ≢ second → y ≢ second → traffic_at b x y ≡ traffic_at c x y
    others_next c same x y n m = others x y ((λ e. m), (λ e. absurd (n e))) ∙ same x y n m

  -- those of all units below `second`, and then `second` too
  pub all_next : (a b : List (UnitActor D)) (second : ℕ) → ((x y : ℕ) → x ≢ second → y ≢ second → traffic_at b x y ≡ traffic_at a x y)
      → ((k : ℕ) → k < second → HasAllOf b k second) → ((k : ℕ) → k < second → HasAllOf b second k)
      → ((x y : ℕ) → x ≢ y → x < second → y < second → HasAllOf a x y) → (x y : ℕ) → x ≢ y → x < second + 1 → y < second + 1 → HasAllOf b x y
  all_next a b second others first_has second_has has x y apart lt_x lt_y = at_place (ℕ_discrete x second) (ℕ_discrete y second)
    where
      at_place : Dec (x ≡ second) → Dec (y ≡ second) → HasAllOf b x y
      at_place (yes e) (yes f) = absurd (apart (e ∙ sym f))
      at_place (yes e) (no m) = subst (λ w. HasAllOf b w y) (sym e) (second_has y (omega (arith, lt_y, m)))
      at_place (no n) (yes f) = subst (λ w. HasAllOf b x w) (sym f) (first_has x (omega (arith, lt_x, n)))
      at_place (no n) (no m) = has_stays a b x y (others x y n m) (others y x m n) (has x y apart (omega (arith, lt_x, n)) (omega (arith, lt_y, m)))
