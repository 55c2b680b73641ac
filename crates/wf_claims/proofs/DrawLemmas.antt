-- Each step keeps the rule.
use Rattle.std.proofs.Common.{◌≡◌, ℕ, zero, suc, ◌+◌, ◌-◌, ◌*◌, ◌%◌, ◌^◌, ◌<◌, ◌≤◌, List, [], ◌∷◌, ◌++◌, length, set, get_or, sym, refl, ap, ◌∙◌, subst, ⊎_elim, arith, rules, true, false, cond, eqb, ltb, get_or-set_same, length-set, length-append, Bool, mul-le-mul_right}
use mathlib.Core.Option.{some, none, some-injective, some-ne-none}
use lib.ListN.{get_elem?}
use Rattle.atomic_table.specs.Table.{Me, keeps, Allows, Enters, step}
use Rattle.atomic_table.proofs.Lists.{at_set, at_snoc}
use Rattle.wf_claims.specs.Counts.{total, times, once_below}
use Rattle.wf_claims.specs.Draws.{hand, IdleIsEmpty, IsKept, AreDrawn, HasDrawn, IsNobody, left_of, right_of, joined}
use Rattle.atomic_table.specs.Seated.{TableId}
use Rattle.wf_claims.specs.Seats.{IsSound, Source, Drawer, AreCut, AreAt, AreSeatsOf, AreFresh, drawn_times}
use Rattle.wf_claims.specs.declared.rule.Hand.{Hand}
use Rattle.wf_claims.specs.declared.rule.Sizes.{Sizes}

module _ {X : Type 0} (f : X → ℕ) where
  pub total_set : (vs : List X) (i : ℕ) (v w : X) → get_elem? vs i ≡ some v → total f (set vs i w) + f v ≡ total f vs + f w
  total_set [] i v w e = absurd (some-ne-none v (sym e))
  total_set (x ∷ xs) zero v w e = let same : f x ≡ f v = ap f (some-injective x v e) in omega arith
  total_set (x ∷ xs) (suc i) v w e = let ih = total_set xs i v w e in omega arith

  pub total_append : (vs ws : List X) → total f (vs ++ ws) ≡ total f vs + total f ws
  total_append [] ws = omega arith
  total_append (x ∷ xs) ws = let ih = total_append xs ws in omega arith

  -- one item's share is at most the total
  pub part_le : (vs : List X) (i : ℕ) (v : X) → get_elem? vs i ≡ some v → f v ≤ total f vs
  part_le [] i v e = absurd (some-ne-none v (sym e))
  part_le (x ∷ xs) zero v e = let same : f x ≡ f v = ap f (some-injective x v e) in omega arith
  part_le (x ∷ xs) (suc i) v e = let ih = part_le xs i v e in omega arith

  -- all are zero: so is the total
  pub total_zero : (vs : List X) → ((i : ℕ) (v : X) → get_elem? vs i ≡ some v → f v ≡ 0) → total f vs ≡ 0
  total_zero [] h = refl
  total_zero (x ∷ xs) h = let here : f x ≡ 0 = h 0 x refl in let ih = total_zero xs (λ i. h (suc i)) in omega arith

pub once_le : (x n : ℕ) → once_below x n ≤ 1
once_le x n = grind (arith, rules)

-- where n is drawn after all below it, all up to it are drawn
pub once_more : (x n : ℕ) → once_below x n + times x (n ∷ []) ≡ once_below x (n + 1)
once_more x n = grind (arith, rules)

module _ (vs : List Hand) where
  pub idle_set : (i : ℕ) (w : Hand) → (w.parts ≡ 0 → w.drawn ≡ []) → IdleIsEmpty vs → IdleIsEmpty (set vs i w)
  idle_set i w h idle j v at none_left =
      ⊎_elim
      (λ t. let same : w ≡ v = t.1 in subst (λ (u : Hand). u.drawn ≡ []) same (h (ap (λ (u : Hand). u.parts) same ∙ none_left)))
      (λ t. idle j v t.1 none_left)
      (at_set vs i j w v at)

  pub idle_snoc : (w : Hand) → (w.parts ≡ 0 → w.drawn ≡ []) → IdleIsEmpty vs → IdleIsEmpty (vs ++ w ∷ [])
  idle_snoc w h idle j v at none_left =
      ⊎_elim
      (λ e. idle j v e none_left)
      (λ same. subst (λ (u : Hand). u.drawn ≡ []) same (h (ap (λ (u : Hand). u.parts) same ∙ none_left)))
      (at_snoc vs w v j at)

pub times_snoc : (x : ℕ) (xs : List ℕ) (n : ℕ) → times x (xs ++ n ∷ []) ≡ times x xs + times x (n ∷ [])
times_snoc x xs n = total_append (λ y. cond (eqb y x) 1 0) xs (n ∷ [])

-- a draw: the word is n, and becomes n + 1
pub drawn_kept : (seats most n id : ℕ) (v : Hand) (vs : List Hand) → 0 < v.parts → 0 < v.left → get_elem? vs id ≡ some v → IsKept seats most n vs
    → IsKept seats most (n + 1) (set vs id (hand v.limit v.parts (v.left - 1) (v.drawn ++ n ∷ [])))
drawn_kept seats most n id v vs some_part some_left at k =
    let w = hand v.limit v.parts (v.left - 1) (v.drawn ++ n ∷ []) in record {
      parts = (let t = total_set (λ (u : Hand). u.parts) vs id v w at in let p = k.parts in omega arith);
      drawn = (λ x.
          let t = total_set (λ (u : Hand). times x u.drawn) vs id v w at in
          let s = times_snoc x v.drawn n in
          let m = once_more x n in
          let d = k.drawn x in omega arith);
      idle = idle_set vs id w (λ none_left. absurd (omega arith)) k.idle;
      left = (let t = total_set (λ (u : Hand). u.left) vs id v w at in let l = k.left in omega arith);
    }

-- the number found was drawn by no one, and not twice by this seat
pub drawn_once : (seats most n id : ℕ) (v : Hand) (vs : List Hand) → get_elem? vs id ≡ some v → IsKept seats most n vs → (x : ℕ) → times x (v.drawn ++ n ∷ []) ≤ 1
drawn_once seats most n id v vs at k x =
    let p = part_le (λ (u : Hand). times x u.drawn) vs id v at in
    let s = times_snoc x v.drawn n in
    let m = once_more x n in
    let o = once_le x (n + 1) in
    let d = k.drawn x in omega arith

-- seats * (n + 1) is far below 2 ^ 64, so the word doesn't wrap
pub no_wrap : (seats most n id : ℕ) (v : Hand) (vs : List Hand) → most < 2 ^ 64 → 0 < v.left → get_elem? vs id ≡ some v → IsKept seats most n vs → (n + 1) % 2 ^ 64 ≡ n + 1
no_wrap seats most n id v vs small some_left at k =
    let p = part_le (λ (u : Hand). u.left) vs id v at in let l = k.left in omega arith

pub cut_kept : (seats most n id : ℕ) (v : Hand) (vs : List Hand) → 0 < v.parts → v.limit + 1 ≤ v.left → v.drawn ≡ [] → get_elem? vs id ≡ some v → IsKept seats most n vs
    → IsKept seats most n (set vs id (left_of v) ++ right_of v ∷ [])
cut_kept seats most n id v vs some_part enough empty at k =
    record {
      parts = (let t = total_set (λ (u : Hand). u.parts) vs id v (left_of v) at in let a = total_append (λ (u : Hand). u.parts) (set vs id (left_of v)) (right_of v ∷ []) in let p = k.parts in omega arith);
      drawn = (λ x. let t = total_set (λ (u : Hand). times x u.drawn) vs id v (left_of v) at in let a = total_append (λ (u : Hand). times x u.drawn) (set vs id (left_of v)) (right_of v ∷ []) in let d = k.drawn x in omega arith);
      idle = idle_snoc (set vs id (left_of v)) (right_of v) (λ none_left. refl) (idle_set vs id (left_of v) (λ none_left. empty) k.idle);
      left = (let t = total_set (λ (u : Hand). u.left) vs id v (left_of v) at in let a = total_append (λ (u : Hand). u.left) (set vs id (left_of v)) (right_of v ∷ []) in let l = k.left in omega arith);
    }

pub nobody_kept : (seats most n : ℕ) (vs : List Hand) → IsKept seats most n vs → IsKept seats most n (vs ++ hand 0 0 0 [] ∷ [])
nobody_kept seats most n vs k =
    record {
      parts = (let a = total_append (λ (u : Hand). u.parts) vs (hand 0 0 0 [] ∷ []) in let p = k.parts in omega arith);
      drawn = (λ x. let a = total_append (λ (u : Hand). times x u.drawn) vs (hand 0 0 0 [] ∷ []) in let d = k.drawn x in omega arith);
      idle = idle_snoc vs (hand 0 0 0 []) (λ none_left. refl) k.idle;
      left = (let a = total_append (λ (u : Hand). u.left) vs (hand 0 0 0 [] ∷ []) in let l = k.left in omega arith);
    }

pub join_kept : (seats most n id other : ℕ) (v w : Hand) (vs : List Hand) → (v.parts ≡ 0 → v.drawn ≡ []) → (w.parts ≡ 0 → w.drawn ≡ [])
    → get_elem? vs id ≡ some v → get_elem? (set vs id (joined v w)) other ≡ some w → IsKept seats most n vs
    → IsKept seats most n (set (set vs id (joined v w)) other (hand 0 0 0 []))
join_kept seats most n id other v w vs ev ew at at_other k =
    let b = joined v w in
    let z = hand 0 0 0 [] in
    record {
      parts = (let t = total_set (λ (u : Hand). u.parts) vs id v b at in let a = total_set (λ (u : Hand). u.parts) (set vs id b) other w z at_other in let p = k.parts in omega arith);
      drawn = (λ x.
          let t = total_set (λ (u : Hand). times x u.drawn) vs id v b at in
          let a = total_set (λ (u : Hand). times x u.drawn) (set vs id b) other w z at_other in
          let s = total_append (λ y. cond (eqb y x) 1 0) v.drawn w.drawn in
          let d = k.drawn x in omega arith);
      idle = idle_set (set vs id b) other z (λ none_left. refl) (idle_set vs id b (λ none_left. both_empty v w ev ew none_left) k.idle);
      left = (let t = total_set (λ (u : Hand). u.left) vs id v b at in let a = total_set (λ (u : Hand). u.left) (set vs id b) other w z at_other in let l = k.left in omega arith);
    }
  where
    both_empty : (v w : Hand) → (v.parts ≡ 0 → v.drawn ≡ []) → (w.parts ≡ 0 → w.drawn ≡ []) → v.parts + w.parts ≡ 0 → v.drawn ++ w.drawn ≡ []
    both_empty v w ev ew none_left = rw (ev (omega arith)) (ew (omega arith))

-- who has all parts has drawn all numbers
pub all_drawn : (seats most n id : ℕ) (v : Hand) (vs : List Hand) → get_elem? vs id ≡ some v → v.parts ≡ seats → IsKept seats most n vs → (x : ℕ) → times x v.drawn ≡ once_below x n
all_drawn seats most n id v vs at all k x =
    let z = hand 0 0 0 [] in
    let p = total_set (λ (u : Hand). u.parts) vs id v z at in
    let pp = k.parts in
    let d = total_set (λ (u : Hand). times x u.drawn) vs id v z at in
    let rest : total (λ (u : Hand). times x u.drawn) (set vs id z) ≡ 0 =
    total_zero (λ (u : Hand). times x u.drawn) (set vs id z)
    (λ j u e. let q = part_le (λ (u : Hand). u.parts) (set vs id z) j u e in
    let none_left : u.parts ≡ 0 = omega arith in
    ap (times x) (idle_set vs id z (λ h. refl) k.idle j u e none_left)) in
    let kd = k.drawn x in omega arith

-- numbers below n, no one twice, are at most n
one_below : (x n a b c : ℕ) → a ≡ b + c → cond (ltb x (suc n)) 1 0 + a ≡ (cond (ltb x n) 1 0 + b) + (cond (eqb x n) 1 0 + c)
one_below x n a b c e = grind (arith, rules)

below_more : (n : ℕ) (xs : List ℕ) → total (λ y. cond (ltb y (suc n)) 1 0) xs ≡ total (λ y. cond (ltb y n) 1 0) xs + times n xs
below_more n [] = refl
below_more n (x ∷ xs) = one_below x n _ _ _ (below_more n xs)

not_below : (x a : ℕ) → a ≡ 0 → cond (ltb x 0) 1 0 + a ≡ 0
not_below x a e = grind (arith, rules)

none_below : (xs : List ℕ) → total (λ y. cond (ltb y 0) 1 0) xs ≡ 0
none_below [] = refl
none_below (x ∷ xs) = not_below x _ (none_below xs)

at_most : (n : ℕ) (xs : List ℕ) → ((x : ℕ) → times x xs ≤ 1) → total (λ y. cond (ltb y n) 1 0) xs ≤ n
at_most zero xs once = let e = none_below xs in omega arith
at_most (suc n) xs once = let ih = at_most n xs once in let m = below_more n xs in let o = once n in omega arith

here : (x n a : ℕ) → (n ≤ x → cond (eqb x x) 1 0 + a ≡ 0) → ◌≡◌ {A = ℕ} (cond (ltb x n) 1 0) 1
here x n a h = grind (arith, rules)

all_below : (n : ℕ) (xs : List ℕ) → ((x : ℕ) → n ≤ x → times x xs ≡ 0) → total (λ y. cond (ltb y n) 1 0) xs ≡ length xs
all_below n [] h = refl
all_below n (x ∷ xs) h = let ih = all_below n xs (λ y le. let e = h y le in omega arith) in let e = here x n _ (h x) in omega arith

pub fits_below : (n : ℕ) (xs : List ℕ) → ((x : ℕ) → times x xs ≤ 1) → ((x : ℕ) → n ≤ x → times x xs ≡ 0) → length xs ≤ n
fits_below n xs once none_above = let a = at_most n xs once in let b = all_below n xs none_above in omega arith

-- what a fetch_add owes
pub draws : (k : Sizes) (slots id : ℕ) (me : Me ℕ Hand) → 0 < me.0.parts → 0 < me.0.left → k.seats * (k.n + 1) < 2 ^ 64
    → Allows (AreDrawn k) slots id me 0 (λ n. (n + 1) % 2 ^ 64) (HasDrawn (step slots 0 1 0 none) me)
draws k slots id me some_part some_left small s holds homes at word =
    let n = get_or s.words 0 0 in
    let w = hand me.0.limit me.0.parts (me.0.left - 1) (me.0.drawn ++ n ∷ []) in
    let stays : (n + 1) % 2 ^ 64 ≡ n + 1 = no_wrap k.seats (k.seats * (k.n + 1)) n id me.0 s.views small some_left at holds.1 in
    let one : 0 < length s.words = omega (arith, holds.0) in
    let written : get_or (set s.words 0 ((n + 1) % 2 ^ 64)) 0 0 ≡ n + 1 = (rw get_or-set_same refl) ∙ stays in (
      w,
      keeps,
      tt,
      (
        length-set s.words 0 ((n + 1) % 2 ^ 64) ∙ holds.0,
        subst (λ m. IsKept k.seats (k.seats * (k.n + 1)) m (set s.views id w)) (sym written) (drawn_kept k.seats (k.seats * (k.n + 1)) n id me.0 s.views some_part some_left at holds.1),
      ),
      (refl, drawn_once k.seats (k.seats * (k.n + 1)) n id me.0 s.views at holds.1),
    )

above_none : (found limit x a b : ℕ) → found < limit → limit ≤ x → a ≡ 0 → b ≡ a + (cond (eqb found x) 1 0 + 0) → b ≡ 0
above_none found limit x a b l m e s = grind (arith, rules)

-- a seat stays sound over a draw
pub sound_after : (limit found : ℕ) (spent after : Bool) (me new : Me ℕ Hand) → IsSound limit spent me
    → (new ≡ (hand me.0.limit me.0.parts (me.0.left - 1) (me.0.drawn ++ found ∷ []), me.1)) × ((x : ℕ) → times x (me.0.drawn ++ found ∷ []) ≤ 1)
    → 0 < me.0.left → (after ≡ false → (found < limit) × (spent ≡ false)) → IsSound limit after new
sound_after limit found spent after me new s drew some_left inside =
    subst (λ (m : Me ℕ Hand). IsSound limit after m) (sym drew.0) record {
      empty = s.empty;
      limit_is = s.limit_is;
      part = s.part;
      left = (let l = s.left in let a = length-append me.0.drawn (found ∷ []) in omega arith);
      once = drew.1;
      below = (λ e x le. let i = inside e in above_none found limit x _ _ i.0 le (s.below i.1 x le) (times_snoc x me.0.drawn found));
    }

pub true_is_not : true ≡ false → ⊥
true_is_not e = search rules

-- a seat that isn't spent has a draw left: it drew at most limit numbers
pub some_left : (limit : ℕ) (spent : Bool) (me : Me ℕ Hand) → IsSound limit spent me → spent ≡ false → 0 < me.0.left
some_left limit spent me s unspent =
    let few = fits_below limit me.0.drawn s.once (s.below unspent) in
    let l = s.left in omega arith

pub one_share : (parts limit left n : ℕ) → 0 < parts → limit ≡ n → left ≡ parts * (n + 1) → limit + 1 ≤ left
one_share parts limit left n more e l = let m : 1 * (n + 1) ≤ parts * (n + 1) = mul-le-mul_right (n + 1) more in omega arith

pub nobody_enters : (k : Sizes) (slots : ℕ) (me : Me ℕ Hand) → Enters {S = ℕ} (AreDrawn k) slots 0 (λ n w. IsNobody (step slots 0 0 0 none) me n (w, []))
nobody_enters k slots me s holds homes small = (hand 0 0 0 [], (holds.0, nobody_kept _ _ _ s.views holds.1), refl)

pub cut_snoc : (home : TableId) (n : ℕ) (ss : List Drawer) (s : Drawer) → AreCut home n ss → (s.home ≡ home) × (s.limit ≡ n) × (s.spent ≡ false) × (s.drawn ≡ []) → AreCut home n (ss ++ s ∷ [])
cut_snoc home n [] s all one = (one.0, one.1, one.2, one.3, tt)
cut_snoc home n (x ∷ xs) s all one = (all.0, all.1, all.2, all.3, cut_snoc home n xs s all.4 one)

pub at_front : (home : TableId) (ss : List Drawer) (s : Drawer) → AreAt home (ss ++ s ∷ []) → AreAt home ss × (s.home ≡ home)
at_front home [] s all = (tt, all.0)
at_front home (x ∷ xs) s all = let r = at_front home xs s all.1 in ((all.0, r.0), r.1)

pub drawn_snoc : (x : ℕ) (ss : List Drawer) (s : Drawer) → drawn_times x (ss ++ s ∷ []) ≡ drawn_times x ss + times x s.drawn
drawn_snoc x ss s = let t = total_append (λ (d : Drawer). times x d.drawn) ss (s ∷ []) in omega arith

pub seats_of : (c : Source) (home : TableId) (ss : List Drawer) → home ≡ c.home → AreCut home c.n ss → AreSeatsOf c ss × AreFresh ss
seats_of c home [] e h = (tt, tt)
seats_of c home (x ∷ xs) e h = let r = seats_of c home xs e h.4 in (((h.0 ∙ e, h.1), r.0), (h.2, h.3, r.1))

pub homes_of : (c : Source) (ss : List Drawer) → AreSeatsOf c ss → AreAt c.home ss
homes_of c [] h = tt
homes_of c (x ∷ xs) h = (h.0.0, homes_of c xs h.1)

pub first_word : (ws vs : List ℕ) (r : ℕ) → get_elem? ws 0 ≡ some r → vs ≡ ws → get_or vs 0 0 ≡ r
first_word [] vs r e same = absurd (some-ne-none r (sym e))
first_word (x ∷ xs) vs r e same = ap (λ l. get_or l 0 0) same ∙ some-injective x r e

pub times_append : (x : ℕ) (xs ys : List ℕ) → times x (xs ++ ys) ≡ times x xs + times x ys
times_append x xs ys = total_append (λ y. cond (eqb y x) 1 0) xs ys
