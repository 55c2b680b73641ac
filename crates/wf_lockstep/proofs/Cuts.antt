-- Lists of numbers cut by units, and put together again.
use Rattle.std.proofs.Common.{◌≡◌, ℕ, zero, suc, ◌+◌, ◌<◌, ◌≤◌, ◌==◌, ◌||◌, ◌&&◌, cond, Bool, true, false, List, [], ◌∷◌, ◌++◌, filter, flat_map, inl, inr, refl, sym, ap, ap₂, ◌∙◌, arith, eqb-true, eq-eqb, true≢false}
use Rattle.std.specs.List.{list_any, range_with_len}
use Rattle.std.proofs.lemmas.List.{append-nil}
use Rattle.std.proofs.lemmas.List.Elements.{filter-append}
use Rattle.wf_model.proofs.Bools.{Mem, any_agree, any_or, not_true}

any_none : (d : Bool) (x a n : ℕ) → x < a → list_any (λ v. (x == v) && d) (range_with_len a n) ≡ false
any_none d x a zero h = refl
any_none d x a (suc n) h = go (x == a) refl (any_none d x (a + 1) n (omega arith))
  where
    go : (b : Bool) → (x == a) ≡ b → list_any (λ v. (x == v) && d) (range_with_len (a + 1) n) ≡ false → ((b && d) || list_any (λ v. (x == v) && d) (range_with_len (a + 1) n)) ≡ false
    go true e ih = absurd (omega (arith, eqb-true x a e))
    go false e ih = ih

-- just one of the numbers is x
pub any_one : (d : Bool) (x a n : ℕ) → a ≤ x → x < a + n → list_any (λ v. (x == v) && d) (range_with_len a n) ≡ d
any_one d x a zero h k = absurd (omega arith)
any_one d x a (suc n) h k = go (x == a) refl (λ ne. any_one d x (a + 1) n (omega (arith, ne)) (omega arith)) (λ e. any_none d x (a + 1) n (omega (arith, e)))
  where
    rest : Bool
    rest = list_any (λ v. (x == v) && d) (range_with_len (a + 1) n)

    or_false : (d r : Bool) → r ≡ false → (d || r) ≡ d
    or_false true r e = refl
    or_false false r e = e

    go : (b : Bool) → (x == a) ≡ b → ((x ≡ a → ⊥) → rest ≡ d) → (x ≡ a → rest ≡ false) → ((b && d) || rest) ≡ d
    go true e f g = or_false d rest (g (eqb-true x a e))
    go false e f g = f (λ q. true≢false (sym (eq-eqb x a q) ∙ e))

-- a test over numbers, cut by units
pub any_cut : (p : ℕ → Bool) (key : ℕ → ℕ) (n : ℕ) (xs : List ℕ) → ((x : ℕ) → Mem x xs → key x < n) →
    list_any (λ v. list_any p (filter (λ x. key x == v) xs)) (range_with_len 0 n) ≡ list_any p xs
any_cut p key n [] h = none (range_with_len 0 n)
  where
    none : (vs : List ℕ) → list_any (λ v. list_any p (filter (λ x. key x == v) [])) vs ≡ false
    none [] = refl
    none (v ∷ vs) = none vs
any_cut p key n (x ∷ xs) h =
    any_agree (λ v. list_any p (cond (key x == v) (x ∷ cut v) (cut v))) (λ v. ((key x == v) && p x) || list_any p (cut v)) (range_with_len 0 n) (λ v m. step (key x == v) v)
    ∙ any_or (λ v. (key x == v) && p x) (λ v. list_any p (cut v)) (range_with_len 0 n)
    ∙ ap₂ (λ (a b : Bool). a || b) (any_one (p x) (key x) 0 n (omega arith) (omega (arith, h x (inl refl)))) (any_cut p key n xs (λ y m. h y (inr m)))
  where
    cut : ℕ → List ℕ
    cut v = filter (λ x. key x == v) xs

    step : (b : Bool) (v : ℕ) → list_any p (cond b (x ∷ cut v) (cut v)) ≡ ((b && p x) || list_any p (cut v))
    step true v = refl
    step false v = refl

abbrev pub total : (ℕ → ℕ) → List ℕ → ℕ
total g [] = 0
total g (x ∷ xs) = g x + total g xs

pub total_agree : (f g : ℕ → ℕ) (xs : List ℕ) → ((x : ℕ) → Mem x xs → f x ≡ g x) → total f xs ≡ total g xs
total_agree f g [] h = refl
total_agree f g (x ∷ xs) h = ap₂ (λ (a b : ℕ). a + b) (h x (inl refl)) (total_agree f g xs (λ y k. h y (inr k)))

total_zero : (x d a n : ℕ) → x < a → total (λ v. cond (x == v) d 0) (range_with_len a n) ≡ 0
total_zero x d a zero l = refl
total_zero x d a (suc n) l = ap (λ (b : Bool). cond b d 0 + total (λ v. cond (x == v) d 0) (range_with_len (a + 1) n)) (not_true (x == a) (λ e. omega (arith, eqb-true x a e))) ∙ (let ih : total (λ v. cond (x == v) d 0) (range_with_len (a + 1) n) ≡ 0 = total_zero x d (a + 1) n (omega arith) in omega arith)

total_one : (x d a n : ℕ) → a ≤ x → x < a + n → total (λ v. cond (x == v) d 0) (range_with_len a n) ≡ d
total_one x d a zero h k = absurd (omega arith)
total_one x d a (suc n) h k = go (x == a) refl (λ ne. total_one x d (a + 1) n (omega (arith, ne)) (omega arith)) (λ e. total_zero x d (a + 1) n (omega (arith, e)))
  where
    rest : ℕ
    rest = total (λ v. cond (x == v) d 0) (range_with_len (a + 1) n)

    go : (b : Bool) → (x == a) ≡ b → ((x ≡ a → ⊥) → rest ≡ d) → (x ≡ a → rest ≡ 0) → cond b d 0 + rest ≡ d
    go true e f g = let q : rest ≡ 0 = g (eqb-true x a e) in omega arith
    go false e f g = let q : rest ≡ d = f (λ q. true≢false (sym (eq-eqb x a q) ∙ e)) in omega arith

total_plus : (f g : ℕ → ℕ) (xs : List ℕ) → total (λ x. f x + g x) xs ≡ total f xs + total g xs
total_plus f g [] = refl
total_plus f g (x ∷ xs) = let ih : total (λ x. f x + g x) xs ≡ total f xs + total g xs = total_plus f g xs in omega arith

-- a sum, cut by units
pub total_cut : (g : ℕ → ℕ) (key : ℕ → ℕ) (n : ℕ) (xs : List ℕ) → ((x : ℕ) → Mem x xs → key x < n) → total (λ v. total g (filter (λ x. key x == v) xs)) (range_with_len 0 n) ≡ total g xs
total_cut g key n [] h = none (range_with_len 0 n)
  where
    none : (vs : List ℕ) → total (λ v. total g (filter (λ x. key x == v) [])) vs ≡ 0
    none [] = refl
    none (v ∷ vs) = let ih : total (λ v. total g (filter (λ x. key x == v) [])) vs ≡ 0 = none vs in omega arith
total_cut g key n (x ∷ xs) h =
    total_agree (λ v. total g (cond (key x == v) (x ∷ cut v) (cut v))) (λ v. cond (key x == v) (g x) 0 + total g (cut v)) (range_with_len 0 n) (λ v m. step (key x == v) v)
    ∙ total_plus (λ v. cond (key x == v) (g x) 0) (λ v. total g (cut v)) (range_with_len 0 n)
    ∙ ap₂ (λ (a b : ℕ). a + b) (total_one (key x) (g x) 0 n (omega arith) (omega (arith, h x (inl refl)))) (total_cut g key n xs (λ y m. h y (inr m)))
  where
    cut : ℕ → List ℕ
    cut v = filter (λ x. key x == v) xs

    step : (b : Bool) (v : ℕ) → total g (cond b (x ∷ cut v) (cut v)) ≡ cond b (g x) 0 + total g (cut v)
    step true v = refl
    step false v = omega arith

flat_none : (l : List ℕ) (x a n : ℕ) → x < a → flat_map (λ v. cond (x == v) l []) (range_with_len a n) ≡ []
flat_none l x a zero h = refl
flat_none l x a (suc n) h = ap (λ (b : Bool). cond b l [] ++ flat_map (λ v. cond (x == v) l []) (range_with_len (a + 1) n)) (not_true (x == a) (λ e. omega (arith, eqb-true x a e))) ∙ flat_none l x (a + 1) n (omega arith)

flat_one : (l : List ℕ) (x a n : ℕ) → a ≤ x → x < a + n → flat_map (λ v. cond (x == v) l []) (range_with_len a n) ≡ l
flat_one l x a zero h k = absurd (omega arith)
flat_one l x a (suc n) h k = go (x == a) refl (λ ne. flat_one l x (a + 1) n (omega (arith, ne)) (omega arith)) (λ e. flat_none l x (a + 1) n (omega (arith, e)))
  where
    rest : List ℕ
    rest = flat_map (λ v. cond (x == v) l []) (range_with_len (a + 1) n)

    go : (b : Bool) → (x == a) ≡ b → ((x ≡ a → ⊥) → rest ≡ l) → (x ≡ a → rest ≡ []) → cond b l [] ++ rest ≡ l
    go true e f g = ap (λ (r : List ℕ). l ++ r) (g (eqb-true x a e)) ∙ append-nil l
    go false e f g = f (λ q. true≢false (sym (eq-eqb x a q) ∙ e))

-- number t among the units' lists is as it is among all
pub one_cut : (t : ℕ) (key : ℕ → ℕ) (n : ℕ) (xs : List ℕ) → key t < n → filter (λ x. x == t) (flat_map (λ v. filter (λ x. key x == v) xs) (range_with_len 0 n)) ≡ filter (λ x. x == t) xs
one_cut t key n xs lt = flat_filter (range_with_len 0 n) ∙ flat_same (range_with_len 0 n) ∙ flat_one (filter (λ x. x == t) xs) (key t) 0 n (omega arith) (omega arith)
  where
    flat_filter : (vs : List ℕ) → filter (λ x. x == t) (flat_map (λ v. filter (λ x. key x == v) xs) vs) ≡ flat_map (λ v. filter (λ x. x == t) (filter (λ x. key x == v) xs)) vs
    flat_filter [] = refl
    flat_filter (v ∷ vs) =
        filter-append (λ x. x == t) (filter (λ x. key x == v) xs) (flat_map (λ v. filter (λ x. key x == v) xs) vs)
        ∙ ap (λ (l : List ℕ). filter (λ x. x == t) (filter (λ x. key x == v) xs) ++ l) (flat_filter vs)

    one : (v : ℕ) (ys : List ℕ) → filter (λ x. x == t) (filter (λ x. key x == v) ys) ≡ cond (key t == v) (filter (λ x. x == t) ys) []
    one v [] = empty (key t == v)
      where
        empty : (b : Bool) → ◌≡◌ {A = List ℕ} [] (cond b [] [])
        empty true = refl
        empty false = refl
    one v (y ∷ ys) = step (key y == v) refl (y == t) refl (key t == v) refl (one v ys)
      where
        step : (a : Bool) → (key y == v) ≡ a → (b : Bool) → (y == t) ≡ b → (c : Bool) → (key t == v) ≡ c → filter (λ x. x == t) (filter (λ x. key x == v) ys) ≡ cond c (filter (λ x. x == t) ys) [] →
            filter (λ x. x == t) (cond a (y ∷ filter (λ x. key x == v) ys) (filter (λ x. key x == v) ys)) ≡ cond c (cond b (y ∷ filter (λ x. x == t) ys) (filter (λ x. x == t) ys)) []
        step true p true q true r ih = ap (λ (b : Bool). cond b (y ∷ filter (λ x. x == t) (filter (λ x. key x == v) ys)) (filter (λ x. x == t) (filter (λ x. key x == v) ys))) q ∙ ap (λ (l : List ℕ). y ∷ l) ih
        step true p true q false r ih = absurd (true≢false (sym p ∙ ap (λ (z : ℕ). key z == v) (eqb-true y t q) ∙ r))
        step true p false q c r ih = ap (λ (b : Bool). cond b (y ∷ filter (λ x. x == t) (filter (λ x. key x == v) ys)) (filter (λ x. x == t) (filter (λ x. key x == v) ys))) q ∙ ih
        step false p true q true r ih = absurd (true≢false (sym r ∙ ap (λ (z : ℕ). key z == v) (sym (eqb-true y t q)) ∙ p))
        step false p true q false r ih = ih
        step false p false q c r ih = ih

    flat_same : (vs : List ℕ) → flat_map (λ v. filter (λ x. x == t) (filter (λ x. key x == v) xs)) vs ≡ flat_map (λ v. cond (key t == v) (filter (λ x. x == t) xs) []) vs
    flat_same [] = refl
    flat_same (v ∷ vs) = ap₂ (λ (a b : List ℕ). a ++ b) (one v xs) (flat_same vs)
