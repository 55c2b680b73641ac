-- Filters and searches over a range of numbers.
use Rattle.std.proofs.Common.{◌≡◌, ℕ, zero, suc, ◌+◌, ◌<◌, ◌≤◌, ◌==◌, cond, ◌⊎◌, Bool, true, false, List, [], ◌∷◌, Some, None, filter, find, inl, inr, refl, sym, ap, ◌∙◌, arith, eqb-true, eq-eqb, true≢false}
use Rattle.std.specs.List.{range_with_len}
use Rattle.wf_model.specs.Tree.{is_among}
use Rattle.wf_model.proofs.Bools.{Mem, or_cases, or_left, or_right}

pub among_mem : (ns : List ℕ) (n : ℕ) → is_among ns n ≡ true → Mem n ns
among_mem [] n h = true≢false (sym h)
among_mem (m ∷ ns) n h = elim (or_cases (m == n) (is_among ns n) h) [ inl e ↦ inl (eqb-true m n e) | inr r ↦ inr (among_mem ns n r) ]

pub mem_among : (ns : List ℕ) (n : ℕ) → Mem n ns → is_among ns n ≡ true
mem_among [] n h = absurd h
mem_among (m ∷ ns) n h = elim h [ inl e ↦ or_left (m == n) (is_among ns n) (eq-eqb m n e) | inr r ↦ or_right (m == n) (is_among ns n) (mem_among ns n r) ]

pub mem_range : (a n t : ℕ) → a ≤ t → t < a + n → Mem t (range_with_len a n)
mem_range a zero t h k = absurd (omega arith)
mem_range a (suc n) t h k = near (a == t) refl (λ ne. mem_range (a + 1) n t (omega (arith, ne)) (omega arith))
  where
    near : (b : Bool) → (a == t) ≡ b → ((a ≡ t → ⊥) → Mem t (range_with_len (a + 1) n)) → (a ≡ t) ⊎ Mem t (range_with_len (a + 1) n)
    near true e f = inl (eqb-true a t e)
    near false e f = inr (f (λ q. true≢false (sym (eq-eqb a t q) ∙ e)))

pub range_mem : (a n t : ℕ) → Mem t (range_with_len a n) → (a ≤ t) × (t < a + n)
range_mem a zero t m = absurd m
range_mem a (suc n) t m = elim m [ inl e ↦ (omega arith, omega arith) | inr r ↦ let w = range_mem (a + 1) n t r in (omega arith, omega arith) ]

pub mem_filter : (p : ℕ → Bool) (xs : List ℕ) (t : ℕ) → Mem t xs → p t ≡ true → Mem t (filter p xs)
mem_filter p [] t m h = m
mem_filter p (x ∷ xs) t m h = by_test (p x) refl m (λ r. mem_filter p xs t r h)
  where
    by_test : (b : Bool) → p x ≡ b → (x ≡ t) ⊎ Mem t xs → (Mem t xs → Mem t (filter p xs)) → Mem t (cond b (x ∷ filter p xs) (filter p xs))
    by_test true e k f = elim k [ inl q ↦ inl q | inr r ↦ inr (f r) ]
    by_test false e k f = elim k [ inl q ↦ absurd (true≢false (sym h ∙ (ap p (sym q) ∙ e))) | inr r ↦ f r ]

pub filter_mem : (p : ℕ → Bool) (xs : List ℕ) (t : ℕ) → Mem t (filter p xs) → Mem t xs × (p t ≡ true)
filter_mem p [] t m = absurd m
filter_mem p (x ∷ xs) t m = by_test (p x) refl m (filter_mem p xs t)
  where
    by_test : (b : Bool) → p x ≡ b → Mem t (cond b (x ∷ filter p xs) (filter p xs)) → (Mem t (filter p xs) → Mem t xs × (p t ≡ true)) → ((x ≡ t) ⊎ Mem t xs) × (p t ≡ true)
    by_test true e k f = elim k [ inl q ↦ (inl q, ap p (sym q) ∙ e) | inr r ↦ (inr (f r).0, (f r).1) ]
    by_test false e k f = (inr (f k).0, (f k).1)

pub find_some : (p : ℕ → Bool) (xs : List ℕ) (t : ℕ) → find p xs ≡ Some t → Mem t xs × (p t ≡ true)
find_some p [] t e = absurd (none_some e)
  where
    none_some : None ≡ Some t → ⊥
    none_some q = cc
find_some p (x ∷ xs) t e = by_test (p x) refl e (find_some p xs t)
  where
    by_test : (b : Bool) → p x ≡ b → cond b (Some x) (find p xs) ≡ Some t → (find p xs ≡ Some t → Mem t xs × (p t ≡ true)) → ((x ≡ t) ⊎ Mem t xs) × (p t ≡ true)
    by_test true q k f = let e : x ≡ t = cc in (inl e, ap p (sym e) ∙ q)
    by_test false q k f = (inr (f k).0, (f k).1)

pub find_none : (p : ℕ → Bool) (xs : List ℕ) → find p xs ≡ None → (t : ℕ) → Mem t xs → p t ≡ true → ⊥
find_none p [] e t m h = m
find_none p (x ∷ xs) e t m h = by_test (p x) refl e (λ k. find_none p xs k t)
  where
    by_test : (b : Bool) → p x ≡ b → cond b (Some x) (find p xs) ≡ None → (find p xs ≡ None → Mem t xs → p t ≡ true → ⊥) → ⊥
    by_test true q k f = cc
    by_test false q k f = elim m [ inl w ↦ true≢false (sym h ∙ (ap p (sym w) ∙ q)) | inr r ↦ f k r h ]

pub find_least : (p : ℕ → Bool) (a n t : ℕ) → find p (range_with_len a n) ≡ Some t → (b : ℕ) → Mem b (range_with_len a n) → p b ≡ true → t ≤ b
find_least p a zero t e b m h = absurd m
find_least p a (suc n) t e b m h = by_test (p a) refl e (λ k r. find_least p (a + 1) n t k b r h)
  where
    by_test : (c : Bool) → p a ≡ c → cond c (Some a) (find p (range_with_len (a + 1) n)) ≡ Some t → (find p (range_with_len (a + 1) n) ≡ Some t → Mem b (range_with_len (a + 1) n) → t ≤ b) → t ≤ b
    by_test true q k f = let e : a ≡ t = cc in elim m [ inl w ↦ omega arith | inr r ↦ let z = range_mem (a + 1) n b r in omega arith ]
    by_test false q k f = elim m [ inl w ↦ absurd (true≢false (sym h ∙ (ap p (sym w) ∙ q))) | inr r ↦ f k r ]

pub filter_agree : (p q : ℕ → Bool) (xs : List ℕ) → ((t : ℕ) → Mem t xs → p t ≡ q t) → filter p xs ≡ filter q xs
filter_agree p q [] h = refl
filter_agree p q (x ∷ xs) h =
    ap (λ (b : Bool). cond b (x ∷ filter p xs) (filter p xs)) (h x (inl refl))
    ∙ ap (λ (ys : List ℕ). cond (q x) (x ∷ ys) ys) (filter_agree p q xs (λ t m. h t (inr m)))

pub find_no : (q : ℕ → Bool) (ks : List ℕ) → ((k : ℕ) → Mem k ks → q k ≡ false) → find q ks ≡ None
find_no q [] h = refl
find_no q (k ∷ ks) h = ap (λ (b : Bool). cond b (Some k) (find q ks)) (h k (inl refl)) ∙ find_no q ks (λ x m. h x (inr m))
