-- Which write stays, by rule: of those by the transition of greatest number the last.
use Rattle.std.proofs.Common.{◌≡◌, ◌⊎◌, ℕ, ◌<◌, ◌≤◌, ◌==◌, Bool, true, false, cond, List, [], ◌∷◌, ◌++◌, filter, fold, Option, Some, None, nat_lt, ltb-true, ltb-false, inl, inr, refl, sym, ap, subst, ◌∙◌, arith}
use Rattle.std.specs.List.{last_or}
use Rattle.std.proofs.lemmas.List.{append-nil, append_assoc}
use Rattle.std.proofs.lemmas.List.Elements.{filter-append}
use Rattle.std.proofs.lemmas.Bool.{cases_order}
use Rattle.std.proofs.lemmas.Bool.Decides.{nat_tests}
use Rattle.wf_model.specs.declared.update.Write.{Write}
use Rattle.wf_actions.specs.Writes.{over, winner, of_variable, by_transition}

last_snoc : (o : Option Write) (ws : List Write) (w : Write) → last_or o (ws ++ w ∷ []) ≡ Some w
last_snoc o [] w = refl
last_snoc o (v ∷ ws) w = last_snoc (Some v) ws w

-- w is by the greatest transition of these writes, and the last by that one
abbrev Best : Option Write → List Write → Type 0
Best None ws = (t : ℕ) → by_transition t ws ≡ []
Best (Some w) ws = ((t : ℕ) → w.trans.0 < t → by_transition t ws ≡ []) × (last_or None (by_transition w.trans.0 ws) ≡ Some w)

by_snoc : (t : ℕ) (ws : List Write) (w : Write) → by_transition t (ws ++ w ∷ []) ≡ by_transition t ws ++ cond (w.trans.0 == t) (w ∷ []) []
by_snoc t ws w = filter-append (λ write. write.trans.0 == t) ws (w ∷ [])

by_other : (t : ℕ) (ws : List Write) (w : Write) → (w.trans.0 == t) ≡ false → by_transition t (ws ++ w ∷ []) ≡ by_transition t ws
by_other t ws w e = by_snoc t ws w ∙ ap (λ (b : Bool). by_transition t ws ++ cond b (w ∷ []) []) e ∙ append-nil (by_transition t ws)

by_own : (ws : List Write) (w : Write) → last_or None (by_transition w.trans.0 (ws ++ w ∷ [])) ≡ Some w
by_own ws w =
    let own : (w.trans.0 == w.trans.0) ≡ true = grind (arith, nat_tests) in
    ap (λ (l : List Write). last_or None l) (by_snoc w.trans.0 ws w ∙ ap (λ (b : Bool). by_transition w.trans.0 ws ++ cond b (w ∷ []) []) own) ∙ last_snoc None (by_transition w.trans.0 ws) w

best_push : (o : Option Write) (ws : List Write) (w : Write) → Best o ws → Best (over o w) (ws ++ w ∷ [])
best_push None ws w h =
    ((λ t l. let off : (w.trans.0 == t) ≡ false = grind (arith, nat_tests) in by_other t ws w off ∙ h t), by_own ws w)
best_push (Some u) ws w h = go (nat_lt w.trans.0 u.trans.0) refl
  where
    go : (b : Bool) → nat_lt w.trans.0 u.trans.0 ≡ b → Best (cond b (Some u) (Some w)) (ws ++ w ∷ [])
    go true e =
        let below : w.trans.0 < u.trans.0 = ltb-true w.trans.0 u.trans.0 e in
        let off : (w.trans.0 == u.trans.0) ≡ false = grind (arith, nat_tests) in (
          (λ t l. let other : (w.trans.0 == t) ≡ false = grind (arith, nat_tests) in by_other t ws w other ∙ h.0 t l),
          ap (λ (l : List Write). last_or None l) (by_other u.trans.0 ws w off) ∙ h.1,
        )
    go false e =
        let above : u.trans.0 ≤ w.trans.0 = ltb-false w.trans.0 u.trans.0 e in
        ((λ t l. let other : (w.trans.0 == t) ≡ false = grind (arith, nat_tests) in by_other t ws w other ∙ h.0 t (omega arith)), by_own ws w)

best_fold : (ws : List Write) (o : Option Write) (before : List Write) → Best o before → Best (fold over o ws) (before ++ ws)
best_fold [] o before h = subst (λ (l : List Write). Best o l) (sym (append-nil before)) h
best_fold (w ∷ ws) o before h =
    subst (λ (l : List Write). Best (fold over (over o w) ws) l) (append_assoc before (w ∷ []) ws) (best_fold ws (over o w) (before ++ w ∷ []) (best_push o before w h))

best_winner : (x : ℕ) (ws : List Write) → Best (winner x ws) (of_variable x ws)
best_winner x ws = best_fold (of_variable x ws) None [] (λ t. refl)

pub by_rule : (x : ℕ) (ws : List Write) (w : Write) → winner x ws ≡ Some w → ((t : ℕ) → w.trans.0 < t → by_transition t (of_variable x ws) ≡ []) × (last_or None (by_transition w.trans.0 (of_variable x ws)) ≡ Some w)
by_rule x ws w e = subst (λ (o : Option Write). Best o (of_variable x ws)) e (best_winner x ws)

nothing_last : (ws : List Write) (w : Write) → ws ≡ [] → last_or None ws ≡ Some w → ⊥
nothing_last ws w e l = let none : last_or None [] ≡ Some w = subst (λ (l : List Write). last_or None l ≡ Some w) e l in cc

-- the rule leaves no choice
one_best : (o p : Option Write) (ws vs : List Write) → Best o ws → Best p vs → ((t : ℕ) → by_transition t ws ≡ by_transition t vs) → o ≡ p
one_best None None ws vs a b e = refl
one_best None (Some v) ws vs a b e = absurd (nothing_last (by_transition v.trans.0 vs) v (sym (e v.trans.0) ∙ a v.trans.0) b.1)
one_best (Some w) None ws vs a b e = absurd (nothing_last (by_transition w.trans.0 ws) w (e w.trans.0 ∙ b w.trans.0) a.1)
one_best (Some w) (Some v) ws vs a b e = go (cases_order w.trans.0 v.trans.0)
  where
    go : (w.trans.0 ≡ v.trans.0) ⊎ ((w.trans.0 < v.trans.0) ⊎ (v.trans.0 < w.trans.0)) → Some w ≡ Some v
    go (inl same) = sym a.1 ∙ ap (λ (l : List Write). last_or None l) (e w.trans.0 ∙ ap (λ (t : ℕ). by_transition t vs) same) ∙ b.1
    go (inr (inl l)) = absurd (nothing_last (by_transition v.trans.0 vs) v (sym (e v.trans.0) ∙ a.0 v.trans.0 l) b.1)
    go (inr (inr l)) = absurd (nothing_last (by_transition w.trans.0 ws) w (e w.trans.0 ∙ b.0 w.trans.0 l) a.1)

filter_twice : (p q : Write → Bool) (ws : List Write) → filter p (filter q ws) ≡ filter q (filter p ws)
filter_twice p q [] = refl
filter_twice p q (w ∷ ws) = go (p w) refl (q w) refl (filter_twice p q ws)
  where
    go : (a : Bool) → p w ≡ a → (b : Bool) → q w ≡ b → filter p (filter q ws) ≡ filter q (filter p ws) → filter p (cond b (w ∷ filter q ws) (filter q ws)) ≡ filter q (cond a (w ∷ filter p ws) (filter p ws))
    go true e true f rest = rw (e, f) (ap (λ (l : List Write). w ∷ l) rest)
    go true e false f rest = rw f rest
    go false e true f rest = rw e rest
    go false e false f rest = rest

-- where each transition's writes are the same, in order, the same stays of each variable
pub same_winner : (ws vs : List Write) → ((t : ℕ) → by_transition t ws ≡ by_transition t vs) → (x : ℕ) → winner x ws ≡ winner x vs
same_winner ws vs e x =
    one_best (winner x ws) (winner x vs) (of_variable x ws) (of_variable x vs) (best_winner x ws) (best_winner x vs)
    (λ t. filter_twice (λ write. write.trans.0 == t) (λ write. write.var.0 == x) ws ∙ ap (of_variable x) (e t)
    ∙ filter_twice (λ write. write.var.0 == x) (λ write. write.trans.0 == t) vs)
