-- The pending completions are found when one entry more is pending.
use Rattle.std.proofs.Common.{◌≡◌, ℕ, ◌==◌, ◌&&◌, ◌||◌, cond, Bool, true, false, List, [], ◌∷◌, ◌++◌, Option, Some, None, refl, sym, ◌∙◌, ap}
use Rattle.std.specs.List.{list_any}
use Rattle.wf_model.specs.declared.outer.Outer.{Outer}
use Rattle.wf_model.specs.declared.outer.Outer.TheVariants.{Happen, Complete}
use Rattle.wf_model.specs.declared.outer.Entry.{Entry}
use Rattle.wf_semantics.specs.Admission.{completes, is_pending}
use Rattle.wf_central.specs.Found.{completed_by, AreFound}

any_more : (p : Entry → Bool) (es : List Entry) (x : Entry) → list_any p (es ++ x ∷ []) ≡ cond (p x) true (list_any p es)
any_more p [] x = go (p x)
  where
    go : (b : Bool) → (b || false) ≡ cond b true false
    go true = refl
    go false = refl
any_more p (e ∷ es) x = ap (λ (b : Bool). p e || b) (any_more p es x) ∙ go (p e) (p x)
  where
    go : (a b : Bool) → (a || cond b true (list_any p es)) ≡ cond b true (a || list_any p es)
    go true true = refl
    go true false = refl
    go false true = refl
    go false false = refl

-- whether an entry completes unit u's item n
abbrev is_key : Option (ℕ × ℕ) → ℕ → ℕ → Bool
is_key None u n = false
is_key (Some key) u n = (key.0 == u) && (key.1 == n)

and_false : (b : Bool) → (b && false) ≡ false
and_false true = refl
and_false false = refl

by_key : (x : Entry) (u n : ℕ) → ((x.unit.0 == u) && completes n x.outer) ≡ is_key (completed_by x.unit.0 x.outer) u n
by_key x u n = go x.outer
  where
    go : (o : Outer) → ((x.unit.0 == u) && completes n o) ≡ is_key (completed_by x.unit.0 o) u n
    go (Happen e) = and_false (x.unit.0 == u)
    go (Complete m a outputs) = refl

pending_more : (entries : List Entry) (x : Entry) (o : Option (ℕ × ℕ)) (u n : ℕ) → o ≡ completed_by x.unit.0 x.outer → is_pending (entries ++ x ∷ []) u n ≡ cond (is_key o u n) true (is_pending entries u n)
pending_more entries x o u n e =
    any_more (λ (y : Entry). (y.unit.0 == u) && completes n y.outer) entries x
    ∙ ap (λ (b : Bool). cond b true (is_pending entries u n)) (by_key x u n ∙ ap (λ (k : Option (ℕ × ℕ)). is_key k u n) (sym e))

-- the same keys in another order
pub found_still : (keys after : List (ℕ × ℕ)) (entries : List Entry) → AreFound keys entries
    → ((q : ℕ × ℕ) → list_any (λ k. (q.0 == k.0) && (q.1 == k.1)) after ≡ list_any (λ k. (q.0 == k.0) && (q.1 == k.1)) keys) → AreFound after entries
found_still keys after entries found same u n = same (u, n) ∙ found u n

-- an entry more that completes nothing
pub found_none : (keys : List (ℕ × ℕ)) (entries more : List Entry) (x : Entry) → AreFound keys entries → more ≡ entries ++ x ∷ [] → None ≡ completed_by x.unit.0 x.outer → AreFound keys more
found_none keys entries more x found is none u n =
    found u n ∙ sym (pending_more entries x None u n none) ∙ ap (λ (es : List Entry). is_pending es u n) (sym is)

-- an entry more whose item is among the keys then
pub found_more : (keys after : List (ℕ × ℕ)) (entries more : List Entry) (x : Entry) (key : ℕ × ℕ) → AreFound keys entries → more ≡ entries ++ x ∷ [] → Some key ≡ completed_by x.unit.0 x.outer
    → ((q : ℕ × ℕ) → list_any (λ k. (q.0 == k.0) && (q.1 == k.1)) after ≡ cond ((key.0 == q.0) && (key.1 == q.1)) true (list_any (λ k. (q.0 == k.0) && (q.1 == k.1)) keys)) → AreFound after more
found_more keys after entries more x key found is some updates u n =
    updates (u, n)
    ∙ ap (λ (b : Bool). cond ((key.0 == u) && (key.1 == n)) true b) (found u n)
    ∙ sym (pending_more entries x (Some key) u n some)
    ∙ ap (λ (es : List Entry). is_pending es u n) (sym is)
