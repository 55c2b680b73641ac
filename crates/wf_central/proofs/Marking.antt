-- Events that are marked one by one.
use Rattle.std.proofs.Common.{◌≡◌, ℕ, zero, suc, ◌+◌, ◌<◌, ◌==◌, ◌||◌, cond, Bool, true, false, List, [], ◌∷◌, length, map, take, get_or, set, inl, inr, refl, sym, ◌∙◌, ap, arith, eqb-true}
use Rattle.std.specs.Prelude.{replicate}
use Rattle.std.specs.List.{list_any, range_with_len}
use Rattle.std.proofs.lemmas.List.{set_past}
use Rattle.wf_model.specs.declared.ids.EventId.{EventId}
use Rattle.wf_model.specs.declared.outer.Outer.{Outer}
use Rattle.wf_model.specs.declared.outer.Outer.TheVariants.{Happen}
use Rattle.wf_model.specs.declared.outer.Entry.{Entry}
use Rattle.wf_semantics.specs.Run.{is_happening}
use Rattle.wf_model.proofs.Bools.{not_true}
use Rattle.wf_semantics.proofs.Children.{lt_or_ge}
use Rattle.wf_model.proofs.Rows.{put, row_agree, row_len, row_set}
use Rattle.wf_central.specs.Sight.{was_raised}
use Rattle.wf_scopes.proofs.DefaultIn.{flip}

or_false : (b : Bool) → (b || false) ≡ b
or_false true = refl
or_false false = refl

or_true : (b : Bool) → (b || true) ≡ true
or_true true = refl
or_true false = refl

or_assoc : (a b c : Bool) → (a || (b || c)) ≡ ((a || b) || c)
or_assoc true b c = refl
or_assoc false b c = refl

-- before the first mark
none_from : (a n : ℕ) → replicate n false ≡ map (λ e. false) (range_with_len a n)
none_from a zero = refl
none_from a (suc n) = ap (λ (l : List Bool). false ∷ l) (none_from (a + 1) n)

pub none_marked : (n : ℕ) → replicate n false ≡ map (was_raised []) (range_with_len 0 n)
none_marked n = none_from 0 n

-- one more
any_suc : {A : Type 0} (p : A → Bool) (xs : List A) (i : ℕ) (d : A) → i < length xs → list_any p (take (suc i) xs) ≡ (list_any p (take i xs) || p (get_or xs i d))
any_suc p [] i d lt = absurd (omega arith)
any_suc p (y ∷ ys) zero d lt = or_false (p y)
any_suc p (y ∷ ys) (suc i) d lt = ap (λ (b : Bool). p y || b) (any_suc p ys i d (omega arith)) ∙ or_assoc (p y) (list_any p (take i ys)) (p (get_or ys i d))

any_more : {A : Type 0} (p : A → Bool) (xs : List A) (i : ℕ) (d : A) → i < length xs → list_any p (take (i + 1) xs) ≡ (list_any p (take i xs) || p (get_or xs i d))
any_more p xs i d lt = let n : i + 1 ≡ suc i = omega arith in ap (λ k. list_any p (take k xs)) n ∙ any_suc p xs i d lt

-- a mark
marked_at : (f g : ℕ → Bool) (n k : ℕ) (bits : List Bool) → bits ≡ map f (range_with_len 0 n) → ((e : ℕ) → g e ≡ (f e || (k == e))) → set bits k true ≡ map g (range_with_len 0 n)
marked_at f g n k bits rows more = elim (lt_or_ge k n) [
  | inl lt ↦ row_set f n k true bits rows lt ∙ row_agree (put f k true) g n (λ e l. here e (e == k) refl ∙ sym (more e))
  | inr ge ↦ set_past bits k true (omega (arith, row_len f n bits rows)) ∙ rows ∙ row_agree f g n (λ e l. sym (more e ∙ ap (λ (b : Bool). f e || b) (not_true (k == e) (λ h. absurd (omega (arith, eqb-true k e h)))) ∙ or_false (f e)))
]
  where
    here : (e : ℕ) (b : Bool) → (e == k) ≡ b → cond (e == k) true (f e) ≡ (f e || (k == e))
    here e true q = ap (λ (b : Bool). cond b true (f e)) q ∙ sym (ap (λ (b : Bool). f e || b) (flip k e ∙ q) ∙ or_true (f e))
    here e false q = ap (λ (b : Bool). cond b true (f e)) q ∙ sym (ap (λ (b : Bool). f e || b) (flip k e ∙ q) ∙ or_false (f e))

pub mark_more : (raised : List EventId) (n i : ℕ) (d : EventId) (bits : List Bool) → i < length raised → bits ≡ map (was_raised (take i raised)) (range_with_len 0 n)
    → set bits (get_or raised i d).0 true ≡ map (was_raised (take (i + 1) raised)) (range_with_len 0 n)
mark_more raised n i d bits lt rows = marked_at (was_raised (take i raised)) (was_raised (take (i + 1) raised)) n (get_or raised i d).0 bits rows (λ e. any_more (λ r. r.0 == e) raised i d lt)

-- what happens is marked, and a completion marks nothing
pub happening_marked : (e : EventId) (outer : Outer) (f : ℕ → Bool) (n : ℕ) (before after : List Bool) → Happen e ≡ outer → after ≡ set before e.0 true
    → before ≡ map f (range_with_len 0 n) → after ≡ map (λ k. f k || is_happening k outer) (range_with_len 0 n)
happening_marked e outer f n before after is made rows =
    made ∙ marked_at f (λ k. f k || is_happening k outer) n e.0 before rows (λ k. ap (λ (o : Outer). f k || is_happening k o) (sym is))

pub nothing_marked : (outer : Outer) (f : ℕ → Bool) (n : ℕ) (bits : List Bool) → ((k : ℕ) → is_happening k outer ≡ false)
    → bits ≡ map f (range_with_len 0 n) → bits ≡ map (λ k. f k || is_happening k outer) (range_with_len 0 n)
nothing_marked outer f n bits none rows =
    rows ∙ row_agree f (λ k. f k || is_happening k outer) n (λ k l. sym (ap (λ (b : Bool). f k || b) (none k) ∙ or_false (f k)))

-- one entry more
pub happening_more : (raised : List EventId) (entries : List Entry) (n i : ℕ) (d : Entry) (bits : List Bool) → i < length entries
    → bits ≡ map (λ e. (was_raised raised e || list_any (λ x. is_happening e x.outer) (take i entries)) || is_happening e (get_or entries i d).outer) (range_with_len 0 n)
    → bits ≡ map (λ e. was_raised raised e || list_any (λ x. is_happening e x.outer) (take (i + 1) entries)) (range_with_len 0 n)
happening_more raised entries n i d bits lt rows =
    rows
    ∙ row_agree (λ e. (was_raised raised e || list_any (λ x. is_happening e x.outer) (take i entries)) || is_happening e (get_or entries i d).outer)
    (λ e. was_raised raised e || list_any (λ x. is_happening e x.outer) (take (i + 1) entries)) n
    (λ e l. sym (or_assoc (was_raised raised e) (list_any (λ x. is_happening e x.outer) (take i entries)) (is_happening e (get_or entries i d).outer))
    ∙ ap (λ (b : Bool). was_raised raised e || b) (sym (any_more (λ x. is_happening e x.outer) entries i d lt)))

-- before the first entry
pub happening_none : (raised : List EventId) (n : ℕ) (bits : List Bool) → bits ≡ map (was_raised raised) (range_with_len 0 n)
    → bits ≡ map (λ e. was_raised raised e || false) (range_with_len 0 n)
happening_none raised n bits rows = rows ∙ row_agree (was_raised raised) (λ e. was_raised raised e || false) n (λ e l. sym (or_false (was_raised raised e)))
