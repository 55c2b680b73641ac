-- What desks answered is right by the history before the run.
use Rattle.std.proofs.Common.{◌≡◌, ℕ, zero, suc, ◌+◌, ◌-◌, ◌<◌, ◌≤◌, ◌==◌, ◌⊎◌, inl, inr, Bool, true, false, List, [], ◌∷◌, ◌++◌, length, drop, take, Option, Some, None, cond, pred, refl, sym, ap, ap₂, ◌∙◌, arith, eqb-true, eq-eqb, true≢false}
use Rattle.std.specs.List.{enumerate_from, slice_get, position_from}
use Rattle.std.proofs.lemmas.Iterator.Adapters.{position_from-zero}
use Rattle.wf_semantics.proofs.Children.{lt_or_ge}
use Rattle.wf_parts.specs.declared.data.PartData.{PartData}
use Rattle.wf_histories.specs.Histories.{Admission, History}
use Rattle.wf_steps.specs.Growing.{place_of, IsMade, no_records, with_admission, with_turn}
use Rattle.wf_projection.specs.Merged.{numbered}
use Rattle.wf_exchange.specs.declared.lines.LineItem.{LineItem}
use Rattle.wf_actors.specs.declared.desk.Answer.{Answer}
use Rattle.wf_actors.specs.declared.desk.Answer.TheVariants as answers
use Rattle.wf_actors.specs.declared.desk.Desk.{Desk}
use Rattle.wf_actors.specs.Answering.{asked_by, if_new, new_ones, new_admissions, made_by, came_to, said_at, AreAnswered}
use Rattle.wf_hosted.specs.Told.{IsTold, AreApart, AreDistinct, MadeIsDistinct, AnswersAreTold}

-- ---- lists

-- x stands somewhere
abbrev Stands : {X : Type 0} → List X → X → Type 0
Stands xs x = (i : ℕ) × (slice_get xs i ≡ Some x)

one_more : {X : Type 0} (y : X) (xs : List X) (x : X) → Stands xs x → Stands (y ∷ xs) x
one_more y xs x s = (suc s.0, s.1)

enumerated : {X : Type 0} (a : ℕ) (xs : List X) (i : ℕ) (x : X) → slice_get xs i ≡ Some x → slice_get (enumerate_from a xs) i ≡ Some (a + i, x)
enumerated a [] i x e = absurd (cc)
enumerated a (y ∷ xs) zero x e = let z : a + 0 ≡ a = omega arith in let is : y ≡ x = cc in ap₂ (λ (n : ℕ) (v : _). Some (n, v)) (sym z) is
enumerated a (y ∷ xs) (suc i) x e = let z : (a + 1) + i ≡ a + suc i = omega arith in enumerated (a + 1) xs i x e ∙ ap (λ (n : ℕ). Some (n, x)) z

numbers : {X : Type 0} (a : ℕ) (xs : List X) (i : ℕ) (y : ℕ × X) → slice_get (enumerate_from a xs) i ≡ Some y → (slice_get xs i ≡ Some y.1) × (y.0 ≡ a + i)
numbers a [] i y e = absurd (cc)
numbers a (x ∷ xs) zero y e = let z : a + 0 ≡ a = omega arith in let is : (a, x) ≡ y = cc in (ap (λ (p : ℕ × _). Some p.1) is, ap (λ (p : ℕ × _). p.0) (sym is) ∙ sym z)
numbers a (x ∷ xs) (suc i) y e = let ih = numbers (a + 1) xs i y e in let z : (a + 1) + i ≡ a + suc i = omega arith in (ih.0, ih.1 ∙ z)

dropped : {X : Type 0} (d : ℕ) (xs : List X) (i : ℕ) → slice_get (drop d xs) i ≡ slice_get xs (d + i)
dropped zero xs i = let z : 0 + i ≡ i = omega arith in ap (slice_get xs) (sym z)
dropped (suc d) [] i = refl
dropped (suc d) (x ∷ xs) i = let z : suc d + i ≡ suc (d + i) = omega arith in dropped d xs i ∙ ap (slice_get (x ∷ xs)) (sym z)

in_take : {X : Type 0} (d : ℕ) (xs : List X) (i : ℕ) → i < d → slice_get (take d xs) i ≡ slice_get xs i
in_take zero xs i lt = absurd (omega arith)
in_take (suc d) [] i lt = refl
in_take (suc d) (x ∷ xs) zero lt = refl
in_take (suc d) (x ∷ xs) (suc i) lt = in_take d xs i (omega arith)

within : {X : Type 0} (xs : List X) (i : ℕ) (x : X) → slice_get xs i ≡ Some x → i < length xs
within [] i x e = absurd (cc)
within (y ∷ xs) zero x e = omega arith
within (y ∷ xs) (suc i) x e = let ih = within xs i x e in omega (arith, ih)

there : {X : Type 0} (xs : List X) (i : ℕ) → i < length xs → (x : X) × (slice_get xs i ≡ Some x)
there [] i lt = absurd (omega arith)
there (y ∷ xs) zero lt = (y, refl)
there (y ∷ xs) (suc i) lt = there xs i (omega arith)

one : {X : Type 0} (xs : List X) (i : ℕ) (x y : X) → slice_get xs i ≡ Some x → slice_get xs i ≡ Some y → x ≡ y
one xs i x y e f = cc

-- the place that a search finds, and that none is passed over
found_from : {X : Type 0} (p : X → Bool) (a : ℕ) (xs : List X) (i : ℕ) → position_from p a xs ≡ Some i → (k : ℕ) × (x : X) × (i ≡ a + k) × (slice_get xs k ≡ Some x) × (p x ≡ true)
found_from p a [] i e = absurd (cc)
found_from {X} p a (x ∷ xs) i e = go (p x) refl (λ k. found_from p (a + 1) xs i k) e
  where
    go : (b : Bool) → p x ≡ b → (position_from p (a + 1) xs ≡ Some i → (k : ℕ) × (y : X) × (i ≡ (a + 1) + k) × (slice_get xs k ≡ Some y) × (p y ≡ true)) →
        cond b (Some a) (position_from p (a + 1) xs) ≡ Some i → (k : ℕ) × (y : X) × (i ≡ a + k) × (slice_get (x ∷ xs) k ≡ Some y) × (p y ≡ true)
    go true q rest e = let is : a ≡ i = cc in (0, x, omega (arith, is), refl, q)
    go false q rest e = let ih = rest e in let at = ih.2 in (suc ih.0, ih.1, omega (arith, at), ih.3, ih.4)

none_from : {X : Type 0} (p : X → Bool) (a : ℕ) (xs : List X) → position_from p a xs ≡ None → (k : ℕ) (x : X) → slice_get xs k ≡ Some x → p x ≡ false
none_from p a [] e k x f = absurd (cc)
none_from {X} p a (y ∷ xs) e k x f = go (p y) refl (λ none k f. none_from p (a + 1) xs none k x f) e k f
  where
    go : (b : Bool) → p y ≡ b → (position_from p (a + 1) xs ≡ None → (k : ℕ) → slice_get xs k ≡ Some x → p x ≡ false) →
        cond b (Some a) (position_from p (a + 1) xs) ≡ None → (k : ℕ) → slice_get (y ∷ xs) k ≡ Some x → p x ≡ false
    go true q rest e k f = absurd (cc)
    go false q rest e zero f = let is : y ≡ x = cc in ap p (sym is) ∙ q
    go false q rest e (suc k) f = rest e k f

-- the last one of a list, or one before it
last_or_before : {X : Type 0} (xs : List X) (y : X) (i : ℕ) (x : X) → slice_get (xs ++ y ∷ []) i ≡ Some x → (slice_get xs i ≡ Some x) ⊎ ((i ≡ length xs) × (x ≡ y))
last_or_before [] y zero x e = let is : y ≡ x = cc in inr (refl, sym is)
last_or_before [] y (suc i) x e = absurd (cc)
last_or_before (z ∷ xs) y zero x e = inl e
last_or_before (z ∷ xs) y (suc i) x e = elim (last_or_before xs y i x e) [
  | inl before ↦ inl before
  | inr last ↦ inr (ap suc last.0, last.1)
]

-- ---- histories

abbrev asks : ℕ → Admission → Bool
asks request a = a.request == request

-- a request that is free is no admission's
free_none : (h : History) (request : ℕ) → place_of h request ≡ None → (i : ℕ) (a : Admission) → slice_get h.admissions i ≡ Some a → a.request ≡ request → ⊥
free_none h request free i a e is =
    let none = none_from (asks request) 0 h.admissions (sym (position_from-zero (asks request) h.admissions) ∙ free) i a e in
    absurd (true≢false (sym (eq-eqb a.request request is) ∙ none))

made_distinct : (part : PartData) (h : History) → IsMade part h → AreDistinct h
made_distinct part h no_records i j a b e f same = absurd (cc)
made_distinct part h (with_admission g x made may) i j a b e f same = go (λ p q. made_distinct part g made i j a b p q same) (last_or_before g.admissions x i a e) (last_or_before g.admissions x j b f)
  where
    go : (slice_get g.admissions i ≡ Some a → slice_get g.admissions j ≡ Some b → i ≡ j) →
        (slice_get g.admissions i ≡ Some a) ⊎ ((i ≡ length g.admissions) × (a ≡ x)) → (slice_get g.admissions j ≡ Some b) ⊎ ((j ≡ length g.admissions) × (b ≡ x)) → i ≡ j
    go before (inl p) (inl q) = before p q
    go before (inl p) (inr q) = absurd (free_none g x.request may.fresh i a p (same ∙ ap (λ (y : Admission). y.request) q.1))
    go before (inr p) (inl q) = absurd (free_none g x.request may.fresh j b q (sym same ∙ ap (λ (y : Admission). y.request) p.1))
    go before (inr p) (inr q) = p.0 ∙ sym q.0
made_distinct part h (with_turn g inputs made may) i j a b e f same = made_distinct part g made i j a b e f same

pub made_is_distinct : MadeIsDistinct
made_is_distinct = made_distinct

-- ---- who made what

-- what one of the makers made is of all
made_from : (t : ℕ) (makers : List ℕ) (new : List (ℕ × Admission)) (q : ℕ) (x : ℕ × Admission) → slice_get (made_by (λ m. m == t) makers new) q ≡ Some x → Stands new x
made_from t [] new q x e = absurd (cc)
made_from t (m ∷ makers) [] q x e = absurd (cc)
made_from t (m ∷ makers) (y ∷ new) q x e = go (λ q e. made_from t makers new q x e) (m == t) refl q e
  where
    go : ((q : ℕ) → slice_get (made_by (λ m. m == t) makers new) q ≡ Some x → Stands new x) →
        (b : Bool) → (m == t) ≡ b → (q : ℕ) → slice_get (cond b (y ∷ []) [] ++ made_by (λ m. m == t) makers new) q ≡ Some x → Stands (y ∷ new) x
    go rest true p zero e = (0, e)
    go rest true p (suc q) e = one_more y new x (rest q e)
    go rest false p q e = one_more y new x (rest q e)

-- and each has a maker
made_in : (makers : List ℕ) (new : List (ℕ × Admission)) (i : ℕ) (x : ℕ × Admission) → length makers ≡ length new → slice_get new i ≡ Some x → (t : ℕ) × Stands (made_by (λ m. m == t) makers new) x
made_in makers [] i x long e = absurd (cc)
made_in [] (y ∷ new) i x long e = absurd (cc)
made_in (m ∷ makers) (y ∷ new) zero x long e = (m, (0, ap (λ (b : Bool). slice_get (cond b (y ∷ []) [] ++ made_by (λ k. k == m) makers new) 0) (eq-eqb m m refl) ∙ e))
made_in (m ∷ makers) (y ∷ new) (suc i) x long e =
    let ih = made_in makers new i x (ap pred long) e in (ih.0, go ih.0 (m == ih.0) refl ih.1)
  where
    go : (t : ℕ) (b : Bool) → (m == t) ≡ b → Stands (made_by (λ k. k == t) makers new) x → Stands (made_by (λ k. k == t) (m ∷ makers) (y ∷ new)) x
    go t true p s = (suc s.0, ap (λ (b : Bool). slice_get (cond b (y ∷ []) [] ++ made_by (λ k. k == t) makers new) (suc s.0)) p ∙ s.1)
    go t false p s = (s.0, ap (λ (b : Bool). slice_get (cond b (y ∷ []) [] ++ made_by (λ k. k == t) makers new) s.0) p ∙ s.1)

-- a new one of some items is one of them, with its answer
record IsOneOf (items : List LineItem) (said : List Answer) (x : ℕ × Admission) : Type 0 where
  place : ℕ
  item : LineItem
  came : slice_get items place ≡ Some item
  told : slice_get said place ≡ Some (answers.New x.0)
  asked : asked_by item ≡ x.1

one_later : (i : LineItem) (a : Answer) (items : List LineItem) (said : List Answer) (x : ℕ × Admission) → IsOneOf items said x → IsOneOf (i ∷ items) (a ∷ said) x
one_later i a items said x o = record { place = suc o.place; item = o.item; came = o.came; told = o.told; asked = o.asked }

ones_from : (items : List LineItem) (said : List Answer) (q : ℕ) (x : ℕ × Admission) → slice_get (new_ones items said) q ≡ Some x → IsOneOf items said x
ones_from [] said q x e = absurd (cc)
ones_from (i ∷ items) [] q x e = absurd (cc)
ones_from (i ∷ items) (answers.New n ∷ said) zero x e =
    let is : (n, asked_by i) ≡ x = cc in
    record { place = 0; item = i; came = refl; told = ap (λ (y : ℕ × Admission). Some (answers.New y.0)) is; asked = ap (λ (y : ℕ × Admission). y.1) is }
ones_from (i ∷ items) (answers.New n ∷ said) (suc q) x e = one_later i (answers.New n) items said x (ones_from items said q x e)
ones_from (i ∷ items) (answers.Again n ∷ said) q x e = one_later i (answers.Again n) items said x (ones_from items said q x e)
ones_from (i ∷ items) (answers.Reused n ∷ said) q x e = one_later i (answers.Reused n) items said x (ones_from items said q x e)
ones_from (i ∷ items) (answers.Refused ∷ said) q x e = one_later i answers.Refused items said x (ones_from items said q x e)

ones_in : (items : List LineItem) (said : List Answer) (k n : ℕ) (item : LineItem) → slice_get items k ≡ Some item → slice_get said k ≡ Some (answers.New n) → Stands (new_ones items said) (n, asked_by item)
ones_in [] said k n item e f = absurd (cc)
ones_in (i ∷ items) [] k n item e f = absurd (cc)
ones_in (i ∷ items) (a ∷ said) zero n item e f =
    let is : i ≡ item = cc in let told : a ≡ answers.New n = cc in
    (0, ap₂ (λ (j : LineItem) (b : Answer). slice_get (if_new (j, b) ++ new_ones items said) 0) is told)
ones_in (i ∷ items) (answers.New m ∷ said) (suc k) n item e f = one_more (m, asked_by i) (new_ones items said) (n, asked_by item) (ones_in items said k n item e f)
ones_in (i ∷ items) (answers.Again m ∷ said) (suc k) n item e f = ones_in items said k n item e f
ones_in (i ∷ items) (answers.Reused m ∷ said) (suc k) n item e f = ones_in items said k n item e f
ones_in (i ∷ items) (answers.Refused ∷ said) (suc k) n item e f = ones_in items said k n item e f

-- ---- all desks

module _ (opening past : History) (desks : List Desk) (distinct : AreDistinct past) (apart : AreApart desks) (answered : AreAnswered opening past desks) where
  -- an admission past the opening ones, with its number, is new
  late_new : (i : ℕ) (a : Admission) → length opening.admissions ≤ i → slice_get past.admissions i ≡ Some a → Stands (new_admissions opening past) (suc i, a)
  late_new i a le e =
      let d : ℕ = length opening.admissions in
      let z : d + (i - d) ≡ i = omega (arith, le) in
      let y : 1 + i ≡ suc i = omega arith in (
        i - d,
        dropped d (enumerate_from 1 past.admissions) (i - d) ∙ ap (slice_get (enumerate_from 1 past.admissions)) z ∙ enumerated 1 past.admissions i a e ∙ ap (λ (n : ℕ). Some (n, a)) y,
      )

  -- and what is new is past them
  new_late : (x : ℕ × Admission) → Stands (new_admissions opening past) x → (i : ℕ) × (x.0 ≡ suc i) × (length opening.admissions ≤ i) × (slice_get past.admissions i ≡ Some x.1)
  new_late x s =
      let d : ℕ = length opening.admissions in
      let found = numbers 1 past.admissions (d + s.0) x (sym (dropped d (enumerate_from 1 past.admissions) s.0) ∙ s.1) in
      let at = found.1 in
      (d + s.0, omega (arith, at), omega arith, found.0)

  -- it was asked for at some desk
  asked_at : (i : ℕ) (a : Admission) → length opening.admissions ≤ i → slice_get past.admissions i ≡ Some a → (m : ℕ) × IsOneOf (came_to desks m) (said_at desks m) (suc i, a)
  asked_at i a le e =
      let new = late_new i a le e in
      let by = made_in answered.makers (new_admissions opening past) new.0 (suc i, a) answered.one_each new.1 in
      let stands = by.1 in
      (by.0, ones_from (came_to desks by.0) (said_at desks by.0) stands.0 (suc i, a) (ap (λ (l : List (ℕ × Admission)). slice_get l stands.0) (sym (answered.made by.0)) ∙ stands.1))

  -- and what a desk says is new is past the opening ones
  said_new : (m k n : ℕ) (item : LineItem) → slice_get (came_to desks m) k ≡ Some item → slice_get (said_at desks m) k ≡ Some (answers.New n) →
      (i : ℕ) × (n ≡ suc i) × (length opening.admissions ≤ i) × (slice_get past.admissions i ≡ Some (asked_by item))
  said_new m k n item e f =
      let stands = ones_in (came_to desks m) (said_at desks m) k n item e f in
      new_late (n, asked_by item) (made_from m answered.makers (new_admissions opening past) stands.0 (n, asked_by item)
      (ap (λ (l : List (ℕ × Admission)). slice_get l stands.0) (answered.made m) ∙ stands.1))

  -- an admission with an item's request is past the opening ones only if that item is told so
  not_late : (m k i : ℕ) (item : LineItem) (answer : Answer) (a : Admission) → slice_get (came_to desks m) k ≡ Some item → slice_get (said_at desks m) k ≡ Some answer →
      ((n : ℕ) → answer ≡ answers.New n → ⊥) → length opening.admissions ≤ i → slice_get past.admissions i ≡ Some a → a.request ≡ item.request → ⊥
  not_late m k i item answer a e f other le at same =
      let asked = asked_at i a le at in
      let o = asked.1 in
      let places = apart asked.0 o.place m k o.item item o.came e (ap (λ (x : Admission). x.request) o.asked ∙ same) in
      let told : slice_get (said_at desks m) k ≡ Some (answers.New (suc i)) = ap₂ (λ (x y : ℕ). slice_get (said_at desks x) y) (sym places.0) (sym places.1) ∙ o.told in
      other (suc i) (one (said_at desks m) k answer (answers.New (suc i)) f told)

  -- an admission before the end of the opening ones is one of them
  early : (i : ℕ) → i < length opening.admissions → slice_get opening.admissions i ≡ slice_get past.admissions i
  early i lt = ap (λ (l : List Admission). slice_get l i) (sym answered.begins.admissions) ∙ in_take (length opening.admissions) past.admissions i lt

  kept_early : (n : ℕ) (item : LineItem) (a : Admission) (m k : ℕ) (answer : Answer) → slice_get (came_to desks m) k ≡ Some item → slice_get (said_at desks m) k ≡ Some answer →
      ((n : ℕ) → answer ≡ answers.New n → ⊥) → a.request ≡ item.request → numbered past.admissions n ≡ Some a → numbered opening.admissions n ≡ Some a
  kept_early zero item a m k answer e f other same at = absurd (cc)
  kept_early (suc i) item a m k answer e f other same at = go (lt_or_ge i (length opening.admissions))
    where
      go : (i < length opening.admissions) ⊎ (length opening.admissions ≤ i) → slice_get opening.admissions i ≡ Some a
      go (inl lt) = early i lt ∙ at
      go (inr le) = absurd (not_late m k i item answer a e f other le at same)

  -- the request of what is new was free
  was_free : (m k n : ℕ) (item : LineItem) → slice_get (came_to desks m) k ≡ Some item → slice_get (said_at desks m) k ≡ Some (answers.New n) → (o : Option ℕ) → place_of opening item.request ≡ o → o ≡ None
  was_free m k n item e f None is = refl
  was_free m k n item e f (Some p) is =
      let found = found_from (asks item.request) 0 opening.admissions p (sym (position_from-zero (asks item.request) opening.admissions) ∙ is) in
      let lt = within opening.admissions found.0 found.1 found.3 in
      let new = said_new m k n item e f in
      let same : found.1.request ≡ item.request = eqb-true found.1.request item.request found.4 in
      let at = distinct found.0 new.0 found.1 (asked_by item) (sym (early found.0 lt) ∙ found.3) new.3 same in
      let le = new.2 in
      absurd (omega (arith, lt, at, le))

  pub told : (m k : ℕ) (item : LineItem) (answer : Answer) → slice_get (came_to desks m) k ≡ Some item → slice_get (said_at desks m) k ≡ Some answer → IsTold opening past item answer
  told m k item (answers.New n) e f = (was_free m k n item e f (place_of opening item.request) refl, answered.right m k item (answers.New n) e f)
  told m k item (answers.Again n) e f = kept_early n item (asked_by item) m k (answers.Again n) e f (λ j q. absurd (cc)) refl (answered.right m k item (answers.Again n) e f)
  told m k item (answers.Reused n) e f =
      let r = answered.right m k item (answers.Reused n) e f in
      (r.0, kept_early n item r.0 m k (answers.Reused n) e f (λ j q. absurd (cc)) r.2 r.1, r.2, r.3)
  told m k item answers.Refused e f = tt

pub answers_are_told : AnswersAreTold
answers_are_told opening past desks distinct apart answered = told opening past desks distinct apart answered
