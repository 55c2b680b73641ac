-- How what a unit answers goes on, item by item and desk by desk.
use Rattle.std.proofs.Common.{◌≡◌, ◌≢◌, ◌⊎◌, inl, inr, ⊎_elim, ℕ, zero, suc, ◌+◌, ◌-◌, ◌≤◌, ◌==◌, Bool, List, [], ◌∷◌, ◌++◌, length, take, drop, map, Some, slice_get, refl, sym, ap, ap₂, ◌∙◌, subst, append_assoc, eq-eqb, arith}
use Rattle.std.proofs.lemmas.Bool.{ne_eqb}
use Rattle.std.specs.Prelude.{flat_map, zip, replicate, if◌then◌else◌}
use Rattle.std.specs.List.{enumerate_from, slice_set}
use Rattle.std.specs.Option.{option_map_or}
use Rattle.std.proofs.lemmas.List.{append-nil, take-append-drop, drop-append-le, length-append}
use Rattle.std.proofs.lemmas.Option.{slice_get_past}
use Rattle.std.proofs.lemmas.List.FromFn.{length-enumerate_from}
use Rattle.std.proofs.lemmas.Grind.{flat_map-append}
use native.Mathlib.Decide.{ℕ_discrete}
use Rattle.wf_histories.specs.Histories.{Admission, History}
use Rattle.wf_projection.specs.Merged.{numbered}
use Rattle.wf_exchange.specs.declared.lines.LineItem.{LineItem}
use Rattle.wf_exchange.specs.Rings.{popped}
use Rattle.wf_server.specs.Images.{Begins}
use Rattle.wf_worlds.specs.Growing.{admitted}
use Rattle.wf_actors.specs.declared.desk.Answer.{Answer}
use Rattle.wf_actors.specs.declared.desk.Answer.TheVariants as answers
use Rattle.wf_actors.specs.declared.desk.Desk.{Desk}
use Rattle.wf_actors.specs.Answering.{ring_at, asked_by, IsAskedIn, IsAnswer, if_new, new_ones, new_admissions, IsSaid, SaysOne, AsksOne, AnswersMore, AsksMore, came_to, said_at, made_by, AreAnswered, KeepsAnswered, KeepsAsked}
use Rattle.wf_actors.proofs.Beginnings.{begins_same, begins_over, begins_admitted}
use Rattle.wf_actors.proofs.Rows.{behind}

-- LISTS

module _ {X : Type 0} where
  numbered_more : (n : ℕ) (xs ys : List X) → enumerate_from n (xs ++ ys) ≡ enumerate_from n xs ++ enumerate_from (n + length xs) ys
  numbered_more n [] ys = ap (λ k. enumerate_from k ys) (omega arith)
  numbered_more n (x ∷ xs) ys =
      ap (λ l. (n, x) ∷ l)
      (numbered_more (n + 1) xs ys ∙ ap (λ k. enumerate_from (n + 1) xs ++ enumerate_from k ys) (omega arith))

  behind_front : (xs ys : List X) → take (length xs) ys ≡ xs → ys ≡ xs ++ drop (length xs) ys
  behind_front xs ys e = sym (take-append-drop (length xs) ys) ∙ ap (λ l. l ++ drop (length xs) ys) e

  all_gone : (xs : List X) → drop (length xs) xs ≡ []
  all_gone [] = refl
  all_gone (x ∷ xs) = all_gone xs

  all_but : (xs ys : List X) → drop (length xs) (xs ++ ys) ≡ ys
  all_but [] ys = refl
  all_but (x ∷ xs) ys = all_but xs ys

  in_front : (xs ys : List X) (k : ℕ) (x : X) → slice_get xs k ≡ Some x → slice_get (xs ++ ys) k ≡ Some x
  in_front [] ys k x e = absurd (cc e)
  in_front (y ∷ xs) ys zero x e = e
  in_front (y ∷ xs) ys (suc k) x e = in_front xs ys k x e

  in_either : (xs ys : List X) (k : ℕ) (x : X) → slice_get (xs ++ ys) k ≡ Some x → (slice_get xs k ≡ Some x) ⊎ ((j : ℕ) × (slice_get ys j ≡ Some x))
  in_either [] ys k x e = inr (k, e)
  in_either (y ∷ xs) ys zero x e = inl e
  in_either (y ∷ xs) ys (suc k) x e = in_either xs ys k x e

  in_back : (xs ys : List X) (k : ℕ) (x : X) → slice_get ys k ≡ Some x → slice_get (xs ++ ys) (length xs + k) ≡ Some x
  in_back [] ys k x e = ap (slice_get ys) (omega arith) ∙ e
  in_back (y ∷ xs) ys k x e =
      let one : suc (length xs) + k ≡ suc (length xs + k) = omega arith in
      ap (slice_get (y ∷ xs ++ ys)) one ∙ in_back xs ys k x e

  before_or_behind : (xs ys : List X) (k : ℕ) (x : X) → slice_get (xs ++ ys) k ≡ Some x → (slice_get xs k ≡ Some x) ⊎ (length xs ≤ k)
  before_or_behind [] ys k x e = inr (omega arith)
  before_or_behind (y ∷ xs) ys zero x e = inl e
  before_or_behind (y ∷ xs) ys (suc k) x e = ⊎_elim (λ here. inl here) (λ le. inr (omega (arith, le))) (before_or_behind xs ys k x e)

  past_front : (xs ys : List X) (n : ℕ) (a : X) → length xs ≤ n → slice_get (xs ++ ys) n ≡ Some a → slice_get ys (n - length xs) ≡ Some a
  past_front [] ys n a le e = ap (slice_get ys) (omega arith) ∙ e
  past_front (x ∷ xs) ys zero a le e = absurd (omega (arith, le))
  past_front (x ∷ xs) ys (suc n) a le e = ap (slice_get ys) (omega arith) ∙ past_front xs ys n a (omega (arith, le)) e

  set_here : (xs : List X) (m : ℕ) (x y : X) → slice_get xs m ≡ Some x → slice_get (slice_set xs m y) m ≡ Some y
  set_here [] m x y e = absurd (cc e)
  set_here (z ∷ xs) zero x y e = refl
  set_here (z ∷ xs) (suc m) x y e = set_here xs m x y e

  set_elsewhere : (xs : List X) (m k : ℕ) (y : X) → k ≢ m → slice_get (slice_set xs m y) k ≡ slice_get xs k
  set_elsewhere [] m k y n = refl
  set_elsewhere (z ∷ xs) zero zero y n = absurd (n refl)
  set_elsewhere (z ∷ xs) zero (suc k) y n = refl
  set_elsewhere (z ∷ xs) (suc m) zero y n = refl
  set_elsewhere (z ∷ xs) (suc m) (suc k) y n = set_elsewhere xs m k y (λ e. n (ap suc e))

less : (n m : ℕ) → suc n ≡ suc m → n ≡ m
less n m e = omega (arith, e)

module _ {X Y : Type 0} where
  zip_more : (xs ys : List X) (us bs : List Y) → length us ≡ length xs → zip (xs ++ ys) (us ++ bs) ≡ zip xs us ++ zip ys bs
  zip_more [] ys [] bs same = refl
  zip_more [] ys (a ∷ us) bs same = absurd (omega (arith, same))
  zip_more (x ∷ xs) ys [] bs same = absurd (omega (arith, same))
  zip_more (x ∷ xs) ys (a ∷ us) bs same = ap (λ l. (x, a) ∷ l) (zip_more xs ys us bs (less (length us) (length xs) same))

  both_at : (xs ys : List X) (us bs : List Y) (P : X → Y → Type 0) → length us ≡ length xs
      → ((k : ℕ) (x : X) (a : Y) → slice_get xs k ≡ Some x → slice_get us k ≡ Some a → P x a)
      → ((k : ℕ) (x : X) (a : Y) → slice_get ys k ≡ Some x → slice_get bs k ≡ Some a → P x a)
      → (k : ℕ) (x : X) (a : Y) → slice_get (xs ++ ys) k ≡ Some x → slice_get (us ++ bs) k ≡ Some a → P x a
  both_at [] ys [] bs P same p q k x a ex ea = q k x a ex ea
  both_at [] ys (b ∷ us) bs P same p q k x a ex ea = absurd (omega (arith, same))
  both_at (y ∷ xs) ys [] bs P same p q k x a ex ea = absurd (omega (arith, same))
  both_at (y ∷ xs) ys (b ∷ us) bs P same p q zero x a ex ea = p zero x a ex ea
  both_at (y ∷ xs) ys (b ∷ us) bs P same p q (suc k) x a ex ea =
      both_at xs ys us bs P (less (length us) (length xs) same) (λ j. p (suc j)) q k x a ex ea

-- ADMISSIONS

new_behind : (g h : History) → Begins g h → new_admissions g h ≡ enumerate_from (1 + length g.admissions) (drop (length g.admissions) h.admissions)
new_behind g h on =
    let more = drop (length g.admissions) h.admissions in
    ap (λ l. drop (length g.admissions) (enumerate_from 1 l)) (behind_front g.admissions h.admissions on.admissions)
    ∙ ap (λ l. drop (length g.admissions) l) (numbered_more 1 g.admissions more)
    ∙ ap (λ n. drop n (enumerate_from 1 g.admissions ++ enumerate_from (1 + length g.admissions) more)) (sym (length-enumerate_from 1 g.admissions))
    ∙ all_but (enumerate_from 1 g.admissions) (enumerate_from (1 + length g.admissions) more)

new_over : (f g h : History) → Begins f g → Begins g h → new_admissions f h ≡ new_admissions f g ++ new_admissions g h
new_over f g h fg gh =
    let more = drop (length g.admissions) h.admissions in
    let long : length f.admissions ≤ length g.admissions =
    (let e = ap length (behind_front f.admissions g.admissions fg.admissions) in let l = length-append f.admissions (drop (length f.admissions) g.admissions) in omega (arith, e, l)) in
    let within : length f.admissions ≤ length (enumerate_from 1 g.admissions) = (let e = length-enumerate_from 1 g.admissions in omega (arith, e, long)) in
    ap (λ l. drop (length f.admissions) (enumerate_from 1 l)) (behind_front g.admissions h.admissions gh.admissions)
    ∙ ap (λ l. drop (length f.admissions) l) (numbered_more 1 g.admissions more)
    ∙ drop-append-le (length f.admissions) (enumerate_from 1 g.admissions) (enumerate_from (1 + length g.admissions) more) within
    ∙ ap (λ l. new_admissions f g ++ l) (sym (new_behind g h gh))

pub new_none : (h : History) → new_admissions h h ≡ []
new_none h = ap (λ n. drop n (enumerate_from 1 h.admissions)) (sym (length-enumerate_from 1 h.admissions)) ∙ all_gone (enumerate_from 1 h.admissions)

pub new_one : (h : History) (a : Admission) → new_admissions h (admitted h a) ≡ (length h.admissions + 1, a) ∷ []
new_one h a =
    new_behind h (admitted h a) (begins_admitted h a)
    ∙ ap (λ l. enumerate_from (1 + length h.admissions) l) (all_but h.admissions (a ∷ []))
    ∙ ap (λ n. (n, a) ∷ []) (omega arith)

pub last_numbered : (h : History) (a : Admission) (n : ℕ) → n ≡ length h.admissions + 1 → numbered (admitted h a).admissions n ≡ Some a
last_numbered h a n e =
    let is : n ≡ suc (length h.admissions) = omega (arith, e) in
    ap (λ k. numbered (admitted h a).admissions k) is ∙ behind h.admissions a

at_stays : (g h : History) → Begins g h → (k : ℕ) (a : Admission) → slice_get g.admissions k ≡ Some a → slice_get h.admissions k ≡ Some a
at_stays g h on k a e =
    ap (λ l. slice_get l k) (behind_front g.admissions h.admissions on.admissions) ∙ in_front g.admissions (drop (length g.admissions) h.admissions) k a e

number_stays : (g h : History) → Begins g h → (n : ℕ) (a : Admission) → numbered g.admissions n ≡ Some a → numbered h.admissions n ≡ Some a
number_stays g h on zero a e = absurd (cc e)
number_stays g h on (suc k) a e = at_stays g h on k a e

pub answer_stays : (g h : History) → Begins g h → (item : LineItem) (answer : Answer) → IsAnswer g item answer → IsAnswer h item answer
answer_stays g h on item (answers.New n) is = number_stays g h on n (asked_by item) is
answer_stays g h on item (answers.Again n) is = number_stays g h on n (asked_by item) is
answer_stays g h on item (answers.Reused n) (a, at, request, other) = (a, number_stays g h on n a at, request, other)
answer_stays g h on item answers.Refused is = tt

-- ONE DESK

new_ones_more : (xs ys : List LineItem) (us bs : List Answer) → length us ≡ length xs → new_ones (xs ++ ys) (us ++ bs) ≡ new_ones xs us ++ new_ones ys bs
new_ones_more xs ys us bs same = ap (flat_map if_new) (zip_more xs ys us bs same) ∙ flat_map-append if_new (zip xs us) (zip ys bs)

pub more_none : (h : History) (came : List LineItem) (said : List Answer) → AnswersMore h h came came said said
more_none h came said =
    record {
      items = [];
      answers = [];
      came = sym (append-nil came);
      said = sym (append-nil said);
      one_each = refl;
      begins = begins_same h;
      made = new_none h;
      right = (λ k item answer e. absurd (cc e));
    }

pub more_same : (h : History) (came came_now : List LineItem) (said : List Answer) → came_now ≡ came → AnswersMore h h came came_now said said
more_same h came came_now said e = subst (λ c. AnswersMore h h came c said said) (sym e) (more_none h came said)

pub more_then : (a b c : History) (c₁ c₂ c₃ : List LineItem) (s₁ s₂ s₃ : List Answer) → AnswersMore a b c₁ c₂ s₁ s₂ → AnswersMore b c c₂ c₃ s₂ s₃ → AnswersMore a c c₁ c₃ s₁ s₃
more_then a b c c₁ c₂ c₃ s₁ s₂ s₃ p q =
    record {
      items = p.items ++ q.items;
      answers = p.answers ++ q.answers;
      came = q.came ∙ ap (λ l. l ++ q.items) p.came ∙ append_assoc c₁ p.items q.items;
      said = q.said ∙ ap (λ l. l ++ q.answers) p.said ∙ append_assoc s₁ p.answers q.answers;
      one_each = length-append p.answers q.answers ∙ ap₂ (λ m n. m + n) p.one_each q.one_each ∙ sym (length-append p.items q.items);
      begins = begins_over a b c p.begins q.begins;
      made = new_over a b c p.begins q.begins ∙ ap₂ (λ l m. l ++ m) p.made q.made ∙ sym (new_ones_more p.items q.items p.answers q.answers p.one_each);
      right = both_at p.items q.items p.answers q.answers (IsAnswer c) p.one_each
          (λ k item answer ei ea. answer_stays b c q.begins item answer (p.right k item answer ei ea)) q.right;
    }

pub more_one : (old new : History) (came came_now : List LineItem) (said said_now : List Answer) (item : LineItem) → came_now ≡ came ++ item ∷ [] → SaysOne old new item said said_now → AnswersMore old new came came_now said said_now
more_one old new came came_now said said_now item e s =
    record {
      items = item ∷ [];
      answers = s.answer ∷ [];
      came = e;
      said = s.said;
      one_each = refl;
      begins = s.is.begins;
      made = s.is.made ∙ sym (append-nil (if_new (item, s.answer)));
      right = only;
    }
  where
    only : (k : ℕ) (x : LineItem) (a : Answer) → slice_get (item ∷ []) k ≡ Some x → slice_get (s.answer ∷ []) k ≡ Some a → IsAnswer new x a
    only zero x a ex ea = subst (λ y. IsAnswer new y a) (cc ex) (subst (λ b. IsAnswer new item b) (cc ea) s.is.right)
    only (suc k) x a ex ea = absurd (cc ex)

asked_front : (xs ys : List LineItem) (a : Admission) → IsAskedIn xs a → IsAskedIn (xs ++ ys) a
asked_front xs ys a (k, item, at, is) = (k, item, in_front xs ys k item at, is)

asked_back : (xs ys : List LineItem) (a : Admission) → IsAskedIn ys a → IsAskedIn (xs ++ ys) a
asked_back xs ys a (k, item, at, is) = (length xs + k, item, in_back xs ys k item at, is)

-- an admission stood there before, or came in since
before_or_since : (g h : History) → Begins g h → (n : ℕ) (a : Admission) → slice_get h.admissions n ≡ Some a → (slice_get g.admissions n ≡ Some a) ⊎ (length g.admissions ≤ n)
before_or_since g h on n a e =
    before_or_behind g.admissions (drop (length g.admissions) h.admissions) n a
    (ap (λ l. slice_get l n) (sym (behind_front g.admissions h.admissions on.admissions)) ∙ e)

pub asks_none : (h : History) (came : List LineItem) → AsksMore h h came came
asks_none h came =
    record {
      items = [];
      came = sym (append-nil came);
      begins = begins_same h;
      made = (λ n a le e. absurd (cc (sym (slice_get_past h.admissions n le) ∙ e)));
    }

pub asks_same : (h : History) (came came_now : List LineItem) → came_now ≡ came → AsksMore h h came came_now
asks_same h came came_now e = subst (λ c. AsksMore h h came c) (sym e) (asks_none h came)

pub asks_then : (a b c : History) (c₁ c₂ c₃ : List LineItem) → AsksMore a b c₁ c₂ → AsksMore b c c₂ c₃ → AsksMore a c c₁ c₃
asks_then a b c c₁ c₂ c₃ p q =
    record {
      items = p.items ++ q.items;
      came = q.came ∙ ap (λ l. l ++ q.items) p.came ∙ append_assoc c₁ p.items q.items;
      begins = begins_over a b c p.begins q.begins;
      made = (λ n x le e.
          ⊎_elim (λ before. asked_front p.items q.items x (p.made n x le before)) (λ since. asked_back p.items q.items x (q.made n x since e))
          (before_or_since b c q.begins n x e));
    }

abbrev first_of : Admission → List (ℕ × Admission) → Admission
first_of a [] = a
first_of a (x ∷ xs) = x.1

-- one new admission at most, which the item asks for
only_one : (base : ℕ) (item : LineItem) (answer : Answer) (more : List Admission) → enumerate_from base more ≡ if_new (item, answer) → (k : ℕ) (a : Admission) → slice_get more k ≡ Some a → a ≡ asked_by item
only_one base item answer [] e k a at = absurd (cc at)
only_one base item (answers.New n) (x ∷ []) e zero a at = let is : x ≡ a = cc at in sym is ∙ ap (first_of x) e
only_one base item (answers.New n) (x ∷ []) e (suc k) a at = absurd (cc at)
only_one base item (answers.New n) (x ∷ y ∷ more) e k a at = absurd (cc e)
only_one base item (answers.Again n) (x ∷ more) e k a at = absurd (cc e)
only_one base item (answers.Reused n) (x ∷ more) e k a at = absurd (cc e)
only_one base item answers.Refused (x ∷ more) e k a at = absurd (cc e)

pub one_asked : (old new : History) (item : LineItem) (answer : Answer) → IsSaid old new item answer → AsksOne old new item
one_asked old new item answer s =
    record {
      begins = s.begins;
      made = (λ n a le e.
          only_one (1 + length old.admissions) item answer (drop (length old.admissions) new.admissions) (sym (new_behind old new s.begins) ∙ s.made) (n - length old.admissions) a
          (past_front old.admissions (drop (length old.admissions) new.admissions) n a le
          (ap (λ l. slice_get l n) (sym (behind_front old.admissions new.admissions s.begins.admissions)) ∙ e)));
    }

-- nothing came in
pub none_asked : (old new : History) (item : LineItem) → new ≡ old → AsksOne old new item
none_asked old new item e =
    subst (λ h. AsksOne old h item) (sym e)
    (record { begins = begins_same old; made = (λ n a le at. absurd (cc (sym (slice_get_past old.admissions n le) ∙ at))) })

pub asks_one : (old new : History) (came came_now : List LineItem) (item : LineItem) → came_now ≡ came ++ item ∷ [] → AsksOne old new item → AsksMore old new came came_now
asks_one old new came came_now item e s =
    record { items = item ∷ []; came = e; begins = s.begins; made = (λ n a le at. (0, item, refl, sym (s.made n a le at))) }

-- ALL DESKS

made_all : (m : ℕ) (new : List (ℕ × Admission)) → made_by (λ maker. maker == m) (replicate (length new) m) new ≡ new
made_all m [] = refl
made_all m (x ∷ new) = ap (λ (b : Bool). (if b then x ∷ [] else []) ++ made_by (λ maker. maker == m) (replicate (length new) m) new) (eq-eqb m m refl) ∙ ap (λ l. x ∷ l) (made_all m new)

made_none : (m k : ℕ) (new : List (ℕ × Admission)) → k ≢ m → made_by (λ maker. maker == k) (replicate (length new) m) new ≡ []
made_none m k [] n = refl
made_none m k (x ∷ new) n =
    ap (λ (b : Bool). (if b then x ∷ [] else []) ++ made_by (λ maker. maker == k) (replicate (length new) m) new) (ne_eqb m k (λ e. n (sym e))) ∙ made_none m k new n

long_as : {X : Type 0} (n : ℕ) (x : X) → length (replicate n x) ≡ n
long_as zero x = refl
long_as (suc n) x = ap suc (long_as n x)

made_more : {M : Type 0} (test : M → Bool) (us bs : List M) (xs ys : List (ℕ × Admission)) → length us ≡ length xs → made_by test (us ++ bs) (xs ++ ys) ≡ made_by test us xs ++ made_by test bs ys
made_more test us bs xs ys same =
    ap (flat_map (λ x. if test x.0 then x.1 ∷ [] else [])) (zip_more us bs xs ys (sym same))
    ∙ flat_map-append (λ x. if test x.0 then x.1 ∷ [] else []) (zip us xs) (zip bs ys)

module _ (old new : History) (desks : List Desk) (m : ℕ) (desk now : Desk) (at : slice_get desks m ≡ Some desk) where
  came_here : came_to desks m ≡ popped desk.mouth
  came_here = ap (λ o. option_map_or (λ (d : Desk). popped d.mouth) o []) at

  said_here : said_at desks m ≡ desk.answers
  said_here = ap (λ o. option_map_or (λ (d : Desk). d.answers) o []) at

  came_now : came_to (slice_set desks m now) m ≡ popped now.mouth
  came_now = ap (λ o. option_map_or (λ (d : Desk). popped d.mouth) o []) (set_here desks m desk now at)

  said_now : said_at (slice_set desks m now) m ≡ now.answers
  said_now = ap (λ o. option_map_or (λ (d : Desk). d.answers) o []) (set_here desks m desk now at)

  came_there : (k : ℕ) → k ≢ m → came_to (slice_set desks m now) k ≡ came_to desks k
  came_there k n = ap (λ o. option_map_or (λ (d : Desk). popped d.mouth) o []) (set_elsewhere desks m k now n)

  said_there : (k : ℕ) → k ≢ m → said_at (slice_set desks m now) k ≡ said_at desks k
  said_there k n = ap (λ o. option_map_or (λ (d : Desk). d.answers) o []) (set_elsewhere desks m k now n)

  module _ (more : AnswersMore old new (popped desk.mouth) (popped now.mouth) desk.answers now.answers) (opening : History) (was : AreAnswered opening old desks) where
    abbrev since : List (ℕ × Admission)
    since = new_admissions old new

    -- at this desk these came besides, and were answered
    came_is : came_to (slice_set desks m now) m ≡ came_to desks m ++ more.items
    came_is = came_now ∙ more.came ∙ ap (λ l. l ++ more.items) (sym came_here)

    said_is : said_at (slice_set desks m now) m ≡ said_at desks m ++ more.answers
    said_is = said_now ∙ more.said ∙ ap (λ l. l ++ more.answers) (sym said_here)

    made_is : (k : ℕ) → made_by (λ maker. maker == k) (was.makers ++ replicate (length since) m) (new_admissions opening new)
        ≡ new_ones (came_to desks k) (said_at desks k) ++ made_by (λ maker. maker == k) (replicate (length since) m) since
    made_is k =
        ap (made_by (λ maker. maker == k) (was.makers ++ replicate (length since) m)) (new_over opening old new was.begins more.begins)
        ∙ made_more (λ maker. maker == k) was.makers (replicate (length since) m) (new_admissions opening old) since was.one_each
        ∙ ap (λ l. l ++ made_by (λ maker. maker == k) (replicate (length since) m) since) (was.made k)

    abbrev Fact : ℕ → Type 0
    Fact k = made_by (λ maker. maker == k) (was.makers ++ replicate (length since) m) (new_admissions opening new) ≡ new_ones (came_to (slice_set desks m now) k) (said_at (slice_set desks m now) k)

    made_here : Fact m
    made_here =
        made_is m
        ∙ ap (λ l. new_ones (came_to desks m) (said_at desks m) ++ l) (made_all m since ∙ more.made)
        ∙ sym (new_ones_more (came_to desks m) more.items (said_at desks m) more.answers (was.whole m))
        ∙ ap₂ new_ones (sym came_is) (sym said_is)

    made_there : (k : ℕ) → k ≢ m → Fact k
    made_there k n =
        made_is k
        ∙ ap (λ l. new_ones (came_to desks k) (said_at desks k) ++ l) (made_none m k since n)
        ∙ append-nil (new_ones (came_to desks k) (said_at desks k))
        ∙ ap₂ new_ones (sym (came_there k n)) (sym (said_there k n))

    made_now : (k : ℕ) → Dec (k ≡ m) → Fact k
    made_now k (yes e) = subst Fact (sym e) made_here
    made_now k (no n) = made_there k n

    abbrev Whole : ℕ → Type 0
    Whole k = length (said_at (slice_set desks m now) k) ≡ length (came_to (slice_set desks m now) k)

    whole_here : Whole m
    whole_here =
        ap length said_is
        ∙ length-append (said_at desks m) more.answers
        ∙ ap₂ (λ a b. a + b) (was.whole m) more.one_each
        ∙ sym (length-append (came_to desks m) more.items)
        ∙ ap length (sym came_is)

    whole_now : (k : ℕ) → Dec (k ≡ m) → Whole k
    whole_now k (yes e) = subst Whole (sym e) whole_here
    whole_now k (no n) = ap length (said_there k n) ∙ was.whole k ∙ ap length (sym (came_there k n))

    abbrev Right : ℕ → Type 0
    Right k = (j : ℕ) (item : LineItem) (answer : Answer) → slice_get (came_to (slice_set desks m now) k) j ≡ Some item → slice_get (said_at (slice_set desks m now) k) j ≡ Some answer → IsAnswer new item answer

    right_was : (k j : ℕ) (item : LineItem) (answer : Answer) → slice_get (came_to desks k) j ≡ Some item → slice_get (said_at desks k) j ≡ Some answer → IsAnswer new item answer
    right_was k j item answer ei ea = answer_stays old new more.begins item answer (was.right k j item answer ei ea)

    right_here : Right m
    right_here j item answer ei ea =
        both_at (came_to desks m) more.items (said_at desks m) more.answers (IsAnswer new) (was.whole m) (right_was m) more.right j item answer
        (ap (λ l. slice_get l j) (sym came_is) ∙ ei)
        (ap (λ l. slice_get l j) (sym said_is) ∙ ea)

    right_now : (k : ℕ) → Dec (k ≡ m) → Right k
    right_now k (yes e) j item answer ei ea = subst Right (sym e) right_here j item answer ei ea
    right_now k (no n) j item answer ei ea = right_was k j item answer (ap (λ l. slice_get l j) (sym (came_there k n)) ∙ ei) (ap (λ l. slice_get l j) (sym (said_there k n)) ∙ ea)

    answered_now : AreAnswered opening new (slice_set desks m now)
    answered_now =
        record {
          begins = begins_over opening old new was.begins more.begins;
          makers = was.makers ++ replicate (length since) m;
          one_each = length-append was.makers (replicate (length since) m)
              ∙ ap₂ (λ a b. a + b) was.one_each (long_as (length since) m)
              ∙ sym (length-append (new_admissions opening old) since)
              ∙ ap length (sym (new_over opening old new was.begins more.begins));
          made = (λ k. made_now k (ℕ_discrete k m));
          whole = (λ k. whole_now k (ℕ_discrete k m));
          right = (λ k. right_now k (ℕ_discrete k m));
        }

  pub desk_answered : AnswersMore old new (popped desk.mouth) (popped now.mouth) desk.answers now.answers → KeepsAnswered old new desks (slice_set desks m now)
  desk_answered more = record { each = answered_now more }

  module _ (more : AsksMore old new (popped desk.mouth) (popped now.mouth)) where
    still_asked : (k : ℕ) (a : Admission) → Dec (k ≡ m) → IsAskedIn (came_to desks k) a → IsAskedIn (came_to (slice_set desks m now) k) a
    still_asked k a (yes e) is =
        subst (λ j. IsAskedIn (came_to (slice_set desks m now) j) a) (sym e)
        (subst (λ l. IsAskedIn l a) (sym (came_now ∙ more.came))
        (asked_front (popped desk.mouth) more.items a (subst (λ l. IsAskedIn l a) came_here (subst (λ j. IsAskedIn (came_to desks j) a) e is))))
    still_asked k a (no n) is = subst (λ l. IsAskedIn l a) (sym (came_there k n)) is

    newly_asked : (a : Admission) → IsAskedIn more.items a → IsAskedIn (came_to (slice_set desks m now) m) a
    newly_asked a is = subst (λ l. IsAskedIn l a) (sym (came_now ∙ more.came)) (asked_back (popped desk.mouth) more.items a is)

  pub desk_asked : AsksMore old new (popped desk.mouth) (popped now.mouth) → KeepsAsked old new desks (slice_set desks m now)
  desk_asked more =
      record {
        each = (λ opening was.
            record {
              begins = begins_over opening old new was.begins more.begins;
              asked = (λ n a le e.
                  ⊎_elim
                  (λ before. let x = was.asked n a le before in (x.0, still_asked more x.0 a (ℕ_discrete x.0 m) x.1))
                  (λ since. (m, newly_asked more a (more.made n a since e)))
                  (before_or_since old new more.begins n a e));
            });
      }

pub answered_then : (a b c : History) (d₁ d₂ d₃ : List Desk) → KeepsAnswered a b d₁ d₂ → KeepsAnswered b c d₂ d₃ → KeepsAnswered a c d₁ d₃
answered_then a b c d₁ d₂ d₃ p q = record { each = (λ opening was. q.each opening (p.each opening was)) }

pub asked_then : (a b c : History) (d₁ d₂ d₃ : List Desk) → KeepsAsked a b d₁ d₂ → KeepsAsked b c d₂ d₃ → KeepsAsked a c d₁ d₃
asked_then a b c d₁ d₂ d₃ p q = record { each = (λ opening was. q.each opening (p.each opening was)) }

pub set_long : (desks : List Desk) (m : ℕ) (now : Desk) → length (slice_set desks m now) ≡ length desks
set_long [] m now = refl
set_long (d ∷ desks) zero now = refl
set_long (d ∷ desks) (suc m) now = ap suc (set_long desks m now)

pub rings_set : (desks : List Desk) (m : ℕ) (desk now : Desk) → slice_get desks m ≡ Some desk → ring_at now ≡ ring_at desk → map ring_at (slice_set desks m now) ≡ map ring_at desks
rings_set [] m desk now at same = refl
rings_set (d ∷ desks) zero desk now at same = let is : d ≡ desk = cc at in ap (λ r. r ∷ map ring_at desks) (same ∙ ap ring_at (sym is))
rings_set (d ∷ desks) (suc m) desk now at same = ap (λ l. ring_at d ∷ l) (rings_set desks m desk now at same)
