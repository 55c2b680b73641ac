-- How the counts of open items follow starts and completions.
use Rattle.std.proofs.Common.{◌≡◌, ◌≢◌, ℕ, zero, suc, ◌+◌, ◌-◌, ◌<◌, ◌≤◌, ◌==◌, ◌&&◌, not, cond, Bool, true, false, List, [], ◌∷◌, ◌++◌, length, replicate, take, get_or, set, min, leb, inl, inr, Some, None, refl, sym, ◌∙◌, ap, ap₂, subst, arith, eq-eqb, eqb-true, true≢false, length-append, length-set, length-take, get_or-set_other}
use Rattle.std.specs.List.{slice_get, All}
use Rattle.std.proofs.lemmas.List.Elements.{All-nil, All-cons, All-head, All-tail, All-weaker}
use Rattle.std.proofs.lemmas.Bool.{leb-true}
use Rattle.wf_model.proofs.Bools.{or_cases}
use Rattle.wf_model.specs.Limits.{max_acts}
use Rattle.std.proofs.lemmas.List.{take_more, length-replicate}
use Rattle.std.proofs.lemmas.Grind.{get_or-set_at}
use Rattle.wf_model.specs.declared.ids.ActId.{ActId}
use Rattle.wf_model.specs.declared.update.StartAt.{StartAt}
use Rattle.wf_semantics.specs.Items.{Item, one, open_count, close}
use Rattle.wf_activities.specs.UnitItems.{is_open, is_listed, listed, at_step, items_from, starts_count, room_of, AreKept}
use Rattle.wf_activities.proofs.Joined.{get_item, close_items, items_append}

pub one_few : (b : Bool) → one b ≤ 1
one_few true = omega arith
one_few false = omega arith

pub count_few : (a : ℕ) (items : List Item) → open_count a items ≤ length items
count_few a [] = omega arith
count_few a (x ∷ xs) = omega (arith, one_few ((x.act.0 == a) && not x.closed), count_few a xs)

pub count_append : (a : ℕ) (xs ys : List Item) → open_count a (xs ++ ys) ≡ open_count a xs + open_count a ys
count_append a [] ys = omega arith
count_append a (x ∷ xs) ys = omega (arith, count_append a xs ys)

and_not_false : (b : Bool) → one (b && not false) ≡ one b
and_not_false true = refl
and_not_false false = refl

-- none of what was just started is closed
pub count_fresh : (a : ℕ) (fs : List (ActId × ℕ)) → open_count a (items_from fs (replicate (length fs) false)) ≡ starts_count a fs
count_fresh a [] = refl
count_fresh a (f ∷ fs) = omega (arith, and_not_false (f.0.0 == a), count_fresh a fs)

pub starts_few : (a : ℕ) (fs : List (ActId × ℕ)) → starts_count a fs ≤ length fs
starts_few a [] = omega arith
starts_few a (f ∷ fs) = omega (arith, one_few (f.0.0 == a), starts_few a fs)

starts_append : (a : ℕ) (xs ys : List (ActId × ℕ)) → starts_count a (xs ++ ys) ≡ starts_count a xs + starts_count a ys
starts_append a [] ys = omega arith
starts_append a (x ∷ xs) ys = omega (arith, starts_append a xs ys)

-- one start more
pub starts_more : (a : ℕ) (fs : List (ActId × ℕ)) (i : ℕ) (d : ActId × ℕ) → i < length fs → starts_count a (take (i + 1) fs) ≡ starts_count a (take i fs) + one ((get_or fs i d).0.0 == a)
starts_more a fs i d lt = omega (arith, ap (starts_count a) (take_more fs i d lt), starts_append a (take i fs) (get_or fs i d ∷ []))

-- fewer starts than there are before the last
pub starts_below : (a : ℕ) (fs : List (ActId × ℕ)) (i : ℕ) → i < length fs → starts_count a (take i fs) < length fs
starts_below a fs i lt = omega (arith, starts_few a (take i fs), length-take i fs)

-- a start is counted
pub starts_some : (fs : List (ActId × ℕ)) (i : ℕ) (d : ActId × ℕ) → i < length fs → 0 < starts_count (get_or fs i d).0.0 fs
starts_some [] i d lt = absurd (omega arith)
starts_some (f ∷ fs) zero d lt = let own : one (f.0.0 == f.0.0) ≡ 1 = ap one (eq-eqb f.0.0 f.0.0 refl) in omega (arith, own)
starts_some (f ∷ fs) (suc i) d lt = let r : 0 < starts_count (get_or fs i d).0.0 fs = starts_some fs i d (omega arith) in omega arith

-- one start counted in the table
pub counted_more : (counts : List ℕ) (fs : List (ActId × ℕ)) (before : ℕ → ℕ) (i : ℕ) (d : ActId × ℕ) (m : ℕ) → i < length fs → (get_or fs i d).0.0 < length counts
    → m ≡ get_or counts (get_or fs i d).0.0 0 → ((a : ℕ) → get_or counts a 0 ≡ before a + starts_count a (take i fs))
    → (a : ℕ) → get_or (set counts (get_or fs i d).0.0 (m + 1)) a 0 ≡ before a + starts_count a (take (i + 1) fs)
counted_more counts fs before i d m lt within e made a = go ((get_or fs i d).0.0 == a) refl
  where
    go : (p : Bool) → ((get_or fs i d).0.0 == a) ≡ p → get_or (set counts (get_or fs i d).0.0 (m + 1)) a 0 ≡ before a + starts_count a (take (i + 1) fs)
    go true q =
        let same : (get_or fs i d).0.0 ≡ a = eqb-true (get_or fs i d).0.0 a q in
        let now : get_or (set counts (get_or fs i d).0.0 (m + 1)) a 0 ≡ m + 1 = get_or-set_at counts (get_or fs i d).0.0 a (m + 1) 0 (sym same) within in
        let was : m ≡ get_or counts a 0 = e ∙ ap (λ (k : ℕ). get_or counts k 0) same in
        let own : one ((get_or fs i d).0.0 == a) ≡ 1 = ap one q in
        omega (arith, now, was, own, made a, starts_more a fs i d lt)
    go false q =
        let other : a ≢ (get_or fs i d).0.0 = λ r. true≢false (sym (eq-eqb (get_or fs i d).0.0 a (sym r)) ∙ q) in
        let own : one ((get_or fs i d).0.0 == a) ≡ 0 = ap one q in
        omega (arith, get_or-set_other counts (get_or fs i d).0.0 a (m + 1) 0 other, own, made a, starts_more a fs i d lt)

-- what is started has a place below n, where all these starts do
pub started_below : (a step n : ℕ) (ls : List StartAt) → All (λ s. s.act.0 < n) ls → 0 < starts_count a (at_step step ls) → a < n
started_below a step n [] all h = absurd (omega arith)
started_below a step n (l ∷ ls) all h = go (l.act.0 == a) refl h (λ k. started_below a step n ls (All-tail (λ s. s.act.0 < n) l ls all) k)
  where
    go : (p : Bool) → (l.act.0 == a) ≡ p → 0 < one (l.act.0 == a) + starts_count a (at_step step ls) → (0 < starts_count a (at_step step ls) → a < n) → a < n
    go true q k ih = let here : l.act.0 < n = All-head (λ s. s.act.0 < n) l ls all in omega (arith, eqb-true l.act.0 a q)
    go false q k ih = ih (omega (arith, ap one q))

-- a start that is listed is one more than the listed ones before it
pub listed_more : (acts : List ActId) (ls : List StartAt) (i : ℕ) (d : StartAt) → i < length ls → is_listed acts (get_or ls i d).act.0 ≡ true → length (listed acts (take i ls)) < length (listed acts ls)
listed_more acts [] i d lt h = absurd (omega arith)
listed_more acts (l ∷ ls) zero d lt h = rw h (omega arith)
listed_more acts (l ∷ ls) (suc i) d lt h = go (is_listed acts l.act.0) (listed_more acts ls i d (omega arith) h)
  where
    go : (p : Bool) → length (listed acts (take i ls)) < length (listed acts ls) → length (cond p (l ∷ listed acts (take i ls)) (listed acts (take i ls))) < length (cond p (l ∷ listed acts ls) (listed acts ls))
    go true r = omega arith
    go false r = r

-- a start that is listed has what all of them have
pub listed_has : (P : StartAt → Type 0) (acts : List ActId) (ls : List StartAt) (i : ℕ) (d : StartAt) → i < length ls → is_listed acts (get_or ls i d).act.0 ≡ true → All P (listed acts ls) → P (get_or ls i d)
listed_has P acts [] i d lt h all = absurd (omega arith)
listed_has P acts (l ∷ ls) zero d lt h all = go (is_listed acts l.act.0) h all
  where
    go : (p : Bool) → p ≡ true → All P (cond p (l ∷ listed acts ls) (listed acts ls)) → P l
    go true e a = All-head P l (listed acts ls) a
    go false e a = absurd (true≢false (sym e))
listed_has P acts (l ∷ ls) (suc i) d lt h all = listed_has P acts ls i d (omega arith) h (go (is_listed acts l.act.0) all)
  where
    go : (p : Bool) → All P (cond p (l ∷ listed acts ls) (listed acts ls)) → All P (listed acts ls)
    go true a = All-tail P l (listed acts ls) a
    go false a = a

small_act : (n : ℕ) (acts : List ActId) (a : ℕ) → All (λ x. x.0 < n) acts → is_listed acts a ≡ true → a < n
small_act n [] a all h = absurd (true≢false (sym h))
small_act n (x ∷ xs) a all h = elim (or_cases (x.0 == a) (is_listed xs a) h) [
  | inl e ↦ let here : x.0 < n = All-head (λ (y : ActId). y.0 < n) x xs all in omega (arith, eqb-true x.0 a e)
  | inr r ↦ small_act n xs a (All-tail (λ (y : ActId). y.0 < n) x xs all) r
]

small_listed : (n : ℕ) (acts : List ActId) (ls : List StartAt) → All (λ x. x.0 < n) acts → All (λ s. s.act.0 < n) (listed acts ls)
small_listed n acts [] all = All-nil (λ (s : StartAt). s.act.0 < n)
small_listed n acts (l ∷ ls) all = go (is_listed acts l.act.0) refl (small_listed n acts ls all)
  where
    go : (p : Bool) → is_listed acts l.act.0 ≡ p → All (λ s. s.act.0 < n) (listed acts ls) → All (λ s. s.act.0 < n) (cond p (l ∷ listed acts ls) (listed acts ls))
    go true e r = All-cons (λ (s : StartAt). s.act.0 < n) l (listed acts ls) (small_act n acts l.act.0 all e) r
    go false e r = r

-- where there is no room no start is listed, and else all listed activities have a place
pub all_below : (acts : List ActId) (ls : List StartAt) (reach a b : ℕ) → All (λ x. x.0 < max_acts) acts → length (listed acts ls) ≤ room_of reach a b → All (λ s. s.act.0 < reach) (listed acts ls)
all_below acts ls reach a b small le = go (leb max_acts reach) refl le
  where
    go : (p : Bool) → leb max_acts reach ≡ p → length (listed acts ls) ≤ cond p (min a b) 0 → All (λ s. s.act.0 < reach) (listed acts ls)
    go true e h =
        let wide : max_acts ≤ reach = leb-true max_acts reach e in
        All-weaker (λ (s : StartAt). s.act.0 < max_acts) (λ (s : StartAt). s.act.0 < reach) (λ s lt. omega (arith, lt, wide)) (listed acts ls) (small_listed max_acts acts ls small)
    go false e h = λ k d lt. absurd (omega arith)

-- where there is room the counts reach to all activities, and both lists have a place behind their ends
pub room_parts : (reach a b : ℕ) → 0 < room_of reach a b → (max_acts ≤ reach) × (0 < a) × (0 < b)
room_parts reach a b h = go (leb max_acts reach) refl h
  where
    go : (p : Bool) → leb max_acts reach ≡ p → 0 < cond p (min a b) 0 → (max_acts ≤ reach) × (0 < a) × (0 < b)
    go true e k = (leb-true max_acts reach e, omega arith, omega arith)
    go false e k = absurd (omega arith)

-- one place less in each list is room for one item less
pub room_less : (reach a b c d : ℕ) → a ≤ c + 1 → b ≤ d + 1 → room_of reach a b ≤ room_of reach c d + 1
room_less reach a b c d h k = go (leb max_acts reach)
  where
    go : (p : Bool) → cond p (min a b) 0 ≤ cond p (min c d) 0 + 1
    go true = omega arith
    go false = omega arith

-- one item more is counted
pub counted_one : (counts : List ℕ) (s : ActId × ℕ) (m : ℕ) → s.0.0 < length counts → m ≡ get_or counts s.0.0 0 → (a : ℕ) → get_or (set counts s.0.0 (m + 1)) a 0 ≡ get_or counts a 0 + starts_count a (s ∷ [])
counted_one counts s m within e a = go (s.0.0 == a) refl
  where
    go : (p : Bool) → (s.0.0 == a) ≡ p → get_or (set counts s.0.0 (m + 1)) a 0 ≡ get_or counts a 0 + starts_count a (s ∷ [])
    go true q =
        let same : s.0.0 ≡ a = eqb-true s.0.0 a q in
        let now : get_or (set counts s.0.0 (m + 1)) a 0 ≡ m + 1 = get_or-set_at counts s.0.0 a (m + 1) 0 (sym same) within in
        let was : m ≡ get_or counts a 0 = e ∙ ap (λ (k : ℕ). get_or counts k 0) same in
        let own : one (s.0.0 == a) ≡ 1 = ap one q in
        omega (arith, now, was, own)
    go false q =
        let other : a ≢ s.0.0 = λ r. true≢false (sym (eq-eqb s.0.0 a (sym r)) ∙ q) in
        let own : one (s.0.0 == a) ≡ 0 = ap one q in
        omega (arith, get_or-set_other counts s.0.0 a (m + 1) 0 other, own)

open_at : (items : List Item) (k : ℕ) (x : Item) → slice_get items k ≡ Some x → is_open (slice_get items k) ≡ true → x.closed ≡ false
open_at items k x e h = go x.closed refl
  where
    go : (b : Bool) → x.closed ≡ b → x.closed ≡ false
    go false q = q
    go true q = absurd (true≢false (sym h ∙ ap is_open e ∙ ap not q))

closing : (p : Bool) (r : ℕ) → (one (p && not true) + r) + one p ≡ one (p && not false) + r
closing true r = omega arith
closing false r = omega arith

-- an item that is closed was open, and is counted no more
pub count_close : (a : ℕ) (items : List Item) (k : ℕ) (x : Item) → slice_get items k ≡ Some x → x.closed ≡ false → open_count a (close (suc k) items) + one (x.act.0 == a) ≡ open_count a items
count_close a [] k x e o = absurd (none e)
  where
    none : None ≡ Some x → ⊥
    none q = cc
count_close a (y ∷ ys) zero x e o =
    let same : y ≡ x = cc in
    subst (λ (z : Item). open_count a (record y { closed = true } ∷ ys) + one (z.act.0 == a) ≡ open_count a (y ∷ ys)) same
    (closing (y.act.0 == a) (open_count a ys) ∙ ap (λ (b : Bool). one ((y.act.0 == a) && not b) + open_count a ys) (sym (ap (λ (z : Item). z.closed) same ∙ o)))
count_close a (y ∷ ys) (suc k) x e o = omega (arith, count_close a ys k x e o)

-- an activity with an open item is in the table
pub in_table : (counts : List ℕ) (a : ℕ) → 1 ≤ get_or counts a 0 → a < length counts
in_table [] a h = absurd (omega arith)
in_table (c ∷ cs) zero h = omega arith
in_table (c ∷ cs) (suc a) h = let r : a < length cs = in_table cs a h in omega arith

pub kept_grow : (ss fs : List (ActId × ℕ)) (bs : List Bool) (counts after : List ℕ) → AreKept ss bs counts → ((a : ℕ) → get_or after a 0 ≡ get_or counts a 0 + starts_count a fs)
    → AreKept (ss ++ fs) (bs ++ replicate (length fs) false) after
kept_grow ss fs bs counts after kept made = record {
  bits = omega (arith, length-append bs (replicate (length fs) false), length-append ss fs, length-replicate (length fs) false, kept.bits);
  counted = λ a.
      let parts : open_count a (items_from (ss ++ fs) (bs ++ replicate (length fs) false)) ≡ open_count a (items_from ss bs ++ items_from fs (replicate (length fs) false)) =
      ap (open_count a) (items_append ss fs bs (replicate (length fs) false) kept.bits) in
      omega (arith, made a, kept.counted a, parts, count_append a (items_from ss bs) (items_from fs (replicate (length fs) false)), count_fresh a fs);
}

pub kept_grown : (ss fs ts : List (ActId × ℕ)) (bs cs : List Bool) (counts after : List ℕ) → ts ≡ ss ++ fs → cs ≡ bs ++ replicate (length fs) false → AreKept ss bs counts
    → ((a : ℕ) → get_or after a 0 ≡ get_or counts a 0 + starts_count a fs) → AreKept ts cs after
kept_grown ss fs ts bs cs counts after ht hc kept made =
    let grown = kept_grow ss fs bs counts after kept made in
    record {
      bits = ap length hc ∙ grown.bits ∙ sym (ap length ht);
      counted = λ a. grown.counted a ∙ ap (open_count a) (sym (ap₂ items_from ht hc));
    }

module _ (ss : List (ActId × ℕ)) (bs : List Bool) (counts : List ℕ) (kept : AreKept ss bs counts) (k : ℕ) (s : ActId × ℕ) (b : Bool) (within : k < length ss)
    (is : s ≡ get_or ss k s) (bit : b ≡ get_or bs k b) (open_now : is_open (slice_get (items_from ss bs) k) ≡ true) where
  there : slice_get (items_from ss bs) k ≡ Some (record { act = s.0; closed = b })
  there = get_item ss bs k s b kept.bits within is bit

  fewer : (a : ℕ) → open_count a (close (suc k) (items_from ss bs)) + one (s.0.0 == a) ≡ open_count a (items_from ss bs)
  fewer a = count_close a (items_from ss bs) k (record { act = s.0; closed = b }) there (open_at (items_from ss bs) k (record { act = s.0; closed = b }) there open_now)

  -- the activity of an open item has one
  pub has_one : 1 ≤ get_or counts s.0.0 0
  has_one =
      let own : one (s.0.0 == s.0.0) ≡ 1 = ap one (eq-eqb s.0.0 s.0.0 refl) in
      omega (arith, fewer s.0.0, own, kept.counted s.0.0)

  pub kept_close : (m : ℕ) → m ≡ get_or counts s.0.0 0 → AreKept ss (set bs k true) (set counts s.0.0 (m - 1))
  kept_close m e = record {
    bits = omega (arith, length-set bs k true, kept.bits);
    counted = λ a. go a (s.0.0 == a) refl;
  }
    where
      go : (a : ℕ) (p : Bool) → (s.0.0 == a) ≡ p → get_or (set counts s.0.0 (m - 1)) a 0 ≡ open_count a (items_from ss (set bs k true))
      go a true q =
          let same : s.0.0 ≡ a = eqb-true s.0.0 a q in
          let now : get_or (set counts s.0.0 (m - 1)) a 0 ≡ m - 1 = get_or-set_at counts s.0.0 a (m - 1) 0 (sym same) (in_table counts s.0.0 has_one) in
          let was : m ≡ get_or counts a 0 = e ∙ ap (λ (i : ℕ). get_or counts i 0) same in
          let own : one (s.0.0 == a) ≡ 1 = ap one q in
          omega (arith, now, was, own, fewer a, kept.counted a, ap (open_count a) (close_items ss bs k))
      go a false q =
          let other : a ≢ s.0.0 = λ r. true≢false (sym (eq-eqb s.0.0 a (sym r)) ∙ q) in
          let own : one (s.0.0 == a) ≡ 0 = ap one q in
          omega (arith, get_or-set_other counts s.0.0 a (m - 1) 0 other, own, fewer a, kept.counted a, ap (open_count a) (close_items ss bs k))
