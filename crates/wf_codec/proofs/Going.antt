-- With more bytes behind, what is read stays read, and a bad field stays the bad one; and both are known as soon as their bytes are there.
use Rattle.std.proofs.Common.{◌≡◌, ℕ, zero, suc, ◌+◌, ◌-◌, ◌<◌, ◌≤◌, ◌⊎◌, inl, inr, Bool, true, false, cond, ltb, List, [], ◌∷◌, ◌++◌, length, take, drop, Option, Some, Result, Ok, Err, refl, sym, ap, subst, ◌∙◌, arith}
use Rattle.std.specs.Int.{Width, w64, byte_len, from_be_bytes}
use Rattle.std.proofs.lemmas.Bool.{le-ltb, ltb-false}
use Rattle.std.proofs.lemmas.List.{length-append, length-drop, take-append-le, drop-append-le}
use Rattle.wf_codec.specs.declared.fault.Misfit.{Misfit}
use Rattle.wf_codec.specs.declared.fault.Misfit.TheVariants.{Short, Bad}
use Rattle.wf_model.specs.Steps.{◌>>=◌}
use Rattle.wf_codec.specs.Reading.{is_within, byte_that, byte_in, number_in, eight_at, items_at}

-- a reader of a field: a value and the bytes behind it
abbrev pub Reader : Type 0 → Type 0
Reader A = List ℕ → Result (A × List ℕ) Misfit

pub record GoesOn {A : Type 0} (read : Reader A) : Type 0 where
  -- what is read is read with more bytes behind
  pub stays : (bytes more : List ℕ) (x : A × List ℕ) → read bytes ≡ Ok x → read (bytes ++ more) ≡ Ok (x.0, x.1 ++ more)
  -- a bad field stays the bad one
  pub bad_stays : (bytes more : List ℕ) (left : ℕ) → read bytes ≡ Err (Bad left) → read (bytes ++ more) ≡ Err (Bad (left + length more))
  -- a bad field begins at one of the bytes
  pub bad_is_there : (bytes : List ℕ) (left : ℕ) → read bytes ≡ Err (Bad left) → 1 ≤ left
  pub bad_is_within : (bytes : List ℕ) (left : ℕ) → read bytes ≡ Err (Bad left) → left ≤ length bytes
  -- no more bytes are left than there are
  pub leaves_fewer : (bytes : List ℕ) (x : A × List ℕ) → read bytes ≡ Ok x → length x.1 ≤ length bytes
  -- what is read before some bytes is read without them
  pub reads_front : (front back : List ℕ) (x : A × List ℕ) → read (front ++ back) ≡ Ok x → length back ≤ length x.1 → (rest : List ℕ) × (x.1 ≡ rest ++ back) × (read front ≡ Ok (x.0, rest))
  -- a bad field of which four bytes are there is bad without those behind
  pub bad_at_once : (front back : List ℕ) (left : ℕ) → 4 ≤ left → read (front ++ back) ≡ Err (Bad (left + length back)) → read front ≡ Err (Bad left)

-- ---- steps

-- the value of a step that was read
pub bound_ok : {A B : Type 0} (r : Result A Misfit) (f : A → Result B Misfit) (y : B) → (r >>= f) ≡ Ok y → (x : A) × (r ≡ Ok x) × (f x ≡ Ok y)
bound_ok (Ok x) f y e = (x, refl, e)
bound_ok (Err d) f y e = absurd cc

abbrev refused : {A : Type 0} → Misfit → Result A Misfit
refused d = Err d

refused_is : {A : Type 0} (c d : Misfit) → refused {A = A} c ≡ Err d → c ≡ d
refused_is c d e = cc

-- a step that failed, or one that was read before what failed
pub bound_err : {A B : Type 0} (r : Result A Misfit) (f : A → Result B Misfit) (d : Misfit) → (r >>= f) ≡ Err d → (r ≡ Err d) ⊎ ((x : A) × (r ≡ Ok x) × (f x ≡ Err d))
bound_err (Ok x) f d e = inr (x, refl, e)
bound_err {A} {B} (Err c) f d e = inl (ap (refused {A = A}) (refused_is {A = B} c d e))

abbrev pub found : {A : Type 0} → A → Result A Misfit
found x = Ok x

pub found_is : {A : Type 0} (x y : A) → found x ≡ Ok y → x ≡ y
found_is x y e = cc

pub goes_done : {A : Type 0} (a : A) → GoesOn (λ bytes. Ok (a, bytes))
goes_done {A} a = record {
  stays = λ bytes more x e. ap (λ (y : A × List ℕ). found (y.0, y.1 ++ more)) (found_is (a, bytes) x e);
  bad_stays = λ bytes more left e. absurd cc;
  bad_is_there = λ bytes left e. absurd cc;
  bad_is_within = λ bytes left e. absurd cc;
  leaves_fewer = λ bytes x e. omega (arith, ap (λ (y : A × List ℕ). length y.1) (found_is (a, bytes) x e));
  reads_front = λ front back x e le.
      let same = found_is (a, front ++ back) x e in
      (front, sym (ap (λ (y : A × List ℕ). y.1) same), ap (λ (y : A × List ℕ). found (y.0, front)) same);
  bad_at_once = λ front back left four e. absurd cc;
}

pub goes_then : {A B : Type 0} (read : Reader A) (next : A × List ℕ → Result (B × List ℕ) Misfit) → GoesOn read → ((a : A) → GoesOn (λ rest. next (a, rest))) → GoesOn (λ bytes. read bytes >>= next)
goes_then read next first second = record {
  stays = λ bytes more y e.
      let b = bound_ok (read bytes) next y e in
      rw (first.stays bytes more b.0 b.1) ((second b.0.0).stays b.0.1 more y b.2);
  bad_stays = λ bytes more left e.
      elim (bound_err (read bytes) next (Bad left) e) [
        | inl d ↦ rw (first.bad_stays bytes more left d) refl
        | inr b ↦ rw (first.stays bytes more b.0 b.1) ((second b.0.0).bad_stays b.0.1 more left b.2)
      ];
  bad_is_there = λ bytes left e.
      elim (bound_err (read bytes) next (Bad left) e) [
        | inl d ↦ first.bad_is_there bytes left d
        | inr b ↦ (second b.0.0).bad_is_there b.0.1 left b.2
      ];
  bad_is_within = λ bytes left e.
      elim (bound_err (read bytes) next (Bad left) e) [
        | inl d ↦ first.bad_is_within bytes left d
        | inr b ↦ omega (arith, first.leaves_fewer bytes b.0 b.1, (second b.0.0).bad_is_within b.0.1 left b.2)
      ];
  leaves_fewer = λ bytes y e.
      let b = bound_ok (read bytes) next y e in
      omega (arith, first.leaves_fewer bytes b.0 b.1, (second b.0.0).leaves_fewer b.0.1 y b.2);
  reads_front = λ front back y e le.
      let b = bound_ok (read (front ++ back)) next y e in
      let one = first.reads_front front back b.0 b.1 (omega (arith, le, (second b.0.0).leaves_fewer b.0.1 y b.2)) in
      let two = (second b.0.0).reads_front one.0 back y (subst (λ (s : List ℕ). next (b.0.0, s) ≡ Ok y) one.1 b.2) le in
      (two.0, two.1, rw one.2 two.2);
  bad_at_once = λ front back left four e.
      elim (bound_err (read (front ++ back)) next (Bad (left + length back)) e) [
        | inl d ↦ rw (first.bad_at_once front back left four d) refl
        | inr b ↦
            let one = first.reads_front front back b.0 b.1 (omega (arith, (second b.0.0).bad_is_within b.0.1 (left + length back) b.2)) in
            rw one.2 ((second b.0.0).bad_at_once one.0 back left four (subst (λ (s : List ℕ). next (b.0.0, s) ≡ Err (Bad (left + length back))) one.1 b.2))
      ];
}

pub goes_map : {A B : Type 0} (f : A → B) (read : Reader A) → GoesOn read → GoesOn (λ bytes. read bytes >>= λ x. Ok (f x.0, x.1))
goes_map f read first = goes_then read (λ x. Ok (f x.0, x.1)) first (λ a. goes_done (f a))

-- one of two readers
pub goes_if : {A : Type 0} (b : Bool) (first second : Reader A) → GoesOn first → GoesOn second → GoesOn (λ bytes. cond b (first bytes) (second bytes))
goes_if true first second f s = f
goes_if false first second f s = s

-- ---- fields

-- a field that is whole, and in its range or not
abbrev pub tested : Bool → ℕ → List ℕ → ℕ → Result (ℕ × List ℕ) Misfit
tested good n rest left = cond good (Ok (n, rest)) (Err (Bad left))

tested_ok : (good : Bool) (n : ℕ) (rest : List ℕ) (left : ℕ) (x : ℕ × List ℕ) → tested good n rest left ≡ Ok x → (good ≡ true) × ((n, rest) ≡ x)
tested_ok true n rest left x e = (refl, found_is (n, rest) x e)
tested_ok false n rest left x e = absurd cc

tested_err : (good : Bool) (n : ℕ) (rest : List ℕ) (left at : ℕ) → tested good n rest left ≡ Err (Bad at) → (good ≡ false) × (left ≡ at)
tested_err true n rest left at e = absurd cc
tested_err false n rest left at e = (refl, cc)

-- the same test of the same bytes without those behind
tested_front : (good : Bool) (n : ℕ) (rest : List ℕ) (left : ℕ) (x : ℕ × List ℕ) → good ≡ true → n ≡ x.0 → tested good n rest left ≡ Ok (x.0, rest)
tested_front true n rest left x g e = ap (λ (c : ℕ). found (c, rest)) e
tested_front false n rest left x g e = absurd cc

tested_bad_front : (good : Bool) (n : ℕ) (rest : List ℕ) (left at : ℕ) → good ≡ false → left ≡ at → tested good n rest left ≡ Err (Bad at)
tested_bad_front true n rest left at g e = absurd cc
tested_bad_front false n rest left at g e = ap (λ (k : ℕ). refused (Bad k)) e

tested_stays : (good : Bool) (n : ℕ) (rest more : List ℕ) (left long : ℕ) (x : ℕ × List ℕ) → tested good n rest left ≡ Ok x → tested good n (rest ++ more) long ≡ Ok (x.0, x.1 ++ more)
tested_stays true n rest more left long x e = ap (λ (y : ℕ × List ℕ). found (y.0, y.1 ++ more)) (found_is (n, rest) x e)
tested_stays false n rest more left long x e = absurd cc

tested_bad : (good : Bool) (n : ℕ) (rest more : List ℕ) (left long by at : ℕ) → long ≡ left + by → tested good n rest left ≡ Err (Bad at) → tested good n (rest ++ more) long ≡ Err (Bad (at + by))
tested_bad true n rest more left long by at longer e = absurd cc
tested_bad false n rest more left long by at longer e = let same : left ≡ at = cc in ap (λ (k : ℕ). refused (Bad k)) (longer ∙ ap (λ (k : ℕ). k + by) same)

tested_there : (good : Bool) (n : ℕ) (rest : List ℕ) (left at : ℕ) → 1 ≤ left → tested good n rest left ≡ Err (Bad at) → 1 ≤ at
tested_there true n rest left at some e = absurd cc
tested_there false n rest left at some e = let same : left ≡ at = cc in subst (λ (k : ℕ). 1 ≤ k) same some

-- a byte that is tested
abbrev pub one : (ℕ → Bool) → Reader ℕ
one good [] = Err Short
one good (b ∷ rest) = tested (good b) b rest (suc (length rest))

one_stays : (good : ℕ → Bool) (bytes more : List ℕ) (x : ℕ × List ℕ) → one good bytes ≡ Ok x → one good (bytes ++ more) ≡ Ok (x.0, x.1 ++ more)
one_stays good [] more x e = absurd cc
one_stays good (b ∷ rest) more x e = tested_stays (good b) b rest more (suc (length rest)) (suc (length (rest ++ more))) x e

one_bad : (good : ℕ → Bool) (bytes more : List ℕ) (left : ℕ) → one good bytes ≡ Err (Bad left) → one good (bytes ++ more) ≡ Err (Bad (left + length more))
one_bad good [] more left e = absurd cc
one_bad good (b ∷ rest) more left e = tested_bad (good b) b rest more (suc (length rest)) (suc (length (rest ++ more))) (length more) left (omega (arith, length-append rest more)) e

one_there : (good : ℕ → Bool) (bytes : List ℕ) (left : ℕ) → one good bytes ≡ Err (Bad left) → 1 ≤ left
one_there good [] left e = absurd cc
one_there good (b ∷ rest) left e = tested_there (good b) b rest (suc (length rest)) left (omega arith) e

one_within : (good : ℕ → Bool) (bytes : List ℕ) (left : ℕ) → one good bytes ≡ Err (Bad left) → left ≤ length bytes
one_within good [] left e = absurd cc
one_within good (b ∷ rest) left e = omega (arith, (tested_err (good b) b rest (suc (length rest)) left e).1)

one_fewer : (good : ℕ → Bool) (bytes : List ℕ) (x : ℕ × List ℕ) → one good bytes ≡ Ok x → length x.1 < length bytes
one_fewer good [] x e = absurd cc
one_fewer good (b ∷ rest) x e = omega (arith, ap (λ (y : ℕ × List ℕ). length y.1) (tested_ok (good b) b rest (suc (length rest)) x e).1)

one_front : (good : ℕ → Bool) (front back : List ℕ) (x : ℕ × List ℕ) → one good (front ++ back) ≡ Ok x → length back ≤ length x.1 → (rest : List ℕ) × (x.1 ≡ rest ++ back) × (one good front ≡ Ok (x.0, rest))
one_front good [] back x e le = absurd (omega (arith, le, one_fewer good back x e))
one_front good (b ∷ front) back x e le =
    let t = tested_ok (good b) b (front ++ back) (suc (length (front ++ back))) x e in
    (front, sym (ap (λ (y : ℕ × List ℕ). y.1) t.1), tested_front (good b) b front (suc (length front)) x t.0 (ap (λ (y : ℕ × List ℕ). y.0) t.1))

one_at_once : (good : ℕ → Bool) (front back : List ℕ) (left : ℕ) → 4 ≤ left → one good (front ++ back) ≡ Err (Bad (left + length back)) → one good front ≡ Err (Bad left)
one_at_once good [] back left four e = absurd (omega (arith, four, one_within good back (left + length back) e))
one_at_once good (b ∷ front) back left four e =
    let t = tested_err (good b) b (front ++ back) (suc (length (front ++ back))) (left + length back) e in
    tested_bad_front (good b) b front (suc (length front)) left t.0 (omega (arith, t.1, length-append front back))

pub goes_one : (good : ℕ → Bool) → GoesOn (one good)
goes_one good = record {
  stays = one_stays good;
  bad_stays = one_bad good;
  bad_is_there = one_there good;
  bad_is_within = one_within good;
  leaves_fewer = λ bytes x e. omega (arith, one_fewer good bytes x e);
  reads_front = one_front good;
  bad_at_once = one_at_once good;
}

pub goes_that : (good : ℕ → Bool) → GoesOn (byte_that good)
unfolding byte_that
goes_that good = goes_one good

pub goes_byte : (least limit : ℕ) → GoesOn (byte_in least limit)
unfolding byte_in
goes_byte least limit = goes_that (is_within least limit)

-- a field of some bytes that is tested
abbrev pub wide : ℕ → (List ℕ → ℕ) → (ℕ → Bool) → Reader ℕ
wide size value good bytes = cond (ltb (length bytes) size) (Err Short) (tested (good (value (take size bytes))) (value (take size bytes)) (drop size bytes) (length bytes))

pub whole_ok : {A : Type 0} (short : Bool) (r : Result A Misfit) (x : A) → cond short (Err Short) r ≡ Ok x → (short ≡ false) × (r ≡ Ok x)
whole_ok true r x e = absurd cc
whole_ok false r x e = (refl, e)

whole_bad : {A : Type 0} (short : Bool) (r : Result A Misfit) (left : ℕ) → cond short (Err Short) r ≡ Err (Bad left) → (short ≡ false) × (r ≡ Err (Bad left))
whole_bad true r left e = absurd cc
whole_bad false r left e = (refl, e)

module _ (size : ℕ) (value : List ℕ → ℕ) (good : ℕ → Bool) where
  wide_longer : (bytes more : List ℕ) → size ≤ length bytes → wide size value good (bytes ++ more) ≡ tested (good (value (take size bytes))) (value (take size bytes)) (drop size bytes ++ more) (length (bytes ++ more))
  wide_longer bytes more le =
      let long : ltb (length (bytes ++ more)) size ≡ false = le-ltb _ _ (omega (arith, length-append bytes more)) in
      rw (long, take-append-le size bytes more le, drop-append-le size bytes more le) refl

  wide_stays : (bytes more : List ℕ) (x : ℕ × List ℕ) → wide size value good bytes ≡ Ok x → wide size value good (bytes ++ more) ≡ Ok (x.0, x.1 ++ more)
  wide_stays bytes more x e =
      let w = whole_ok _ _ x e in
      wide_longer bytes more (ltb-false _ _ w.0) ∙ tested_stays _ _ _ more _ _ x w.1

  wide_bad : (bytes more : List ℕ) (left : ℕ) → wide size value good bytes ≡ Err (Bad left) → wide size value good (bytes ++ more) ≡ Err (Bad (left + length more))
  wide_bad bytes more left e =
      let w = whole_bad _ _ left e in
      wide_longer bytes more (ltb-false _ _ w.0) ∙ tested_bad _ _ _ more _ _ _ left (length-append bytes more) w.1

  wide_there : 1 ≤ size → (bytes : List ℕ) (left : ℕ) → wide size value good bytes ≡ Err (Bad left) → 1 ≤ left
  wide_there some bytes left e =
      let w = whole_bad _ _ left e in
      let long : size ≤ length bytes = ltb-false _ _ w.0 in
      tested_there _ _ _ (length bytes) left (omega arith) w.1

  wide_tested : (bytes : List ℕ) (left : ℕ) → wide size value good bytes ≡ Err (Bad left) → tested (good (value (take size bytes))) (value (take size bytes)) (drop size bytes) (length bytes) ≡ Err (Bad left)
  wide_tested bytes left e =
      let w = whole_bad _ _ left e in
      w.1

  wide_within : (bytes : List ℕ) (left : ℕ) → wide size value good bytes ≡ Err (Bad left) → left ≤ length bytes
  wide_within bytes left e =
      let t = tested_err (good (value (take size bytes))) (value (take size bytes)) (drop size bytes) (length bytes) left (wide_tested bytes left e) in
      omega (arith, t.1)

  wide_fewer : (bytes : List ℕ) (x : ℕ × List ℕ) → wide size value good bytes ≡ Ok x → (length x.1 ≡ length bytes - size) × (size ≤ length bytes)
  wide_fewer bytes x e =
      let w = whole_ok _ _ x e in
      let t = tested_ok _ _ (drop size bytes) _ x w.1 in
      (sym (ap (λ (y : ℕ × List ℕ). length y.1) t.1) ∙ length-drop size bytes, ltb-false _ _ w.0)

  wide_whole : (bytes : List ℕ) → size ≤ length bytes → wide size value good bytes ≡ tested (good (value (take size bytes))) (value (take size bytes)) (drop size bytes) (length bytes)
  wide_whole bytes le =
      let long : ltb (length bytes) size ≡ false = le-ltb _ _ le in
      rw long refl

  wide_front : (front back : List ℕ) (x : ℕ × List ℕ) → wide size value good (front ++ back) ≡ Ok x → length back ≤ length x.1 → (rest : List ℕ) × (x.1 ≡ rest ++ back) × (wide size value good front ≡ Ok (x.0, rest))
  wide_front front back x e le =
      let few = wide_fewer (front ++ back) x e in
      let inside : size ≤ length front = omega (arith, le, few.0, few.1, length-append front back) in
      let n = value (take size front) in
      let t = tested_ok (good n) n (drop size front ++ back) (length (front ++ back)) x (sym (wide_longer front back inside) ∙ e) in
      (drop size front, sym (ap (λ (y : ℕ × List ℕ). y.1) t.1), wide_whole front inside ∙ tested_front (good n) n (drop size front) (length front) x t.0 (ap (λ (y : ℕ × List ℕ). y.0) t.1))

  -- where only narrow fields are bad
  wide_at_once : ((n : ℕ) → good n ≡ false → size ≤ 4) → (front back : List ℕ) (left : ℕ) → 4 ≤ left → wide size value good (front ++ back) ≡ Err (Bad (left + length back)) → wide size value good front ≡ Err (Bad left)
  wide_at_once narrow front back left four e =
      let n_of_both = value (take size (front ++ back)) in
      let t = tested_err (good n_of_both) n_of_both (drop size (front ++ back)) (length (front ++ back)) (left + length back) (wide_tested (front ++ back) (left + length back) e) in
      let len : length front ≡ left = omega (arith, t.1, length-append front back) in
      let inside : size ≤ length front = omega (arith, narrow _ t.0) in
      let n = value (take size front) in
      let u = tested_err (good n) n (drop size front ++ back) (length (front ++ back)) (left + length back) (sym (wide_longer front back inside) ∙ e) in
      wide_whole front inside ∙ tested_bad_front (good n) n (drop size front) (length front) left u.0 len

  pub goes_wide : 1 ≤ size → ((n : ℕ) → good n ≡ false → size ≤ 4) → GoesOn (wide size value good)
  goes_wide some narrow = record {
    stays = wide_stays;
    bad_stays = wide_bad;
    bad_is_there = wide_there some;
    bad_is_within = wide_within;
    leaves_fewer = λ bytes x e. let few = wide_fewer bytes x e in omega (arith, few.0);
    reads_front = wide_front;
    bad_at_once = wide_at_once narrow;
  }

pub goes_number : (w : Width) (least limit : ℕ) → 1 ≤ byte_len w → byte_len w ≤ 4 → GoesOn (number_in w least limit)
unfolding number_in
goes_number w least limit some narrow = goes_wide (byte_len w) (from_be_bytes w) (is_within least limit) some (λ n bad. narrow)

pub goes_eight : GoesOn eight_at
unfolding eight_at
goes_eight = goes_wide (byte_len w64) (from_be_bytes w64) (λ n. true) (omega arith) (λ n bad. absurd cc)

-- ---- items

pub goes_items : {A : Type 0} (item : Option A → Reader A) → ((before : Option A) → GoesOn (item before)) → (n : ℕ) (before : Option A) → GoesOn (items_at item n before)
unfolding items_at
goes_items {A} item each zero before = goes_done {A = List A} []
goes_items {A} item each (suc n) before =
    goes_then (item before) (λ first. items_at item n (Some first.0) first.1 >>= λ others. Ok (first.0 ∷ others.0, others.1)) (each before)
    (λ a. goes_map {B = List A} (λ others. a ∷ others) (items_at item n (Some a)) (goes_items item each n (Some a)))
