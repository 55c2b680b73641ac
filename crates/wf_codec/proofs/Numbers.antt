-- Bytes and numbers in a range, each a field of its own.
use Rattle.std.proofs.Common.{◌≡◌, ℕ, ◌^◌, ◌<◌, ◌≤◌, Bool, true, false, cond, ltb, leb, List, [], ◌∷◌, ◌++◌, length, take, drop, Result, Ok, Err, refl, sym, ap, subst, ◌∙◌, arith}
use Rattle.std.specs.Prelude.{suc, IsTrue}
use Rattle.std.specs.Int.{Width, w16, w32, w64, byte_len, from_be_bytes, to_be_bytes}
use Rattle.std.proofs.lemmas.Bool.{ltb-true, ltb-false, le-ltb, lt-ltb, leb-true, le-leb, and_parts, and_from}
use Rattle.std.proofs.lemmas.List.{take_at, drop_at, take-append-drop, length-append, length-take}
use Rattle.std.proofs.lemmas.Nat.{be_bytes_2, be_bytes_4, be_bytes_8, from_be_bytes-to_be_bytes_2, from_be_bytes-to_be_bytes_4, from_be_bytes-to_be_bytes_8}
use Rattle.wf_codec.specs.declared.fault.Misfit.{Misfit}
use Rattle.wf_codec.specs.declared.fault.Misfit.TheVariants.{Short, Bad}
use Rattle.wf_codec.specs.Reading.{is_within, ranged, byte_that, byte_in, number_in, eight_at}
use Rattle.wf_codec.proofs.Readers.{IsBytes, IsBytes-take, IsBytes-drop, IsBytes-rest, ok_is, Takes, Reads, Reads-as}

-- a test of which the one answer is a fault
pub refused_not : {A : Type 0} (b : Bool) (d : Misfit) (r : Result A Misfit) (y : A) → cond b (Err d) r ≡ Ok y → (b ≡ false) × (r ≡ Ok y)
refused_not true d r y e = absurd cc
refused_not false d r y e = (refl, e)

pub passed : {A : Type 0} (b : Bool) (d : Misfit) (r : Result A Misfit) (y : A) → cond b r (Err d) ≡ Ok y → (b ≡ true) × (r ≡ Ok y)
passed true d r y e = (refl, e)
passed false d r y e = absurd cc

abbrev pub IsWithin : ℕ → ℕ → ℕ → Type 0
IsWithin least limit n = (least ≤ n) × (n < limit)

ranged_takes : (least limit : ℕ) (bytes : List ℕ) (n : ℕ) (rest : List ℕ) (x : ℕ) (left : List ℕ) → ranged least limit bytes n rest ≡ Ok (x, left) → (n ≡ x) × (rest ≡ left) × IsWithin least limit n
ranged_takes least limit bytes n rest x left e =
    let p = passed (is_within least limit n) (Bad (length bytes)) (Ok (n, rest)) (x, left) e in
    let q = ok_is (n, rest) (x, left) p.1 in
    let h = and_parts (leb least n) (ltb n limit) p.0 in
    (ap (λ (y : ℕ × List ℕ). y.0) q, ap (λ (y : ℕ × List ℕ). y.1) q, (leb-true least n h.0, ltb-true n limit h.1))

ranged_again : (least limit : ℕ) (bytes : List ℕ) (n : ℕ) (rest : List ℕ) → IsWithin least limit n → ranged least limit bytes n rest ≡ Ok (n, rest)
ranged_again least limit bytes n rest h = rw (le-leb least n h.0, lt-ltb n limit h.1) refl

-- ---- a byte

abbrev pub one_byte : ℕ → List ℕ
one_byte b = b ∷ []

that_takes : (test : ℕ → Bool) (bytes : List ℕ) (x : ℕ) (rest : List ℕ) → IsBytes bytes → byte_that test bytes ≡ Ok (x, rest) → Takes bytes (one_byte x) rest × IsTrue (test x)
unfolding byte_that
that_takes test [] x rest fits e = absurd cc
that_takes test (c ∷ bytes) x rest fits e =
    let p = passed (test c) (Bad (suc (length bytes))) (Ok (c, bytes)) (x, rest) e in
    subst (λ (y : ℕ × List ℕ). Takes (c ∷ bytes) (one_byte y.0) y.1 × IsTrue (test y.0)) (ok_is (c, bytes) (x, rest) p.1)
    (record { parts = refl; rest_fits = IsBytes-rest c bytes fits }, p.0)

that_again : (test : ℕ → Bool) (c : ℕ) (rest : List ℕ) → IsTrue (test c) → byte_that test (c ∷ rest) ≡ Ok (c, rest)
unfolding byte_that
that_again test c rest h = ap (λ (b : Bool). cond {A = Result (ℕ × List ℕ) Misfit} b (Ok (c, rest)) (Err (Bad (suc (length rest))))) h

-- a byte that passes a test
pub Reads-that : (test : ℕ → Bool) → Reads (byte_that test) one_byte (λ c. IsTrue (test c))
Reads-that test = record { takes = that_takes test; again = that_again test }

within_is : (least limit n : ℕ) → IsTrue (is_within least limit n) → IsWithin least limit n
within_is least limit n h = let p = and_parts (leb least n) (ltb n limit) h in (leb-true least n p.0, ltb-true n limit p.1)

is_so_within : (least limit n : ℕ) → IsWithin least limit n → IsTrue (is_within least limit n)
is_so_within least limit n h = and_from (leb least n) (ltb n limit) (le-leb least n h.0) (lt-ltb n limit h.1)

pub Reads-byte : (least limit : ℕ) → Reads (byte_in least limit) one_byte (IsWithin least limit)
unfolding byte_in
Reads-byte least limit = Reads-as one_byte (IsWithin least limit) (Reads-that (is_within least limit)) (λ x fit. refl) (within_is least limit) (is_so_within least limit)

-- ---- numbers of several bytes

pub record IsWide (w : Width) (top : ℕ) : Type 0 where
  pub len : (n : ℕ) → length (to_be_bytes w n) ≡ byte_len w
  pub back : (bytes : List ℕ) → length bytes ≡ byte_len w → IsBytes bytes → to_be_bytes w (from_be_bytes w bytes) ≡ bytes
  pub again : (n : ℕ) → n < top → from_be_bytes w (to_be_bytes w n) ≡ n

pub wide16 : IsWide w16 (2 ^ 16)
wide16 = record {
  len = λ n. refl;
  back = λ bytes len fits. be_bytes_2 bytes _ len fits refl;
  again = λ n lt. from_be_bytes-to_be_bytes_2 n lt;
}

pub wide32 : IsWide w32 (2 ^ 32)
wide32 = record {
  len = λ n. refl;
  back = λ bytes len fits. be_bytes_4 bytes _ len fits refl;
  again = λ n lt. from_be_bytes-to_be_bytes_4 n lt;
}

pub wide64 : IsWide w64 (2 ^ 64)
wide64 = record {
  len = λ n. refl;
  back = λ bytes len fits. be_bytes_8 bytes _ len fits refl;
  again = λ n lt. from_be_bytes-to_be_bytes_8 n lt;
}

number_takes : (w : Width) (top : ℕ) → IsWide w top → (least limit : ℕ) (bytes : List ℕ) (x : ℕ) (rest : List ℕ) → IsBytes bytes → number_in w least limit bytes ≡ Ok (x, rest) → Takes bytes (to_be_bytes w x) rest × IsWithin least limit x
unfolding number_in
number_takes w top wide least limit bytes x rest fits e =
    let front = take (byte_len w) bytes in
    let g = refused_not (ltb (length bytes) (byte_len w)) Short (ranged least limit bytes (from_be_bytes w front) (drop (byte_len w) bytes)) (x, rest) e in
    let long : byte_len w ≤ length bytes = ltb-false _ _ g.0 in
    let r = ranged_takes least limit bytes (from_be_bytes w front) (drop (byte_len w) bytes) x rest g.1 in
    let spelled : to_be_bytes w (from_be_bytes w front) ≡ front = wide.back front (omega (arith, length-take (byte_len w) bytes)) (IsBytes-take (byte_len w) bytes fits) in
    let parts : bytes ≡ to_be_bytes w (from_be_bytes w front) ++ drop (byte_len w) bytes = sym (take-append-drop (byte_len w) bytes) ∙ ap (λ (s : List ℕ). s ++ drop (byte_len w) bytes) (sym spelled) in
    let here : Takes bytes (to_be_bytes w (from_be_bytes w front)) (drop (byte_len w) bytes) = record { parts = parts; rest_fits = IsBytes-drop (byte_len w) bytes fits } in
    subst (λ (s : List ℕ). Takes bytes (to_be_bytes w x) s × IsWithin least limit x) r.1
    (subst (λ (y : ℕ). Takes bytes (to_be_bytes w y) (drop (byte_len w) bytes) × IsWithin least limit y) r.0 (here, r.2))

number_again : (w : Width) (top : ℕ) → IsWide w top → (least limit : ℕ) → limit ≤ top → (n : ℕ) (rest : List ℕ) → IsWithin least limit n → number_in w least limit (to_be_bytes w n ++ rest) ≡ Ok (n, rest)
unfolding number_in
number_again w top wide least limit small n rest h =
    let len = wide.len n in
    let long : ltb (length (to_be_bytes w n ++ rest)) (byte_len w) ≡ false = le-ltb _ _ (omega (arith, length-append (to_be_bytes w n) rest)) in
    let inside : n < top = omega (arith, h.1) in
    let same : from_be_bytes w (take (byte_len w) (to_be_bytes w n ++ rest)) ≡ n = ap (from_be_bytes w) (take_at (to_be_bytes w n) rest (byte_len w) len) ∙ wide.again n inside in
    rw (long, same, drop_at (to_be_bytes w n) rest (byte_len w) len) (ranged_again least limit (to_be_bytes w n ++ rest) n rest h)

pub Reads-number : (w : Width) (top : ℕ) → IsWide w top → (least limit : ℕ) → limit ≤ top → Reads (number_in w least limit) (to_be_bytes w) (IsWithin least limit)
Reads-number w top wide least limit small = record { takes = number_takes w top wide least limit; again = number_again w top wide least limit small }

pub Reads-two : (least limit : ℕ) → limit ≤ 2 ^ 16 → Reads (number_in w16 least limit) (to_be_bytes w16) (IsWithin least limit)
Reads-two least limit small = Reads-number w16 (2 ^ 16) wide16 least limit small

-- ---- a number of eight bytes, which may be any

eight_below : (bytes : List ℕ) → IsBytes bytes → from_be_bytes w64 bytes < 2 ^ 64
eight_below bytes fits = omega (arith, fits 0, fits 1, fits 2, fits 3, fits 4, fits 5, fits 6, fits 7)

eight_ranged : (bytes : List ℕ) → IsBytes bytes → eight_at bytes ≡ number_in w64 0 (2 ^ 64) bytes
unfolding eight_at number_in
eight_ranged bytes fits =
    let front = take (byte_len w64) bytes in
    let below : from_be_bytes w64 front < 2 ^ 64 = eight_below front (IsBytes-take (byte_len w64) bytes fits) in
    ap (λ (r : Result (ℕ × List ℕ) Misfit). cond (ltb (length bytes) (byte_len w64)) (Err Short) r) (sym (ranged_again 0 (2 ^ 64) bytes (from_be_bytes w64 front) (drop (byte_len w64) bytes) (omega arith, below)))

eight_again : (n : ℕ) (rest : List ℕ) → n < 2 ^ 64 → eight_at (to_be_bytes w64 n ++ rest) ≡ Ok (n, rest)
unfolding eight_at
eight_again n rest below =
    let len = wide64.len n in
    let long : ltb (length (to_be_bytes w64 n ++ rest)) (byte_len w64) ≡ false = le-ltb _ _ (omega (arith, length-append (to_be_bytes w64 n) rest)) in
    let same : from_be_bytes w64 (take (byte_len w64) (to_be_bytes w64 n ++ rest)) ≡ n = ap (from_be_bytes w64) (take_at (to_be_bytes w64 n) rest (byte_len w64) len) ∙ wide64.again n below in
    rw (long, same, drop_at (to_be_bytes w64 n) rest (byte_len w64) len) refl

pub Reads-eight : Reads eight_at (to_be_bytes w64) (IsWithin 0 (2 ^ 64))
Reads-eight = record {
  takes = λ bytes x rest fits e. number_takes w64 (2 ^ 64) wide64 0 (2 ^ 64) bytes x rest fits (sym (eight_ranged bytes fits) ∙ e);
  again = λ n rest fit. eight_again n rest fit.1;
}
