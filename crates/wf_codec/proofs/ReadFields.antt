-- What is known of fields that were read.
use Rattle.std.proofs.Common.{◌≡◌, ℕ, zero, suc, ◌<◌, ◌≤◌, Bool, true, false, cond, ltb, leb, List, [], ◌∷◌, ◌++◌, length, take, drop, Ok, Err, refl, ap, arith, IsTrue}
use Rattle.std.proofs.lemmas.Bool.{ltb-true, and_parts}
use Rattle.wf_codec.specs.declared.fault.Misfit.TheVariants.{Bad}
use Rattle.wf_codec.specs.Reading.{is_within, byte_that, byte_in}

tested : (b : Bool) (l : ℕ) (x y : ℕ × List ℕ) → cond b (Ok x) (Err (Bad l)) ≡ Ok y → (b ≡ true) × (x ≡ y)
tested true l x y e = (refl, cc)
tested false l x y e = absurd cc

-- a byte that was read passed its test, and was the first
pub byte_passed : (test : ℕ → Bool) (bytes : List ℕ) (c : ℕ) (rest : List ℕ) → byte_that test bytes ≡ Ok (c, rest) → IsTrue (test c) × (bytes ≡ c ∷ rest)
unfolding byte_that
byte_passed test [] c rest e = absurd cc
byte_passed test (b ∷ bytes) c rest e =
    let w = tested (test b) (suc (length bytes)) (b, bytes) (c, rest) e in
    let same : b ≡ c = ap (λ (x : ℕ × List ℕ). x.0) w.1 in
    (rw (← same) w.0, ap (λ (x : ℕ × List ℕ). x.0 ∷ x.1) w.1)

-- a byte that was read is below its limit
pub byte_is_below : (least limit : ℕ) (bytes : List ℕ) (n : ℕ) (rest : List ℕ) → byte_in least limit bytes ≡ Ok (n, rest) → n < limit
unfolding byte_in
byte_is_below least limit bytes n rest e = ltb-true n limit (and_parts (leb least n) (ltb n limit) (byte_passed (is_within least limit) bytes n rest e).0).1

-- one byte more at a place in some bytes
pub taken_more : (i : ℕ) (bytes : List ℕ) (x : ℕ) (after : List ℕ) → drop i bytes ≡ x ∷ after → (take (suc i) bytes ≡ take i bytes ++ x ∷ []) × (drop (suc i) bytes ≡ after) × (suc i ≤ length bytes)
taken_more zero [] x after e = absurd cc
taken_more zero (b ∷ bytes) x after e =
    let first : b ≡ x = cc in
    let others : bytes ≡ after = cc in
    (ap (λ (c : ℕ). c ∷ []) first, others, omega arith)
taken_more (suc i) [] x after e = absurd cc
taken_more (suc i) (b ∷ bytes) x after e =
    let t = taken_more i bytes x after e in
    (ap (λ (s : List ℕ). b ∷ s) t.0, t.1, omega (arith, t.2))
