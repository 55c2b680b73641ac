-- Values: what is read is spelled so, and the other way round.
use Rattle.std.proofs.Common.{◌≡◌, ℕ, ℤ, pos, negsuc, zero, suc, ◌+◌, ◌^◌, ◌<◌, Bool, true, false, cond, eqb, List, [], ◌∷◌, ◌++◌, length, Option, Some, None, Result, refl, sym, ap, subst, ◌∙◌, arith}
use Rattle.std.specs.Prelude.{IsTrue}
use Rattle.std.specs.List.{flat_map, list_all}
use Rattle.std.specs.Int.{w64, to_be_bytes, cast_signed, cast_unsigned}
use Rattle.std.specs.Int.RustNames.{FitsSigned}
use Rattle.std.proofs.lemmas.Int.{ints, of_z-to_z, to_z-of_z}
use Rattle.std.proofs.Math.Facts.{sfits_to_z}
use Rattle.std.proofs.lemmas.Bool.{and_parts, and_from}
use Rattle.std.proofs.lemmas.List.Concat.{flat_map-cons}
use Rattle.wf_model.specs.Limits.{max_text}
use Rattle.wf_model.specs.Txt.{is_text_char}
use Rattle.wf_model.specs.declared.value.Val.{Val}
use Rattle.wf_model.specs.declared.value.Val.TheVariants as v
use Rattle.wf_codec.specs.declared.fault.Misfit.{Misfit}
use Rattle.wf_codec.specs.Tags.{bool_sort, int_sort, text_sort}
use Rattle.wf_codec.specs.Spelling.{truth, eight, value_spelling}
use Rattle.wf_codec.specs.Ranges.{IsHeldValue}
use Rattle.wf_codec.specs.Fields.{bool_at, int_at, text_at, value_at}
use Rattle.wf_codec.proofs.Readers.{Reads, Reads-then, Reads-as, Reads-of}
use Rattle.wf_codec.proofs.Numbers.{IsWithin, one_byte, Reads-that, Reads-byte, Reads-eight}
use Rattle.wf_codec.proofs.Lists.{EachFits, Reads-items}

-- ---- characters that pass a test

pub each_one_byte : (cs : List ℕ) → flat_map one_byte cs ≡ cs
each_one_byte [] = refl
each_one_byte (c ∷ cs) = flat_map-cons one_byte c cs ∙ ap (λ (s : List ℕ). c ∷ s) (each_one_byte cs)

pub all_pass : (test : ℕ → Bool) (before : Option ℕ) (cs : List ℕ) → EachFits (λ b c. IsTrue (test c)) before cs → IsTrue (list_all test cs)
all_pass test before [] fits = refl
all_pass test before (c ∷ cs) fits = and_from (test c) (list_all test cs) fits.0 (all_pass test (Some c) cs fits.1)

pub each_passes : (test : ℕ → Bool) (before : Option ℕ) (cs : List ℕ) → IsTrue (list_all test cs) → EachFits (λ b c. IsTrue (test c)) before cs
each_passes test before [] h = tt
each_passes test before (c ∷ cs) h =
    let p = and_parts (test c) (list_all test cs) h in
    (p.0, each_passes test (Some c) cs p.1)

-- ---- a value by its sort

abbrev sort_of : Val → ℕ
sort_of (v.Bool b) = bool_sort
sort_of (v.Int z) = int_sort
sort_of (v.Text cs) = text_sort

abbrev behind_sort : Val → List ℕ
behind_sort (v.Bool b) = truth b ∷ []
behind_sort (v.Int z) = eight (cast_unsigned w64 z)
behind_sort (v.Text cs) = length cs ∷ cs

abbrev truth_of : Val → ℕ
truth_of (v.Bool b) = truth b
truth_of (v.Int z) = 0
truth_of (v.Text cs) = 0

abbrev integer_of : Val → ℕ
integer_of (v.Bool b) = 0
integer_of (v.Int z) = cast_unsigned w64 z
integer_of (v.Text cs) = 0

abbrev chars_of : Val → List ℕ
chars_of (v.Bool b) = []
chars_of (v.Int z) = []
chars_of (v.Text cs) = cs

abbrev IsOfSort : ℕ → Val → Type 0
IsOfSort sort x = (sort_of x ≡ sort) × IsHeldValue x

truth-back : (n : ℕ) → n < 2 → truth (eqb n 1) ≡ n
truth-back zero h = refl
truth-back (suc zero) h = refl
truth-back (suc (suc n)) h = absurd (omega arith)

truth-below : (b : Bool) → truth b < 2
truth-below true = omega arith
truth-below false = omega arith

truth-read : (b : Bool) → v.Bool b ≡ v.Bool (eqb (truth b) 1)
truth-read true = refl
truth-read false = refl

bool_fits : (x : Val) → IsOfSort bool_sort x → IsWithin 0 2 (truth_of x) × (x ≡ v.Bool (eqb (truth_of x) 1))
bool_fits (v.Bool b) h = ((omega arith, truth-below b), truth-read b)
bool_fits (v.Int z) h = absurd (omega arith)
bool_fits (v.Text cs) h = absurd (omega arith)

Reads-bool : Reads bool_at behind_sort (IsOfSort bool_sort)
unfolding bool_at
Reads-bool =
    Reads-as behind_sort (IsOfSort bool_sort)
    (Reads-of truth_of (λ n. v.Bool (eqb n 1)) (Reads-byte 0 2) (λ n fit. truth-back n fit.1))
    (λ x fit. subst (λ (y : Val). one_byte (truth_of y) ≡ behind_sort y) (sym fit.1) refl)
    (λ x fit. subst (λ (y : Val). IsOfSort bool_sort y) (sym fit.1) (refl, tt))
    bool_fits

bits_fit : (n : ℕ) → n < 2 ^ 64 → FitsSigned w64 (cast_signed w64 n)
bits_fit n h = sfits_to_z {w = w64} record { fits = h }

below_bits : (z : ℤ) → FitsSigned w64 z → cast_unsigned w64 z < 2 ^ 64
below_bits (pos n) h = omega (arith, ints)
below_bits (negsuc n) h = omega (arith, ints)

int_fits : (x : Val) → IsOfSort int_sort x → IsWithin 0 (2 ^ 64) (integer_of x) × (x ≡ v.Int (cast_signed w64 (integer_of x)))
int_fits (v.Bool b) h = absurd (omega arith)
int_fits (v.Int z) h = ((omega arith, below_bits z h.1), ap v.Int (sym (to_z-of_z w64 z h.1)))
int_fits (v.Text cs) h = absurd (omega arith)

Reads-int : Reads int_at behind_sort (IsOfSort int_sort)
unfolding int_at
Reads-int =
    Reads-as behind_sort (IsOfSort int_sort)
    (Reads-of integer_of (λ n. v.Int (cast_signed w64 n)) Reads-eight (λ n fit. of_z-to_z w64 n fit.1))
    (λ x fit. subst (λ (y : Val). to_be_bytes w64 (integer_of y) ≡ behind_sort y) (sym fit.1) refl)
    (λ x fit. subst (λ (y : Val). IsOfSort int_sort y) (sym fit.1) (refl, bits_fit (integer_of x) fit.0.1))
    int_fits

text_fits : (x : Val) → IsOfSort text_sort x
    → IsWithin 0 (max_text + 1) (length (chars_of x)) × (((length (chars_of x) ≡ length (chars_of x)) × EachFits (λ b c. IsTrue (is_text_char c)) None (chars_of x)) × (x ≡ v.Text (chars_of x)))
text_fits (v.Bool b) h = absurd (omega arith)
text_fits (v.Int z) h = absurd (omega arith)
text_fits (v.Text cs) h = ((omega arith, omega (arith, h.1.0)), ((refl, each_passes is_text_char None cs h.1.1), refl))

Reads-text : Reads text_at behind_sort (IsOfSort text_sort)
unfolding text_at
Reads-text =
    Reads-as behind_sort (IsOfSort text_sort)
    (Reads-then (λ x. length (chars_of x)) (Reads-byte 0 (max_text + 1))
    (λ n fit. Reads-of chars_of v.Text (Reads-items (λ before. Reads-that is_text_char) n None) (λ cs fits. refl))
    (λ n x fit fits. fits.0.0))
    (λ x fit. ap (λ (cs : List ℕ). length (chars_of x) ∷ cs) (each_one_byte (chars_of x)) ∙ subst (λ (y : Val). length (chars_of y) ∷ chars_of y ≡ behind_sort y) (sym fit.1.1) refl)
    (λ x fit. subst (λ (y : Val). IsOfSort text_sort y) (sym fit.1.1) (refl, (omega (arith, fit.0.1), all_pass is_text_char None (chars_of x) fit.1.0.1)))
    text_fits

Reads-sorted : (sort : ℕ) → IsWithin bool_sort (text_sort + 1) sort
    → Reads (λ bytes. cond {A = Result (Val × List ℕ) Misfit} (eqb sort bool_sort) (bool_at bytes) (cond (eqb sort int_sort) (int_at bytes) (text_at bytes))) behind_sort (IsOfSort sort)
Reads-sorted zero h = Reads-bool
Reads-sorted (suc zero) h = Reads-int
Reads-sorted (suc (suc zero)) h = Reads-text
Reads-sorted (suc (suc (suc n))) h = absurd (omega (arith, h.1))

sorted_spelling : (x : Val) → one_byte (sort_of x) ++ behind_sort x ≡ value_spelling x
unfolding value_spelling
sorted_spelling (v.Bool b) = refl
sorted_spelling (v.Int z) = refl
sorted_spelling (v.Text cs) = refl

sort_within : (x : Val) → IsWithin bool_sort (text_sort + 1) (sort_of x)
sort_within (v.Bool b) = (omega arith, omega arith)
sort_within (v.Int z) = (omega arith, omega arith)
sort_within (v.Text cs) = (omega arith, omega arith)

pub Reads-value : Reads value_at value_spelling IsHeldValue
unfolding value_at
Reads-value =
    Reads-as value_spelling IsHeldValue
    (Reads-then sort_of (Reads-byte bool_sort (text_sort + 1)) (λ sort fit. Reads-sorted sort fit) (λ sort x fit fits. fits.0))
    (λ x fit. sorted_spelling x) (λ x fit. fit.1.1) (λ x fit. (sort_within x, (refl, fit)))
