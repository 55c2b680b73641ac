-- The literals of an expression hold their values.
use Rattle.std.proofs.Common.{◌≡◌, ℕ, ◌+◌, ◌-◌, ◌*◌, ◌%◌, ◌^◌, ◌<◌, ◌≤◌, ◌&&◌, true, nat_le, Bool, List, [], ◌∷◌, ◌++◌, length, length-append, Some, refl, ◌∙◌, ap, arith}
use Rattle.std.specs.List.{take_while, list_all, fold}
use Rattle.std.specs.Fmt.{decimal}
use Rattle.std.proofs.lemmas.Fmt.{decimal_by_steps}
use Rattle.std.proofs.lemmas.List.Sums.{take_while-cons, fold-append}
use Rattle.std.proofs.lemmas.Bool.Decides.{nat_tests}
use Rattle.wf_model.specs.Limits.{max_text, max_int}
use Rattle.wf_model.specs.Names.{is_digit}
use Rattle.wf_model.specs.Txt.{is_text_char, is_text}
use Rattle.wf_model.proofs.Bools.{and_both, and_true}
use Rattle.wf_cursor.specs.Values.{with_digit, number, number_up_to, characters, short_text}
use Rattle.wf_print.specs.Words.{quoted}

pub all-append : {A : Type 0} (test : A → Bool) (xs ys : List A) → list_all test xs ≡ true → list_all test ys ≡ true → list_all test (xs ++ ys) ≡ true
all-append test [] ys h k = k
all-append test (x ∷ xs) ys h k =
    let p = and_both (test x) (list_all test xs) h in
    and_true (test x) (list_all test (xs ++ ys)) p.0 (all-append test xs ys p.1 k)

-- ---- Ints

pub record IsNumberOf (n : ℕ) (digits : List ℕ) : Type 0 where
  pub value : number digits ≡ n
  pub all : list_all is_digit digits ≡ true
  pub some : 0 < length digits

digit_is : (d : ℕ) → d < 10 → is_digit (48 + d) ≡ true
digit_is d h = grind (arith, nat_tests)

one_digit : (d : ℕ) → d < 10 → list_all is_digit ((48 + d) ∷ []) ≡ true
one_digit d h = and_true (is_digit (48 + d)) true (digit_is d h) refl

pub decimal_is : (n : ℕ) → n < 2 ^ 64 → IsNumberOf n (decimal n)
decimal_is = decimal_by_steps IsNumberOf
    (λ n h. record { value = omega arith; all = one_digit n h; some = omega arith })
    (λ n digits h front. record {
      value =
          let last : fold with_digit 0 (digits ++ (48 + n % 10) ∷ []) ≡ number digits * 10 + (48 + n % 10 - 48) = fold-append with_digit 0 digits ((48 + n % 10) ∷ []) in
          omega (arith, last, front.value);
      all = all-append is_digit digits ((48 + n % 10) ∷ []) front.all (one_digit (n % 10) (omega arith));
      some = omega (arith, length-append digits ((48 + n % 10) ∷ []));
    })

pub int_is_read : (n : ℕ) → n ≤ max_int → number_up_to max_int (decimal n) ≡ Some n
unfolding number_up_to
int_is_read n fits =
    let is = (decimal_is n (omega arith)).value in
    let small : nat_le (number (decimal n)) max_int ≡ true = grind (arith, nat_tests) in
    rw small (ap Some is)

-- ---- Texts

pub text_before : (t rest : List ℕ) → is_text t ≡ true → take_while is_text_char (t ++ 34 ∷ rest) ≡ t
text_before [] rest h = take_while-cons is_text_char 34 rest
text_before (c ∷ t) rest h =
    let p = and_both (is_text_char c) (is_text t) h in
    take_while-cons is_text_char c (t ++ 34 ∷ rest) ∙ rw (p.0) (ap (λ cs. c ∷ cs) (text_before t rest p.1))

pub text_is_read : (t : List ℕ) → (is_text t && nat_le (length t) max_text) ≡ true → short_text (quoted t) ≡ Some t
unfolding short_text
text_is_read t h =
    let p = and_both (is_text t) (nat_le (length t) max_text) h in
    let whole : characters (quoted t) ≡ t = text_before t [] p.0 in
    rw (whole, p.1) refl
