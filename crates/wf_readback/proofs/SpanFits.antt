-- Spans that are written as a text, and stand apart in it.
use Rattle.std.proofs.Common.{◌≡◌, ℕ, zero, suc, Bool, true, false, List, [], ◌∷◌, ◌++◌, get_or, flat_map, slice_get, replicate, refl, sym, ◌∙◌, ap, ap₂, subst, append-nil, append_assoc}
use Rattle.std.specs.List.{list_all}
use lib.Chars.{codes}
use Rattle.wf_model.specs.Names.{is_word_char, is_word}
use Rattle.wf_model.specs.Tree.{list_from}
use Rattle.wf_model.proofs.Bools.{and_both}
use Rattle.wf_lex.specs.declared.token.TokenKind.TheVariants as kinds
use Rattle.wf_lex.specs.Lex.{is_blank, token_at}
use Rattle.wf_lex.specs.Slices.{IsToken}
use Rattle.wf_readback.proofs.Spans.{Span, written, goes_on, AreApart}
use Rattle.wf_readback.proofs.ExprSpans.{sign, blank}
use Rattle.wf_readback.proofs.ChartSpans.{line_feed, one, first, between, parting, line_end}
use Rattle.wf_readback.proofs.Written.{written-append}
use Rattle.wf_readback.proofs.Apart.{apart-append, word_token}

-- this may follow a word, where one stands before it
abbrev pub MayFollow : Bool → List ℕ → Type 0
MayFollow true text = is_word_char (get_or text 0 0) ≡ false
MayFollow false text = Unit {0}

-- The spans are written as the text. The flags say whether a word may stand right before them, and whether they may end in one.
pub record Fits (before behind : Bool) (spans : List Span) (text : List ℕ) : Type 0 where
  pub says : written spans ≡ text
  pub apart : (rest : List ℕ) → MayFollow behind rest → AreApart spans rest
  pub begins : (rest : List ℕ) → MayFollow behind rest → MayFollow before (text ++ rest)

pub none : (f : Bool) → Fits f f [] []
none f = record { says = refl; apart = λ rest e. tt; begins = λ rest e. e }

pub join : {f g h : Bool} (us vs : List Span) (a b : List ℕ) → Fits f g us a → Fits g h vs b → Fits f h (us ++ vs) (a ++ b)
join {f} us vs a b p q = record {
  says = written-append us vs ∙ ap₂ (λ (s t : List ℕ). s ++ t) p.says q.says;
  apart = λ rest e.
      let behind : b ++ rest ≡ written vs ++ rest = ap (λ t. t ++ rest) (sym q.says) in
      apart-append us vs rest (subst (AreApart us) behind (p.apart (b ++ rest) (q.begins rest e))) (q.apart rest e);
  begins = λ rest e. subst (MayFollow f) (sym (append_assoc a b rest)) (p.begins (b ++ rest) (q.begins rest e));
}

pub three : {f g h k : Bool} (us vs ws : List Span) (a b c : List ℕ) → Fits f g us a → Fits g h vs b → Fits h k ws c → Fits f k (us ++ vs ++ ws) (a ++ b ++ c)
three us vs ws a b c p q r = join (us ++ vs) ws (a ++ b) c (join us vs a b p q) r

pub four : {f g h k l : Bool} (us vs ws xs : List Span) (a b c d : List ℕ) → Fits f g us a → Fits g h vs b → Fits h k ws c → Fits k l xs d
    → Fits f l (us ++ vs ++ ws ++ xs) (a ++ b ++ c ++ d)
four us vs ws xs a b c d p q r s = join (us ++ vs ++ ws) xs (a ++ b ++ c) d (three us vs ws a b c p q r) s

pub five : {f g h k l m : Bool} (us vs ws xs ys : List Span) (a b c d t : List ℕ) → Fits f g us a → Fits g h vs b → Fits h k ws c → Fits k l xs d → Fits l m ys t
    → Fits f m (us ++ vs ++ ws ++ xs ++ ys) (a ++ b ++ c ++ d ++ t)
five us vs ws xs ys a b c d t p q r s z = join (us ++ vs ++ ws ++ xs) ys (a ++ b ++ c ++ d) t (four us vs ws xs a b c d p q r s) z

pub each : {A : Type 0} (f : Bool) (test : A → Bool) (s : A → List Span) (t : A → List ℕ) (xs : List A) → list_all test xs ≡ true → ((x : A) → test x ≡ true → Fits f f (s x) (t x))
    → Fits f f (flat_map s xs) (flat_map t xs)
each f test s t [] h item = none f
each f test s t (x ∷ xs) h item =
    let p = and_both (test x) (list_all test xs) h in
    join (s x) (flat_map s xs) (t x) (flat_map t xs) (item x p.0) (each f test s t xs p.1 item)

-- the item at a place, where there is one
pub found : {A : Type 0} (f : Bool) (test : A → Bool) (s : A → List Span) (t : A → List ℕ) (xs : List A) (i : ℕ) → list_all test xs ≡ true → ((x : A) → test x ≡ true → Fits f f (s x) (t x))
    → Fits f f (list_from s (slice_get xs i)) (list_from t (slice_get xs i))
found f test s t [] i h item = none f
found f test s t (x ∷ xs) zero h item = item x (and_both (test x) (list_all test xs) h).0
found f test s t (x ∷ xs) (suc i) h item = found f test s t xs i (and_both (test x) (list_all test xs) h).1 item

-- ---- words, signs and blanks

pub word_fits : (w : List ℕ) → is_word w ≡ true → Fits false true (one w) w
word_fits w h = record { says = append-nil w; apart = λ rest e. (word_token w h, e, tt); begins = λ rest e. tt }

pub first_fits : (w : List ℕ) → is_word w ≡ true → Fits false false (first w) (w ++ codes " ")
first_fits w h = record { says = refl; apart = λ rest e. (word_token w h, refl, (refl, tt)); begins = λ rest e. tt }

pub between_fits : (w : List ℕ) → is_word w ≡ true → Fits true false (between w) (32 ∷ (w ++ codes " "))
between_fits w h = record { says = refl; apart = λ rest e. (refl, (word_token w h, refl, (refl, tt))); begins = λ rest e. refl }

pub parting_fits : (s : List ℕ) → IsToken kinds.Sign s [] → goes_on kinds.Sign s 32 ≡ false → Fits true false (parting s) (32 ∷ (s ++ codes " "))
parting_fits s is ends = record { says = refl; apart = λ rest e. (refl, (is, ends, (refl, tt))); begins = λ rest e. refl }

pub line_end_fits : Fits true false line_end (codes ";\n")
unfolding token_at
line_end_fits = record { says = refl; apart = λ rest e. (refl, refl, (refl, tt)); begins = λ rest e. refl }

pub comma_fits : Fits true false (sign (codes ",") ∷ blank ∷ []) (codes ", ")
unfolding token_at
comma_fits = record { says = refl; apart = λ rest e. (refl, refl, (refl, tt)); begins = λ rest e. refl }

pub minus_fits : Fits false false (sign (codes "-") ∷ blank ∷ []) (codes "- ")
unfolding token_at
minus_fits = record { says = refl; apart = λ rest e. (refl, refl, (refl, tt)); begins = λ rest e. tt }

pub open_brace_fits : Fits true false (blank ∷ sign (codes "{") ∷ line_feed ∷ []) (codes " {\n")
unfolding token_at
open_brace_fits = record { says = refl; apart = λ rest e. (refl, (refl, refl, (refl, tt))); begins = λ rest e. refl }

pub close_brace_fits : Fits false false (sign (codes "}") ∷ line_feed ∷ []) (codes "}\n")
unfolding token_at
close_brace_fits = record { says = refl; apart = λ rest e. (refl, refl, (refl, tt)); begins = λ rest e. tt }

blanks : (n : ℕ) → list_all is_blank (replicate n 32) ≡ true
blanks zero = refl
blanks (suc n) = blanks n

pub indent_fits : (n : ℕ) → Fits false false (Span.gap (replicate n 32) ∷ []) (replicate n 32)
indent_fits n = record { says = append-nil (replicate n 32); apart = λ rest e. (blanks n, tt); begins = λ rest e. tt }
