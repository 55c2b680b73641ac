-- No token of an expression runs into the next one.
use Rattle.std.proofs.Common.{◌≡◌, ℕ, ◌+◌, ◌<◌, ◌≤◌, Bool, true, false, nat_le, List, [], ◌∷◌, ◌++◌, length, get_or, Some, refl, sym, ◌∙◌, ap, subst, arith, append-nil, append_assoc, length-append}
use Rattle.std.specs.List.{take_while, list_all}
use Rattle.std.specs.Fmt.{decimal}
use Rattle.std.proofs.lemmas.Bool.Decides.{nat_tests}
use lib.Chars.{codes}
use Rattle.wf_model.specs.Limits.{max_text, max_int}
use Rattle.wf_model.specs.declared.chart.Chart.{Chart}
use Rattle.wf_model.specs.declared.expr.Op.{Op}
use Rattle.wf_model.specs.declared.expr.Op.TheVariants as o
use Rattle.wf_model.specs.declared.expr.Expr.{Expr, end_of-Expr, more_of-Expr}
use Rattle.wf_model.specs.declared.expr.Expr.TheVariants as e
use Rattle.wf_model.specs.Accepted.{is_known_expr, is_named}
use Rattle.wf_model.specs.Names.{is_letter, is_digit, is_word_char, are_word_chars, is_word, is_name}
use Rattle.wf_model.specs.Txt.{is_text_char, is_text}
use Rattle.wf_model.proofs.Bools.{and_both}
use Rattle.wf_lex.specs.declared.token.TokenKind.TheVariants as kinds
use Rattle.wf_lex.specs.Lex.{with_kind, text_rest, token_at}
use Rattle.wf_lex.specs.Slices.{IsToken}
use Rattle.wf_words.specs.Names.{var_name, state_name, act_name}
use Rattle.wf_print.specs.Words.{quoted}
use Rattle.wf_readback.proofs.Spans.{Span, written, goes_on, AreApart}
use Rattle.wf_readback.proofs.ExprSpans.{word, sign, blank, op_span, test_spans, expr_spans, has_short_literals}
use Rattle.wf_readback.proofs.Canon.{ExprIsApart}
use Rattle.wf_readback.proofs.Written.{written-append}
use Rattle.wf_readback.proofs.Literals.{decimal_is, text_before}
use Rattle.wf_readback.proofs.ChartNames.{name_is_word, var_named, state_named, act_named}
use Rattle.wf_readback.proofs.Kept.{passes_first}

pub apart-append : (us vs : List Span) (rest : List ℕ) → AreApart us (written vs ++ rest) → AreApart vs rest → AreApart (us ++ vs) rest
apart-append [] vs rest h k = k
apart-append (Span.gap bytes ∷ us) vs rest h k = (h.0, apart-append us vs rest h.1 k)
apart-append (Span.token kind bytes ∷ us) vs rest h k =
    let behind : written us ++ (written vs ++ rest) ≡ written (us ++ vs) ++ rest = sym (ap (λ t. t ++ rest) (written-append us vs) ∙ append_assoc (written us) (written vs) rest) in
    (h.0, subst (λ (t : List ℕ). goes_on kind bytes (get_or t 0 0) ≡ false) behind h.1, apart-append us vs rest h.2 k)

-- ---- tokens alone

all_taken : (p : ℕ → Bool) (bs : List ℕ) → list_all p bs ≡ true → length (take_while p (bs ++ [])) ≡ length bs
all_taken p [] h = refl
all_taken p (b ∷ bs) h =
    let q = and_both (p b) (list_all p bs) h in
    let first = ap length (passes_first p b (bs ++ []) q.0) in
    omega (arith, first, all_taken p bs q.1)

pub word_token : (w : List ℕ) → is_word w ≡ true → IsToken kinds.Word w []
unfolding token_at
word_token [] h = cc
word_token (b ∷ bs) h =
    let p = and_both (is_letter b) (are_word_chars bs) h in
    rw p.0 (ap (λ (n : ℕ). Some (kinds.Word, n)) (all_taken is_word_char bs p.1))

digit_is_no_letter : (b : ℕ) → is_digit b ≡ true → is_letter b ≡ false
digit_is_no_letter b h = grind (arith, nat_tests)

pub digits_token : (digits : List ℕ) → list_all is_digit digits ≡ true → 0 < length digits → IsToken kinds.Int digits []
unfolding token_at
digits_token [] h some = absurd (omega arith)
digits_token (b ∷ bs) h some =
    let p = and_both (is_digit b) (list_all is_digit bs) h in
    rw (digit_is_no_letter b p.0, p.0) (ap (λ (n : ℕ). Some (kinds.Int, n)) (all_taken is_digit bs p.1))

pub int_token : (n : ℕ) → nat_le n max_int ≡ true → IsToken kinds.Int (decimal n) []
int_token n h =
    let fits : n ≤ max_int = grind (arith, nat_tests) in
    let is = decimal_is n (omega arith) in
    digits_token (decimal n) is.all is.some

quote_behind : (t : List ℕ) → get_or (t ++ 34 ∷ []) (length t) 0 ≡ 34
quote_behind [] = refl
quote_behind (c ∷ t) = quote_behind t

quote_closes : (t : List ℕ) → is_text t ≡ true → text_rest (t ++ 34 ∷ []) ≡ Some (length (t ++ 34 ∷ []))
quote_closes t h =
    let front : take_while is_text_char (t ++ 34 ∷ []) ≡ t = text_before t [] h in
    let size : length t + 1 ≡ length (t ++ 34 ∷ []) = omega (arith, length-append t (34 ∷ [])) in
    rw front (rw (quote_behind t) (ap Some size))

pub text_token : (t : List ℕ) → is_text t ≡ true → IsToken kinds.Text (quoted t) []
unfolding token_at
text_token t h = ap (with_kind kinds.Text) (ap text_rest (append-nil (t ++ 34 ∷ [])) ∙ quote_closes t h)

-- ---- expressions

true_apart : (rest : List ℕ) → is_word_char (get_or rest 0 0) ≡ false → AreApart (word (codes "true") ∷ []) rest
unfolding token_at
true_apart rest stops = (refl, stops, tt)

false_apart : (rest : List ℕ) → is_word_char (get_or rest 0 0) ≡ false → AreApart (word (codes "false") ∷ []) rest
unfolding token_at
false_apart rest stops = (refl, stops, tt)

close_apart : (rest : List ℕ) → AreApart (sign (codes ")") ∷ []) rest
unfolding token_at
close_apart rest = (refl, refl, tt)

open_apart : (spans : List Span) (rest : List ℕ) → AreApart spans rest → AreApart (sign (codes "(") ∷ spans) rest
unfolding token_at
open_apart spans rest h = (refl, refl, h)

not_apart : (spans : List Span) (rest : List ℕ) → AreApart spans rest → AreApart (word (codes "not") ∷ blank ∷ spans) rest
unfolding token_at
not_apart spans rest h = (refl, refl, (refl, h))

minus_apart : (spans : List Span) (rest : List ℕ) → AreApart spans rest → AreApart (sign (codes "-") ∷ blank ∷ spans) rest
unfolding token_at
minus_apart spans rest h = (refl, refl, (refl, h))

op_apart : (op : Op) (spans : List Span) (rest : List ℕ) → AreApart spans rest → AreApart (blank ∷ op_span op ∷ blank ∷ spans) rest
unfolding token_at
op_apart o.Or spans rest h = (refl, (refl, refl, (refl, h)))
op_apart o.And spans rest h = (refl, (refl, refl, (refl, h)))
op_apart o.Eq spans rest h = (refl, (refl, refl, (refl, h)))
op_apart o.Ne spans rest h = (refl, (refl, refl, (refl, h)))
op_apart o.Lt spans rest h = (refl, (refl, refl, (refl, h)))
op_apart o.Le spans rest h = (refl, (refl, refl, (refl, h)))
op_apart o.Gt spans rest h = (refl, (refl, refl, (refl, h)))
op_apart o.Ge spans rest h = (refl, (refl, refl, (refl, h)))
op_apart o.Add spans rest h = (refl, (refl, refl, (refl, h)))
op_apart o.Sub spans rest h = (refl, (refl, refl, (refl, h)))
op_apart o.Mul spans rest h = (refl, (refl, refl, (refl, h)))
op_apart o.Div spans rest h = (refl, (refl, refl, (refl, h)))
op_apart o.Rem spans rest h = (refl, (refl, refl, (refl, h)))

test_apart : (test name rest : List ℕ) → IsToken kinds.Word test [] → is_name name ≡ true → AreApart (test_spans test name) rest
unfolding token_at
test_apart test name rest is named = (is, refl, (refl, refl, (word_token name (name_is_word name named), refl, close_apart rest)))

in_token : IsToken kinds.Word (codes "in") []
unfolding token_at
in_token = refl

count_token : IsToken kinds.Word (codes "count") []
unfolding token_at
count_token = refl

done_token : IsToken kinds.Word (codes "done") []
unfolding token_at
done_token = refl

pub no_digit : (b : ℕ) → is_word_char b ≡ false → is_digit b ≡ false
no_digit b h = grind (arith, nat_tests)

module _ (chart : Chart) (named : is_named chart ≡ true) where
  apart : (x : Expr) (rest : List ℕ) → is_known_expr chart x ≡ true → has_short_literals x ≡ true → is_word_char (get_or rest 0 0) ≡ false → AreApart (expr_spans chart x) rest
  apart (e.Bool true) rest known short stops = true_apart rest stops
  apart (e.Bool false) rest known short stops = false_apart rest stops
  apart (e.Int n) rest known short stops = (int_token n short, no_digit (get_or rest 0 0) stops, tt)
  apart (e.Text t) rest known short stops = (text_token t (and_both (is_text t) (nat_le (length t) max_text) short).0, refl, tt)
  apart (e.Var x) rest known short stops = (word_token (var_name chart x) (name_is_word (var_name chart x) (var_named chart named x known)), stops, tt)
  apart (e.In s) rest known short stops = test_apart (codes "in") (state_name chart s) rest in_token (state_named chart named s known)
  apart (e.Count a) rest known short stops = test_apart (codes "count") (act_name chart a) rest count_token (act_named chart named a known)
  apart (e.Done a) rest known short stops = test_apart (codes "done") (act_name chart a) rest done_token (act_named chart named a known)
  apart (e.Not' p (more_of-Expr x end_of-Expr)) rest known short stops =
      open_apart (word (codes "not") ∷ blank ∷ (expr_spans chart x ++ sign (codes ")") ∷ [])) rest (not_apart (expr_spans chart x ++ sign (codes ")") ∷ []) rest
      (apart-append (expr_spans chart x) (sign (codes ")") ∷ []) rest (apart x (41 ∷ rest) known short refl) (close_apart rest)))
  apart (e.Neg' p (more_of-Expr x end_of-Expr)) rest known short stops =
      open_apart (sign (codes "-") ∷ blank ∷ (expr_spans chart x ++ sign (codes ")") ∷ [])) rest (minus_apart (expr_spans chart x ++ sign (codes ")") ∷ []) rest
      (apart-append (expr_spans chart x) (sign (codes ")") ∷ []) rest (apart x (41 ∷ rest) known short refl) (close_apart rest)))
  apart (e.Bin' op p (more_of-Expr x end_of-Expr) q (more_of-Expr y end_of-Expr)) rest known short stops =
      let knows = and_both (is_known_expr chart x) (is_known_expr chart y) known in
      let shorts = and_both (has_short_literals x) (has_short_literals y) short in
      let right = expr_spans chart y ++ sign (codes ")") ∷ [] in
      let behind = blank ∷ op_span op ∷ blank ∷ right in
      open_apart (expr_spans chart x ++ behind) rest (
      apart-append (expr_spans chart x) behind rest
      (apart x (written behind ++ rest) knows.0 shorts.0 refl)
      (op_apart op right rest (apart-append (expr_spans chart y) (sign (codes ")") ∷ []) rest (apart y (41 ∷ rest) knows.1 shorts.1 refl) (close_apart rest))))

pub expr_is_apart : ExprIsApart
expr_is_apart chart x rest named known short stops = apart chart named x rest known short stops
