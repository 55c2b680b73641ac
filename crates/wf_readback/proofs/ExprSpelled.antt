-- The tokens of an expression spell it.
use Rattle.std.proofs.Common.{◌≡◌, ℕ, zero, suc, ◌≤◌, true, false, nat_le, List, [], ◌∷◌, ◌++◌, length, refl, sym, ◌∙◌, ap, subst, arith, append_assoc}
use Rattle.std.specs.Fmt.{decimal}
use Rattle.std.proofs.lemmas.Bool.Decides.{nat_tests}
use lib.Chars.{codes}
use Rattle.wf_model.specs.declared.chart.Chart.{Chart}
use Rattle.wf_model.specs.declared.expr.Op.{Op}
use Rattle.wf_model.specs.declared.expr.Op.TheVariants as o
use Rattle.wf_model.specs.declared.expr.Expr.{Expr, end_of-Expr, more_of-Expr}
use Rattle.wf_model.specs.declared.expr.Expr.TheVariants as e
use Rattle.wf_model.specs.Accepted.{nodes, is_known_expr, is_named}
use Rattle.wf_model.proofs.Bools.{and_both}
use Rattle.wf_lex.specs.declared.token.TokenKind.TheVariants as kinds
use Rattle.wf_model.specs.Limits.{max_int}
use Rattle.wf_cursor.specs.declared.names.Declared.TheVariants as declared_as_a
use Rattle.wf_cursor.specs.declared.piece.Piece.TheVariants as pieces
use Rattle.wf_cursor.specs.Pieces.{piece_of, word_piece, state_word, moving_word, value_word, sign_piece, comparing_sign, reckoning_sign}
use Rattle.wf_words.specs.Names.{var_name, state_name, act_name}
use Rattle.wf_print.specs.Words.{quoted}
use Rattle.wf_grammar.specs.Lexemes.{Lexeme}
use Rattle.wf_grammar.specs.Phrases as phrase
use Rattle.wf_grammar.specs.Phrases.{Names, Rank, sign_of, line_of, Is, IsNameOf, Spells}
use Rattle.wf_readback.proofs.Spans.{Span, lexeme, lexemes_of}
use Rattle.wf_readback.proofs.ExprSpans.{word, sign, blank, op_span, expr_spans, has_short_literals, AreDeclared}
use Rattle.wf_readback.proofs.Canon.{ExprIsSpelled}
use Rattle.wf_readback.proofs.Literals.{int_is_read, text_is_read}
use Rattle.wf_readback.proofs.ChartNames.{below, name_lexeme, var_named, state_named, act_named}

pub lexemes-append : (us vs : List Span) → lexemes_of (us ++ vs) ≡ lexemes_of us ++ lexemes_of vs
lexemes-append [] vs = refl
lexemes-append (Span.gap bytes ∷ us) vs = lexemes-append us vs
lexemes-append (Span.token kind bytes ∷ us) vs = ap (λ ws. lexeme kind bytes ∷ ws) (lexemes-append us vs)

-- ---- what the words and signs are

abbrev opens : Lexeme
opens = lexeme kinds.Sign (codes "(")

abbrev closes : Lexeme
closes = lexeme kinds.Sign (codes ")")

abbrev word_lexeme : List ℕ → Lexeme
word_lexeme bytes = lexeme kinds.Word bytes

opens_is : Is pieces.OpenParen opens
unfolding piece_of sign_piece
opens_is = refl

closes_is : Is pieces.CloseParen closes
unfolding piece_of sign_piece
closes_is = refl

minus_is : Is pieces.Minus (lexeme kinds.Sign (codes "-"))
unfolding piece_of sign_piece comparing_sign reckoning_sign
minus_is = refl

true_is : Is pieces.True (word_lexeme (codes "true"))
unfolding piece_of word_piece state_word moving_word value_word
true_is = refl

false_is : Is pieces.False (word_lexeme (codes "false"))
unfolding piece_of word_piece state_word moving_word value_word
false_is = refl

not_is : Is pieces.Not (word_lexeme (codes "not"))
unfolding piece_of word_piece state_word moving_word value_word
not_is = refl

in_is : Is pieces.In (word_lexeme (codes "in"))
unfolding piece_of word_piece state_word moving_word value_word
in_is = refl

count_is : Is pieces.Count (word_lexeme (codes "count"))
unfolding piece_of word_piece state_word moving_word value_word
count_is = refl

done_is : Is pieces.Done (word_lexeme (codes "done"))
unfolding piece_of word_piece state_word moving_word value_word
done_is = refl

int_is : (bytes : List ℕ) → Is pieces.Int (lexeme kinds.Int bytes)
unfolding piece_of
int_is bytes = refl

text_is : (bytes : List ℕ) → Is pieces.Text (lexeme kinds.Text bytes)
unfolding piece_of
text_is bytes = refl

-- the operator as the grammar sees it
abbrev op_lexeme : Op → Lexeme
op_lexeme o.Or = word_lexeme (codes "or")
op_lexeme o.And = word_lexeme (codes "and")
op_lexeme o.Eq = lexeme kinds.Sign (codes "=")
op_lexeme o.Ne = lexeme kinds.Sign (codes "!=")
op_lexeme o.Lt = lexeme kinds.Sign (codes "<")
op_lexeme o.Le = lexeme kinds.Sign (codes "<=")
op_lexeme o.Gt = lexeme kinds.Sign (codes ">")
op_lexeme o.Ge = lexeme kinds.Sign (codes ">=")
op_lexeme o.Add = lexeme kinds.Sign (codes "+")
op_lexeme o.Sub = lexeme kinds.Sign (codes "-")
op_lexeme o.Mul = lexeme kinds.Sign (codes "*")
op_lexeme o.Div = lexeme kinds.Sign (codes "/")
op_lexeme o.Rem = lexeme kinds.Sign (codes "%")

op_first : (op : Op) (spans : List Span) → lexemes_of (op_span op ∷ spans) ≡ op_lexeme op ∷ lexemes_of spans
op_first o.Or spans = refl
op_first o.And spans = refl
op_first _ spans = refl

op_is : (op : Op) → Is (sign_of op) (op_lexeme op)
unfolding piece_of word_piece state_word sign_piece comparing_sign reckoning_sign
op_is o.Or = refl
op_is o.And = refl
op_is o.Eq = refl
op_is o.Ne = refl
op_is o.Lt = refl
op_is o.Le = refl
op_is o.Gt = refl
op_is o.Ge = refl
op_is o.Add = refl
op_is o.Sub = refl
op_is o.Mul = refl
op_is o.Div = refl
op_is o.Rem = refl

-- ---- an atom stands on each line

module _ (names : Names) (depth : ℕ) where
  to_unary : (ws : List Lexeme) (x : Expr) → Spells names depth Rank.atom ws x → Spells names depth Rank.unary ws x
  to_unary ws x s = phrase.unary_atom s

  to_prod : (ws : List Lexeme) (x : Expr) → Spells names depth Rank.atom ws x → Spells names depth Rank.prod ws x
  to_prod ws x s = phrase.prod_unary (to_unary ws x s)

  to_sum : (ws : List Lexeme) (x : Expr) → Spells names depth Rank.atom ws x → Spells names depth Rank.sum ws x
  to_sum ws x s = phrase.sum_prod (to_prod ws x s)

  to_comp : (ws : List Lexeme) (x : Expr) → Spells names depth Rank.atom ws x → Spells names depth Rank.comp ws x
  to_comp ws x s = phrase.comp_sum (to_sum ws x s)

  to_neg : (ws : List Lexeme) (x : Expr) → Spells names depth Rank.atom ws x → Spells names depth Rank.neg ws x
  to_neg ws x s = phrase.neg_comp (to_comp ws x s)

  to_conj : (ws : List Lexeme) (x : Expr) → Spells names depth Rank.atom ws x → Spells names depth Rank.conj ws x
  to_conj ws x s = phrase.conj_neg (to_neg ws x s)

  pub to_expr : (ws : List Lexeme) (x : Expr) → Spells names depth Rank.atom ws x → Spells names depth Rank.expr ws x
  to_expr ws x s = phrase.expr_conj (to_conj ws x s)

  from_neg : (ws : List Lexeme) (x : Expr) → Spells names depth Rank.neg ws x → Spells names depth Rank.expr ws x
  from_neg ws x s = phrase.expr_conj (phrase.conj_neg s)

  from_comp : (ws : List Lexeme) (x : Expr) → Spells names depth Rank.comp ws x → Spells names depth Rank.expr ws x
  from_comp ws x s = from_neg ws x (phrase.neg_comp s)

  from_sum : (ws : List Lexeme) (x : Expr) → Spells names depth Rank.sum ws x → Spells names depth Rank.expr ws x
  from_sum ws x s = from_comp ws x (phrase.comp_sum s)

  from_prod : (ws : List Lexeme) (x : Expr) → Spells names depth Rank.prod ws x → Spells names depth Rank.expr ws x
  from_prod ws x s = from_sum ws x (phrase.sum_prod s)

  not_spelled : (ws : List Lexeme) (x : Expr) → Spells names depth Rank.atom ws x → Spells names depth Rank.expr (word_lexeme (codes "not") ∷ ws) (e.Not x)
  not_spelled ws x s = from_neg (word_lexeme (codes "not") ∷ ws) (e.Not x) (phrase.neg_not (word_lexeme (codes "not")) not_is (to_neg ws x s))

  minus_spelled : (ws : List Lexeme) (x : Expr) → Spells names depth Rank.atom ws x → Spells names depth Rank.expr (lexeme kinds.Sign (codes "-") ∷ ws) (e.Neg x)
  minus_spelled ws x s =
      from_prod (lexeme kinds.Sign (codes "-") ∷ ws) (e.Neg x) (phrase.prod_unary (phrase.unary_minus (lexeme kinds.Sign (codes "-")) minus_is (to_unary ws x s)))

  -- two sides and the operator between them
  module _ (us vs : List Lexeme) (x y : Expr) (s : Spells names depth Rank.atom us x) (t : Spells names depth Rank.atom vs y) where
    two_sums : (op : Op) → line_of op ≡ Rank.comp → Spells names depth Rank.expr (us ++ op_lexeme op ∷ vs) (e.Bin op x y)
    two_sums op line = from_comp (us ++ op_lexeme op ∷ vs) (e.Bin op x y) (phrase.comp_both (op_lexeme op) op (to_sum us x s) line (op_is op) (to_sum vs y t))

    two_terms : (op : Op) → line_of op ≡ Rank.sum → Spells names depth Rank.expr (us ++ op_lexeme op ∷ vs) (e.Bin op x y)
    two_terms op line = from_sum (us ++ op_lexeme op ∷ vs) (e.Bin op x y) (phrase.sum_more (op_lexeme op) op (to_sum us x s) line (op_is op) (to_prod vs y t))

    two_factors : (op : Op) → line_of op ≡ Rank.prod → Spells names depth Rank.expr (us ++ op_lexeme op ∷ vs) (e.Bin op x y)
    two_factors op line = from_prod (us ++ op_lexeme op ∷ vs) (e.Bin op x y) (phrase.prod_more (op_lexeme op) op (to_prod us x s) line (op_is op) (to_unary vs y t))

    two_spelled : (op : Op) → Spells names depth Rank.expr (us ++ op_lexeme op ∷ vs) (e.Bin op x y)
    two_spelled o.Or = phrase.expr_or (op_lexeme o.Or) o.Or (to_expr us x s) refl (op_is o.Or) (to_conj vs y t)
    two_spelled o.And = phrase.expr_conj (phrase.conj_and (op_lexeme o.And) o.And (to_conj us x s) refl (op_is o.And) (to_neg vs y t))
    two_spelled o.Eq = two_sums o.Eq refl
    two_spelled o.Ne = two_sums o.Ne refl
    two_spelled o.Lt = two_sums o.Lt refl
    two_spelled o.Le = two_sums o.Le refl
    two_spelled o.Gt = two_sums o.Gt refl
    two_spelled o.Ge = two_sums o.Ge refl
    two_spelled o.Add = two_terms o.Add refl
    two_spelled o.Sub = two_terms o.Sub refl
    two_spelled o.Mul = two_factors o.Mul refl
    two_spelled o.Div = two_factors o.Div refl
    two_spelled o.Rem = two_factors o.Rem refl

  -- in parentheses
  inside : (ws : List Lexeme) (x : Expr) → Spells names depth Rank.expr ws x → Spells names (suc depth) Rank.atom (opens ∷ (ws ++ closes ∷ [])) x
  inside ws x s = phrase.atom_expr opens closes opens_is s closes_is

-- the lexemes of what stands between parentheses
abbrev between_parens : List Span → List Lexeme
between_parens spans = opens ∷ lexemes_of (spans ++ sign (codes ")") ∷ [])

parens_are : (spans : List Span) → opens ∷ (lexemes_of spans ++ closes ∷ []) ≡ between_parens spans
parens_are spans = ap (λ ws. opens ∷ ws) (sym (lexemes-append spans (sign (codes ")") ∷ [])))

two_are : (us vs : List Span) (op : Op) → opens ∷ ((lexemes_of us ++ op_lexeme op ∷ lexemes_of vs) ++ closes ∷ []) ≡ opens ∷ lexemes_of (us ++ blank ∷ op_span op ∷ blank ∷ (vs ++ sign (codes ")") ∷ []))
two_are us vs op = ap (λ ws. opens ∷ ws) (sym (
    lexemes-append us (blank ∷ op_span op ∷ blank ∷ (vs ++ sign (codes ")") ∷ []))
    ∙ ap (λ ws. lexemes_of us ++ ws) (op_first op (blank ∷ (vs ++ sign (codes ")") ∷ [])) ∙ ap (λ ws. op_lexeme op ∷ ws) (lexemes-append vs (sign (codes ")") ∷ [])))
    ∙ sym (append_assoc (lexemes_of us) (op_lexeme op ∷ lexemes_of vs) (closes ∷ []))))

below_or_at : (n m : ℕ) → nat_le n m ≡ true → n ≤ m
below_or_at n m h = grind (arith, nat_tests)

module _ (chart : Chart) (names : Names) (named : is_named chart ≡ true) (are : AreDeclared names chart) where
  spelled : (x : Expr) (depth : ℕ) → is_known_expr chart x ≡ true → has_short_literals x ≡ true → nodes x ≤ depth → Spells names depth Rank.atom (lexemes_of (expr_spans chart x)) x
  unfolding Rattle.wf_model.specs.declared.expr.Expr.TheBlock.hidden-the_row-Expr-0 denote.Hole.Carrier.hidden
  spelled (e.Bool true) depth known short room = phrase.atom_true (word_lexeme (codes "true")) true_is
  spelled (e.Bool false) depth known short room = phrase.atom_false (word_lexeme (codes "false")) false_is
  spelled (e.Int n) depth known short room = phrase.atom_int (lexeme kinds.Int (decimal n)) n (int_is (decimal n)) (int_is_read n (below_or_at n max_int short))
  spelled (e.Text t) depth known short room = phrase.atom_text (lexeme kinds.Text (quoted t)) t (text_is (quoted t)) (text_is_read t short)
  spelled (e.Var x) depth known short room =
      phrase.atom_var (word_lexeme (var_name chart x)) x (name_lexeme names (declared_as_a.Var x) (var_name chart x) (var_named chart named x known) (are.vars x (below x.0 (length chart.vars) known)))
  spelled (e.In s) zero known short room = absurd (omega arith)
  spelled (e.In s) (suc depth) known short room =
      phrase.atom_in (word_lexeme (codes "in")) opens (word_lexeme (state_name chart s)) closes s in_is opens_is
      (name_lexeme names (declared_as_a.State s) (state_name chart s) (state_named chart named s known) (are.states s (below s.0 (length chart.states) known))) closes_is
  spelled (e.Count a) zero known short room = absurd (omega arith)
  spelled (e.Count a) (suc depth) known short room =
      phrase.atom_count (word_lexeme (codes "count")) opens (word_lexeme (act_name chart a)) closes a count_is opens_is
      (name_lexeme names (declared_as_a.Activity a) (act_name chart a) (act_named chart named a known) (are.acts a (below a.0 (length chart.acts) known))) closes_is
  spelled (e.Done a) zero known short room = absurd (omega arith)
  spelled (e.Done a) (suc depth) known short room =
      phrase.atom_done (word_lexeme (codes "done")) opens (word_lexeme (act_name chart a)) closes a done_is opens_is
      (name_lexeme names (declared_as_a.Activity a) (act_name chart a) (act_named chart named a known) (are.acts a (below a.0 (length chart.acts) known))) closes_is
  spelled (e.Not' p (more_of-Expr x end_of-Expr)) zero known short room = absurd (omega arith)
  spelled (e.Not' p (more_of-Expr x end_of-Expr)) (suc depth) known short room =
      subst (λ ws. Spells names (suc depth) Rank.atom ws (e.Not x)) (parens_are (word (codes "not") ∷ blank ∷ expr_spans chart x))
      (inside names depth (word_lexeme (codes "not") ∷ lexemes_of (expr_spans chart x)) (e.Not x)
      (not_spelled names depth (lexemes_of (expr_spans chart x)) x (spelled x depth known short (omega arith))))
  spelled (e.Neg' p (more_of-Expr x end_of-Expr)) zero known short room = absurd (omega arith)
  spelled (e.Neg' p (more_of-Expr x end_of-Expr)) (suc depth) known short room =
      subst (λ ws. Spells names (suc depth) Rank.atom ws (e.Neg x)) (parens_are (sign (codes "-") ∷ blank ∷ expr_spans chart x))
      (inside names depth (lexeme kinds.Sign (codes "-") ∷ lexemes_of (expr_spans chart x)) (e.Neg x)
      (minus_spelled names depth (lexemes_of (expr_spans chart x)) x (spelled x depth known short (omega arith))))
  spelled (e.Bin' op p (more_of-Expr x end_of-Expr) q (more_of-Expr y end_of-Expr)) zero known short room = absurd (omega arith)
  spelled (e.Bin' op p (more_of-Expr x end_of-Expr) q (more_of-Expr y end_of-Expr)) (suc depth) known short room =
      let knows = and_both (is_known_expr chart x) (is_known_expr chart y) known in
      let shorts = and_both (has_short_literals x) (has_short_literals y) short in
      let us = lexemes_of (expr_spans chart x) in
      let vs = lexemes_of (expr_spans chart y) in
      subst (λ ws. Spells names (suc depth) Rank.atom ws (e.Bin op x y)) (two_are (expr_spans chart x) (expr_spans chart y) op)
      (inside names depth (us ++ op_lexeme op ∷ vs) (e.Bin op x y)
      (two_spelled names depth us vs x y (spelled x depth knows.0 shorts.0 (omega arith)) (spelled y depth knows.1 shorts.1 (omega arith)) op))

pub expr_is_spelled : ExprIsSpelled
expr_is_spelled chart names x depth named are known short room = spelled chart names named are x depth known short room
