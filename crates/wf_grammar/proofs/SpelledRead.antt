-- What is spelled is read, from atoms up to expressions.
use Rattle.std.proofs.Common.{◌≡◌, ℕ, suc, ◌+◌, ◌≤◌, Bool, true, false, List, [], ◌∷◌, ◌++◌, length, map, drop, Some, Ok, Err, refl, sym, ◌∙◌, ap, ap₂, subst, arith, append_assoc, length-append}
use Rattle.std.proofs.lemmas.List.{drop_at, length-map}
use Rattle.wf_model.specs.Limits.{max_nodes, max_open}
use Rattle.wf_model.specs.declared.expr.Op.{Op}
use Rattle.wf_model.specs.declared.expr.Expr.{Expr}
use Rattle.wf_model.specs.declared.expr.Expr.TheVariants as e
use Rattle.wf_model.specs.Accepted.{nodes}
use Rattle.wf_lex.specs.declared.token.Token.{Token}
use Rattle.wf_cursor.specs.declared.fault.TextFault.TheVariants.{Syntax}
use Rattle.wf_cursor.specs.declared.piece.Piece.TheVariants as pieces
use Rattle.wf_cursor.specs.Pieces.{same_piece}
use Rattle.wf_cursor.specs.Input.{Input, Parser, pure, piece, sees, without_nodes}
use Rattle.wf_phrase.specs.Operators.{or_operator, and_operator, comparison, sum_operator, product_operator}
use Rattle.wf_phrase.specs.Expressions.{atom, unary_from, unary, prod, sum, comp, neg_from, neg, conj, disj, parens, expr}
use Rattle.wf_phrase.proofs.Prefixes.{unary_stops, neg_stops}
use Rattle.wf_grammar.specs.Lexemes.{Lexeme, lexeme_of}
use Rattle.wf_grammar.specs.Phrases as phrase
use Rattle.wf_grammar.specs.Phrases.{Rank, Is, Spells}
use Rattle.wf_grammar.specs.Laws.{first_piece, IsNoOperator, SpelledIsRead}
use Rattle.wf_model.specs.NodesLaws.{nodes-Not, nodes-Neg, nodes-Bin}
use Rattle.wf_grammar.proofs.Inputs.{here, piece_here, next_here, sees_piece}
use Rattle.wf_grammar.proofs.SpellSteps.{sees_here, expect_here, piece_first, parted, headed, emptied}
use Rattle.wf_grammar.proofs.Tables.{or_found, and_found, comparison_found, sum_found, product_found}
use Rattle.wf_grammar.proofs.Reading.{ReadsAs, prefix_reads, turn_reads, ReadsOn, chain_begins, chain_goes_on, chain_reads}
use Rattle.wf_grammar.proofs.Follows.{Anything, EndsProd, EndsSum, EndsComp, EndsConj, EndsExpr, sum_ends, comparison_ends, and_ends, or_ends, close_ends, no_operator_ends}
use Rattle.wf_grammar.proofs.SpelledAtoms.{true_reads, false_reads, int_reads, text_reads, variable_reads, state_reads, count_reads, done_reads}

-- ---- what a phrase without a prefix can't begin with

module _ (depth : ℕ) (nested : Parser Expr) (k : Input) where
  atom_no_minus : piece k ≡ Some pieces.Minus → atom depth nested k ≡ Err (Syntax k.at)
  unfolding atom
  atom_no_minus is = rw is refl

  atom_no_not : piece k ≡ Some pieces.Not → atom depth nested k ≡ Err (Syntax k.at)
  unfolding atom
  atom_no_not is = rw is refl

  not_minus : piece k ≡ Some pieces.Not → sees pieces.Minus k ≡ false
  unfolding sees same_piece
  not_minus is = rw is refl

  comp_no_not : piece k ≡ Some pieces.Not → comp depth nested k ≡ Err (Syntax k.at)
  unfolding comp sum prod
  comp_no_not is = rw (unary_stops depth nested (length k.left) k (sees pieces.Minus k) refl (not_minus is)) (rw (atom_no_not is) refl)

  -- an atom is read as one with no minus sign
  unary_is_atom : (x : Expr) (j : Input) → atom depth nested k ≡ Ok (x, j) → unary depth nested k ≡ Ok (x, j)
  unary_is_atom x j h = by_sign (sees pieces.Minus k) refl
    where
      by_sign : (b : Bool) → b ≡ sees pieces.Minus k → unary depth nested k ≡ Ok (x, j)
      by_sign true is = let no = atom_no_minus (sees_piece pieces.Minus k (sym is)) in cc
      by_sign false is = unary_stops depth nested (length k.left) k false is refl ∙ h

  -- a comparison is read as one with no `not`
  neg_is_comp : (x : Expr) (j : Input) → comp depth nested k ≡ Ok (x, j) → neg depth nested k ≡ Ok (x, j)
  neg_is_comp x j h = by_word (sees pieces.Not k) refl
    where
      by_word : (b : Bool) → b ≡ sees pieces.Not k → neg depth nested k ≡ Ok (x, j)
      by_word true is = let no = comp_no_not (sees_piece pieces.Not k (sym is)) in cc
      by_word false is = neg_stops depth nested (length k.left) k false is refl ∙ h

-- ---- the lines with a prefix

module _ (i : Input) (depth : ℕ) (nested : Parser Expr) where
  atom_is_unary : (ws : List Lexeme) (x : Expr) → ReadsAs i Anything (atom depth nested) ws x → ReadsAs i Anything (unary depth nested) ws x
  atom_is_unary ws x reads words rest at count is few may =
      unary_is_atom depth nested (here i (words ++ rest) at count) x (here i rest (at + length words) (count + nodes x)) (reads words rest at count is few may)

  comp_is_neg : (ws : List Lexeme) (x : Expr) → ReadsAs i EndsComp (comp depth nested) ws x → ReadsAs i EndsComp (neg depth nested) ws x
  comp_is_neg ws x reads words rest at count is few may =
      neg_is_comp depth nested (here i (words ++ rest) at count) x (here i rest (at + length words) (count + nodes x)) (reads words rest at count is few may)

  minus_reads : (w : Lexeme) (ws : List Lexeme) (x : Expr) → Is pieces.Minus w → ReadsAs i Anything (unary depth nested) ws x → ReadsAs i Anything (unary depth nested) (w ∷ ws) (e.Neg x)
  unfolding unary_from
  minus_reads w ws x is_minus reads words rest at count is few may =
      let h = headed (lexeme_of i.text) w ws words is in
      let minus : Is pieces.Minus (lexeme_of i.text h.token) = ap (λ (v : Lexeme). v.piece) h.token_is ∙ is_minus in
      rw h.whole (rw (sees_here i h.token (h.rest ++ rest) at count pieces.Minus minus)
      (prefix_reads i e.Neg nodes-Neg (unary_from depth nested (length (h.rest ++ rest))) x h.token h.rest rest at count few (λ fits. reads h.rest rest (at + 1) (count + 1) h.rest_is fits may)))

  not_reads : (w : Lexeme) (ws : List Lexeme) (x : Expr) → Is pieces.Not w → ReadsAs i EndsComp (neg depth nested) ws x → ReadsAs i EndsComp (neg depth nested) (w ∷ ws) (e.Not x)
  unfolding neg_from
  not_reads w ws x is_not reads words rest at count is few may =
      let h = headed (lexeme_of i.text) w ws words is in
      let word : Is pieces.Not (lexeme_of i.text h.token) = ap (λ (v : Lexeme). v.piece) h.token_is ∙ is_not in
      rw h.whole (rw (sees_here i h.token (h.rest ++ rest) at count pieces.Not word)
      (prefix_reads i e.Not nodes-Not (neg_from depth nested (length (h.rest ++ rest))) x h.token h.rest rest at count few (λ fits. reads h.rest rest (at + 1) (count + 1) h.rest_is fits may)))

  -- ---- comparisons

  sum_is_comp : (ws : List Lexeme) (x : Expr) → ReadsAs i EndsSum (sum depth nested) ws x → ReadsAs i EndsComp (comp depth nested) ws x
  unfolding comp
  sum_is_comp ws x reads words rest at count is few may =
      rw (reads words rest at count is few may.0) (rw (piece_first i rest (at + length words) (count + nodes x)) (rw may.1 refl))

  compared : (us vs : List Lexeme) (w : Lexeme) (op : Op) (x y : Expr) → ReadsAs i EndsSum (sum depth nested) us x → comparison (Some w.piece) ≡ Some op
      → ReadsAs i EndsSum (sum depth nested) vs y → ReadsAs i EndsComp (comp depth nested) (us ++ w ∷ vs) (e.Bin op x y)
  unfolding comp
  compared us vs w op x y first is second words rest at count words_are few may =
      let f = lexeme_of i.text in
      let p = parted f us (w ∷ vs) words words_are in
      let h = headed f w vs p.right p.right_is in
      let size = nodes-Bin op x y in
      let long = length-append p.left (h.token ∷ h.rest) in
      let sized : length words ≡ length p.left + suc (length h.rest) = ap length (p.whole ∙ ap (λ ls. p.left ++ ls) h.whole) ∙ long in
      let whole : words ++ rest ≡ p.left ++ (h.token ∷ (h.rest ++ rest)) =
      ap (λ ls. ls ++ rest) (p.whole ∙ ap (λ ls. p.left ++ ls) h.whole) ∙ append_assoc p.left (h.token ∷ h.rest) rest in
      let is_token : comparison (Some (f h.token).piece) ≡ Some op = ap (λ (v : Lexeme). comparison (Some v.piece)) h.token_is ∙ is in
      let left_reads = first p.left (h.token ∷ (h.rest ++ rest)) at count p.left_is (omega arith) (comparison_ends (f h.token).piece op is_token) in
      let right_reads = turn_reads i EndsSum comparison (sum depth nested) pure h.token h.rest rest vs (at + length p.left) (count + nodes x) op x y is_token second h.rest_is (omega arith) may.0 in
      let place : at + length p.left + 1 + length h.rest ≡ at + length words = omega arith in
      let total : count + nodes x + 1 + nodes y ≡ count + nodes (e.Bin op x y) = omega arith in
      rw whole (rw left_reads (right_reads ∙ ap₂ (λ (a c : ℕ). Ok (e.Bin op x y, here i rest a c)) place total))

-- ---- parentheses

enclosed : (i : Input) (depth : ℕ) (opens closes : Lexeme) (ws : List Lexeme) (x : Expr) → Is pieces.OpenParen opens → Is pieces.CloseParen closes
    → ReadsAs i EndsExpr (disj depth (parens depth)) ws x → ReadsAs i Anything (atom (suc depth) (parens (suc depth))) (opens ∷ (ws ++ closes ∷ [])) x
unfolding atom parens
enclosed i depth opens closes ws x is_open is_close reads words rest at count is few may =
    let f = lexeme_of i.text in
    let o = headed f opens (ws ++ closes ∷ []) words is in
    let p = parted f ws (closes ∷ []) o.rest o.rest_is in
    let c = headed f closes [] p.right p.right_is in
    let none = emptied f c.rest c.rest_is in
    let inner : o.rest ≡ p.left ++ c.token ∷ [] = p.whole ∙ ap (λ ls. p.left ++ ls) (c.whole ∙ ap (λ ls. c.token ∷ ls) none) in
    let whole : words ++ rest ≡ o.token ∷ (p.left ++ (c.token ∷ rest)) =
    ap (λ ls. ls ++ rest) (o.whole ∙ ap (λ ls. o.token ∷ ls) inner) ∙ ap (λ ls. o.token ∷ ls) (append_assoc p.left (c.token ∷ []) rest) in
    let sized : length words ≡ suc (length p.left + 1) = ap length (o.whole ∙ ap (λ ls. o.token ∷ ls) inner) ∙ ap suc (length-append p.left (c.token ∷ [])) in
    let opening : piece (here i (o.token ∷ (p.left ++ (c.token ∷ rest))) at count) ≡ Some pieces.OpenParen =
    piece_here i o.token (p.left ++ (c.token ∷ rest)) at count ∙ ap Some (ap (λ (v : Lexeme). v.piece) o.token_is ∙ is_open) in
    let closing : Is pieces.CloseParen (f c.token) = ap (λ (v : Lexeme). v.piece) c.token_is ∙ is_close in
    let place : at + 1 + length p.left + 1 ≡ at + length words = omega arith in
    rw whole (rw opening (rw (next_here i o.token (p.left ++ (c.token ∷ rest)) at count)
    (rw (reads p.left (c.token ∷ rest) (at + 1) count p.left_is few (close_ends (f c.token).piece closing))
    (rw (expect_here i c.token rest (at + 1 + length p.left) (count + nodes x) pieces.CloseParen closing)
    (ap (λ (a : ℕ). Ok (x, here i rest a (count + nodes x))) place)))))

-- ---- each line, by the spelling

module _ (i : Input) where
  -- what a phrase of this line does to the reader; a chain may go on behind it
  abbrev Reads : ℕ → Rank → List Lexeme → Expr → Type 0
  Reads depth Rank.expr = ReadsOn i EndsConj or_operator (conj depth (parens depth))
  Reads depth Rank.conj = ReadsOn i EndsComp and_operator (neg depth (parens depth))
  Reads depth Rank.neg = ReadsAs i EndsComp (neg depth (parens depth))
  Reads depth Rank.comp = ReadsAs i EndsComp (comp depth (parens depth))
  Reads depth Rank.sum = ReadsOn i EndsProd sum_operator (prod depth (parens depth))
  Reads depth Rank.prod = ReadsOn i Anything product_operator (unary depth (parens depth))
  Reads depth Rank.unary = ReadsAs i Anything (unary depth (parens depth))
  Reads depth Rank.atom = ReadsAs i Anything (atom depth (parens depth))

  whole_prod : (depth : ℕ) (ws : List Lexeme) (x : Expr) → Reads depth Rank.prod ws x → ReadsAs i EndsProd (prod depth (parens depth)) ws x
  unfolding prod
  whole_prod depth ws x reads = chain_reads i Anything product_operator (unary depth (parens depth)) ws x reads

  whole_sum : (depth : ℕ) (ws : List Lexeme) (x : Expr) → Reads depth Rank.sum ws x → ReadsAs i EndsSum (sum depth (parens depth)) ws x
  unfolding sum
  whole_sum depth ws x reads = chain_reads i EndsProd sum_operator (prod depth (parens depth)) ws x reads

  whole_conj : (depth : ℕ) (ws : List Lexeme) (x : Expr) → Reads depth Rank.conj ws x → ReadsAs i EndsConj (conj depth (parens depth)) ws x
  unfolding conj
  whole_conj depth ws x reads = chain_reads i EndsComp and_operator (neg depth (parens depth)) ws x reads

  whole_expr : (depth : ℕ) (ws : List Lexeme) (x : Expr) → Reads depth Rank.expr ws x → ReadsAs i EndsExpr (disj depth (parens depth)) ws x
  unfolding disj
  whole_expr depth ws x reads = chain_reads i EndsConj or_operator (conj depth (parens depth)) ws x reads

  spelled_reads : {depth : ℕ} {rank : Rank} {ws : List Lexeme} {x : Expr} → Spells i.names depth rank ws x → Reads depth rank ws x
  spelled_reads (phrase.expr_conj {depth = d} {ws = ws} {x = x} s) = chain_begins i EndsConj or_operator (conj d (parens d)) ws x (whole_conj d ws x (spelled_reads s))
  spelled_reads (phrase.expr_or {depth = d} {us = us} {vs = vs} {x = x} {y = y} w op s line sign r) =
      chain_goes_on i EndsConj or_operator (conj d (parens d)) us vs w op x y (spelled_reads s) (or_found w.piece op line sign) (or_ends w.piece op (or_found w.piece op line sign)) (whole_conj d vs y (spelled_reads r))
  spelled_reads (phrase.conj_neg {depth = d} {ws = ws} {x = x} s) = chain_begins i EndsComp and_operator (neg d (parens d)) ws x (spelled_reads s)
  spelled_reads (phrase.conj_and {depth = d} {us = us} {vs = vs} {x = x} {y = y} w op s line sign r) =
      chain_goes_on i EndsComp and_operator (neg d (parens d)) us vs w op x y (spelled_reads s) (and_found w.piece op line sign) (and_ends w.piece op (and_found w.piece op line sign)) (spelled_reads r)
  spelled_reads (phrase.neg_comp {depth = d} {ws = ws} {x = x} s) = comp_is_neg i d (parens d) ws x (spelled_reads s)
  spelled_reads (phrase.neg_not {depth = d} {ws = ws} {x = x} w is s) = not_reads i d (parens d) w ws x is (spelled_reads s)
  spelled_reads (phrase.comp_sum {depth = d} {ws = ws} {x = x} s) = sum_is_comp i d (parens d) ws x (whole_sum d ws x (spelled_reads s))
  spelled_reads (phrase.comp_both {depth = d} {us = us} {vs = vs} {x = x} {y = y} w op s line sign r) =
      compared i d (parens d) us vs w op x y (whole_sum d us x (spelled_reads s)) (comparison_found w.piece op line sign) (whole_sum d vs y (spelled_reads r))
  spelled_reads (phrase.sum_prod {depth = d} {ws = ws} {x = x} s) = chain_begins i EndsProd sum_operator (prod d (parens d)) ws x (whole_prod d ws x (spelled_reads s))
  spelled_reads (phrase.sum_more {depth = d} {us = us} {vs = vs} {x = x} {y = y} w op s line sign r) =
      chain_goes_on i EndsProd sum_operator (prod d (parens d)) us vs w op x y (spelled_reads s) (sum_found w.piece op line sign) (sum_ends w.piece op (sum_found w.piece op line sign)) (whole_prod d vs y (spelled_reads r))
  spelled_reads (phrase.prod_unary {depth = d} {ws = ws} {x = x} s) = chain_begins i Anything product_operator (unary d (parens d)) ws x (spelled_reads s)
  spelled_reads (phrase.prod_more {depth = d} {us = us} {vs = vs} {x = x} {y = y} w op s line sign r) =
      chain_goes_on i Anything product_operator (unary d (parens d)) us vs w op x y (spelled_reads s) (product_found w.piece op line sign) tt (spelled_reads r)
  spelled_reads (phrase.unary_atom {depth = d} {ws = ws} {x = x} s) = atom_is_unary i d (parens d) ws x (spelled_reads s)
  spelled_reads (phrase.unary_minus {depth = d} {ws = ws} {x = x} w is s) = minus_reads i d (parens d) w ws x is (spelled_reads s)
  spelled_reads (phrase.atom_true {depth = d} w is) = true_reads i d (parens d) w is
  spelled_reads (phrase.atom_false {depth = d} w is) = false_reads i d (parens d) w is
  spelled_reads (phrase.atom_int {depth = d} w n is reads) = int_reads i d (parens d) w n is reads
  spelled_reads (phrase.atom_text {depth = d} w cs is reads) = text_reads i d (parens d) w cs is reads
  spelled_reads (phrase.atom_var {depth = d} w x is) = variable_reads i d (parens d) w x is
  spelled_reads (phrase.atom_in {depth = d} test opens w closes s is o n c) = state_reads i d (parens (suc d)) test opens w closes s is o n c
  spelled_reads (phrase.atom_count {depth = d} test opens w closes a is o n c) = count_reads i d (parens (suc d)) test opens w closes a is o n c
  spelled_reads (phrase.atom_done {depth = d} test opens w closes a is o n c) = done_reads i d (parens (suc d)) test opens w closes a is o n c
  spelled_reads (phrase.atom_expr {depth = d} {ws = ws} {x = x} opens closes o s c) = enclosed i d opens closes ws x o c (whole_expr d ws x (spelled_reads s))

-- an expression is read from the start, in the laws' words
pub spelled_is_read : SpelledIsRead
unfolding expr without_nodes
spelled_is_read i ws more x s few is none =
    let p = parted (lexeme_of i.text) ws more i.left is in
    let long : length p.left ≡ length ws = sym (length-map p.left (lexeme_of i.text)) ∙ ap length p.left_is in
    let rest : drop (length ws) i.left ≡ p.right = ap (drop (length ws)) p.whole ∙ drop_at p.left p.right (length ws) long in
    let total : 0 + nodes x ≡ nodes x = omega arith in
    let fits : 0 + nodes x ≤ max_nodes = omega arith in
    let follows : EndsExpr (first_piece (map (lexeme_of i.text) p.right)) = no_operator_ends (first_piece (map (lexeme_of i.text) p.right)) (subst (λ (ls : List Lexeme). IsNoOperator (first_piece ls)) (sym p.right_is) none) in
    ap (λ (ls : List Token). disj max_open (parens max_open) (here i ls i.at 0)) p.whole
    ∙ whole_expr i max_open ws x (spelled_reads i s) p.left p.right i.at 0 p.left_is fits follows
    ∙ ap₂ (λ (ls : List Token) (n : ℕ). Ok (x, here i ls (i.at + n) (0 + nodes x))) (sym rest) long
    ∙ ap (λ (c : ℕ). Ok (x, here i (drop (length ws) i.left) (i.at + length ws) c)) total
