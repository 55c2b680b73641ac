-- What each rule reads is spelled, from atoms up to expressions.
use Rattle.std.proofs.Common.{◌≡◌, ℕ, zero, suc, ◌+◌, ◌≤◌, Bool, true, false, if◌then◌else◌, List, [], ◌∷◌, ◌++◌, length, map, drop, Ok, refl, sym, ◌∙◌, ap, ap₂, subst, arith, append_assoc, length-append}
use Rattle.std.proofs.lemmas.List.{map-append, length-map, drop_at}
use Rattle.wf_model.specs.Limits.{max_nodes, max_open}
use Rattle.wf_model.specs.declared.expr.Expr.{Expr}
use Rattle.wf_model.specs.declared.expr.Expr.TheVariants as e
use Rattle.wf_model.specs.Accepted.{nodes}
use Rattle.wf_lex.specs.declared.token.Token.{Token}
use Rattle.wf_cursor.specs.declared.piece.Piece.{Piece}
use Rattle.wf_cursor.specs.declared.piece.Piece.TheVariants as pieces
use Rattle.wf_cursor.specs.Input.{Input, Parser, and_then, ◌>>=◌, ◌>>◌, pure, take, piece, node, sees, expect, without_nodes}
use Rattle.wf_phrase.specs.Operators.{or_operator, and_operator, comparison, sum_operator, product_operator}
use Rattle.wf_phrase.specs.Expressions.{chain_by, atom, unary_from, unary, prod, sum, comp, neg_from, neg, conj, disj, parens, expr}
use Rattle.wf_grammar.specs.Lexemes.{Lexeme, lexeme_of, lexemes}
use Rattle.wf_grammar.specs.Phrases as phrase
use Rattle.wf_grammar.specs.Phrases.{Names, Rank, Is, Spells}
use Rattle.wf_grammar.specs.Laws.{behind, ReadIsSpelled}
use Rattle.wf_model.specs.NodesLaws.{nodes-Not, nodes-Neg}
use Rattle.wf_grammar.proofs.Inputs.{here, piece_here, piece_none, next_here, sees_piece, steps_of, pure_gives}
use Rattle.wf_grammar.proofs.ReadSteps.{expect_then}
use Rattle.wf_grammar.proofs.Taking.{Phrase, Took, IsSound, weaker, prefixed, stops, turn, followed, chained}
use Rattle.wf_grammar.proofs.Tables.{or_has_sign, and_has_sign, comparison_has_sign, sum_has_sign, product_has_sign}
use Rattle.wf_grammar.proofs.Atoms.{NestedIsSound, atom_sound}

-- what is seen is next
seen_is : (i : Input) (p : Piece) (t : Token) (rest : List Token) (at count : ℕ) → sees p (here i (t ∷ rest) at count) ≡ true → Is p (lexeme_of i.text t)
seen_is i p t rest at count h = let found = piece_here i t rest at count in let wanted = sees_piece p (here i (t ∷ rest) at count) h in cc

-- nothing is seen at the end
none_seen : (i : Input) (p : Piece) (at count : ℕ) → sees p (here i [] at count) ≡ false
unfolding sees
none_seen i p at count = rw (piece_none i at count) refl

module _ (i : Input) (depth : ℕ) (nested : Parser Expr) (sound : NestedIsSound i depth nested) where
  abbrev Of : Rank → Phrase
  Of = Spells i.names depth

  unary_from_sound : (n : ℕ) → IsSound i (Of Rank.unary) (unary_from depth nested n)
  unfolding unary_from
  unary_from_sound zero left at count x j h =
      weaker i (Of Rank.atom) (Of Rank.unary) (λ ws y s. phrase.unary_atom s) left at count x j (atom_sound i depth nested sound left at count x j h)
  unary_from_sound (suc n) [] at count x j h =
      weaker i (Of Rank.atom) (Of Rank.unary) (λ ws y s. phrase.unary_atom s) [] at count x j (atom_sound i depth nested sound [] at count x j (rw (none_seen i pieces.Minus at count) at h))
  unary_from_sound (suc n) (t ∷ rest) at count x j h = by_sign (sees pieces.Minus (here i (t ∷ rest) at count)) refl h (unary_from_sound n)
    where
      by_sign : (b : Bool) → sees pieces.Minus (here i (t ∷ rest) at count) ≡ b
          → (if b then (node >> (take >> (unary_from depth nested n >>= (λ y. pure (e.Neg y))))) (here i (t ∷ rest) at count) else atom depth nested (here i (t ∷ rest) at count)) ≡ Ok (x, j)
          → IsSound i (Of Rank.unary) (unary_from depth nested n) → Took i (Of Rank.unary) (t ∷ rest) at count x j
      by_sign true is h' inner =
          prefixed i (Of Rank.unary) e.Neg nodes-Neg (unary_from depth nested n) inner t rest at count x j
          (λ ws y s. phrase.unary_minus (lexeme_of i.text t) (seen_is i pieces.Minus t rest at count is) s) h'
      by_sign false is h' inner =
          weaker i (Of Rank.atom) (Of Rank.unary) (λ ws y s. phrase.unary_atom s) (t ∷ rest) at count x j (atom_sound i depth nested sound (t ∷ rest) at count x j h')

  unary_sound : IsSound i (Of Rank.unary) (unary depth nested)
  unary_sound left at count x j h = unary_from_sound (length left) left at count x j h

  prod_sound : IsSound i (Of Rank.prod) (prod depth nested)
  unfolding prod product_operator
  prod_sound = chained i (Of Rank.unary) (Of Rank.prod) product_operator (unary depth nested) (λ ws x s. phrase.prod_unary s)
      (λ us vs w op x y s is r. let o = product_has_sign w.piece op is in phrase.prod_more w op s o.0 o.1 r) refl unary_sound

  sum_sound : IsSound i (Of Rank.sum) (sum depth nested)
  unfolding sum sum_operator
  sum_sound = chained i (Of Rank.prod) (Of Rank.sum) sum_operator (prod depth nested) (λ ws x s. phrase.sum_prod s)
      (λ us vs w op x y s is r. let o = sum_has_sign w.piece op is in phrase.sum_more w op s o.0 o.1 r) refl prod_sound

  comp_sound : IsSound i (Of Rank.comp) (comp depth nested)
  unfolding comp comparison
  comp_sound = followed i (Of Rank.sum) (Of Rank.comp) (sum depth nested) (λ l k. chain_by (sum depth nested) pure l (comparison (piece k)) k) sum_sound
      (turn i (Of Rank.sum) (Of Rank.sum) (Of Rank.comp) comparison (sum depth nested) pure (λ ws x s. phrase.comp_sum s)
      (λ us vs w op x y s is r. let o = comparison_has_sign w.piece op is in phrase.comp_both w op s o.0 o.1 r) refl sum_sound (stops i (Of Rank.comp)))

  neg_from_sound : (n : ℕ) → IsSound i (Of Rank.neg) (neg_from depth nested n)
  unfolding neg_from
  neg_from_sound zero left at count x j h =
      weaker i (Of Rank.comp) (Of Rank.neg) (λ ws y s. phrase.neg_comp s) left at count x j (comp_sound left at count x j h)
  neg_from_sound (suc n) [] at count x j h =
      weaker i (Of Rank.comp) (Of Rank.neg) (λ ws y s. phrase.neg_comp s) [] at count x j (comp_sound [] at count x j (rw (none_seen i pieces.Not at count) at h))
  neg_from_sound (suc n) (t ∷ rest) at count x j h = by_word (sees pieces.Not (here i (t ∷ rest) at count)) refl h (neg_from_sound n)
    where
      by_word : (b : Bool) → sees pieces.Not (here i (t ∷ rest) at count) ≡ b
          → (if b then (node >> (take >> (neg_from depth nested n >>= (λ y. pure (e.Not y))))) (here i (t ∷ rest) at count) else comp depth nested (here i (t ∷ rest) at count)) ≡ Ok (x, j)
          → IsSound i (Of Rank.neg) (neg_from depth nested n) → Took i (Of Rank.neg) (t ∷ rest) at count x j
      by_word true is h' inner =
          prefixed i (Of Rank.neg) e.Not nodes-Not (neg_from depth nested n) inner t rest at count x j
          (λ ws y s. phrase.neg_not (lexeme_of i.text t) (seen_is i pieces.Not t rest at count is) s) h'
      by_word false is h' inner =
          weaker i (Of Rank.comp) (Of Rank.neg) (λ ws y s. phrase.neg_comp s) (t ∷ rest) at count x j (comp_sound (t ∷ rest) at count x j h')

  neg_sound : IsSound i (Of Rank.neg) (neg depth nested)
  neg_sound left at count x j h = neg_from_sound (length left) left at count x j h

  conj_sound : IsSound i (Of Rank.conj) (conj depth nested)
  unfolding conj and_operator
  conj_sound = chained i (Of Rank.neg) (Of Rank.conj) and_operator (neg depth nested) (λ ws x s. phrase.conj_neg s)
      (λ us vs w op x y s is r. let o = and_has_sign w.piece op is in phrase.conj_and w op s o.0 o.1 r) refl neg_sound

  disj_sound : IsSound i (Of Rank.expr) (disj depth nested)
  unfolding disj or_operator
  disj_sound = chained i (Of Rank.conj) (Of Rank.expr) or_operator (conj depth nested) (λ ws x s. phrase.expr_conj s)
      (λ us vs w op x y s is r. let o = or_has_sign w.piece op is in phrase.expr_or w op s o.0 o.1 r) refl conj_sound

-- what stands between parentheses, with them
closed : (i : Input) (depth : ℕ) (opens : Token) (rest : List Token) (at count : ℕ) (x y : Expr) (k j : Input) → Is pieces.OpenParen (lexeme_of i.text opens)
    → Took i (Spells i.names depth Rank.expr) rest (at + 1) count y k → (expect pieces.CloseParen >> pure y) k ≡ Ok (x, j)
    → Took i (Spells i.names (suc depth) Rank.atom) (opens ∷ rest) at count x j
closed i depth opens rest at count x y k j is_open took h =
    let h' = subst (λ (m : Input). (expect pieces.CloseParen >> pure y) m ≡ Ok (x, j)) took.end h in
    let c = expect_then i pieces.CloseParen took.rest (at + 1 + length took.words) (count + nodes y) (λ _. pure y) x j h' in
    let gave = pure_gives y x (here i c.rest (at + 1 + length took.words + 1) (count + nodes y)) j c.goes_on in
    let long = length-append took.words (c.token ∷ []) in
    let place : at + 1 + length took.words + 1 ≡ at + suc (length (took.words ++ c.token ∷ [])) = omega arith in
    let total : count + nodes y ≡ count + nodes x = ap (λ z. count + nodes z) gave.0 in
    let phrases = phrase.atom_expr (lexeme_of i.text opens) (lexeme_of i.text c.token) is_open took.spelled c.is in
    record {
      words = opens ∷ (took.words ++ c.token ∷ []);
      rest = c.rest;
      whole = ap (λ ls. opens ∷ ls) (took.whole ∙ ap (λ ls. took.words ++ ls) c.whole ∙ sym (append_assoc took.words (c.token ∷ []) c.rest));
      spelled = rw (map-append (lexeme_of i.text) took.words (c.token ∷ [])) (subst (Spells i.names (suc depth) Rank.atom (lexeme_of i.text opens ∷ (map (lexeme_of i.text) took.words ++ lexeme_of i.text c.token ∷ []))) gave.0 phrases);
      few = (let f = took.few in omega arith);
      end = sym gave.1 ∙ ap₂ (here i c.rest) place total;
    }

parens_sound : (i : Input) (depth : ℕ) → NestedIsSound i depth (parens depth)
unfolding parens
parens_sound i zero t rest at count x j is h = cc
parens_sound i (suc depth) t rest at count x j is h =
    let h' : and_then (disj depth (parens depth) (here i rest (at + 1) count)) (λ inner. expect pieces.CloseParen >> pure inner) ≡ Ok (x, j) = rw (next_here i t rest at count) at h in
    let s = steps_of (disj depth (parens depth) (here i rest (at + 1) count)) (λ inner. expect pieces.CloseParen >> pure inner) x j h' in
    let took = disj_sound i depth (parens depth) (parens_sound i depth) rest (at + 1) count s.value s.between s.first in
    closed i depth t rest at count x s.value s.between j is took s.second

-- an expression was read from the start, so the laws' words hold of what it took
told : (i j : Input) (x : Expr) → Took i (Spells i.names max_open Rank.expr) i.left i.at 0 x j
    → (ws : List Lexeme) × Spells i.names max_open Rank.expr ws x × (nodes x ≤ max_nodes) × (lexemes i ≡ ws ++ lexemes j) × (j ≡ behind (length ws) (nodes x) i)
told i j x took =
    let words = map (lexeme_of i.text) took.words in
    let long : length took.words ≡ length words = sym (length-map took.words (lexeme_of i.text)) in
    let rest : drop (length words) i.left ≡ took.rest = ap (drop (length words)) took.whole ∙ drop_at took.words took.rest (length words) long in
    let few : nodes x ≤ max_nodes = (let f = took.few in omega arith) in
    let total : 0 + nodes x ≡ nodes x = omega arith in (
      words,
      took.spelled,
      few,
      ap (map (lexeme_of i.text)) took.whole ∙ map-append (lexeme_of i.text) took.words took.rest ∙ ap (λ (k : Input). words ++ lexemes k) (sym took.end),
      took.end ∙ ap₂ (λ (ls : List Token) (n : ℕ). here i ls (i.at + n) (0 + nodes x)) (sym rest) long ∙ ap (here i (drop (length words) i.left) (i.at + length words)) total,
    )

pub read_is_spelled : ReadIsSpelled
unfolding expr without_nodes
read_is_spelled i j x h = told i j x (disj_sound i max_open (parens max_open) (parens_sound i max_open) i.left i.at 0 x j h)
