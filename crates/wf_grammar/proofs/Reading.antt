-- What is spelled is read: how that is shown of rules that are made of rules.
use Rattle.std.proofs.Common.{◌≡◌, ℕ, zero, suc, ◌+◌, ◌<◌, ◌≤◌, List, ◌∷◌, ◌++◌, length, map, Option, Some, None, Ok, refl, sym, ◌∙◌, ap, ap₂, subst, arith, append_assoc, length-append}
use Rattle.wf_model.specs.Limits.{max_nodes}
use Rattle.wf_model.specs.declared.expr.Op.{Op}
use Rattle.wf_model.specs.declared.expr.Expr.{Expr}
use Rattle.wf_model.specs.declared.expr.Expr.TheVariants as e
use Rattle.wf_model.specs.Accepted.{nodes}
use Rattle.wf_lex.specs.declared.token.Token.{Token}
use Rattle.wf_cursor.specs.declared.piece.Piece.{Piece}
use Rattle.wf_cursor.specs.Input.{Input, Parser, and_then, ◌>>=◌, ◌>>◌, pure, take, piece, node}
use Rattle.wf_phrase.specs.Expressions.{chain_by, chain_from, chain}
use Rattle.wf_grammar.specs.Lexemes.{Lexeme, lexeme_of}
use Rattle.wf_grammar.specs.Laws.{first_piece}
use Rattle.wf_model.specs.NodesLaws.{nodes-Bin}
use Rattle.wf_grammar.proofs.Inputs.{here, piece_here, next_here}
use Rattle.wf_grammar.proofs.SpellSteps.{node_here, piece_first, parted, headed}

-- what may follow
abbrev pub Follow : Type 1
Follow = Option Piece → Type 0

-- the rule reads these lexemes as the expression, where what follows may
abbrev pub ReadsAs : Input → Follow → Parser Expr → List Lexeme → Expr → Type 0
ReadsAs i May p ws x =
    (words rest : List Token) (at count : ℕ) → map (lexeme_of i.text) words ≡ ws → count + nodes x ≤ max_nodes → May (first_piece (map (lexeme_of i.text) rest))
    → p (here i (words ++ rest) at count) ≡ Ok (x, here i rest (at + length words) (count + nodes x))

-- a token that makes a node, and a phrase behind it
pub prefix_reads : (i : Input) (make : Expr → Expr) (counted : (x : Expr) → nodes (make x) ≡ nodes x + 1) (p : Parser Expr) (x : Expr) (t : Token) (words rest : List Token) (at count : ℕ)
    → count + nodes (make x) ≤ max_nodes
    → (count + 1 + nodes x ≤ max_nodes → p (here i (words ++ rest) (at + 1) (count + 1)) ≡ Ok (x, here i rest (at + 1 + length words) (count + 1 + nodes x)))
    → and_then (node (here i (t ∷ (words ++ rest)) at count)) (λ _. take >> (p >>= (λ y. pure (make y)))) ≡ Ok (make x, here i rest (at + suc (length words)) (count + nodes (make x)))
prefix_reads i make counted p x t words rest at count few reads =
    let size = counted x in
    let room : count < max_nodes = omega arith in
    let place : at + 1 + length words ≡ at + suc (length words) = omega arith in
    let total : count + 1 + nodes x ≡ count + nodes (make x) = omega arith in
    rw (node_here i (t ∷ (words ++ rest)) at count room) (rw (next_here i t (words ++ rest) at (count + 1)) (rw (reads (omega arith))
    (ap₂ (λ (a c : ℕ). Ok (make x, here i rest a c)) place total)))

module _ (i : Input) (May : Follow) (operator : Option Piece → Option Op) (operand : Parser Expr) where
  -- an operator and its right side
  pub turn_reads : (more : Expr → Parser Expr) (t : Token) (words rest : List Token) (vs : List Lexeme) (at count : ℕ) (op : Op) (x y : Expr)
      → operator (Some (lexeme_of i.text t).piece) ≡ Some op → ReadsAs i May operand vs y → map (lexeme_of i.text) words ≡ vs → count + 1 + nodes y ≤ max_nodes
      → May (first_piece (map (lexeme_of i.text) rest))
      → chain_by operand more x (operator (piece (here i (t ∷ (words ++ rest)) at count))) (here i (t ∷ (words ++ rest)) at count)
      ≡ more (e.Bin op x y) (here i rest (at + 1 + length words) (count + 1 + nodes y))
  turn_reads more t words rest vs at count op x y is reads words_are few may =
      let room : count < max_nodes = omega arith in
      rw (piece_here i t (words ++ rest) at count) (rw is (rw (node_here i (t ∷ (words ++ rest)) at count room) (rw (next_here i t (words ++ rest) at (count + 1))
      (rw (reads words rest (at + 1) (count + 1) words_are few may) refl))))

  -- the chain has come behind its words, and has turns enough for what is left
  pub record IsBehind (words rest : List Token) (at count : ℕ) (x : Expr) : Type 0 where
    pub turns : ℕ
    pub enough : length rest ≤ turns
    pub behind : chain operator operand (here i (words ++ rest) at count) ≡ chain_from operator operand turns x (here i rest (at + length words) (count + nodes x))

  -- the chain reads these lexemes as the expression, and may then go on
  abbrev pub ReadsOn : List Lexeme → Expr → Type 0
  ReadsOn ws x =
      (words rest : List Token) (at count : ℕ) → map (lexeme_of i.text) words ≡ ws → count + nodes x ≤ max_nodes → May (first_piece (map (lexeme_of i.text) rest))
      → IsBehind words rest at count x

  pub chain_begins : (ws : List Lexeme) (x : Expr) → ReadsAs i May operand ws x → ReadsOn ws x
  chain_begins ws x reads words rest at count is few may =
      record { turns = length rest; enough = omega arith; behind = rw (reads words rest at count is few may) refl }

  -- one turn more
  one_more : (n : ℕ) (t : Token) (words rest : List Token) (vs : List Lexeme) (at count : ℕ) (op : Op) (x y : Expr) → length (t ∷ (words ++ rest)) ≤ n
      → operator (Some (lexeme_of i.text t).piece) ≡ Some op → ReadsAs i May operand vs y → map (lexeme_of i.text) words ≡ vs → count + 1 + nodes y ≤ max_nodes
      → May (first_piece (map (lexeme_of i.text) rest))
      → (m : ℕ) × (length rest ≤ m) × (chain_from operator operand n x (here i (t ∷ (words ++ rest)) at count) ≡ chain_from operator operand m (e.Bin op x y) (here i rest (at + 1 + length words) (count + 1 + nodes y)))
  unfolding chain_from
  one_more zero t words rest vs at count op x y enough is reads words_are few may = absurd (omega arith)
  one_more (suc m) t words rest vs at count op x y enough is reads words_are few may =
      (m, omega (arith, length-append words rest), turn_reads (chain_from operator operand m) t words rest vs at count op x y is reads words_are few may)

  pub chain_goes_on : (us vs : List Lexeme) (w : Lexeme) (op : Op) (x y : Expr) → ReadsOn us x → operator (Some w.piece) ≡ Some op → May (Some w.piece) → ReadsAs i May operand vs y
      → ReadsOn (us ++ w ∷ vs) (e.Bin op x y)
  chain_goes_on us vs w op x y first is may_follow second words rest at count words_are few may =
      let f = lexeme_of i.text in
      let p = parted f us (w ∷ vs) words words_are in
      let h = headed f w vs p.right p.right_is in
      let size = nodes-Bin op x y in
      let long = length-append p.left (h.token ∷ h.rest) in
      let sized : length words ≡ length p.left + suc (length h.rest) = ap length (p.whole ∙ ap (λ ls. p.left ++ ls) h.whole) ∙ long in
      let whole : words ++ rest ≡ p.left ++ (h.token ∷ (h.rest ++ rest)) =
      ap (λ ls. ls ++ rest) (p.whole ∙ ap (λ ls. p.left ++ ls) h.whole) ∙ append_assoc p.left (h.token ∷ h.rest) rest in
      let is_token : operator (Some (f h.token).piece) ≡ Some op = ap (λ (v : Lexeme). operator (Some v.piece)) h.token_is ∙ is in
      let may_token : May (Some (f h.token).piece) = subst (λ (v : Lexeme). May (Some v.piece)) (sym h.token_is) may_follow in
      let a = first p.left (h.token ∷ (h.rest ++ rest)) at count p.left_is (omega arith) may_token in
      let b = one_more a.turns h.token h.rest rest vs (at + length p.left) (count + nodes x) op x y a.enough is_token second h.rest_is (omega arith) may in
      let place : at + length p.left + 1 + length h.rest ≡ at + length words = omega arith in
      let total : count + nodes x + 1 + nodes y ≡ count + nodes (e.Bin op x y) = omega arith in
      record {
        turns = b.0;
        enough = b.1;
        behind =
            ap (λ (ls : List Token). chain operator operand (here i ls at count)) whole ∙ a.behind ∙ b.2
            ∙ ap₂ (λ (a c : ℕ). chain_from operator operand b.0 (e.Bin op x y) (here i rest a c)) place total;
      }

  -- no operator follows
  chain_ends : (n : ℕ) (rest : List Token) (at count : ℕ) (x : Expr) → operator (first_piece (map (lexeme_of i.text) rest)) ≡ None
      → chain_from operator operand n x (here i rest at count) ≡ Ok (x, here i rest at count)
  unfolding chain_from
  chain_ends zero rest at count x none = refl
  chain_ends (suc n) rest at count x none = rw (piece_first i rest at count) (rw none refl)

  pub chain_reads : (ws : List Lexeme) (x : Expr) → ReadsOn ws x → ReadsAs i (λ p. May p × (operator p ≡ None)) (chain operator operand) ws x
  chain_reads ws x reads words rest at count is few may =
      let a = reads words rest at count is few may.0 in
      a.behind ∙ chain_ends a.turns rest (at + length words) (count + nodes x) x may.1
