-- What a step answers, where the next token is what it wants.
use Rattle.std.proofs.Common.{◌≡◌, ℕ, suc, ◌+◌, ◌<◌, ◌==◌, true, false, nat_le, List, [], ◌∷◌, length, Some, Ok, refl, ◌∙◌, ap, ap₂, map, ◌++◌, arith}
use Rattle.std.proofs.lemmas.Bool.Decides.{nat_tests}
use Rattle.wf_model.specs.Limits.{max_name, max_nodes, max_int}
use Rattle.wf_model.specs.declared.ids.VarId.{VarId}
use Rattle.wf_model.specs.declared.ids.StateId.{StateId}
use Rattle.wf_model.specs.declared.ids.ActId.{ActId}
use Rattle.wf_lex.specs.declared.token.Token.{Token}
use Rattle.wf_cursor.specs.declared.names.Declared.{Declared}
use Rattle.wf_cursor.specs.declared.names.Declared.TheVariants as declared_as_a
use Rattle.wf_cursor.specs.declared.piece.Piece.{Piece}
use Rattle.wf_cursor.specs.declared.piece.Piece.TheVariants as pieces
use Rattle.wf_cursor.specs.Values.{number_up_to, short_text}
use Rattle.wf_cursor.specs.Input as input
use Rattle.wf_cursor.specs.Input.{Input, piece, spelling, next, sees, node, expect, declared, name_ahead, int_up_to}
use Rattle.wf_phrase.specs.Expressions.{open_paren}
use Rattle.wf_grammar.specs.Lexemes.{Lexeme, lexeme_of}
use Rattle.wf_grammar.specs.Phrases.{Is, IsNameOf}
use Rattle.wf_grammar.specs.Laws.{first_piece}
use Rattle.wf_grammar.proofs.Inputs.{here, piece_here, piece_none, spelling_here, next_here, declared_here, piece_sees, is_less, is_fit}

pub node_here : (i : Input) (left : List Token) (at count : ℕ) → count < max_nodes → node (here i left at count) ≡ Ok (tt, here i left at (count + 1))
unfolding node
node_here i left at count room = rw (is_less count max_nodes room) refl

module _ (i : Input) (t : Token) (rest : List Token) (at count : ℕ) where
  pub sees_here : (p : Piece) → Is p (lexeme_of i.text t) → sees p (here i (t ∷ rest) at count) ≡ true
  sees_here p is = piece_sees p (here i (t ∷ rest) at count) (piece_here i t rest at count ∙ ap Some is)

  pub expect_here : (p : Piece) → Is p (lexeme_of i.text t) → expect p (here i (t ∷ rest) at count) ≡ Ok (tt, here i rest (at + 1) count)
  unfolding expect
  expect_here p is = rw (sees_here p is) (ap (λ (k : Input). Ok (tt, k)) (next_here i t rest at count))

  pub open_here : (depth : ℕ) → Is pieces.OpenParen (lexeme_of i.text t) → open_paren (suc depth) (here i (t ∷ rest) at count) ≡ Ok (tt, here i rest (at + 1) count)
  unfolding open_paren
  open_here depth is =
      let some : (suc depth == 0) ≡ false = grind (arith, nat_tests) in
      rw (sees_here pieces.OpenParen is) (rw some (ap (λ (k : Input). Ok (tt, k)) (next_here i t rest at count)))

  pub name_here : (what : Declared) → IsNameOf i.names what (lexeme_of i.text t) → name_ahead (here i (t ∷ rest) at count) ≡ Ok (tt, here i (t ∷ rest) at count)
  unfolding name_ahead
  name_here what is =
      let short : nat_le (length (spelling (here i (t ∷ rest) at count))) max_name ≡ true = rw (spelling_here i t rest at count) (is_fit (length (lexeme_of i.text t).bytes) max_name is.is_short) in
      rw (sees_here pieces.Name is.is_name) (rw short refl)

  pub declared_is : (what : Declared) → IsNameOf i.names what (lexeme_of i.text t) → declared (here i (t ∷ rest) at count) ≡ Some what
  declared_is what is = declared_here i t rest at count ∙ is.is_declared

  pub variable_here : (x : VarId) → IsNameOf i.names (declared_as_a.Var x) (lexeme_of i.text t) → input.variable (here i (t ∷ rest) at count) ≡ Ok (x, here i rest (at + 1) count)
  unfolding input.variable
  variable_here x is = rw (name_here (declared_as_a.Var x) is) (rw (declared_is (declared_as_a.Var x) is) (ap (λ (k : Input). Ok (x, k)) (next_here i t rest at count)))

  pub state_here : (s : StateId) → IsNameOf i.names (declared_as_a.State s) (lexeme_of i.text t) → input.state (here i (t ∷ rest) at count) ≡ Ok (s, here i rest (at + 1) count)
  unfolding input.state
  state_here s is = rw (name_here (declared_as_a.State s) is) (rw (declared_is (declared_as_a.State s) is) (ap (λ (k : Input). Ok (s, k)) (next_here i t rest at count)))

  pub activity_here : (a : ActId) → IsNameOf i.names (declared_as_a.Activity a) (lexeme_of i.text t) → input.activity (here i (t ∷ rest) at count) ≡ Ok (a, here i rest (at + 1) count)
  unfolding input.activity
  activity_here a is = rw (name_here (declared_as_a.Activity a) is) (rw (declared_is (declared_as_a.Activity a) is) (ap (λ (k : Input). Ok (a, k)) (next_here i t rest at count)))

  pub int_here : (n : ℕ) → Is pieces.Int (lexeme_of i.text t) → number_up_to max_int (lexeme_of i.text t).bytes ≡ Some n → input.int (here i (t ∷ rest) at count) ≡ Ok (n, here i rest (at + 1) count)
  unfolding input.int int_up_to
  int_here n is reads =
      let found : number_up_to max_int (spelling (here i (t ∷ rest) at count)) ≡ Some n = ap (number_up_to max_int) (spelling_here i t rest at count) ∙ reads in
      rw (sees_here pieces.Int is) (rw found (ap (λ (k : Input). Ok (n, k)) (next_here i t rest at count)))

  pub text_here : (cs : List ℕ) → Is pieces.Text (lexeme_of i.text t) → short_text (lexeme_of i.text t).bytes ≡ Some cs → input.text (here i (t ∷ rest) at count) ≡ Ok (cs, here i rest (at + 1) count)
  unfolding input.text
  text_here cs is reads =
      let found : short_text (spelling (here i (t ∷ rest) at count)) ≡ Some cs = ap short_text (spelling_here i t rest at count) ∙ reads in
      rw (sees_here pieces.Text is) (rw found (ap (λ (k : Input). Ok (cs, k)) (next_here i t rest at count)))

-- the next piece, as the laws have it
pub piece_first : (i : Input) (left : List Token) (at count : ℕ) → piece (here i left at count) ≡ first_piece (map (lexeme_of i.text) left)
piece_first i [] at count = piece_none i at count
piece_first i (t ∷ rest) at count = piece_here i t rest at count

-- ---- tokens whose lexemes are given

pub record Parted (f : Token → Lexeme) (us vs : List Lexeme) (words : List Token) : Type 0 where
  pub left : List Token
  pub right : List Token
  pub whole : words ≡ left ++ right
  pub left_is : map f left ≡ us
  pub right_is : map f right ≡ vs

pub parted : (f : Token → Lexeme) (us vs : List Lexeme) (words : List Token) → map f words ≡ us ++ vs → Parted f us vs words
parted f [] vs words h = record { left = []; right = words; whole = refl; left_is = refl; right_is = h }
parted f (w ∷ us) vs [] h = cc
parted f (w ∷ us) vs (t ∷ words) h =
    let head : f t ≡ w = cc in
    let tail : map f words ≡ us ++ vs = cc in
    let p = parted f us vs words tail in
    record { left = t ∷ p.left; right = p.right; whole = ap (λ ls. t ∷ ls) p.whole; left_is = ap₂ (λ (v : Lexeme) (l : List Lexeme). v ∷ l) head p.left_is; right_is = p.right_is }

pub record Headed (f : Token → Lexeme) (w : Lexeme) (ws : List Lexeme) (words : List Token) : Type 0 where
  pub token : Token
  pub rest : List Token
  pub whole : words ≡ token ∷ rest
  pub token_is : f token ≡ w
  pub rest_is : map f rest ≡ ws

pub headed : (f : Token → Lexeme) (w : Lexeme) (ws : List Lexeme) (words : List Token) → map f words ≡ w ∷ ws → Headed f w ws words
headed f w ws [] h = cc
headed f w ws (t ∷ words) h = record { token = t; rest = words; whole = refl; token_is = (cc); rest_is = (cc) }

pub emptied : (f : Token → Lexeme) (words : List Token) → map f words ≡ [] → words ≡ []
emptied f [] h = refl
emptied f (t ∷ words) h = cc
