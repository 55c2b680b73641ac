-- What is spelled as an atom is read.
use Rattle.std.proofs.Common.{◌≡◌, ℕ, suc, ◌+◌, ◌<◌, Bool, true, false, List, [], ◌∷◌, Some, Ok, refl, sym, ◌∙◌, ap, ap₂, subst, arith}
use Rattle.wf_model.specs.Limits.{max_nodes, max_int}
use Rattle.wf_model.specs.declared.ids.VarId.{VarId}
use Rattle.wf_model.specs.declared.ids.StateId.{StateId}
use Rattle.wf_model.specs.declared.ids.ActId.{ActId}
use Rattle.wf_model.specs.declared.expr.Expr.{Expr}
use Rattle.wf_model.specs.declared.expr.Expr.TheVariants as e
use Rattle.wf_model.specs.Accepted.{nodes}
use Rattle.wf_lex.specs.declared.token.Token.{Token}
use Rattle.wf_cursor.specs.declared.names.Declared.TheVariants as declared_as_a
use Rattle.wf_cursor.specs.declared.piece.Piece.TheVariants as pieces
use Rattle.wf_cursor.specs.Values.{number_up_to, short_text}
use Rattle.wf_cursor.specs.Input.{Input, Parser, ◌>>=◌, pure, piece}
use Rattle.wf_phrase.specs.Expressions.{activity_inside, truth, number, characters, variable, in_state, count_of, done_of, atom, atom_by}
use Rattle.wf_grammar.specs.Lexemes.{Lexeme, lexeme_of}
use Rattle.wf_grammar.specs.Phrases.{Is, IsNameOf}
use Rattle.wf_grammar.proofs.Inputs.{here, piece_here, next_here}
use Rattle.wf_grammar.proofs.ReadSteps.{activity_inside_is}
use Rattle.wf_grammar.proofs.SpellSteps.{node_here, expect_here, open_here, variable_here, state_here, activity_here, int_here, text_here, headed, emptied}
use Rattle.wf_grammar.proofs.Reading.{ReadsAs}
use Rattle.wf_grammar.proofs.Follows.{Anything}

-- ---- atoms

-- an atom that is one token, where the rule for its piece reads it
one_reads : (i : Input) (depth : ℕ) (nested : Parser Expr) (w : Lexeme) (x : Expr) → nodes x ≡ 1
    → ((t : Token) (rest : List Token) (at count : ℕ) → lexeme_of i.text t ≡ w → count < max_nodes
    → atom_by depth nested (Some w.piece) (here i (t ∷ rest) at count) ≡ Ok (x, here i rest (at + 1) (count + 1)))
    → ReadsAs i Anything (atom depth nested) (w ∷ []) x
unfolding atom
one_reads i depth nested w x single reads words rest at count is few may =
    let h = headed (lexeme_of i.text) w [] words is in
    let none = emptied (lexeme_of i.text) h.rest h.rest_is in
    let whole : words ≡ h.token ∷ [] = h.whole ∙ ap (λ ls. h.token ∷ ls) none in
    let room : count < max_nodes = omega arith in
    let total : count + 1 ≡ count + nodes x = omega arith in
    let is_piece : piece (here i (h.token ∷ rest) at count) ≡ Some w.piece = piece_here i h.token rest at count ∙ ap (λ (v : Lexeme). Some v.piece) h.token_is in
    rw whole (rw is_piece (reads h.token rest at count h.token_is room ∙ ap (λ (c : ℕ). Ok (x, here i rest (at + 1) c)) total))

-- the word of a test, and in parentheses a name of this kind
module _ (i : Input) (depth : ℕ) (nested : Parser Expr) (test opens w closes : Lexeme) (is_open : Is pieces.OpenParen opens) (is_close : Is pieces.CloseParen closes) where
  test_reads : (x : Expr) → nodes x ≡ 1
      → ((t o n c : Token) (rest : List Token) (at count : ℕ)
      → Is pieces.OpenParen (lexeme_of i.text o) → lexeme_of i.text n ≡ w → Is pieces.CloseParen (lexeme_of i.text c) → count < max_nodes
      → atom_by (suc depth) nested (Some test.piece) (here i (t ∷ o ∷ n ∷ c ∷ rest) at count) ≡ Ok (x, here i rest (at + 1 + 1 + 1 + 1) (count + 1)))
      → ReadsAs i Anything (atom (suc depth) nested) (test ∷ opens ∷ w ∷ closes ∷ []) x
  unfolding atom
  test_reads x single reads words rest at count is few may =
      let f = lexeme_of i.text in
      let t = headed f test (opens ∷ w ∷ closes ∷ []) words is in
      let o = headed f opens (w ∷ closes ∷ []) t.rest t.rest_is in
      let n = headed f w (closes ∷ []) o.rest o.rest_is in
      let c = headed f closes [] n.rest n.rest_is in
      let none = emptied f c.rest c.rest_is in
      let whole : words ≡ t.token ∷ o.token ∷ n.token ∷ c.token ∷ [] =
      t.whole ∙ ap (λ ls. t.token ∷ ls) (o.whole ∙ ap (λ ls. o.token ∷ ls) (n.whole ∙ ap (λ ls. n.token ∷ ls) (c.whole ∙ ap (λ ls. c.token ∷ ls) none))) in
      let room : count < max_nodes = omega arith in
      let place : at + 1 + 1 + 1 + 1 ≡ at + 4 = omega arith in
      let total : count + 1 ≡ count + nodes x = omega arith in
      let opening : Is pieces.OpenParen (f o.token) = ap (λ (v : Lexeme). v.piece) o.token_is ∙ is_open in
      let closing : Is pieces.CloseParen (f c.token) = ap (λ (v : Lexeme). v.piece) c.token_is ∙ is_close in
      let is_piece : piece (here i (t.token ∷ o.token ∷ n.token ∷ c.token ∷ rest) at count) ≡ Some test.piece =
      piece_here i t.token (o.token ∷ n.token ∷ c.token ∷ rest) at count ∙ ap (λ (v : Lexeme). Some v.piece) t.token_is in
      rw whole (rw is_piece (reads t.token o.token n.token c.token rest at count opening n.token_is closing room ∙ ap₂ (λ (a k : ℕ). Ok (x, here i rest a k)) place total))

module _ (i : Input) (depth : ℕ) (nested : Parser Expr) where
  abbrev Atom : List Lexeme → Expr → Type 0
  Atom = ReadsAs i Anything (atom depth nested)

  truth_reads : (b : Bool) (t : Token) (rest : List Token) (at count : ℕ) → count < max_nodes → truth b (here i (t ∷ rest) at count) ≡ Ok (e.Bool b, here i rest (at + 1) (count + 1))
  unfolding truth
  truth_reads b t rest at count room = rw (node_here i (t ∷ rest) at count room) (rw (next_here i t rest at (count + 1)) refl)

  pub true_reads : (w : Lexeme) → Is pieces.True w → Atom (w ∷ []) (e.Bool true)
  true_reads w is = one_reads i depth nested w (e.Bool true) refl (λ t rest at count same room. rw is (truth_reads true t rest at count room))

  pub false_reads : (w : Lexeme) → Is pieces.False w → Atom (w ∷ []) (e.Bool false)
  false_reads w is = one_reads i depth nested w (e.Bool false) refl (λ t rest at count same room. rw is (truth_reads false t rest at count room))

  number_reads : (n : ℕ) (t : Token) (rest : List Token) (at count : ℕ) → Is pieces.Int (lexeme_of i.text t) → number_up_to max_int (lexeme_of i.text t).bytes ≡ Some n → count < max_nodes
      → number (here i (t ∷ rest) at count) ≡ Ok (e.Int n, here i rest (at + 1) (count + 1))
  unfolding number
  number_reads n t rest at count is reads room = rw (node_here i (t ∷ rest) at count room) (rw (int_here i t rest at (count + 1) n is reads) refl)

  pub int_reads : (w : Lexeme) (n : ℕ) → Is pieces.Int w → number_up_to max_int w.bytes ≡ Some n → Atom (w ∷ []) (e.Int n)
  int_reads w n is reads = one_reads i depth nested w (e.Int n) refl (λ t rest at count same room.
      rw is (number_reads n t rest at count (ap (λ (v : Lexeme). v.piece) same ∙ is) (ap (λ (v : Lexeme). number_up_to max_int v.bytes) same ∙ reads) room))

  characters_reads : (cs : List ℕ) (t : Token) (rest : List Token) (at count : ℕ) → Is pieces.Text (lexeme_of i.text t) → short_text (lexeme_of i.text t).bytes ≡ Some cs → count < max_nodes
      → characters (here i (t ∷ rest) at count) ≡ Ok (e.Text cs, here i rest (at + 1) (count + 1))
  unfolding characters
  characters_reads cs t rest at count is reads room = rw (node_here i (t ∷ rest) at count room) (rw (text_here i t rest at (count + 1) cs is reads) refl)

  pub text_reads : (w : Lexeme) (cs : List ℕ) → Is pieces.Text w → short_text w.bytes ≡ Some cs → Atom (w ∷ []) (e.Text cs)
  text_reads w cs is reads = one_reads i depth nested w (e.Text cs) refl (λ t rest at count same room.
      rw is (characters_reads cs t rest at count (ap (λ (v : Lexeme). v.piece) same ∙ is) (ap (λ (v : Lexeme). short_text v.bytes) same ∙ reads) room))

  named_reads : (x : VarId) (t : Token) (rest : List Token) (at count : ℕ) → IsNameOf i.names (declared_as_a.Var x) (lexeme_of i.text t) → count < max_nodes
      → variable (here i (t ∷ rest) at count) ≡ Ok (e.Var x, here i rest (at + 1) (count + 1))
  unfolding variable
  named_reads x t rest at count is room = rw (node_here i (t ∷ rest) at count room) (rw (variable_here i t rest at (count + 1) x is) refl)

  pub variable_reads : (w : Lexeme) (x : VarId) → IsNameOf i.names (declared_as_a.Var x) w → Atom (w ∷ []) (e.Var x)
  variable_reads w x is = one_reads i depth nested w (e.Var x) refl (λ t rest at count same room.
      rw is.is_name (named_reads x t rest at count (subst (IsNameOf i.names (declared_as_a.Var x)) (sym same) is) room))

  in_reads : (s : StateId) (t o n c : Token) (rest : List Token) (at count : ℕ) → Is pieces.OpenParen (lexeme_of i.text o) → IsNameOf i.names (declared_as_a.State s) (lexeme_of i.text n)
      → Is pieces.CloseParen (lexeme_of i.text c) → count < max_nodes
      → in_state (suc depth) (here i (t ∷ o ∷ n ∷ c ∷ rest) at count) ≡ Ok (e.In s, here i rest (at + 1 + 1 + 1 + 1) (count + 1))
  unfolding in_state
  in_reads s t o n c rest at count opens is closes room =
      rw (node_here i (t ∷ o ∷ n ∷ c ∷ rest) at count room) (rw (next_here i t (o ∷ n ∷ c ∷ rest) at (count + 1))
      (rw (open_here i o (n ∷ c ∷ rest) (at + 1) (count + 1) depth opens) (rw (state_here i n (c ∷ rest) (at + 1 + 1) (count + 1) s is)
      (rw (expect_here i c rest (at + 1 + 1 + 1) (count + 1) pieces.CloseParen closes) refl))))

  pub state_reads : (test opens w closes : Lexeme) (s : StateId) → Is pieces.In test → Is pieces.OpenParen opens → IsNameOf i.names (declared_as_a.State s) w → Is pieces.CloseParen closes
      → ReadsAs i Anything (atom (suc depth) nested) (test ∷ opens ∷ w ∷ closes ∷ []) (e.In s)
  state_reads test opens w closes s is is_open is_name is_close = test_reads i depth nested test opens w closes is_open is_close (e.In s) refl (λ t o n c rest at count opening same closing room.
      rw is (in_reads s t o n c rest at count opening (subst (IsNameOf i.names (declared_as_a.State s)) (sym same) is_name) closing room))

  inside_reads : (make : ActId → Expr) (a : ActId) (o n c : Token) (rest : List Token) (at count : ℕ) → Is pieces.OpenParen (lexeme_of i.text o) → IsNameOf i.names (declared_as_a.Activity a) (lexeme_of i.text n)
      → Is pieces.CloseParen (lexeme_of i.text c)
      → (activity_inside (suc depth) >>= (λ b. pure (make b))) (here i (o ∷ n ∷ c ∷ rest) at count) ≡ Ok (make a, here i rest (at + 1 + 1 + 1) count)
  inside_reads make a o n c rest at count opens is closes =
      activity_inside_is (suc depth) (here i (o ∷ n ∷ c ∷ rest) at count) (λ b. pure (make b))
      ∙ rw (open_here i o (n ∷ c ∷ rest) at count depth opens) (rw (activity_here i n (c ∷ rest) (at + 1) count a is)
      (rw (expect_here i c rest (at + 1 + 1) count pieces.CloseParen closes) refl))

  counted_reads : (a : ActId) (t o n c : Token) (rest : List Token) (at count : ℕ) → Is pieces.OpenParen (lexeme_of i.text o) → IsNameOf i.names (declared_as_a.Activity a) (lexeme_of i.text n)
      → Is pieces.CloseParen (lexeme_of i.text c) → count < max_nodes
      → count_of (suc depth) (here i (t ∷ o ∷ n ∷ c ∷ rest) at count) ≡ Ok (e.Count a, here i rest (at + 1 + 1 + 1 + 1) (count + 1))
  unfolding count_of
  counted_reads a t o n c rest at count opens is closes room =
      rw (node_here i (t ∷ o ∷ n ∷ c ∷ rest) at count room) (rw (next_here i t (o ∷ n ∷ c ∷ rest) at (count + 1)) (inside_reads e.Count a o n c rest (at + 1) (count + 1) opens is closes))

  pub count_reads : (test opens w closes : Lexeme) (a : ActId) → Is pieces.Count test → Is pieces.OpenParen opens → IsNameOf i.names (declared_as_a.Activity a) w → Is pieces.CloseParen closes
      → ReadsAs i Anything (atom (suc depth) nested) (test ∷ opens ∷ w ∷ closes ∷ []) (e.Count a)
  count_reads test opens w closes a is is_open is_name is_close = test_reads i depth nested test opens w closes is_open is_close (e.Count a) refl (λ t o n c rest at count opening same closing room.
      rw is (counted_reads a t o n c rest at count opening (subst (IsNameOf i.names (declared_as_a.Activity a)) (sym same) is_name) closing room))

  completed_reads : (a : ActId) (t o n c : Token) (rest : List Token) (at count : ℕ) → Is pieces.OpenParen (lexeme_of i.text o) → IsNameOf i.names (declared_as_a.Activity a) (lexeme_of i.text n)
      → Is pieces.CloseParen (lexeme_of i.text c) → count < max_nodes
      → done_of (suc depth) (here i (t ∷ o ∷ n ∷ c ∷ rest) at count) ≡ Ok (e.Done a, here i rest (at + 1 + 1 + 1 + 1) (count + 1))
  unfolding done_of
  completed_reads a t o n c rest at count opens is closes room =
      rw (node_here i (t ∷ o ∷ n ∷ c ∷ rest) at count room) (rw (next_here i t (o ∷ n ∷ c ∷ rest) at (count + 1)) (inside_reads e.Done a o n c rest (at + 1) (count + 1) opens is closes))

  pub done_reads : (test opens w closes : Lexeme) (a : ActId) → Is pieces.Done test → Is pieces.OpenParen opens → IsNameOf i.names (declared_as_a.Activity a) w → Is pieces.CloseParen closes
      → ReadsAs i Anything (atom (suc depth) nested) (test ∷ opens ∷ w ∷ closes ∷ []) (e.Done a)
  done_reads test opens w closes a is is_open is_name is_close = test_reads i depth nested test opens w closes is_open is_close (e.Done a) refl (λ t o n c rest at count opening same closing room.
      rw is (completed_reads a t o n c rest at count opening (subst (IsNameOf i.names (declared_as_a.Activity a)) (sym same) is_name) closing room))
