-- What the rule of atoms reads is spelled.
use Rattle.std.proofs.Common.{◌≡◌, ℕ, zero, suc, ◌+◌, ◌<◌, Bool, true, false, List, [], ◌∷◌, Some, None, Ok, refl, sym, ◌∙◌, ap, ap₂, subst, arith}
use Rattle.wf_model.specs.Limits.{max_nodes}
use Rattle.wf_model.specs.declared.expr.Expr.{Expr}
use Rattle.wf_model.specs.declared.expr.Expr.TheVariants as e
use Rattle.wf_model.specs.Accepted.{nodes}
use Rattle.wf_lex.specs.declared.token.Token.{Token}
use Rattle.wf_cursor.specs.declared.names.Declared.{Declared}
use Rattle.wf_cursor.specs.declared.names.Declared.TheVariants as declared_as_a
use Rattle.wf_cursor.specs.declared.piece.Piece.{Piece}
use Rattle.wf_cursor.specs.declared.piece.Piece.TheVariants as pieces
use Rattle.wf_cursor.specs.Input as input
use Rattle.wf_cursor.specs.Input.{Input, Outcome, Parser, and_then, ◌>>=◌, ◌>>◌, pure, take, piece, next, node, expect}
use Rattle.wf_phrase.specs.Expressions.{open_paren, activity_inside, truth, number, characters, variable, in_state, count_of, done_of, atom, atom_by}
use Rattle.wf_grammar.specs.Lexemes.{Lexeme, lexeme_of}
use Rattle.wf_grammar.specs.Phrases as phrase
use Rattle.wf_grammar.specs.Phrases.{Names, Rank, Is, IsNameOf, Spells}
use Rattle.wf_grammar.proofs.Inputs.{here, piece_here, piece_none, next_here, then_assoc, pure_gives}
use Rattle.wf_grammar.proofs.ReadSteps.{node_then, variable_then, state_then, activity_then, int_then, text_then, TookInside, inside_then, activity_inside_is}
use Rattle.wf_grammar.proofs.Taking.{Phrase, Took, IsSound}

-- one token that makes a node
one : (i : Input) (P : Phrase) (t : Token) (rest : List Token) (at count : ℕ) (x y : Expr) (j : Input)
    → P (lexeme_of i.text t ∷ []) y → nodes y ≡ 1 → count < max_nodes → pure y (here i rest (at + 1) (count + 1)) ≡ Ok (x, j) → Took i P (t ∷ rest) at count x j
one i P t rest at count x y j spelled single room h =
    let gave = pure_gives y x (here i rest (at + 1) (count + 1)) j h in
    let size : nodes x ≡ 1 = ap nodes (sym gave.0) ∙ single in
    let total : count + 1 ≡ count + nodes x = omega arith in
    record {
      words = t ∷ [];
      rest = rest;
      whole = refl;
      spelled = subst (P (lexeme_of i.text t ∷ [])) gave.0 spelled;
      few = omega arith;
      end = sym gave.1 ∙ ap (here i rest (at + 1)) total;
    }

module _ (i : Input) (depth : ℕ) where
  -- an atom, with so many parentheses
  abbrev pub AtomPhrase : Phrase
  AtomPhrase = Spells i.names depth Rank.atom

  truth_in : (b : Bool) (t : Token) (rest : List Token) (at count : ℕ) (x : Expr) (j : Input)
      → AtomPhrase (lexeme_of i.text t ∷ []) (e.Bool b) → truth b (here i (t ∷ rest) at count) ≡ Ok (x, j) → Took i AtomPhrase (t ∷ rest) at count x j
  unfolding truth
  truth_in b t rest at count x j spelled h =
      let n = node_then i (t ∷ rest) at count (λ _. take >> pure (e.Bool b)) x j (rw then_assoc at h) in
      one i AtomPhrase t rest at count x (e.Bool b) j spelled refl n.0 (rw (next_here i t rest at (count + 1)) at n.1)

  number_in : (t : Token) (rest : List Token) (at count : ℕ) (x : Expr) (j : Input)
      → number (here i (t ∷ rest) at count) ≡ Ok (x, j) → Took i AtomPhrase (t ∷ rest) at count x j
  unfolding number
  number_in t rest at count x j h =
      let n = node_then i (t ∷ rest) at count (λ _. input.int >>= (λ m. pure (e.Int m))) x j h in
      let v = int_then i (t ∷ rest) at (count + 1) (λ m. pure (e.Int m)) x j n.1 in
      rw v.whole (one i AtomPhrase v.token v.rest at count x (e.Int v.value) j (phrase.atom_int (lexeme_of i.text v.token) v.value v.is v.is_read) refl n.0 v.goes_on)

  characters_in : (t : Token) (rest : List Token) (at count : ℕ) (x : Expr) (j : Input)
      → characters (here i (t ∷ rest) at count) ≡ Ok (x, j) → Took i AtomPhrase (t ∷ rest) at count x j
  unfolding characters
  characters_in t rest at count x j h =
      let n = node_then i (t ∷ rest) at count (λ _. input.text >>= (λ m. pure (e.Text m))) x j h in
      let v = text_then i (t ∷ rest) at (count + 1) (λ m. pure (e.Text m)) x j n.1 in
      rw v.whole (one i AtomPhrase v.token v.rest at count x (e.Text v.value) j (phrase.atom_text (lexeme_of i.text v.token) v.value v.is v.is_read) refl n.0 v.goes_on)

  variable_in : (t : Token) (rest : List Token) (at count : ℕ) (x : Expr) (j : Input)
      → variable (here i (t ∷ rest) at count) ≡ Ok (x, j) → Took i AtomPhrase (t ∷ rest) at count x j
  unfolding variable
  variable_in t rest at count x j h =
      let n = node_then i (t ∷ rest) at count (λ _. input.variable >>= (λ m. pure (e.Var m))) x j h in
      let v = variable_then i Expr (t ∷ rest) at (count + 1) (λ m. pure (e.Var m)) x j n.1 in
      rw v.whole (one i AtomPhrase v.token v.rest at count x (e.Var v.value) j (phrase.atom_var (lexeme_of i.text v.token) v.value v.is) refl n.0 v.goes_on)

-- a test: a word, and in parentheses a name of this kind
tested : {A : Type 0} (i : Input) (as_this : A → Declared) (make : A → Expr) (depth : ℕ) (t : Token) (rest : List Token) (at count : ℕ) (x : Expr) (j : Input)
    → ((d : ℕ) (opens w closes : Lexeme) (v : A) → Is pieces.OpenParen opens → IsNameOf i.names (as_this v) w → Is pieces.CloseParen closes
    → Spells i.names (suc d) Rank.atom (lexeme_of i.text t ∷ opens ∷ w ∷ closes ∷ []) (make v))
    → ((v : A) → nodes (make v) ≡ 1) → count < max_nodes
    → TookInside i as_this depth rest (at + 1) (count + 1) (λ v. pure (make v)) x j
    → Took i (Spells i.names depth Rank.atom) (t ∷ rest) at count x j
tested {A} i as_this make zero t rest at count x j spells single room s = absurd (let some = s.may_open in omega arith)
tested {A} i as_this make (suc d) t rest at count x j spells single room s =
    let gave = pure_gives (make s.value) x (here i s.rest (at + 1 + 1 + 1 + 1) (count + 1)) j s.goes_on in
    let size : nodes x ≡ 1 = ap nodes (sym gave.0) ∙ single s.value in
    let total : count + 1 ≡ count + nodes x = omega arith in
    let place : at + 1 + 1 + 1 + 1 ≡ at + 4 = omega arith in
    let phrase = spells d (lexeme_of i.text s.opens) (lexeme_of i.text s.token) (lexeme_of i.text s.closes) s.value s.is_open s.is s.is_close in
    record {
      words = t ∷ s.opens ∷ s.token ∷ s.closes ∷ [];
      rest = s.rest;
      whole = ap (λ ls. t ∷ ls) s.whole;
      spelled = subst (Spells i.names (suc d) Rank.atom (lexeme_of i.text t ∷ lexeme_of i.text s.opens ∷ lexeme_of i.text s.token ∷ lexeme_of i.text s.closes ∷ [])) gave.0 phrase;
      few = omega arith;
      end = sym gave.1 ∙ ap₂ (here i s.rest) place total;
    }

in_state_in : (i : Input) (depth : ℕ) (t : Token) (rest : List Token) (at count : ℕ) (x : Expr) (j : Input) → Is pieces.In (lexeme_of i.text t)
    → in_state depth (here i (t ∷ rest) at count) ≡ Ok (x, j) → Took i (Spells i.names depth Rank.atom) (t ∷ rest) at count x j
unfolding in_state
in_state_in i depth t rest at count x j is h =
    let n = node_then i (t ∷ rest) at count (λ _. take >> (open_paren depth >> (input.state >>= (λ s. expect pieces.CloseParen >> pure (e.In s))))) x j h in
    let s = inside_then i declared_as_a.State input.state (state_then i) depth rest (at + 1) (count + 1) (λ s. pure (e.In s)) x j (rw (next_here i t rest at (count + 1)) at n.1) in
    tested i declared_as_a.State e.In depth t rest at count x j (λ d opens w closes v a b c. phrase.atom_in (lexeme_of i.text t) opens w closes v is a b c) (λ v. refl) n.0 s

count_in : (i : Input) (depth : ℕ) (t : Token) (rest : List Token) (at count : ℕ) (x : Expr) (j : Input) → Is pieces.Count (lexeme_of i.text t)
    → count_of depth (here i (t ∷ rest) at count) ≡ Ok (x, j) → Took i (Spells i.names depth Rank.atom) (t ∷ rest) at count x j
unfolding count_of
count_in i depth t rest at count x j is h =
    let n = node_then i (t ∷ rest) at count (λ _. take >> (activity_inside depth >>= (λ a. pure (e.Count a)))) x j h in
    let h' : and_then (activity_inside depth (here i rest (at + 1) (count + 1))) (λ a. pure (e.Count a)) ≡ Ok (x, j) = rw (next_here i t rest at (count + 1)) at n.1 in
    let s = inside_then i declared_as_a.Activity input.activity (activity_then i) depth rest (at + 1) (count + 1) (λ a. pure (e.Count a)) x j (sym (activity_inside_is depth (here i rest (at + 1) (count + 1)) (λ a. pure (e.Count a))) ∙ h') in
    tested i declared_as_a.Activity e.Count depth t rest at count x j (λ d opens w closes v a b c. phrase.atom_count (lexeme_of i.text t) opens w closes v is a b c) (λ v. refl) n.0 s

done_in : (i : Input) (depth : ℕ) (t : Token) (rest : List Token) (at count : ℕ) (x : Expr) (j : Input) → Is pieces.Done (lexeme_of i.text t)
    → done_of depth (here i (t ∷ rest) at count) ≡ Ok (x, j) → Took i (Spells i.names depth Rank.atom) (t ∷ rest) at count x j
unfolding done_of
done_in i depth t rest at count x j is h =
    let n = node_then i (t ∷ rest) at count (λ _. take >> (activity_inside depth >>= (λ a. pure (e.Done a)))) x j h in
    let h' : and_then (activity_inside depth (here i rest (at + 1) (count + 1))) (λ a. pure (e.Done a)) ≡ Ok (x, j) = rw (next_here i t rest at (count + 1)) at n.1 in
    let s = inside_then i declared_as_a.Activity input.activity (activity_then i) depth rest (at + 1) (count + 1) (λ a. pure (e.Done a)) x j (sym (activity_inside_is depth (here i rest (at + 1) (count + 1)) (λ a. pure (e.Done a))) ∙ h') in
    tested i declared_as_a.Activity e.Done depth t rest at count x j (λ d opens w closes v a b c. phrase.atom_done (lexeme_of i.text t) opens w closes v is a b c) (λ v. refl) n.0 s

-- the reader of parentheses reads what is spelled, from an opening one on
abbrev pub NestedIsSound : Input → ℕ → Parser Expr → Type 0
NestedIsSound i depth nested =
    (t : Token) (rest : List Token) (at count : ℕ) (x : Expr) (j : Input) → Is pieces.OpenParen (lexeme_of i.text t)
    → nested (here i (t ∷ rest) at count) ≡ Ok (x, j) → Took i (Spells i.names depth Rank.atom) (t ∷ rest) at count x j

by_piece : (i : Input) (depth : ℕ) (nested : Parser Expr) → NestedIsSound i depth nested → (p : Piece) (t : Token) (rest : List Token) (at count : ℕ) (x : Expr) (j : Input)
    → Is p (lexeme_of i.text t) → atom_by depth nested (Some p) (here i (t ∷ rest) at count) ≡ Ok (x, j) → Took i (Spells i.names depth Rank.atom) (t ∷ rest) at count x j
by_piece i depth nested sound pieces.True t rest at count x j is h = truth_in i depth true t rest at count x j (phrase.atom_true (lexeme_of i.text t) is) h
by_piece i depth nested sound pieces.False t rest at count x j is h = truth_in i depth false t rest at count x j (phrase.atom_false (lexeme_of i.text t) is) h
by_piece i depth nested sound pieces.Int t rest at count x j is h = number_in i depth t rest at count x j h
by_piece i depth nested sound pieces.Text t rest at count x j is h = characters_in i depth t rest at count x j h
by_piece i depth nested sound pieces.Name t rest at count x j is h = variable_in i depth t rest at count x j h
by_piece i depth nested sound pieces.In t rest at count x j is h = in_state_in i depth t rest at count x j is h
by_piece i depth nested sound pieces.Count t rest at count x j is h = count_in i depth t rest at count x j is h
by_piece i depth nested sound pieces.Done t rest at count x j is h = done_in i depth t rest at count x j is h
by_piece i depth nested sound pieces.OpenParen t rest at count x j is h = sound t rest at count x j is h
by_piece i depth nested sound _ t rest at count x j is h = cc

pub atom_sound : (i : Input) (depth : ℕ) (nested : Parser Expr) → NestedIsSound i depth nested → IsSound i (Spells i.names depth Rank.atom) (atom depth nested)
unfolding atom
atom_sound i depth nested sound [] at count x j h =
    let h' : atom_by depth nested None (here i [] at count) ≡ Ok (x, j) = rw (piece_none i at count) at h in
    let no : ⊥ = cc in absurd no
atom_sound i depth nested sound (t ∷ rest) at count x j h =
    by_piece i depth nested sound (lexeme_of i.text t).piece t rest at count x j refl (rw (piece_here i t rest at count) at h)
