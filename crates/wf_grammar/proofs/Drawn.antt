-- States that are read are in the grammar.
use Rattle.std.proofs.Common.{◌≡◌, ℕ, zero, suc, ◌+◌, inl, inr, List, [], ◌∷◌, ◌++◌, length, map, Option, Some, None, Ok, refl, sym, ◌∙◌, ap, subst, append_assoc}
use Rattle.wf_model.specs.Limits.{max_open}
use Rattle.wf_model.specs.declared.ids.StateId.{StateId}
use Rattle.wf_model.specs.declared.chart.Kind.{Kind}
use Rattle.wf_model.specs.declared.chart.Kind.TheVariants as kinds
use Rattle.wf_lex.specs.declared.token.Token.{Token}
use Rattle.wf_cursor.specs.declared.names.Declared.TheVariants as declared_as_a
use Rattle.wf_cursor.specs.declared.piece.Piece.{Piece}
use Rattle.wf_cursor.specs.declared.piece.Piece.TheVariants as pieces
use Rattle.wf_cursor.specs.Input as input
use Rattle.wf_cursor.specs.Input.{Input, Parser, and_then, ◌>>=◌, ◌>>◌, pure, piece, with_state}
use Rattle.wf_text.specs.States as reader
use Rattle.wf_text.specs.States.{kind, kind_by, kind_of, children_from, children, body_by, state_with, block, root, root_by}
use Rattle.wf_grammar.specs.Lexemes.{Lexeme, lexeme_of}
use Rattle.wf_grammar.specs.Phrases.{Is}
use Rattle.wf_grammar.specs.Scopes as scope
use Rattle.wf_grammar.specs.Scopes.{Scope, scope_of}
use Rattle.wf_grammar.specs.Drawing as phrase
use Rattle.wf_grammar.specs.Drawing.{word_of_kind, Heads, Part, Draws, Root}
use Rattle.wf_grammar.proofs.Rules.{RootReadIsSpelled}
use Rattle.wf_grammar.proofs.Inputs.{here, piece_here, piece_none, next_here, steps_of, pure_gives}
use Rattle.wf_grammar.proofs.ReadSteps.{expect_then}
use Rattle.wf_grammar.proofs.Places.{within, eat_then, unit_then, new_name_then, both_parts, Changed, Changes, ends_changed, change_then}

-- the word of a kind was taken
record TookKind {B : Type 0} (i : Input) (left : List Token) (at count : ℕ) (f : Kind → Parser B) (y : B) (j : Input) : Type 0 where
  value : Kind
  token : Token
  rest : List Token
  whole : left ≡ token ∷ rest
  is : Is (word_of_kind value) (lexeme_of i.text token)
  goes_on : f value (here i rest (at + 1) count) ≡ Ok (y, j)

kind_then : {B : Type 0} (i : Input) (left : List Token) (at count : ℕ) (f : Kind → Parser B) (y : B) (j : Input)
    → and_then (kind (here i left at count)) f ≡ Ok (y, j) → TookKind i left at count f y j
unfolding kind
kind_then i [] at count f y j h =
    let h' : and_then (kind_by (kind_of None) (here i [] at count)) f ≡ Ok (y, j) = rw (piece_none i at count) at h in
    let no : ⊥ = cc in absurd no
kind_then i (t ∷ rest) at count f y j h = by_piece (lexeme_of i.text t).piece refl (rw (piece_here i t rest at count) at h)
  where
    by_piece : (p : Piece) → Is p (lexeme_of i.text t) → and_then (kind_by (kind_of (Some p)) (here i (t ∷ rest) at count)) f ≡ Ok (y, j)
        → TookKind i (t ∷ rest) at count f y j
    by_piece pieces.Basic is h' = record { value = kinds.Basic; token = t; rest = rest; whole = refl; is = is; goes_on = rw (next_here i t rest at count) at h' }
    by_piece pieces.Or is h' = record { value = kinds.Or; token = t; rest = rest; whole = refl; is = is; goes_on = rw (next_here i t rest at count) at h' }
    by_piece pieces.And is h' = record { value = kinds.And; token = t; rest = rest; whole = refl; is = is; goes_on = rw (next_here i t rest at count) at h' }
    by_piece _ is h' = cc

-- the head of a state was read
record Headed (text : List ℕ) (parent : Option StateId) (s : Scope) (left : List Token) (id : StateId) (j : Input) : Type 0 where
  head : Changed text (Heads parent s) left j
  number : id ≡ scope.next_state s

head_ends : (text : List ℕ) (parent : Option StateId) (s after : Scope) (words : List Lexeme) (left rest : List Token) (at count : ℕ) (id : StateId) (j : Input)
    → map (lexeme_of text) left ≡ words ++ map (lexeme_of text) rest → Heads parent s words after
    → pure (scope.next_state s) (here (within text after) rest at count) ≡ Ok (id, j) → Headed text parent s left id j
head_ends text parent s after words left rest at count id j whole taken h =
    let g = pure_gives (scope.next_state s) id (here (within text after) rest at count) j h in
    record { head = record { after = after; words = words; rest = rest; at = at; count = count; whole = whole; taken = taken; end = sym g.1 }; number = sym g.0 }

head_reads : (text : List ℕ) (parent : Option StateId) (s : Scope) (left : List Token) (at count : ℕ) (id : StateId) (j : Input)
    → reader.head parent (here (within text s) left at count) ≡ Ok (id, j) → Headed text parent s left id j
unfolding reader.head input.next_state with_state
head_reads text parent s left at count id j h =
    let i = within text s in
    let k = kind_then i left at count _ id j h in
    let n = new_name_then text s (declared_as_a.State (scope.next_state s)) k.rest (at + 1) count _ id j k.goes_on in
    let name = lexeme_of text n.token in
    let between = scope.state_named name s in
    let i' = within text between in
    let a = expect_then i' pieces.At n.rest (at + 1 + 1) count _ id j n.goes_on in
    let u = unit_then i' StateId a.rest (at + 1 + 1 + 1) count _ id j a.goes_on in
    rw k.whole (rw n.whole (rw a.whole (rw u.whole (head_ends text parent s (scope.with_state (record { name = name.bytes; kind = k.value; parent = parent; unit = u.value }) between)
    (lexeme_of text k.token ∷ name ∷ lexeme_of text a.token ∷ lexeme_of text u.token ∷ []) (k.token ∷ n.token ∷ a.token ∷ u.token ∷ u.rest) u.rest (at + 1 + 1 + 1 + 1) count id j refl
    (phrase.heads (lexeme_of text k.token) name (lexeme_of text a.token) (lexeme_of text u.token) k.value u.value k.is n.is a.is u.is) u.goes_on))))

-- ---- states in braces

module _ (text : List ℕ) (depth : ℕ) (parent : Option StateId) where
  -- states, and the brace that closes them
  record Closes (s : Scope) (ws : List Lexeme) (s' : Scope) : Type 0 where
    inside : List Lexeme
    closes : Lexeme
    whole : ws ≡ inside ++ closes ∷ []
    is_close : Is pieces.CloseBrace closes
    drawn : Draws depth Part.states parent s inside s'

  children_from_read : (child : Parser (Unit {0})) → ((s : Scope) → Changes text s (Draws depth Part.state parent s) child)
      → (turns : ℕ) (s : Scope) → Changes text s (Closes s) (children_from child turns)
  unfolding children_from
  children_from_read child reads zero s left at count j h = cc
  children_from_read child reads (suc turns) s left at count j h =
      elim (eat_then (within text s) pieces.CloseBrace left at count _ tt j h) [
        | inl e ↦ rw e.whole (ends_changed text (Closes s) s (lexeme_of text e.token ∷ []) (e.token ∷ e.rest) e.rest (at + 1) count j refl
            (record { inside = []; closes = lexeme_of text e.token; whole = refl; is_close = e.is; drawn = phrase.no_state }) e.goes_on)
        | inr h' ↦ (
            let c = change_then text s (Draws depth Part.state parent s) child (reads s) left at count _ tt j h' in
            let r = children_from_read child reads turns c.after c.rest c.at c.count j c.goes_on in
            record {
              after = r.after;
              words = c.words ++ r.words;
              rest = r.rest;
              at = r.at;
              count = r.count;
              whole = both_parts c.words r.words (map (lexeme_of text) r.rest) c.whole r.whole;
              taken = record {
                inside = c.words ++ r.taken.inside;
                closes = r.taken.closes;
                whole = ap (λ ls. c.words ++ ls) r.taken.whole ∙ sym (append_assoc c.words r.taken.inside (r.taken.closes ∷ []));
                is_close = r.taken.is_close;
                drawn = phrase.more_states c.taken r.taken.drawn;
              };
              end = r.end;
            })
      ]

-- ---- states

-- what the rule of braces reads, from the opening one on
abbrev OpenedReads : List ℕ → ℕ → Type 0
OpenedReads text depth =
    (id : StateId) (s : Scope) (t : Token) (rest : List Token) (at count : ℕ) (j : Input) → Is pieces.OpenBrace (lexeme_of text t)
    → block depth id (here (within text s) (t ∷ rest) at count) ≡ Ok (tt, j) → Changed text (Draws depth Part.body (Some id) s) (t ∷ rest) j

body_reads : (text : List ℕ) (depth : ℕ) → OpenedReads text depth → (id : StateId) (s : Scope) (left : List Token) (at count : ℕ) (j : Input)
    → body_by (block depth id) (piece (here (within text s) left at count)) (here (within text s) left at count) ≡ Ok (tt, j)
    → Changed text (Draws depth Part.body (Some id) s) left j
body_reads text depth reads id s [] at count j h =
    let h' : body_by (block depth id) None (here (within text s) [] at count) ≡ Ok (tt, j) = rw (piece_none (within text s) at count) at h in
    let no : ⊥ = cc in absurd no
body_reads text depth reads id s (t ∷ rest) at count j h = by_piece (lexeme_of text t).piece refl (rw (piece_here (within text s) t rest at count) at h)
  where
    by_piece : (p : Piece) → Is p (lexeme_of text t) → body_by (block depth id) (Some p) (here (within text s) (t ∷ rest) at count) ≡ Ok (tt, j)
        → Changed text (Draws depth Part.body (Some id) s) (t ∷ rest) j
    by_piece pieces.Semicolon is h' = ends_changed text (Draws depth Part.body (Some id) s) s (lexeme_of text t ∷ []) (t ∷ rest) rest (at + 1) count j refl
        (phrase.body_ends (lexeme_of text t) is) (rw (next_here (within text s) t rest at count) at h')
    by_piece pieces.OpenBrace is h' = reads id s t rest at count j is h'
    by_piece _ is h' = cc

state_reads : (text : List ℕ) (depth : ℕ) → OpenedReads text depth → (parent : Option StateId) (s : Scope)
    → Changes text s (Draws depth Part.state parent s) (state_with (block depth) parent)
unfolding state_with
state_reads text depth reads parent s left at count j h =
    let q = steps_of (reader.head parent (here (within text s) left at count)) _ tt j h in
    let r = head_reads text parent s left at count q.value q.between q.first in
    let a = r.head in
    let went = subst (λ (k : Input). body_by (block depth q.value) (piece k) k ≡ Ok (tt, j)) a.end q.second in
    let b = body_reads text depth reads q.value a.after a.rest a.at a.count j went in
    record {
      after = b.after;
      words = a.words ++ b.words;
      rest = b.rest;
      at = b.at;
      count = b.count;
      whole = both_parts a.words b.words (map (lexeme_of text) b.rest) a.whole b.whole;
      taken = phrase.draws_state a.taken (subst (λ (id : StateId). Draws depth Part.body (Some id) a.after b.words b.after) r.number b.taken);
      end = b.end;
    }

block_reads : (text : List ℕ) (depth : ℕ) → OpenedReads text depth
unfolding block children
block_reads text zero id s t rest at count j is h = cc
block_reads text (suc depth) id s t rest at count j is h =
    let child = state_with (block depth) (Some id) in
    let h' : children child (here (within text s) rest (at + 1) count) ≡ Ok (tt, j) = rw (next_here (within text s) t rest at count) at h in
    let r = children_from_read text depth (Some id) child (state_reads text depth (block_reads text depth) (Some id)) (length rest) s rest (at + 1) count j h' in
    let c = r.taken in
    record {
      after = r.after;
      words = lexeme_of text t ∷ (c.inside ++ c.closes ∷ []);
      rest = r.rest;
      at = r.at;
      count = r.count;
      whole = ap (λ ls. lexeme_of text t ∷ ls) (r.whole ∙ ap (λ ls. ls ++ map (lexeme_of text) r.rest) c.whole);
      taken = phrase.body_opens (lexeme_of text t) c.closes is c.drawn c.is_close;
      end = r.end;
    }

pub root_reads : (text : List ℕ) (s : Scope) → Changes text s (Root s) root
unfolding root
root_reads text s left at count j h = by_kind (kind_of (piece (here (within text s) left at count))) h
  where
    by_kind : (k : Option Kind) → root_by k (here (within text s) left at count) ≡ Ok (tt, j) → Changed text (Root s) left j
    by_kind None h' = ends_changed text (Root s) s [] left left at count j refl phrase.no_root h'
    by_kind (Some k) h' =
        let r = state_reads text max_open (block_reads text max_open) None s left at count j h' in
        record { after = r.after; words = r.words; rest = r.rest; at = r.at; count = r.count; whole = r.whole; taken = phrase.root r.taken; end = r.end }

pub root_read : RootReadIsSpelled
root_read i j h =
    let r = root_reads i.text (scope_of i) i.left i.at i.nodes j h in
    rw r.end (r.words, r.taken, r.whole, refl)
