-- Declarations that are read are in the grammar.
use Rattle.std.proofs.Common.{◌≡◌, ℕ, zero, suc, ◌+◌, ◌⊎◌, inl, inr, Bool, true, false, List, [], ◌∷◌, ◌++◌, length, map, Option, Some, None, Ok, pos, neg_ℤ, refl, sym, ◌∙◌, ap, subst, append_assoc, append-nil}
use Rattle.wf_model.specs.declared.ids.UnitId.{UnitId}
use Rattle.wf_model.specs.declared.ids.VarId.{VarId}
use Rattle.wf_model.specs.declared.value.Sort.{Sort}
use Rattle.wf_model.specs.declared.value.Sort.TheVariants as sorts
use Rattle.wf_model.specs.declared.value.Val.{Val}
use Rattle.wf_model.specs.declared.value.Val.TheVariants as v
use Rattle.wf_lex.specs.declared.token.Token.{Token}
use Rattle.wf_cursor.specs.declared.names.Declared.TheVariants as declared_as_a
use Rattle.wf_cursor.specs.declared.piece.Piece.{Piece}
use Rattle.wf_cursor.specs.declared.piece.Piece.TheVariants as pieces
use Rattle.wf_cursor.specs.Input as input
use Rattle.wf_cursor.specs.Input.{Input, Parser, and_then, ◌>>=◌, ◌>>◌, pure, piece, expect, new_name, with_unit, with_event, with_var, with_act}
use Rattle.wf_phrase.specs.Literals.{sort, sort_by, sort_named, literal, literal_by, number, negative_number, characters}
use Rattle.wf_text.specs.Declarations as reader
use Rattle.wf_text.specs.Declarations.{outputs_from, outputs, outputs_if_any, declaration, declaration_by, declarations_from, declarations}
use Rattle.wf_grammar.specs.Lexemes.{Lexeme, lexeme_of}
use Rattle.wf_grammar.specs.Phrases.{Names, Is, IsNameOf}
use Rattle.wf_grammar.specs.Scopes as scope
use Rattle.wf_grammar.specs.Scopes.{Scope, scope_of}
use Rattle.wf_grammar.specs.Declaring as phrase
use Rattle.wf_grammar.specs.Declaring.{word_of_sort, Literal, AtUnit, Vars, Outputs, Declares, Declarations}
use Rattle.wf_grammar.proofs.Rules.{DeclarationsReadAreSpelled}
use Rattle.wf_grammar.proofs.Inputs.{here, piece_here, piece_none, next_here, then_assoc}
use Rattle.wf_grammar.proofs.ReadSteps.{expect_then, variable_then, int_then, text_then}
use Rattle.wf_grammar.proofs.Places.{within, Meaning, Read, ReadsOnly, ends_read, read_then, eat_then, unit_then, negated_int_then, new_name_then, both_parts, ended, Changes, ends_changed, BehindChange, change_then}

-- ---- sorts and literals

-- the word of a sort was taken
record TookSort {B : Type 0} (i : Input) (left : List Token) (at count : ℕ) (f : Sort → Parser B) (y : B) (j : Input) : Type 0 where
  kind : Sort
  token : Token
  rest : List Token
  whole : left ≡ token ∷ rest
  is : Is (word_of_sort kind) (lexeme_of i.text token)
  goes_on : f kind (here i rest (at + 1) count) ≡ Ok (y, j)

sort_then : {B : Type 0} (i : Input) (left : List Token) (at count : ℕ) (f : Sort → Parser B) (y : B) (j : Input)
    → and_then (sort (here i left at count)) f ≡ Ok (y, j) → TookSort i left at count f y j
unfolding sort
sort_then i [] at count f y j h =
    let h' : and_then (sort_by (sort_named None) (here i [] at count)) f ≡ Ok (y, j) = rw (piece_none i at count) at h in
    let no : ⊥ = cc in absurd no
sort_then i (t ∷ rest) at count f y j h = by_piece (lexeme_of i.text t).piece refl (rw (piece_here i t rest at count) at h)
  where
    by_piece : (p : Piece) → Is p (lexeme_of i.text t) → and_then (sort_by (sort_named (Some p)) (here i (t ∷ rest) at count)) f ≡ Ok (y, j)
        → TookSort i (t ∷ rest) at count f y j
    by_piece pieces.BoolSort is h' = record { kind = sorts.Bool; token = t; rest = rest; whole = refl; is = is; goes_on = rw (next_here i t rest at count) at h' }
    by_piece pieces.IntSort is h' = record { kind = sorts.Int; token = t; rest = rest; whole = refl; is = is; goes_on = rw (next_here i t rest at count) at h' }
    by_piece pieces.TextSort is h' = record { kind = sorts.Text; token = t; rest = rest; whole = refl; is = is; goes_on = rw (next_here i t rest at count) at h' }
    by_piece _ is h' = cc

module _ (i : Input) (left : List Token) (at count : ℕ) (x : Val) (j : Input) where
  number_reads : number (here i left at count) ≡ Ok (x, j) → Read i Literal left x j
  unfolding number
  number_reads h =
      let n = int_then i left at count _ x j h in
      rw n.whole (ends_read i Literal (lexeme_of i.text n.token ∷ []) (n.token ∷ n.rest) n.rest (at + 1) count (v.Int (pos n.value)) x j refl (phrase.literal_int (lexeme_of i.text n.token) n.value n.is n.is_read) n.goes_on)

  characters_reads : characters (here i left at count) ≡ Ok (x, j) → Read i Literal left x j
  unfolding characters
  characters_reads h =
      let n = text_then i left at count _ x j h in
      rw n.whole (ends_read i Literal (lexeme_of i.text n.token ∷ []) (n.token ∷ n.rest) n.rest (at + 1) count (v.Text n.value) x j refl (phrase.literal_text (lexeme_of i.text n.token) n.value n.is n.is_read) n.goes_on)

  negative_number_reads : (t : Token) → Is pieces.Minus (lexeme_of i.text t) → negative_number (here i (t ∷ left) at count) ≡ Ok (x, j) → Read i Literal (t ∷ left) x j
  unfolding negative_number
  negative_number_reads t minus h =
      let h' : and_then (input.negated_int (here i left (at + 1) count)) (λ n. pure (v.Int (neg_ℤ (pos n)))) ≡ Ok (x, j) = rw (next_here i t left at count) at h in
      let n = negated_int_then i left (at + 1) count _ x j h' in
      rw n.whole (ends_read i Literal (lexeme_of i.text t ∷ lexeme_of i.text n.token ∷ []) (t ∷ n.token ∷ n.rest) n.rest (at + 1 + 1) count (v.Int (neg_ℤ (pos n.value))) x j refl
      (phrase.literal_minus (lexeme_of i.text t) (lexeme_of i.text n.token) n.value minus n.is n.is_read) n.goes_on)

literal_reads : (i : Input) → ReadsOnly i Literal literal
unfolding literal
literal_reads i [] at count x j h =
    let h' : literal_by None (here i [] at count) ≡ Ok (x, j) = rw (piece_none i at count) at h in
    let no : ⊥ = cc in absurd no
literal_reads i (t ∷ rest) at count x j h = by_piece (lexeme_of i.text t).piece refl (rw (piece_here i t rest at count) at h)
  where
    by_piece : (p : Piece) → Is p (lexeme_of i.text t) → literal_by (Some p) (here i (t ∷ rest) at count) ≡ Ok (x, j) → Read i Literal (t ∷ rest) x j
    by_piece pieces.True is h' = ends_read i Literal (lexeme_of i.text t ∷ []) (t ∷ rest) rest (at + 1) count (v.Bool true) x j refl (phrase.literal_true (lexeme_of i.text t) is) (rw (next_here i t rest at count) at h')
    by_piece pieces.False is h' = ends_read i Literal (lexeme_of i.text t ∷ []) (t ∷ rest) rest (at + 1) count (v.Bool false) x j refl (phrase.literal_false (lexeme_of i.text t) is) (rw (next_here i t rest at count) at h')
    by_piece pieces.Int is h' = number_reads i (t ∷ rest) at count x j h'
    by_piece pieces.Minus is h' = negative_number_reads i rest at count x j t is h'
    by_piece pieces.Text is h' = characters_reads i (t ∷ rest) at count x j h'
    by_piece _ is h' = cc

-- ---- units and variables that are named

at_unit_reads : (i : Input) → ReadsOnly i (AtUnit i.names) reader.unit_if_any
unfolding reader.unit_if_any
at_unit_reads i left at count x j h =
    elim (eat_then i pieces.At left at count _ x j h) [
      | inl e ↦ (
          let n = unit_then i (Option UnitId) e.rest (at + 1) count _ x j e.goes_on in
          rw e.whole (rw n.whole (ends_read i (AtUnit i.names) (lexeme_of i.text e.token ∷ lexeme_of i.text n.token ∷ []) (e.token ∷ n.token ∷ n.rest) n.rest (at + 1 + 1) count (Some n.value) x j refl
          (phrase.at_unit (lexeme_of i.text e.token) (lexeme_of i.text n.token) n.value e.is n.is) n.goes_on)))
      | inr h' ↦ ends_read i (AtUnit i.names) [] left left at count None x j refl phrase.nowhere h'
    ]

-- behind a variable, and with those that were found before it
abbrev OutputsOn : Names → List VarId → Lexeme → VarId → Meaning (List VarId)
OutputsOn names found n x ws xs = (ys : List VarId) × (xs ≡ found ++ ys) × Vars names (n ∷ ws) (x ∷ ys)

outputs_go_on : (i : Input) (turns : ℕ) (found : List VarId) (n : Lexeme) (x : VarId) → IsNameOf i.names (declared_as_a.Var x) n
    → ReadsOnly i (OutputsOn i.names found n x) (outputs_from turns found)
unfolding outputs_from
outputs_go_on i zero found n x is left at count xs j h =
    ends_read i (OutputsOn i.names found n x) [] left left at count found xs j refl ([], sym (append-nil found), phrase.one_var n x is) h
outputs_go_on i (suc turns) found n x is left at count xs j h =
    elim (eat_then i pieces.Comma left at count _ xs j h) [
      | inl e ↦ (
          let m = variable_then i (List VarId) e.rest (at + 1) count _ xs j e.goes_on in
          let r = outputs_go_on i turns (found ++ m.value ∷ []) (lexeme_of i.text m.token) m.value m.is m.rest (at + 1 + 1) count xs j m.goes_on in
          rw e.whole (rw m.whole (record {
            words = lexeme_of i.text e.token ∷ lexeme_of i.text m.token ∷ r.words;
            rest = r.rest;
            at = r.at;
            count = r.count;
            whole = ap (λ ls. lexeme_of i.text e.token ∷ lexeme_of i.text m.token ∷ ls) r.whole;
            taken = (m.value ∷ r.taken.0, r.taken.1 ∙ append_assoc found (m.value ∷ []) r.taken.0, phrase.more_vars n (lexeme_of i.text e.token) x is e.is r.taken.2);
            end = r.end;
          })))
      | inr h' ↦ ends_read i (OutputsOn i.names found n x) [] left left at count found xs j refl ([], sym (append-nil found), phrase.one_var n x is) h'
    ]

outputs_read : (i : Input) → ReadsOnly i (Vars i.names) outputs
unfolding outputs
outputs_read i left at count xs j h =
    let n = variable_then i (List VarId) left at count _ xs j h in
    let r = outputs_go_on i (length n.rest) (n.value ∷ []) (lexeme_of i.text n.token) n.value n.is n.rest (at + 1) count xs j n.goes_on in
    rw n.whole (record {
      words = lexeme_of i.text n.token ∷ r.words;
      rest = r.rest;
      at = r.at;
      count = r.count;
      whole = ap (λ ls. lexeme_of i.text n.token ∷ ls) r.whole;
      taken = subst (Vars i.names (lexeme_of i.text n.token ∷ r.words)) (sym r.taken.1) r.taken.2;
      end = r.end;
    })

outputs_if_any_reads : (i : Input) → ReadsOnly i (Outputs i.names) outputs_if_any
unfolding outputs_if_any
outputs_if_any_reads i left at count xs j h =
    elim (eat_then i pieces.Gives left at count _ xs j h) [
      | inl e ↦ (
          let r = outputs_read i e.rest (at + 1) count xs j e.goes_on in
          rw e.whole (record {
            words = lexeme_of i.text e.token ∷ r.words;
            rest = r.rest;
            at = r.at;
            count = r.count;
            whole = ap (λ ls. lexeme_of i.text e.token ∷ ls) r.whole;
            taken = phrase.gives_vars (lexeme_of i.text e.token) e.is r.taken;
            end = r.end;
          }))
      | inr h' ↦ ends_read i (Outputs i.names) [] left left at count [] xs j refl phrase.gives_nothing h'
    ]

-- ---- declarations

unit_reads : (text : List ℕ) (s : Scope) → Changes text s (Declares s) reader.unit
unfolding reader.unit input.next_unit with_unit
unit_reads text s left at count j h =
    let i = within text s in
    let e = expect_then i pieces.Unit left at count _ tt j h in
    let n = new_name_then text s (declared_as_a.Unit (scope.next_unit s)) e.rest (at + 1) count _ tt j e.goes_on in
    let name = lexeme_of text n.token in
    let between = scope.unit_named name s in
    let c = expect_then (within text between) pieces.Semicolon n.rest (at + 1 + 1) count _ tt j n.goes_on in
    rw e.whole (rw n.whole (rw c.whole (ends_changed text (Declares s) (scope.with_unit name.bytes between) (lexeme_of text e.token ∷ name ∷ lexeme_of text c.token ∷ []) (e.token ∷ n.token ∷ c.token ∷ c.rest) c.rest (at + 1 + 1 + 1) count j refl
    (phrase.declares_unit (lexeme_of text e.token) name (lexeme_of text c.token) e.is n.is c.is) c.goes_on)))

event_reads : (text : List ℕ) (s : Scope) → Changes text s (Declares s) reader.event
unfolding reader.event input.next_event with_event
event_reads text s left at count j h =
    let i = within text s in
    let e = expect_then i pieces.Event left at count _ tt j h in
    let n = new_name_then text s (declared_as_a.Event (scope.next_event s)) e.rest (at + 1) count _ tt j e.goes_on in
    let name = lexeme_of text n.token in
    let between = scope.event_named name s in
    let i' = within text between in
    let u = read_then i' (AtUnit between.names) reader.unit_if_any (at_unit_reads i') n.rest (at + 1 + 1) count _ tt j n.goes_on in
    let c = expect_then i' pieces.Semicolon u.rest u.at u.count _ tt j u.goes_on in
    rw e.whole (rw n.whole (ends_changed text (Declares s) (scope.with_event (record { name = name.bytes; unit = u.value }) between)
    (lexeme_of text e.token ∷ name ∷ (u.words ++ lexeme_of text c.token ∷ [])) (e.token ∷ n.token ∷ n.rest) c.rest (u.at + 1) u.count j
    (ap (λ ls. lexeme_of text e.token ∷ name ∷ ls) (ended text u.words n.rest u.rest c.token c.rest u.whole c.whole))
    (phrase.declares_event (lexeme_of text e.token) name (lexeme_of text c.token) u.value e.is n.is u.taken c.is) c.goes_on))

variable_reads : (text : List ℕ) (s : Scope) → Changes text s (Declares s) reader.variable
unfolding reader.variable input.next_var with_var
variable_reads text s left at count j h =
    let i = within text s in
    let e = expect_then i pieces.Var left at count _ tt j h in
    let n = new_name_then text s (declared_as_a.Var (scope.next_var s)) e.rest (at + 1) count _ tt j e.goes_on in
    let name = lexeme_of text n.token in
    let between = scope.var_named name s in
    let i' = within text between in
    let o = expect_then i' pieces.Colon n.rest (at + 1 + 1) count _ tt j n.goes_on in
    let k = sort_then i' o.rest (at + 1 + 1 + 1) count _ tt j o.goes_on in
    let q = expect_then i' pieces.Equal k.rest (at + 1 + 1 + 1 + 1) count _ tt j k.goes_on in
    let l = read_then i' Literal literal (literal_reads i') q.rest (at + 1 + 1 + 1 + 1 + 1) count _ tt j q.goes_on in
    let c = expect_then i' pieces.Semicolon l.rest l.at l.count _ tt j l.goes_on in
    rw e.whole (rw n.whole (rw o.whole (rw k.whole (rw q.whole (ends_changed text (Declares s) (scope.with_var (record { name = name.bytes; sort = k.kind; first = l.value }) between)
    (lexeme_of text e.token ∷ name ∷ lexeme_of text o.token ∷ lexeme_of text k.token ∷ lexeme_of text q.token ∷ (l.words ++ lexeme_of text c.token ∷ []))
    (e.token ∷ n.token ∷ o.token ∷ k.token ∷ q.token ∷ q.rest) c.rest (l.at + 1) l.count j
    (ap (λ ls. lexeme_of text e.token ∷ name ∷ lexeme_of text o.token ∷ lexeme_of text k.token ∷ lexeme_of text q.token ∷ ls) (ended text l.words q.rest l.rest c.token c.rest l.whole c.whole))
    (phrase.declares_var (lexeme_of text e.token) name (lexeme_of text o.token) (lexeme_of text k.token) (lexeme_of text q.token) (lexeme_of text c.token) k.kind l.value
    e.is n.is o.is k.is q.is l.taken c.is) c.goes_on)))))

activity_reads : (text : List ℕ) (s : Scope) → Changes text s (Declares s) reader.activity
unfolding reader.activity input.next_act with_act
activity_reads text s left at count j h =
    let i = within text s in
    let e = expect_then i pieces.Activity left at count _ tt j h in
    let n = new_name_then text s (declared_as_a.Activity (scope.next_act s)) e.rest (at + 1) count _ tt j e.goes_on in
    let name = lexeme_of text n.token in
    let between = scope.act_named name s in
    let i' = within text between in
    let a = expect_then i' pieces.At n.rest (at + 1 + 1) count _ tt j n.goes_on in
    let u = unit_then i' (Unit {0}) a.rest (at + 1 + 1 + 1) count _ tt j a.goes_on in
    let g = read_then i' (Outputs between.names) outputs_if_any (outputs_if_any_reads i') u.rest (at + 1 + 1 + 1 + 1) count _ tt j u.goes_on in
    let c = expect_then i' pieces.Semicolon g.rest g.at g.count _ tt j g.goes_on in
    rw e.whole (rw n.whole (rw a.whole (rw u.whole (ends_changed text (Declares s) (scope.with_act (record { name = name.bytes; unit = u.value; outputs = g.value }) between)
    (lexeme_of text e.token ∷ name ∷ lexeme_of text a.token ∷ lexeme_of text u.token ∷ (g.words ++ lexeme_of text c.token ∷ []))
    (e.token ∷ n.token ∷ a.token ∷ u.token ∷ u.rest) c.rest (g.at + 1) g.count j
    (ap (λ ls. lexeme_of text e.token ∷ name ∷ lexeme_of text a.token ∷ lexeme_of text u.token ∷ ls) (ended text g.words u.rest g.rest c.token c.rest g.whole c.whole))
    (phrase.declares_act (lexeme_of text e.token) name (lexeme_of text a.token) (lexeme_of text u.token) (lexeme_of text c.token) u.value g.value
    e.is n.is a.is u.is g.taken c.is) c.goes_on))))

-- a declaration was read, or none came next
abbrev ReadOrNot : {B : Type 0} → List ℕ → Scope → List Token → ℕ → ℕ → (Bool → Parser B) → B → Input → Type 0
ReadOrNot text s left at count f y j = BehindChange text (Declares s) left (f true) y j ⊎ (f false (here (within text s) left at count) ≡ Ok (y, j))

declaration_then : {B : Type 0} (text : List ℕ) (s : Scope) (left : List Token) (at count : ℕ) (f : Bool → Parser B) (y : B) (j : Input)
    → and_then (declaration (here (within text s) left at count)) f ≡ Ok (y, j) → ReadOrNot text s left at count f y j
unfolding declaration
declaration_then {B} text s left at count f y j h = by_piece (piece (here (within text s) left at count)) h
  where
    read : (p : Parser (Unit {0})) → Changes text s (Declares s) p → and_then ((p >> pure true) (here (within text s) left at count)) f ≡ Ok (y, j)
        → ReadOrNot text s left at count f y j
    read p changes h' = inl (change_then text s (Declares s) p changes left at count (λ _. f true) y j (rw then_assoc at h'))

    by_piece : (p : Option Piece) → and_then (declaration_by p (here (within text s) left at count)) f ≡ Ok (y, j) → ReadOrNot text s left at count f y j
    by_piece (Some pieces.Unit) h' = read reader.unit (unit_reads text s) h'
    by_piece (Some pieces.Event) h' = read reader.event (event_reads text s) h'
    by_piece (Some pieces.Var) h' = read reader.variable (variable_reads text s) h'
    by_piece (Some pieces.Activity) h' = read reader.activity (activity_reads text s) h'
    by_piece _ h' = inr h'

declarations_from_read : (text : List ℕ) (turns : ℕ) (s : Scope) → Changes text s (Declarations s) (declarations_from turns)
unfolding declarations_from
declarations_from_read text zero s left at count j h = ends_changed text (Declarations s) s [] left left at count j refl phrase.no_declaration h
declarations_from_read text (suc turns) s left at count j h =
    elim (declaration_then text s left at count _ tt j h) [
      | inl d ↦ (
          let r = declarations_from_read text turns d.after d.rest d.at d.count j d.goes_on in
          record {
            after = r.after;
            words = d.words ++ r.words;
            rest = r.rest;
            at = r.at;
            count = r.count;
            whole = both_parts d.words r.words (map (lexeme_of text) r.rest) d.whole r.whole;
            taken = phrase.more_declarations d.taken r.taken;
            end = r.end;
          })
      | inr h' ↦ ends_changed text (Declarations s) s [] left left at count j refl phrase.no_declaration h'
    ]

pub declarations_change : (text : List ℕ) (s : Scope) → Changes text s (Declarations s) declarations
unfolding declarations
declarations_change text s left at count j h = declarations_from_read text (length left) s left at count j h

pub declarations_read : DeclarationsReadAreSpelled
declarations_read i j h =
    let r = declarations_change i.text (scope_of i) i.left i.at i.nodes j h in
    rw r.end (r.words, r.taken, r.whole, refl)
