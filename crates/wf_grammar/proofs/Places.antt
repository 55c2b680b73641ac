-- Where a reader of a chart's text is, and what its steps took.
use Rattle.std.proofs.Common.{◌≡◌, ℕ, ◌+◌, ◌⊎◌, inl, inr, Bool, true, false, if◌then◌else◌, List, [], ◌∷◌, ◌++◌, map, append_assoc, Option, Some, None, Ok, refl, sym, ◌∙◌, ap, subst}
use Rattle.wf_model.specs.declared.ids.UnitId.{UnitId}
use Rattle.wf_model.specs.declared.ids.EventId.{EventId}
use Rattle.wf_lex.specs.declared.token.Token.{Token}
use Rattle.wf_model.specs.Limits.{max_int}
use Rattle.wf_cursor.specs.declared.names.Declared.{Declared}
use Rattle.wf_cursor.specs.declared.names.Declared.TheVariants as declared_as_a
use Rattle.wf_cursor.specs.declared.piece.Piece.{Piece}
use Rattle.wf_cursor.specs.declared.piece.Piece.TheVariants as pieces
use Rattle.wf_cursor.specs.Values.{number_up_to}
use Rattle.wf_cursor.specs.Input as input
use Rattle.wf_cursor.specs.Input.{Input, Outcome, Parser, and_then, ◌>>=◌, pure, sees, next, eat, new_name, new_name_by, with_name, declared, spelling, unit_by, event_by, int_up_to, int_by}
use Rattle.wf_grammar.specs.Lexemes.{Lexeme, lexeme_of}
use Rattle.wf_grammar.specs.Scopes.{Scope, IsNewName, named}
use Rattle.wf_grammar.proofs.Inputs.{here, declared_here, next_here, spelling_here, seen_here, steps_of, pure_gives, then_assoc}
use Rattle.wf_grammar.proofs.ReadSteps.{TookOne, took_one, TakesName, TookValue, Inverts, name_then, name_by, value_by, int_inverts}

-- an input of this text where this is declared
abbrev pub within : List ℕ → Scope → Input
within text s = record {
  text = text;
  left = [];
  at = 0;
  units = s.units;
  events = s.events;
  vars = s.vars;
  acts = s.acts;
  states = s.states;
  names = s.names;
  nodes = 0;
}

-- ---- phrases that declare nothing

-- which lexemes mean what
abbrev pub Meaning : Type 0 → Type 1
Meaning A = List Lexeme → A → Type 0

-- such a phrase is at the front of the tokens, and the input is behind it
pub record Read {A : Type 0} (i : Input) (P : Meaning A) (left : List Token) (x : A) (j : Input) : Type 0 where
  pub words : List Lexeme
  pub rest : List Token
  pub at : ℕ
  pub count : ℕ
  pub whole : map (lexeme_of i.text) left ≡ words ++ map (lexeme_of i.text) rest
  pub taken : P words x
  pub end : j ≡ here i rest at count

-- what this rule reads is such a phrase
abbrev pub ReadsOnly : {A : Type 0} → Input → Meaning A → Parser A → Type 0
ReadsOnly {A} i P p = (left : List Token) (at count : ℕ) (x : A) (j : Input) → p (here i left at count) ≡ Ok (x, j) → Read i P left x j

-- nothing more is read
pub ends_read : {A : Type 0} (i : Input) (P : Meaning A) (words : List Lexeme) (left rest : List Token) (at count : ℕ) (a x : A) (j : Input)
    → map (lexeme_of i.text) left ≡ words ++ map (lexeme_of i.text) rest → P words a → pure a (here i rest at count) ≡ Ok (x, j) → Read i P left x j
ends_read i P words left rest at count a x j whole taken h =
    let g = pure_gives a x (here i rest at count) j h in
    record { words = words; rest = rest; at = at; count = count; whole = whole; taken = subst (P words) g.0 taken; end = sym g.1 }

-- two parts, one behind the other
pub both_parts : {xs ys : List Lexeme} (us vs zs : List Lexeme) → xs ≡ us ++ ys → ys ≡ vs ++ zs → xs ≡ (us ++ vs) ++ zs
both_parts us vs zs h k = h ∙ ap (λ ls. us ++ ls) k ∙ sym (append_assoc us vs zs)

-- a phrase was read, and a rule goes on behind it
pub record Behind {A B : Type 0} (i : Input) (P : Meaning A) (left : List Token) (f : A → Parser B) (y : B) (j : Input) : Type 0 where
  pub value : A
  pub words : List Lexeme
  pub rest : List Token
  pub at : ℕ
  pub count : ℕ
  pub whole : map (lexeme_of i.text) left ≡ words ++ map (lexeme_of i.text) rest
  pub taken : P words value
  pub goes_on : f value (here i rest at count) ≡ Ok (y, j)

pub read_then : {A B : Type 0} (i : Input) (P : Meaning A) (p : Parser A) → ReadsOnly i P p
    → (left : List Token) (at count : ℕ) (f : A → Parser B) (y : B) (j : Input) → and_then (p (here i left at count)) f ≡ Ok (y, j) → Behind i P left f y j
read_then i P p reads left at count f y j h =
    let s = steps_of (p (here i left at count)) f y j h in
    let r = reads left at count s.value s.between s.first in
    record {
      value = s.value;
      words = r.words;
      rest = r.rest;
      at = r.at;
      count = r.count;
      whole = r.whole;
      taken = r.taken;
      goes_on = subst (λ (k : Input). f s.value k ≡ Ok (y, j)) r.end s.second;
    }

-- a phrase, and the token that ends it
pub ended : (text : List ℕ) (us : List Lexeme) (left mid : List Token) (t : Token) (rest : List Token)
    → map (lexeme_of text) left ≡ us ++ map (lexeme_of text) mid → mid ≡ t ∷ rest
    → map (lexeme_of text) left ≡ (us ++ lexeme_of text t ∷ []) ++ map (lexeme_of text) rest
ended text us left mid t rest h k = both_parts us (lexeme_of text t ∷ []) (map (lexeme_of text) rest) h (ap (map (lexeme_of text)) k)

-- ---- phrases that declare

-- which lexemes lead to what is declared behind them
abbrev pub Change : Type 1
Change = List Lexeme → Scope → Type 0

-- such a phrase is at the front of the tokens, and the input is behind it
pub record Changed (text : List ℕ) (P : Change) (left : List Token) (j : Input) : Type 0 where
  pub after : Scope
  pub words : List Lexeme
  pub rest : List Token
  pub at : ℕ
  pub count : ℕ
  pub whole : map (lexeme_of text) left ≡ words ++ map (lexeme_of text) rest
  pub taken : P words after
  pub end : j ≡ here (within text after) rest at count

-- what this rule reads is such a phrase
abbrev pub Changes : List ℕ → Scope → Change → Parser (Unit {0}) → Type 0
Changes text s P p = (left : List Token) (at count : ℕ) (j : Input) → p (here (within text s) left at count) ≡ Ok (tt, j) → Changed text P left j

pub ends_changed : (text : List ℕ) (P : Change) (after : Scope) (words : List Lexeme) (left rest : List Token) (at count : ℕ) (j : Input)
    → map (lexeme_of text) left ≡ words ++ map (lexeme_of text) rest → P words after
    → pure {A = Unit {0}} tt (here (within text after) rest at count) ≡ Ok (tt, j) → Changed text P left j
ends_changed text P after words left rest at count j whole taken h =
    let g = pure_gives {A = Unit {0}} tt tt (here (within text after) rest at count) j h in
    record { after = after; words = words; rest = rest; at = at; count = count; whole = whole; taken = taken; end = sym g.1 }

-- a phrase was read that declares, and a rule goes on behind it
pub record BehindChange {B : Type 0} (text : List ℕ) (P : Change) (left : List Token) (f : Parser B) (y : B) (j : Input) : Type 0 where
  pub after : Scope
  pub words : List Lexeme
  pub rest : List Token
  pub at : ℕ
  pub count : ℕ
  pub whole : map (lexeme_of text) left ≡ words ++ map (lexeme_of text) rest
  pub taken : P words after
  pub goes_on : f (here (within text after) rest at count) ≡ Ok (y, j)

pub change_then : {B : Type 0} (text : List ℕ) (s : Scope) (P : Change) (p : Parser (Unit {0})) → Changes text s P p
    → (left : List Token) (at count : ℕ) (f : Unit {0} → Parser B) (y : B) (j : Input) → and_then (p (here (within text s) left at count)) f ≡ Ok (y, j)
    → BehindChange text P left (f tt) y j
change_then text s P p changes left at count f y j h =
    let q = steps_of (p (here (within text s) left at count)) f y j h in
    let r = changes left at count q.between q.first in
    record {
      after = r.after;
      words = r.words;
      rest = r.rest;
      at = r.at;
      count = r.count;
      whole = r.whole;
      taken = r.taken;
      goes_on = subst (λ (k : Input). f tt k ≡ Ok (y, j)) r.end q.second;
    }

-- ---- tokens

-- the next token was taken if it is this one
pub eat_then : {B : Type 0} (i : Input) (p : Piece) (left : List Token) (at count : ℕ) (f : Bool → Parser B) (y : B) (j : Input)
    → and_then (eat p (here i left at count)) f ≡ Ok (y, j) → TookOne i p left at count (f true) y j ⊎ (f false (here i left at count) ≡ Ok (y, j))
unfolding eat
eat_then i p left at count f y j h = by_token (sees p (here i left at count)) refl h
  where
    by_token : (b : Bool) → sees p (here i left at count) ≡ b → f b (if b then next (here i left at count) else here i left at count) ≡ Ok (y, j)
        → TookOne i p left at count (f true) y j ⊎ (f false (here i left at count) ≡ Ok (y, j))
    by_token true seen h' = inl (took_one i p left at count (f true) y j (seen_here i p left at count seen) h')
    by_token false seen h' = inr h'

-- ---- names

unit_inverts : {B : Type 0} (f : UnitId → Parser B) (y : B) (j : Input) → Inverts declared_as_a.Unit unit_by f y j
unit_inverts f y j (Some (declared_as_a.Unit x)) k h = (x, refl, h)
unit_inverts f y j _ k h = cc

event_inverts : {B : Type 0} (f : EventId → Parser B) (y : B) (j : Input) → Inverts declared_as_a.Event event_by f y j
event_inverts f y j (Some (declared_as_a.Event x)) k h = (x, refl, h)
event_inverts f y j _ k h = cc

pub unit_then : (i : Input) → TakesName i declared_as_a.Unit input.unit
unfolding input.unit
unit_then i B left at count f y j h = name_by i declared_as_a.Unit unit_by left at count f y j (unit_inverts f y j) h

pub event_then : (i : Input) → TakesName i declared_as_a.Event input.event
unfolding input.event
event_then i B left at count f y j h = name_by i declared_as_a.Event event_by left at count f y j (event_inverts f y j) h

pub negated_int_then : {B : Type 0} (i : Input) (left : List Token) (at count : ℕ) (f : ℕ → Parser B) (y : B) (j : Input)
    → and_then (input.negated_int (here i left at count)) f ≡ Ok (y, j) → TookValue i pieces.Int (number_up_to (max_int + 1)) left at count f y j
unfolding input.negated_int int_up_to
negated_int_then i left at count f y j h = value_by i pieces.Int (number_up_to (max_int + 1)) int_by left at count f y j (int_inverts f y j) h

-- a name was taken that was new, and is declared as this now
pub record TookNew {B : Type 0} (text : List ℕ) (s : Scope) (what : Declared) (left : List Token) (at count : ℕ) (f : List ℕ → Parser B) (y : B) (j : Input) : Type 0 where
  pub token : Token
  pub rest : List Token
  pub whole : left ≡ token ∷ rest
  pub is : IsNewName s (lexeme_of text token)
  pub goes_on : f (lexeme_of text token).bytes (here (within text (named (lexeme_of text token) what s)) rest (at + 1) count) ≡ Ok (y, j)

new_inverts : {B : Type 0} (what : Declared) (before : Option Declared) (k : Input) (f : List ℕ → Parser B) (y : B) (j : Input)
    → and_then (new_name_by what before k) f ≡ Ok (y, j) → (before ≡ None) × (f (spelling k) (next (with_name what k)) ≡ Ok (y, j))
new_inverts what None k f y j h = (refl, h)
new_inverts what (Some d) k f y j h = cc

pub with_name_here : (text : List ℕ) (s : Scope) (what : Declared) (t : Token) (rest : List Token) (at count : ℕ)
    → with_name what (here (within text s) (t ∷ rest) at count) ≡ here (within text (named (lexeme_of text t) what s)) (t ∷ rest) at count
unfolding with_name
with_name_here text s what t rest at count = rw (spelling_here (within text s) t rest at count) refl

pub new_name_then : {B : Type 0} (text : List ℕ) (s : Scope) (what : Declared) (left : List Token) (at count : ℕ) (f : List ℕ → Parser B) (y : B) (j : Input)
    → and_then (new_name what (here (within text s) left at count)) f ≡ Ok (y, j) → TookNew text s what left at count f y j
unfolding new_name
new_name_then {B} text s what left at count f y j h =
    let i = within text s in
    let g : Parser B = λ k. and_then (new_name_by what (declared k) k) f in
    let n = name_then i left at count (λ _. g) y j (rw then_assoc at h) in
    let v = new_inverts what (declared (here i (n.token ∷ n.rest) at count)) (here i (n.token ∷ n.rest) at count) f y j n.goes_on in
    let named_next : next (with_name what (here i (n.token ∷ n.rest) at count)) ≡ here (within text (named (lexeme_of text n.token) what s)) n.rest (at + 1) count =
    ap next (with_name_here text s what n.token n.rest at count) ∙ next_here (within text (named (lexeme_of text n.token) what s)) n.token n.rest at count in
    record {
      token = n.token;
      rest = n.rest;
      whole = n.whole;
      is = record { is_name = n.is_name; is_short = n.is_short; is_new = sym (declared_here i n.token n.rest at count) ∙ v.0 };
      goes_on = subst (λ (k : Input). f (lexeme_of text n.token).bytes k ≡ Ok (y, j)) named_next
          (subst (λ (b : List ℕ). f b (next (with_name what (here i (n.token ∷ n.rest) at count))) ≡ Ok (y, j)) (spelling_here i n.token n.rest at count) v.1);
    }
