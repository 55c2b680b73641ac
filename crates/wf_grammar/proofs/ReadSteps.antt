-- What a step took, where it and what follows it answer.
use Rattle.std.proofs.Common.{◌≡◌, ◌≢◌, ℕ, ◌+◌, ◌<◌, ◌≤◌, ◌==◌, Bool, true, false, if◌then◌else◌, nat_lt, nat_le, List, ◌∷◌, length, Option, Some, None, Ok, refl, sym, ◌∙◌, ap, subst, arith, true≢false, eq-eqb}
use Rattle.wf_model.specs.Limits.{max_name, max_nodes, max_int}
use Rattle.wf_model.specs.declared.ids.VarId.{VarId}
use Rattle.wf_model.specs.declared.ids.StateId.{StateId}
use Rattle.wf_model.specs.declared.ids.ActId.{ActId}
use Rattle.wf_lex.specs.declared.token.Token.{Token}
use Rattle.wf_cursor.specs.declared.names.Declared.{Declared}
use Rattle.wf_cursor.specs.declared.names.Declared.TheVariants as declared_as_a
use Rattle.wf_cursor.specs.declared.piece.Piece.{Piece}
use Rattle.wf_cursor.specs.declared.piece.Piece.TheVariants as pieces
use Rattle.wf_cursor.specs.Values.{number_up_to, short_text}
use Rattle.wf_cursor.specs.Input as input
use Rattle.wf_cursor.specs.Input.{Input, Outcome, Parser, and_then, ◌>>=◌, ◌>>◌, pure, take, syntax, oversize, unknown_name, piece, spelling, next, sees, node, expect, declared, name_ahead, int_up_to, int_by, text_by, variable_by, state_by, activity_by}
use Rattle.wf_phrase.specs.Expressions.{open_paren, activity_inside}
use Rattle.wf_grammar.specs.Lexemes.{lexeme_of}
use Rattle.wf_grammar.specs.Phrases.{Is, IsNameOf}
use Rattle.wf_grammar.proofs.Inputs.{declared_here, here, spelling_here, next_here, Seen, seen_here, less_is, fits_is, then_assoc}

-- a test that was passed
pub passed : {A B : Type 0} (b : Bool) (ok err : Outcome A) (f : A → Parser B) (y : B) (j : Input) → ((g : A → Parser B) (z : B) (k : Input) → and_then err g ≡ Ok (z, k) → ⊥) → and_then (if b then ok else err) f ≡ Ok (y, j) → (b ≡ true) × (and_then ok f ≡ Ok (y, j))
passed true ok err f y j refused h = (refl, h)
passed false ok err f y j refused h = absurd (refused f y j h)

pub node_then : {B : Type 0} (i : Input) (left : List Token) (at count : ℕ) (f : Unit {0} → Parser B) (y : B) (j : Input)
    → and_then (node (here i left at count)) f ≡ Ok (y, j) → (count < max_nodes) × (f tt (here i left at (count + 1)) ≡ Ok (y, j))
unfolding node
node_then i left at count f y j h =
    let p = passed (nat_lt count max_nodes) (Ok (tt, here i left at (count + 1))) (oversize (here i left at count)) f y j (λ g z k e. cc) h in
    (less_is count max_nodes p.0, p.1)

-- a token of this piece was taken
pub record TookOne {B : Type 0} (i : Input) (p : Piece) (left : List Token) (at count : ℕ) (f : Parser B) (y : B) (j : Input) : Type 0 where
  pub token : Token
  pub rest : List Token
  pub whole : left ≡ token ∷ rest
  pub is : Is p (lexeme_of i.text token)
  pub goes_on : f (here i rest (at + 1) count) ≡ Ok (y, j)

pub took_one : {B : Type 0} (i : Input) (p : Piece) (left : List Token) (at count : ℕ) (f : Parser B) (y : B) (j : Input)
    → Seen i p left → f (next (here i left at count)) ≡ Ok (y, j) → TookOne i p left at count f y j
took_one i p left at count f y j s h =
    let h' : f (next (here i (s.token ∷ s.rest) at count)) ≡ Ok (y, j) = rw s.whole at h in
    record { token = s.token; rest = s.rest; whole = s.whole; is = s.is; goes_on = rw (next_here i s.token s.rest at count) at h' }

pub expect_then : {B : Type 0} (i : Input) (p : Piece) (left : List Token) (at count : ℕ) (f : Unit {0} → Parser B) (y : B) (j : Input)
    → and_then (expect p (here i left at count)) f ≡ Ok (y, j) → TookOne i p left at count (f tt) y j
unfolding expect
expect_then i p left at count f y j h =
    let q = passed (sees p (here i left at count)) (Ok (tt, next (here i left at count))) (syntax (here i left at count)) f y j (λ g z k e. cc) h in
    took_one i p left at count (f tt) y j (seen_here i p left at count q.0) q.1

-- `(` was taken, and so many could still open
pub open_then : {B : Type 0} (i : Input) (depth : ℕ) (left : List Token) (at count : ℕ) (f : Unit {0} → Parser B) (y : B) (j : Input)
    → and_then (open_paren depth (here i left at count)) f ≡ Ok (y, j) → (0 < depth) × TookOne i pieces.OpenParen left at count (f tt) y j
unfolding open_paren
open_then {B} i depth left at count f y j h =
    let q = passed (sees pieces.OpenParen (here i left at count)) (if depth == 0 then oversize (here i left at count) else Ok (tt, next (here i left at count))) (syntax (here i left at count)) f y j (λ g z k e. cc) h in
    by_depth (depth == 0) refl q.0 q.1
  where
    by_depth : (none : Bool) → (depth == 0) ≡ none → sees pieces.OpenParen (here i left at count) ≡ true
        → and_then (if none then oversize (here i left at count) else Ok (tt, next (here i left at count))) f ≡ Ok (y, j)
        → (0 < depth) × TookOne i pieces.OpenParen left at count (f tt) y j
    by_depth true e seen h' = cc
    by_depth false e seen h' =
        let some : depth ≢ 0 = (λ is. true≢false (sym (eq-eqb depth 0 is) ∙ e)) in
        (omega (arith, some), took_one i pieces.OpenParen left at count (f tt) y j (seen_here i pieces.OpenParen left at count seen) h')

-- a name was taken that is declared as this
pub record TookName {A B : Type 0} (i : Input) (as_this : A → Declared) (left : List Token) (at count : ℕ) (f : A → Parser B) (y : B) (j : Input) : Type 0 where
  pub value : A
  pub token : Token
  pub rest : List Token
  pub whole : left ≡ token ∷ rest
  pub is : IsNameOf i.names (as_this value) (lexeme_of i.text token)
  pub goes_on : f value (here i rest (at + 1) count) ≡ Ok (y, j)

-- a name that isn't too long is next
pub record NameAhead {B : Type 0} (i : Input) (left : List Token) (at count : ℕ) (f : Parser B) (y : B) (j : Input) : Type 0 where
  pub token : Token
  pub rest : List Token
  pub whole : left ≡ token ∷ rest
  pub is_name : Is pieces.Name (lexeme_of i.text token)
  pub is_short : length (lexeme_of i.text token).bytes ≤ max_name
  pub goes_on : f (here i (token ∷ rest) at count) ≡ Ok (y, j)

pub name_then : {B : Type 0} (i : Input) (left : List Token) (at count : ℕ) (f : Unit {0} → Parser B) (y : B) (j : Input)
    → and_then (name_ahead (here i left at count)) f ≡ Ok (y, j) → NameAhead i left at count (f tt) y j
unfolding name_ahead
name_then i left at count f y j h =
    let q = passed (sees pieces.Name (here i left at count)) (if nat_le (length (spelling (here i left at count))) max_name then Ok (tt, here i left at count) else oversize (here i left at count)) (syntax (here i left at count)) f y j (λ g z k e. cc) h in
    let r = passed (nat_le (length (spelling (here i left at count))) max_name) (Ok (tt, here i left at count)) (oversize (here i left at count)) f y j (λ g z k e. cc) q.1 in
    let s = seen_here i pieces.Name left at count q.0 in
    let short : nat_le (length (spelling (here i (s.token ∷ s.rest) at count))) max_name ≡ true = rw s.whole at r.0 in
    let h' : f tt (here i (s.token ∷ s.rest) at count) ≡ Ok (y, j) = rw s.whole at r.1 in
    record {
      token = s.token;
      rest = s.rest;
      whole = s.whole;
      is_name = s.is;
      is_short = fits_is (length (lexeme_of i.text s.token).bytes) max_name (rw (spelling_here i s.token s.rest at count) at short);
      goes_on = h';
    }

-- what is made of the declaration answers for this kind of name alone
abbrev pub Inverts : {A B : Type 0} → (A → Declared) → (Option Declared → Parser A) → (A → Parser B) → B → Input → Type 0
Inverts {A} as_this by f y j = (d : Option Declared) (k : Input) → and_then (by d k) f ≡ Ok (y, j) → (v : A) × (d ≡ Some (as_this v)) × (f v (next k) ≡ Ok (y, j))

pub name_by : {A B : Type 0} (i : Input) (as_this : A → Declared) (by : Option Declared → Parser A) (left : List Token) (at count : ℕ) (f : A → Parser B) (y : B) (j : Input)
    → Inverts as_this by f y j → and_then ((name_ahead >> (λ k. by (declared k) k)) (here i left at count)) f ≡ Ok (y, j) → TookName i as_this left at count f y j
name_by {A} {B} i as_this by left at count f y j inverts h =
    let g : Parser B = λ k. and_then (by (declared k) k) f in
    let n = name_then i left at count (λ _. g) y j (rw then_assoc at h) in
    let v = inverts (declared (here i (n.token ∷ n.rest) at count)) (here i (n.token ∷ n.rest) at count) n.goes_on in
    record {
      value = v.0;
      token = n.token;
      rest = n.rest;
      whole = n.whole;
      is = record { is_name = n.is_name; is_short = n.is_short; is_declared = sym (declared_here i n.token n.rest at count) ∙ v.1 };
      goes_on = subst (λ (k : Input). f v.0 k ≡ Ok (y, j)) (next_here i n.token n.rest at count) v.2;
    }

variable_inverts : {B : Type 0} (f : VarId → Parser B) (y : B) (j : Input) → Inverts declared_as_a.Var variable_by f y j
variable_inverts f y j (Some (declared_as_a.Var x)) k h = (x, refl, h)
variable_inverts f y j _ k h = cc

state_inverts : {B : Type 0} (f : StateId → Parser B) (y : B) (j : Input) → Inverts declared_as_a.State state_by f y j
state_inverts f y j (Some (declared_as_a.State s)) k h = (s, refl, h)
state_inverts f y j _ k h = cc

activity_inverts : {B : Type 0} (f : ActId → Parser B) (y : B) (j : Input) → Inverts declared_as_a.Activity activity_by f y j
activity_inverts f y j (Some (declared_as_a.Activity a)) k h = (a, refl, h)
activity_inverts f y j _ k h = cc

-- a rule that takes a name of this kind
abbrev pub TakesName : {A : Type 0} → Input → (A → Declared) → Parser A → Type 1
TakesName {A} i as_this p =
    (B : Type 0) (left : List Token) (at count : ℕ) (f : A → Parser B) (y : B) (j : Input) → and_then (p (here i left at count)) f ≡ Ok (y, j) → TookName i as_this left at count f y j

pub variable_then : (i : Input) → TakesName i declared_as_a.Var input.variable
unfolding input.variable
variable_then i B left at count f y j h = name_by i declared_as_a.Var variable_by left at count f y j (variable_inverts f y j) h

pub state_then : (i : Input) → TakesName i declared_as_a.State input.state
unfolding input.state
state_then i B left at count f y j h = name_by i declared_as_a.State state_by left at count f y j (state_inverts f y j) h

pub activity_then : (i : Input) → TakesName i declared_as_a.Activity input.activity
unfolding input.activity
activity_then i B left at count f y j h = name_by i declared_as_a.Activity activity_by left at count f y j (activity_inverts f y j) h

-- a token of this piece was taken, whose bytes are read as a value
pub record TookValue {A B : Type 0} (i : Input) (p : Piece) (reads : List ℕ → Option A) (left : List Token) (at count : ℕ) (f : A → Parser B) (y : B) (j : Input) : Type 0 where
  pub value : A
  pub token : Token
  pub rest : List Token
  pub whole : left ≡ token ∷ rest
  pub is : Is p (lexeme_of i.text token)
  pub is_read : reads (lexeme_of i.text token).bytes ≡ Some value
  pub goes_on : f value (here i rest (at + 1) count) ≡ Ok (y, j)

pub value_by : {A B : Type 0} (i : Input) (p : Piece) (reads : List ℕ → Option A) (by : Option A → Parser A) (left : List Token) (at count : ℕ) (f : A → Parser B) (y : B) (j : Input)
    → ((d : Option A) (k : Input) → and_then (by d k) f ≡ Ok (y, j) → (v : A) × (d ≡ Some v) × (f v (next k) ≡ Ok (y, j)))
    → and_then (if sees p (here i left at count) then by (reads (spelling (here i left at count))) (here i left at count) else syntax (here i left at count)) f ≡ Ok (y, j)
    → TookValue i p reads left at count f y j
value_by i p reads by left at count f y j inverts h =
    let q = passed (sees p (here i left at count)) (by (reads (spelling (here i left at count))) (here i left at count)) (syntax (here i left at count)) f y j (λ g z k e. cc) h in
    let s = seen_here i p left at count q.0 in
    let h' : and_then (by (reads (spelling (here i (s.token ∷ s.rest) at count))) (here i (s.token ∷ s.rest) at count)) f ≡ Ok (y, j) = rw s.whole at q.1 in
    let v = inverts (reads (spelling (here i (s.token ∷ s.rest) at count))) (here i (s.token ∷ s.rest) at count) h' in
    record {
      value = v.0;
      token = s.token;
      rest = s.rest;
      whole = s.whole;
      is = s.is;
      is_read = ap reads (sym (spelling_here i s.token s.rest at count)) ∙ v.1;
      goes_on = subst (λ (k : Input). f v.0 k ≡ Ok (y, j)) (next_here i s.token s.rest at count) v.2;
    }

pub int_inverts : {B : Type 0} (f : ℕ → Parser B) (y : B) (j : Input) (d : Option ℕ) (k : Input) → and_then (int_by d k) f ≡ Ok (y, j) → (n : ℕ) × (d ≡ Some n) × (f n (next k) ≡ Ok (y, j))
int_inverts f y j (Some n) k h = (n, refl, h)
int_inverts f y j None k h = cc

text_inverts : {B : Type 0} (f : List ℕ → Parser B) (y : B) (j : Input) (d : Option (List ℕ)) (k : Input) → and_then (text_by d k) f ≡ Ok (y, j) → (t : List ℕ) × (d ≡ Some t) × (f t (next k) ≡ Ok (y, j))
text_inverts f y j (Some t) k h = (t, refl, h)
text_inverts f y j None k h = cc

pub int_then : {B : Type 0} (i : Input) (left : List Token) (at count : ℕ) (f : ℕ → Parser B) (y : B) (j : Input)
    → and_then (input.int (here i left at count)) f ≡ Ok (y, j) → TookValue i pieces.Int (number_up_to max_int) left at count f y j
unfolding input.int int_up_to
int_then i left at count f y j h = value_by i pieces.Int (number_up_to max_int) int_by left at count f y j (int_inverts f y j) h

pub text_then : {B : Type 0} (i : Input) (left : List Token) (at count : ℕ) (f : List ℕ → Parser B) (y : B) (j : Input)
    → and_then (input.text (here i left at count)) f ≡ Ok (y, j) → TookValue i pieces.Text short_text left at count f y j
unfolding input.text
text_then i left at count f y j h = value_by i pieces.Text short_text text_by left at count f y j (text_inverts f y j) h

-- `(`, a name of this kind and `)` were taken
pub record TookInside {A B : Type 0} (i : Input) (as_this : A → Declared) (depth : ℕ) (left : List Token) (at count : ℕ) (f : A → Parser B) (y : B) (j : Input) : Type 0 where
  pub value : A
  pub opens : Token
  pub token : Token
  pub closes : Token
  pub rest : List Token
  pub may_open : 0 < depth
  pub whole : left ≡ opens ∷ token ∷ closes ∷ rest
  pub is_open : Is pieces.OpenParen (lexeme_of i.text opens)
  pub is : IsNameOf i.names (as_this value) (lexeme_of i.text token)
  pub is_close : Is pieces.CloseParen (lexeme_of i.text closes)
  pub goes_on : f value (here i rest (at + 1 + 1 + 1) count) ≡ Ok (y, j)

pub inside_then : {A B : Type 0} (i : Input) (as_this : A → Declared) (p : Parser A) → TakesName i as_this p
    → (depth : ℕ) (left : List Token) (at count : ℕ) (f : A → Parser B) (y : B) (j : Input)
    → and_then (open_paren depth (here i left at count)) (λ _. p >>= (λ v. expect pieces.CloseParen >> f v)) ≡ Ok (y, j)
    → TookInside i as_this depth left at count f y j
inside_then {B = B} i as_this p takes depth left at count f y j h =
    let o = open_then i depth left at count (λ _. p >>= (λ v. expect pieces.CloseParen >> f v)) y j h in
    let n = takes B o.1.rest (at + 1) count (λ v. expect pieces.CloseParen >> f v) y j o.1.goes_on in
    let c = expect_then i pieces.CloseParen n.rest (at + 1 + 1) count (λ _. f n.value) y j n.goes_on in
    record {
      value = n.value;
      opens = o.1.token;
      token = n.token;
      closes = c.token;
      rest = c.rest;
      may_open = o.0;
      whole = o.1.whole ∙ ap (λ ls. o.1.token ∷ ls) (n.whole ∙ ap (λ ls. n.token ∷ ls) c.whole);
      is_open = o.1.is;
      is = n.is;
      is_close = c.is;
      goes_on = c.goes_on;
    }

-- an activity in parentheses, step by step
pub activity_inside_is : {B : Type 0} (depth : ℕ) (k : Input) (f : ActId → Parser B)
    → and_then (activity_inside depth k) f ≡ and_then (open_paren depth k) (λ _. input.activity >>= (λ a. expect pieces.CloseParen >> f a))
unfolding activity_inside
activity_inside_is depth k f =
    then_assoc (open_paren depth k) (λ _. input.activity >>= (λ a. expect pieces.CloseParen >> pure a)) f
    ∙ ap (and_then (open_paren depth k)) (λ i _ k'.
    (then_assoc (input.activity k') (λ a. expect pieces.CloseParen >> pure a) f
    ∙ ap (and_then (input.activity k')) (λ i a k''. then_assoc (expect pieces.CloseParen k'') (λ _. pure a) f i)) i)
