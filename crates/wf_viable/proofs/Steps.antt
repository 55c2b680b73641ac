-- Each step that rules are made of takes one piece, or tells a fault where it stands.
use Rattle.std.proofs.Common.{arith, ◌≡◌, ℕ, ◌+◌, ◌==◌, nat_le, nat_lt, Bool, true, false, if◌then◌else◌, List, [], ◌∷◌, ◌++◌, length, Option, Some, None, Ok, Err, refl, sym, ◌∙◌, ap, subst}
use Rattle.wf_model.specs.Limits.{max_name, max_nodes}
use Rattle.wf_lex.specs.declared.token.Token.{Token}
use Rattle.wf_cursor.specs.declared.fault.TextFault.TheVariants as fault
use Rattle.wf_cursor.specs.declared.names.Declared.{Declared}
use Rattle.wf_cursor.specs.declared.names.Declared.TheVariants as declared_as_a
use Rattle.wf_cursor.specs.declared.piece.Piece.{Piece}
use Rattle.wf_cursor.specs.declared.piece.Piece.TheVariants as pieces
use Rattle.wf_cursor.specs.Values.{number_up_to, short_text}
use Rattle.wf_cursor.specs.Input as input
use Rattle.wf_cursor.specs.Input.{Input, Outcome, Parser, and_then, ◌>>=◌, ◌>>◌, pure, take, syntax, oversize, unknown_name, double_name, piece, spelling, ahead, next, sees, eat, expect, name_ahead, new_name, new_name_by, with_name, declared, unit_by, event_by, variable_by, activity_by, state_by, int_by, int_up_to, text_by, node}
use Rattle.wf_phrase.specs.Expressions.{open_paren}
use Rattle.wf_grammar.specs.Lexemes.{lexeme_of}
use Rattle.wf_grammar.proofs.Inputs.{here, piece_here, piece_none, sees_piece, piece_sees}
use Rattle.wf_grammar.proofs.Reading.{Follow}
use Rattle.wf_grammar.proofs.Follows.{Anything}
use Rattle.wf_viable.specs.Shapes.{Shape, first, One}
use Rattle.wf_viable.proofs.Fits.{pieces_left, Takes, Misfits, GoesOn, Parts, Took, Fits, Productive}

-- ---- the piece that is next

pub piece_first : (i : Input) → piece i ≡ first (pieces_left i)
piece_first i = by_left i.left
  where
    by_left : (left : List Token) → piece (here i left i.at i.nodes) ≡ first (pieces_left (here i left i.at i.nodes))
    by_left [] = piece_none i i.at i.nodes
    by_left (t ∷ rest) = piece_here i t rest i.at i.nodes

-- the pieces that are left, and the place, are the same
abbrev pub Same : Input → Input → Type 0
Same j k = (pieces_left j ≡ pieces_left k) × (j.at ≡ k.at)

-- this piece is next
abbrev pub Next : Piece → Input → Type 0
Next p i = first (pieces_left i) ≡ Some p

pub record Behind (i : Input) (p : Piece) : Type 0 where
  pub whole : pieces_left i ≡ p ∷ pieces_left (next i)
  pub place : (next i).at ≡ i.at + 1

pub behind_next : (i : Input) (p : Piece) → Next p i → Behind i p
unfolding next
behind_next i p h = by_left i.left h
  where
    by_left : (left : List Token) → Next p (here i left i.at i.nodes) → Behind (here i left i.at i.nodes) p
    by_left [] h' = cc
    by_left (t ∷ rest) h' =
        let is : (lexeme_of i.text t).piece ≡ p = cc in
        record { whole = ap (λ q. q ∷ pieces_left (here i rest i.at i.nodes)) is; place = refl }

-- ---- inputs that are alike

same_parts : (i j : Input) (at : ℕ) (P : List Piece → List Piece → Type 0) → Same j i → Parts j at P → Parts i at P
same_parts i j at P same parts = record {
  us = parts.us;
  rest = parts.rest;
  whole = sym same.0 ∙ parts.whole;
  place = parts.place ∙ ap (λ n. n + length parts.us) same.1;
  holds = parts.holds;
}

pub same_fits : {A : Type 0} (i j : Input) (L : Shape) (F : Follow) (r : Outcome A) → Same j i → Fits j L F r → Fits i L F r
same_fits i j L F (Ok q) same fits =
    record { us = fits.us; whole = sym same.0 ∙ fits.whole; place = fits.place ∙ ap (λ n. n + length fits.us) same.1; takes = fits.takes }
same_fits i j L F (Err (fault.Syntax at)) same fits = same_parts i j at (Misfits L F) same fits
same_fits i j L F (Err (fault.UnknownName at)) same fits = same_parts i j at (GoesOn L) same fits
same_fits i j L F (Err (fault.DoubleName at)) same fits = same_parts i j at (GoesOn L) same fits
same_fits i j L F (Err (fault.Oversize at)) same fits = same_parts i j at (GoesOn L) same fits
same_fits i j L F (Err _) same fits = absurd fits

-- the outcome is an input with the same pieces left
abbrev pub Keeps : {A : Type 0} → Input → Outcome A → Type 0
Keeps i (Ok q) = Same q.1 i
Keeps i (Err e) = ⊥

keeps_takes : (L : Shape) (F : Follow) (us rest rest' : List Piece) → rest' ≡ rest → Takes L F us rest → Takes L F us rest'
keeps_takes L F us rest rest' same takes = subst (Takes L F us) (sym same) takes

kept : {B : Type 0} (i j : Input) (L : Shape) (F : Follow) (s : Outcome B) → Took i j L F → Keeps j s → Fits i L F s
kept i j L F (Ok q) took keeps = record {
  us = took.us;
  whole = took.whole ∙ ap (λ x. took.us ++ x) (sym keeps.0);
  place = keeps.1 ∙ took.place;
  takes = keeps_takes L F took.us (pieces_left j) (pieces_left q.1) keeps.0 took.takes;
}
kept i j L F (Err e) took keeps = absurd keeps

-- what takes nothing behind a rule
pub then_keeps : {A B : Type 0} (i : Input) (L : Shape) (F : Follow) (r : Outcome A) (f : A → Parser B) → Fits i L F r
    → ((x : A) (j : Input) → Keeps j (f x j)) → Fits i L F (and_then r f)
then_keeps i L F (Ok q) f fits keeps = kept i q.1 L F (f q.0 q.1) fits (keeps q.0 q.1)
then_keeps i L F (Err (fault.Syntax at)) f fits keeps = fits
then_keeps i L F (Err (fault.UnknownName at)) f fits keeps = fits
then_keeps i L F (Err (fault.DoubleName at)) f fits keeps = fits
then_keeps i L F (Err (fault.Oversize at)) f fits keeps = fits
then_keeps i L F (Err _) f fits keeps = absurd fits

-- ---- what a step does

pub took_one : (i j : Input) (p : Piece) → Next p i → Same j (next i) → Took i j (One p) Anything
took_one i j p h same =
    let b = behind_next i p h in
    record {
      us = p ∷ [];
      whole = b.whole ∙ ap (λ ps. p ∷ ps) (sym same.0);
      place = same.1 ∙ b.place;
      takes = record { shaped = One.one; alone = λ us' vs' v shaped follows whole is. by_one us' vs' v shaped whole };
    }
  where
    by_one : (us' vs' v : List Piece) → One p us' → us' ++ vs' ≡ (p ∷ []) ++ v → vs' ≡ v
    by_one us' vs' v One.one h' = cc

pub faults_next : (i : Input) (p : Piece) (L : Shape) (ending : List Piece) → Next p i → L (p ∷ ending) → Parts i i.at (GoesOn L)
faults_next i p L ending h shaped = record {
  us = [];
  rest = pieces_left i;
  whole = refl;
  place = omega arith;
  holds = record { piece = p; more = pieces_left (next i); ending = ending; next = (behind_next i p h).whole; begins = shaped };
}

-- nothing of the shape begins with what is next
pub stuck_here : (i : Input) (L : Shape) (F : Follow) → Productive L
    → ((us vs : List Piece) → L us → F (first vs) → first (us ++ vs) ≡ first (pieces_left i) → ⊥) → Parts i i.at (Misfits L F)
stuck_here i L F some never = record {
  us = [];
  rest = pieces_left i;
  whole = refl;
  place = omega arith;
  holds = record { ending = some.pieces; begins = some.shaped; stuck = λ us vs v shaped follows same is. never us vs shaped follows (ap first same ∙ is) };
}

-- nothing is taken, and what is next begins nothing but the empty one
pub took_none : (i j : Input) (L : Shape) (F : Follow) → Same j i → L []
    → ((us vs : List Piece) → L us → F (first vs) → first (us ++ vs) ≡ first (pieces_left i) → us ≡ []) → Took i j L F
took_none i j L F same empty only = record {
  us = [];
  whole = sym same.0;
  place = same.1 ∙ (omega arith);
  takes = record {
    shaped = empty;
    alone = λ us vs v shaped follows whole is.
        let none = only us vs shaped follows (ap first whole ∙ is ∙ ap first same.0) in
        ap (λ x. x ++ vs) (sym none) ∙ whole;
  };
}

-- by whether a piece is next
pub by_seeing : {A : Type 0} (i : Input) (p : Piece) (L : Shape) (F : Follow) (then_so else_so : Outcome A)
    → (Next p i → Fits i L F then_so) → ((Next p i → ⊥) → Fits i L F else_so) → Fits i L F (if sees p i then then_so else else_so)
by_seeing i p L F then_so else_so f g = by_test (sees p i) refl
  where
    by_test : (b : Bool) → sees p i ≡ b → Fits i L F (if b then then_so else else_so)
    by_test true h = f (sym (piece_first i) ∙ sees_piece p i h)
    by_test false h = g (λ is. (let seen = piece_sees p i (piece_first i ∙ is) in cc))

-- one piece and no other is wanted
pub one_or_syntax : {A : Type 0} (i : Input) (p : Piece) (r : Outcome A) → (Next p i → Fits i (One p) Anything r)
    → Fits i (One p) Anything (if sees p i then r else syntax i)
one_or_syntax i p r f = by_seeing i p (One p) Anything r (syntax i) f (λ absent. stuck_here i (One p) Anything (record { pieces = p ∷ []; shaped = One.one }) (by_one absent))
  where
    by_one : (Next p i → ⊥) → (us vs : List Piece) → One p us → Anything (first vs) → first (us ++ vs) ≡ first (pieces_left i) → ⊥
    by_one absent us vs One.one follows h = absent (sym h)

pub expect_fits : (i : Input) (p : Piece) → Fits i (One p) Anything (expect p i)
unfolding expect
expect_fits i p = one_or_syntax i p (Ok (tt {0}, next i)) (λ h. took_one i (next i) p h (refl, refl))

one_over : (i : Input) (p : Piece) → Next p i → Parts i i.at (GoesOn (One p))
one_over i p h = faults_next i p (One p) [] h One.one

-- ---- names

-- a name of any size, where what is done with it takes it
pub name_then : {A : Type 0} (i : Input) (f : Parser A) → (Next pieces.Name i → Fits i (One pieces.Name) Anything (f i))
    → Fits i (One pieces.Name) Anything (and_then (name_ahead i) (λ _. f))
unfolding name_ahead
name_then i f g = by_test (sees pieces.Name i) refl
  where
    by_size : (b : Bool) → Next pieces.Name i → Fits i (One pieces.Name) Anything (and_then (if b then Ok (tt {0}, i) else oversize i) (λ _. f))
    by_size true h = g h
    by_size false h = one_over i pieces.Name h

    by_test : (b : Bool) → sees pieces.Name i ≡ b
        → Fits i (One pieces.Name) Anything (and_then (if b then (if nat_le (length (spelling i)) max_name then Ok (tt {0}, i) else oversize i) else syntax i) (λ _. f))
    by_test true h = by_size (nat_le (length (spelling i)) max_name) (sym (piece_first i) ∙ sees_piece pieces.Name i h)
    by_test false h = stuck_here i (One pieces.Name) Anything (record { pieces = pieces.Name ∷ []; shaped = One.one }) by_one
      where
        by_one : (us vs : List Piece) → One pieces.Name us → Anything (first vs) → first (us ++ vs) ≡ first (pieces_left i) → ⊥
        by_one us vs One.one follows is = let seen = piece_sees pieces.Name i (piece_first i ∙ sym is) in cc

pub name_fits : (i : Input) → Fits i (One pieces.Name) Anything (input.name i)
unfolding input.name
name_fits i = name_then i (λ k. Ok (spelling k, next k)) (λ h. took_one i (next i) pieces.Name h (refl, refl))

new_name_by_fits : (i : Input) (what : Declared) (d : Option Declared) → Next pieces.Name i → Fits i (One pieces.Name) Anything (new_name_by what d i)
unfolding with_name next
new_name_by_fits i what None h = took_one i (next (with_name what i)) pieces.Name h (refl, refl)
new_name_by_fits i what (Some before) h = one_over i pieces.Name h

pub new_name_fits : (i : Input) (what : Declared) → Fits i (One pieces.Name) Anything (new_name what i)
unfolding new_name
new_name_fits i what = name_then i (λ k. new_name_by what (declared k) k) (λ h. new_name_by_fits i what (declared i) h)

unit_by_fits : (i : Input) (d : Option Declared) → Next pieces.Name i → Fits i (One pieces.Name) Anything (unit_by d i)
unit_by_fits i (Some (declared_as_a.Unit u)) h = took_one i (next i) pieces.Name h (refl, refl)
unit_by_fits i _ h = one_over i pieces.Name h

pub unit_fits : (i : Input) → Fits i (One pieces.Name) Anything (input.unit i)
unfolding input.unit
unit_fits i = name_then i (λ k. unit_by (declared k) k) (λ h. unit_by_fits i (declared i) h)

event_by_fits : (i : Input) (d : Option Declared) → Next pieces.Name i → Fits i (One pieces.Name) Anything (event_by d i)
event_by_fits i (Some (declared_as_a.Event e)) h = took_one i (next i) pieces.Name h (refl, refl)
event_by_fits i _ h = one_over i pieces.Name h

pub event_fits : (i : Input) → Fits i (One pieces.Name) Anything (input.event i)
unfolding input.event
event_fits i = name_then i (λ k. event_by (declared k) k) (λ h. event_by_fits i (declared i) h)

variable_by_fits : (i : Input) (d : Option Declared) → Next pieces.Name i → Fits i (One pieces.Name) Anything (variable_by d i)
variable_by_fits i (Some (declared_as_a.Var x)) h = took_one i (next i) pieces.Name h (refl, refl)
variable_by_fits i _ h = one_over i pieces.Name h

pub variable_fits : (i : Input) → Fits i (One pieces.Name) Anything (input.variable i)
unfolding input.variable
variable_fits i = name_then i (λ k. variable_by (declared k) k) (λ h. variable_by_fits i (declared i) h)

activity_by_fits : (i : Input) (d : Option Declared) → Next pieces.Name i → Fits i (One pieces.Name) Anything (activity_by d i)
activity_by_fits i (Some (declared_as_a.Activity a)) h = took_one i (next i) pieces.Name h (refl, refl)
activity_by_fits i _ h = one_over i pieces.Name h

pub activity_fits : (i : Input) → Fits i (One pieces.Name) Anything (input.activity i)
unfolding input.activity
activity_fits i = name_then i (λ k. activity_by (declared k) k) (λ h. activity_by_fits i (declared i) h)

state_by_fits : (i : Input) (d : Option Declared) → Next pieces.Name i → Fits i (One pieces.Name) Anything (state_by d i)
state_by_fits i (Some (declared_as_a.State s)) h = took_one i (next i) pieces.Name h (refl, refl)
state_by_fits i _ h = one_over i pieces.Name h

pub state_fits : (i : Input) → Fits i (One pieces.Name) Anything (input.state i)
unfolding input.state
state_fits i = name_then i (λ k. state_by (declared k) k) (λ h. state_by_fits i (declared i) h)

-- ---- Ints, Texts and parentheses

int_by_fits : (i : Input) (n : Option ℕ) → Next pieces.Int i → Fits i (One pieces.Int) Anything (int_by n i)
int_by_fits i (Some n) h = took_one i (next i) pieces.Int h (refl, refl)
int_by_fits i None h = one_over i pieces.Int h

pub int_fits : (i : Input) (most : ℕ) → Fits i (One pieces.Int) Anything (int_up_to most i)
unfolding int_up_to
int_fits i most = one_or_syntax i pieces.Int (int_by (number_up_to most (spelling i)) i) (λ h. int_by_fits i (number_up_to most (spelling i)) h)

text_by_fits : (i : Input) (t : Option (List ℕ)) → Next pieces.Text i → Fits i (One pieces.Text) Anything (text_by t i)
text_by_fits i (Some t) h = took_one i (next i) pieces.Text h (refl, refl)
text_by_fits i None h = one_over i pieces.Text h

pub text_fits : (i : Input) → Fits i (One pieces.Text) Anything (input.text i)
unfolding input.text
text_fits i = one_or_syntax i pieces.Text (text_by (short_text (spelling i)) i) (λ h. text_by_fits i (short_text (spelling i)) h)

pub open_paren_fits : (i : Input) (depth : ℕ) → Fits i (One pieces.OpenParen) Anything (open_paren depth i)
unfolding open_paren
open_paren_fits i depth = one_or_syntax i pieces.OpenParen (if depth == 0 then oversize i else Ok (tt {0}, next i)) (by_depth (depth == 0))
  where
    by_depth : (b : Bool) → Next pieces.OpenParen i → Fits i (One pieces.OpenParen) Anything (if b then oversize i else Ok (tt {0}, next i))
    by_depth true h = one_over i pieces.OpenParen h
    by_depth false h = took_one i (next i) pieces.OpenParen h (refl, refl)

-- ---- nodes

-- one node more was counted
abbrev pub with_node : Input → Input
with_node i = record i { nodes = i.nodes + 1 }

-- a node is counted, or is too many, where its piece fits
pub node_then : {A : Type 0} (i : Input) (p : Piece) (ending : List Piece) (L : Shape) (F : Follow) (f : Parser A) → Next p i → L (p ∷ ending)
    → Fits (with_node i) L F (f (with_node i)) → Fits i L F (and_then (node i) (λ _. f))
unfolding node
node_then {A = A} i p ending L F f h shaped fits = by_test (nat_lt i.nodes max_nodes)
  where
    by_test : (b : Bool) → Fits i L F (and_then (if b then Ok (tt {0}, with_node i) else oversize i) (λ _. f))
    by_test true = same_fits i (with_node i) L F (f (with_node i)) (refl, refl) fits
    by_test false = faults_next i p L ending h shaped
