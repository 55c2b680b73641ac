-- What the steps of rules do, at an input that is given by what they change of it.
use Rattle.std.proofs.Common.{rules, arith, ◌≡◌, ℕ, ◌+◌, ◌<◌, ◌≤◌, true, nat_lt, nat_le, List, [], ◌∷◌, Option, Some, None, Ok, Err, refl, ap}
use Rattle.std.proofs.lemmas.Bool.Decides.{nat_tests}
use denote.Enum.Bare.{same_true, true_same}
use Rattle.wf_lex.specs.declared.token.Token.{Token}
use Rattle.wf_cursor.specs.contracts.piece.Piece.{the_type}
use Rattle.wf_cursor.specs.declared.piece.Piece.{Piece}
use Rattle.wf_cursor.specs.Pieces.{same_piece}
use Rattle.wf_cursor.specs.Names.{declared_as}
use Rattle.wf_cursor.specs.Input.{declared, Input, Outcome, Parser, and_then, ◌>>=◌, pure, piece, spelling, ahead, next, sees, is_piece}
use Rattle.wf_grammar.specs.Lexemes.{lexeme_of}
use Rattle.wf_grammar.specs.Phrases.{Is}

-- the input with these tokens left, at this place, with so many nodes
abbrev pub here : Input → List Token → ℕ → ℕ → Input
here i left at count = record i { left = left; at = at; nodes = count }

pub piece_here : (i : Input) (t : Token) (rest : List Token) (at count : ℕ) → piece (here i (t ∷ rest) at count) ≡ Some (lexeme_of i.text t).piece
unfolding piece spelling ahead
piece_here i t rest at count = refl

pub piece_none : (i : Input) (at count : ℕ) → piece (here i [] at count) ≡ None
unfolding piece ahead
piece_none i at count = refl

pub spelling_here : (i : Input) (t : Token) (rest : List Token) (at count : ℕ) → spelling (here i (t ∷ rest) at count) ≡ (lexeme_of i.text t).bytes
unfolding spelling ahead
spelling_here i t rest at count = refl

pub next_here : (i : Input) (t : Token) (rest : List Token) (at count : ℕ) → next (here i (t ∷ rest) at count) ≡ here i rest (at + 1) count
unfolding next
next_here i t rest at count = refl

-- what the name is declared as
pub declared_here : (i : Input) (t : Token) (rest : List Token) (at count : ℕ) → declared (here i (t ∷ rest) at count) ≡ declared_as i.names (lexeme_of i.text t).bytes
unfolding declared
declared_here i t rest at count = rw (spelling_here i t rest at count) refl

-- a piece is itself, and no other
pub same_is : (p q : Piece) → same_piece p q ≡ true → p ≡ q
unfolding same_piece
same_is p q h = same_true the_type (search rules) p q h

pub is_same : (p q : Piece) → p ≡ q → same_piece p q ≡ true
unfolding same_piece
is_same p q h = true_same the_type p q h

-- the next token is this piece
pub sees_piece : (p : Piece) (i : Input) → sees p i ≡ true → piece i ≡ Some p
unfolding sees
sees_piece p i h = by_piece (piece i) h
  where
    by_piece : (found : Option Piece) → is_piece p found ≡ true → found ≡ Some p
    by_piece None seen = cc
    by_piece (Some q) seen = let same : q ≡ p = same_is q p seen in cc

pub piece_sees : (p : Piece) (i : Input) → piece i ≡ Some p → sees p i ≡ true
unfolding sees
piece_sees p i h = rw h (is_same p p refl)

-- the token that is seen
pub record Seen (i : Input) (p : Piece) (left : List Token) : Type 0 where
  pub token : Token
  pub rest : List Token
  pub whole : left ≡ token ∷ rest
  pub is : Is p (lexeme_of i.text token)

pub seen_here : (i : Input) (p : Piece) (left : List Token) (at count : ℕ) → sees p (here i left at count) ≡ true → Seen i p left
seen_here i p [] at count h = let absent = piece_none i at count in let there = sees_piece p (here i [] at count) h in cc
seen_here i p (t ∷ rest) at count h =
    record { token = t; rest = rest; whole = refl; is = (let at_hand = piece_here i t rest at count in let there = sees_piece p (here i (t ∷ rest) at count) h in cc) }

-- tests of numbers
pub less_is : (n m : ℕ) → nat_lt n m ≡ true → n < m
less_is n m h = grind (arith, nat_tests)

pub is_less : (n m : ℕ) → n < m → nat_lt n m ≡ true
is_less n m h = grind (arith, nat_tests)

pub fits_is : (n m : ℕ) → nat_le n m ≡ true → n ≤ m
fits_is n m h = grind (arith, nat_tests)

pub is_fit : (n m : ℕ) → n ≤ m → nat_le n m ≡ true
is_fit n m h = grind (arith, nat_tests)

-- two steps of which both answer
pub record Steps {A B : Type 0} (r : Outcome A) (f : A → Parser B) (y : B) (j : Input) : Type 0 where
  pub value : A
  pub between : Input
  pub first : r ≡ Ok (value, between)
  pub second : f value between ≡ Ok (y, j)

pub steps_of : {A B : Type 0} (r : Outcome A) (f : A → Parser B) (y : B) (j : Input) → and_then r f ≡ Ok (y, j) → Steps r f y j
steps_of (Ok q) f y j h = record { value = q.0; between = q.1; first = refl; second = h }
steps_of (Err d) f y j h = cc

pub then_assoc : {A B C : Type 0} (r : Outcome A) (f : A → Parser B) (g : B → Parser C) → and_then (and_then r f) g ≡ and_then r (λ a. f a >>= g)
then_assoc (Ok q) f g = refl
then_assoc (Err d) f g = refl

-- what `pure` answers
pub pure_gives : {A : Type 0} (a b : A) (k j : Input) → pure a k ≡ Ok (b, j) → (a ≡ b) × (k ≡ j)
pure_gives {A} a b k j h =
    let both : ◌≡◌ {A = A × Input} (a, k) (b, j) = cc in
    (ap (λ (q : A × Input). q.0) both, ap (λ (q : A × Input). q.1) both)
