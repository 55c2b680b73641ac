-- What may be left out, and what may come any number of times: the next piece tells whether it comes.
use Rattle.std.proofs.Common.{arith, ◌≡◌, suc, ◌≤◌, Bool, true, false, if◌then◌else◌, List, [], ◌∷◌, ◌++◌, length, Option, Some, None, Ok, Err, refl, sym, ◌∙◌, ap, subst, append_assoc, length-append}
use Rattle.wf_cursor.specs.declared.piece.Piece.{Piece}
use Rattle.wf_cursor.specs.Input.{Input, Outcome, Parser, and_then, next, sees, eat}
use Rattle.wf_grammar.proofs.Inputs.{sees_piece, piece_sees}
use Rattle.wf_grammar.proofs.Reading.{Follow}
use Rattle.wf_grammar.proofs.Follows.{Anything}
use Rattle.wf_viable.specs.Shapes.{Shape, first, One, Maybe, Many, ◌·◌}
use Rattle.wf_viable.proofs.Fits.{pieces_left, Took, Fits, Productive, Joins, recast, recast_all, behind_fits, then_fits}
use Rattle.wf_viable.proofs.Steps.{piece_first, Next, Keeps, took_one, took_none}

-- ---- something has the shape

pub some_one : (p : Piece) → Productive (One p)
some_one p = record { pieces = p ∷ []; shaped = One.one }

pub some_then : (L M : Shape) → Productive L → Productive M → Productive (L · M)
some_then L M a b = record { pieces = a.pieces ++ b.pieces; shaped = record { front = a.pieces; back = b.pieces; whole = refl; is_front = a.shaped; is_back = b.shaped } }

pub some_maybe : (L : Shape) → Productive (Maybe L)
some_maybe L = record { pieces = []; shaped = Maybe.nothing }

pub some_many : (L : Shape) → Productive (Many L)
some_many L = record { pieces = []; shaped = Many.none }

-- ---- what comes first

-- what has the shape begins with one of these
abbrev pub Begins : Follow → Shape → Type 0
Begins S L = (us vs : List Piece) → L us → S (first (us ++ vs))

-- the next piece is this one
abbrev pub Is : Piece → Follow
Is p q = q ≡ Some p

-- or is not
abbrev pub IsNot : Piece → Follow
IsNot p q = q ≡ Some p → ⊥

pub one_begins : (p : Piece) → Begins (Is p) (One p)
one_begins p us vs One.one = refl

pub then_begins : (S : Follow) (L M : Shape) → Begins S L → Begins S (L · M)
then_begins S L M begins us vs both =
    subst (λ x. S (first x)) (sym (append_assoc both.front both.back vs) ∙ ap (λ x. x ++ vs) (sym both.whole)) (begins both.front (both.back ++ vs) both.is_front)

pub begins_with : (p : Piece) (M : Shape) → Begins (Is p) (One p · M)
begins_with p M = then_begins (Is p) (One p) M (one_begins p)

pub is_apart : (p : Piece) (q : Option Piece) → Is p q → IsNot p q → ⊥
is_apart p q h no_such = no_such h

-- ---- what may follow

pub any_joins : (M : Shape) (G : Follow) → Joins M Anything G
any_joins M G us vs shaped follows = tt

pub begun_joins : (S : Follow) (M : Shape) (F G : Follow) → Begins S M → ((q : Option Piece) → S q → F q) → Joins M F G
begun_joins S M F G begins may us vs shaped follows = may (first (us ++ vs)) (begins us vs shaped)

pub maybe_joins : (S : Follow) (L M : Shape) (F G : Follow) → Begins S L → ((q : Option Piece) → S q → F q) → Joins M F G → Joins (Maybe L · M) F G
maybe_joins S L M F G begins may joins us vs both follows =
    subst (λ x. F (first x)) (sym (append_assoc both.front both.back vs) ∙ ap (λ x. x ++ vs) (sym both.whole)) (by_case both.front both.is_front)
  where
    by_case : (a : List Piece) → Maybe L a → F (first (a ++ (both.back ++ vs)))
    by_case a Maybe.nothing = joins both.back vs both.is_back follows
    by_case a (Maybe.something shaped) = may (first (a ++ (both.back ++ vs))) (begins a (both.back ++ vs) shaped)

pub many_joins : (S : Follow) (L : Shape) (F G : Follow) → Begins S L → ((q : Option Piece) → S q → F q) → ((q : Option Piece) → G q → F q) → Joins (Many L) F G
many_joins S L F G begins may less us vs Many.none follows = less (first vs) follows
many_joins S L F G begins may less ws more (Many.more {us = us} {vs = vs} a b) follows =
    subst (λ x. F (first x)) (sym (append_assoc us vs more)) (may (first (us ++ (vs ++ more))) (begins us (vs ++ more) a))

-- ---- what is left out

-- nothing is taken, where what is next begins nothing but the empty one
pub nothing_fits : {A : Type 0} (i : Input) (L : Shape) (F : Follow) (r : Outcome A) → Keeps i r → L []
    → ((us vs : List Piece) → L us → F (first vs) → first (us ++ vs) ≡ first (pieces_left i) → us ≡ []) → Fits i L F r
nothing_fits i L F (Ok q) keeps empty only = took_none i q.1 L F keeps empty only
nothing_fits i L F (Err e) keeps empty only = absurd keeps

module _ (S F : Follow) (L : Shape) (begins : Begins S L) (apart : (q : Option Piece) → S q → F q → ⊥) where
  pub maybe_some : {A : Type 0} (i : Input) (r : Outcome A) → S (first (pieces_left i)) → Fits i L F r → Fits i (Maybe L) F r
  maybe_some i r h fits = recast i L (Maybe L) F F r (record { wider = λ us shaped. Maybe.something shaped; narrow = narrow }) fits
    where
      narrow : (us vs : List Piece) → Maybe L us → F (first vs) → first (us ++ vs) ≡ first (pieces_left i) → L us × F (first vs)
      narrow us vs Maybe.nothing follows is = absurd (apart (first vs) (subst S (sym is) h) follows)
      narrow us vs (Maybe.something shaped) follows is = (shaped, follows)

  pub maybe_none : {A : Type 0} (i : Input) (r : Outcome A) → (S (first (pieces_left i)) → ⊥) → Keeps i r → Fits i (Maybe L) F r
  maybe_none i r absent keeps = nothing_fits i (Maybe L) F r keeps Maybe.nothing only
    where
      only : (us vs : List Piece) → Maybe L us → F (first vs) → first (us ++ vs) ≡ first (pieces_left i) → us ≡ []
      only us vs Maybe.nothing follows is = refl
      only us vs (Maybe.something shaped) follows is = absurd (absent (subst S is (begins us vs shaped)))

  pub many_more : {A : Type 0} (i : Input) (r : Outcome A) → S (first (pieces_left i)) → Fits i (L · Many L) F r → Fits i (Many L) F r
  many_more i r h fits = recast i (L · Many L) (Many L) F F r (record { wider = λ us both. subst (Many L) (sym both.whole) (Many.more both.is_front both.is_back); narrow = narrow }) fits
    where
      narrow : (us vs : List Piece) → Many L us → F (first vs) → first (us ++ vs) ≡ first (pieces_left i) → (L · Many L) us × F (first vs)
      narrow us vs Many.none follows is = absurd (apart (first vs) (subst S (sym is) h) follows)
      narrow ws more (Many.more {us = us} {vs = vs} a b) follows is = (record { front = us; back = vs; whole = refl; is_front = a; is_back = b }, follows)

  pub many_none : {A : Type 0} (i : Input) (r : Outcome A) → (S (first (pieces_left i)) → ⊥) → Keeps i r → Fits i (Many L) F r
  many_none i r absent keeps = nothing_fits i (Many L) F r keeps Many.none only
    where
      only : (us vs : List Piece) → Many L us → F (first vs) → first (us ++ vs) ≡ first (pieces_left i) → us ≡ []
      only us vs Many.none follows is = refl
      only ws more (Many.more {us = us} {vs = vs} a b) follows is =
          absurd (absent (subst S is (subst (λ x. S (first x)) (sym (append_assoc us vs more)) (begins us (vs ++ more) a))))

-- ---- one piece and more

-- a piece that a rule takes, and what is read behind it
pub one_then : {A B : Type 0} (i : Input) (p : Piece) (M : Shape) (G : Follow) (r : Outcome A) (f : A → Parser B) → Productive M
    → Fits i (One p) Anything r → ((x : A) (j : Input) → Fits j M G (f x j)) → Fits i (One p · M) G (and_then r f)
one_then i p M G r f some fits goes = then_fits i (One p) M Anything G r f (any_joins M G) some fits (λ x j got. goes x j)

-- the next piece is taken, and then more is read
pub next_then : {A : Type 0} (i : Input) (p : Piece) (M : Shape) (G : Follow) (r : Outcome A) → Next p i → Fits (next i) M G r → Fits i (One p · M) G r
next_then i p M G r h fits = behind_fits i (next i) (One p) M Anything G r (any_joins M G) (took_one i (next i) p h (refl, refl)) fits

-- a word that is taken, of those of which the shape is one
pub word_took : {A : Type 0} (i : Input) (p : Piece) (L : Shape) (x : A) → Next p i → L (p ∷ []) → ((us vs : List Piece) → L us → first (us ++ vs) ≡ Some p → One p us)
    → Fits i L Anything (Ok (x, next i))
word_took i p L x h shaped only =
    recast i (One p) L Anything Anything (Ok (x, next i)) (record { wider = wider; narrow = λ us vs shaped' follows is. (only us vs shaped' (is ∙ h), tt) }) (took_one i (next i) p h (refl, refl))
  where
    wider : (us : List Piece) → One p us → L us
    wider us One.one = shaped

-- by whether the next piece is taken
pub eat_fits : {B : Type 0} (i : Input) (p : Piece) (L : Shape) (F : Follow) (f : Bool → Parser B) → (Next p i → Fits i L F (f true (next i)))
    → ((Next p i → ⊥) → Fits i L F (f false i)) → Fits i L F (and_then (eat p i) f)
unfolding eat
eat_fits i p L F f taken kept = by_test (sees p i) refl
  where
    by_test : (b : Bool) → sees p i ≡ b → Fits i L F (f b (if b then next i else i))
    by_test true h = taken (sym (piece_first i) ∙ sees_piece p i h)
    by_test false h = kept (λ is. (let seen = piece_sees p i (piece_first i ∙ is) in cc))

-- the first two of three, as one
pub regroup : {A : Type 0} (i : Input) (L M N : Shape) (F : Follow) (r : Outcome A) → Fits i (L · M · N) F r → Fits i ((L · M) · N) F r
regroup i L M N F r fits = recast_all i (L · M · N) ((L · M) · N) F r wider narrower fits
  where
    wider : (us : List Piece) → (L · M · N) us → ((L · M) · N) us
    wider us a = let b = a.is_back in record {
      front = a.front ++ b.front;
      back = b.back;
      whole = a.whole ∙ ap (λ x. a.front ++ x) b.whole ∙ sym (append_assoc a.front b.front b.back);
      is_front = record { front = a.front; back = b.front; whole = refl; is_front = a.is_front; is_back = b.is_front };
      is_back = b.is_back;
    }

    narrower : (us : List Piece) → ((L · M) · N) us → (L · M · N) us
    narrower us a = let b = a.is_front in record {
      front = b.front;
      back = b.back ++ a.back;
      whole = a.whole ∙ ap (λ x. x ++ a.back) b.whole ∙ append_assoc b.front b.back a.back;
      is_front = b.is_front;
      is_back = record { front = b.back; back = a.back; whole = refl; is_front = b.is_back; is_back = a.is_back };
    }

-- what is not empty leaves less than there was
pub shorter : {A : Type 0} (S F : Follow) (L : Shape) → Begins S L → (S None → ⊥) → (i j : Input) (r : Outcome A) (x : A) → Fits i L F r → r ≡ Ok (x, j)
    → suc (length (pieces_left j)) ≤ length (pieces_left i)
shorter {A = A} S F L begins never i j r x fits is =
    let took : Took i j L F = subst (λ (s : Outcome A). Fits i L F s) is fits in
    let l = length-append took.us (pieces_left j) in
    let w = ap length took.whole in
    let some = by_list took.us took.takes.shaped in omega arith
  where
    by_list : (us : List Piece) → L us → 1 ≤ length us
    by_list [] shaped = absurd (never (begins [] [] shaped))
    by_list (p ∷ us) shaped = omega arith
