-- What the outcome of a rule says of the pieces that it looked at, and that this holds of two rules one behind the other.
use Rattle.std.proofs.Common.{arith, ◌≡◌, ◌≤◌, ℕ, ◌+◌, List, [], ◌∷◌, ◌++◌, length, map, Option, Ok, Err, refl, sym, ◌∙◌, ap, subst, append_assoc, length-append}
use Rattle.wf_cursor.specs.declared.fault.TextFault.TheVariants as fault
use Rattle.wf_cursor.specs.declared.piece.Piece.{Piece}
use Rattle.wf_cursor.specs.Input.{Input, Outcome, Parser, and_then}
use Rattle.wf_grammar.specs.Lexemes.{lexeme_of}
use Rattle.wf_grammar.proofs.Reading.{Follow}
use Rattle.wf_viable.specs.Shapes.{Shape, first, ◌·◌}

-- the pieces that are left
abbrev pub pieces_left : Input → List Piece
pieces_left i = map (λ t. (lexeme_of i.text t).piece) i.left

-- These pieces are taken, and these are left: no other way of the shape, with what may follow it, goes as far.
pub record Takes (L : List Piece → Type 0) (F : Option Piece → Type 0) (us rest : List Piece) : Type 0 where
  pub shaped : L us
  pub alone : (us' vs' v : List Piece) → L us' → F (first vs') → us' ++ vs' ≡ us ++ v → first v ≡ first rest → vs' ≡ v

-- These pieces begin the shape, and with the next one nothing does that may be followed so.
pub record Misfits (L : List Piece → Type 0) (F : Option Piece → Type 0) (us rest : List Piece) : Type 0 where
  pub ending : List Piece
  pub begins : L (us ++ ending)
  pub stuck : (us' vs' v : List Piece) → L us' → F (first vs') → us' ++ vs' ≡ us ++ v → first v ≡ first rest → ⊥

-- these pieces and the next one begin the shape
pub record GoesOn (L : List Piece → Type 0) (us rest : List Piece) : Type 0 where
  pub piece : Piece
  pub more : List Piece
  pub ending : List Piece
  pub next : rest ≡ piece ∷ more
  pub begins : L (us ++ piece ∷ ending)

-- the pieces before a place, and those from there on
pub record Parts (i : Input) (at : ℕ) (P : List Piece → List Piece → Type 0) : Type 0 where
  pub us : List Piece
  pub rest : List Piece
  pub whole : pieces_left i ≡ us ++ rest
  pub place : at ≡ i.at + length us
  pub holds : P us rest

-- what was taken, where an outcome is an input
pub record Took (i j : Input) (L : List Piece → Type 0) (F : Option Piece → Type 0) : Type 0 where
  pub us : List Piece
  pub whole : pieces_left i ≡ us ++ pieces_left j
  pub place : j.at ≡ i.at + length us
  pub takes : Takes L F us (pieces_left j)

-- The outcome is that of the shape, where this may follow: what it takes is of the shape, a fault of syntax stands at the first
-- piece that doesn't fit, and another fault at one that fits.
abbrev pub Fits : {A : Type 0} → Input → Shape → Follow → Outcome A → Type 0
Fits i L F (Ok q) = Took i q.1 L F
Fits i L F (Err (fault.Syntax at)) = Parts i at (Misfits L F)
Fits i L F (Err (fault.UnknownName at)) = Parts i at (GoesOn L)
Fits i L F (Err (fault.DoubleName at)) = Parts i at (GoesOn L)
Fits i L F (Err (fault.Oversize at)) = Parts i at (GoesOn L)
Fits i L F (Err _) = ⊥

-- the same piece comes first behind the same ones
pub first_behind : (us v rest : List Piece) → first v ≡ first rest → first (us ++ v) ≡ first (us ++ rest)
first_behind [] v rest h = h
first_behind (p ∷ us) v rest h = refl

-- something has the shape
pub record Productive (L : List Piece → Type 0) : Type 0 where
  pub pieces : List Piece
  pub shaped : L pieces

-- ---- one behind the other

-- the second follows the first
abbrev pub Joins : Shape → Follow → Follow → Type 0
Joins M F G = (us vs : List Piece) → M us → G (first vs) → F (first (us ++ vs))

-- pieces behind pieces
longer : (i : Input) (us vs rest : List Piece) (w : List Piece) → pieces_left i ≡ us ++ w → w ≡ vs ++ rest → pieces_left i ≡ (us ++ vs) ++ rest
longer i us vs rest w h k = h ∙ ap (λ x. us ++ x) k ∙ sym (append_assoc us vs rest)

further : (us vs : List Piece) (a b c : ℕ) → b ≡ a + length us → c ≡ b + length vs → c ≡ a + length (us ++ vs)
further us vs a b c h k = let l = length-append us vs in omega arith

misfit_behind : (L M : Shape) (F G : Follow) (us vs rest w : List Piece) → Joins M F G → Takes L F us w → w ≡ vs ++ rest → Misfits M G vs rest → Misfits (L · M) G (us ++ vs) rest
misfit_behind L M F G us vs rest w joins takes whole misfits = record {
  ending = misfits.ending;
  begins = record { front = us; back = vs ++ misfits.ending; whole = append_assoc us vs misfits.ending; is_front = takes.shaped; is_back = misfits.begins };
  stuck = λ us' vs' v both follows same next.
      let after : first (vs ++ v) ≡ first w = first_behind vs v rest next ∙ ap first (sym whole) in
      let whole' : both.front ++ (both.back ++ vs') ≡ us ++ (vs ++ v) = sym (append_assoc both.front both.back vs') ∙ ap (λ x. x ++ vs') (sym both.whole) ∙ same ∙ append_assoc us vs v in
      let second = takes.alone both.front (both.back ++ vs') (vs ++ v) both.is_front (joins both.back vs' both.is_back follows) whole' after in
      misfits.stuck both.back vs' v both.is_back follows second next;
}

goes_on_behind : (L M : Shape) (us vs rest : List Piece) → L us → GoesOn M vs rest → GoesOn (L · M) (us ++ vs) rest
goes_on_behind L M us vs rest shaped goes = record {
  piece = goes.piece;
  more = goes.more;
  ending = goes.ending;
  next = goes.next;
  begins = record { front = us; back = vs ++ goes.piece ∷ goes.ending; whole = append_assoc us vs (goes.piece ∷ goes.ending); is_front = shaped; is_back = goes.begins };
}

takes_both : (L M : Shape) (F G : Follow) (us vs rest w : List Piece) → Joins M F G → Takes L F us w → w ≡ vs ++ rest → Takes M G vs rest → Takes (L · M) G (us ++ vs) rest
takes_both L M F G us vs rest w joins takes whole second_takes = record {
  shaped = record { front = us; back = vs; whole = refl; is_front = takes.shaped; is_back = second_takes.shaped };
  alone = λ us' vs' v both follows same next.
      let after : first (vs ++ v) ≡ first w = first_behind vs v rest next ∙ ap first (sym whole) in
      let whole' : both.front ++ (both.back ++ vs') ≡ us ++ (vs ++ v) = sym (append_assoc both.front both.back vs') ∙ ap (λ x. x ++ vs') (sym both.whole) ∙ same ∙ append_assoc us vs v in
      let second = takes.alone both.front (both.back ++ vs') (vs ++ v) both.is_front (joins both.back vs' both.is_back follows) whole' after in
      second_takes.alone both.back vs' v both.is_back follows second next;
}

-- a fault behind what was taken
parts_behind : (i j : Input) (at : ℕ) (us : List Piece) (P Q : List Piece → List Piece → Type 0) → pieces_left i ≡ us ++ pieces_left j → j.at ≡ i.at + length us
    → ((vs rest : List Piece) → pieces_left j ≡ vs ++ rest → P vs rest → Q (us ++ vs) rest) → Parts j at P → Parts i at Q
parts_behind i j at us P Q whole place f parts = record {
  us = us ++ parts.us;
  rest = parts.rest;
  whole = longer i us parts.us parts.rest (pieces_left j) whole parts.whole;
  place = further us parts.us i.at j.at at place parts.place;
  holds = f parts.us parts.rest parts.whole parts.holds;
}

-- what the second does, behind what the first took
pub behind_fits : {B : Type 0} (i j : Input) (L M : Shape) (F G : Follow) (s : Outcome B) → Joins M F G → Took i j L F → Fits j M G s → Fits i (L · M) G s
behind_fits i j L M F G (Ok q) joins took fits = record {
  us = took.us ++ fits.us;
  whole = longer i took.us fits.us (pieces_left q.1) (pieces_left j) took.whole fits.whole;
  place = further took.us fits.us i.at j.at q.1.at took.place fits.place;
  takes = takes_both L M F G took.us fits.us (pieces_left q.1) (pieces_left j) joins took.takes fits.whole fits.takes;
}
behind_fits i j L M F G (Err (fault.Syntax at)) joins took fits =
    parts_behind i j at took.us (Misfits M G) (Misfits (L · M) G) took.whole took.place (λ vs rest w m. misfit_behind L M F G took.us vs rest (pieces_left j) joins took.takes w m) fits
behind_fits i j L M F G (Err (fault.UnknownName at)) joins took fits =
    parts_behind i j at took.us (GoesOn M) (GoesOn (L · M)) took.whole took.place (λ vs rest w m. goes_on_behind L M took.us vs rest took.takes.shaped m) fits
behind_fits i j L M F G (Err (fault.DoubleName at)) joins took fits =
    parts_behind i j at took.us (GoesOn M) (GoesOn (L · M)) took.whole took.place (λ vs rest w m. goes_on_behind L M took.us vs rest took.takes.shaped m) fits
behind_fits i j L M F G (Err (fault.Oversize at)) joins took fits =
    parts_behind i j at took.us (GoesOn M) (GoesOn (L · M)) took.whole took.place (λ vs rest w m. goes_on_behind L M took.us vs rest took.takes.shaped m) fits
behind_fits i j L M F G (Err _) joins took fits = absurd fits

-- a fault of the first
parts_before : (i : Input) (at : ℕ) (P Q : List Piece → List Piece → Type 0) → ((us rest : List Piece) → P us rest → Q us rest) → Parts i at P → Parts i at Q
parts_before i at P Q f parts = record { us = parts.us; rest = parts.rest; whole = parts.whole; place = parts.place; holds = f parts.us parts.rest parts.holds }

misfit_before : (L M : Shape) (F G : Follow) (us rest : List Piece) → Joins M F G → Productive M → Misfits L F us rest → Misfits (L · M) G us rest
misfit_before L M F G us rest joins some misfits = record {
  ending = misfits.ending ++ some.pieces;
  begins = record { front = us ++ misfits.ending; back = some.pieces; whole = sym (append_assoc us misfits.ending some.pieces); is_front = misfits.begins; is_back = some.shaped };
  stuck = λ us' vs' v both follows same next.
      let whole' : both.front ++ (both.back ++ vs') ≡ us ++ v = sym (append_assoc both.front both.back vs') ∙ ap (λ x. x ++ vs') (sym both.whole) ∙ same in
      misfits.stuck both.front (both.back ++ vs') v both.is_front (joins both.back vs' both.is_back follows) whole' next;
}

goes_on_before : (L M : Shape) (us rest : List Piece) → Productive M → GoesOn L us rest → GoesOn (L · M) us rest
goes_on_before L M us rest some goes = record {
  piece = goes.piece;
  more = goes.more;
  ending = goes.ending ++ some.pieces;
  next = goes.next;
  begins = record { front = us ++ goes.piece ∷ goes.ending; back = some.pieces; whole = sym (append_assoc us (goes.piece ∷ goes.ending) some.pieces); is_front = goes.begins; is_back = some.shaped };
}

pub then_fits : {A B : Type 0} (i : Input) (L M : Shape) (F G : Follow) (r : Outcome A) (f : A → Parser B) → Joins M F G → Productive M
    → Fits i L F r → ((x : A) (j : Input) → r ≡ Ok (x, j) → Fits j M G (f x j)) → Fits i (L · M) G (and_then r f)
then_fits i L M F G (Ok q) f joins some fits goes = behind_fits i q.1 L M F G (f q.0 q.1) joins fits (goes q.0 q.1 refl)
then_fits i L M F G (Err (fault.Syntax at)) f joins some fits goes = parts_before i at (Misfits L F) (Misfits (L · M) G) (λ us rest m. misfit_before L M F G us rest joins some m) fits
then_fits i L M F G (Err (fault.UnknownName at)) f joins some fits goes = parts_before i at (GoesOn L) (GoesOn (L · M)) (λ us rest m. goes_on_before L M us rest some m) fits
then_fits i L M F G (Err (fault.DoubleName at)) f joins some fits goes = parts_before i at (GoesOn L) (GoesOn (L · M)) (λ us rest m. goes_on_before L M us rest some m) fits
then_fits i L M F G (Err (fault.Oversize at)) f joins some fits goes = parts_before i at (GoesOn L) (GoesOn (L · M)) (λ us rest m. goes_on_before L M us rest some m) fits
then_fits i L M F G (Err _) f joins some fits goes = absurd fits

-- ---- another shape

-- the second shape has all of the first, and the same ones begin with the piece that is next
pub record Recasts (i : Input) (L : List Piece → Type 0) (F : Option Piece → Type 0) (M : List Piece → Type 0) (G : Option Piece → Type 0) : Type 0 where
  pub wider : (us : List Piece) → L us → M us
  pub narrow : (us vs : List Piece) → M us → G (first vs) → first (us ++ vs) ≡ first (pieces_left i) → L us × F (first vs)

-- what begins as the pieces that are left
at_next : (i : Input) (us rest us' vs' v : List Piece) → pieces_left i ≡ us ++ rest → us' ++ vs' ≡ us ++ v → first v ≡ first rest → first (us' ++ vs') ≡ first (pieces_left i)
at_next i us rest us' vs' v whole same next = ap first same ∙ first_behind us v rest next ∙ ap first (sym whole)

recast_parts : (i : Input) (at : ℕ) (L M : Shape) (F G : Follow) → Recasts i L F M G → Parts i at (Misfits L F) → Parts i at (Misfits M G)
recast_parts i at L M F G recasts parts = record {
  us = parts.us;
  rest = parts.rest;
  whole = parts.whole;
  place = parts.place;
  holds = record {
    ending = parts.holds.ending;
    begins = recasts.wider (parts.us ++ parts.holds.ending) parts.holds.begins;
    stuck = λ us' vs' v shaped follows same next.
        let both = recasts.narrow us' vs' shaped follows (at_next i parts.us parts.rest us' vs' v parts.whole same next) in
        parts.holds.stuck us' vs' v both.0 both.1 same next;
  };
}

recast_goes_on : (i : Input) (at : ℕ) (L M : Shape) → ((us : List Piece) → L us → M us) → Parts i at (GoesOn L) → Parts i at (GoesOn M)
recast_goes_on i at L M wider parts = record {
  us = parts.us;
  rest = parts.rest;
  whole = parts.whole;
  place = parts.place;
  holds = record {
    piece = parts.holds.piece;
    more = parts.holds.more;
    ending = parts.holds.ending;
    next = parts.holds.next;
    begins = wider (parts.us ++ parts.holds.piece ∷ parts.holds.ending) parts.holds.begins;
  };
}

pub recast : {A : Type 0} (i : Input) (L M : Shape) (F G : Follow) (r : Outcome A) → Recasts i L F M G → Fits i L F r → Fits i M G r
recast i L M F G (Ok q) recasts fits = record {
  us = fits.us;
  whole = fits.whole;
  place = fits.place;
  takes = record {
    shaped = recasts.wider fits.us fits.takes.shaped;
    alone = λ us' vs' v shaped follows same next.
        let both = recasts.narrow us' vs' shaped follows (at_next i fits.us (pieces_left q.1) us' vs' v fits.whole same next) in
        fits.takes.alone us' vs' v both.0 both.1 same next;
  };
}
recast i L M F G (Err (fault.Syntax at)) recasts fits = recast_parts i at L M F G recasts fits
recast i L M F G (Err (fault.UnknownName at)) recasts fits = recast_goes_on i at L M recasts.wider fits
recast i L M F G (Err (fault.DoubleName at)) recasts fits = recast_goes_on i at L M recasts.wider fits
recast i L M F G (Err (fault.Oversize at)) recasts fits = recast_goes_on i at L M recasts.wider fits
recast i L M F G (Err _) recasts fits = absurd fits

-- two shapes that are the same
pub recast_all : {A : Type 0} (i : Input) (L M : Shape) (F : Follow) (r : Outcome A) → ((us : List Piece) → L us → M us) → ((us : List Piece) → M us → L us) → Fits i L F r → Fits i M F r
recast_all i L M F r wider narrower fits = recast i L M F F r (record { wider = wider; narrow = λ us vs shaped follows is. (narrower us shaped, follows) }) fits

-- what follows may be less
pub follows_less : {A : Type 0} (i : Input) (L : Shape) (F G : Follow) (r : Outcome A) → ((q : Option Piece) → G q → F q) → Fits i L F r → Fits i L G r
follows_less i L F G r less fits = recast i L L F G r (record { wider = λ us shaped. shaped; narrow = λ us vs shaped follows is. (shaped, less (first vs) follows) }) fits

-- no more is left than before
pub no_longer : {A : Type 0} (i j : Input) (L : Shape) (F : Follow) (r : Outcome A) (x : A) → Fits i L F r → r ≡ Ok (x, j) → length (pieces_left j) ≤ length (pieces_left i)
no_longer {A} i j L F r x fits is =
    let took : Took i j L F = subst (λ (s : Outcome A). Fits i L F s) is fits in
    let l = length-append took.us (pieces_left j) in
    let w = ap length took.whole in omega arith
