-- States take what their shapes say, and tell a fault of syntax at the first piece that fits none.
use Rattle.std.proofs.Common.{arith, ◌≡◌, ℕ, zero, suc, ◌≤◌, if◌then◌else◌, List, [], ◌∷◌, ◌++◌, length, Option, Some, None, Ok, refl, sym, ◌∙◌, ap, subst, append_assoc}
use Rattle.std.proofs.lemmas.List.{length-map}
use Rattle.wf_model.specs.Limits.{max_open}
use Rattle.wf_model.specs.declared.ids.StateId.{StateId}
use Rattle.wf_model.specs.declared.chart.Kind.{Kind as KindOf}
use Rattle.wf_model.specs.declared.chart.Kind.TheVariants as kinds
use Rattle.wf_cursor.specs.declared.names.Declared.TheVariants as declared_as_a
use Rattle.wf_cursor.specs.declared.piece.Piece.{Piece}
use Rattle.wf_cursor.specs.declared.piece.Piece.TheVariants as pieces
use Rattle.wf_cursor.specs.Input as input
use Rattle.wf_cursor.specs.Input.{Input, Outcome, Parser, and_then, ◌>>=◌, ◌>>◌, pure, peek, take, syntax, oversize, piece, next, eat, expect, new_name, here, changed, next_state, with_state}
use Rattle.wf_text.specs.States as reader
use Rattle.wf_text.specs.States.{kind, kind_by, kind_of, children_from, children, body_by, state_with, block, root, root_by}
use Rattle.wf_grammar.specs.Lexemes.{lexeme_of}
use Rattle.wf_grammar.specs.Drawing.{Part}
use Rattle.wf_grammar.proofs.Reading.{Follow}
use Rattle.wf_grammar.proofs.Follows.{Anything}
use Rattle.wf_viable.specs.Shapes.{Shape, first, One, Maybe, ◌·◌}
use Rattle.wf_viable.specs.Charts.{Kind, Head, Drawn}
use Rattle.wf_viable.proofs.Fits.{pieces_left, Fits, Productive, recast, recast_all, follows_less, then_fits}
use Rattle.wf_viable.proofs.Steps.{piece_first, Next, took_one, stuck_here, faults_next, then_keeps, expect_fits, new_name_fits, unit_fits}
use Rattle.wf_viable.proofs.Turns.{none_left}
use Rattle.wf_viable.proofs.Repeats.{some_one, some_then, Begins, then_begins, any_joins, maybe_some, maybe_none, one_then, next_then, eat_fits, shorter, word_took}

-- ---- the words of kinds

-- a state begins with this
abbrev pub StartsState : Follow
StartsState q = kind_of q ≡ None → ⊥

abbrev pub EndsRoot : Follow
EndsRoot q = kind_of q ≡ None

some_kind : Productive Kind
some_kind = record { pieces = pieces.Basic ∷ []; shaped = Kind.kind_basic }

kind_is : (p : Piece) (us vs : List Piece) → Kind us → first (us ++ vs) ≡ Some p → One p us
kind_is p us vs Kind.kind_basic is = let same : pieces.Basic ≡ p = cc in subst (λ q. One q (pieces.Basic ∷ [])) same One.one
kind_is p us vs Kind.kind_or is = let same : pieces.Or ≡ p = cc in subst (λ q. One q (pieces.Or ∷ [])) same One.one
kind_is p us vs Kind.kind_and is = let same : pieces.And ≡ p = cc in subst (λ q. One q (pieces.And ∷ [])) same One.one

kind_begins : Begins StartsState Kind
kind_begins us vs Kind.kind_basic is = cc
kind_begins us vs Kind.kind_or is = cc
kind_begins us vs Kind.kind_and is = cc

kind_fits : (i : Input) → Fits i Kind Anything (kind i)
unfolding kind
kind_fits i = by_piece (piece i) refl
  where
    by_piece : (q : Option Piece) → piece i ≡ q → Fits i Kind Anything (kind_by (kind_of q) i)
    by_piece (Some pieces.Basic) is = word_took i pieces.Basic Kind kinds.Basic (sym (piece_first i) ∙ is) Kind.kind_basic (kind_is pieces.Basic)
    by_piece (Some pieces.Or) is = word_took i pieces.Or Kind kinds.Or (sym (piece_first i) ∙ is) Kind.kind_or (kind_is pieces.Or)
    by_piece (Some pieces.And) is = word_took i pieces.And Kind kinds.And (sym (piece_first i) ∙ is) Kind.kind_and (kind_is pieces.And)
    by_piece q is = stuck_here i Kind Anything some_kind (λ us vs shaped follows at_hand. kind_begins us vs shaped (ap kind_of (at_hand ∙ sym (piece_first i) ∙ is)))

-- ---- the head of a state

abbrev AtUnit : Shape
AtUnit = One pieces.At · One pieces.Name

abbrev NameAtUnit : Shape
NameAtUnit = One pieces.Name · AtUnit

some_at : Productive AtUnit
some_at = some_then (One pieces.At) (One pieces.Name) (some_one pieces.At) (some_one pieces.Name)

some_name_at : Productive NameAtUnit
some_name_at = some_then (One pieces.Name) AtUnit (some_one pieces.Name) some_at

some_head : Productive Head
some_head = some_then Kind NameAtUnit some_kind some_name_at

head_fits : (i : Input) (parent : Option StateId) → Fits i Head Anything (reader.head parent i)
unfolding reader.head with_state
head_fits i parent =
    then_fits i Kind NameAtUnit Anything Anything (kind i) _ (any_joins NameAtUnit Anything) some_name_at (kind_fits i)
    (λ k j got. one_then j pieces.Name AtUnit Anything (new_name (declared_as_a.State (next_state j)) j) _ some_at (new_name_fits j (declared_as_a.State (next_state j)))
    (λ name l. one_then l pieces.At (One pieces.Name) Anything (expect pieces.At l) _ (some_one pieces.Name) (expect_fits l pieces.At)
    (λ a m. then_keeps m (One pieces.Name) Anything (input.unit m) _ (unit_fits m) (λ u n. (refl, refl)))))

-- ---- bodies

abbrev State : Shape
State = Drawn Part.state

abbrev Body : Shape
Body = Drawn Part.body

abbrev States : Shape
States = Drawn Part.states

-- { state } "}"
abbrev StatesClosed : Shape
StatesClosed = States · One pieces.CloseBrace

-- "{" { state } "}"
abbrev StatesInBraces : Shape
StatesInBraces = One pieces.OpenBrace · StatesClosed

-- the bodies that begin with this
abbrev BodyWith : Piece → Shape
BodyWith pieces.Semicolon = One pieces.Semicolon
BodyWith pieces.OpenBrace = StatesInBraces
BodyWith _ = λ ps. ⊥

is_in_braces : (us : List Piece) → StatesInBraces us → Body us
is_in_braces us both = subst Body (sym both.whole) (by_one both.front both.back both.is_front both.is_back)
  where
    by_close : (a b : List Piece) → States a → One pieces.CloseBrace b → Body (pieces.OpenBrace ∷ (a ++ b))
    by_close a b shaped One.one = Drawn.body_opens shaped

    by_one : (a b : List Piece) → One pieces.OpenBrace a → StatesClosed b → Body (a ++ b)
    by_one a b One.one both' = subst (λ x. Body (pieces.OpenBrace ∷ x)) (sym both'.whole) (by_close both'.front both'.back both'.is_front both'.is_back)

body_wider : (p : Piece) (us : List Piece) → BodyWith p us → Body us
body_wider pieces.Semicolon us One.one = Drawn.body_ends
body_wider pieces.OpenBrace us shaped = is_in_braces us shaped
body_wider _ us shaped = absurd shaped

body_narrow : (p : Piece) (us vs : List Piece) → Body us → first (us ++ vs) ≡ Some p → BodyWith p us
body_narrow p us vs Drawn.body_ends is = let same : pieces.Semicolon ≡ p = cc in subst (λ q. BodyWith q (pieces.Semicolon ∷ [])) same One.one
body_narrow p us vs (Drawn.body_opens {us = ws} inner) is =
    let same : pieces.OpenBrace ≡ p = cc in
    subst (λ q. BodyWith q (pieces.OpenBrace ∷ (ws ++ pieces.CloseBrace ∷ []))) same
    (record { front = pieces.OpenBrace ∷ []; back = ws ++ pieces.CloseBrace ∷ []; whole = refl; is_front = One.one; is_back = record { front = ws; back = pieces.CloseBrace ∷ []; whole = refl; is_front = inner; is_back = One.one } })

some_body : Productive Body
some_body = record { pieces = pieces.Semicolon ∷ []; shaped = Drawn.body_ends }

body_with : {A : Type 0} (i : Input) (p : Piece) (r : Outcome A) → Next p i → Fits i (BodyWith p) Anything r → Fits i Body Anything r
body_with i p r h fits = recast i (BodyWith p) Body Anything Anything r (record { wider = body_wider p; narrow = λ us vs shaped follows is. (body_narrow p us vs shaped (is ∙ h), tt) }) fits

-- ---- states

state_wider : (us : List Piece) → (Head · Body) us → State us
state_wider us both = subst State (sym both.whole) (Drawn.state both.is_front both.is_back)

state_narrower : (us : List Piece) → State us → (Head · Body) us
state_narrower ws (Drawn.state {us = us} {vs = vs} a b) = record { front = us; back = vs; whole = refl; is_front = a; is_back = b }

pub state_begins : Begins StartsState State
state_begins us vs shaped = then_begins StartsState Head Body (then_begins StartsState Kind NameAtUnit kind_begins) us vs (state_narrower us shaped)

starts_at_none : StartsState None → ⊥
starts_at_none h = h refl

-- the reader of what stands in braces takes it
abbrev NestedFits : (StateId → Parser (Unit {0})) → Type 0
NestedFits nested = (i : Input) (id : StateId) → Next pieces.OpenBrace i → Fits i StatesInBraces Anything (nested id i)

body_fits : (nested : StateId → Parser (Unit {0})) → NestedFits nested → (i : Input) (id : StateId) → Fits i Body Anything (body_by (nested id) (piece i) i)
body_fits nested nested_fits i id = by_piece (piece i) refl
  where
    by_piece : (q : Option Piece) → piece i ≡ q → Fits i Body Anything (body_by (nested id) q i)
    by_piece None is = stuck_here i Body Anything some_body (λ us vs shaped follows at_end. by_body us vs shaped (at_end ∙ sym (piece_first i) ∙ is))
      where
        by_body : (us vs : List Piece) → Body us → first (us ++ vs) ≡ None → ⊥
        by_body us vs Drawn.body_ends h = cc
        by_body us vs (Drawn.body_opens inner) h = cc
    by_piece (Some pieces.Semicolon) is =
        let h : Next pieces.Semicolon i = sym (piece_first i) ∙ is in
        body_with i pieces.Semicolon (take i) h (took_one i (next i) pieces.Semicolon h (refl, refl))
    by_piece (Some pieces.OpenBrace) is =
        let h : Next pieces.OpenBrace i = sym (piece_first i) ∙ is in
        body_with i pieces.OpenBrace (nested id i) h (nested_fits i id h)
    by_piece (Some p) is = stuck_here i Body Anything some_body (λ us vs shaped follows at_hand. body_narrow p us vs shaped (at_hand ∙ sym (piece_first i) ∙ is))

state_with_fits : (nested : StateId → Parser (Unit {0})) → NestedFits nested → (i : Input) (parent : Option StateId) → Fits i State Anything (state_with nested parent i)
unfolding state_with
state_with_fits nested nested_fits i parent =
    recast_all i (Head · Body) State Anything (state_with nested parent i) state_wider state_narrower
    (then_fits i Head Body Anything Anything (reader.head parent i) _ (any_joins Body Anything) some_body (head_fits i parent) (λ id j got. body_fits nested nested_fits j id))

-- ---- states up to a closing brace

some_closed : Productive StatesClosed
some_closed = record { pieces = pieces.CloseBrace ∷ []; shaped = record { front = []; back = pieces.CloseBrace ∷ []; whole = refl; is_front = Drawn.no_state; is_back = One.one } }

-- they begin with the brace or with a state
closed_begins : (us vs : List Piece) → StatesClosed us → (first (us ++ vs) ≡ Some pieces.CloseBrace → ⊥) → (State · StatesClosed) us
closed_begins us vs both absent = by_states both.front both.is_front both.whole
  where
    by_close : (b : List Piece) → One pieces.CloseBrace b → us ≡ b → ⊥
    by_close b One.one whole = absent (ap (λ x. first (x ++ vs)) whole)

    by_states : (a : List Piece) → States a → us ≡ a ++ both.back → (State · StatesClosed) us
    by_states a Drawn.no_state whole = absurd (by_close both.back both.is_back whole)
    by_states a (Drawn.more_states {us = ws} {vs = more} b c) whole = record {
      front = ws;
      back = more ++ both.back;
      whole = whole ∙ append_assoc ws more both.back;
      is_front = b;
      is_back = record { front = more; back = both.back; whole = refl; is_front = c; is_back = both.is_back };
    }

-- they begin with something
closed_is_some : (us vs : List Piece) → StatesClosed us → first (us ++ vs) ≡ None → ⊥
closed_is_some us vs both is =
    let more = closed_begins us vs both (λ h. cc) in
    then_begins StartsState State StatesClosed state_begins us vs more (ap kind_of is)

-- the brace alone
closed_now : {A : Type 0} (i : Input) (r : Outcome A) → Next pieces.CloseBrace i → Fits i (One pieces.CloseBrace) Anything r → Fits i StatesClosed Anything r
closed_now i r h fits = recast i (One pieces.CloseBrace) StatesClosed Anything Anything r (record { wider = wider; narrow = narrow }) fits
  where
    wider : (us : List Piece) → One pieces.CloseBrace us → StatesClosed us
    wider us shaped = record { front = []; back = us; whole = refl; is_front = Drawn.no_state; is_back = shaped }

    narrow : (us vs : List Piece) → StatesClosed us → Anything (first vs) → first (us ++ vs) ≡ first (pieces_left i) → One pieces.CloseBrace us × Anything (first vs)
    narrow us vs both follows is = by_states both.front both.is_front both.whole
      where
        by_states : (a : List Piece) → States a → us ≡ a ++ both.back → One pieces.CloseBrace us × Anything (first vs)
        by_states a Drawn.no_state whole = (subst (One pieces.CloseBrace) (sym whole) both.is_back, tt)
        by_states a (Drawn.more_states {us = ws} {vs = more} b c) whole =
            let same : us ++ vs ≡ ws ++ ((more ++ both.back) ++ vs) = ap (λ x. x ++ vs) (whole ∙ append_assoc ws more both.back) ∙ append_assoc ws (more ++ both.back) vs in
            absurd (state_begins ws ((more ++ both.back) ++ vs) b (ap kind_of (ap first (sym same) ∙ is ∙ h)))

-- a state before it
closed_later : {A : Type 0} (i : Input) (r : Outcome A) → (Next pieces.CloseBrace i → ⊥) → Fits i (State · StatesClosed) Anything r → Fits i StatesClosed Anything r
closed_later i r absent fits = recast i (State · StatesClosed) StatesClosed Anything Anything r (record { wider = wider; narrow = narrow }) fits
  where
    wider : (us : List Piece) → (State · StatesClosed) us → StatesClosed us
    wider us a = let b = a.is_back in record {
      front = a.front ++ b.front;
      back = b.back;
      whole = a.whole ∙ ap (λ x. a.front ++ x) b.whole ∙ sym (append_assoc a.front b.front b.back);
      is_front = Drawn.more_states a.is_front b.is_front;
      is_back = b.is_back;
    }

    narrow : (us vs : List Piece) → StatesClosed us → Anything (first vs) → first (us ++ vs) ≡ first (pieces_left i) → (State · StatesClosed) us × Anything (first vs)
    narrow us vs both follows is = (closed_begins us vs both (λ h. absent (sym is ∙ h)), tt)

children_from_fits : (child : Parser (Unit {0})) → ((k : Input) → Fits k State Anything (child k)) → (n : ℕ) (i : Input) → length (pieces_left i) ≤ n → Fits i StatesClosed Anything (children_from child n i)
unfolding children_from
children_from_fits child child_fits zero i short =
    stuck_here i StatesClosed Anything some_closed (λ us vs both follows is. closed_is_some us vs both (is ∙ ap first (none_left i short)))
children_from_fits child child_fits (suc n) i short =
    eat_fits i pieces.CloseBrace StatesClosed Anything (λ closed. if closed then pure tt else (child >> children_from child n))
    (λ h. closed_now i (Ok (tt {0}, next i)) h (took_one i (next i) pieces.CloseBrace h (refl, refl)))
    (λ absent. closed_later i ((child >> children_from child n) i) absent
    (then_fits i State StatesClosed Anything Anything (child i) (λ _. children_from child n) (any_joins StatesClosed Anything) some_closed (child_fits i)
    (λ x j got. children_from_fits child child_fits n j (let l = shorter StartsState Anything State state_begins starts_at_none i j (child i) x (child_fits i) got in omega arith))))

children_fits : (child : Parser (Unit {0})) → ((k : Input) → Fits k State Anything (child k)) → (i : Input) → Fits i StatesClosed Anything (children child i)
unfolding children
children_fits child child_fits i = children_from_fits child child_fits (length i.left) i (let l = length-map i.left (λ t. (lexeme_of i.text t).piece) in omega arith)

block_fits : (depth : ℕ) → NestedFits (block depth)
unfolding block some_closed
block_fits zero i id h =
    faults_next i pieces.OpenBrace StatesInBraces (pieces.CloseBrace ∷ []) h (record { front = pieces.OpenBrace ∷ []; back = pieces.CloseBrace ∷ []; whole = refl; is_front = One.one; is_back = some_closed.shaped })
block_fits (suc depth) i id h =
    next_then i pieces.OpenBrace StatesClosed Anything (children (state_with (block depth) (Some id)) (next i)) h
    (children_fits (state_with (block depth) (Some id)) (λ k. state_with_fits (block depth) (block_fits depth) k (Some id)) (next i))

-- ---- the root

root_apart : (q : Option Piece) → StartsState q → EndsRoot q → ⊥
root_apart q h ends = h ends

pub root_fits : (i : Input) → Fits i (Maybe State) EndsRoot (root i)
unfolding root
root_fits i = by_kind (kind_of (piece i)) refl
  where
    by_kind : (k : Option KindOf) → kind_of (piece i) ≡ k → Fits i (Maybe State) EndsRoot (root_by k i)
    by_kind None is = maybe_none StartsState EndsRoot State state_begins root_apart i (Ok (tt {0}, i)) (λ h. h (ap kind_of (sym (piece_first i)) ∙ is)) (refl, refl)
    by_kind (Some k) is =
        maybe_some StartsState EndsRoot State state_begins root_apart i (state_with (block max_open) None i) (λ h. (let there = ap kind_of (piece_first i) in cc))
        (follows_less i State Anything EndsRoot (state_with (block max_open) None i) (λ q a. tt) (state_with_fits (block max_open) (block_fits max_open) i None))
