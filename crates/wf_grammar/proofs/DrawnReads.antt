-- States of the grammar are read.
use Rattle.std.proofs.Common.{◌≡◌, ◌≢◌, ℕ, zero, suc, ◌<◌, ◌≤◌, List, [], ◌∷◌, ◌++◌, length, map, Option, Some, None, refl, sym, ◌∙◌, ap, subst, append_assoc, length-append, arith}
use Rattle.std.proofs.lemmas.List.{length-map}
use Rattle.wf_model.specs.declared.ids.StateId.{StateId}
use Rattle.wf_model.specs.declared.chart.Kind.{Kind}
use Rattle.wf_model.specs.declared.chart.Kind.TheVariants as kinds
use Rattle.wf_lex.specs.declared.token.Token.{Token}
use Rattle.wf_cursor.specs.declared.names.Declared.TheVariants as declared_as_a
use Rattle.wf_cursor.specs.declared.piece.Piece.{Piece}
use Rattle.wf_cursor.specs.declared.piece.Piece.TheVariants as pieces
use Rattle.wf_cursor.specs.Input as input
use Rattle.wf_cursor.specs.Input.{Input, Parser, and_then, ◌>>=◌, ◌>>◌, pure, piece, with_state}
use Rattle.wf_text.specs.States as reader
use Rattle.wf_text.specs.States.{kind, kind_of, children_from, children, body_by, state_with, block, root, root_by}
use Rattle.wf_grammar.specs.Lexemes.{Lexeme, lexeme_of}
use Rattle.wf_grammar.specs.Phrases.{Is}
use Rattle.wf_grammar.specs.Laws.{first_piece}
use Rattle.wf_grammar.specs.Scopes as scope
use Rattle.wf_grammar.specs.Scopes.{Scope, scope_of}
use Rattle.wf_grammar.specs.Drawing as phrase
use Rattle.wf_grammar.specs.Drawing.{word_of_kind, Heads, Part, Draws, Root}
use Rattle.wf_grammar.proofs.Rules.{BeginsNoState, RootSpelledIsRead}
use Rattle.wf_grammar.proofs.Inputs.{here}
use Rattle.wf_grammar.proofs.Places.{within}
use Rattle.wf_grammar.proofs.Giving.{Gave, then_gives, pure_gave, next_is, begins, other_piece, expect_gives, take_gives, eat_gives, eat_not, unit_gives, new_name_gives}

-- ---- heads

kind_gives : (text : List ℕ) (s : Scope) (k : Kind) (w : Lexeme) (ws : List Lexeme) (left : List Token) (at count : ℕ) → map (lexeme_of text) left ≡ w ∷ ws → Is (word_of_kind k) w
    → Gave text s k ws (kind (here (within text s) left at count))
unfolding kind
kind_gives text s kinds.Basic w ws left at count is word =
    rw (next_is (within text s) pieces.Basic w ws left at count is word)
    (take_gives text s left at count w ws is s (pure kinds.Basic) kinds.Basic ws (λ rest at count is. pure_gave text s kinds.Basic ws rest at count is))
kind_gives text s kinds.Or w ws left at count is word =
    rw (next_is (within text s) pieces.Or w ws left at count is word)
    (take_gives text s left at count w ws is s (pure kinds.Or) kinds.Or ws (λ rest at count is. pure_gave text s kinds.Or ws rest at count is))
kind_gives text s kinds.And w ws left at count is word =
    rw (next_is (within text s) pieces.And w ws left at count is word)
    (take_gives text s left at count w ws is s (pure kinds.And) kinds.And ws (λ rest at count is. pure_gave text s kinds.And ws rest at count is))

head_gives : (text : List ℕ) (s : Scope) (parent : Option StateId) {hs : List Lexeme} {s' : Scope} → Heads parent s hs s'
    → (more : List Lexeme) (left : List Token) (at count : ℕ) → map (lexeme_of text) left ≡ hs ++ more
    → Gave text s' (scope.next_state s) more (reader.head parent (here (within text s) left at count))
unfolding reader.head input.next_state with_state
head_gives text s parent (phrase.heads word n at_word place k u is_kind new is_at is_unit) more left at count is =
    let between = scope.state_named n s in
    let after = scope.with_state (record { name = n.bytes; kind = k; parent = parent; unit = u }) between in
    then_gives text s after _ _ _ _ _ _ (kind_gives text s k word (n ∷ at_word ∷ place ∷ more) left at count is is_kind) (λ rest at count is.
    then_gives text between after _ _ _ _ _ _ (new_name_gives text s rest at count (declared_as_a.State (scope.next_state s)) n (at_word ∷ place ∷ more) is new) (λ rest at count is.
    then_gives text between after _ _ _ _ _ _ (expect_gives text between rest at count at_word (place ∷ more) is pieces.At is_at) (λ rest at count is.
    then_gives text between after _ _ _ _ _ _ (unit_gives text between rest at count place more is u is_unit) (λ rest at count is.
    pure_gave text after (scope.next_state s) more rest at count is))))

-- ---- the tree

-- lexemes that begin with the word of a kind
pub record BeginsState (ws : List Lexeme) : Type 0 where
  pub kind : Kind
  pub word : Lexeme
  pub others : List Lexeme
  pub is : Is (word_of_kind kind) word
  pub whole : ws ≡ word ∷ others

head_begins : (s : Scope) (parent : Option StateId) {hs : List Lexeme} {s' : Scope} → Heads parent s hs s' → (more : List Lexeme) → BeginsState (hs ++ more)
head_begins s parent (phrase.heads word n at_word place k u is_kind new is_at is_unit) more =
    record { kind = k; word = word; others = n ∷ at_word ∷ place ∷ more; is = is_kind; whole = refl }

pub state_begins : {depth : ℕ} {parent : Option StateId} {s s' : Scope} {ws : List Lexeme} → Draws depth Part.state parent s ws s' → BeginsState ws
state_begins (phrase.draws_state {parent} {s} {bs} head body) = head_begins s parent head bs

kind_no_close : (k : Kind) → word_of_kind k ≢ pieces.CloseBrace
kind_no_close kinds.Basic e = cc
kind_no_close kinds.Or e = cc
kind_no_close kinds.And e = cc

not_close : {ws : List Lexeme} → BeginsState ws → (more : List Lexeme) → first_piece (ws ++ more) ≢ Some pieces.CloseBrace
not_close b more =
    rw b.whole (other_piece (word_of_kind b.kind) pieces.CloseBrace b.word (kind_no_close b.kind) b.is)

has_some : {ws : List Lexeme} → BeginsState ws → 1 ≤ length ws
has_some b = rw b.whole (omega arith)

-- what the rule of each part reads of these lexemes
abbrev GivesPart : List ℕ → ℕ → Part → Option StateId → Scope → List Lexeme → Scope → Type 0
GivesPart text depth Part.state parent s ws s' =
    (more : List Lexeme) (left : List Token) (at count : ℕ) → map (lexeme_of text) left ≡ ws ++ more
    → Gave text s' tt more (state_with (block depth) parent (here (within text s) left at count))
GivesPart text depth Part.body parent s ws s' =
    (id : StateId) → parent ≡ Some id → (more : List Lexeme) (left : List Token) (at count : ℕ) → map (lexeme_of text) left ≡ ws ++ more
    → Gave text s' tt more (body_by (block depth id) (piece (here (within text s) left at count)) (here (within text s) left at count))
GivesPart text depth Part.states parent s ws s' =
    (turns : ℕ) → length ws < turns → (closes : Lexeme) → Is pieces.CloseBrace closes
    → (more : List Lexeme) (left : List Token) (at count : ℕ) → map (lexeme_of text) left ≡ ws ++ closes ∷ more
    → Gave text s' tt more (children_from (state_with (block depth) parent) turns (here (within text s) left at count))

-- a brace, states and a brace
braces_give : (text : List ℕ) (depth : ℕ) (parent : Option StateId) (s s' : Scope) (ws : List Lexeme) (opens closes : Lexeme)
    → Is pieces.OpenBrace opens → GivesPart text depth Part.states parent s ws s' → Is pieces.CloseBrace closes
    → GivesPart text (suc depth) Part.body parent s (opens ∷ (ws ++ closes ∷ [])) s'
unfolding block children
braces_give text depth parent s s' ws opens closes is_open reads is_close id is_parent more left at count is =
    let behind = ws ++ closes ∷ more in
    let is' : map (lexeme_of text) left ≡ opens ∷ behind = is ∙ ap (λ ls. opens ∷ ls) (append_assoc ws (closes ∷ []) more) in
    let inner = subst (λ (p : Option StateId). GivesPart text depth Part.states p s ws s') is_parent reads in
    rw (next_is (within text s) pieces.OpenBrace opens behind left at count is' is_open)
    (take_gives text s left at count opens behind is' s' (children (state_with (block depth) (Some id))) tt more (λ rest at count is.
    let long : length rest ≡ length (ws ++ closes ∷ more) = sym (length-map rest (lexeme_of text)) ∙ ap length is in
    inner (length rest) (omega (arith, length-append ws (closes ∷ more))) closes is_close more rest at count is))

none_give : (text : List ℕ) (depth : ℕ) (parent : Option StateId) (s : Scope) → GivesPart text depth Part.states parent s [] s
unfolding children_from
none_give text depth parent s zero enough closes is_close more left at count is = absurd (omega arith)
none_give text depth parent s (suc turns) enough closes is_close more left at count is =
    then_gives text s s _ _ _ _ _ _ (eat_gives text s left at count closes more is pieces.CloseBrace is_close) (λ rest at count is. pure_gave text s tt more rest at count is)

more_give : (text : List ℕ) (depth : ℕ) (parent : Option StateId) (s s' s'' : Scope) (us vs : List Lexeme) → BeginsState us
    → GivesPart text depth Part.state parent s us s' → GivesPart text depth Part.states parent s' vs s'' → GivesPart text depth Part.states parent s (us ++ vs) s''
unfolding children_from
more_give text depth parent s s' s'' us vs begin first others zero enough closes is_close more left at count is = absurd (omega arith)
more_give text depth parent s s' s'' us vs begin first others (suc turns) enough closes is_close more left at count is =
    let some = has_some begin in
    let behind = vs ++ closes ∷ more in
    let is' : map (lexeme_of text) left ≡ us ++ behind = is ∙ append_assoc us vs (closes ∷ more) in
    then_gives text s s'' _ _ _ _ _ _ (eat_not text s left at count pieces.CloseBrace (us ++ behind) is' (not_close begin behind)) (λ rest at count is.
    then_gives text s' s'' _ _ _ _ _ _ (first behind rest at count is) (λ rest at count is.
    others turns (omega (arith, length-append us vs)) closes is_close more rest at count is))

state_gives : (text : List ℕ) (depth : ℕ) (parent : Option StateId) (s s' s'' : Scope) (hs bs : List Lexeme) → Heads parent s hs s'
    → GivesPart text depth Part.body (Some (scope.next_state s)) s' bs s'' → GivesPart text depth Part.state parent s (hs ++ bs) s''
unfolding state_with
state_gives text depth parent s s' s'' hs bs head body more left at count is =
    then_gives text s' s'' _ _ _ _ _ _ (head_gives text s parent head (bs ++ more) left at count (is ∙ append_assoc hs bs more)) (λ rest at count is.
    body (scope.next_state s) refl more rest at count is)

ends_give : (text : List ℕ) (depth : ℕ) (parent : Option StateId) (s : Scope) (ends : Lexeme) → Is pieces.Semicolon ends → GivesPart text depth Part.body parent s (ends ∷ []) s
ends_give text depth parent s ends semicolon id is_parent more left at count is =
    rw (next_is (within text s) pieces.Semicolon ends more left at count is semicolon)
    (take_gives text s left at count ends more is s (pure tt) tt more (λ rest at count is. pure_gave text s tt more rest at count is))

part_gives : (text : List ℕ) {depth : ℕ} {part : Part} {parent : Option StateId} {s s' : Scope} {ws : List Lexeme} → Draws depth part parent s ws s' → GivesPart text depth part parent s ws s'
part_gives text (phrase.draws_state {depth} {parent} {s} {s'} {s''} {hs} {bs} head body) = state_gives text depth parent s s' s'' hs bs head (part_gives text body)
part_gives text (phrase.body_ends {depth} {parent} {s} ends semicolon) = ends_give text depth parent s ends semicolon
part_gives text (phrase.body_opens {depth} {parent} {s} {s'} {ws} opens closes is_open inside is_close) = braces_give text depth parent s s' ws opens closes is_open (part_gives text inside) is_close
part_gives text (phrase.no_state {depth} {parent} {s}) = none_give text depth parent s
part_gives text (phrase.more_states {depth} {parent} {s} {s'} {s''} {us} {vs} first others) =
    more_give text depth parent s s' s'' us vs (state_begins first) (part_gives text first) (part_gives text others)

-- ---- the root

kind_found : (k : Kind) → kind_of (Some (word_of_kind k)) ≡ Some k
kind_found kinds.Basic = refl
kind_found kinds.Or = refl
kind_found kinds.And = refl

no_kind : (p : Option Piece) → BeginsNoState p → kind_of p ≡ None
no_kind None none = refl
no_kind (Some pieces.Basic) none = absurd (none.0 refl)
no_kind (Some pieces.Or) none = absurd (none.1 refl)
no_kind (Some pieces.And) none = absurd (none.2 refl)
no_kind (Some _) none = refl

pub root_gives : (text : List ℕ) (s : Scope) {ws : List Lexeme} {s' : Scope} → Root s ws s' → (more : List Lexeme) → BeginsNoState (first_piece more)
    → (left : List Token) (at count : ℕ) → map (lexeme_of text) left ≡ ws ++ more → Gave text s' tt more (root (here (within text s) left at count))
unfolding root
root_gives text s phrase.no_root more none left at count is =
    let no : kind_of (piece (here (within text s) left at count)) ≡ None = rw (begins (within text s) (first_piece more) more left at count is refl) (no_kind (first_piece more) none) in
    rw no (pure_gave text s tt more left at count is)
root_gives text s (phrase.root {ws} drawn) more none left at count is =
    let b = state_begins drawn in
    let is' : map (lexeme_of text) left ≡ b.word ∷ (b.others ++ more) = is ∙ ap (λ ls. ls ++ more) b.whole in
    let found : kind_of (piece (here (within text s) left at count)) ≡ Some b.kind =
    rw (next_is (within text s) (word_of_kind b.kind) b.word (b.others ++ more) left at count is' b.is) (kind_found b.kind) in
    rw found (part_gives text drawn more left at count is)

pub root_spelled : RootSpelledIsRead
root_spelled i s ws more r is none =
    let g = root_gives i.text (scope_of i) r more none i.left i.at i.nodes is in
    record { end = here (within i.text s) g.rest g.at g.count; is_read = g.gives; same_text = refl; declares = refl; left = g.rest_is }
