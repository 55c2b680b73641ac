-- What the steps of a chart's rules answer, where the lexemes that are left are given.
use Rattle.std.proofs.Common.{◌≡◌, ◌≢◌, ℕ, ◌+◌, ◌≤◌, Bool, true, false, nat_le, List, ◌∷◌, ◌++◌, length, map, Option, Some, None, Ok, refl, sym, ◌∙◌, ap, drop, length-append, arith}
use Rattle.std.proofs.lemmas.List.{length-map, drop_at}
use Rattle.wf_model.specs.Limits.{max_name, max_int}
use Rattle.wf_model.specs.declared.ids.UnitId.{UnitId}
use Rattle.wf_model.specs.declared.ids.EventId.{EventId}
use Rattle.wf_model.specs.declared.ids.VarId.{VarId}
use Rattle.wf_model.specs.declared.ids.ActId.{ActId}
use Rattle.wf_model.specs.declared.ids.StateId.{StateId}
use Rattle.wf_model.specs.declared.expr.Expr.{Expr}
use Rattle.wf_model.specs.Accepted.{nodes}
use Rattle.wf_lex.specs.declared.token.Token.{Token}
use Rattle.wf_cursor.specs.declared.names.Declared.{Declared}
use Rattle.wf_cursor.specs.declared.names.Declared.TheVariants as declared_as_a
use Rattle.wf_cursor.specs.declared.piece.Piece.{Piece}
use Rattle.wf_cursor.specs.declared.piece.Piece.TheVariants as pieces
use Rattle.wf_cursor.specs.Names.{declared_as}
use Rattle.wf_cursor.specs.Values.{number_up_to, short_text}
use Rattle.wf_cursor.specs.Input as input
use Rattle.wf_cursor.specs.Input.{Input, Outcome, Parser, and_then, ◌>>=◌, ◌>>◌, pure, piece, sees, next, eat, expect, take, name_ahead, new_name, new_name_by, with_name, declared, spelling, int_up_to}
use Rattle.wf_phrase.specs.Expressions.{expr}
use Rattle.wf_grammar.specs.Lexemes.{Lexeme, lexeme_of}
use Rattle.wf_grammar.specs.Phrases.{Is, IsNameOf}
use Rattle.wf_grammar.specs.Laws.{first_piece, IsNoOperator}
use Rattle.wf_grammar.specs.Scopes.{Scope, IsNewName, named}
use Rattle.wf_grammar.specs.Moving.{SpellsWhole}
use Rattle.wf_grammar.proofs.Inputs.{here, spelling_here, next_here, declared_here, sees_piece, is_fit}
use Rattle.wf_grammar.proofs.SpellSteps.{sees_here, expect_here, name_here, declared_is, variable_here, state_here, activity_here, int_here, text_here, piece_first, headed, parted}
use Rattle.wf_grammar.proofs.SpelledRead.{spelled_is_read}
use Rattle.wf_grammar.proofs.Places.{within, with_name_here}

-- the outcome is this value, with these lexemes left
pub record Gave {A : Type 0} (text : List ℕ) (s : Scope) (x : A) (more : List Lexeme) (r : Outcome A) : Type 0 where
  pub rest : List Token
  pub at : ℕ
  pub count : ℕ
  pub rest_is : map (lexeme_of text) rest ≡ more
  pub gives : r ≡ Ok (x, here (within text s) rest at count)

-- a rule goes on behind it
pub then_gives : {A B : Type 0} (text : List ℕ) (s s' : Scope) (x : A) (y : B) (more last : List Lexeme) (r : Outcome A) (f : A → Parser B) → Gave text s x more r
    → ((rest : List Token) (at count : ℕ) → map (lexeme_of text) rest ≡ more → Gave text s' y last (f x (here (within text s) rest at count)))
    → Gave text s' y last (and_then r f)
then_gives text s s' x y more last r f g goes_on =
    let n = goes_on g.rest g.at g.count g.rest_is in
    record { rest = n.rest; at = n.at; count = n.count; rest_is = n.rest_is; gives = rw g.gives n.gives }

pub pure_gave : {A : Type 0} (text : List ℕ) (s : Scope) (x : A) (more : List Lexeme) (rest : List Token) (at count : ℕ) → map (lexeme_of text) rest ≡ more
    → Gave text s x more (pure x (here (within text s) rest at count))
pure_gave text s x more rest at count is = record { rest = rest; at = at; count = count; rest_is = is; gives = refl }

-- ---- what is next

pub next_is : (i : Input) (p : Piece) (w : Lexeme) (ws : List Lexeme) (left : List Token) (at count : ℕ) → map (lexeme_of i.text) left ≡ w ∷ ws → Is p w
    → piece (here i left at count) ≡ Some p
next_is i p w ws left at count is is_piece = piece_first i left at count ∙ ap first_piece is ∙ ap Some is_piece

pub begins : (i : Input) (p : Option Piece) (ws : List Lexeme) (left : List Token) (at count : ℕ) → map (lexeme_of i.text) left ≡ ws → first_piece ws ≡ p
    → piece (here i left at count) ≡ p
begins i p ws left at count is first = piece_first i left at count ∙ ap first_piece is ∙ first

pub not_seen : (i : Input) (p : Piece) (ws : List Lexeme) (left : List Token) (at count : ℕ) → map (lexeme_of i.text) left ≡ ws → first_piece ws ≢ Some p
    → sees p (here i left at count) ≡ false
not_seen i p ws left at count is other = by_sight (sees p (here i left at count)) refl
  where
    by_sight : (b : Bool) → sees p (here i left at count) ≡ b → sees p (here i left at count) ≡ false
    by_sight true seen = absurd (other (sym (ap first_piece is) ∙ sym (piece_first i left at count) ∙ sees_piece p (here i left at count) seen))
    by_sight false seen = seen

-- a lexeme that is this isn't that
pub other_piece : (p q : Piece) (w : Lexeme) → (p ≢ q) → Is p w → Some w.piece ≢ Some q
other_piece p q w differ is e = let same : p ≡ q = cc in differ same

module _ (text : List ℕ) (s : Scope) (left : List Token) (at count : ℕ) where
  -- a step that takes the next token gives its value
  taken_gives : {A : Type 0} (w : Lexeme) (ws : List Lexeme) (x : A) (p : Parser A) → map (lexeme_of text) left ≡ w ∷ ws
      → ((t : Token) (rest : List Token) → lexeme_of text t ≡ w → p (here (within text s) (t ∷ rest) at count) ≡ Ok (x, here (within text s) rest (at + 1) count))
      → Gave text s x ws (p (here (within text s) left at count))
  taken_gives w ws x p is takes =
      let h = headed (lexeme_of text) w ws left is in
      rw h.whole (record { rest = h.rest; at = at + 1; count = count; rest_is = h.rest_is; gives = takes h.token h.rest h.token_is })

  module _ (w : Lexeme) (ws : List Lexeme) (is : map (lexeme_of text) left ≡ w ∷ ws) where
    pub expect_gives : (p : Piece) → Is p w → Gave text s tt ws (expect p (here (within text s) left at count))
    expect_gives p is_piece = taken_gives w ws tt (expect p) is (λ t rest same. expect_here (within text s) t rest at count p (ap (λ (v : Lexeme). v.piece) same ∙ is_piece))

    -- the next token is taken, whatever it is
    pub take_gives : {A : Type 0} (s' : Scope) (p : Parser A) (x : A) (last : List Lexeme)
        → ((rest : List Token) (at count : ℕ) → map (lexeme_of text) rest ≡ ws → Gave text s' x last (p (here (within text s) rest at count)))
        → Gave text s' x last (p (next (here (within text s) left at count)))
    take_gives s' p x last goes_on =
        let h = headed (lexeme_of text) w ws left is in
        rw h.whole (rw (next_here (within text s) h.token h.rest at count) (goes_on h.rest (at + 1) count h.rest_is))

    pub eat_gives : (p : Piece) → Is p w → Gave text s true ws (eat p (here (within text s) left at count))
    unfolding eat
    eat_gives p is_piece = taken_gives w ws true (eat p) is (λ t rest same.
        rw (sees_here (within text s) t rest at count p (ap (λ (v : Lexeme). v.piece) same ∙ is_piece)) (ap (λ (k : Input). Ok (true, k)) (next_here (within text s) t rest at count)))

    pub variable_gives : (x : VarId) → IsNameOf s.names (declared_as_a.Var x) w → Gave text s x ws (input.variable (here (within text s) left at count))
    variable_gives x n = taken_gives w ws x input.variable is (λ t rest same. variable_here (within text s) t rest at count x (rw same n))

    pub state_gives : (x : StateId) → IsNameOf s.names (declared_as_a.State x) w → Gave text s x ws (input.state (here (within text s) left at count))
    state_gives x n = taken_gives w ws x input.state is (λ t rest same. state_here (within text s) t rest at count x (rw same n))

    pub activity_gives : (x : ActId) → IsNameOf s.names (declared_as_a.Activity x) w → Gave text s x ws (input.activity (here (within text s) left at count))
    activity_gives x n = taken_gives w ws x input.activity is (λ t rest same. activity_here (within text s) t rest at count x (rw same n))

    pub unit_gives : (x : UnitId) → IsNameOf s.names (declared_as_a.Unit x) w → Gave text s x ws (input.unit (here (within text s) left at count))
    unfolding input.unit
    unit_gives x n = taken_gives w ws x input.unit is (λ t rest same.
        let m : IsNameOf s.names (declared_as_a.Unit x) (lexeme_of text t) = rw same n in
        rw (name_here (within text s) t rest at count (declared_as_a.Unit x) m) (rw (declared_is (within text s) t rest at count (declared_as_a.Unit x) m)
        (ap (λ (k : Input). Ok (x, k)) (next_here (within text s) t rest at count))))

    pub event_gives : (x : EventId) → IsNameOf s.names (declared_as_a.Event x) w → Gave text s x ws (input.event (here (within text s) left at count))
    unfolding input.event
    event_gives x n = taken_gives w ws x input.event is (λ t rest same.
        let m : IsNameOf s.names (declared_as_a.Event x) (lexeme_of text t) = rw same n in
        rw (name_here (within text s) t rest at count (declared_as_a.Event x) m) (rw (declared_is (within text s) t rest at count (declared_as_a.Event x) m)
        (ap (λ (k : Input). Ok (x, k)) (next_here (within text s) t rest at count))))

    pub int_gives : (n : ℕ) → Is pieces.Int w → number_up_to max_int w.bytes ≡ Some n → Gave text s n ws (input.int (here (within text s) left at count))
    int_gives n is_piece reads = taken_gives w ws n input.int is (λ t rest same. int_here (within text s) t rest at count n (ap (λ (v : Lexeme). v.piece) same ∙ is_piece) (ap (λ (v : Lexeme). number_up_to max_int v.bytes) same ∙ reads))

    pub negated_int_gives : (n : ℕ) → Is pieces.Int w → number_up_to (max_int + 1) w.bytes ≡ Some n → Gave text s n ws (input.negated_int (here (within text s) left at count))
    unfolding input.negated_int int_up_to
    negated_int_gives n is_piece reads = taken_gives w ws n input.negated_int is (λ t rest same.
        let found : number_up_to (max_int + 1) (spelling (here (within text s) (t ∷ rest) at count)) ≡ Some n = ap (number_up_to (max_int + 1)) (spelling_here (within text s) t rest at count) ∙ ap (λ (v : Lexeme). number_up_to (max_int + 1) v.bytes) same ∙ reads in
        rw (sees_here (within text s) t rest at count pieces.Int (ap (λ (v : Lexeme). v.piece) same ∙ is_piece)) (rw found (ap (λ (k : Input). Ok (n, k)) (next_here (within text s) t rest at count))))

    pub text_gives : (cs : List ℕ) → Is pieces.Text w → short_text w.bytes ≡ Some cs → Gave text s cs ws (input.text (here (within text s) left at count))
    text_gives cs is_piece reads = taken_gives w ws cs input.text is (λ t rest same. text_here (within text s) t rest at count cs (ap (λ (v : Lexeme). v.piece) same ∙ is_piece) (ap (λ (v : Lexeme). short_text v.bytes) same ∙ reads))

  pub eat_not : (p : Piece) (ws : List Lexeme) → map (lexeme_of text) left ≡ ws → first_piece ws ≢ Some p → Gave text s false ws (eat p (here (within text s) left at count))
  unfolding eat
  eat_not p ws is other = rw (not_seen (within text s) p ws left at count is other) (record { rest = left; at = at; count = count; rest_is = is; gives = refl })

  pub new_name_gives : (what : Declared) (w : Lexeme) (ws : List Lexeme) → map (lexeme_of text) left ≡ w ∷ ws → IsNewName s w
      → Gave text (named w what s) w.bytes ws (new_name what (here (within text s) left at count))
  unfolding new_name name_ahead
  new_name_gives what w ws is n =
      let h = headed (lexeme_of text) w ws left is in
      let i = within text s in
      let is_word : spelling (here i (h.token ∷ h.rest) at count) ≡ w.bytes = spelling_here i h.token h.rest at count ∙ ap (λ (v : Lexeme). v.bytes) h.token_is in
      let short : nat_le (length (spelling (here i (h.token ∷ h.rest) at count))) max_name ≡ true =
      ap (λ (b : List ℕ). nat_le (length b) max_name) is_word ∙ is_fit (length w.bytes) max_name n.is_short in
      let new : declared (here i (h.token ∷ h.rest) at count) ≡ None = declared_here i h.token h.rest at count ∙ ap (λ (v : Lexeme). declared_as s.names v.bytes) h.token_is ∙ n.is_new in
      let named_next : next (with_name what (here i (h.token ∷ h.rest) at count)) ≡ here (within text (named w what s)) h.rest (at + 1) count =
      ap next (with_name_here text s what h.token h.rest at count) ∙ next_here (within text (named (lexeme_of text h.token) what s)) h.token h.rest at count
      ∙ ap (λ (v : Lexeme). here (within text (named v what s)) h.rest (at + 1) count) h.token_is in
      rw h.whole (record {
        rest = h.rest;
        at = at + 1;
        count = count;
        rest_is = h.rest_is;
        gives = rw (sees_here i h.token h.rest at count pieces.Name (ap (λ (v : Lexeme). v.piece) h.token_is ∙ n.is_name)) (rw short (rw new (rw is_word (ap (λ (k : Input). Ok (w.bytes, k)) named_next))));
      })

  pub expr_gives : (ws more : List Lexeme) (x : Expr) → SpellsWhole s.names ws x → IsNoOperator (first_piece more) → map (lexeme_of text) left ≡ ws ++ more
      → Gave text s x more (expr (here (within text s) left at count))
  expr_gives ws more x spells ends is =
      let p = parted (lexeme_of text) ws more left is in
      let long : length p.left ≡ length ws = sym (length-map p.left (lexeme_of text)) ∙ ap length p.left_is in
      let rest : drop (length ws) left ≡ p.right = ap (drop (length ws)) p.whole ∙ drop_at p.left p.right (length ws) long in
      record {
        rest = drop (length ws) left;
        at = at + length ws;
        count = nodes x;
        rest_is = ap (map (lexeme_of text)) rest ∙ p.right_is;
        gives = spelled_is_read (here (within text s) left at count) ws more x spells.spelled spells.few is ends;
      }

-- a front part is no longer than the whole
pub fits : (text : List ℕ) (ws more : List Lexeme) (left : List Token) → map (lexeme_of text) left ≡ ws ++ more → length ws ≤ length left
fits text ws more left is =
    let long : length left ≡ length (ws ++ more) = sym (length-map left (lexeme_of text)) ∙ ap length is in
    omega (arith, length-append ws more)
