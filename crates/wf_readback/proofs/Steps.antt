-- What the steps of rules answer, where the next lexemes are known.
use Rattle.std.proofs.Common.{◌≡◌, ℕ, ◌+◌, ◌≤◌, true, false, nat_le, List, [], ◌∷◌, length, Some, Ok, refl, sym, ◌∙◌, ap, subst}
use Rattle.std.proofs.lemmas.List.{length-map}
use Rattle.wf_model.specs.Limits.{max_name}
use Rattle.wf_model.specs.declared.ids.UnitId.{UnitId}
use Rattle.wf_model.specs.declared.ids.EventId.{EventId}
use Rattle.wf_model.specs.declared.ids.VarId.{VarId}
use Rattle.wf_model.specs.declared.ids.ActId.{ActId}
use Rattle.wf_model.specs.declared.ids.StateId.{StateId}
use Rattle.wf_model.specs.declared.chart.Event.{Event}
use Rattle.wf_model.specs.declared.chart.Variable.{Variable}
use Rattle.wf_model.specs.declared.chart.Activity.{Activity}
use Rattle.wf_model.specs.declared.chart.State.{State}
use Rattle.wf_lex.specs.declared.token.Token.{Token}
use Rattle.wf_cursor.specs.declared.names.Declared.{Declared}
use Rattle.wf_cursor.specs.declared.names.Declared.TheVariants as declared_as_a
use Rattle.wf_cursor.specs.declared.piece.Piece.{Piece}
use Rattle.wf_cursor.specs.declared.piece.Piece.TheVariants as pieces
use Rattle.wf_cursor.specs.Input as input
use Rattle.wf_cursor.specs.Input.{Input, Outcome, Parser, piece, spelling, declared, next, sees, is_piece, eat, expect, take, name_ahead}
use Rattle.wf_grammar.specs.Lexemes.{Lexeme, lexeme_of, lexemes}
use Rattle.wf_grammar.specs.Phrases.{Names, Is, IsNameOf}
use Rattle.wf_grammar.specs.Laws.{first_piece}
use Rattle.wf_grammar.proofs.Inputs.{here, spelling_here, next_here, declared_here, is_fit}
use Rattle.wf_grammar.proofs.SpellSteps.{expect_here, sees_here, variable_here, state_here, activity_here, headed, emptied, piece_first}

-- the text, and all that was declared
pub record Made : Type 0 where
  pub text : List ℕ
  pub units : List (List ℕ)
  pub events : List Event
  pub vars : List Variable
  pub acts : List Activity
  pub states : List State
  pub names : Names

abbrev pub made_of : Input → Made
made_of i = record { text = i.text; units = i.units; events = i.events; vars = i.vars; acts = i.acts; states = i.states; names = i.names }

-- these lexemes are left, and this was declared
pub record At (i : Input) (ws : List Lexeme) (m : Made) : Type 0 where
  pub left : lexemes i ≡ ws
  pub made : made_of i ≡ m

-- the rule answers this, and is then there
pub record Answers {A : Type 0} (o : Outcome A) (a : A) (ws : List Lexeme) (m : Made) : Type 0 where
  pub behind : Input
  pub is : o ≡ Ok (a, behind)
  pub at : At behind ws m

pub names_at : (i : Input) (ws : List Lexeme) (m : Made) → At i ws m → i.names ≡ m.names
names_at i ws m at = ap (λ (k : Made). k.names) at.made

-- a step that takes one token
pub one_token : {A : Type 0} (i : Input) (w : Lexeme) (ws : List Lexeme) (m : Made) (p : Parser A) (a : A) → At i (w ∷ ws) m
    → ((t : Token) (rest : List Token) → lexeme_of i.text t ≡ w → p (here i (t ∷ rest) i.at i.nodes) ≡ Ok (a, here i rest (i.at + 1) i.nodes))
    → Answers (p i) a ws m
one_token i w ws m p a at reads =
    let h = headed (lexeme_of i.text) w ws i.left at.left in
    record {
      behind = here i h.rest (i.at + 1) i.nodes;
      is = ap (λ (l : List Token). p (here i l i.at i.nodes)) h.whole ∙ reads h.token h.rest h.token_is;
      at = record { left = h.rest_is; made = at.made };
    }

piece_is : (f : List ℕ) (t : Token) (w : Lexeme) (p : Piece) → lexeme_of f t ≡ w → w.piece ≡ p → Is p (lexeme_of f t)
piece_is f t w p same is = ap (λ (v : Lexeme). v.piece) same ∙ is

pub expect_step : (p : Piece) (i : Input) (w : Lexeme) (ws : List Lexeme) (m : Made) → At i (w ∷ ws) m → w.piece ≡ p → Answers (expect p i) tt ws m
expect_step p i w ws m at is = one_token i w ws m (expect p) tt at (λ t rest same. expect_here i t rest i.at i.nodes p (piece_is i.text t w p same is))

eat_here : (i : Input) (t : Token) (rest : List Token) (at count : ℕ) (p : Piece) → Is p (lexeme_of i.text t) → eat p (here i (t ∷ rest) at count) ≡ Ok (true, here i rest (at + 1) count)
unfolding eat
eat_here i t rest at count p is = rw (sees_here i t rest at count p is) (ap (λ (k : Input). Ok (true, k)) (next_here i t rest at count))

pub eat_step : (p : Piece) (i : Input) (w : Lexeme) (ws : List Lexeme) (m : Made) → At i (w ∷ ws) m → w.piece ≡ p → Answers (eat p i) true ws m
eat_step p i w ws m at is = one_token i w ws m (eat p) true at (λ t rest same. eat_here i t rest i.at i.nodes p (piece_is i.text t w p same is))

-- behind the next token
pub next_at : (i : Input) (w : Lexeme) (ws : List Lexeme) (m : Made) → At i (w ∷ ws) m → At (next i) ws m
next_at i w ws m at =
    let h = headed (lexeme_of i.text) w ws i.left at.left in
    let same : next i ≡ here i h.rest (i.at + 1) i.nodes = ap (λ (l : List Token). next (here i l i.at i.nodes)) h.whole ∙ next_here i h.token h.rest i.at i.nodes in
    subst (λ (k : Input). At k ws m) (sym same) (record { left = h.rest_is; made = at.made })

-- ---- what is next

pub piece_at : (i : Input) (ws : List Lexeme) (m : Made) → At i ws m → piece i ≡ first_piece ws
piece_at i ws m at = piece_first i i.left i.at i.nodes ∙ ap first_piece at.left

pub sees_at : (p : Piece) (i : Input) (ws : List Lexeme) (m : Made) → At i ws m → sees p i ≡ is_piece p (first_piece ws)
unfolding sees
sees_at p i ws m at = ap (is_piece p) (piece_at i ws m at)

-- another piece is next, or none
pub eat_none : (p : Piece) (i : Input) (ws : List Lexeme) (m : Made) → At i ws m → is_piece p (first_piece ws) ≡ false → Answers (eat p i) false ws m
unfolding eat
eat_none p i ws m at other = record { behind = i; is = rw (sees_at p i ws m at ∙ other) refl; at = at }

pub left_at : (i : Input) (ws : List Lexeme) (m : Made) → At i ws m → length i.left ≡ length ws
left_at i ws m at = sym (length-map i.left (lexeme_of i.text)) ∙ ap length at.left

-- ---- names

moved : (names other : Names) (what : Declared) (v w : Lexeme) → names ≡ other → v ≡ w → IsNameOf other what w → IsNameOf names what v
moved names other what v w same_names same is =
    subst (λ (n : Names). IsNameOf n what v) (sym same_names) (subst (IsNameOf other what) (sym same) is)

module _ (i : Input) (w : Lexeme) (ws : List Lexeme) (m : Made) (at : At i (w ∷ ws) m) where
  here_is : (what : Declared) (t : Token) → lexeme_of i.text t ≡ w → IsNameOf m.names what w → IsNameOf i.names what (lexeme_of i.text t)
  here_is what t same is = moved i.names m.names what (lexeme_of i.text t) w (names_at i (w ∷ ws) m at) same is

  pub variable_step : (x : VarId) → IsNameOf m.names (declared_as_a.Var x) w → Answers (input.variable i) x ws m
  variable_step x is = one_token i w ws m input.variable x at (λ t rest same. variable_here i t rest i.at i.nodes x (here_is (declared_as_a.Var x) t same is))

  pub state_step : (s : StateId) → IsNameOf m.names (declared_as_a.State s) w → Answers (input.state i) s ws m
  state_step s is = one_token i w ws m input.state s at (λ t rest same. state_here i t rest i.at i.nodes s (here_is (declared_as_a.State s) t same is))

  pub activity_step : (a : ActId) → IsNameOf m.names (declared_as_a.Activity a) w → Answers (input.activity i) a ws m
  activity_step a is = one_token i w ws m input.activity a at (λ t rest same. activity_here i t rest i.at i.nodes a (here_is (declared_as_a.Activity a) t same is))

pub name_here : (i : Input) (t : Token) (rest : List Token) (at count : ℕ) → Is pieces.Name (lexeme_of i.text t) → length (lexeme_of i.text t).bytes ≤ max_name
    → name_ahead (here i (t ∷ rest) at count) ≡ Ok (tt, here i (t ∷ rest) at count)
unfolding name_ahead
name_here i t rest at count is short =
    let fits : nat_le (length (spelling (here i (t ∷ rest) at count))) max_name ≡ true = rw (spelling_here i t rest at count) (is_fit (length (lexeme_of i.text t).bytes) max_name short) in
    rw (sees_here i t rest at count pieces.Name is) (rw fits refl)

declared_is : (i : Input) (t : Token) (rest : List Token) (at count : ℕ) (what : Declared) → IsNameOf i.names what (lexeme_of i.text t) → declared (here i (t ∷ rest) at count) ≡ Some what
declared_is i t rest at count what is = declared_here i t rest at count ∙ is.is_declared

event_here : (i : Input) (t : Token) (rest : List Token) (at count : ℕ) (e : EventId) → IsNameOf i.names (declared_as_a.Event e) (lexeme_of i.text t)
    → input.event (here i (t ∷ rest) at count) ≡ Ok (e, here i rest (at + 1) count)
unfolding input.event
event_here i t rest at count e is =
    rw (name_here i t rest at count is.is_name is.is_short) (rw (declared_is i t rest at count (declared_as_a.Event e) is) (ap (λ (k : Input). Ok (e, k)) (next_here i t rest at count)))

unit_here : (i : Input) (t : Token) (rest : List Token) (at count : ℕ) (u : UnitId) → IsNameOf i.names (declared_as_a.Unit u) (lexeme_of i.text t)
    → input.unit (here i (t ∷ rest) at count) ≡ Ok (u, here i rest (at + 1) count)
unfolding input.unit
unit_here i t rest at count u is =
    rw (name_here i t rest at count is.is_name is.is_short) (rw (declared_is i t rest at count (declared_as_a.Unit u) is) (ap (λ (k : Input). Ok (u, k)) (next_here i t rest at count)))

module _ (i : Input) (w : Lexeme) (ws : List Lexeme) (m : Made) (at : At i (w ∷ ws) m) where
  pub event_step : (e : EventId) → IsNameOf m.names (declared_as_a.Event e) w → Answers (input.event i) e ws m
  event_step e is = one_token i w ws m input.event e at (λ t rest same. event_here i t rest i.at i.nodes e (here_is i w ws m at (declared_as_a.Event e) t same is))

  pub unit_step : (u : UnitId) → IsNameOf m.names (declared_as_a.Unit u) w → Answers (input.unit i) u ws m
  unit_step u is = one_token i w ws m input.unit u at (λ t rest same. unit_here i t rest i.at i.nodes u (here_is i w ws m at (declared_as_a.Unit u) t same is))

-- the input at the end, where as much was declared as at the beginning
pub at_end : (i j : Input) → At j [] (made_of i) → j ≡ record i { left = []; at = j.at; nodes = j.nodes }
at_end i j at =
    let none = emptied (lexeme_of j.text) j.left at.left in
    ap (λ (l : List Token). record j { left = l }) none
    ∙ ap (λ (m : Made). record { text = m.text; left = []; at = j.at; units = m.units; events = m.events; vars = m.vars; acts = m.acts; states = m.states; names = m.names; nodes = j.nodes }) at.made
