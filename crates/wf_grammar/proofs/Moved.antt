-- Transitions that are read are in the grammar.
use Rattle.std.proofs.Common.{◌≡◌, ℕ, zero, suc, ◌+◌, ◌⊎◌, inl, inr, Bool, true, false, if◌then◌else◌, List, [], ◌∷◌, ◌++◌, length, map, drop, Option, Some, None, Ok, refl, sym, ◌∙◌, ap, subst, append_assoc, append-nil}
use Rattle.wf_model.specs.declared.ids.EventId.{EventId}
use Rattle.wf_model.specs.declared.chart.Action.{Action}
use Rattle.wf_model.specs.declared.chart.Action.TheVariants as act
use Rattle.wf_model.specs.declared.chart.Transition.{Transition}
use Rattle.wf_model.specs.Accepted.{nodes}
use Rattle.wf_lex.specs.declared.token.Token.{Token}
use Rattle.wf_cursor.specs.declared.piece.Piece.{Piece}
use Rattle.wf_cursor.specs.declared.piece.Piece.TheVariants as pieces
use Rattle.wf_cursor.specs.Input as input
use Rattle.wf_cursor.specs.Input.{Input, Parser, and_then, ◌>>=◌, ◌>>◌, pure, piece, sees, expect}
use Rattle.wf_phrase.specs.Expressions.{expr}
use Rattle.wf_text.specs.Transitions.{event_if_any, guard_if_any, assignment, raise_action, start_action, action, action_by, actions_from, actions, effects, transition, transitions_from, transitions}
use Rattle.wf_grammar.specs.Lexemes.{Lexeme, lexeme_of}
use Rattle.wf_grammar.specs.Phrases.{Names, Is}
use Rattle.wf_grammar.specs.Moving as phrase
use Rattle.wf_grammar.specs.Moving.{SpellsWhole, OnEvent, IfGuard, Acts, Actions, DoActions, Moves, Transitions}
use Rattle.wf_grammar.proofs.Rules.{TransitionsReadAreSpelled}
use Rattle.wf_grammar.proofs.Inputs.{here, piece_here, piece_none, next_here}
use Rattle.wf_grammar.proofs.ReadSteps.{expect_then, variable_then, state_then, activity_then}
use Rattle.wf_grammar.proofs.ReadSpelled.{read_is_spelled}
use Rattle.wf_grammar.proofs.Places.{Meaning, Read, ReadsOnly, ends_read, both_parts, read_then, eat_then, event_then}

expr_reads : (i : Input) → ReadsOnly i (SpellsWhole i.names) expr
expr_reads i left at count x j h =
    let r = read_is_spelled (here i left at count) j x h in
    let rest = drop (length r.0) left in
    record {
      words = r.0;
      rest = rest;
      at = at + length r.0;
      count = nodes x;
      whole = r.3 ∙ ap (λ (k : Input). r.0 ++ map (lexeme_of k.text) k.left) r.4;
      taken = record { spelled = r.1; few = r.2 };
      end = r.4;
    }

event_if_any_reads : (i : Input) → ReadsOnly i (OnEvent i.names) event_if_any
unfolding event_if_any
event_if_any_reads i left at count x j h =
    elim (eat_then i pieces.On left at count _ x j h) [
      | inl e ↦ (
          let n = event_then i (Option EventId) e.rest (at + 1) count _ x j e.goes_on in
          rw e.whole (rw n.whole (ends_read i (OnEvent i.names) (lexeme_of i.text e.token ∷ lexeme_of i.text n.token ∷ []) (e.token ∷ n.token ∷ n.rest) n.rest (at + 1 + 1) count (Some n.value) x j refl
          (phrase.on_event (lexeme_of i.text e.token) (lexeme_of i.text n.token) n.value e.is n.is) n.goes_on)))
      | inr h' ↦ ends_read i (OnEvent i.names) [] left left at count None x j refl phrase.no_event h'
    ]

guard_if_any_reads : (i : Input) → ReadsOnly i (IfGuard i.names) guard_if_any
unfolding guard_if_any
guard_if_any_reads i left at count x j h =
    elim (eat_then i pieces.If left at count _ x j h) [
      | inl e ↦ (
          let r = read_then i (SpellsWhole i.names) expr (expr_reads i) e.rest (at + 1) count _ x j e.goes_on in
          rw e.whole (ends_read i (IfGuard i.names) (lexeme_of i.text e.token ∷ r.words) (e.token ∷ e.rest) r.rest r.at r.count (Some r.value) x j
          (ap (λ ls. lexeme_of i.text e.token ∷ ls) r.whole) (phrase.if_guard (lexeme_of i.text e.token) e.is r.taken) r.goes_on))
      | inr h' ↦ ends_read i (IfGuard i.names) [] left left at count None x j refl phrase.no_guard h'
    ]

-- ---- actions

assignment_reads : (i : Input) → ReadsOnly i (Acts i.names) assignment
unfolding assignment
assignment_reads i left at count x j h =
    let n = variable_then i Action left at count _ x j h in
    let b = expect_then i pieces.Assign n.rest (at + 1) count _ x j n.goes_on in
    let r = read_then i (SpellsWhole i.names) expr (expr_reads i) b.rest (at + 1 + 1) count _ x j b.goes_on in
    rw n.whole (rw b.whole (ends_read i (Acts i.names) (lexeme_of i.text n.token ∷ lexeme_of i.text b.token ∷ r.words) (n.token ∷ b.token ∷ b.rest) r.rest r.at r.count (act.Assign n.value r.value) x j
    (ap (λ ls. lexeme_of i.text n.token ∷ lexeme_of i.text b.token ∷ ls) r.whole)
    (phrase.assigns (lexeme_of i.text n.token) (lexeme_of i.text b.token) n.value n.is b.is r.taken) r.goes_on))

module _ (i : Input) (t : Token) (rest : List Token) (at count : ℕ) (x : Action) (j : Input) where
  raise_action_reads : Is pieces.Raise (lexeme_of i.text t) → raise_action (here i (t ∷ rest) at count) ≡ Ok (x, j) → Read i (Acts i.names) (t ∷ rest) x j
  unfolding raise_action
  raise_action_reads is h =
      let h' : and_then (input.event (here i rest (at + 1) count)) (λ e. pure (act.Raise e)) ≡ Ok (x, j) = rw (next_here i t rest at count) at h in
      let n = event_then i Action rest (at + 1) count _ x j h' in
      rw n.whole (ends_read i (Acts i.names) (lexeme_of i.text t ∷ lexeme_of i.text n.token ∷ []) (t ∷ n.token ∷ n.rest) n.rest (at + 1 + 1) count (act.Raise n.value) x j refl
      (phrase.raises (lexeme_of i.text t) (lexeme_of i.text n.token) n.value is n.is) n.goes_on)

  start_action_reads : Is pieces.Start (lexeme_of i.text t) → start_action (here i (t ∷ rest) at count) ≡ Ok (x, j) → Read i (Acts i.names) (t ∷ rest) x j
  unfolding start_action
  start_action_reads is h =
      let h' : and_then (input.activity (here i rest (at + 1) count)) (λ e. pure (act.Start e)) ≡ Ok (x, j) = rw (next_here i t rest at count) at h in
      let n = activity_then i Action rest (at + 1) count _ x j h' in
      rw n.whole (ends_read i (Acts i.names) (lexeme_of i.text t ∷ lexeme_of i.text n.token ∷ []) (t ∷ n.token ∷ n.rest) n.rest (at + 1 + 1) count (act.Start n.value) x j refl
      (phrase.starts (lexeme_of i.text t) (lexeme_of i.text n.token) n.value is n.is) n.goes_on)

action_reads : (i : Input) → ReadsOnly i (Acts i.names) action
unfolding action
action_reads i [] at count x j h =
    let h' : action_by None (here i [] at count) ≡ Ok (x, j) = rw (piece_none i at count) at h in
    let no : ⊥ = cc in absurd no
action_reads i (t ∷ rest) at count x j h = by_piece (lexeme_of i.text t).piece refl (rw (piece_here i t rest at count) at h)
  where
    by_piece : (p : Piece) → Is p (lexeme_of i.text t) → action_by (Some p) (here i (t ∷ rest) at count) ≡ Ok (x, j) → Read i (Acts i.names) (t ∷ rest) x j
    by_piece pieces.Name is h' = assignment_reads i (t ∷ rest) at count x j h'
    by_piece pieces.Raise is h' = raise_action_reads i t rest at count x j is h'
    by_piece pieces.Start is h' = start_action_reads i t rest at count x j is h'
    by_piece _ is h' = cc

-- behind an action, and with those that were found before it
abbrev ActionsOn : Names → List Action → List Lexeme → Action → Meaning (List Action)
ActionsOn names found us a ws xs = (ys : List Action) × (xs ≡ found ++ ys) × Actions names (us ++ ws) (a ∷ ys)

actions_go_on : (i : Input) (turns : ℕ) (found : List Action) (us : List Lexeme) (a : Action) → Acts i.names us a
    → ReadsOnly i (ActionsOn i.names found us a) (actions_from turns found)
unfolding actions_from
actions_go_on i zero found us a is left at count xs j h =
    ends_read i (ActionsOn i.names found us a) [] left left at count found xs j refl ([], sym (append-nil found), rw (append-nil us) (phrase.one_action is)) h
actions_go_on i (suc turns) found us a is left at count xs j h =
    elim (eat_then i pieces.Comma left at count _ xs j h) [
      | inl e ↦ (
          let m = read_then i (Acts i.names) action (action_reads i) e.rest (at + 1) count _ xs j e.goes_on in
          let r = actions_go_on i turns (found ++ m.value ∷ []) m.words m.value m.taken m.rest m.at m.count xs j m.goes_on in
          rw e.whole (record {
            words = lexeme_of i.text e.token ∷ (m.words ++ r.words);
            rest = r.rest;
            at = r.at;
            count = r.count;
            whole = ap (λ ls. lexeme_of i.text e.token ∷ ls) (both_parts m.words r.words (map (lexeme_of i.text) r.rest) m.whole r.whole);
            taken = (m.value ∷ r.taken.0, r.taken.1 ∙ append_assoc found (m.value ∷ []) r.taken.0, phrase.more_actions (lexeme_of i.text e.token) is e.is r.taken.2);
            end = r.end;
          }))
      | inr h' ↦ ends_read i (ActionsOn i.names found us a) [] left left at count found xs j refl ([], sym (append-nil found), rw (append-nil us) (phrase.one_action is)) h'
    ]

actions_read : (i : Input) → ReadsOnly i (Actions i.names) actions
unfolding actions
actions_read i left at count xs j h =
    let m = read_then i (Acts i.names) action (action_reads i) left at count _ xs j h in
    let r = actions_go_on i (length m.rest) (m.value ∷ []) m.words m.value m.taken m.rest m.at m.count xs j m.goes_on in
    record {
      words = m.words ++ r.words;
      rest = r.rest;
      at = r.at;
      count = r.count;
      whole = both_parts m.words r.words (map (lexeme_of i.text) r.rest) m.whole r.whole;
      taken = subst (Actions i.names (m.words ++ r.words)) (sym r.taken.1) r.taken.2;
      end = r.end;
    }

effects_read : (i : Input) → ReadsOnly i (DoActions i.names) effects
unfolding effects
effects_read i left at count xs j h =
    elim (eat_then i pieces.Do left at count _ xs j h) [
      | inl e ↦ (
          let r = actions_read i e.rest (at + 1) count xs j e.goes_on in
          rw e.whole (record {
            words = lexeme_of i.text e.token ∷ r.words;
            rest = r.rest;
            at = r.at;
            count = r.count;
            whole = ap (λ ls. lexeme_of i.text e.token ∷ ls) r.whole;
            taken = phrase.do_actions (lexeme_of i.text e.token) e.is r.taken;
            end = r.end;
          }))
      | inr h' ↦ ends_read i (DoActions i.names) [] left left at count [] xs j refl phrase.no_action h'
    ]

-- ---- transitions

transition_reads : (i : Input) → ReadsOnly i (Moves i.names) transition
unfolding transition
transition_reads i left at count x j h =
    let f = expect_then i pieces.From left at count _ x j h in
    let s = state_then i Transition f.rest (at + 1) count _ x j f.goes_on in
    let o = expect_then i pieces.To s.rest (at + 1 + 1) count _ x j s.goes_on in
    let t = state_then i Transition o.rest (at + 1 + 1 + 1) count _ x j o.goes_on in
    let e = read_then i (OnEvent i.names) event_if_any (event_if_any_reads i) t.rest (at + 1 + 1 + 1 + 1) count _ x j t.goes_on in
    let g = read_then i (IfGuard i.names) guard_if_any (guard_if_any_reads i) e.rest e.at e.count _ x j e.goes_on in
    let d = read_then i (DoActions i.names) effects (effects_read i) g.rest g.at g.count _ x j g.goes_on in
    let c = expect_then i pieces.Semicolon d.rest d.at d.count _ x j d.goes_on in
    let name = lexeme_of i.text in
    let last = map name c.rest in
    let semicolon : map name d.rest ≡ (name c.token ∷ []) ++ last = ap (map name) c.whole in
    let whole : map name t.rest ≡ (e.words ++ (g.words ++ (d.words ++ name c.token ∷ []))) ++ last =
    both_parts e.words (g.words ++ (d.words ++ name c.token ∷ [])) last e.whole
    (both_parts g.words (d.words ++ name c.token ∷ []) last g.whole (both_parts d.words (name c.token ∷ []) last d.whole semicolon)) in
    rw f.whole (rw s.whole (rw o.whole (rw t.whole (ends_read i (Moves i.names)
    (name f.token ∷ name s.token ∷ name o.token ∷ name t.token ∷ (e.words ++ (g.words ++ (d.words ++ name c.token ∷ []))))
    (f.token ∷ s.token ∷ o.token ∷ t.token ∷ t.rest) c.rest (d.at + 1) d.count
    (record { source = s.value; target = t.value; event = e.value; guard = g.value; actions = d.value }) x j
    (ap (λ ls. name f.token ∷ name s.token ∷ name o.token ∷ name t.token ∷ ls) whole)
    (phrase.moves (name f.token) (name s.token) (name o.token) (name t.token) (name c.token) s.value t.value e.value g.value d.value
    f.is s.is o.is t.is e.taken g.taken d.taken c.is) c.goes_on))))

-- with those that were found before
abbrev TransitionsOn : Names → List Transition → Meaning (List Transition)
TransitionsOn names found ws xs = (ys : List Transition) × (xs ≡ found ++ ys) × Transitions names ws ys

-- one of two rules was gone by
either : {B : Type 0} (b : Bool) (p q : Parser B) (k : Input) (y : B) (j : Input) → (if b then p else q) k ≡ Ok (y, j) → (p k ≡ Ok (y, j)) ⊎ (q k ≡ Ok (y, j))
either true p q k y j h = inl h
either false p q k y j h = inr h

transitions_from_read : (i : Input) (turns : ℕ) (found : List Transition) → ReadsOnly i (TransitionsOn i.names found) (transitions_from turns found)
unfolding transitions_from
transitions_from_read i zero found left at count xs j h =
    ends_read i (TransitionsOn i.names found) [] left left at count found xs j refl ([], sym (append-nil found), phrase.no_transition) h
transitions_from_read i (suc turns) found left at count xs j h =
    elim (either (sees pieces.From (here i left at count)) (transition >>= (λ next. transitions_from turns (found ++ next ∷ []))) (pure found) (here i left at count) xs j h) [
      | inl h' ↦ (
          let m = read_then i (Moves i.names) transition (transition_reads i) left at count _ xs j h' in
          let r = transitions_from_read i turns (found ++ m.value ∷ []) m.rest m.at m.count xs j m.goes_on in
          record {
            words = m.words ++ r.words;
            rest = r.rest;
            at = r.at;
            count = r.count;
            whole = both_parts m.words r.words (map (lexeme_of i.text) r.rest) m.whole r.whole;
            taken = (m.value ∷ r.taken.0, r.taken.1 ∙ append_assoc found (m.value ∷ []) r.taken.0, phrase.more_transitions m.taken r.taken.2);
            end = r.end;
          })
      | inr h' ↦ ends_read i (TransitionsOn i.names found) [] left left at count found xs j refl ([], sym (append-nil found), phrase.no_transition) h'
    ]

pub transitions_reads : (i : Input) → ReadsOnly i (Transitions i.names) transitions
unfolding transitions
transitions_reads i left at count xs j h =
    let r = transitions_from_read i (length left) [] left at count xs j h in
    record { words = r.words; rest = r.rest; at = r.at; count = r.count; whole = r.whole; taken = subst (Transitions i.names r.words) (sym r.taken.1) r.taken.2; end = r.end }

pub transitions_read : TransitionsReadAreSpelled
transitions_read i j found h =
    let r = transitions_reads i i.left i.at i.nodes found j h in
    rw r.end (r.words, r.taken, r.whole, refl, refl)
