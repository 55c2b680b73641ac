-- What may stand in a unit's updates, added piece by piece.
use Rattle.std.proofs.Common.{◌≡◌, ℕ, ◌+◌, ◌<◌, ◌==◌, ◌||◌, ◌&&◌, Bool, true, false, List, length, map, take, get_or, Option, refl, sym, ◌∙◌, ap, ap₂}
use Rattle.std.specs.List.{list_any, range_with_len}
use Rattle.std.specs.Option.{option_map_or}
use Rattle.std.proofs.lemmas.List.Folds.{list_any_more}
use Rattle.wf_model.specs.declared.chart.Action.{Action}
use Rattle.wf_model.specs.declared.chart.Transition.{Transition}
use Rattle.wf_model.specs.declared.chart.Chart.{Chart}
use Rattle.wf_model.specs.Tree.{all_states, all_transitions, all_events, all_acts}
use Rattle.wf_semantics.specs.Admission.{is_event_at, is_act_at}
use Rattle.wf_scopes.proofs.Lines.{trans_get, source_read}
use Rattle.wf_parts.specs.Known.{is_state_of}
use Rattle.wf_parts.specs.Reads.{action_assigns, may_raise, may_start}
use Rattle.wf_partition.specs.declared.holding.Held.{Held}
use Rattle.wf_partition.specs.Marked.{marked, Holds, has_at, gives_at, held_bits}
use Rattle.wf_partition.proofs.Bits.{marked_none, marked_agree, marked_twice, marked_row, any_more}
use Rattle.wf_partition.proofs.Known.{own_read}

-- nothing is added
pub holds_none : (test : (Action → Bool) → Bool) (held : Held) → ((t : Action → Bool) → test t ≡ false) → Holds test held held
holds_none test held h = record {
  states = refl;
  vars = marked_none (λ x. test (action_assigns x)) held.vars (λ x. h (action_assigns x));
  events = marked_none (λ e. test (may_raise e)) held.events (λ e. h (may_raise e));
  acts = marked_none (λ a. test (may_start a)) held.acts (λ a. h (may_start a));
}

-- the same is added
pub holds_same : (one two : (Action → Bool) → Bool) (old new : Held) → Holds one old new → ((t : Action → Bool) → one t ≡ two t) → Holds two old new
holds_same one two old new holds h = record {
  states = holds.states;
  vars = holds.vars ∙ marked_agree _ _ old.vars (λ x. h (action_assigns x));
  events = holds.events ∙ marked_agree _ _ old.events (λ e. h (may_raise e));
  acts = holds.acts ∙ marked_agree _ _ old.acts (λ a. h (may_start a));
}

-- what counts is added, and what doesn't isn't
pub holds_counted : (counts : Bool) (test : (Action → Bool) → Bool) (old new : Held) → counts ≡ true → Holds test old new → Holds (λ t. counts && test t) old new
holds_counted counts test old new on holds = holds_same test (λ t. counts && test t) old new holds (λ t. sym (ap (λ (b : Bool). b && test t) on))

pub holds_skipped : (counts : Bool) (test : (Action → Bool) → Bool) (held : Held) → counts ≡ false → Holds (λ t. counts && test t) held held
holds_skipped counts test held off = holds_none (λ t. counts && test t) held (λ t. ap (λ (b : Bool). b && test t) off)

-- one piece after the other
pub holds_both : (one two : (Action → Bool) → Bool) (old bits new : Held) → Holds one old bits → Holds two bits new → Holds (λ t. one t || two t) old new
holds_both one two old bits new first second = record {
  states = second.states ∙ first.states;
  vars = marked_twice (λ x. one (action_assigns x)) (λ x. two (action_assigns x)) old.vars bits.vars new.vars first.vars second.vars;
  events = marked_twice (λ e. one (may_raise e)) (λ e. two (may_raise e)) old.events bits.events new.events first.events second.events;
  acts = marked_twice (λ a. one (may_start a)) (λ a. two (may_start a)) old.acts bits.acts new.acts first.acts second.acts;
}

-- one action more
pub holds_more : (xs : List Action) (i : ℕ) (x : Action) (old bits new : Held) → i < length xs → x ≡ get_or xs i x
    → Holds (λ t. list_any t (take i xs)) old bits → Holds (λ t. t x) bits new → Holds (λ t. list_any t (take (i + 1) xs)) old new
holds_more xs i x old bits new lt is before now =
    holds_same _ (λ t. list_any t (take (i + 1) xs)) old new (holds_both (λ t. list_any t (take i xs)) (λ t. t x) old bits new before now)
    (λ t. ap (λ (b : Bool). list_any t (take i xs) || b) (ap t is) ∙ sym (list_any_more t xs i x lt))

-- one transition more
pub holds_number : (tests : (Action → Bool) → ℕ → Bool) (test : (Action → Bool) → Bool) (i : ℕ) (old bits new : Held) → Holds (λ t. list_any (tests t) (range_with_len 0 i)) old bits
    → Holds test bits new → ((t : Action → Bool) → test t ≡ tests t i) → Holds (λ t. list_any (tests t) (range_with_len 0 (i + 1))) old new
holds_number tests test i old bits new before now same =
    holds_same _ (λ t. list_any (tests t) (range_with_len 0 (i + 1))) old new (holds_both (λ t. list_any (tests t) (range_with_len 0 i)) test old bits new before now)
    (λ t. ap (λ (b : Bool). list_any (tests t) (range_with_len 0 i) || b) (same t) ∙ sym (any_more (tests t) i))

-- by the action

pub holds_assign : (a : Action) (held : Held) (vars events : List Bool) (x : ℕ) → vars ≡ marked (λ k. x == k) held.vars → events ≡ marked (λ k. 0 == k) held.events
    → ((k : ℕ) → action_assigns k a ≡ (x == k)) → ((k : ℕ) → may_raise k a ≡ (0 == k)) → ((k : ℕ) → may_start k a ≡ false)
    → Holds (λ t. t a) held (record held { vars = vars; events = events })
holds_assign a held vars events x v e assigned raised started = record {
  states = refl;
  vars = v ∙ marked_agree (λ k. x == k) (λ k. action_assigns k a) held.vars (λ k. sym (assigned k));
  events = e ∙ marked_agree (λ k. 0 == k) (λ k. may_raise k a) held.events (λ k. sym (raised k));
  acts = marked_none (λ k. may_start k a) held.acts started;
}

pub holds_raise : (a : Action) (held : Held) (events : List Bool) (x : ℕ) → events ≡ marked (λ k. x == k) held.events
    → ((k : ℕ) → action_assigns k a ≡ false) → ((k : ℕ) → may_raise k a ≡ (x == k)) → ((k : ℕ) → may_start k a ≡ false) → Holds (λ t. t a) held (record held { events = events })
holds_raise a held events x e assigned raised started = record {
  states = refl;
  vars = marked_none (λ k. action_assigns k a) held.vars assigned;
  events = e ∙ marked_agree (λ k. x == k) (λ k. may_raise k a) held.events (λ k. sym (raised k));
  acts = marked_none (λ k. may_start k a) held.acts started;
}

pub holds_start : (a : Action) (held : Held) (acts : List Bool) (x : ℕ) → acts ≡ marked (λ k. x == k) held.acts
    → ((k : ℕ) → action_assigns k a ≡ false) → ((k : ℕ) → may_raise k a ≡ false) → ((k : ℕ) → may_start k a ≡ (x == k)) → Holds (λ t. t a) held (record held { acts = acts })
holds_start a held acts x e assigned raised started = record {
  states = refl;
  vars = marked_none (λ k. action_assigns k a) held.vars assigned;
  events = marked_none (λ k. may_raise k a) held.events raised;
  acts = e ∙ marked_agree (λ k. x == k) (λ k. may_start k a) held.acts (λ k. sym (started k));
}

-- a transition is the unit's own, and one of its actions passes
pub own_at : (chart : Chart) (u t : ℕ) (own : Bool) (tr : Transition) → t < length chart.transitions → tr ≡ get_or chart.transitions t tr → own ≡ is_state_of chart u tr.source.0
    → (test : Action → Bool) → (own && list_any test tr.actions) ≡ has_at chart u test t
own_at chart u t own tr lt is o test =
    ap₂ (λ (a b : Bool). a && b) (o ∙ own_read chart u t tr.source.0 (source_read chart t tr lt is))
    (sym (ap (λ (y : Option Transition). option_map_or (λ trans. list_any test trans.actions) y false) (trans_get chart t tr lt is)))

-- all that may stand in the unit's updates
pub held_row : (chart : Chart) (u : ℕ) (old new : Held) (vars : List Bool) → old.states ≡ map (is_state_of chart u) (all_states chart)
    → old.vars ≡ map (λ k. false) (range_with_len 0 (length chart.vars)) → old.events ≡ map (is_event_at chart u) (all_events chart) → old.acts ≡ map (is_act_at chart u) (all_acts chart)
    → Holds (λ test. list_any (has_at chart u test) (all_transitions chart)) old new → vars ≡ marked (λ x. list_any (gives_at chart u x) (all_acts chart)) new.vars
    → record new { vars = vars } ≡ held_bits chart u
unfolding held_bits
held_row chart u old new vars s v e a own given =
    let states = own.states ∙ s in
    let written = own.vars ∙ marked_row (λ k. false) (λ x. list_any (has_at chart u (action_assigns x)) (all_transitions chart)) (length chart.vars) old.vars v in
    let all = given ∙ marked_row (λ x. false || list_any (has_at chart u (action_assigns x)) (all_transitions chart)) (λ x. list_any (gives_at chart u x) (all_acts chart)) (length chart.vars) new.vars written in
    let events = own.events ∙ marked_row (is_event_at chart u) (λ n. list_any (has_at chart u (may_raise n)) (all_transitions chart)) (length chart.events) old.events e in
    let acts = own.acts ∙ marked_row (is_act_at chart u) (λ n. list_any (has_at chart u (may_start n)) (all_transitions chart)) (length chart.acts) old.acts a in
    λ i. record { states = states i; vars = all i; events = events i; acts = acts i }
