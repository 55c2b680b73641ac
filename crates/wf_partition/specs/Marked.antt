-- Inner. Bits that are set, in lists that have one for each number from 0 on.
use Rattle.std.specs.Prelude.{ℕ, ◌≡◌, ◌+◌, ◌||◌, ◌&&◌, ◌==◌, Bool, false, List, [], ◌∷◌, length, map, slice_index_or}
use Rattle.std.specs.List.{range_with_len, list_any}
use Rattle.wf_model.specs.declared.expr.Expr.{Expr}
use Rattle.wf_model.specs.declared.chart.Chart.{Chart}
use Rattle.wf_parts.specs.declared.data.Component.{Component}
use Rattle.wf_model.specs.Tree.{all_states, all_transitions, all_events, all_acts, source}
use Rattle.wf_parts.specs.Reads.{reads_state, reads_var, reads_act, guard_reads, values_read, action_assigns, may_raise, may_start, is_on}
use Rattle.wf_parts.specs.Peers.{held_by}
use Rattle.wf_parts.specs.Known.{concerns, is_own, is_such, is_read, watches_state, has_output, knows_state, knows_var, knows_event, knows_act}
use Rattle.wf_semantics.specs.Admission.{is_act_at}
use Rattle.wf_model.specs.declared.chart.Action.{Action}
use Rattle.wf_partition.specs.declared.reading.Reads.{Reads}
use Rattle.wf_partition.specs.declared.holding.Held.{Held}
use Rattle.wf_partition.specs.declared.knowing.UnitBits.{UnitBits}

-- the bits of the numbers from a on, with those set whose numbers pass
unfoldable pub marked_from : ℕ → (ℕ → Bool) → List Bool → List Bool
marked_from a test [] = []
marked_from a test (bit ∷ bits) = (bit || test a) ∷ marked_from (a + 1) test bits

-- the bits, with those set whose numbers pass
abbrev pub marked : (ℕ → Bool) → List Bool → List Bool
marked test bits = marked_from 0 test bits

-- what passes is added: the states that are read so, the variables and the activities
pub record Adds (test : (Expr → Bool) → Bool) (old new : Reads) : Type 0 where
  pub states : new.states ≡ marked (λ s. test (reads_state s)) old.states
  pub vars : new.vars ≡ marked (λ x. test (reads_var x)) old.vars
  pub acts : new.acts ≡ marked (λ a. test (reads_act a)) old.acts

-- for each state, variable and activity, whether what reads it passes
pub record AreReads (chart : Chart) (test : (Expr → Bool) → Bool) (reads : Reads) : Type 0 where
  pub states : reads.states ≡ map (λ s. test (reads_state s)) (all_states chart)
  pub vars : reads.vars ≡ map (λ x. test (reads_var x)) (range_with_len 0 (length chart.vars))
  pub acts : reads.acts ≡ map (λ a. test (reads_act a)) (all_acts chart)

-- transition t is one that concerns u, whose guard reads so, or u's own, and a value that it assigns reads so
abbrev pub reads_at : Chart → ℕ → (Expr → Bool) → ℕ → Bool
reads_at chart u reads t = (concerns chart u t && is_such (guard_reads reads) chart t) || (is_own chart u t && is_such (values_read reads) chart t)

-- transition t lets the component's state in or out
abbrev pub moves : Component → ℕ → Bool
moves component t = list_any (λ x. x.0 == t) component.enter || list_any (λ x. x.0 == t) component.leave

-- transition t is one of these, and leads from state s
abbrev pub leads_from : Chart → List Bool → ℕ → ℕ → Bool
leads_from chart bits s t = slice_index_or bits t false && (source chart t == s)

-- for each state, whether u watches it, and for each variable and activity, whether a guard that concerns u reads it, or a value that u assigns
pub record AreSeen (chart : Chart) (u : ℕ) (seen : Reads) : Type 0 where
  pub states : seen.states ≡ map (watches_state chart u) (all_states chart)
  pub vars : seen.vars ≡ map (λ x. is_read chart u (reads_var x)) (range_with_len 0 (length chart.vars))
  pub acts : seen.acts ≡ map (λ a. is_read chart u (reads_act a)) (all_acts chart)

-- transition t is u's own, and one of its actions passes
abbrev pub has_at : Chart → ℕ → (Action → Bool) → ℕ → Bool
has_at chart u test t = is_own chart u t && is_such (λ trans. list_any test trans.actions) chart t

-- what may be changed by actions that pass is added
pub record Holds (test : (Action → Bool) → Bool) (old new : Held) : Type 0 where
  pub states : new.states ≡ old.states
  pub vars : new.vars ≡ marked (λ x. test (action_assigns x)) old.vars
  pub events : new.events ≡ marked (λ e. test (may_raise e)) old.events
  pub acts : new.acts ≡ marked (λ a. test (may_start a)) old.acts

-- for each state, variable, event and activity, whether it may stand in u's updates
unfoldable pub held_bits : Chart → ℕ → Held
held_bits chart u =
    record {
      states = map (held_by chart u).states (all_states chart);
      vars = map (held_by chart u).vars (range_with_len 0 (length chart.vars));
      events = map (held_by chart u).events (all_events chart);
      acts = map (held_by chart u).acts (all_acts chart);
    }

-- what concerns u, what it watches, what may stand in its updates, and what it knows
unfoldable pub unit_bits : Chart → ℕ → UnitBits
unit_bits chart u =
    record {
      concerned = map (concerns chart u) (all_transitions chart);
      watched = map (watches_state chart u) (all_states chart);
      held = held_bits chart u;
      states = map (knows_state chart u) (all_states chart);
      vars = map (knows_var chart u) (range_with_len 0 (length chart.vars));
      events = map (knows_event chart u) (all_events chart);
      acts = map (knows_act chart u) (all_acts chart);
    }

-- the bit is set in both
abbrev pub are_set : List Bool → List Bool → ℕ → Bool
are_set one other k = slice_index_or one k false && slice_index_or other k false

-- activity a is u's own, and x is one of its outputs
abbrev pub gives_at : Chart → ℕ → ℕ → ℕ → Bool
gives_at chart u x a = is_act_at chart u a && has_output chart x a

-- transition t is one of these, and n is its event
abbrev pub triggers_at : Chart → List Bool → ℕ → ℕ → Bool
triggers_at chart bits n t = slice_index_or bits t false && is_such (is_on n) chart t
