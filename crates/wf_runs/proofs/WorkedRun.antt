-- A worked run, computed from the definitions.
use Rattle.std.proofs.Common.{◌≡◌, ℕ, false, List, [], ◌∷◌, Some, None, refl}
use Rattle.wf_model.specs.declared.chart.Kind.TheVariants.{Basic, Or}
use Rattle.wf_model.specs.declared.chart.State.{State}
use Rattle.wf_model.specs.declared.chart.Activity.{Activity}
use Rattle.wf_model.specs.declared.chart.Transition.{Transition}
use Rattle.wf_model.specs.declared.chart.Action.{Action}
use Rattle.wf_model.specs.declared.chart.Action.TheVariants.{Start}
use Rattle.wf_model.specs.declared.chart.Chart.{Chart}
use Rattle.wf_model.specs.declared.outer.Outer.TheVariants.{Happen, Complete}
use Rattle.wf_model.specs.declared.outer.Entry.{Entry}
use Rattle.wf_model.specs.Tree.{children, ancestors_by}
use Rattle.wf_semantics.specs.Entry.{grown}
use Rattle.wf_semantics.specs.Walk.{walked, all_walked, fired, all_fired}
use Rattle.wf_semantics.specs.Snapshot.{is_enabled}
use Rattle.wf_semantics.specs.Run.{first_state, next_state, central_run, snapshot_of, fired_in, started_in}
use Rattle.wf_semantics.specs.Admission.{may_be_admitted, may_come}
use Rattle.wf_runs.specs.Runs.{IsRun}
use Rattle.wf_runs.specs.Starts.{StartIn, all_starts, started_at}
use Rattle.wf_runs.specs.Completions.{open_numbers}

-- Two states, and an event on which each is left for the other. From the first to the second activity 0 is started, then
-- activity 1 and activity 0 again, and on the way back activity 1. Each activity has a unit of its own.

abbrev basic : State
basic = record { name = []; kind = Basic; parent = Some (record { 0 = 0 }); unit = record { 0 = 0 } }

abbrev starts : ℕ → Action
starts a = Start (record { 0 = a })

abbrev moves : ℕ → ℕ → List Action → Transition
moves from to actions =
    record { source = record { 0 = from }; target = record { 0 = to }; event = Some (record { 0 = 1 }); guard = None; actions = actions }

abbrev activity : ℕ → Activity
activity u = record { name = []; unit = record { 0 = u }; outputs = [] }

abbrev chart : Chart
chart =
    record {
      name = [];
      units = [] ∷ [] ∷ [];
      events = record { name = []; unit = None } ∷ record { name = []; unit = Some (record { 0 = 0 }) } ∷ [];
      vars = [];
      acts = activity 0 ∷ activity 1 ∷ [];
      states = record { name = []; kind = Or; parent = None; unit = record { 0 = 0 } } ∷ basic ∷ basic ∷ [];
      transitions = moves 1 2 (starts 0 ∷ starts 1 ∷ starts 0 ∷ []) ∷ moves 2 1 (starts 1 ∷ []) ∷ [];
    }

abbrev event : Entry
event = record { unit = record { 0 = 0 }; outer = Happen (record { 0 = 1 }) }

-- unit 0's item 1 is completed
abbrev completion : Entry
completion = record { unit = record { 0 = 0 }; outer = Complete 1 (record { 0 = 0 }) [] }

abbrev step_one : List (List Entry)
step_one = (event ∷ []) ∷ []

abbrev both_steps : List (List Entry)
both_steps = (event ∷ []) ∷ (completion ∷ event ∷ []) ∷ []

abbrev start : ℕ → ℕ → ℕ → ℕ → StartIn
start step a t place = record { step = step; start = record { act = record { 0 = a }; trans = record { 0 = t }; place = place } }

is_run : IsRun chart both_steps
unfolding may_be_admitted next_state fired_in first_state snapshot_of is_enabled grown children ancestors_by walked all_walked fired all_fired
is_run = (refl, (refl, tt))

starts_at_0 : all_starts chart 0 both_steps ≡ start 1 0 0 0 ∷ start 1 0 0 2 ∷ []
unfolding next_state fired_in first_state snapshot_of is_enabled grown children ancestors_by walked all_walked fired all_fired
starts_at_0 = refl

starts_at_1 : all_starts chart 1 both_steps ≡ start 1 1 0 1 ∷ start 2 1 1 0 ∷ []
unfolding next_state fired_in first_state snapshot_of is_enabled grown children ancestors_by walked all_walked fired all_fired
starts_at_1 = refl

tells_two : started_at chart 0 (first_state chart) (event ∷ []) ≡ (record { 0 = 0 }, 1) ∷ (record { 0 = 0 }, 2) ∷ []
unfolding started_in next_state fired_in first_state snapshot_of is_enabled grown children ancestors_by walked all_walked fired all_fired
tells_two = refl

tells_next : started_at chart 1 (central_run chart step_one) (completion ∷ event ∷ []) ≡ (record { 0 = 1 }, 2) ∷ []
unfolding started_in next_state fired_in first_state snapshot_of is_enabled grown children ancestors_by walked all_walked fired all_fired
tells_next = refl

-- of two items one is completed by the entries of the second step
one_open : open_numbers chart step_one (completion ∷ event ∷ []) 0 0 ≡ 2 ∷ []
unfolding next_state fired_in first_state snapshot_of is_enabled grown children ancestors_by walked all_walked fired all_fired
one_open = refl

-- a third step may not complete it again
not_twice : may_come chart (central_run chart both_steps).items (completion ∷ []) ≡ false
unfolding may_be_admitted next_state fired_in first_state snapshot_of is_enabled grown children ancestors_by walked all_walked fired all_fired
not_twice = refl
