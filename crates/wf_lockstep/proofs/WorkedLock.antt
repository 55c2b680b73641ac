-- A worked run of parts, computed from the definitions.
use Rattle.std.proofs.Common.{◌≡◌, ℕ, List, [], ◌∷◌, map, Option, Some, None, refl}
use Rattle.wf_model.specs.declared.chart.Kind.{Kind}
use Rattle.wf_model.specs.declared.chart.Kind.TheVariants.{Basic, Or, And}
use Rattle.wf_model.specs.declared.chart.State.{State}
use Rattle.wf_model.specs.declared.chart.Event.{Event}
use Rattle.wf_model.specs.declared.chart.Transition.{Transition}
use Rattle.wf_model.specs.declared.chart.Chart.{Chart}
use Rattle.wf_model.specs.declared.outer.Outer.{Outer}
use Rattle.wf_model.specs.declared.outer.Outer.TheVariants.{Happen}
use Rattle.wf_model.specs.declared.outer.Entry.{Entry}
use Rattle.wf_model.specs.declared.update.Update.{Update}
use Rattle.wf_model.specs.Tree.{children, ancestors_by}
use Rattle.wf_semantics.specs.Entry.{grown}
use Rattle.wf_semantics.specs.Walk.{walked, all_walked, fired, all_fired}
use Rattle.wf_semantics.specs.Snapshot.{is_enabled}
use Rattle.wf_semantics.specs.Run.{first_state, next_state, snapshot_of, fired_in}
use Rattle.wf_parts.specs.Known.{concerns, is_own, watches_state, knows_var, knows_event, knows_act}
use Rattle.wf_parts.specs.Parts.{part_of}
use Rattle.wf_views.specs.Views.{first_view, sees}
use Rattle.wf_views.specs.OwnSteps.{part_step}
use Rattle.wf_views.specs.Absorbing.{absorbed}
use Rattle.wf_lockstep.specs.Shares.{share_from, share_of}
use Rattle.wf_lockstep.specs.Lock.{lock_view, lock_update, outers_by}
use Rattle.wf_model.specs.Ids.{state_id, trans_id}

abbrev root : State
root = record { name = []; kind = Or; parent = None; unit = record { 0 = 0 } }

abbrev state : Kind → ℕ → ℕ → State
state kind parent unit = record { name = []; kind = kind; parent = Some (record { 0 = parent }); unit = record { 0 = unit } }

abbrev on : ℕ → ℕ → ℕ → Transition
on event from to = record { source = record { 0 = from }; target = record { 0 = to }; event = Some (record { 0 = event }); guard = None; actions = [] }

abbrev event_at : Option ℕ → Event
event_at None = record { name = []; unit = None }
event_at (Some u) = record { name = []; unit = Some (record { 0 = u }) }

-- R { A { B { B1 B2 } C { C1 C2 } } }, A an And state, events e and f; C and its states at a unit of their own
abbrev regions : Chart
regions =
    record {
      name = [];
      units = [] ∷ [] ∷ [];
      events = event_at None ∷ event_at (Some 0) ∷ event_at (Some 0) ∷ [];
      vars = [];
      acts = [];
      states = root ∷ state And 0 0 ∷ state Or 1 0 ∷ state Basic 2 0 ∷ state Basic 2 0 ∷ state Or 1 1 ∷ state Basic 5 1 ∷ state Basic 5 1 ∷ [];
      transitions = on 1 3 4 ∷ on 2 4 7 ∷ [];
    }

abbrev happens : ℕ → Entry
happens e = record { unit = record { 0 = 0 }; outer = Happen (record { 0 = e }) }

abbrev steps : List (List Entry)
steps = [] ∷ (happens 1 ∷ []) ∷ (happens 2 ∷ []) ∷ []

abbrev update : ℕ → ℕ → List ℕ → List ℕ → List Outer → Update
update u k flips fired outers =
    record { from = record { 0 = u }; step = k; flips = map state_id flips; writes = []; raised = []; starts = []; fired = map trans_id fired; outer = outers }

abbrev made : ℕ → ℕ → Update
made u j = lock_update 2 (part_of regions) (outers_by steps) j u

-- step 1 has no flips and the outer e
first_step : made 0 0 ≡ update 0 1 [] [] (Happen (record { 0 = 1 }) ∷ [])
unfolding lock_view part_of concerns is_own watches_state knows_var knows_event knows_act first_view sees part_step absorbed grown children ancestors_by
first_step = refl

-- step 2 has the flips of B1 and B2, fired t0 and the outer f
second_step : made 0 1 ≡ update 0 2 (3 ∷ 4 ∷ []) (0 ∷ []) (Happen (record { 0 = 2 }) ∷ [])
unfolding lock_view part_of concerns is_own watches_state knows_var knows_event knows_act first_view sees part_step absorbed grown children ancestors_by
second_step = refl

-- step 3 fires t1 with the flips B1, B2, and at the other unit C1, C2
third_step : made 0 2 ≡ update 0 3 (3 ∷ 4 ∷ []) (1 ∷ []) []
unfolding lock_view part_of concerns is_own watches_state knows_var knows_event knows_act first_view sees part_step absorbed grown children ancestors_by
third_step = refl

third_there : made 1 2 ≡ update 1 3 (6 ∷ 7 ∷ []) [] []
unfolding lock_view part_of concerns is_own watches_state knows_var knows_event knows_act first_view sees part_step absorbed grown children ancestors_by
third_there = refl

third_share : share_of regions steps 1 2 ≡ update 1 3 (6 ∷ 7 ∷ []) [] []
unfolding share_from is_own next_state fired_in first_state snapshot_of is_enabled grown children ancestors_by walked all_walked fired all_fired
third_share = refl

-- the same with all states at one unit, which flips all four
abbrev alone : Chart
alone =
    record regions {
      units = [] ∷ [];
      states = root ∷ state And 0 0 ∷ state Or 1 0 ∷ state Basic 2 0 ∷ state Basic 2 0 ∷ state Or 1 0 ∷ state Basic 5 0 ∷ state Basic 5 0 ∷ [];
    }

all_flips : lock_update 1 (part_of alone) (outers_by steps) 2 0 ≡ update 0 3 (3 ∷ 4 ∷ 6 ∷ 7 ∷ []) (1 ∷ []) []
unfolding lock_view part_of concerns is_own watches_state knows_var knows_event knows_act first_view sees part_step absorbed grown children ancestors_by
all_flips = refl

all_share : share_of alone steps 0 2 ≡ update 0 3 (3 ∷ 4 ∷ 6 ∷ 7 ∷ []) (1 ∷ []) []
unfolding share_from is_own next_state fired_in first_state snapshot_of is_enabled grown children ancestors_by walked all_walked fired all_fired
all_share = refl
