-- Worked runs, computed from the definitions.
use Rattle.std.proofs.Common.{◌≡◌, ℕ, true, List, [], ◌∷◌, Option, Some, None, Ok, Err, refl}
use Rattle.std.specs.Prelude.{pos}
use Rattle.wf_model.specs.declared.chart.Kind.{Kind}
use Rattle.wf_model.specs.declared.chart.Kind.TheVariants.{Basic, Or, And}
use Rattle.wf_model.specs.declared.chart.State.{State}
use Rattle.wf_model.specs.declared.chart.Event.{Event}
use Rattle.wf_model.specs.declared.chart.Transition.{Transition}
use Rattle.wf_model.specs.declared.chart.Action.{Action}
use Rattle.wf_model.specs.declared.chart.Action.TheVariants.{Assign, Start}
use Rattle.wf_model.specs.declared.chart.Chart.{Chart}
use Rattle.wf_model.specs.declared.value.Val.{Val}
use Rattle.wf_model.specs.declared.value.Val.TheVariants as v
use Rattle.wf_model.specs.declared.value.Sort.TheVariants as sorts
use Rattle.wf_model.specs.declared.expr.Expr.{Expr}
use Rattle.wf_model.specs.declared.expr.Expr.TheVariants as e
use Rattle.wf_model.specs.declared.expr.Op.TheVariants as o
use Rattle.wf_model.specs.declared.outer.Outer.{Outer}
use Rattle.wf_model.specs.declared.outer.Outer.TheVariants.{Happen, Complete}
use Rattle.wf_model.specs.declared.outer.OuterFault.TheVariants.{WrongUnit, NoItem, AlreadyDone, WrongOutput}
use Rattle.wf_model.specs.declared.outer.Entry.{Entry}
use Rattle.wf_model.specs.Tree.{children, ancestors_by}
use Rattle.wf_model.specs.Values.{on_two}
use Rattle.wf_semantics.specs.Configuration.{Tree, Leaf, OrNode, AndNode, NoTrees, More}
use Rattle.wf_semantics.specs.Entry.{grown}
use Rattle.wf_semantics.specs.Walk.{walked, all_walked, fired, all_fired}
use Rattle.wf_semantics.specs.Snapshot.{is_enabled}
use Rattle.wf_semantics.specs.Run.{CentralState, first_state, next_state, snapshot_of, fired_in, started_in}
use Rattle.wf_semantics.specs.Admission.{may_be_admitted}

abbrev root : State
root = record { name = []; kind = Or; parent = None; unit = record { 0 = 0 } }

abbrev state : Kind → ℕ → ℕ → State
state kind parent unit = record { name = []; kind = kind; parent = Some (record { 0 = parent }); unit = record { 0 = unit } }

-- a transition on an event, with a guard and actions
abbrev moves : ℕ → ℕ → Option ℕ → Option Expr → List Action → Transition
moves from to None guard actions = record { source = record { 0 = from }; target = record { 0 = to }; event = None; guard = guard; actions = actions }
moves from to (Some e) guard actions =
    record { source = record { 0 = from }; target = record { 0 = to }; event = Some (record { 0 = e }); guard = guard; actions = actions }

abbrev on : ℕ → ℕ → ℕ → Transition
on event from to = moves from to (Some event) None []

abbrev event_at : Option ℕ → Event
event_at None = record { name = []; unit = None }
event_at (Some u) = record { name = []; unit = Some (record { 0 = u }) }

abbrev chart_of : List (List ℕ) → List Event → List State → List Transition → Chart
chart_of units events states transitions =
    record { name = []; units = units; events = events; vars = []; acts = []; states = states; transitions = transitions }

abbrev happens : ℕ → ℕ → Entry
happens unit e = record { unit = record { 0 = unit }; outer = Happen (record { 0 = e }) }

-- PRIORITY: R { X { X1 X2 } Y Z }, events e, f and g

abbrev priority : Chart
priority =
    chart_of ([] ∷ []) (event_at None ∷ event_at (Some 0) ∷ event_at (Some 0) ∷ event_at (Some 0) ∷ [])
    (root ∷ state Or 0 0 ∷ state Basic 1 0 ∷ state Basic 1 0 ∷ state Basic 0 0 ∷ state Basic 0 0 ∷ [])
    (on 1 2 3 ∷ on 1 1 4 ∷ on 1 1 5 ∷ on 3 2 3 ∷ on 2 1 1 ∷ [])

priority_first : (first_state priority).configuration ≡ OrNode 0 (OrNode 1 (Leaf 2))
unfolding first_state grown children ancestors_by
priority_first = refl

-- of three enabled transitions, one has a lower scope and one a greater number than t1
outer_wins : fired_in priority (first_state priority) (happens 0 1 ∷ []) ≡ 1 ∷ []
unfolding fired_in first_state snapshot_of is_enabled grown children ancestors_by walked all_walked fired all_fired
outer_wins = refl

outer_enters : (next_state priority (first_state priority) (happens 0 1 ∷ [])).configuration ≡ OrNode 0 (Leaf 4)
unfolding next_state fired_in first_state snapshot_of is_enabled grown children ancestors_by walked all_walked fired all_fired
outer_enters = refl

abbrev after_g : CentralState
after_g = next_state priority (first_state priority) (happens 0 3 ∷ [])

inner_moves : after_g.configuration ≡ OrNode 0 (OrNode 1 (Leaf 3))
unfolding next_state fired_in first_state snapshot_of is_enabled grown children ancestors_by walked all_walked fired all_fired
inner_moves = refl

-- a transition from a state to itself enters its default tree again
begins_again : (next_state priority after_g (happens 0 2 ∷ [])).configuration ≡ OrNode 0 (OrNode 1 (Leaf 2))
unfolding next_state fired_in first_state snapshot_of is_enabled grown children ancestors_by walked all_walked fired all_fired
begins_again = refl

-- an event is there for one step
gone_after_one : fired_in priority after_g [] ≡ []
unfolding next_state fired_in first_state snapshot_of is_enabled grown children ancestors_by walked all_walked fired all_fired
gone_after_one = refl

-- REGIONS: R { A { B { B1 B2 } C { C1 C2 } } }, A an And state, events e and f

abbrev regions : Chart
regions =
    chart_of ([] ∷ []) (event_at None ∷ event_at (Some 0) ∷ event_at (Some 0) ∷ [])
    (root ∷ state And 0 0 ∷ state Or 1 0 ∷ state Basic 2 0 ∷ state Basic 2 0 ∷ state Or 1 0 ∷ state Basic 5 0 ∷ state Basic 5 0 ∷ [])
    (on 1 3 4 ∷ on 2 4 7 ∷ [])

abbrev both : Tree → Tree → Tree
both b c = OrNode 0 (AndNode 1 (More (OrNode 2 b) (More (OrNode 5 c) NoTrees)))

abbrev after_e : CentralState
after_e = next_state regions (first_state regions) (happens 0 1 ∷ [])

one_region_moves : after_e.configuration ≡ both (Leaf 4) (Leaf 6)
unfolding next_state fired_in first_state snapshot_of is_enabled grown children ancestors_by walked all_walked fired all_fired
one_region_moves = refl

-- from one region into the other: the scope is R, and the region that was left begins anew
crosses : (next_state regions after_e (happens 0 2 ∷ [])).configuration ≡ both (Leaf 3) (Leaf 7)
unfolding next_state fired_in first_state snapshot_of is_enabled grown children ancestors_by walked all_walked fired all_fired
crosses = refl

-- WRITES: two regions write x in one step, and an item's output comes before them

abbrev plus_x : ℕ → Expr
plus_x n = e.Bin o.Add (e.Var (record { 0 = 0 })) (e.Int n)

abbrev x_by : ℕ → List Action
x_by n = Assign (record { 0 = 0 }) (plus_x n) ∷ []

abbrev writes : Chart
writes =
    record {
      name = [];
      units = [] ∷ [] ∷ [];
      events = event_at None ∷ event_at (Some 1) ∷ [];
      vars = record { name = []; sort = sorts.Int; first = v.Int (pos 0) } ∷ [];
      acts = record { name = []; unit = record { 0 = 0 }; outputs = record { 0 = 0 } ∷ [] } ∷ [];
      states = root ∷ state And 0 0 ∷ state Or 1 0 ∷ state Basic 2 0 ∷ state Basic 2 0 ∷ state Basic 2 0 ∷ state Or 1 1 ∷ state Basic 6 1 ∷ state Basic 6 1 ∷ [];
      transitions = moves 3 4 None None (Start (record { 0 = 0 }) ∷ []) ∷ moves 4 5 (Some 1) None (x_by 1) ∷ moves 7 8 (Some 1) None (x_by 2) ∷ [];
    }

abbrev complete : ℕ → Val → Outer
complete n val = Complete n (record { 0 = 0 }) (record { var = record { 0 = 0 }; val = val } ∷ [])

abbrev started : CentralState
started = next_state writes (first_state writes) []

no_item_yet : may_be_admitted writes (first_state writes).items [] 0 (complete 1 (v.Int (pos 9))) ≡ Err NoItem
unfolding may_be_admitted first_state
no_item_yet = refl

starts_one : started_in writes (first_state writes) [] ≡ (record { 0 = 0 }, 1) ∷ []
unfolding started_in next_state fired_in first_state snapshot_of is_enabled grown children ancestors_by walked all_walked fired all_fired
starts_one = refl

wrong_sort : may_be_admitted writes started.items [] 0 (complete 1 (v.Bool true)) ≡ Err WrongOutput
unfolding may_be_admitted next_state fired_in first_state snapshot_of is_enabled grown children ancestors_by walked all_walked fired all_fired
wrong_sort = refl

right_sort : may_be_admitted writes started.items [] 0 (complete 1 (v.Int (pos 9))) ≡ Ok tt
unfolding may_be_admitted next_state fired_in first_state snapshot_of is_enabled grown children ancestors_by walked all_walked fired all_fired
right_sort = refl

abbrev nine : Entry
nine = record { unit = record { 0 = 0 }; outer = complete 1 (v.Int (pos 9)) }

not_twice : may_be_admitted writes started.items (nine ∷ []) 0 (complete 1 (v.Int (pos 9))) ≡ Err AlreadyDone
unfolding may_be_admitted next_state fired_in first_state snapshot_of is_enabled grown children ancestors_by walked all_walked fired all_fired
not_twice = refl

not_there : may_be_admitted writes started.items [] 0 (Happen (record { 0 = 1 })) ≡ Err WrongUnit
unfolding may_be_admitted
not_there = refl

-- the output is written first, both right sides see it, and the greater transition's write stays
greater_stays : (next_state writes started (nine ∷ happens 1 1 ∷ [])).store ≡ v.Int (pos 11) ∷ []
unfolding next_state fired_in first_state snapshot_of is_enabled grown children ancestors_by walked all_walked fired all_fired on_two Rattle.wf_model.specs.declared.expr.Expr.TheBlock.hidden-the_row-Expr-0 denote.Hole.Carrier.hidden
greater_stays = refl

-- FAULTS: n is the greatest number, and n + 1 is none

abbrev n_and_one : Expr
n_and_one = plus_x 1

abbrev faults : Chart
faults =
    record {
      name = [];
      units = [] ∷ [];
      events = event_at None ∷ event_at (Some 0) ∷ [];
      vars = record { name = []; sort = sorts.Int; first = v.Int (pos 9223372036854775807) } ∷ [];
      acts = [];
      states = root ∷ state Basic 0 0 ∷ state Basic 0 0 ∷ state Basic 0 0 ∷ [];
      transitions =
          moves 1 2 (Some 1) None (x_by 1)
          ∷ moves 2 1 None (Some (e.Bin o.Gt n_and_one (e.Int 0))) []
          ∷ moves 2 3 (Some 0) None []
          ∷ [];
    }

abbrev faulted : CentralState
faulted = next_state faults (first_state faults) (happens 0 1 ∷ [])

raises_fault : faulted.raised ≡ record { 0 = 0 } ∷ []
unfolding next_state fired_in first_state snapshot_of is_enabled grown children ancestors_by walked all_walked fired all_fired on_two Rattle.wf_model.specs.declared.expr.Expr.TheBlock.hidden-the_row-Expr-0 denote.Hole.Carrier.hidden
raises_fault = refl

keeps_value : faulted.store ≡ v.Int (pos 9223372036854775807) ∷ []
unfolding next_state fired_in first_state snapshot_of is_enabled grown children ancestors_by walked all_walked fired all_fired on_two Rattle.wf_model.specs.declared.expr.Expr.TheBlock.hidden-the_row-Expr-0 denote.Hole.Carrier.hidden
keeps_value = refl

-- a guard without a value is false, and the fault is an event of the next step
handles_fault : fired_in faults faulted [] ≡ 2 ∷ []
unfolding next_state fired_in first_state snapshot_of is_enabled grown children ancestors_by walked all_walked fired all_fired on_two Rattle.wf_model.specs.declared.expr.Expr.TheBlock.hidden-the_row-Expr-0 denote.Hole.Carrier.hidden
handles_fault = refl
