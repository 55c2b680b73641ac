-- The chart that is generated from a number.
use Rattle.std.specs.Prelude.{ℕ, zero, suc, ◌+◌, ◌*◌, ◌/◌, ◌%◌, ◌==◌, ◌++◌, List, [], ◌∷◌, map, Option, None, Some, if◌then◌else◌, pos}
use Rattle.std.specs.List.{range_with_len}
use Rattle.std.specs.Fmt.{decimal}
use lib.Chars.{codes}
use Rattle.wf_model.specs.declared.ids.UnitId.{UnitId}
use Rattle.wf_model.specs.declared.ids.StateId.{StateId}
use Rattle.wf_model.specs.declared.value.Sort.TheVariants as sorts
use Rattle.wf_model.specs.declared.value.Val.TheVariants as v
use Rattle.wf_model.specs.declared.expr.Op.TheVariants as o
use Rattle.wf_model.specs.declared.expr.Expr.TheVariants.{Bin, Var, Int}
use Rattle.wf_model.specs.declared.chart.Kind.{Kind}
use Rattle.wf_model.specs.declared.chart.Kind.TheVariants.{Basic, Or, And}
use Rattle.wf_model.specs.declared.chart.State.{State}
use Rattle.wf_model.specs.declared.chart.Event.{Event}
use Rattle.wf_model.specs.declared.chart.Variable.{Variable}
use Rattle.wf_model.specs.declared.chart.Action.{Action}
use Rattle.wf_model.specs.declared.chart.Action.TheVariants.{Assign, Raise}
use Rattle.wf_model.specs.declared.chart.Transition.{Transition}
use Rattle.wf_model.specs.declared.chart.Chart.{Chart}
use Rattle.wf_model.specs.Ids.{unit_id, event_id, var_id, state_id}
use Rattle.wf_gen.specs.Draws.{draw}

-- DECLARATIONS

abbrev pub units : List (List ℕ)
units = codes "u0" ∷ codes "u1" ∷ codes "u2" ∷ []

abbrev pub event : List ℕ → Option UnitId → Event
event name unit = record { name = name; unit = unit }

-- an event at each unit, and `i` at none; `fault` stands before them in each chart
abbrev pub events : List Event
events =
    event (codes "fault") None ∷ event (codes "e0") (Some (unit_id 0)) ∷ event (codes "e1") (Some (unit_id 1)) ∷ event (codes "e2") (Some (unit_id 2))
    ∷ event (codes "i") None ∷ []

abbrev pub int_var : List ℕ → ℕ → Variable
int_var name first = record { name = name; sort = sorts.Int; first = v.Int (pos first) }

abbrev pub vars : List Variable
vars = int_var (codes "x") 0 ∷ int_var (codes "y") 1 ∷ []

-- STATES

abbrev pub state : List ℕ → Kind → Option StateId → UnitId → State
state name kind parent unit = record { name = name; kind = kind; parent = parent; unit = unit }

-- the name of group r, and of its basic state j
abbrev pub group_name : ℕ → List ℕ
group_name r = codes "G" ++ decimal r

abbrev pub basic_name : ℕ → ℕ → List ℕ
basic_name r j = group_name r ++ codes "S" ++ decimal j

-- the numbers of the same: before group r stand the root, its child, and five states for each group before it
abbrev pub group_id : ℕ → StateId
group_id r = state_id (5 * r + 2)

abbrev pub basic_id : ℕ → ℕ → StateId
basic_id r j = state_id (5 * r + 3 + j)

abbrev pub group_unit : ℕ → UnitId
group_unit r = unit_id (r % 3)

abbrev pub basic_state : ℕ → ℕ → State
basic_state r j = state (basic_name r j) Basic (Some (group_id r)) (group_unit r)

-- an Or state, and its four basic children
abbrev pub group : ℕ → List State
group r = state (group_name r) Or (Some (state_id 1)) (group_unit r) ∷ map (basic_state r) (range_with_len 0 4)

-- the first so many groups
unfoldable pub groups : ℕ → List State
groups zero = []
groups (suc r) = groups r ++ group r

-- the root `R` with the one child `A`, and the six groups as children of that
unfoldable pub states : List State
states = state (codes "R") Or None (unit_id 0) ∷ state (codes "A") And (Some (state_id 0)) (unit_id 0) ∷ groups 6

-- TRANSITIONS

-- x := x + 1, or y := x - y, or raise i, or none
abbrev pub actions : ℕ → List Action
actions d =
    if d == 0 then Assign (var_id 0) (Bin o.Add (Var (var_id 0)) (Int 1)) ∷ []
    else (if d == 1 then Assign (var_id 1) (Bin o.Sub (Var (var_id 0)) (Var (var_id 1))) ∷ [] else (if d == 2 then Raise (event_id 4) ∷ [] else []))

-- from basic state a to basic state b of group r, on `e0`, `e1`, `e2` or `i`, without a guard
abbrev pub move : ℕ → ℕ → ℕ → ℕ → ℕ → Transition
move r a b c d = record { source = basic_id r a; target = basic_id r b; event = Some (event_id (c + 1)); guard = None; actions = actions d }

-- transition t from 0 on: five for each group, each by four draws
abbrev pub transition : ℕ → ℕ → Transition
transition n t = move (t / 5) (draw n (4 * t + 1) 4) (draw n (4 * t + 2) 4) (draw n (4 * t + 3) 4) (draw n (4 * t + 4) 4)

-- the first so many transitions
unfoldable pub transitions : ℕ → ℕ → List Transition
transitions n zero = []
transitions n (suc t) = transitions n t ++ transition n t ∷ []

-- THE CHART

unfoldable pub chart_with : List Transition → Chart
chart_with moves = record { name = codes "bulk"; units = units; events = events; vars = vars; acts = []; states = states; transitions = moves }

-- the chart of n, with thirty transitions
unfoldable pub gen_chart : ℕ → Chart
gen_chart n = chart_with (transitions n 30)
