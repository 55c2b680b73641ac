-- A worked run of parts with activities, and what a peer is sent of it.
use Rattle.std.proofs.Common.{◌≡◌, ℕ, true, false, List, [], ◌∷◌, Option, Some, None, refl}
use Rattle.std.specs.Prelude.{pos}
use Rattle.wf_model.specs.declared.chart.Kind.{Kind}
use Rattle.wf_model.specs.declared.chart.Kind.TheVariants.{Basic, Or, And}
use Rattle.wf_model.specs.declared.chart.State.{State}
use Rattle.wf_model.specs.declared.chart.Transition.{Transition}
use Rattle.wf_model.specs.declared.chart.Action.{Action}
use Rattle.wf_model.specs.declared.chart.Action.TheVariants.{Assign, Raise, Start}
use Rattle.wf_model.specs.declared.chart.Chart.{Chart}
use Rattle.wf_model.specs.declared.value.Val.TheVariants as v
use Rattle.wf_model.specs.declared.value.Sort.TheVariants as sorts
use Rattle.wf_model.specs.declared.expr.Expr.{Expr}
use Rattle.wf_model.specs.declared.expr.Expr.TheVariants as e
use Rattle.wf_model.specs.declared.expr.Op.TheVariants as o
use Rattle.wf_model.specs.declared.outer.Outer.{Outer}
use Rattle.wf_model.specs.declared.outer.Outer.TheVariants.{Happen, Complete}
use Rattle.wf_model.specs.declared.outer.Entry.{Entry}
use Rattle.wf_model.specs.declared.update.Update.{Update}
use Rattle.wf_model.specs.Tree.{children, ancestors_by}
use Rattle.wf_model.specs.Values.{on_two}
use Rattle.wf_semantics.specs.Entry.{grown}
use Rattle.wf_parts.specs.Known.{concerns, is_own, watches_state, knows_var, knows_event, knows_act}
use Rattle.wf_parts.specs.Parts.{part_of}
use Rattle.wf_views.specs.Views.{first_view, sees}
use Rattle.wf_views.specs.OwnSteps.{part_step}
use Rattle.wf_views.specs.Absorbing.{absorbed}
use Rattle.wf_views.specs.Relevant.{cut_update, relevant}
use Rattle.wf_lockstep.specs.Lock.{lock_view, lock_update, outers_by}
use Rattle.wf_model.specs.Ids.{state_id, trans_id}
use Rattle.wf_parts.specs.Peers.{peers_of}

abbrev root : State
root = record { name = []; kind = Or; parent = None; unit = record { 0 = 0 } }

abbrev state : Kind → ℕ → ℕ → State
state kind parent unit = record { name = []; kind = kind; parent = Some (record { 0 = parent }); unit = record { 0 = unit } }

abbrev move : ℕ → ℕ → Option Expr → List Action → Transition
move from to guard actions = record { source = record { 0 = from }; target = record { 0 = to }; event = None; guard = guard; actions = actions }

abbrev move_on : ℕ → ℕ → ℕ → List Action → Transition
move_on event from to actions = record { source = record { 0 = from }; target = record { 0 = to }; event = Some (record { 0 = event }); guard = None; actions = actions }

abbrev good_and_small : Expr
good_and_small = e.Bin o.And (e.Var (record { 0 = 1 })) (e.Bin o.Lt (e.Var (record { 0 = 0 })) (e.Int 1000))

-- Order at sales; Money at credit; Goods at stock
abbrev order : Chart
order =
    record {
      name = [];
      units = [] ∷ [] ∷ [] ∷ [];
      events = record { name = []; unit = None } ∷ record { name = []; unit = Some (record { 0 = 0 }) } ∷ record { name = []; unit = None } ∷ [];
      vars = record { name = []; sort = sorts.Int; first = v.Int (pos 0) } ∷ record { name = []; sort = sorts.Bool; first = v.Bool false } ∷ [];
      acts = record { name = []; unit = record { 0 = 1 }; outputs = record { 0 = 1 } ∷ [] } ∷ record { name = []; unit = record { 0 = 2 }; outputs = [] } ∷ [];
      states = root ∷ state Basic 0 0 ∷ state And 0 0
          ∷ state Or 2 1 ∷ state Basic 3 1 ∷ state Basic 3 1 ∷ state Basic 3 1
          ∷ state Or 2 2 ∷ state Basic 7 2 ∷ state Basic 7 2 ∷ state Basic 7 2
          ∷ state Basic 0 0 ∷ state Basic 0 0 ∷ [];
      transitions = move_on 1 1 2 (Assign (record { 0 = 0 }) (e.Int 250) ∷ Start (record { 0 = 0 }) ∷ [])
          ∷ move 4 5 (Some (e.Bin o.And (e.Done (record { 0 = 0 })) good_and_small)) (Raise (record { 0 = 2 }) ∷ [])
          ∷ move 4 6 (Some (e.Bin o.And (e.Done (record { 0 = 0 })) (e.Not good_and_small))) []
          ∷ move_on 2 8 9 (Start (record { 0 = 1 }) ∷ [])
          ∷ move 9 10 (Some (e.Done (record { 0 = 1 }))) []
          ∷ move 2 11 (Some (e.Bin o.And (e.In (record { 0 = 10 })) (e.In (record { 0 = 5 })))) []
          ∷ move 2 12 (Some (e.In (record { 0 = 6 }))) []
          ∷ [];
    }

abbrev placed : Outer
placed = Happen (record { 0 = 1 })

-- item 1 of judge is done, and gives good
abbrev judged : Outer
judged = Complete 1 (record { 0 = 0 }) (record { var = record { 0 = 1 }; val = v.Bool true } ∷ [])

abbrev steps : List (List Entry)
steps = [] ∷ (record { unit = record { 0 = 0 }; outer = placed } ∷ []) ∷ [] ∷ (record { unit = record { 0 = 1 }; outer = judged } ∷ []) ∷ []

abbrev made : ℕ → ℕ → Update
made u j = lock_update 3 (part_of order) (outers_by steps) j u

-- sales fires t0 in step 2: New goes out and Work in, it writes and starts
sales_second : made 0 1
    ≡ record {
      from = record { 0 = 0 };
      step = 2;
      flips = state_id 1 ∷ state_id 2 ∷ [];
      writes = record { var = record { 0 = 0 }; trans = trans_id 0; val = v.Int (pos 250) } ∷ [];
      raised = [];
      starts = record { act = record { 0 = 0 }; trans = trans_id 0; place = 1 } ∷ [];
      fired = trans_id 0 ∷ [];
      outer = [];
    }
unfolding lock_view part_of concerns is_own watches_state knows_var knows_event knows_act first_view sees part_step absorbed grown children ancestors_by on_two Rattle.wf_model.specs.declared.expr.Expr.TheBlock.hidden-the_row-Expr-0 denote.Hole.Carrier.hidden
sales_second = refl

-- stock is sent both flips and nothing else of it
sent_to_stock : relevant (peers_of order 0) (made 0 1) 2 ≡ record { from = record { 0 = 0 }; step = 2; flips = state_id 1 ∷ state_id 2 ∷ []; writes = []; raised = []; starts = []; fired = []; outer = [] }
unfolding lock_view part_of concerns is_own watches_state knows_var knows_event knows_act first_view sees part_step absorbed cut_update peers_of grown children ancestors_by on_two Rattle.wf_model.specs.declared.expr.Expr.TheBlock.hidden-the_row-Expr-0 denote.Hole.Carrier.hidden
sent_to_stock = refl

-- credit is sent the write and the start too
sent_to_credit : relevant (peers_of order 0) (made 0 1) 1
    ≡ record {
      from = record { 0 = 0 };
      step = 2;
      flips = state_id 1 ∷ state_id 2 ∷ [];
      writes = record { var = record { 0 = 0 }; trans = trans_id 0; val = v.Int (pos 250) } ∷ [];
      raised = [];
      starts = record { act = record { 0 = 0 }; trans = trans_id 0; place = 1 } ∷ [];
      fired = [];
      outer = [];
    }
unfolding lock_view part_of concerns is_own watches_state knows_var knows_event knows_act first_view sees part_step absorbed cut_update peers_of grown children ancestors_by on_two Rattle.wf_model.specs.declared.expr.Expr.TheBlock.hidden-the_row-Expr-0 denote.Hole.Carrier.hidden
sent_to_credit = refl

-- what credit keeps before step 4, in which the completion comes
credit_before : lock_view 3 (part_of order) (outers_by steps) 3 1
    ≡ record {
      states = state_id 2 ∷ state_id 3 ∷ state_id 4 ∷ [];
      vars = record { var = record { 0 = 0 }; val = v.Int (pos 250) } ∷ record { var = record { 0 = 1 }; val = v.Bool false } ∷ [];
      raised = [];
      unclosed = (record { 0 = 0 }, 1) ∷ [];
      next = record { unit = record { 0 = 1 }; outer = judged } ∷ [];
    }
unfolding lock_view part_of concerns is_own watches_state knows_var knows_event knows_act first_view sees part_step absorbed grown children ancestors_by on_two Rattle.wf_model.specs.declared.expr.Expr.TheBlock.hidden-the_row-Expr-0 denote.Hole.Carrier.hidden
credit_before = refl

-- so credit fires t1 in step 4, and raises ready
credit_fourth : made 1 3 ≡ record { from = record { 0 = 1 }; step = 4; flips = state_id 4 ∷ state_id 5 ∷ []; writes = []; raised = record { 0 = 2 } ∷ []; starts = []; fired = trans_id 1 ∷ []; outer = [] }
unfolding lock_view part_of concerns is_own watches_state knows_var knows_event knows_act first_view sees part_step absorbed grown children ancestors_by on_two Rattle.wf_model.specs.declared.expr.Expr.TheBlock.hidden-the_row-Expr-0 denote.Hole.Carrier.hidden
credit_fourth = refl
