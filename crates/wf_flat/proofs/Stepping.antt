-- The parts of an update, from what was gathered.
use Rattle.std.proofs.Common.{◌≡◌, ◌==◌, ◌||◌, ◌&&◌, not, ℕ, Bool, true, false, List, [], ◌∷◌, map, filter, filter_map, flat_map, refl, sym, ◌∙◌, ap, ap₂}
use Rattle.std.specs.Prelude.{Result, Ok, Err}
use Rattle.std.specs.List.{list_any, range_with_len}
use Rattle.wf_model.specs.Limits.{max_events}
use Rattle.wf_model.specs.Ids.{event_id}
use Rattle.wf_model.specs.declared.ids.StateId.{StateId}
use Rattle.wf_model.specs.declared.ids.EventId.{EventId}
use Rattle.wf_model.specs.declared.value.Val.{Val}
use Rattle.wf_model.specs.declared.expr.Fault.{Fault}
use Rattle.wf_model.specs.declared.chart.Action.{Action}
use Rattle.wf_model.specs.declared.chart.Action.TheVariants.{Assign, Raise, Start}
use Rattle.wf_model.specs.declared.outer.Outer.{Outer}
use Rattle.wf_model.specs.declared.update.Write.{Write}
use Rattle.wf_model.specs.declared.update.Update.{Update}
use Rattle.wf_model.specs.Seen.{Seen}
use Rattle.wf_model.specs.Values.{value_of}
use Rattle.wf_model.proofs.Bools.{any_flat_map}
use Rattle.wf_semantics.specs.Snapshot.{Snapshot, is_active}
use Rattle.wf_semantics.specs.Effects.{action_raises, is_fault}
use Rattle.wf_actions.specs.Writes.{merged}
use Rattle.wf_parts.specs.declared.data.Component.{Component}
use Rattle.wf_parts.specs.declared.data.PartTransition.{PartTransition}
use Rattle.wf_parts.specs.declared.data.PartData.{PartData}
use Rattle.wf_parts.specs.Components.{is_in_after}
use Rattle.wf_views.specs.OwnSteps.{differs, fires_in, own_fired, is_raised_by, part_step}
use Rattle.wf_flat.specs.Gathering.{fault_of, raises_of, ascending, gathered_of}
use Rattle.wf_flat.specs.declared.gathered.Gathered.{Gathered}

-- an action raises what it adds
raises_same : (seen : Seen) (e : ℕ) (a : Action) → list_any (λ (r : EventId). r.0 == e) (raises_of seen a) ≡ action_raises seen e a
raises_same seen e (Assign x value) = go (value_of seen value)
  where
    zero_is : (r : Bool) → (r || false) ≡ (r && true)
    zero_is true = refl
    zero_is false = refl

    none : (r : Bool) → false ≡ (r && false)
    none true = refl
    none false = refl

    turn : (0 == e) ≡ (e == 0)
    turn = grind (Rattle.std.proofs.Common.arith, Rattle.std.proofs.lemmas.Bool.Decides.nat_tests)

    go : (r : Result Val Fault) → list_any (λ (r : EventId). r.0 == e) (fault_of r) ≡ ((e == 0) && is_fault r)
    go (Ok val) = none (e == 0)
    go (Err fault) = zero_is (0 == e) ∙ ap (λ (b : Bool). b && true) turn
raises_same seen e (Raise f) = go (f.0 == e)
  where
    go : (b : Bool) → (b || false) ≡ b
    go true = refl
    go false = refl
raises_same seen e (Start a) = refl

pub raised_same : (snap : Snapshot) (fired : List PartTransition) → ascending (flat_map (λ trans. flat_map (raises_of snap.seen) trans.actions) fired) ≡ map event_id (filter (is_raised_by snap fired) (range_with_len 0 max_events))
raised_same snap fired = λ i. map event_id (filter (λ e. same e i) (range_with_len 0 max_events))
  where
    at : (e : ℕ) (trans : PartTransition) → list_any (λ (r : EventId). r.0 == e) (flat_map (raises_of snap.seen) trans.actions) ≡ list_any (action_raises snap.seen e) trans.actions
    at e trans = any_flat_map (λ (r : EventId). r.0 == e) (raises_of snap.seen) trans.actions ∙ (λ i. list_any (λ a. raises_same snap.seen e a i) trans.actions)

    same : (e : ℕ) → list_any (λ (r : EventId). r.0 == e) (flat_map (λ trans. flat_map (raises_of snap.seen) trans.actions) fired) ≡ is_raised_by snap fired e
    same e = any_flat_map (λ (r : EventId). r.0 == e) (λ (trans : PartTransition). flat_map (raises_of snap.seen) trans.actions) fired ∙ (λ i. list_any (λ trans. at e trans i) fired)

-- an update of these lists
pub update_made : (part : PartData) (snap : Snapshot) (step : ℕ) (outers : List Outer) (flips : List StateId) (fires : ℕ → Bool) (g : Gathered) (writes : List Write) (raised : List EventId)
    → fires ≡ fires_in part snap
    → flips ≡ map (λ (c : Component). c.state) (filter (λ c. differs (is_active snap.seen c.state.0) (is_in_after fires c (is_active snap.seen c.state.0))) part.components)
    → g ≡ gathered_of snap.seen (own_fired part snap) → writes ≡ merged g.writes → raised ≡ ascending g.raised
    → let made : Update = record { from = part.unit; step = step; flips = flips; writes = writes; raised = raised; starts = g.starts; fired = g.fired; outer = outers } in made ≡ part_step part step snap outers
unfolding part_step
update_made part snap step outers flips fires g writes raised same f is w r =
    λ i. record {
      from = part.unit;
      step = step;
      flips = (f ∙ ap (λ (test : ℕ → Bool). map (λ (c : Component). c.state) (filter (λ c. differs (is_active snap.seen c.state.0) (is_in_after test c (is_active snap.seen c.state.0))) part.components)) same) i;
      writes = (w ∙ ap (λ (h : Gathered). merged h.writes) is) i;
      raised = (r ∙ ap (λ (h : Gathered). ascending h.raised) is ∙ raised_same snap (own_fired part snap)) i;
      starts = (is i).starts;
      fired = (is i).fired;
      outer = outers;
    }
