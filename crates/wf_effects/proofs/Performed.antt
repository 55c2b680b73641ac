-- What performing actions keeps, and when it may be done.
use Rattle.std.proofs.Common.{◌≡◌, ℕ, suc, ◌+◌, ◌<◌, true, false, List, [], ◌∷◌, length, get_or, drop, replicate, Ok, Err, Result, Option, Some, unwrap_or, slice_get, refl, sym, ap, subst, ◌∙◌, ltb-true, add-one, drop-cons}
use Rattle.std.specs.Prelude.{All}
use Rattle.std.proofs.lemmas.List.{length-set, length-replicate}
use Rattle.std.specs.Option.{option_map}
use Rattle.std.proofs.lemmas.Option.{slice_get-get_or, slice_get_read}
use Rattle.wf_model.specs.declared.ids.TransId.{TransId}
use Rattle.wf_model.specs.declared.value.Val.{Val}
use Rattle.wf_model.specs.declared.expr.Fault.{Fault}
use Rattle.wf_model.specs.declared.chart.Action.{Action}
use Rattle.wf_model.specs.declared.chart.Action.TheVariants.{Assign, Raise, Start}
use Rattle.wf_model.specs.declared.chart.Transition.{Transition}
use Rattle.wf_model.specs.declared.chart.Chart.{Chart}
use Rattle.wf_model.specs.Seen.{Seen}
use Rattle.wf_model.specs.Values.{value_of}
use Rattle.wf_model.specs.Accepted.{is_known_action}
use Rattle.wf_semantics.specs.Effects.{actions_of}
use Rattle.wf_semantics.specs.Shown.{Shows}
use Rattle.wf_model.proofs.Items.{all_at}
use Rattle.wf_effects.specs.declared.gathered.Gathered.{Gathered}
use Rattle.wf_effects.specs.Numbers.{numbers}
use Rattle.wf_effects.specs.Performing.{assigned, performed, performed_all, fired_all, CanPerform}
use Rattle.wf_effects.proofs.Expressions.{AreActionsOf, value_of_action, can_read}

-- how many variables and events there are stays the same
pub record SameSizes (g h : Gathered) : Type 0 where
  pub vars : length h.store ≡ length g.store
  pub events : length h.raised ≡ length g.raised

sizes_assigned : (x : ℕ) (r : Result Val Fault) (g : Gathered) → SameSizes g (assigned x r g)
sizes_assigned x (Ok val) g = record { vars = length-set g.store x val; events = refl }
sizes_assigned x (Err fault) g = record { vars = refl; events = length-set g.raised 0 true }

pub sizes_performed : (seen : Seen) (t place : ℕ) (a : Action) (g : Gathered) → SameSizes g (performed seen t place a g)
sizes_performed seen t place (Assign x value) g = sizes_assigned x.0 (value_of seen value) g
sizes_performed seen t place (Raise e) g = record { vars = refl; events = length-set g.raised e.0 true }
sizes_performed seen t place (Start a) g = record { vars = refl; events = refl }

sizes_both : (f g h : Gathered) → SameSizes f g → SameSizes g h → SameSizes f h
sizes_both f g h a b = record { vars = b.vars ∙ a.vars; events = b.events ∙ a.events }

pub sizes_performed_all : (seen : Seen) (t place : ℕ) (acts : List Action) (g : Gathered) → SameSizes g (performed_all seen t place acts g)
sizes_performed_all seen t place [] g = record { vars = refl; events = refl }
sizes_performed_all seen t place (a ∷ acts) g =
    let next = performed seen t place a g in
    sizes_both g next (performed_all seen t (place + 1) acts next) (sizes_performed seen t place a g) (sizes_performed_all seen t (place + 1) acts next)

pub sizes_after : (seen : Seen) (t : ℕ) (acts : List Action) (g h : Gathered) → h ≡ performed_all seen t 0 acts g → SameSizes g h
sizes_after seen t acts g h e = subst (SameSizes g) (sym e) (sizes_performed_all seen t 0 acts g)

sizes_fired : (chart : Chart) (seen : Seen) (ts : List ℕ) (g : Gathered) → SameSizes g (fired_all chart seen ts g)
sizes_fired chart seen [] g = record { vars = refl; events = refl }
sizes_fired chart seen (t ∷ ts) g =
    let next = performed_all seen t 0 (actions_of chart t) g in
    sizes_both g next (fired_all chart seen ts next) (sizes_performed_all seen t 0 (actions_of chart t) g) (sizes_fired chart seen ts next)

-- there is a bit for each event of the chart
pub size_fired : (chart : Chart) (seen : Seen) (ts : List ℕ) (g : Gathered) → g.raised ≡ replicate (length chart.events) false → length (fired_all chart seen ts g).raised ≡ length chart.events
size_fired chart seen ts g none =
    (sizes_fired chart seen ts g).events ∙ ap length none ∙ length-replicate (length chart.events) false

-- each action of an accepted chart may be performed
can_perform : (chart : Chart) (seen : Seen) (acts : List Action) (i : ℕ) (a : Action) → Shows chart seen → 0 < length chart.events → AreActionsOf chart acts → slice_get acts i ≡ Some a → CanPerform seen (length chart.vars) (length chart.events) a
can_perform chart seen acts i (Assign x value) shows some are e =
    let w = value_of_action chart acts i x value are e in
    let reads = can_read chart seen value w.1 shows w.3 in
    (w.0, some, reads.0, reads.1)
can_perform chart seen acts i (Raise f) shows some are e = ltb-true f.0 (length chart.events) (all_at (is_known_action chart) acts are.known i (Raise f) e)
can_perform chart seen acts i (Start a) shows some are e = tt

pub can_perform_all : (chart : Chart) (seen : Seen) (acts given : List Action) (vars events : ℕ) → Shows chart seen → 0 < length chart.events → AreActionsOf chart acts → given ≡ acts → vars ≡ length chart.vars → events ≡ length chart.events → All (CanPerform seen vars events) given
can_perform_all chart seen acts given vars events shows some are e v n k d lt =
    rw (v, n) (can_perform chart seen acts k (get_or given k d) shows some are (rw (← e) (slice_get-get_or given k d lt)))

-- the transition that the code reads
pub transition_at : (chart : Chart) (ts : List Transition) (t : ℕ) (trans : Transition) → ts ≡ chart.transitions → t < length chart.transitions → trans ≡ get_or ts t trans → slice_get chart.transitions t ≡ Some trans
transition_at chart ts t trans e lt is = slice_get_read chart.transitions (length chart.transitions) t trans refl lt (rw (← e) is)

pub actions_at : (chart : Chart) (t : ℕ) (trans : Transition) → slice_get chart.transitions t ≡ Some trans → actions_of chart t ≡ trans.actions
actions_at chart t trans e = ap (λ (o : Option Transition). unwrap_or (option_map (λ trans. trans.actions) o) []) e

-- one fired transition more
pub fired_more : (chart : Chart) (seen : Seen) (fired : List TransId) (i : ℕ) (d : TransId) (g h : Gathered) → i < length fired → h ≡ performed_all seen (get_or fired i d).0 0 (actions_of chart (get_or fired i d).0) g → fired_all chart seen (numbers (drop i fired)) g ≡ fired_all chart seen (numbers (drop (i + 1) fired)) h
fired_more chart seen fired i d g h lt e =
    ap (λ (ts : List TransId). fired_all chart seen (numbers ts) g) (drop-cons fired i d lt)
    ∙ ap (λ (f : Gathered). fired_all chart seen (numbers (drop (suc i) fired)) f) (sym e)
    ∙ ap (λ (n : ℕ). fired_all chart seen (numbers (drop n fired)) h) (sym (add-one i))
