-- What a unit knows, item by item.
use Rattle.std.proofs.Common.{◌≡◌, ℕ, ◌+◌, ◌<◌, ◌==◌, ◌&&◌, Bool, true, false, cond, List, ◌∷◌, ◌++◌, [], length, map, filter, get_or, Option, Some, sym, ◌∙◌, ap, ap₂, append-nil, if◌then◌else◌}
use Rattle.std.specs.List.{range_with_len, list_any, slice_get}
use Rattle.std.specs.Option.{option_map_or, option_map}
use Rattle.std.proofs.lemmas.Option.{slice_get-get_or}
use Rattle.wf_model.specs.declared.ids.TransId.{TransId}
use Rattle.wf_parts.specs.declared.data.Component.{Component}
use Rattle.wf_parts.specs.declared.data.Flat.{Flat}
use Rattle.wf_parts.specs.declared.data.PartTransition.{PartTransition}
use Rattle.wf_model.specs.declared.chart.Activity.{Activity}
use Rattle.wf_model.specs.declared.chart.Transition.{Transition}
use Rattle.wf_model.specs.declared.chart.Chart.{Chart}
use Rattle.wf_model.specs.Tree.{source}
use Rattle.wf_semantics.specs.Configuration.{is_in}
use Rattle.wf_semantics.specs.Entry.{default_tree}
use Rattle.wf_model.proofs.Rows.{row_at, row_get, row_len}
use Rattle.wf_scopes.proofs.Lines.{trans_get, filter_more_by}
use Rattle.wf_parts.specs.Components.{flat_of, component_of, blocker_ids}
use Rattle.wf_parts.specs.Parts.{part_transition}
use Rattle.wf_model.specs.declared.expr.Expr.{Expr}
use Rattle.wf_model.specs.declared.chart.Action.{Action}
use Rattle.wf_model.specs.Ids.{trans_id}
use Rattle.wf_parts.specs.Reads.{is_on}
use Rattle.wf_parts.specs.Known.{is_own, is_state_of}
use Rattle.wf_partition.specs.Marked.{gives_at, triggers_at}

-- a transition of a part, by what is copied
abbrev pub the_transition : ℕ → Transition → Option Expr → List TransId → Bool → List Action → PartTransition
the_transition t tr guard blockers own actions =
    record { id = trans_id t; source = tr.source; event = tr.event; guard = guard; blockers = blockers; own = own; actions = actions }

pub item_get : {A : Type 0} (xs : List A) (i : ℕ) (x : A) → i < length xs → x ≡ get_or xs i x → slice_get xs i ≡ Some x
item_get xs i x lt is = slice_get-get_or xs i x lt ∙ ap Some (sym is)

-- ---- components

pub component_kept : (chart : Chart) (u i : ℕ) (component copy : Component) (counts : Bool) (old new : List Component) → component ≡ component_of chart i → counts ≡ is_state_of chart u component.state.0
    → counts ≡ true → copy ≡ component → old ≡ map (component_of chart) (filter (is_state_of chart u) (range_with_len 0 i)) → new ≡ old ++ copy ∷ []
    → new ≡ map (component_of chart) (filter (is_state_of chart u) (range_with_len 0 (i + 1)))
component_kept chart u i component copy counts old new is test on same before now =
    let it : is_state_of chart u i ≡ true = sym (test ∙ ap (λ (x : Component). is_state_of chart u x.state.0) is) ∙ on in
    now ∙ ap (λ (l : List Component). l ++ copy ∷ []) before
    ∙ ap (λ (x : Component). map (component_of chart) (filter (is_state_of chart u) (range_with_len 0 i)) ++ x ∷ []) (same ∙ is)
    ∙ ap (λ (b : Bool). map (component_of chart) (filter (is_state_of chart u) (range_with_len 0 i)) ++ cond b (component_of chart i ∷ []) []) (sym it)
    ∙ sym (filter_more_by (component_of chart) (is_state_of chart u) i)

pub component_left : (chart : Chart) (u i : ℕ) (component : Component) (counts : Bool) (old : List Component) → component ≡ component_of chart i → counts ≡ is_state_of chart u component.state.0
    → counts ≡ false → old ≡ map (component_of chart) (filter (is_state_of chart u) (range_with_len 0 i)) → old ≡ map (component_of chart) (filter (is_state_of chart u) (range_with_len 0 (i + 1)))
component_left chart u i component counts old is test off before =
    let it : is_state_of chart u i ≡ false = sym (test ∙ ap (λ (x : Component). is_state_of chart u x.state.0) is) ∙ off in
    before ∙ sym (append-nil (map (component_of chart) (filter (is_state_of chart u) (range_with_len 0 i))))
    ∙ ap (λ (b : Bool). map (component_of chart) (filter (is_state_of chart u) (range_with_len 0 i)) ++ cond b (component_of chart i ∷ []) []) (sym it)
    ∙ sym (filter_more_by (component_of chart) (is_state_of chart u) i)

-- ---- transitions

pub own_read : (chart : Chart) (u t s : ℕ) → source chart t ≡ s → is_state_of chart u s ≡ is_own chart u t
unfolding is_own
own_read chart u t s e = ap (is_state_of chart u) (sym e)

pub blockers_len : (chart : Chart) (flat : Flat) → flat ≡ flat_of chart → length flat.blockers ≡ length chart.transitions
unfolding flat_of
blockers_len chart flat e = row_len (blocker_ids chart) (length chart.transitions) flat.blockers (ap (λ (f : Flat). f.blockers) e)

pub blockers_at : (chart : Chart) (flat : Flat) (t : ℕ) (blockers : List TransId) → flat ≡ flat_of chart → t < length chart.transitions → blockers ≡ get_or flat.blockers t blockers
    → blockers ≡ blocker_ids chart t
unfolding flat_of
blockers_at chart flat t blockers e lt is = is ∙ row_at (blocker_ids chart) (length chart.transitions) t blockers flat.blockers (ap (λ (f : Flat). f.blockers) e) lt

-- ---- states

pub first_read : (chart : Chart) (flat : Flat) (s : ℕ) → flat ≡ flat_of chart → s < length chart.states
    → option_map_or (λ (component : Component). component.first) (slice_get flat.components s) false ≡ is_in s (default_tree chart 0)
unfolding flat_of
first_read chart flat s e lt =
    ap (λ (o : Option Component). option_map_or (λ (component : Component). component.first) o false)
    (row_get (component_of chart) (length chart.states) s flat.components (ap (λ (f : Flat). f.components) e) lt)

-- ---- variables

pub given_at : (chart : Chart) (u a : ℕ) (act : Activity) → a < length chart.acts → act ≡ get_or chart.acts a act
    → (x : ℕ) → ((act.unit.0 == u) && list_any (λ v. v.0 == x) act.outputs) ≡ gives_at chart u x a
given_at chart u a act lt is x =
    let there = item_get chart.acts a act lt is in
    ap₂ (λ (b c : Bool). b && c) (sym (ap (λ (y : Option Activity). option_map_or (λ (n : ℕ). n == u) (option_map (λ (z : Activity). z.unit.0) y) false) there))
    (sym (ap (λ (y : Option Activity). option_map_or (λ (z : Activity). list_any (λ v. v.0 == x) z.outputs) y false) there))

-- ---- events

pub trigger_at : (chart : Chart) (concerned : List Bool) (t : ℕ) (set : Bool) (tr : Transition) → t < length chart.transitions → tr ≡ get_or chart.transitions t tr → set ≡ get_or concerned t false
    → (n : ℕ) → (set && is_on n tr) ≡ triggers_at chart concerned n t
trigger_at chart concerned t set tr lt is e n =
    ap₂ (λ (a b : Bool). a && b) e (sym (ap (λ (y : Option Transition). option_map_or (is_on n) y false) (trans_get chart t tr lt is)))

-- ---- the part

pub transition_made : (chart : Chart) (u t : ℕ) (tr : Transition) (guard : Option Expr) (blockers : List TransId) (own : Bool) (actions : List Action) → guard ≡ tr.guard
    → blockers ≡ blocker_ids chart t → own ≡ is_own chart u t → actions ≡ (if own then tr.actions else [])
    → the_transition t tr guard blockers own actions ≡ part_transition chart u (t, tr)
transition_made chart u t tr guard blockers own actions g b o a =
    ap (λ x. the_transition t tr x blockers own actions) g ∙ ap (λ x. the_transition t tr tr.guard x own actions) b
    ∙ ap (λ x. the_transition t tr tr.guard (blocker_ids chart t) own x) a ∙ ap (λ x. the_transition t tr tr.guard (blocker_ids chart t) x (if x then tr.actions else [])) o

pub name_read : (chart : Chart) (u : ℕ) (name : List ℕ) → u < length chart.units → name ≡ get_or chart.units u name → name ≡ option_map_or (λ n. n) (slice_get chart.units u) []
name_read chart u name lt is = sym (ap (λ (o : Option (List ℕ)). option_map_or (λ n. n) o []) (item_get chart.units u name lt is))
