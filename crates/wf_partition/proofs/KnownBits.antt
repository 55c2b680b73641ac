-- What each unit knows, as rows of bits.
use Rattle.std.proofs.Common.{◌≡◌, ℕ, ◌<◌, ◌==◌, ◌||◌, ◌&&◌, Bool, false, List, length, map, get_or, Option, sym, ◌∙◌, ap, ap₂, arith}
use Rattle.std.specs.List.{list_any, range_with_len}
use Rattle.std.specs.Option.{option_map_or, option_map}
use Rattle.wf_model.specs.declared.chart.State.{State}
use Rattle.wf_model.specs.declared.chart.Event.{Event}
use Rattle.wf_model.specs.declared.chart.Activity.{Activity}
use Rattle.wf_model.specs.declared.chart.Chart.{Chart}
use Rattle.wf_model.specs.Tree.{all_states, all_transitions, all_events, all_acts}
use Rattle.wf_model.proofs.Rows.{row_at, row_len, row_agree}
use Rattle.wf_semantics.specs.Admission.{is_event_at, is_act_at}
use Rattle.wf_scopes.proofs.Lines.{state_get}
use Rattle.wf_parts.specs.Reads.{is_on, reads_var, reads_act}
use Rattle.wf_parts.specs.Known.{concerns, is_state_of, is_such, is_read, watches_state, knows_var, knows_event, knows_act}
use Rattle.wf_parts.specs.Peers.{held_by}
use Rattle.wf_partition.specs.declared.reading.Reads.{Reads}
use Rattle.wf_partition.specs.declared.holding.Held.{Held}
use Rattle.wf_partition.specs.declared.knowing.UnitBits.{UnitBits}
use Rattle.wf_partition.specs.Marked.{AreSeen, triggers_at, held_bits, unit_bits}
use Rattle.wf_partition.proofs.Concerned.{any_below}
use Rattle.wf_partition.proofs.Known.{item_get}

-- items that are at the unit

pub state_at : (chart : Chart) (u s : ℕ) (state : State) → s < length chart.states → state ≡ get_or chart.states s state → (state.unit.0 == u) ≡ is_state_of chart u s
state_at chart u s state lt is = sym (ap (λ (o : Option State). option_map_or (λ (x : State). x.unit.0 == u) o false) (state_get chart s state lt is))

pub event_at : (chart : Chart) (u n : ℕ) (event : Event) → n < length chart.events → event ≡ get_or chart.events n event
    → option_map_or (λ at. at.0 == u) event.unit false ≡ is_event_at chart u n
event_at chart u n event lt is =
    sym (ap (λ (o : Option Event). option_map_or (λ (e : Event). option_map_or (λ at. at.0 == u) e.unit false) o false) (item_get chart.events n event lt is))

pub act_at : (chart : Chart) (u a : ℕ) (act : Activity) → a < length chart.acts → act ≡ get_or chart.acts a act → (act.unit.0 == u) ≡ is_act_at chart u a
act_at chart u a act lt is =
    sym (ap (λ (y : Option Activity). option_map_or (λ (n : ℕ). n == u) (option_map (λ (z : Activity). z.unit.0) y) false) (item_get chart.acts a act lt is))

-- the bits of two rows
either_row : (f g : ℕ → Bool) (n : ℕ) (one other bits : List Bool) → one ≡ map f (range_with_len 0 n) → other ≡ map g (range_with_len 0 n)
    → bits ≡ map (λ k. get_or one k false || get_or other k false) (range_with_len 0 (length one)) → bits ≡ map (λ k. f k || g k) (range_with_len 0 n)
either_row f g n one other bits first second is =
    is ∙ ap (λ m. map (λ k. get_or one k false || get_or other k false) (range_with_len 0 m)) (row_len f n one first)
    ∙ row_agree _ (λ k. f k || g k) n (λ k lt. ap₂ (λ (a b : Bool). a || b) (row_at f n k false one first lt) (row_at g n k false other second lt))

-- the events of the transitions that concern the unit
triggers_row : (chart : Chart) (u : ℕ) (concerned triggers : List Bool) → concerned ≡ map (concerns chart u) (all_transitions chart)
    → triggers ≡ map (λ m. list_any (triggers_at chart concerned m) (all_transitions chart)) (all_events chart)
    → triggers ≡ map (λ m. list_any (λ t. concerns chart u t && is_such (is_on m) chart t) (all_transitions chart)) (all_events chart)
triggers_row chart u concerned triggers c rows =
    rows ∙ row_agree _ _ (length chart.events) (λ m lt.
    any_below (triggers_at chart concerned m) (λ t. concerns chart u t && is_such (is_on m) chart t) 0 (length chart.transitions)
    (λ t low. ap (λ (b : Bool). b && is_such (is_on m) chart t) (row_at (concerns chart u) (length chart.transitions) t false concerned c (omega arith))))

abbrev pub ored : List Bool → List Bool → List Bool
ored one other = map (λ k. get_or one k false || get_or other k false) (range_with_len 0 (length one))

-- the bits of a unit, by their lists
abbrev pub the_bits : List Bool → List Bool → Held → List Bool → List Bool → List Bool → List Bool → UnitBits
the_bits concerned watched held states vars events acts =
    record { concerned = concerned; watched = watched; held = held; states = states; vars = vars; events = events; acts = acts }

-- the variables that may stand in the unit's updates
held_vars : (chart : Chart) (u : ℕ) (held : Held) → held ≡ held_bits chart u → held.vars ≡ map (held_by chart u).vars (range_with_len 0 (length chart.vars))
unfolding held_bits
held_vars chart u held is = ap (λ (h : Held). h.vars) is

-- all bits of a unit
pub bits_made : (chart : Chart) (u : ℕ) (concerned triggers at_states at_events at_acts states vars events acts : List Bool) (seen : Reads) (held : Held)
    → concerned ≡ map (concerns chart u) (all_transitions chart) → AreSeen chart u seen
    → triggers ≡ map (λ m. list_any (triggers_at chart concerned m) (all_transitions chart)) (all_events chart)
    → at_states ≡ map (is_state_of chart u) (all_states chart) → at_events ≡ map (is_event_at chart u) (all_events chart) → at_acts ≡ map (is_act_at chart u) (all_acts chart)
    → held ≡ held_bits chart u → states ≡ ored at_states seen.states → vars ≡ ored seen.vars held.vars → events ≡ ored at_events triggers → acts ≡ ored at_acts seen.acts
    → the_bits concerned seen.states held states vars events acts ≡ unit_bits chart u
unfolding unit_bits knows_var knows_event knows_act
bits_made chart u concerned triggers at_states at_events at_acts states vars events acts seen held c se tr sa ea aa h s v e a =
    let s' = either_row (is_state_of chart u) (watches_state chart u) (length chart.states) at_states seen.states states sa se.states s in
    let v' = either_row (λ x. is_read chart u (reads_var x)) (held_by chart u).vars (length chart.vars) seen.vars held.vars vars se.vars (held_vars chart u held h) v in
    let e' = either_row (is_event_at chart u) (λ m. list_any (λ t. concerns chart u t && is_such (is_on m) chart t) (all_transitions chart)) (length chart.events) at_events triggers events ea
    (triggers_row chart u concerned triggers c tr) e in
    let a' = either_row (is_act_at chart u) (λ m. is_read chart u (reads_act m)) (length chart.acts) at_acts seen.acts acts aa se.acts a in
    λ i. record { concerned = c i; watched = se.states i; held = h i; states = s' i; vars = v' i; events = e' i; acts = a' i }
