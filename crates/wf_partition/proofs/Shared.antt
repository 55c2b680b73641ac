-- What peers know of what may stand in a unit's updates.
use Rattle.std.proofs.Common.{◌≡◌, ℕ, zero, suc, ◌+◌, ◌<◌, ◌^◌, ◌&&◌, Bool, true, false, cond, List, [], ◌∷◌, ◌++◌, length, map, filter, get_or, append-nil, refl, sym, ◌∙◌, ap, ap₂, arith}
use Rattle.std.specs.List.{range_with_len}
use Rattle.wf_model.specs.declared.ids.StateId.{StateId}
use Rattle.wf_model.specs.declared.ids.VarId.{VarId}
use Rattle.wf_model.specs.declared.ids.EventId.{EventId}
use Rattle.wf_model.specs.declared.ids.ActId.{ActId}
use Rattle.wf_model.specs.declared.chart.Chart.{Chart}
use Rattle.wf_model.specs.Ids.{unit_id, state_id, var_id, event_id, act_id}
use Rattle.wf_model.specs.Accepted.{IsAccepted}
use Rattle.wf_model.specs.Tree.{all_states, all_transitions, all_events, all_acts}
use Rattle.wf_model.proofs.Rows.{row_at, row_len}
use Rattle.wf_model.proofs.Few.{few_vars, few_events, few_acts}
use Rattle.wf_semantics.proofs.Facts.{chart_of}
use Rattle.wf_scopes.proofs.Lines.{filter_more_by}
use Rattle.wf_parts.specs.declared.data.Known.{Known}
use Rattle.wf_parts.specs.Known.{concerns, watches_state, knows_state, knows_var, knows_event, knows_act}
use Rattle.wf_parts.specs.Peers.{held_by, known_of}
use Rattle.wf_partition.specs.declared.holding.Held.{Held}
use Rattle.wf_partition.specs.declared.knowing.UnitBits.{UnitBits}
use Rattle.wf_partition.specs.Marked.{are_set, held_bits, unit_bits}

-- one number more, which passes or doesn't
pub id_kept : {A : Type 0} (f : ℕ → A) (p : ℕ → Bool) (i : ℕ) (x : A) (old new : List A) → x ≡ f i → p i ≡ true → old ≡ map f (filter p (range_with_len 0 i)) → new ≡ old ++ x ∷ []
    → new ≡ map f (filter p (range_with_len 0 (i + 1)))
id_kept {A} f p i x old new is on before now =
    now ∙ ap₂ (λ (l : List A) (y : A). l ++ y ∷ []) before is
    ∙ ap (λ (b : Bool). map f (filter p (range_with_len 0 i)) ++ cond b (f i ∷ []) []) (sym on) ∙ sym (filter_more_by f p i)

pub id_left : {A : Type 0} (f : ℕ → A) (p : ℕ → Bool) (i : ℕ) (old : List A) → p i ≡ false → old ≡ map f (filter p (range_with_len 0 i)) → old ≡ map f (filter p (range_with_len 0 (i + 1)))
id_left {A} f p i old off before =
    before ∙ sym (append-nil (map f (filter p (range_with_len 0 i))))
    ∙ ap (λ (b : Bool). map f (filter p (range_with_len 0 i)) ++ cond b (f i ∷ []) []) (sym off) ∙ sym (filter_more_by f p i)

-- tests that agree on the numbers of a range
filter_below : (p q : ℕ → Bool) (a n : ℕ) → ((t : ℕ) → t < a + n → p t ≡ q t) → filter p (range_with_len a n) ≡ filter q (range_with_len a n)
filter_below p q a zero h = refl
filter_below p q a (suc n) h =
    ap (λ (b : Bool). cond b (a ∷ filter p (range_with_len (a + 1) n)) (filter p (range_with_len (a + 1) n))) (h a (omega arith))
    ∙ ap (λ (l : List ℕ). cond (q a) (a ∷ l) l) (filter_below p q (a + 1) n (λ t lt. h t (omega arith)))

-- the numbers that are set in two rows
shared_row : {A : Type 0} (f : ℕ → A) (p q : ℕ → Bool) (n : ℕ) (held known : List Bool) (ids : List A) → held ≡ map p (range_with_len 0 n) → known ≡ map q (range_with_len 0 n)
    → ids ≡ map f (filter (are_set held known) (range_with_len 0 (length held))) → ids ≡ map f (filter (λ k. p k && q k) (range_with_len 0 n))
shared_row f p q n held known ids h k is =
    is ∙ ap (λ m. map f (filter (are_set held known) (range_with_len 0 m))) (row_len p n held h)
    ∙ ap (map f) (filter_below (are_set held known) (λ j. p j && q j) 0 n (λ t lt. ap₂ (λ (a b : Bool). a && b) (row_at p n t false held h (omega arith)) (row_at q n t false known k (omega arith))))

module _ (chart : Chart) (ok : IsAccepted chart) (u : ℕ) (held : Held) (is : held ≡ held_bits chart u) where
  pub few_held_states : length held.states < 2 ^ 32
  unfolding held_bits
  few_held_states = let n = row_len (held_by chart u).states (length chart.states) held.states (ap (λ (h : Held). h.states) is) in omega (arith, (chart_of chart ok).few_states)

  pub few_held_vars : length held.vars < 2 ^ 32
  unfolding held_bits
  few_held_vars = let n = row_len (held_by chart u).vars (length chart.vars) held.vars (ap (λ (h : Held). h.vars) is) in omega (arith, few_vars chart ok)

  pub few_held_events : length held.events < 2 ^ 32
  unfolding held_bits
  few_held_events = let n = row_len (held_by chart u).events (length chart.events) held.events (ap (λ (h : Held). h.events) is) in omega (arith, few_events chart ok)

  pub few_held_acts : length held.acts < 2 ^ 32
  unfolding held_bits
  few_held_acts = let n = row_len (held_by chart u).acts (length chart.acts) held.acts (ap (λ (h : Held). h.acts) is) in omega (arith, few_acts chart ok)

-- what a peer knows, by its lists
abbrev pub the_known : ℕ → List StateId → List VarId → List EventId → List ActId → Known
the_known v states vars events acts = record { unit = unit_id v; states = states; vars = vars; events = events; acts = acts }

-- what a peer knows
pub known_made : (chart : Chart) (u v : ℕ) (held : Held) (peer : UnitBits) (states : List StateId) (vars : List VarId) (events : List EventId) (acts : List ActId)
    → held ≡ held_bits chart u → peer ≡ unit_bits chart v
    → states ≡ map state_id (filter (are_set held.states peer.states) (range_with_len 0 (length held.states)))
    → vars ≡ map var_id (filter (are_set held.vars peer.vars) (range_with_len 0 (length held.vars)))
    → events ≡ map event_id (filter (are_set held.events peer.events) (range_with_len 0 (length held.events)))
    → acts ≡ map act_id (filter (are_set held.acts peer.acts) (range_with_len 0 (length held.acts)))
    → the_known v states vars events acts ≡ known_of chart u v
unfolding held_bits unit_bits
known_made chart u v held peer states vars events acts h k s x e a =
    let s' = shared_row state_id (held_by chart u).states (knows_state chart v) (length chart.states) held.states peer.states states (ap (λ (b : Held). b.states) h) (ap (λ (b : UnitBits). b.states) k) s in
    let x' = shared_row var_id (held_by chart u).vars (knows_var chart v) (length chart.vars) held.vars peer.vars vars (ap (λ (b : Held). b.vars) h) (ap (λ (b : UnitBits). b.vars) k) x in
    let e' = shared_row event_id (held_by chart u).events (knows_event chart v) (length chart.events) held.events peer.events events (ap (λ (b : Held). b.events) h) (ap (λ (b : UnitBits). b.events) k) e in
    let a' = shared_row act_id (held_by chart u).acts (knows_act chart v) (length chart.acts) held.acts peer.acts acts (ap (λ (b : Held). b.acts) h) (ap (λ (b : UnitBits). b.acts) k) a in
    λ i. record { unit = unit_id v; states = s' i; vars = x' i; events = e' i; acts = a' i }

-- the bits of a unit among those of all
pub bits_at : (chart : Chart) (v : ℕ) (all : List UnitBits) (bits : UnitBits) → all ≡ map (unit_bits chart) (range_with_len 0 (length chart.units)) → v < length all → bits ≡ get_or all v bits
    → bits ≡ unit_bits chart v
bits_at chart v all bits rows lt is = is ∙ row_at (unit_bits chart) (length chart.units) v bits all rows (let n = row_len (unit_bits chart) (length chart.units) all rows in omega arith)

pub bits_got : (chart : Chart) (v : ℕ) (all : List UnitBits) (bits : UnitBits) → all ≡ map (unit_bits chart) (range_with_len 0 (length chart.units)) → v < length all → get_or all v bits ≡ unit_bits chart v
bits_got chart v all bits rows lt = row_at (unit_bits chart) (length chart.units) v bits all rows (let n = row_len (unit_bits chart) (length chart.units) all rows in omega arith)

-- what the bits of a unit say
module _ (chart : Chart) (v : ℕ) (bits : UnitBits) (is : bits ≡ unit_bits chart v) where
  pub held_at : bits.held ≡ held_bits chart v
  unfolding unit_bits
  held_at = ap (λ (b : UnitBits). b.held) is

  pub concerned_at : bits.concerned ≡ map (concerns chart v) (all_transitions chart)
  unfolding unit_bits
  concerned_at = ap (λ (b : UnitBits). b.concerned) is

  pub watched_at : bits.watched ≡ map (watches_state chart v) (all_states chart)
  unfolding unit_bits
  watched_at = ap (λ (b : UnitBits). b.watched) is

  pub states_at : bits.states ≡ map (knows_state chart v) (all_states chart)
  unfolding unit_bits
  states_at = ap (λ (b : UnitBits). b.states) is

  pub vars_at : bits.vars ≡ map (knows_var chart v) (range_with_len 0 (length chart.vars))
  unfolding unit_bits
  vars_at = ap (λ (b : UnitBits). b.vars) is

  pub events_at : bits.events ≡ map (knows_event chart v) (all_events chart)
  unfolding unit_bits
  events_at = ap (λ (b : UnitBits). b.events) is

  pub acts_at : bits.acts ≡ map (knows_act chart v) (all_acts chart)
  unfolding unit_bits
  acts_at = ap (λ (b : UnitBits). b.acts) is

-- a unit has its bits
pub unit_there : (chart : Chart) (v : ℕ) (all : List UnitBits) → all ≡ map (unit_bits chart) (range_with_len 0 (length chart.units)) → v < length chart.units → v < length all
unit_there chart v all rows lt = let n = row_len (unit_bits chart) (length chart.units) all rows in omega arith
