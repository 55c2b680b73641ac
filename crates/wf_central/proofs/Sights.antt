-- What the kept lists show is what the step sees.
use Rattle.std.proofs.lemmas.List.{get_or_past}
use Rattle.std.proofs.Common.{◌≡◌, ℕ, zero, suc, ◌<◌, ◌≤◌, ◌&&◌, Bool, false, List, [], ◌∷◌, length, map, Option, Some, None, unwrap_or, slice_get, inl, inr, refl, sym, ◌∙◌, ap, arith}
use Rattle.std.specs.List.{range_with_len}
use Rattle.std.specs.Prelude.{slice_index, nat_lt, IfSome}
use Rattle.std.specs.Option.{option_map, option_map_or}
use Rattle.wf_model.specs.declared.ids.EventId.{EventId}
use Rattle.wf_model.specs.declared.ids.TransId.{TransId}
use Rattle.wf_model.specs.declared.update.StartAt.{StartAt}
use Rattle.wf_model.specs.declared.value.Val.{Val}
use Rattle.wf_model.specs.declared.value.Sort.TheVariants as s
use Rattle.wf_model.specs.declared.expr.Expr.{Expr}
use Rattle.wf_model.specs.declared.chart.Activity.{Activity}
use Rattle.wf_model.specs.declared.chart.Transition.{Transition}
use Rattle.wf_model.specs.declared.chart.Chart.{Chart}
use Rattle.wf_model.specs.declared.outer.Entry.{Entry}
use Rattle.wf_model.specs.Accepted.{IsAccepted}
use Rattle.wf_model.specs.Seen.{Seen}
use Rattle.wf_model.specs.Ids.{trans_id}
use Rattle.wf_semantics.specs.Configuration.{is_in}
use Rattle.wf_semantics.specs.Effects.{after_fired, raised_by, starts_of}
use Rattle.wf_semantics.specs.Shown.{Shows, HasSorts}
use Rattle.wf_semantics.specs.Snapshot.{Snapshot, is_active, has_event, has_guard, is_ready, is_enabled}
use Rattle.wf_semantics.specs.Run.{CentralState, snapshot_of, fired_in, next_state, is_there, open_now, done_now, items_closed, completions_at}
use Rattle.wf_semantics.specs.Items.{open_count, done_count}
use Rattle.wf_model.proofs.Bools.{not_true}
use Rattle.wf_semantics.proofs.Children.{item_at, lt_or_ge}
use Rattle.wf_semantics.proofs.Configured.{inside_states}
use Rattle.wf_semantics.proofs.Facts.{IsChart}
use Rattle.wf_model.proofs.Rows.{row_at, row_len}
use Rattle.wf_effects.specs.Numbers.{numbers}
use Rattle.wf_effects.proofs.Expressions.{can_read, guard_of}
use Rattle.wf_model.specs.Bits.{bit}
use Rattle.wf_central.specs.Sight.{CanBeRead, seen_by, seeing}
use Rattle.wf_central.specs.Made.{IsSeen, seen_of}
use Rattle.wf_central.specs.declared.snapshot.StepSnapshot.{StepSnapshot}
use Rattle.wf_central.proofs.Passing.{row_bit, past_end}
use Rattle.wf_central.proofs.Sorts.{store_sort}

-- a store with the chart's sorts, and any bits and counts, show the chart
pub shows : (chart : Chart) (active : List Bool) (store : List Val) (counts : List ℕ) (dones : List Bool) → HasSorts chart store → Shows chart (seen_by active store counts dones)
shows chart active store counts dones sorts = record {
  states = λ s lt. refl;
  vars = λ x. store_sort store chart.vars x sorts;
  counts = λ a lt. refl;
  dones = λ a lt. refl;
}

-- a row that has nothing but `false` past its end, and one that has nothing but 0
bits_all : (f : ℕ → Bool) (n z : ℕ) (bits : List Bool) → bits ≡ map f (range_with_len 0 n) → (n ≤ z → f z ≡ false) → bit bits z ≡ f z
bits_all f n z bits e past = elim (lt_or_ge z n) [
  | inl lt ↦ row_bit f n z bits e lt
  | inr ge ↦ get_or_past bits z false (omega (arith, row_len f n bits e)) ∙ sym (past ge)
]

numbers_all : (f : ℕ → ℕ) (n z : ℕ) (ns : List ℕ) → ns ≡ map f (range_with_len 0 n) → (n ≤ z → f z ≡ 0) → slice_index ns z ≡ f z
numbers_all f n z ns e past = elim (lt_or_ge z n) [
  | inl lt ↦ row_at f n z 0 ns e lt
  | inr ge ↦ get_or_past ns z 0 (omega (arith, row_len f n ns e)) ∙ sym (past ge)
]

-- nothing is in, open or done past the end
act_past : (chart : Chart) (c : CentralState) (entries : List Entry) (a : ℕ) → length chart.acts ≤ a → (open_now chart c.items entries a ≡ 0) × (done_now chart entries a ≡ false)
act_past chart c entries a ge =
    let none : slice_get chart.acts a ≡ None = past_end chart.acts a ge in (
      ap (λ (o : Option Activity). option_map_or (λ (u : ℕ). open_count a (items_closed c.items entries u)) (option_map (λ act. act.unit.0) o) 0) none,
      ap (λ (o : Option Activity). option_map_or (λ (u : ℕ). nat_lt 0 (done_count a (completions_at u entries))) (option_map (λ act. act.unit.0) o) false) none,
    )

numbers_back : (ns : List ℕ) → numbers (map trans_id ns) ≡ ns
numbers_back [] = refl
numbers_back (n ∷ ns) = ap (λ (l : List ℕ). n ∷ l) (numbers_back ns)

module _ (chart : Chart) (ok : IsChart chart) (c : CentralState) (entries : List Entry) (snap : StepSnapshot) (there : List Bool) (seen : IsSeen chart c entries snap there) where
  state_past : (z : ℕ) → length chart.states ≤ z → is_in z c.configuration ≡ false
  state_past z ge = not_true (is_in z c.configuration) (λ h. absurd (omega (arith, inside_states chart ok c.configuration seen.configuration z h)))

  -- what expressions read is what the step sees
  pub seen_same : seen_of snap ≡ (snapshot_of chart c entries).seen
  unfolding snapshot_of
  seen_same =
      let states : (z : ℕ) → bit snap.active.now z ≡ is_in z c.configuration = λ z. bits_all (λ s. is_in s c.configuration) (length chart.states) z snap.active.now seen.active (state_past z) in
      let counts : (a : ℕ) → slice_index snap.counts.now a ≡ open_now chart c.items entries a = λ a. numbers_all (open_now chart c.items entries) (length chart.acts) a snap.counts.now seen.counts (λ ge. (act_past chart c entries a ge).0) in
      let dones : (a : ℕ) → bit snap.dones.now a ≡ done_now chart entries a = λ a. bits_all (done_now chart entries) (length chart.acts) a snap.dones.now seen.dones (λ ge. (act_past chart c entries a ge).1) in
      λ i. record { state = λ z. Some (states z i); var = slice_get (seen.store i); count = λ a. Some (counts a i); done = λ a. Some (dones a i) }

  -- with the events
  pub seeing_same : seeing (seen_of snap) (is_there c.raised entries) ≡ snapshot_of chart c entries
  unfolding snapshot_of
  seeing_same = ap (λ (s : Seen). seeing s (is_there c.raised entries)) seen_same

  has_event_same : (o : Option EventId) → ((e : EventId) → o ≡ Some e → e.0 < length chart.events) → has_event (bit there) o ≡ has_event (is_there c.raised entries) o
  has_event_same None known = refl
  has_event_same (Some e) known = row_bit (is_there c.raised entries) (length chart.events) e.0 there seen.events (known e refl)

  -- and the enabled transitions are those that the step enables
  pub enabled_same : (t : ℕ) → t < length chart.transitions → is_enabled chart (seeing (seen_of snap) (bit there)) t ≡ is_enabled chart (snapshot_of chart c entries) t
  unfolding is_enabled
  enabled_same t lt =
      let w = item_at chart.transitions t lt in
      let shown = seeing (seen_of snap) (bit there) in
      let whole = seeing (seen_of snap) (is_there c.raised entries) in
      ap (λ (o : Option Transition). unwrap_or (option_map (is_ready shown) o) false) w.1
      ∙ ap (λ (b : Bool). is_active (seen_of snap) w.0.source.0 && (b && has_guard (seen_of snap) w.0.guard)) (has_event_same w.0.event (λ e q. ok.known_event t w.0 e w.1 q))
      ∙ sym (ap (λ (o : Option Transition). unwrap_or (option_map (is_ready whole) o) false) w.1)
      ∙ ap (λ (s : Snapshot). unwrap_or (option_map (is_ready s) (slice_get chart.transitions t)) false) seeing_same

  -- the transitions that fire, and what they do
  module _ (fired : List TransId) (made : fired ≡ map trans_id (fired_in chart c entries)) where
    numbers_made : numbers fired ≡ fired_in chart c entries
    numbers_made = ap numbers made ∙ numbers_back (fired_in chart c entries)

    pub store_made : (store : List Val) → store ≡ after_fired chart (seen_of snap) (numbers fired) snap.store.now → store ≡ (next_state chart c entries).store
    unfolding next_state
    store_made store e =
        e
        ∙ ap (λ (s : Seen). after_fired chart s (numbers fired) snap.store.now) seen_same
        ∙ ap (λ (ns : List ℕ). after_fired chart (snapshot_of chart c entries).seen ns snap.store.now) numbers_made
        ∙ ap (after_fired chart (snapshot_of chart c entries).seen (fired_in chart c entries)) seen.store

    pub raised_made : (raised : List EventId) → raised ≡ raised_by chart (seen_of snap) (numbers fired) → raised ≡ (next_state chart c entries).raised
    unfolding next_state
    raised_made raised e =
        e
        ∙ ap (λ (s : Seen). raised_by chart s (numbers fired)) seen_same
        ∙ ap (raised_by chart (snapshot_of chart c entries).seen) numbers_made

    pub starts_made : (starts : List StartAt) → starts ≡ starts_of chart (numbers fired) → starts ≡ starts_of chart (fired_in chart c entries)
    starts_made starts e = e ∙ ap (starts_of chart) numbers_made

-- a guard of the chart can be read where the chart is shown
pub guard_read : (chart : Chart) (seen : Seen) (t : ℕ) (trans : Transition) → IsAccepted chart → Shows chart seen → slice_get chart.transitions t ≡ Some trans → IfSome trans.guard (CanBeRead seen)
guard_read chart seen t trans ok shown e = go trans.guard refl
  where
    go : (o : Option Expr) → trans.guard ≡ o → IfSome o (CanBeRead seen)
    go None q = tt
    go (Some guard) q = can_read chart seen guard s.Bool shown (guard_of chart t trans guard ok e q)
