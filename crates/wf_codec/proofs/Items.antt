-- The items of lists: each is read behind the one before it as it is spelled.
use Rattle.std.proofs.Common.{◌≡◌, ℕ, suc, ◌^◌, ◌<◌, ◌≤◌, Bool, true, false, cond, eqb, Option, Some, refl, sym, ap, subst, arith, inl, inr}
use Rattle.std.proofs.lemmas.Bool.{eq-eqb, ne_eqb}
use Rattle.std.proofs.lemmas.Bool.Decides.{eqb_tells}
use Rattle.wf_model.specs.Limits.{max_events, max_vars, max_acts, max_states, max_transitions, max_actions}
use Rattle.wf_model.specs.declared.ids.StateId.{StateId}
use Rattle.wf_model.specs.declared.ids.EventId.{EventId}
use Rattle.wf_model.specs.declared.ids.TransId.{TransId}
use Rattle.wf_model.specs.declared.outer.Output.{Output}
use Rattle.wf_model.specs.declared.update.Write.{Write}
use Rattle.wf_model.specs.declared.update.StartAt.{StartAt}
use Rattle.wf_codec.specs.Spelling.{state_spelling, event_spelling, trans_spelling, write_spelling, start_spelling, output_spelling}
use Rattle.wf_codec.specs.Ranges.{chart_numbers, IsStart, IsEarlier, IsHeldValue}
use Rattle.wf_codec.specs.declared.field.Numbers.{Numbers}
use Rattle.wf_codec.specs.Reading.{least_after}
use Rattle.wf_codec.specs.Fields.{state_at, event_at, trans_at, write_at, start_at, least_trans, least_place, output_at}
use Rattle.wf_codec.proofs.Readers.{Reads, Reads-then, Reads-as, Reads-of}
use Rattle.wf_codec.proofs.Numbers.{IsWithin, Reads-byte, Reads-two}
use Rattle.wf_codec.proofs.Lists.{IsSplit}
use Rattle.wf_codec.proofs.Values.{Reads-value}

-- ---- numbers that ascend

-- a number over that of the item before it, and below a limit
abbrev IsNext : {A : Type 0} → (A → ℕ) → ℕ → Option A → A → Type 0
IsNext number limit before x = IsWithin (least_after number before) limit (number x)

ascends : {A : Type 0} (number : A → ℕ) (limit : ℕ) → IsSplit (IsNext number limit) (λ x. number x < limit) (λ x y. number x < number y)
ascends number limit = record {
  alone = λ x fit. fit.1;
  behind = λ x y fit. (fit.1, omega (arith, fit.0));
  first = λ x fit. (omega arith, fit);
  next = λ x y fit over. (omega (arith, over), fit);
}

-- the same, of items of which more holds
ascends_held : {A : Type 0} (number : A → ℕ) (limit : ℕ) (Held : A → Type 0) → IsSplit (λ before x. IsNext number limit before x × Held x) (λ x. (number x < limit) × Held x) (λ x y. number x < number y)
ascends_held number limit Held = record {
  alone = λ x fit. (fit.0.1, fit.1);
  behind = λ x y fit. ((fit.0.1, fit.1), omega (arith, fit.0.0));
  first = λ x fit. ((omega arith, fit.0), fit.1);
  next = λ x y fit over. ((omega (arith, over), fit.0), fit.1);
}

abbrev pub IsNextState : Option StateId → StateId → Type 0
IsNextState before s = IsNext (λ x. x.0) max_states before s

pub states_split : IsSplit IsNextState (λ s. s.0 < max_states) (λ x y. x.0 < y.0)
states_split = ascends (λ (s : StateId). s.0) max_states

pub Reads-state : (before : Option StateId) → Reads (state_at before) state_spelling (IsNextState before)
unfolding state_at
Reads-state before =
    Reads-as state_spelling (IsNextState before)
    (Reads-of (λ (s : StateId). s.0) (λ n. record { 0 = n }) (Reads-two (least_after (λ s. s.0) before) max_states (omega arith)) (λ n fit. refl))
    (λ s fit. refl) (λ s fit. fit.0) (λ s fit. (fit, refl))

abbrev pub IsNextEvent : Option EventId → EventId → Type 0
IsNextEvent before e = IsNext (λ x. x.0) max_events before e

pub events_split : IsSplit IsNextEvent (λ e. e.0 < max_events) (λ x y. x.0 < y.0)
events_split = ascends (λ (e : EventId). e.0) max_events

pub Reads-event : (before : Option EventId) → Reads (event_at chart_numbers before) event_spelling (IsNextEvent before)
unfolding event_at
Reads-event before =
    Reads-as event_spelling (IsNextEvent before)
    (Reads-of (λ (e : EventId). e.0) (λ n. record { 0 = n }) (Reads-two (least_after (λ e. e.0) before) max_events (omega arith)) (λ n fit. refl))
    (λ e fit. refl) (λ e fit. fit.0) (λ e fit. (fit, refl))

abbrev pub IsNextTrans : Option TransId → TransId → Type 0
IsNextTrans before t = IsNext (λ x. x.0) max_transitions before t

pub transitions_split : IsSplit IsNextTrans (λ t. t.0 < max_transitions) (λ x y. x.0 < y.0)
transitions_split = ascends (λ (t : TransId). t.0) max_transitions

pub Reads-trans : (before : Option TransId) → Reads (trans_at before) trans_spelling (IsNextTrans before)
unfolding trans_at
Reads-trans before =
    Reads-as trans_spelling (IsNextTrans before)
    (Reads-of (λ (t : TransId). t.0) (λ n. record { 0 = n }) (Reads-two (least_after (λ t. t.0) before) max_transitions (omega arith)) (λ n fit. refl))
    (λ t fit. refl) (λ t fit. fit.0) (λ t fit. (fit, refl))

-- ---- writes

abbrev pub IsHeldWrite : Write → Type 0
IsHeldWrite w = (w.trans.0 < max_transitions) × IsHeldValue w.val

abbrev pub IsNextWrite : Option Write → Write → Type 0
IsNextWrite before w = IsNext (λ x. x.var.0) max_vars before w × IsHeldWrite w

pub writes_split : IsSplit IsNextWrite (λ w. (w.var.0 < max_vars) × IsHeldWrite w) (λ w x. w.var.0 < x.var.0)
writes_split = ascends_held (λ w. w.var.0) max_vars IsHeldWrite

pub Reads-write : (before : Option Write) → Reads (write_at chart_numbers before) write_spelling (IsNextWrite before)
unfolding write_at
Reads-write before =
    Reads-as write_spelling (IsNextWrite before)
    (Reads-then (λ (w : Write). w.var.0) (Reads-two (least_after (λ w. w.var.0) before) max_vars (omega arith))
    (λ var var_fits. Reads-then (λ (w : Write). w.trans.0) (Reads-two 0 max_transitions (omega arith))
    (λ trans trans_fits. Reads-of (λ (w : Write). w.val) (λ val. record { var = record { 0 = var }; trans = record { 0 = trans }; val = val }) Reads-value (λ val fit. refl))
    (λ trans w fit fits. ap (λ (x : Write). x.trans.0) fits.1))
    (λ var w fit fits. ap (λ (x : Write). x.var.0) fits.1.1))
    (λ w fit. refl) (λ w fit. (fit.0, (fit.1.0.1, fit.1.1.0))) (λ w fit. (fit.0, ((omega arith, fit.1.0), (fit.1.1, refl))))

-- ---- starts

abbrev pub IsNextStart : Option StartAt → StartAt → Type 0
IsNextStart before s = (s.act.0 < max_acts) × (IsWithin (least_trans before) max_transitions s.trans.0 × IsWithin (least_place before s.trans.0) max_actions s.place)

pub Reads-start : (before : Option StartAt) → Reads (start_at chart_numbers before) start_spelling (IsNextStart before)
unfolding start_at
Reads-start before =
    Reads-as start_spelling (IsNextStart before)
    (Reads-then (λ (s : StartAt). s.act.0) (Reads-two 0 max_acts (omega arith))
    (λ act act_fits. Reads-then (λ (s : StartAt). s.trans.0) (Reads-two (least_trans before) max_transitions (omega arith))
    (λ trans trans_fits. Reads-of (λ (s : StartAt). s.place) (λ place. record { act = record { 0 = act }; trans = record { 0 = trans }; place = place }) (Reads-byte (least_place before trans) max_actions) (λ place fit. refl))
    (λ trans s fit fits. ap (λ (x : StartAt). x.trans.0) fits.1))
    (λ act s fit fits. ap (λ (x : StartAt). x.act.0) fits.1.1))
    (λ s fit. refl) (λ s fit. (fit.0.1, (fit.1.0, fit.1.1.0))) (λ s fit. ((omega arith, fit.0), (fit.1.0, (fit.1.1, refl))))

place_over : (s t : StartAt) → IsNextStart (Some s) t → IsEarlier s t
place_over s t fit =
    elim (eqb_tells s.trans.0 t.trans.0) [
      | inl same ↦ inr (same.1, subst (λ (b : Bool). cond b (suc s.place) 0 ≤ t.place) same.0 fit.1.1.0)
      | inr other ↦ inl (omega (arith, fit.1.0.0, other.1))
    ]

place_from : (s t : StartAt) → IsStart t → IsEarlier s t → IsNextStart (Some s) t
place_from s t is (inl lt) =
    let e : eqb s.trans.0 t.trans.0 ≡ false = ne_eqb _ _ (λ e. omega arith) in
    (is.0, ((omega arith, is.1), (subst (λ (b : Bool). cond b (suc s.place) 0 ≤ t.place) (sym e) (omega arith), is.2)))
place_from s t is (inr same) =
    let e : eqb s.trans.0 t.trans.0 ≡ true = eq-eqb _ _ same.0 in
    (is.0, ((omega (arith, same.0), is.1), (subst (λ (b : Bool). cond b (suc s.place) 0 ≤ t.place) (sym e) (omega (arith, same.1)), is.2)))

pub starts_split : IsSplit IsNextStart IsStart IsEarlier
starts_split = record {
  alone = λ s fit. (fit.0, fit.1.0.1, fit.1.1.1);
  behind = λ s t fit. ((fit.0, fit.1.0.1, fit.1.1.1), place_over s t fit);
  first = λ s is. (is.0, ((omega arith, is.1), (omega arith, is.2)));
  next = λ s t is before. place_from s t is before;
}

-- ---- outputs

abbrev pub IsOutput : Numbers → Output → Type 0
IsOutput numbers o = (o.var.0 < numbers.vars) × IsHeldValue o.val

pub Reads-output : (numbers : Numbers) → numbers.vars ≤ 2 ^ 16 → (before : Option Output) → Reads (output_at numbers before) output_spelling (IsOutput numbers)
unfolding output_at
Reads-output numbers small before =
    Reads-as output_spelling (IsOutput numbers)
    (Reads-then (λ (o : Output). o.var.0) (Reads-two 0 numbers.vars small)
    (λ var var_fits. Reads-of (λ (o : Output). o.val) (λ val. record { var = record { 0 = var }; val = val }) Reads-value (λ val fit. refl))
    (λ var o fit fits. ap (λ (x : Output). x.var.0) fits.1))
    (λ o fit. refl) (λ o fit. (fit.0.1, fit.1.0)) (λ o fit. ((omega arith, fit.0), (fit.1, refl)))
