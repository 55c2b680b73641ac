-- What is done to one server of a fleet keeps what holds of all of them.
use Rattle.std.proofs.Common.{◌≡◌, ◌≢◌, ℕ, ◌+◌, ◌<◌, ◌≤◌, ◌==◌, cond, min, is_ok, Bool, true, false, List, [], length, slice_get, slice_set, unwrap_or, Option, Some, None, option_map, refl, sym, ap, ◌∙◌, subst, arith, eqb-true, eq-eqb}
use Rattle.std.specs.List.{AllByRecursion}
use Rattle.std.proofs.lemmas.Bool.{cond-true, cond-false}
use Rattle.std.proofs.lemmas.List.{map-set, length-map, length-set}
use Rattle.std.proofs.lemmas.Option.{slice_get-map, slice_get_within}
use Rattle.wf_model.specs.Limits.{max_sealed}
use Rattle.wf_model.specs.declared.chart.Chart.{Chart}
use Rattle.wf_model.specs.declared.update.Update.{Update}
use Rattle.wf_model.specs.declared.outer.Outer.{Outer}
use Rattle.wf_parts.specs.Parts.{part_of}
use Rattle.wf_machine.specs.declared.admission.Admission as of
use Rattle.wf_machine.specs.declared.line.Line.{Line}
use Rattle.wf_machine.specs.declared.reply.Reply.{Reply}
use Rattle.wf_machine.specs.Server.{Health, Works, Failed, IsDown, Record as Counted, Admits as CountedAdmits, Turns as CountedTurns}
use Rattle.wf_machine.specs.Machine.{CountingMachine}
use Rattle.wf_machine.specs.Lines.{Acted, act}
use Rattle.wf_machine.specs.Account.{IsAccount, MachineGrows}
use Rattle.wf_machine.specs.Postings.{IsPosted, records}
use Rattle.wf_machine.proofs.Accounts.{act_keeps}
use Rattle.wf_machine.proofs.Stays.{act_grows}
use Rattle.wf_machine.proofs.Posting.{act_posts}
use Rattle.wf_histories.specs.Histories.{Admission, History, taken}
use Rattle.wf_worlds.specs.Admitting.{lets_in}
use Rattle.wf_worlds.specs.Growing.{unsealed}
use Rattle.wf_worlds.specs.Worlds.{World, Record, Admits, Turns, with_unit, stood, IsMade, MayStand, Sound}
use Rattle.wf_worlds.proofs.Sounds.{stands_sound}
use Rattle.wf_world.specs.Mail.{AreLetters}
use Rattle.wf_slot.specs.Units.{UnitState, new_unit}
use Rattle.wf_slot.specs.Slots.{SlotState, counted_record, unit_of, server}
use Rattle.wf_world.specs.Machines.{machine_of}
use Rattle.wf_world.specs.Sounds.{unit_at, hist_of, IsSound}
use Rattle.wf_world.specs.Fleets.{FleetState, units_of, machine_at, IsShortRecord, IsSlotOf, IsFleet, ahead, IsWorn, one_more, WearsOne, WearsNone, Leads}
use Rattle.wf_worlds.specs.Ends.{IsShort}
use Rattle.wf_world.proofs.Sounds.{get_there, get_other, at_each, hist_is, plain_sound, stood_sound, changed_sound}
use Rattle.wf_world.proofs.Letters.{letters_on}
use Rattle.wf_world.proofs.Lines.{acted}

-- LISTS

none_some : {A : Type 0} (x : A) → None ≡ Some x → ⊥
none_some x e = cc

some_same : {A : Type 0} (x y : A) → Some x ≡ Some y → x ≡ y
some_same x y e = cc

-- what holds of the new one, and of each other one, holds of all
pub each_set : {A : Type 0} (P : ℕ → A → Type 0) (xs : List A) (u : ℕ) (new : A) → u < length xs → P u new → ((v : ℕ) (x : A) → v ≢ u → slice_get xs v ≡ Some x → P v x) → (v : ℕ) (x : A) → slice_get (slice_set xs u new) v ≡ Some x → P v x
each_set {A} P xs u new lt here others v x at = go (v == u) refl
  where
    go : (b : Bool) → (v == u) ≡ b → P v x
    go true e =
        let same : v ≡ u = eqb-true v u e in
        let is : new ≡ x = some_same new x (sym (get_there xs u new lt) ∙ ap (slice_get (slice_set xs u new)) (sym same) ∙ at) in
        subst (λ (w : ℕ). P w x) (sym same) (subst (P u) is here)
    go false e =
        let other : v ≢ u = λ same. differs same e in
        others v x other (sym (get_other xs u v new other) ∙ at)
      where
        differs : v ≡ u → (v == u) ≡ false → ⊥
        differs same is = let yes : (v == u) ≡ true = eq-eqb v u same in cc

-- A DOUBT, as the machine counts it
counted_is : (past : History) (d : Option Record) (c : Counted) → option_map (counted_record past) d ≡ Some c → (r : Record) × (d ≡ Some r) × (counted_record past r ≡ c)
counted_is past None c e = absurd (none_some c e)
counted_is past (Some r) c e = (r, refl, some_same (counted_record past r) c e)

abbrev outer_in : Counted → Option Outer
outer_in (CountedAdmits a) = Some a.outer
outer_in (CountedTurns k) = None

-- an admission in doubt may be let in
admits_by : (chart : Chart) (h : ℕ → History) (u : ℕ) (past : History) (a : of.Admission) (r : Record) → counted_record past r ≡ CountedAdmits a → MayStand chart h u r → is_ok (lets_in (part_of chart u) (h u) a.outer) ≡ true
admits_by chart h u past a (Admits b) e may = ap (λ (o : Outer). is_ok (lets_in (part_of chart u) (h u) o)) (sym (some_same b.outer a.outer (ap outer_in e))) ∙ may
admits_by chart h u past a (Turns updates) e may = absurd (none_some a.outer (ap outer_in e))

abbrev sealed_in : Counted → Option ℕ
sealed_in (CountedAdmits a) = None
sealed_in (CountedTurns k) = Some k

-- a turn in doubt seals what the next turn does, and no unit is behind it
turns_by : (chart : Chart) (h : ℕ → History) (u : ℕ) (past : History) (k : ℕ) (r : Record) → past ≡ h u → counted_record past r ≡ CountedTurns k → MayStand chart h u r →
    (k ≡ min max_sealed (unsealed (h u))) × ((v : ℕ) → v < length chart.units → taken (h u) ≤ taken (h v))
turns_by chart h u past k (Admits a) is e may = absurd (none_some k (ap sealed_in e))
turns_by chart h u past k (Turns updates) is e may = (sym (some_same (min max_sealed (unsealed past)) k (ap sealed_in e)) ∙ ap (λ (x : History). min max_sealed (unsealed x)) is, may.1)

module _ (f : FleetState) (is : IsFleet f) (u : ℕ) (s : SlotState) (at : slice_get f.slots u ≡ Some s) where
  abbrev units : List UnitState
  units = units_of f.slots

  abbrev h : ℕ → History
  h = hist_of (units_of f.slots)

  there : u < length f.slots
  there = slice_get_within f.slots u s at

  pub in_chart : u < length f.chart.units
  in_chart = let a = there in let b = is.count in omega (arith, a, b)

  in_units : u < length (units_of f.slots)
  in_units = let a = there in let b = length-map f.slots unit_of in omega (arith, a, b)

  pub count_units : length (units_of f.slots) ≡ length f.chart.units
  count_units = length-map f.slots unit_of ∙ is.count

  pub at_units : slice_get (units_of f.slots) u ≡ Some (unit_of s)
  at_units = slice_get-map unit_of f.slots u ∙ ap (option_map unit_of) at

  pub unit_is : unit_at (units_of f.slots) u ≡ (unit_of s)
  unit_is = ap (λ (o : Option UnitState). unwrap_or o (new_unit u)) at_units

  pub past_is : hist_of (units_of f.slots) u ≡ s.past
  past_is = ap (λ (x : UnitState). x.past) unit_is

  module _ (t : SlotState) where
    abbrev then : FleetState
    then = record f { slots = slice_set f.slots u t }

    abbrev units_then : List UnitState
    units_then = slice_set (units_of f.slots) u (unit_of t)

    abbrev machine_then : CountingMachine
    machine_then = machine_of (slice_set (units_of f.slots) u (unit_of t)) f.messages

    units_are : units_of (slice_set f.slots u t) ≡ units_then
    units_are = map-set unit_of f.slots u t

    -- all holds again
    module _ (sound : IsSound f.chart units_then) (each : (v : ℕ) (x : SlotState) → slice_get (slice_set f.slots u t) v ≡ Some x → IsSlotOf f.chart (hist_of units_then) v x) (grows : MachineGrows (machine_at f) machine_then)
        (account : IsAccount machine_then) (posted : IsPosted machine_then) where
      pub replaced : IsFleet then
      replaced = record {
        accepted = is.accepted;
        count = length-set f.slots u t ∙ is.count;
        each = let P : List UnitState → Type 0 = λ xs. (v : ℕ) (x : SlotState) → slice_get (slice_set f.slots u t) v ≡ Some x → IsSlotOf f.chart (hist_of xs) v x in subst P (sym units_are) each;
        sound = let P : List UnitState → Type 0 = λ xs. IsSound f.chart xs in subst P (sym units_are) sound;
        letters = let P : List UnitState → Type 0 = λ xs. AreLetters f.chart (machine_of xs f.messages) f.messages in subst P (sym units_are) (letters_on (machine_at f) machine_then grows is.account f.chart f.messages is.letters);
        account = let P : List UnitState → Type 0 = λ xs. IsAccount (machine_of xs f.messages) in subst P (sym units_are) account;
        posted = let P : List UnitState → Type 0 = λ xs. IsPosted (machine_of xs f.messages) in subst P (sym units_are) posted;
        few = is.few;
      }

    -- by a line of the machine
    module _ (x : Line) (stands : Bool) (r : Reply) (goes : act f.chart (machine_at f) stands x ≡ acted r machine_then) (sound : IsSound f.chart units_then)
        (each : (v : ℕ) (y : SlotState) → slice_get (slice_set f.slots u t) v ≡ Some y → IsSlotOf f.chart (hist_of units_then) v y) where
      after_is : (act f.chart (machine_at f) stands x).after ≡ machine_then
      after_is = ap (λ (d : Acted). d.after) goes

      pub led : Leads f x r then
      led = record {
        chart = refl;
        machine = (stands, goes ∙ ap (λ (xs : List UnitState). acted r (machine_of xs f.messages)) (sym units_are));
        fleet = replaced sound each
            (subst (MachineGrows (machine_at f)) after_is (act_grows f.chart (machine_at f) stands x))
            (subst IsAccount after_is (act_keeps f.chart (machine_at f) stands x is.account))
            (subst IsPosted after_is (act_posts f.chart (machine_at f) stands x is.account is.posted));
      }

    -- THE HISTORY STAYS
    module _ (part : t.part ≡ s.part) (past : t.past ≡ s.past) (held : (v j : ℕ) (update : Update) → v < length f.chart.units → (unit_of t).held v j ≡ Some update → IsMade f.chart h v u j update)
        (doubt : (r : Record) → t.doubt ≡ Some r → MayStand f.chart h u r × IsShortRecord r) where
      past_here : t.past ≡ h u
      past_here = past ∙ sym past_is

      same_hist : h ≡ hist_of units_then
      same_hist = λ i v. each v i
        where
          each : (v : ℕ) → h v ≡ hist_of units_then v
          each v = at_each (units_of f.slots) u (unit_of t) in_units (λ w x. h w ≡ x.past) (sym past_here) (λ w other. refl) v

      pub kept_sound : IsSound f.chart units_then
      kept_sound =
          changed_sound f.chart is.accepted (units_of f.slots) count_units is.sound u in_chart (unit_of t) past_here held
          (λ a e. let d = counted_is t.past t.doubt (CountedAdmits a) e in admits_by f.chart h u t.past a d.0 d.2 (doubt d.0 d.1).0)
          (λ k e. let d = counted_is t.past t.doubt (CountedTurns k) e in turns_by f.chart h u t.past k d.0 past_here d.2 (doubt d.0 d.1).0)

      pub kept_each : (v : ℕ) (x : SlotState) → slice_get (slice_set f.slots u t) v ≡ Some x → IsSlotOf f.chart (hist_of units_then) v x
      kept_each =
          let P : (ℕ → History) → Type 0 = λ g. (v : ℕ) (x : SlotState) → slice_get (slice_set f.slots u t) v ≡ Some x → IsSlotOf f.chart g v x in
          subst P same_hist (each_set (IsSlotOf f.chart h) f.slots u t there here (λ v x other e. is.each v x e))
        where
          old : IsSlotOf f.chart h u s
          old = is.each u s at

          here : IsSlotOf f.chart h u t
          here = record {
            part = part ∙ old.part;
            doubt = doubt;
            short = let P : History → Type 0 = λ g. AllByRecursion (λ (a : Admission). IsShort a.outer) g.admissions in subst P (sym past) old.short;
          }

    -- A RECORD STANDS
    module _ (part : t.part ≡ s.part) (r : Record) (may : MayStand f.chart h u r) (past : t.past ≡ stood r s.past)
        (held : (v j : ℕ) (update : Update) → (unit_of t).held v j ≡ Some update → (unit_of s).held v j ≡ Some update) (certain : t.doubt ≡ None)
        (short : AllByRecursion (λ (a : Admission). IsShort a.outer) t.past.admissions) where
      stood_past : t.past ≡ stood r (h u)
      stood_past = past ∙ ap (stood r) (sym past_is)

      pub stands_sound_here : IsSound f.chart units_then
      stands_sound_here =
          stood_sound f.chart is.accepted (units_of f.slots) count_units is.sound u in_chart (unit_of t) r may stood_past
          (λ v j update e. ap (λ (x : UnitState). x.held v j) unit_is ∙ held v j update e) (ap (option_map (counted_record t.past)) certain)

      -- as a world with the doubts of the others
      abbrev doubt_of : Option SlotState → Option Record
      doubt_of None = None
      doubt_of (Some x) = x.doubt

      abbrev doubts : ℕ → Option Record
      doubts v = cond (v == u) None (doubt_of (slice_get f.slots v))

      abbrev doubting : World
      doubting = record { hist = h; held = λ v. (unit_at (units_of f.slots) v).held; messages = []; doubt = doubts }

      no_doubt : doubts u ≡ None
      no_doubt = cond-true (u == u) None (doubt_of (slice_get f.slots u)) (eq-eqb u u refl)

      doubtful : (v : ℕ) (q : Record) → v < length f.chart.units → doubts v ≡ Some q → MayStand f.chart h v q
      doubtful v q lt = by_unit (v == u)
        where
          by_slot : (o : Option SlotState) → slice_get f.slots v ≡ o → doubt_of o ≡ Some q → MayStand f.chart h v q
          by_slot None at_v e = absurd (none_some q e)
          by_slot (Some x) at_v e = ((is.each v x at_v).doubt q e).0

          by_unit : (b : Bool) → cond b None (doubt_of (slice_get f.slots v)) ≡ Some q → MayStand f.chart h v q
          by_unit true e = absurd (none_some q e)
          by_unit false e = by_slot (slice_get f.slots v) refl e

      doubting_sound : Sound f.chart doubting
      doubting_sound =
          let plain = plain_sound f.chart is.accepted (units_of f.slots) count_units is.sound in
          record { agree = plain.agree; fits = plain.fits; good = plain.good; sent = plain.sent; held = plain.held; doubtful = doubtful }

      then_sound : Sound f.chart (record doubting { hist = with_unit h u (stood r (h u)) })
      then_sound = stands_sound f.chart doubting u r is.accepted in_chart doubting_sound no_doubt may

      hist_then : with_unit h u (stood r (h u)) ≡ hist_of units_then
      hist_then = ap (λ (x : History). with_unit h u x) (sym stood_past) ∙ sym (hist_is (units_of f.slots) u (unit_of t) in_units)

      pub stood_each : (v : ℕ) (x : SlotState) → slice_get (slice_set f.slots u t) v ≡ Some x → IsSlotOf f.chart (hist_of units_then) v x
      stood_each =
          let P : (ℕ → History) → Type 0 = λ g. (v : ℕ) (x : SlotState) → slice_get (slice_set f.slots u t) v ≡ Some x → IsSlotOf f.chart g v x in
          subst P hist_then (each_set (IsSlotOf f.chart (with_unit h u (stood r (h u)))) f.slots u t there here other)
        where
          here : IsSlotOf f.chart (with_unit h u (stood r (h u))) u t
          here = record { part = part ∙ (is.each u s at).part; doubt = λ q e. absurd (none_some q (sym certain ∙ e)); short = short }

          other : (v : ℕ) (x : SlotState) → v ≢ u → slice_get f.slots v ≡ Some x → IsSlotOf f.chart (with_unit h u (stood r (h u))) v x
          other v x apart at_v =
              let old = is.each v x at_v in
              let lt : v < length f.chart.units = let a = slice_get_within f.slots v x at_v in let b = is.count in omega (arith, a, b) in
              record { part = old.part; doubt = λ q e. (then_sound.doubtful v q lt (here_doubt (v == u) refl q e), (old.doubt q e).1); short = old.short }
            where
              here_doubt : (b : Bool) → (v == u) ≡ b → (q : Record) → x.doubt ≡ Some q → doubts v ≡ Some q
              here_doubt true same q e = absurd (apart (eqb-true v u same))
              here_doubt false same q e = cond-false (v == u) None (doubt_of (slice_get f.slots v)) same ∙ ap doubt_of at_v ∙ e

    -- WEAR
    pub wears_one : ((k : ℕ) → IsWorn k s → IsWorn (k + 1) t) → WearsOne u f then
    wears_one worn n are = each_set (λ v x. IsWorn (one_more u n v) x) f.slots u t there here other
      where
        here : IsWorn (one_more u n u) t
        here = let P : ℕ → Type 0 = λ k. IsWorn k t in subst P (sym (cond-true (u == u) (n u + 1) (n u) (eq-eqb u u refl))) (worn (n u) (are u s at))

        other : (v : ℕ) (x : SlotState) → v ≢ u → slice_get f.slots v ≡ Some x → IsWorn (one_more u n v) x
        other v x apart at_v = go (v == u) refl
          where
            go : (b : Bool) → (v == u) ≡ b → IsWorn (cond b (n v + 1) (n v)) x
            go true e = absurd (apart (eqb-true v u e))
            go false e = are v x at_v

    pub wears_none : ((k : ℕ) → IsWorn k s → IsWorn k t) → WearsNone f then
    wears_none worn n are = each_set (λ v x. IsWorn (n v) x) f.slots u t there (worn (n u) (are u s at)) (λ v x apart at_v. are v x at_v)

-- one line more makes at most four strokes, and adds at most one record
pub step_wears : (s t : SlotState) → t.clock ≤ s.clock + 4 → records (server t) ≤ records (server s) + 1 → (k : ℕ) → IsWorn k s → IsWorn (k + 1) t
step_wears s t clock few k worn =
    let old = worn.clock in
    let most = most_ahead t.health in
    let old_records = worn.records in
    record { clock = omega (arith, old, clock, most); records = omega (arith, old_records, few) }
  where
    most_ahead : (x : Health) → ahead x ≤ 4
    most_ahead Works = omega arith
    most_ahead Failed = omega arith
    most_ahead IsDown = omega arith
