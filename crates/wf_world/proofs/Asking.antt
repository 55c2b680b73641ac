-- What is asked of one unit of a fleet leads it on as the machine does.
use Rattle.std.proofs.Common.{◌≡◌, ◌≢◌, ◌⊎◌, inl, inr, ℕ, suc, ◌+◌, ◌<◌, ◌≤◌, ◌==◌, cond, is_ok, Bool, true, false, List, [], ◌∷◌, ◌++◌, filter, not, is_some, length, slice_get, slice_set, Option, Some, None, option_map, Result, Ok, refl, sym, ap, ap₂, ◌∙◌, subst, arith}
use Rattle.std.specs.List.{AllByRecursion, range_with_len}
use Rattle.std.proofs.lemmas.List.{length-map, length-append}
use Rattle.wf_model.specs.declared.ids.UnitId.{UnitId}
use Rattle.wf_model.specs.declared.update.Update.{Update}
use Rattle.wf_model.specs.declared.outer.Outer.{Outer}
use Rattle.wf_model.specs.declared.outer.OuterFault.{OuterFault}
use Rattle.wf_disk.specs.declared.arm.Arm.{Arm}
use Rattle.wf_disk.specs.declared.arm.Outcome.{Outcome}
use Rattle.wf_parts.specs.declared.data.PartData.{PartData}
use Rattle.wf_parts.specs.Parts.{part_of}
use Rattle.wf_machine.specs.declared.line.Line.{Line}
use Rattle.wf_machine.specs.declared.line.Line.TheVariants as line
use Rattle.wf_machine.specs.declared.reply.Reply.{Reply}
use Rattle.wf_machine.specs.declared.reply.Reply.TheVariants as reply
use Rattle.wf_machine.specs.declared.reply.TurnReply.{TurnReply}
use Rattle.wf_machine.specs.Server.{Health, Works, Failed, IsDown}
use Rattle.wf_machine.specs.Lines.{bar_at, asked, lets, admit_by, turn_by, crash_by, act}
use Rattle.wf_machine.specs.Postings.{in_doubt, records}
use Rattle.wf_histories.specs.Histories.{Admission, History, taken}
use Rattle.wf_histories.specs.Agreement.{peers}
use Rattle.wf_worlds.specs.Admitting.{lets_in}
use Rattle.wf_worlds.specs.Worlds.{Record, Admits, Turns, gather, stood, IsMade, MayStand}
use Rattle.wf_worlds.proofs.Growing.{turn_takes}
use Rattle.wf_worlds.proofs.Sounds.{turn_may}
use Rattle.wf_slot.specs.Units.{UnitState, counted}
use Rattle.wf_slot.specs.Slots.{SlotState, held, counted_record, unit_of, server, absent, fallen}
use Rattle.wf_slot.specs.Answers.{Goes, HoldsLess, Stands, Breaks, AdmitWrites, TurnWrites, RecoveryWrites, RecoverAnswers}
use Rattle.wf_world.specs.Machines.{machine_of}
use Rattle.wf_world.specs.Sounds.{hist_of}
use Rattle.wf_world.specs.Fleets.{FleetState, units_of, machine_at, IsShortRecord, IsFleet, Leads, WearsOne}
use Rattle.wf_worlds.specs.Ends.{IsShort}
use Rattle.wf_world.proofs.Sounds.{plain, plain_sound}
use Rattle.wf_world.proofs.Counts.{lets_is}
use Rattle.wf_world.proofs.Lines.{acted, admit_is, turn_is, crash_is, arm_is, recover_is}
use Rattle.wf_world.proofs.Fleets.{in_chart, count_units, at_units, unit_is, past_is, led, kept_sound, kept_each, stands_sound_here, stood_each, wears_one, step_wears}

none_some : {A : Type 0} (x : A) → None ≡ Some x → ⊥
none_some x e = cc

some_same : {A : Type 0} (x y : A) → Some x ≡ Some y → x ≡ y
some_same x y e = cc

-- HOW MANY RECORDS

abbrev pub doubts : Option Record → ℕ
doubts None = 0
doubts (Some r) = 1

doubts_are : (past : History) (d : Option Record) → in_doubt (option_map (counted_record past) d) ≡ doubts d
doubts_are past None = refl
doubts_are past (Some r) = refl

doubts_few : (d : Option Record) → doubts d ≤ 1
doubts_few None = omega arith
doubts_few (Some r) = omega arith

no_doubts : (d : Option Record) → d ≡ None → doubts d ≡ 0
no_doubts d e = ap doubts e

one_doubt : (d : Option Record) (r : Record) → d ≡ Some r → doubts d ≡ 1
one_doubt d r e = ap doubts e

pub records_are : (s : SlotState) → records (server s) ≡ (length s.past.admissions + taken s.past) + doubts s.doubt
records_are s = ap₂ (λ (n d : ℕ). (n + taken s.past) + d) (length-map s.past.admissions counted) (doubts_are s.past s.doubt)

-- a record that stands is one more
stood_counts : (r : Record) (h : History) → length (stood r h).admissions + taken (stood r h) ≡ (length h.admissions + taken h) + 1
stood_counts (Admits a) h = let more = length-append h.admissions (a ∷ []) in omega (arith, more)
stood_counts (Turns updates) h = let more = turn_takes h updates in omega (arith, more)

stands_counts : (s : SlotState) (r : Record) (t : SlotState) → Stands s r t → records (server t) ≤ (length s.past.admissions + taken s.past) + 1
stands_counts s r t is =
    let a = records_are t in
    let b = no_doubts t.doubt is.doubt in
    let c : length t.past.admissions + taken t.past ≡ length (stood r s.past).admissions + taken (stood r s.past) = ap (λ (x : History). length x.admissions + taken x) is.past in
    let d = stood_counts r s.past in
    omega (arith, a, b, c, d)

same_counts : (s t : SlotState) → t.past ≡ s.past → length t.past.admissions + taken t.past ≡ length s.past.admissions + taken s.past
same_counts s t e = ap (λ (x : History). length x.admissions + taken x) e

breaks_counts : (s : SlotState) (r : Record) (t : SlotState) → Breaks s r t → records (server t) ≤ (length s.past.admissions + taken s.past) + 1
breaks_counts s r t is =
    let a = records_are t in
    let b = doubts_few t.doubt in
    let c = same_counts s t is.past in
    omega (arith, a, b, c)

writes_count : (s : SlotState) (r : Record) (t : SlotState) → (Stands s r t ⊎ Breaks s r t) → records (server t) ≤ records (server s) + 1
writes_count s r t (inl is) = let a = stands_counts s r t is in let b = records_are s in omega (arith, a, b)
writes_count s r t (inr is) = let a = breaks_counts s r t is in let b = records_are s in omega (arith, a, b)

pub admit_counts : (s : SlotState) (a : Admission) (t : SlotState) → AdmitWrites s a t → records (server t) ≤ records (server s) + 1
admit_counts s a t (inl same) = let e : records (server t) ≡ records (server s) = ap (λ (x : SlotState). records (server x)) same in omega (arith, e)
admit_counts s a t (inr writes) = writes_count s (Admits a) t writes.1

pub turn_counts : (s t : SlotState) → TurnWrites s t → records (server t) ≤ records (server s) + 1
turn_counts s t (inl same) = let e : records (server t) ≡ records (server s) = ap (λ (x : SlotState). records (server x)) same in omega (arith, e)
turn_counts s t (inr writes) = writes_count s (Turns writes.0) t writes.2

-- a recovery adds none to those that there were with the doubt
pub recovery_counts : (s t : SlotState) → RecoveryWrites s t → records (server t) ≤ records (server s)
recovery_counts s t (inl writes) =
    let a = records_are s in
    let b = records_are t in
    let c = same_counts s t writes.0 in
    let d = no_more writes.2 in
    omega (arith, a, b, c, d)
  where
    no_more : ((t.doubt ≡ None) ⊎ (t.doubt ≡ s.doubt)) → doubts t.doubt ≤ doubts s.doubt
    no_more (inl none) = let e = no_doubts t.doubt none in omega (arith, e)
    no_more (inr same) = let e : doubts t.doubt ≡ doubts s.doubt = ap doubts same in omega (arith, e)
recovery_counts s t (inr writes) =
    let a = stands_counts s writes.0 t writes.2 in
    let b = records_are s in
    let c = one_doubt s.doubt writes.0 writes.1 in
    omega (arith, a, b, c)

-- SHORT OUTERS

all_push : (P : Admission → Type 0) (xs : List Admission) (a : Admission) → AllByRecursion P xs → P a → AllByRecursion P (xs ++ a ∷ [])
all_push P [] a all it = (it, tt)
all_push P (x ∷ xs) a all it = (all.0, all_push P xs a all.1 it)

stood_short : (r : Record) (h : History) → AllByRecursion (λ (a : Admission). IsShort a.outer) h.admissions → IsShortRecord r → AllByRecursion (λ (a : Admission). IsShort a.outer) (stood r h).admissions
stood_short (Admits a) h all short = all_push (λ (a : Admission). IsShort a.outer) h.admissions a all short
stood_short (Turns updates) h all short = all

-- ONE UNIT

module _ (f : FleetState) (is : IsFleet f) (u : UnitId) (s : SlotState) (at : slice_get f.slots u.0 ≡ Some s) where
  abbrev h : ℕ → History
  h = hist_of (units_of f.slots)

  lt : u.0 < length f.chart.units
  lt = in_chart f is u.0 s at

  -- what it holds its peers made
  pub old_held : (v j : ℕ) (update : Update) → v < length f.chart.units → held s v j ≡ Some update → IsMade f.chart h v u.0 j update
  old_held v j update lv e = is.sound.held u.0 v j update lt lv (ap (λ (x : UnitState). x.held v j) (unit_is f is u.0 s at) ∙ e)

  part_is : s.part ≡ part_of f.chart u.0
  part_is = (is.each u.0 s at).part

  past_here : h u.0 ≡ s.past
  past_here = past_is f is u.0 s at

  module _ (t : SlotState) where
    abbrev then : FleetState
    then = record f { slots = slice_set f.slots u.0 t }

    abbrev goes_to : Line → Bool → Reply → Type 0
    goes_to x stands r = act f.chart (machine_at f) stands x ≡ acted r (machine_of (slice_set (units_of f.slots) u.0 (unit_of t)) f.messages)

    -- its history stays
    pub keeps : (x : Line) (stands : Bool) (r : Reply) → goes_to x stands r → t.part ≡ s.part → t.past ≡ s.past → ((v j : ℕ) (update : Update) → v < length f.chart.units → held t v j ≡ Some update → IsMade f.chart h v u.0 j update) →
        ((q : Record) → t.doubt ≡ Some q → MayStand f.chart h u.0 q × IsShortRecord q) → Leads f x r then
    keeps x stands r goes part past made doubt =
        led f is u.0 s at t x stands r goes (kept_sound f is u.0 s at t part past made doubt) (kept_each f is u.0 s at t part past made doubt)

    -- nothing is done to it
    pub same_leads : (x : Line) (stands : Bool) (r : Reply) → goes_to x stands r → t ≡ s → Leads f x r then
    same_leads x stands r goes same =
        keeps x stands r goes (ap (λ (y : SlotState). y.part) same) (ap (λ (y : SlotState). y.past) same)
        (λ v j update lv e. old_held v j update lv (ap (λ (y : SlotState). held y v j) (sym same) ∙ e))
        (λ q e. (is.each u.0 s at).doubt q (ap (λ (y : SlotState). y.doubt) (sym same) ∙ e))

    -- no more is held, and nothing new is in doubt
    pub less_leads : (x : Line) (stands : Bool) (r : Reply) → goes_to x stands r → t.part ≡ s.part → t.past ≡ s.past → HoldsLess s t → ((t.doubt ≡ None) ⊎ (t.doubt ≡ s.doubt)) → Leads f x r then
    less_leads x stands r goes part past less doubt = keeps x stands r goes part past (λ v j update lv e. old_held v j update lv (less v j update e)) (may doubt)
      where
        may : ((t.doubt ≡ None) ⊎ (t.doubt ≡ s.doubt)) → (q : Record) → t.doubt ≡ Some q → MayStand f.chart h u.0 q × IsShortRecord q
        may (inl none) q e = absurd (none_some q (sym none ∙ e))
        may (inr same) q e = (is.each u.0 s at).doubt q (sym same ∙ e)

    stands_leads : (x : Line) (stands : Bool) (r : Reply) → goes_to x stands r → t.part ≡ s.part → (q : Record) → MayStand f.chart h u.0 q → IsShortRecord q → Stands s q t → Leads f x r then
    stands_leads x stands r goes part q may short writes =
        led f is u.0 s at t x stands r goes (stands_sound_here f is u.0 s at t part q may writes.past writes.held writes.doubt all_short) (stood_each f is u.0 s at t part q may writes.past writes.held writes.doubt all_short)
      where
        all_short : AllByRecursion (λ (a : Admission). IsShort a.outer) t.past.admissions
        all_short = let P : History → Type 0 = λ g. AllByRecursion (λ (a : Admission). IsShort a.outer) g.admissions in subst P (sym writes.past) (stood_short q s.past (is.each u.0 s at).short short)

    -- a record is written
    writes_lead : (x : Line) (stands : Bool) (r : Reply) → goes_to x stands r → t.part ≡ s.part → (q : Record) → MayStand f.chart h u.0 q → IsShortRecord q → (Stands s q t ⊎ Breaks s q t) → Leads f x r then
    writes_lead x stands r goes part q may short (inl writes) = stands_leads x stands r goes part q may short writes
    writes_lead x stands r goes part q may short (inr writes) = keeps x stands r goes part writes.past (λ v j update lv e. old_held v j update lv (writes.held v j update e)) (doubt writes.doubt)
      where
        doubt : ((t.doubt ≡ None) ⊎ (t.doubt ≡ Some q)) → (p : Record) → t.doubt ≡ Some p → MayStand f.chart h u.0 p × IsShortRecord p
        doubt (inl none) p e = absurd (none_some p (sym none ∙ e))
        doubt (inr some) p e = subst (λ (y : Record). MayStand f.chart h u.0 y × IsShortRecord y) (some_same q p (sym some ∙ e)) (may, short)

    -- ADMIT
    module _ (request : ℕ) (outer : Outer) where
      abbrev a : Admission
      a = record { request = request; outer = outer }

      lets_here : lets f.chart (machine_at f) u.0 outer ≡ lets_in s.part s.past outer
      lets_here =
          lets_is f.chart is.accepted (units_of f.slots) f.messages (count_units f is u.0 s at) is.sound u.0 lt outer
          ∙ ap₂ (λ (p : PartData) (x : History). lets_in p x outer) (sym part_is) past_here

      may_admit : lets_in s.part s.past outer ≡ Ok tt → MayStand f.chart h u.0 (Admits a)
      may_admit lets_ok = ap (λ (x : Result (Unit {0}) OuterFault). is_ok x) (ap₂ (λ (p : PartData) (x : History). lets_in p x outer) (sym part_is) past_here ∙ lets_ok)

      module _ (r : Reply) (answer : admit_by (bar_at s.health) (asked request (server s).admissions) (lets_in s.part s.past outer) (server s) (record { request = request; outer = outer }) ≡ (r, server t)) where
        admit_goes : (stands : Bool) → goes_to (line.Admit u request outer) stands r
        admit_goes stands =
            admit_is f.chart (units_of f.slots) f.messages u (unit_of s) (at_units f is u.0 s at) stands request outer r (unit_of t)
            (ap (λ (may : Result (Unit {0}) OuterFault). admit_by (bar_at s.health) (asked request (server s).admissions) may (server s) (record { request = request; outer = outer })) lets_here ∙ answer)

        pub admit_leads : AdmitWrites s a t → Goes 4 s t → Leads f (line.Admit u request outer) r then
        admit_leads (inl same) goes = same_leads (line.Admit u request outer) true r (admit_goes true) same
        admit_leads (inr writes) goes = writes_lead (line.Admit u request outer) true r (admit_goes true) goes.part (Admits a) (may_admit writes.0.lets) writes.0.short writes.1

    pub admit_wears : (a : Admission) → AdmitWrites s a t → Goes 4 s t → WearsOne u.0 f then
    admit_wears a writes goes = wears_one f is u.0 s at t (step_wears s t goes.clock (admit_counts s a t writes))

    -- TURN
    peers_here : peers s.part.units s.part.unit.0 ≡ peers (length f.chart.units) u.0
    unfolding part_of
    peers_here = ap (λ (p : PartData). peers p.units p.unit.0) part_is

    may_turn : (updates : List Update) → gather (λ v. held s v (suc (taken s.past))) (peers s.part.units s.part.unit.0) ≡ Some updates → MayStand f.chart h u.0 (Turns updates)
    may_turn updates all =
        turn_may f.chart is.accepted (plain f.chart is.accepted (units_of f.slots) (count_units f is u.0 s at) is.sound) u.0 updates lt (plain_sound f.chart is.accepted (units_of f.slots) (count_units f is u.0 s at) is.sound)
        (ap (λ (x : UnitState). gather (λ v. x.held v (suc (taken x.past))) (peers (length f.chart.units) u.0)) (unit_is f is u.0 s at)
        ∙ ap (gather (λ v. held s v (suc (taken s.past)))) (sym peers_here)
        ∙ all)

    absent_here : filter (λ v. not (is_some (held s v (taken s.past + 1)))) (filter (λ v. not (v == u.0)) (range_with_len 0 (length (units_of f.slots)))) ≡ absent s
    unfolding part_of
    absent_here =
        ap (λ (n : ℕ). filter (λ v. not (is_some (held s v (taken s.past + 1)))) (filter (λ v. not (v == u.0)) (range_with_len 0 n))) (count_units f is u.0 s at)
        ∙ ap (λ (p : PartData). filter (λ v. not (is_some (held s v (taken s.past + 1)))) (filter (λ v. not (v == p.unit.0)) (range_with_len 0 p.units))) (sym part_is)

    module _ (r : TurnReply) (answer : turn_by (bar_at s.health) (absent s) (server s) ≡ (r, server t)) where
      turn_goes : (stands : Bool) → goes_to (line.Turn u) stands (reply.Turned r)
      turn_goes stands =
          turn_is f.chart (units_of f.slots) f.messages u (unit_of s) (at_units f is u.0 s at) stands r (unit_of t)
          (ap (λ (vs : List ℕ). turn_by (bar_at s.health) vs (server s)) absent_here ∙ answer)

      pub turn_leads : TurnWrites s t → Goes 4 s t → Leads f (line.Turn u) (reply.Turned r) then
      turn_leads (inl same) goes = same_leads (line.Turn u) true (reply.Turned r) (turn_goes true) same
      turn_leads (inr writes) goes = writes_lead (line.Turn u) true (reply.Turned r) (turn_goes true) goes.part (Turns writes.0) (may_turn writes.0 writes.1) tt writes.2

    pub turn_wears : TurnWrites s t → Goes 4 s t → WearsOne u.0 f then
    turn_wears writes goes = wears_one f is u.0 s at t (step_wears s t goes.clock (turn_counts s t writes))

    -- RECOVER
    recovery_leads : (x : Line) (stands : Bool) (r : Reply) → goes_to x stands r → t.part ≡ s.part → RecoveryWrites s t → Leads f x r then
    recovery_leads x stands r goes part (inl writes) = less_leads x stands r goes part writes.0 writes.1 writes.2
    recovery_leads x stands r goes part (inr writes) =
        let may = (is.each u.0 s at).doubt writes.0 writes.1 in
        stands_leads x stands r goes part writes.0 may.0 may.1 writes.2

    pub recover_leads : (r : Reply) → RecoverAnswers s r t → RecoveryWrites s t → Goes 1 s t → Leads f (line.Recover u) r then
    recover_leads r answer writes goes =
        let stands = answer.0 in
        recovery_leads (line.Recover u) stands r
        (recover_is f.chart (units_of f.slots) f.messages u (unit_of s) (at_units f is u.0 s at) stands answer.1 (unit_of t) answer.2
        ∙ ap (λ (q : Reply). acted q (machine_of (slice_set (units_of f.slots) u.0 (unit_of t)) f.messages)) (sym answer.3))
        goes.part writes

    pub recover_wears : RecoveryWrites s t → Goes 1 s t → WearsOne u.0 f then
    recover_wears writes goes =
        let clock = goes.clock in
        let few = recovery_counts s t writes in
        wears_one f is u.0 s at t (step_wears s t (omega (arith, clock)) (omega (arith, few)))

    -- CRASH
    fallen_less : (x : SlotState) → HoldsLess x (fallen x)
    fallen_less x v step update = go (step == taken x.past + 1) (step == taken x.past + 2)
      where
        go : (b c : Bool) → cond b None (cond c None None) ≡ Some update → held x v step ≡ Some update
        go true c e = absurd (none_some update e)
        go false true e = absurd (none_some update e)
        go false false e = absurd (none_some update e)

    down_or_up : (x : Health) → (x ≡ IsDown) ⊎ (x ≢ IsDown)
    down_or_up Works = inr (λ e. cc)
    down_or_up Failed = inr (λ e. cc)
    down_or_up IsDown = inl refl

    module _ (fell : s.health ≢ IsDown → t ≡ fallen s) (stays : s.health ≡ IsDown → t ≡ s) where
      pub crash_leads : (outcome : Outcome) (r : Reply) → crash_by s.health (server s) ≡ (r, server t) → Leads f (line.Crash u outcome) r then
      crash_leads outcome r answer = go (down_or_up s.health)
        where
          goes : goes_to (line.Crash u outcome) true r
          goes = crash_is f.chart (units_of f.slots) f.messages u (unit_of s) (at_units f is u.0 s at) true outcome r (unit_of t) answer

          less : t ≡ fallen s → HoldsLess s t
          less e v step update at_t = fallen_less s v step update (ap (λ (x : SlotState). held x v step) (sym e) ∙ at_t)

          go : ((s.health ≡ IsDown) ⊎ (s.health ≢ IsDown)) → Leads f (line.Crash u outcome) r then
          go (inl is_down) = same_leads (line.Crash u outcome) true r goes (stays is_down)
          go (inr up) =
              let e = fell up in
              less_leads (line.Crash u outcome) true r goes (ap (λ (x : SlotState). x.part) e) (ap (λ (x : SlotState). x.past) e) (less e) (inr (ap (λ (x : SlotState). x.doubt) e))

      pub crash_wears : WearsOne u.0 f then
      crash_wears = go (down_or_up s.health)
        where
          go : ((s.health ≡ IsDown) ⊎ (s.health ≢ IsDown)) → WearsOne u.0 f then
          go (inl is_down) =
              let clock : t.clock ≡ s.clock = ap (λ (x : SlotState). x.clock) (stays is_down) in
              let same : records (server t) ≡ records (server s) = ap (λ (x : SlotState). records (server x)) (stays is_down) in
              wears_one f is u.0 s at t (step_wears s t (omega (arith, clock)) (omega (arith, same)))
          go (inr up) =
              let clock : t.clock ≡ s.clock = ap (λ (x : SlotState). x.clock) (fell up) in
              let same : records (server t) ≡ records (server s) = ap (λ (x : SlotState). records (server x)) (fell up) in
              wears_one f is u.0 s at t (step_wears s t (omega (arith, clock)) (omega (arith, same)))

    -- ARM
    module _ (n : ℕ) (what : Arm) (new : t ≡ record s { fuse = Some (record { left = n; what = what }) }) where
      pub arm_leads : Leads f (line.Arm u n what) reply.Armed then
      arm_leads =
          less_leads (line.Arm u n what) true reply.Armed
          (arm_is f.chart (units_of f.slots) f.messages u (unit_of s) (at_units f is u.0 s at) true n what
          ∙ ap (λ (x : SlotState). acted reply.Armed (machine_of (slice_set (units_of f.slots) u.0 (unit_of x)) f.messages)) (sym new))
          (ap (λ (x : SlotState). x.part) new) (ap (λ (x : SlotState). x.past) new)
          (λ v step update e. ap (λ (x : SlotState). held x v step) (sym new) ∙ e)
          (inr (ap (λ (x : SlotState). x.doubt) new))

      pub arm_wears : WearsOne u.0 f then
      arm_wears =
          let clock : t.clock ≡ s.clock = ap (λ (x : SlotState). x.clock) new in
          let same : records (server t) ≡ records (server s) = ap (λ (x : SlotState). records (server x)) new in
          wears_one f is u.0 s at t (step_wears s t (omega (arith, clock)) (omega (arith, same)))
