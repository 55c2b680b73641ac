-- How a unit is recovered.
use Rattle.std.proofs.Common.{◌≡◌, ◌⊎◌, inl, inr, ℕ, ◌+◌, ◌-◌, ◌^◌, ◌<◌, ◌≤◌, Bool, true, false, List, length, Option, Some, None, option_map, refl, sym, ap, ap₂, ◌∙◌, subst, arith}
use Rattle.wf_model.specs.Faults.{last_count}
use Rattle.wf_model.specs.declared.update.Update.{Update}
use Rattle.wf_disk.specs.Disk.{IsDown, LeavesOnly}
use Rattle.wf_disk.specs.Memory.{Held, told_of, image_of}
use Rattle.wf_disk.specs.MemoryLaws.{lawful_memory}
use Rattle.wf_journal.specs.Plan.{WentOn, Struck}
use Rattle.wf_parts.specs.declared.data.PartData.{PartData}
use Rattle.wf_machine.specs.declared.reply.Reply.{Reply}
use Rattle.wf_machine.specs.declared.reply.Reply.TheVariants as reply
use Rattle.wf_machine.specs.Bars.{bar_of, barred}
use Rattle.wf_machine.specs.Strokes.{Fuse, Done, SetOff, strokes}
use Rattle.wf_machine.specs.Server.{Health, IsDown as Fell, recovered}
use Rattle.wf_histories.specs.Histories.{History, taken}
use Rattle.wf_worlds.specs.Worlds.{Record, stood}
use Rattle.wf_steps.specs.Room.{Kept as KeptHistory}
use Rattle.wf_server.specs.declared.fault.NodeFault.{NodeFault}
use Rattle.wf_server.specs.declared.fault.NodeFault.TheVariants as faults
use Rattle.wf_server.specs.Servers.{Server}
use Rattle.wf_server.specs.Images.{Holds, IsLike, HoldsOneOf}
use Rattle.wf_server.specs.Starting.{IsStarted, Reopens, StaysShut}
use Rattle.wf_slot.specs.declared.fuse.Fuse.{Fuse as Kept}
use Rattle.wf_slot.specs.declared.slot.Doubt.{Doubt}
use Rattle.wf_slot.specs.declared.slot.Doubt.TheVariants as doubts
use Rattle.wf_slot.specs.declared.slot.Remains.{Remains}
use Rattle.wf_slot.specs.declared.slot.Seat.{Seat}
use Rattle.wf_slot.specs.declared.slot.Seat.TheVariants.{Up, Down}
use Rattle.wf_slot.specs.declared.slot.recovery.Shut.{Shut}
use Rattle.wf_slot.specs.Units.{UnitState, server_of, down}
use Rattle.wf_slot.specs.Fuses.{fuse_of, IsFused}
use Rattle.wf_slot.specs.Slots.{SlotState, held, counted_record, unit_of, server, fallen}
use Rattle.wf_slot.specs.Answers.{Goes, HoldsLess, RecoveryWrites, RecoverAnswers}
use Rattle.wf_slot.specs.Seats.{record_of, doubt_of, health_by, state_of, MayHold, IsKept, IsSlot}
use Rattle.wf_slot.specs.Reopening.{IsPastOf, HoldsSome, Opens, StaysDown}
use Rattle.wf_slot.proofs.Fuses.{burnt, burns}
use Rattle.wf_slot.proofs.Units.{risen, rose, rose_without, rose_admitted, rose_turned, recovery_broke}
use Rattle.wf_slot.proofs.Seats.{sits, none_is, fallen_holds, fallen_less}
use Rattle.wf_slot.proofs.Disks.{is_longer, still_fused, had_arm, hit_by}

-- WHAT AN IMAGE HOLDS

like_holds : (part : PartData) (past : History) (image file : List ℕ) → IsLike part image file → Holds part past image → Holds part past file
like_holds part past image file like holds = record { begun = like.begun holds.begun; starts = like.starts holds.starts; history = like.history ∙ holds.history }

like_may : (part : PartData) (past : History) (doubt : Option Doubt) (image file : List ℕ) → IsLike part image file → MayHold part past doubt image → MayHold part past doubt file
like_may part past None image file like may = like_holds part past image file like may
like_may part past (Some d) image file like (inl may) = inl (like_holds part past image file like may)
like_may part past (Some d) image file like (inr may) = inr (like_holds part (stood (record_of d) past) image file like may)

held_past : (part : PartData) (past : History) (doubt : Option Doubt) (image : List ℕ) → MayHold part past doubt image → (then : History) × Holds part then image × IsPastOf past doubt then
held_past part past None image may = (past, may, refl)
held_past part past (Some d) image (inl may) = (past, may, inl refl)
held_past part past (Some d) image (inr may) = (stood (record_of d) past, may, inr refl)

-- WHAT IS LEFT of a unit that is up and stopped with no crash
module _ (seat : Seat) (node : Server Held) (is : seat ≡ Up node) (r : Remains) (part : r.part ≡ node.part) (past : r.past.past ≡ node.past) (disk : r.disk ≡ node.journal.disk) (fuse : Option Kept) (doubt : Option Doubt) where
  pub left_slot : taken node.past < 2 ^ 32 → IsSlot seat fuse doubt → IsSlot (Down r) fuse doubt
  left_slot few kept =
      let was = sits seat (Up node) fuse doubt is kept in (
        subst (λ (p : PartData). IsKept p r.past.past r.disk fuse doubt) (sym part)
            (subst (λ (h : History). IsKept node.part h r.disk fuse doubt) (sym past)
            (subst (λ (d : Held). IsKept node.part node.past d fuse doubt) (sym disk) was.0)),
        subst (λ (h : History). taken h < 2 ^ 32) (sym past) few,
      )

  pub left_state : state_of (Down r) fuse doubt ≡ fallen (state_of seat fuse doubt)
  left_state =
      ap₂ (λ (p : PartData) (h : History). record (state_of (Down r) fuse doubt) { part = p; past = h }) part past
      ∙ ap (λ (c : ℕ). record (state_of (Down r) fuse doubt) { part = node.part; past = node.past; clock = c }) (ap (λ (d : Held). d.clock) disk)
      ∙ sym (ap (λ (s : Seat). fallen (state_of s fuse doubt)) is)

-- one that is down stays as it is
module _ (seat : Seat) (r : Remains) (is : seat ≡ Down r) (fuse : Option Kept) (doubt : Option Doubt) where
  pub same_slot : IsSlot seat fuse doubt → IsSlot (Down r) fuse doubt
  same_slot kept = sits seat (Down r) fuse doubt is kept

  pub same_state : state_of (Down r) fuse doubt ≡ fallen (state_of seat fuse doubt)
  same_state = sym (ap (λ (s : Seat). fallen (state_of s fuse doubt)) is)

-- IT STARTED AGAIN
module _ (remains : Remains) (fuse : Option Kept) (doubt : Option Doubt) (kept : IsKept remains.part remains.past.past remains.disk fuse doubt) where
  holds_now : (then : History) × Holds remains.part then (image_of remains.disk) × IsPastOf remains.past.past doubt then
  holds_now = held_past remains.part remains.past.past doubt (image_of remains.disk) (kept.leaves (image_of remains.disk) ((lawful_memory remains.disk).stands (image_of remains.disk) refl))

  pub opens : (node : Server Held) → IsStarted remains.part node →
      ((past : History) (file : List ℕ) → (told_of remains.disk).image ≡ Some file → Holds remains.part past file → Reopens (told_of remains.disk) (told_of node.journal.disk) past node.past) →
      (node.journal.failed ≡ false → (file : List ℕ) → (told_of node.journal.disk).image ≡ Some file → (c : List ℕ) → (told_of node.journal.disk).may_leave c → Holds node.part node.past c) →
      Opens remains fuse doubt node
  opens node started reopens stands =
      let now = holds_now in
      let did = reopens now.0 (image_of remains.disk) refl now.1 in
      record {
        part = started.part_is;
        past = subst (λ (h : History). IsPastOf remains.past.past doubt h) (sym did.history) now.2;
        healthy = started.healthy;
        empty = started.empty;
        clock = did.clock;
        longer = is_longer remains.disk node.journal.disk 1 did.went_on did.clock fuse kept.fused;
        fused = λ rest met. still_fused remains.disk node.journal.disk 1 did.went_on did.clock (fuse_of fuse) rest kept.fused met;
        leaves = stands started.healthy (image_of node.journal.disk) refl;
      }

-- a disk that has a fuse isn't down
not_down : (disk : Held) (fuse : Option Fuse) → IsFused (told_of disk) fuse → disk.clock + 2 ≤ last_count → IsDown (told_of disk) → ⊥
not_down disk None lit early down_now = lit.none (disk.clock + 1) (omega arith) (omega (arith, early)) (down_now (disk.clock + 1) (omega arith))
not_down disk (Some f) lit early down_now =
    let one : disk.clock + 1 ≡ disk.clock + f.left = lit.only (disk.clock + 1) (omega arith) (omega (arith, early)) (down_now (disk.clock + 1) (omega arith)) in
    let two : disk.clock + 2 ≡ disk.clock + f.left = lit.only (disk.clock + 2) (omega arith) (omega (arith, early)) (down_now (disk.clock + 2) (omega arith)) in
    absurd (omega (arith, one, two))

-- IT DIDN'T
module _ (remains : Remains) (fuse : Option Kept) (doubt : Option Doubt) (kept : IsKept remains.part remains.past.past remains.disk fuse doubt) (early : remains.disk.clock + 2000 ≤ last_count) (disk : Held) (fault : NodeFault)
    (shut : (past : History) (file : List ℕ) → (told_of remains.disk).image ≡ Some file → Holds remains.part past file → StaysShut (told_of remains.disk) (told_of disk) fault)
    (crash : (file : List ℕ) → (told_of remains.disk).image ≡ Some file → LeavesOnly (told_of remains.disk) (told_of disk) (HoldsOneOf remains.part (told_of remains.disk).may_leave)) where
  stays : StaysShut (told_of remains.disk) (told_of disk) fault
  stays = let now = holds_now remains fuse doubt kept in shut now.0 (image_of remains.disk) refl now.1

  pub shut_within : disk.clock ≤ remains.disk.clock + 1
  shut_within = stays.runs.within

  pub shut_leaves : (file : List ℕ) → (told_of disk).may_leave file → MayHold remains.part remains.past.past doubt file
  shut_leaves file may =
      let leaves = crash (image_of remains.disk) refl in
      let one = leaves.each file ((lawful_memory disk).counts_now (told_of remains.disk).moment leaves.later file may) in
      like_may remains.part remains.past.past doubt one.0 file one.2 (kept.leaves one.0 one.1)

  by_fuse : Struck (told_of remains.disk) (told_of disk) 1 → (o : Option Kept) → fuse ≡ o → (f : Kept) × (fuse ≡ Some f) × (strokes 1 (fuse_of fuse) ≡ SetOff f.left f.what)
  by_fuse struck None is = absurd (had_arm remains.disk disk 1 struck (omega (arith, early)) fuse kept.fused is)
  by_fuse struck (Some f) is = (f, is, (hit_by remains.disk disk 1 struck (omega (arith, early)) fuse f kept.fused is).met)

  went_by : Struck (told_of remains.disk) (told_of disk) 1 ⊎ (WentOn (told_of remains.disk) (told_of disk) × IsDown (told_of disk)) → (f : Kept) × (fuse ≡ Some f) × (strokes 1 (fuse_of fuse) ≡ SetOff f.left f.what)
  went_by (inl struck) = by_fuse struck fuse refl
  went_by (inr down_now) =
      let later = down_now.0.later in
      let within = shut_within in
      let clock : disk.clock ≡ remains.disk.clock + (disk.clock - remains.disk.clock) = omega (arith, later) in
      let did = burns (told_of remains.disk) (told_of disk) (disk.clock - remains.disk.clock) (image_of remains.disk) refl down_now.0 clock (fuse_of fuse) kept.fused in
      absurd (not_down disk (burnt (disk.clock - remains.disk.clock) (fuse_of fuse)) did.1 (omega (arith, within, early)) down_now.1)

  pub shut_went_off : fault ≡ faults.DiskFailed → (f : Kept) × (fuse ≡ Some f) × (strokes 1 (fuse_of fuse) ≡ SetOff f.left f.what)
  shut_went_off is = went_by (stays.runs.struck is)

-- THE UNIT AFTER IT

module _ (old : SlotState) (remains : Remains) (fuse : Option Kept) (doubt : Option Doubt) (same : state_of (Down remains) fuse doubt ≡ fallen old) where
  part_is : remains.part ≡ old.part
  part_is = ap (λ (s : SlotState). s.part) same

  past_is : remains.past.past ≡ old.past
  past_is = ap (λ (s : SlotState). s.past) same

  clock_is : remains.disk.clock ≡ old.clock
  clock_is = ap (λ (s : SlotState). s.clock) same

  fuse_is : old.fuse ≡ fuse_of fuse
  fuse_is = sym (ap (λ (s : SlotState). s.fuse) same)

  doubt_is : old.doubt ≡ doubt_of doubt
  doubt_is = sym (ap (λ (s : SlotState). s.doubt) same)

  counted_is : (unit_of old).doubt ≡ option_map (counted_record old.past) (doubt_of doubt)
  counted_is = ap (option_map (counted_record old.past)) doubt_is

  -- it is up again
  module _ (node : Server Held) (is : Opens remains fuse doubt node) (rest : Option Kept) (met : strokes 1 (fuse_of fuse) ≡ Done (fuse_of rest)) where
    abbrev risen_now : SlotState
    risen_now = state_of (Up node) rest None

    met_old : strokes 1 old.fuse ≡ Done (fuse_of rest)
    met_old = ap (strokes 1) fuse_is ∙ met

    past_now : IsPastOf old.past doubt node.past
    past_now = subst (λ (h : History). IsPastOf h doubt node.past) past_is is.past

    rises : (d : Option Doubt) → (unit_of old).doubt ≡ option_map (counted_record old.past) (doubt_of d) → IsPastOf old.past d node.past →
        (stands : Bool) × (recovered stands (server old) ≡ (None, server_of (risen (unit_of old) node.past (fuse_of rest))))
    rises None counted e = (false, rose false (unit_of old) (fuse_of rest) met_old counted ∙ ap (λ (h : History). (None, server_of (risen (unit_of old) h (fuse_of rest)))) (sym e))
    rises (Some d) counted (inl e) =
        (false, rose_without (unit_of old) (counted_record old.past (record_of d)) (fuse_of rest) met_old counted ∙ ap (λ (h : History). (None, server_of (risen (unit_of old) h (fuse_of rest)))) (sym e))
    rises (Some (doubts.Admits a)) counted (inr e) =
        (true, rose_admitted (unit_of old) a (fuse_of rest) met_old counted ∙ ap (λ (h : History). (None, server_of (risen (unit_of old) h (fuse_of rest)))) (sym e))
    rises (Some (doubts.Turns updates)) counted (inr e) =
        (true, rose_turned (unit_of old) updates (fuse_of rest) met_old counted ∙ ap (λ (h : History). (None, server_of (risen (unit_of old) h (fuse_of rest)))) (sym e))

    risen_unit : unit_of risen_now ≡ risen (unit_of old) node.past (fuse_of rest)
    risen_unit =
        ap₂ (λ (health : Health) (h : ℕ → ℕ → Option Update). record (risen (unit_of old) node.past (fuse_of rest)) { health = health; held = h })
        (ap health_by is.healthy) (none_is (held risen_now) is.empty)

    pub up_answers : RecoverAnswers old (reply.Recovered (taken node.past) (length node.past.admissions)) risen_now
    up_answers =
        let did = rises doubt counted_is past_now in
        (did.0, None, did.1 ∙ ap (λ (u : UnitState). (None, server_of u)) (sym risen_unit), refl)

    no_update : (update : Update) → None ≡ Some update → ⊥
    no_update update e = cc

    less : HoldsLess old risen_now
    less v j update e = absurd (no_update update (sym (is.empty v j) ∙ e))

    writes_by : (d : Option Doubt) → old.doubt ≡ doubt_of d → IsPastOf old.past d node.past → RecoveryWrites old risen_now
    writes_by None is_doubt e = inl (e, less, inl refl)
    writes_by (Some d) is_doubt (inl e) = inl (e, less, inl refl)
    writes_by (Some d) is_doubt (inr e) = inr (record_of d, is_doubt, record { past = e; held = less; doubt = refl })

    pub up_writes : RecoveryWrites old risen_now
    up_writes = writes_by doubt doubt_is past_now

    pub up_goes : Goes 1 old risen_now
    up_goes = let one = is.clock in let before = clock_is in record { part = is.part ∙ part_is; clock = omega (arith, one, before) }

    pub up_slot : IsSlot (Up node) rest None
    up_slot = (record { fused = is.fused (fuse_of rest) met; leaves = is.leaves }, λ works. refl)

  -- it isn't
  module _ (shut : Shut) (is : StaysDown remains fuse doubt shut) where
    abbrev down_now : SlotState
    down_now = state_of (Down shut.remains) None doubt

    part_now : shut.remains.part ≡ old.part
    part_now = is.part ∙ part_is

    now_past : shut.remains.past.past ≡ old.past
    now_past = ap (λ (k : KeptHistory). k.past) is.past ∙ past_is

    down_state : down_now ≡ record (fallen old) { clock = shut.remains.disk.clock; fuse = None }
    down_state =
        ap₂ (λ (part : PartData) (past : History). record (fallen old) { part = part; clock = shut.remains.disk.clock; past = past; fuse = None; doubt = doubt_of doubt }) part_now now_past
        ∙ ap (λ (d : Option Record). record (fallen old) { clock = shut.remains.disk.clock; fuse = None; doubt = d }) (sym doubt_is)

    down_unit : unit_of (record (fallen old) { clock = shut.remains.disk.clock; fuse = None }) ≡ record (down (unit_of old)) { fuse = None }
    down_unit = ap (λ (h : ℕ → ℕ → Option Update). record (unit_of old) { health = Fell; held = h; fuse = None }) (none_is (held (fallen old)) (fallen_holds old))

    pub down_answers : (f : Kept) → strokes 1 (fuse_of fuse) ≡ SetOff f.left f.what → RecoverAnswers old (barred (bar_of f.what)) down_now
    down_answers f met = (
      false,
      Some (bar_of f.what),
      recovery_broke false (unit_of old) f.left f.what (ap (strokes 1) fuse_is ∙ met)
          ∙ ap (λ (u : UnitState). (Some (bar_of f.what), server_of u)) (sym (ap unit_of down_state ∙ down_unit)),
      refl,
    )

    pub down_writes : RecoveryWrites old down_now
    down_writes = let P : SlotState → Type 0 = λ s. RecoveryWrites old s in subst P (sym down_state) (inl (refl, fallen_less old, inr refl))

    pub down_goes : Goes 1 old down_now
    down_goes = let most = is.clock in let before = clock_is in record { part = part_now; clock = omega (arith, most, before) }

    pub down_slot : taken remains.past.past < 2 ^ 32 → IsSlot (Down shut.remains) None doubt
    down_slot few = (
      record {
        fused = is.unarmed;
        leaves = λ file may. let P : PartData → History → Type 0 = λ part past. MayHold part past doubt file in
            subst (λ (part : PartData). P part shut.remains.past.past) (sym is.part) (subst (λ (past : History). P remains.part past) (sym (ap (λ (k : KeptHistory). k.past) is.past)) (is.leaves file may));
      },
      subst (λ (past : History). taken past < 2 ^ 32) (sym (ap (λ (k : KeptHistory). k.past) is.past)) few,
    )

-- AS A CALL FINDS IT, whose seat is empty meanwhile

module _ (seat out : Seat) (fuse : Option Kept) (doubt : Option Doubt) (now : SlotState) (view : state_of seat fuse doubt ≡ now) (kept : IsSlot seat fuse doubt) (is_out : out ≡ seat) (r : Remains)
    (keeps : (f : Option Kept) (d : Option Doubt) → IsSlot out f d → IsSlot (Down r) f d) (states : (f : Option Kept) (d : Option Doubt) → state_of (Down r) f d ≡ fallen (state_of out f d)) where
  pub kept_here : IsSlot (Down r) fuse doubt
  kept_here = keeps fuse doubt (subst (λ (s : Seat). IsSlot s fuse doubt) (sym is_out) kept)

  same_here : state_of (Down r) fuse doubt ≡ fallen now
  same_here = states fuse doubt ∙ ap (λ (s : Seat). fallen (state_of s fuse doubt)) is_out ∙ ap fallen view

  pub holds_here : HoldsSome r
  holds_here = let some = holds_now r fuse doubt kept_here.0 in (some.0, some.1)

  pub early_here : now.clock + 2000 ≤ last_count → r.disk.clock + 2000 ≤ last_count
  early_here early = let same : r.disk.clock ≡ now.clock = ap (λ (s : SlotState). s.clock) same_here in omega (arith, early, same)

  -- it is up again
  module _ (node : Server Held) (is : Opens r fuse doubt node) (rest : Option Kept) (met : strokes 1 (fuse_of fuse) ≡ Done (fuse_of rest)) (place : Seat) (sits_there : place ≡ Up node) where
    there : state_of place rest None ≡ state_of (Up node) rest None
    there = ap (λ (s : Seat). state_of s rest None) sits_there

    pub rose_slot : IsSlot place rest None
    rose_slot = subst (λ (s : Seat). IsSlot s rest None) (sym sits_there) (up_slot now r fuse doubt same_here node is rest met)

    pub rose_answers : (k n : ℕ) → k ≡ taken node.past → n ≡ length node.past.admissions → RecoverAnswers now (reply.Recovered k n) (state_of place rest None)
    rose_answers k n k_is n_is =
        let P : ℕ → ℕ → SlotState → Type 0 = λ x y s. RecoverAnswers now (reply.Recovered x y) s in
        subst (λ (x : ℕ). P x n (state_of place rest None)) (sym k_is)
        (subst (λ (y : ℕ). P (taken node.past) y (state_of place rest None)) (sym n_is)
        (subst (λ (s : SlotState). P (taken node.past) (length node.past.admissions) s) (sym there) (up_answers now r fuse doubt same_here node is rest met)))

    pub rose_writes : RecoveryWrites now (state_of place rest None)
    rose_writes = subst (λ (s : SlotState). RecoveryWrites now s) (sym there) (up_writes now r fuse doubt same_here node is rest met)

    pub rose_goes : Goes 1 now (state_of place rest None)
    rose_goes = subst (λ (s : SlotState). Goes 1 now s) (sym there) (up_goes now r fuse doubt same_here node is rest met)

  -- it isn't
  module _ (shut : Shut) (is : StaysDown r fuse doubt shut) (place : Seat) (sits_there : place ≡ Down shut.remains) (rest : Option Kept) (burnt_out : rest ≡ None) where
    lost : state_of place rest doubt ≡ state_of (Down shut.remains) None doubt
    lost = ap₂ (λ (s : Seat) (f : Option Kept). state_of s f doubt) sits_there burnt_out

    pub lost_slot : IsSlot place rest doubt
    lost_slot =
        let P : Seat → Option Kept → Type 0 = λ s f. IsSlot s f doubt in
        subst (λ (s : Seat). P s rest) (sym sits_there) (subst (λ (f : Option Kept). P (Down shut.remains) f) (sym burnt_out) (down_slot now r fuse doubt same_here shut is kept_here.1))

    pub had_one : shut.failed ≡ true → fuse ≡ None → ⊥
    had_one failed none = let off = is.went_off failed in no_kept off.0 (sym none ∙ off.1)
      where
        no_kept : (f : Kept) → None ≡ Some f → ⊥
        no_kept f e = cc

    pub lost_answers : shut.failed ≡ true → (hit : Kept) → fuse ≡ Some hit → (reply_now : Reply) → reply_now ≡ barred (bar_of hit.what) → RecoverAnswers now reply_now (state_of place rest doubt)
    lost_answers failed hit hit_is reply_now reply_is =
        let off = is.went_off failed in
        let f_is : off.0 ≡ hit = kept_is off.0 hit (sym off.1 ∙ hit_is) in
        let P : Reply → SlotState → Type 0 = λ x s. RecoverAnswers now x s in
        subst (λ (x : Reply). P x (state_of place rest doubt)) (sym reply_is)
        (subst (λ (s : SlotState). P (barred (bar_of hit.what)) s) (sym lost)
        (subst (λ (f : Kept). P (barred (bar_of f.what)) (state_of (Down shut.remains) None doubt)) f_is (down_answers now r fuse doubt same_here shut is off.0 off.2)))
      where
        kept_is : (a b : Kept) → Some a ≡ Some b → a ≡ b
        kept_is a b e = cc

    pub lost_writes : RecoveryWrites now (state_of place rest doubt)
    lost_writes = subst (λ (s : SlotState). RecoveryWrites now s) (sym lost) (down_writes now r fuse doubt same_here shut is)

    pub lost_goes : Goes 1 now (state_of place rest doubt)
    lost_goes = subst (λ (s : SlotState). Goes 1 now s) (sym lost) (down_goes now r fuse doubt same_here shut is)
