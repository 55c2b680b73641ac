-- A write that broke off: where the unit sits after it, and what may stand.
use Rattle.std.proofs.Common.{◌≡◌, ℕ, ◌^◌, ◌<◌, nat_lt, if◌then◌else◌, Bool, true, false, List, Option, Some, None, refl, sym, ap, ap₂, ◌∙◌, subst, arith, rules, true≢false}
use Rattle.wf_disk.specs.declared.arm.Arm.{Arm}
use Rattle.wf_disk.specs.declared.arm.Outcome.{Outcome}
use Rattle.wf_disk.specs.declared.arm.Arm.TheVariants.{Fail, Crash}
use Rattle.wf_disk.specs.Memory.{Held, told_of}
use Rattle.wf_parts.specs.declared.data.PartData.{PartData}
use Rattle.wf_machine.specs.Server.{Health, doubted}
use Rattle.wf_histories.specs.Histories.{History, taken}
use Rattle.wf_worlds.specs.Worlds.{Record, stood}
use Rattle.wf_server.specs.Servers.{Server}
use Rattle.wf_server.specs.Images.{Holds, HoldsEither}
use Rattle.wf_slot.specs.declared.fuse.Fuse.{Fuse as Kept}
use Rattle.wf_slot.specs.declared.slot.Doubt.{Doubt}
use Rattle.wf_slot.specs.declared.slot.Remains.{Remains}
use Rattle.wf_slot.specs.declared.slot.Seat.{Seat}
use Rattle.wf_slot.specs.declared.slot.Seat.TheVariants.{Up, Down}
use Rattle.wf_slot.specs.Slots.{fallen}
use Rattle.wf_slot.specs.Seats.{record_of, doubt_of, health_by, state_of, MayHold, IsSlot}
use Rattle.wf_slot.specs.Answers.{Goes}
use Rattle.wf_slot.specs.Fuses.{is_crash, IsUnarmed}
use Rattle.wf_slot.specs.Writes.{up, struck_at, BrokeOff, IsLeftOf, BreaksTo}

-- WHAT MAY STAND

no_record : (r : Record) → None ≡ Some r → ⊥
no_record r e = cc

record_is : (a b : Record) → Some a ≡ Some b → a ≡ b
record_is a b e = cc

module _ (part : PartData) (past : History) (n : ℕ) (r : Record) (file : List ℕ) (either : HoldsEither part past (stood r past) file) (fewer : n < 3 → Holds part past file) where
  none_in_doubt : (b : Bool) → nat_lt n 3 ≡ b → (if b then None else Some r) ≡ None → Holds part past file
  none_in_doubt true e none = fewer (search (rules, e))
  none_in_doubt false e none = absurd (no_record r (sym none))

  one_in_doubt : (d : Doubt) (b : Bool) → nat_lt n 3 ≡ b → Some (record_of d) ≡ (if b then None else Some r) → HoldsEither part past (stood (record_of d) past) file
  one_in_doubt d true e is = absurd (no_record (record_of d) (sym is))
  one_in_doubt d false e is = subst (λ (x : Record). HoldsEither part past (stood x past) file) (sym (record_is (record_of d) r is)) either

  pub may_hold : (d : Option Doubt) → doubt_of d ≡ doubted n r → MayHold part past d file
  may_hold None is = none_in_doubt (nat_lt n 3) refl (sym is)
  may_hold (Some d) is = one_in_doubt d (nat_lt n 3) refl is

-- WHERE IT SITS

module _ (node : Server Held) (fuse : Option Kept) (r : Record) (new : Server Held) (hit : Kept) (broke : BrokeOff node fuse r new hit) (d : Option Doubt) (doubt : doubt_of d ≡ doubted hit.left r) where
  new_part : new.part ≡ node.part
  new_part = ap (λ (s : Server Held). s.part) broke.rest

  new_past : new.past ≡ node.past
  new_past = ap (λ (s : Server Held). s.past) broke.rest

  -- what a crash may leave
  leaves : (file : List ℕ) → (told_of new.journal.disk).may_leave file → MayHold node.part node.past d file
  leaves file may = may_hold node.part node.past hit.left r file (broke.either file may) (λ few. broke.fewer few file may) d doubt

  -- the disk goes on
  up_state : state_of (Up new) None d ≡ struck_at (up node fuse) hit.left Fail r new.journal.disk.clock
  up_state =
      let P : Server Held → Type 0 = λ s. state_of (Up s) None d ≡ struck_at (up node fuse) hit.left Fail r s.journal.disk.clock in
      subst P (sym broke.rest) (ap₂ (λ (h : Health) (dd : Option Record). record (up node fuse) { clock = new.journal.disk.clock; health = h; fuse = None; doubt = dd }) (ap health_by broke.failed) doubt)

  up_slot : is_crash hit.what ≡ false → IsSlot (Up new) None d
  up_slot fails = (
    record {
      fused = broke.unarmed fails;
      leaves = λ file may. let P : PartData → History → Type 0 = λ part past. MayHold part past d file in
          subst (λ (part : PartData). P part new.past) (sym new_part) (subst (λ (past : History). P node.part past) (sym new_past) (leaves file may));
    },
    λ works. absurd (true≢false (sym broke.failed ∙ works)),
  )

  -- or it stopped, and took its outcome
  module _ (outcome : Outcome) (remains : Remains) (left : IsLeftOf new remains) (unarmed : IsUnarmed (told_of remains.disk)) (few : taken new.past < 2 ^ 32) where
    part_is : remains.part ≡ node.part
    part_is = left.part ∙ new_part

    past_is : remains.past.past ≡ node.past
    past_is = left.past ∙ new_past

    down_state : state_of (Down remains) None d ≡ struck_at (up node fuse) hit.left (Crash outcome) r remains.disk.clock
    down_state =
        ap₂ (λ (part : PartData) (past : History). record (fallen (up node fuse)) { part = part; clock = remains.disk.clock; past = past; fuse = None; doubt = doubt_of d }) part_is past_is
        ∙ ap (λ (dd : Option Record). record (fallen (up node fuse)) { clock = remains.disk.clock; fuse = None; doubt = dd }) doubt

    down_slot : IsSlot (Down remains) None d
    down_slot = (
      record {
        fused = unarmed;
        leaves = λ file may. let P : PartData → History → Type 0 = λ part past. MayHold part past d file in
            subst (λ (part : PartData). P part remains.past.past) (sym part_is) (subst (λ (past : History). P node.part past) (sym past_is) (leaves file (left.leaves file may)));
      },
      subst (λ (past : History). taken past < 2 ^ 32) (sym left.past) few,
    )

  -- by the arm
  module _ (seat : Seat) where
    pub broken_state : (what : Arm) → hit.what ≡ what → BreaksTo new what seat → state_of seat None d ≡ struck_at (up node fuse) hit.left what r (state_of seat None d).clock
    broken_state Fail is at = let P : Seat → Type 0 = λ s. state_of s None d ≡ struck_at (up node fuse) hit.left Fail r (state_of s None d).clock in subst P (sym at) up_state
    broken_state (Crash outcome) is at =
        let P : Seat → Type 0 = λ s. state_of s None d ≡ struck_at (up node fuse) hit.left (Crash outcome) r (state_of s None d).clock in
        subst P (sym at.1) (down_state outcome at.0 at.2 at.3 at.4)

    pub broken_slot : (what : Arm) → hit.what ≡ what → BreaksTo new what seat → IsSlot seat None d
    broken_slot Fail is at = subst (λ (s : Seat). IsSlot s None d) (sym at) (up_slot (ap is_crash is))
    broken_slot (Crash outcome) is at = subst (λ (s : Seat). IsSlot s None d) (sym at.1) (down_slot outcome at.0 at.2 at.3 at.4)

    clock_by : (what : Arm) → BreaksTo new what seat → (state_of seat None d).clock ≡ new.journal.disk.clock
    clock_by Fail at = let P : Seat → Type 0 = λ s. (state_of s None d).clock ≡ new.journal.disk.clock in subst P (sym at) refl
    clock_by (Crash outcome) at = let P : Seat → Type 0 = λ s. (state_of s None d).clock ≡ new.journal.disk.clock in subst P (sym at.1) at.2.clock

    part_by : (what : Arm) → BreaksTo new what seat → (state_of seat None d).part ≡ node.part
    part_by Fail at = let P : Seat → Type 0 = λ s. (state_of s None d).part ≡ node.part in subst P (sym at) new_part
    part_by (Crash outcome) at = let P : Seat → Type 0 = λ s. (state_of s None d).part ≡ node.part in subst P (sym at.1) (at.2.part ∙ new_part)

    pub broken_goes : BreaksTo new hit.what seat → Goes 4 (up node fuse) (state_of seat None d)
    broken_goes at =
        let clock = clock_by hit.what at in
        let most = broke.clock in
        record { part = part_by hit.what at; clock = omega (arith, clock, most) }
