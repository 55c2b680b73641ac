-- A unit over a new disk.
use Rattle.std.proofs.Common.{◌≡◌, ℕ, ◌+◌, ◌≤◌, false, List, [], Option, Some, None, Result, Ok, Err, refl, sym, ap, ap₂, ◌∙◌, arith}
use Rattle.wf_model.specs.declared.update.Update.{Update}
use Rattle.wf_disk.specs.Memory.{Held, told_of, image_of, new_disk, IsButForRoom}
use Rattle.wf_journal.specs.Frames.{bodies_of, frames_at}
use Rattle.wf_journal.specs.Plan.{WentOn}
use Rattle.wf_parts.specs.declared.data.PartData.{PartData}
use Rattle.wf_machine.specs.Server.{Health}
use Rattle.wf_histories.specs.Histories.{History}
use Rattle.wf_worlds.specs.Worlds.{first_history}
use Rattle.wf_steps.specs.declared.fault.RecoverFault.{RecoverFault}
use Rattle.wf_steps.specs.Records.{history_of}
use Rattle.wf_server.specs.declared.fault.NodeFault.{NodeFault}
use Rattle.wf_server.specs.declared.fault.NodeFault.TheVariants as faults
use Rattle.wf_server.specs.Servers.{Server}
use Rattle.wf_server.specs.Images.{Holds}
use Rattle.wf_server.specs.Starting.{IsStarted, StartFails, StartRuns, strokes_on}
use Rattle.wf_slot.specs.declared.slot.Seat.TheVariants.{Up}
use Rattle.wf_slot.specs.Units.{new_unit}
use Rattle.wf_slot.specs.Fuses.{IsUnarmed}
use Rattle.wf_slot.specs.Slots.{held, unit_of}
use Rattle.wf_slot.specs.Seats.{health_by, state_of, IsSlot}
use Rattle.wf_slot.proofs.Fuses.{unarmed_is}
use Rattle.wf_slot.proofs.Seats.{none_is}

-- nothing is held on an empty disk
empty_holds : (part : PartData) → history_of part [] ≡ Ok (first_history part.unit.0)
unfolding history_of bodies_of frames_at
empty_holds part = refl

ok_is : (a b : History) → ◌≡◌ {A = Result History RecoverFault} (Ok a) (Ok b) → a ≡ b
ok_is a b e = cc

module _ (part : PartData) (disk : Held) (new : IsButForRoom new_disk disk) (node : Server Held) (started : IsStarted part node)
    (holds : (file : List ℕ) → (told_of disk).image ≡ Some file → history_of part file ≡ Ok node.past) where
  image_is : image_of disk ≡ []
  image_is = ap image_of new

  past_is : node.past ≡ first_history part.unit.0
  past_is = ok_is node.past (first_history part.unit.0) (sym (holds [] (ap (λ (file : List ℕ). Some file) image_is)) ∙ empty_holds part)

  pub is_new : unit_of (state_of (Up node) None None) ≡ new_unit part.unit.0
  is_new =
      ap₂ (λ (health : Health) (h : ℕ → ℕ → Option Update). record (new_unit part.unit.0) { health = health; past = node.past; held = h }) (ap health_by started.healthy) (none_is (held (state_of (Up node) None None)) started.empty)
      ∙ ap (λ (past : History). record (new_unit part.unit.0) { past = past }) past_is

  unarmed : IsUnarmed (told_of disk)
  unarmed = unarmed_is disk (ap (λ (m : Held). m.stop) new) (ap (λ (m : Held). m.arm) new)

  pub is_kept : WentOn (told_of disk) (told_of node.journal.disk) →
      (node.journal.failed ≡ false → (file : List ℕ) → (told_of node.journal.disk).image ≡ Some file → (c : List ℕ) → (told_of node.journal.disk).may_leave c → Holds node.part node.past c) →
      IsSlot (Up node) None None
  is_kept went stands = (
    record {
      fused = record { none = λ n after within fails. let later = went.later in unarmed.none n (omega (arith, after, later)) within (went.plan.no_other n fails) };
      leaves = stands started.healthy (image_of node.journal.disk) refl;
    },
    λ works. refl,
  )

  pub seven : ((file : List ℕ) → (told_of disk).image ≡ Some file → node.journal.disk.clock ≡ disk.clock + strokes_on file) → node.journal.disk.clock ≤ 7
  seven strokes =
      let did : node.journal.disk.clock ≡ disk.clock + 7 = strokes [] (ap (λ (file : List ℕ). Some file) image_is) in
      let zero : disk.clock ≡ 0 = ap (λ (m : Held). m.clock) new in
      omega (arith, did, zero)

not_refused : (a : History) (fault : RecoverFault) → ◌≡◌ {A = Result History RecoverFault} (Err fault) (Ok a) → ⊥
not_refused a fault e = cc

-- of the faults of a start on an empty disk that doesn't fail only want of memory is left
only_memory : (part : PartData) (fault : NodeFault) → StartFails part [] fault → (fault ≡ faults.DiskFailed → ⊥) → fault ≡ faults.NoMemory
only_memory part (faults.BadFrame place) fails whole = let long : 2 ≤ 0 = fails.0 in absurd (omega (arith, long))
only_memory part (faults.Foreign kept wanted) fails whole = absurd (not_refused (first_history part.unit.0) _ (sym fails.1 ∙ empty_holds part))
only_memory part (faults.BadRecord place first) fails whole = absurd (not_refused (first_history part.unit.0) _ (sym fails.1 ∙ empty_holds part))
only_memory part faults.DiskFailed fails whole = absurd (whole refl)
only_memory part faults.NoMemory fails whole = refl

module _ (part : PartData) (disk : Held) (new : IsButForRoom new_disk disk) (after : Held) (fault : NodeFault)
    (refused : (file : List ℕ) → (told_of disk).image ≡ Some file → StartFails part file fault) (runs : StartRuns (told_of disk) (told_of after) (fault ≡ faults.DiskFailed)) where
  is_empty : image_of disk ≡ []
  is_empty = ap image_of new

  whole : fault ≡ faults.DiskFailed → ⊥
  whole =
      let most : strokes_on (image_of disk) ≡ 7 = ap strokes_on is_empty in
      let zero : disk.clock ≡ 0 = ap (λ (m : Held). m.clock) new in
      let unarmed = unarmed_is disk (ap (λ (m : Held). m.stop) new) (ap (λ (m : Held). m.arm) new) in
      runs.safe (λ n after within fails. unarmed.none n after (omega (arith, within, most, zero)) fails)

  pub ran_out : fault ≡ faults.NoMemory
  ran_out = only_memory part fault (refused [] (ap (λ (file : List ℕ). Some file) is_empty)) whole
