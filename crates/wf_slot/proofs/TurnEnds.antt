-- The ends of a turn, by what its server ensures.
use Rattle.std.proofs.Common.{◌≡◌, ℕ, ◌+◌, ◌^◌, ◌<◌, ◌≤◌, true, false, List, Option, Some, None, Result, Ok, Err, refl, sym, ap, ◌∙◌, subst, arith}
use Rattle.std.specs.Prelude.{IsErr, IsErrOf}
use Rattle.wf_model.specs.Faults.{last_count}
use Rattle.wf_model.specs.declared.update.Update.{Update}
use Rattle.wf_model.specs.declared.update.UnitSet.{UnitSet}
use Rattle.wf_disk.specs.Memory.{Held, told_of, image_of, disarmed}
use Rattle.wf_parts.specs.declared.data.PartData.{PartData}
use Rattle.wf_machine.specs.declared.reply.TurnReply.TheVariants as turn
use Rattle.wf_machine.specs.Strokes.{Done, strokes}
use Rattle.wf_histories.specs.Histories.{History, taken}
use Rattle.wf_worlds.specs.Worlds.{Turns}
use Rattle.wf_server.specs.Servers.{Server, held as held_by, inputs_of, with_turn}
use Rattle.wf_server.specs.Images.{Holds, CrashLeaves}
use Rattle.wf_server.specs.Running.{RunsOn}
use Rattle.wf_server.specs.declared.fault.Turn.{Turn}
use Rattle.wf_server.specs.declared.fault.TurnFault.{TurnFault}
use Rattle.wf_server.specs.declared.fault.TurnFault.TheVariants as turns
use Rattle.wf_server.specs.Answers.{TurnAnswers}
use Rattle.wf_slot.specs.declared.fuse.Fuse.{Fuse as Kept}
use Rattle.wf_slot.specs.Fuses.{fuse_of}
use Rattle.wf_slot.specs.Seats.{IsKept}
use Rattle.wf_slot.specs.Writes.{up, TurnAnswered, AreAllOf, BrokeOff, IsSpared}
use Rattle.wf_slot.proofs.Turns.{waits, took}
use Rattle.wf_slot.proofs.Disks.{is_longer, still_fused, had_arm, broke_off, is_spared}

pub turn_fault : {a b : TurnFault} → ◌≡◌ {A = Result Turn TurnFault} (Err a) (Err b) → a ≡ b
turn_fault e = cc e

pub no_turn_fault : {a : Turn} {f : TurnFault} → ◌≡◌ {A = Result Turn TurnFault} (Ok a) (Err f) → ⊥
no_turn_fault e = cc e

wait_not_memory : (set : UnitSet) → turns.Waiting set ≡ turns.NoMemory → ⊥
wait_not_memory set e = cc e

wait_not_disk : (set : UnitSet) → turns.Waiting set ≡ turns.DiskFailed → ⊥
wait_not_disk set e = cc e

module _ (node : Server Held) (fuse : Option Kept) (healthy : node.journal.failed ≡ false) (kept : IsKept node.part node.past node.journal.disk fuse None) (early : node.journal.disk.clock + 2000 ≤ last_count) (new : Server Held)
    {added no_memory failed : Type 0} (runs : RunsOn (told_of node.journal.disk) (told_of new.journal.disk) added no_memory failed) where
  -- the server stayed as it was, but that its turn may be worked out
  module _ (result : Result Turn TurnFault) (same : IsErr result → (IsErrOf result turns.NoMemory → ⊥) → (IsErrOf result turns.DiskFailed → ⊥) → new ≡ record node { journal = record node.journal { room = new.journal.room }; ready = new.ready }) where
    pub waits_ends : (set : UnitSet) → set.0 < 2 ^ 8 → node.part.units ≤ 8 → result ≡ Err (turns.Waiting set) → TurnAnswers node result → TurnAnswered node fuse new fuse (turn.Waiting set)
    waits_ends set small few is answer =
        let said = subst (λ (r : Result Turn TurnFault). TurnAnswers node r) is answer in
        let before = same (subst (λ (r : Result Turn TurnFault). IsErr r) (sym is) refl) (λ e. wait_not_memory set (turn_fault (sym is ∙ e))) (λ e. wait_not_disk set (turn_fault (sym is ∙ e))) in
        let P : Server Held → Type 0 = λ s. TurnAnswered node fuse s fuse (turn.Waiting set) in
        subst P (sym before) (answered (waits node fuse healthy kept set small few said.1 said.2))
      where
        answered : TurnAnswered node fuse node fuse (turn.Waiting set) → TurnAnswered node fuse (record node { journal = record node.journal { room = new.journal.room }; ready = new.ready }) fuse (turn.Waiting set)
        answered did = record { answer = did.answer; writes = did.writes; goes = did.goes; kept = did.kept }

  -- it stands
  module _ (did : added) (fine : failed → ⊥) where
    pub turn_longer : (f : Kept) → fuse ≡ Some f → 4 < f.left
    turn_longer = is_longer node.journal.disk new.journal.disk 4 (runs.plan.done fine) (runs.four did) fuse kept.fused

    abbrev then : List (Option Update) → Server Held
    then early_now = record node { journal = new.journal; past = with_turn node.past node.came; came = node.early; early = early_now; ready = false }

    pub took_ends : AreAllOf (up node fuse) (inputs_of node.came) → new ≡ record node { journal = new.journal; past = with_turn node.past node.came; came = node.early; early = new.early; ready = false } → new.journal.failed ≡ false →
        ((v step : ℕ) → taken node.past + 1 < step → held_by new v step ≡ held_by node v step) →
        (new.journal.failed ≡ false → (file : List ℕ) → (told_of new.journal.disk).image ≡ Some file → (c : List ℕ) → (told_of new.journal.disk).may_leave c → Holds new.part new.past c) →
        (rest : Option Kept) → strokes 4 (fuse_of fuse) ≡ Done (fuse_of rest) → (step : ℕ) → step ≡ taken node.past + 1 → TurnAnswered node fuse new rest (turn.Took step)
    took_ends all is works later holds rest met step step_is =
        let part : new.part ≡ node.part = ap (λ (s : Server Held). s.part) is in
        let past : new.past ≡ with_turn node.past node.came = ap (λ (s : Server Held). s.past) is in
        let P : Server Held → Type 0 = λ s. TurnAnswered node fuse s rest (turn.Took step) in
        let Q : ℕ → Type 0 = λ n. TurnAnswered node fuse (then new.early) rest (turn.Took n) in
        let R : Server Held → Type 0 = λ s. (v j : ℕ) → taken node.past + 1 < j → held_by s v j ≡ held_by node v j in
        subst P (sym is) (subst Q (sym step_is)
        (took node fuse healthy all new.journal new.early rest works met (runs.four did) (subst R is later)
        (record {
          fused = still_fused node.journal.disk new.journal.disk 4 (runs.plan.done fine) (runs.four did) (fuse_of fuse) (fuse_of rest) kept.fused met;
          leaves = λ file may. subst (λ (p : PartData). Holds p (with_turn node.past node.came) file) part (subst (λ (h : History). Holds new.part h file) past (holds works (image_of new.journal.disk) refl file may));
        })))

  -- its write broke off
  module _ (fails : failed) where
    pub turn_had_arm : fuse ≡ None → ⊥
    turn_had_arm is = had_arm node.journal.disk new.journal.disk 4 (runs.plan.struck fails) (omega (arith, early)) fuse kept.fused is

    pub turn_broke_off : (hit : Kept) → fuse ≡ Some hit → CrashLeaves (told_of node.journal.disk) (told_of new.journal.disk) node.journal.failed node.part node.past (with_turn node.past node.came) →
        new ≡ record node { journal = new.journal; ready = new.ready } → new.journal.failed ≡ true → BrokeOff node fuse (Turns (inputs_of node.came)) new hit
    turn_broke_off hit is crash rest broke = broke_off node new fuse hit (Turns (inputs_of node.came)) healthy kept.fused early is (runs.plan.struck fails) crash rest broke

  -- memory ran out
  pub turn_spared : no_memory → (failed → ⊥) → new ≡ record node { journal = new.journal; ready = new.ready } → new.journal.failed ≡ false →
      (new.journal.failed ≡ false → (file : List ℕ) → (told_of new.journal.disk).image ≡ Some file → (c : List ℕ) → (told_of new.journal.disk).may_leave c → Holds new.part new.past c) →
      (after : Server Held) → after ≡ record new { journal = record new.journal { disk = disarmed new.journal.disk } } → IsSpared node after
  turn_spared out fine is works holds after after_is =
      subst (λ (s : Server Held). IsSpared node s) (sym after_is)
      (is_spared node new (fuse_of fuse) kept.fused early (runs.plan.done fine) (runs.two out) (ap (λ (s : Server Held). s.part) is) (ap (λ (s : Server Held). s.past) is) (holds works (image_of new.journal.disk) refl))
