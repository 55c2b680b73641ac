-- The ends of an admission, by what its server ensures.
use Rattle.std.proofs.Common.{◌≡◌, ℕ, ◌+◌, ◌<◌, ◌≤◌, true, false, List, length, Option, Some, None, Result, Ok, Err, refl, sym, ap, ◌∙◌, subst, arith}
use Rattle.std.specs.Prelude.{IfOk, IsErr, IsErrOf}
use Rattle.wf_model.specs.Faults.{last_count}
use Rattle.wf_model.specs.declared.outer.Outer.{Outer}
use Rattle.wf_model.specs.declared.outer.OuterFault.{OuterFault}
use Rattle.wf_model.specs.declared.outer.OuterFault.TheVariants as outers
use Rattle.wf_disk.specs.Memory.{Held, told_of, image_of, disarmed}
use Rattle.wf_parts.specs.declared.data.PartData.{PartData}
use Rattle.wf_machine.specs.declared.reply.Reply.{Reply}
use Rattle.wf_machine.specs.declared.reply.Reply.TheVariants as reply
use Rattle.wf_machine.specs.Strokes.{Done, strokes}
use Rattle.wf_histories.specs.Histories.{Admission, History}
use Rattle.wf_worlds.specs.Growing.{admitted}
use Rattle.wf_worlds.specs.Worlds.{Admits}
use Rattle.wf_worlds.specs.Ends.{IsShort}
use Rattle.wf_server.specs.Servers.{Server, with_admission}
use Rattle.wf_server.specs.Images.{Holds, CrashLeaves}
use Rattle.wf_server.specs.Running.{RunsOn}
use Rattle.wf_server.specs.declared.fault.Admitted.{Admitted}
use Rattle.wf_server.specs.declared.fault.Admitted.TheVariants.{Again}
use Rattle.wf_server.specs.declared.fault.AdmitFault.{AdmitFault}
use Rattle.wf_server.specs.declared.fault.AdmitFault.TheVariants as admits
use Rattle.wf_server.specs.Answers.{IsNewRequest, IsNew, AdmitAnswers, refused_by_part}
use Rattle.wf_slot.specs.declared.fuse.Fuse.{Fuse as Kept}
use Rattle.wf_slot.specs.Fuses.{fuse_of}
use Rattle.wf_slot.specs.Answers.{IsLetIn}
use Rattle.wf_slot.specs.Seats.{IsKept}
use Rattle.wf_slot.specs.Writes.{up, AdmitAnswered, BrokeOff, IsSpared}
use Rattle.wf_slot.proofs.Admits.{again, reused, refused, stands}
use Rattle.wf_slot.proofs.Disks.{is_longer, still_fused, had_arm, broke_off, is_spared}

pub fault_is : {a b : AdmitFault} → ◌≡◌ {A = Result Admitted AdmitFault} (Err a) (Err b) → a ≡ b
fault_is e = cc e

pub no_fault : {a : Admitted} {f : AdmitFault} → ◌≡◌ {A = Result Admitted AdmitFault} (Ok a) (Err f) → ⊥
no_fault e = cc e

module _ (node : Server Held) (fuse : Option Kept) (request : ℕ) (outer : Outer) (healthy : node.journal.failed ≡ false) (kept : IsKept node.part node.past node.journal.disk fuse None) (early : node.journal.disk.clock + 2000 ≤ last_count) where
  abbrev a : Admission
  a = record { request = request; outer = outer }

  pub let_in : IsNewRequest node request outer (Ok tt) → IsShort outer → IsLetIn (up node fuse) a
  let_in is short = record { fresh = is.fresh; lets = is.lets; short = short }

  -- the server stayed as it was
  module _ (new : Server Held) (result : Result Admitted AdmitFault) (answer : AdmitAnswers node request outer result) where
    as_before : (r : Reply) → new ≡ node → AdmitAnswered node fuse request outer node fuse r → AdmitAnswered node fuse request outer new fuse r
    as_before r same did = subst (λ (s : Server Held). AdmitAnswered node fuse request outer s fuse r) (sym same) did

    pub again_ends : (n : ℕ) → result ≡ Ok (Again n) → IfOk result (λ _. (IsNew result → ⊥) → new ≡ node) → AdmitAnswered node fuse request outer new fuse (reply.Again n)
    again_ends n is same =
        let P : Result Admitted AdmitFault → Type 0 = λ r. IfOk r (λ _. (IsNew r → ⊥) → new ≡ node) in
        as_before (reply.Again n) (subst P is same (λ e. e)) (again node fuse request outer healthy kept n (subst (λ (r : Result Admitted AdmitFault). AdmitAnswers node request outer r) is answer).1)

    module _ (same : IsErr result → (IsErrOf result admits.NoMemory → ⊥) → (IsErrOf result admits.DiskFailed → ⊥) → new ≡ node) where
      kept_by : (fault : AdmitFault) → result ≡ Err fault → (fault ≡ admits.NoMemory → ⊥) → (fault ≡ admits.DiskFailed → ⊥) → new ≡ node
      kept_by fault is memory disk = same (subst (λ (r : Result Admitted AdmitFault). IsErr r) (sym is) refl) (λ e. memory (fault_is (sym is ∙ e))) (λ e. disk (fault_is (sym is ∙ e)))

      pub reused_ends : (n : ℕ) (other : Outer) → result ≡ Err (admits.RequestReused n other) → AdmitAnswered node fuse request outer new fuse (reply.Reused n)
      reused_ends n other is =
          let said = subst (λ (r : Result Admitted AdmitFault). AdmitAnswers node request outer r) is answer in
          as_before (reply.Reused n) (kept_by (admits.RequestReused n other) is (λ e. cc e) (λ e. cc e)) (reused node fuse request outer healthy kept n other said.1 said.2)

      refused_by : (fault : OuterFault) → result ≡ Err (refused_by_part fault) → IsNewRequest node request outer (Err fault) → AdmitAnswered node fuse request outer new fuse (reply.Refused fault)
      refused_by outers.WrongUnit is said = as_before (reply.Refused outers.WrongUnit) (kept_by admits.WrongUnit is (λ e. cc e) (λ e. cc e)) (refused node fuse request outer healthy kept outers.WrongUnit said)
      refused_by outers.NoItem is said = as_before (reply.Refused outers.NoItem) (kept_by admits.NoItem is (λ e. cc e) (λ e. cc e)) (refused node fuse request outer healthy kept outers.NoItem said)
      refused_by outers.AlreadyDone is said = as_before (reply.Refused outers.AlreadyDone) (kept_by admits.AlreadyDone is (λ e. cc e) (λ e. cc e)) (refused node fuse request outer healthy kept outers.AlreadyDone said)
      refused_by outers.WrongOutput is said = as_before (reply.Refused outers.WrongOutput) (kept_by admits.WrongOutput is (λ e. cc e) (λ e. cc e)) (refused node fuse request outer healthy kept outers.WrongOutput said)

      said_by : (fault : OuterFault) → AdmitAnswers node request outer (Err (refused_by_part fault)) → IsNewRequest node request outer (Err fault)
      said_by outers.WrongUnit said = said
      said_by outers.NoItem said = said
      said_by outers.AlreadyDone said = said
      said_by outers.WrongOutput said = said

      pub refused_ends : (fault : OuterFault) → result ≡ Err (refused_by_part fault) → AdmitAnswered node fuse request outer new fuse (reply.Refused fault)
      refused_ends fault is = refused_by fault is (said_by fault (subst (λ (r : Result Admitted AdmitFault). AdmitAnswers node request outer r) is answer))

  module _ (new : Server Held) {added no_memory failed : Type 0} (runs : RunsOn (told_of node.journal.disk) (told_of new.journal.disk) added no_memory failed) where
    -- it stands
    module _ (did : added) (fine : failed → ⊥) where
      pub new_longer : (f : Kept) → fuse ≡ Some f → 4 < f.left
      new_longer = is_longer node.journal.disk new.journal.disk 4 (runs.plan.done fine) (runs.four did) fuse kept.fused

      pub new_ends : IsLetIn (up node fuse) a → new ≡ record node { journal = new.journal; past = admitted node.past a; ready = false } → new.journal.failed ≡ false →
          (new.journal.failed ≡ false → (file : List ℕ) → (told_of new.journal.disk).image ≡ Some file → (c : List ℕ) → (told_of new.journal.disk).may_leave c → Holds new.part new.past c) →
          (rest : Option Kept) → strokes 4 (fuse_of fuse) ≡ Done (fuse_of rest) → (number : ℕ) → number ≡ length node.past.admissions + 1 →
          AdmitAnswered node fuse request outer new rest (reply.New number)
      new_ends letin is works holds rest met number number_is =
          let part : new.part ≡ node.part = ap (λ (s : Server Held). s.part) is in
          let past : new.past ≡ admitted node.past a = ap (λ (s : Server Held). s.past) is in
          let P : Server Held → Type 0 = λ s. AdmitAnswered node fuse request outer s rest (reply.New number) in
          let Q : ℕ → Type 0 = λ n. AdmitAnswered node fuse request outer (record node { journal = new.journal; past = admitted node.past a; ready = false }) rest (reply.New n) in
          subst P (sym is) (subst Q (sym number_is)
          (stands node fuse request outer healthy letin new.journal rest works met (runs.four did)
          (record {
            fused = still_fused node.journal.disk new.journal.disk 4 (runs.plan.done fine) (runs.four did) (fuse_of fuse) (fuse_of rest) kept.fused met;
            leaves = λ file may. subst (λ (p : PartData). Holds p (admitted node.past a) file) part (subst (λ (h : History). Holds new.part h file) past (holds works (image_of new.journal.disk) refl file may));
          })))

    -- its write broke off
    module _ (fails : failed) where
      pub new_had_arm : fuse ≡ None → ⊥
      new_had_arm is = had_arm node.journal.disk new.journal.disk 4 (runs.plan.struck fails) (omega (arith, early)) fuse kept.fused is

      pub new_broke : (hit : Kept) → fuse ≡ Some hit → CrashLeaves (told_of node.journal.disk) (told_of new.journal.disk) node.journal.failed node.part node.past (with_admission node.past request outer) →
          new ≡ record node { journal = new.journal } → new.journal.failed ≡ true → BrokeOff node fuse (Admits a) new hit
      new_broke hit is crash rest broke =
          broke_off node new fuse hit (Admits a) healthy kept.fused early is (runs.plan.struck fails) crash (rest ∙ ap (λ (s : Server Held). record node { journal = new.journal; ready = s.ready }) (sym rest)) broke

    -- memory ran out
    pub new_spared : no_memory → (failed → ⊥) → new ≡ record node { journal = new.journal } → new.journal.failed ≡ false →
        (new.journal.failed ≡ false → (file : List ℕ) → (told_of new.journal.disk).image ≡ Some file → (c : List ℕ) → (told_of new.journal.disk).may_leave c → Holds new.part new.past c) →
        (then : Server Held) → then ≡ record new { journal = record new.journal { disk = disarmed new.journal.disk } } → IsSpared node then
    new_spared out fine is works holds then then_is =
        subst (λ (s : Server Held). IsSpared node s) (sym then_is)
        (is_spared node new (fuse_of fuse) kept.fused early (runs.plan.done fine) (runs.two out) (ap (λ (s : Server Held). s.part) is) (ap (λ (s : Server Held). s.past) is) (holds works (image_of new.journal.disk) refl))
