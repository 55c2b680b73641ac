use Rattle.std.proofs.Common.{◌≡◌, Result, Ok, Err, refl, sym, ap, ◌∙◌, subst, true≢false}
use Rattle.std.specs.Prelude.{IsErr, is_ok}
use Rattle.wf_disk.specs.Memory.{Held, told_of}
use Rattle.wf_model.specs.declared.outer.OuterFault.TheVariants as outers
use Rattle.wf_server.specs.declared.fault.Admitted.{Admitted}
use Rattle.wf_server.specs.declared.fault.Admitted.TheVariants.{New}
use Rattle.wf_server.specs.declared.fault.AdmitFault.{AdmitFault}
use Rattle.wf_server.specs.declared.fault.AdmitFault.TheVariants as admits
use Rattle.wf_server.specs.Servers.{Server}
use Rattle.wf_server.specs.Images.{IsPlaced}
use Rattle.wf_server.specs.Answers.{IsNew, IsAsked, AdmitAnswers}
use Rattle.wf_slot.proofs.Disks.{some_by}
use Rattle.wf_slot.proofs.AdmitEnds.{no_fault, fault_is, let_in, again_ends, reused_ends, refused_ends, new_longer, new_ends, new_had_arm, new_broke, new_spared}
use Rattle.wf_slot.proofs.Full.{admit_fits}
use Rattle.wf_slot.proofs.slot.writing.admit_up.Goals as goal

memory_not_disk : ◌≡◌ {A = AdmitFault} admits.NoMemory admits.DiskFailed → ⊥
memory_not_disk e = cc e

full_not_memory : ◌≡◌ {A = AdmitFault} admits.JournalFull admits.NoMemory → ⊥
full_not_memory e = cc e

full_not_disk : ◌≡◌ {A = AdmitFault} admits.JournalFull admits.DiskFailed → ⊥
full_not_disk e = cc e

is_err : {r : Result Admitted AdmitFault} {f : AdmitFault} → r ≡ Err f → IsErr r
is_err is = subst (λ (r : Result Admitted AdmitFault). IsErr r) (sym is) refl

pub fuse_after-requires : goal.fuse_after-requires
fuse_after-requires c =
    let is : c.admit.result ≡ Ok (New c.in-Ok-New.number) = c.in-Ok-New.is ∙ ap (λ (x : Admitted). Ok x) c.in-Ok-New.field-0-is in
    some_by c.args.fuse.now _ (new_longer c.args.node.now c.args.fuse.now c.args.request c.args.outer.now c.requires.healthy c.requires.kept c.requires.early c.admit.new.self c.admit.ensures.disk (subst (λ (r : Result Admitted AdmitFault). IsNew r) (sym is) tt) (λ e. no_fault (sym is ∙ e)))

pub returns-in-Ok-New-clause-ends : goal.returns-in-Ok-New-clause-ends
returns-in-Ok-New-clause-ends c =
    let is : c.admit.result ≡ Ok (New c.in-Ok-New.number) = c.in-Ok-New.is ∙ ap (λ (x : Admitted). Ok x) c.in-Ok-New.field-0-is in
    let said = subst (λ (r : Result Admitted AdmitFault). AdmitAnswers c.args.node.now c.args.request c.args.outer.now r) is c.admit.ensures.answer in
    let new = subst (λ (r : Result Admitted AdmitFault). IsNew r) (sym is) tt in
    let short = c.admit.ensures.short (subst (λ (r : Result Admitted AdmitFault). IsAsked r) (sym is) tt) in
    new_ends c.args.node.now c.args.fuse.now c.args.request c.args.outer.now c.requires.healthy c.requires.kept c.requires.early c.admit.new.self c.admit.ensures.disk new (λ e. no_fault (sym is ∙ e)) (let_in c.args.node.now c.args.fuse.now c.args.request c.args.outer.now c.requires.healthy c.requires.kept c.requires.early said.0 short) (c.admit.ensures.new new)
    (c.admit.ensures.healthy (ap is_ok is)) c.disk-disk.ensures.stands c.fuse_after.result c.fuse_after.ensures c.in-Ok-New.number said.2

pub returns-in-Ok-Again-clause-ends : goal.returns-in-Ok-Again-clause-ends
returns-in-Ok-Again-clause-ends c =
    again_ends c.args.node.now c.args.fuse.now c.args.request c.args.outer.now c.requires.healthy c.requires.kept c.requires.early c.admit.new.self c.admit.result c.admit.ensures.answer c.in-Ok-Again.number (c.in-Ok-Again.is ∙ ap (λ (x : Admitted). Ok x) c.in-Ok-Again.field-0-is) c.admit.ensures.again

pub returns-in-Err-RequestReused-clause-ends : goal.returns-in-Err-RequestReused-clause-ends
returns-in-Err-RequestReused-clause-ends c =
    reused_ends c.args.node.now c.args.fuse.now c.args.request c.args.outer.now c.requires.healthy c.requires.kept c.requires.early c.admit.new.self c.admit.result c.admit.ensures.answer c.admit.ensures.refused c.in-Err-RequestReused.number _ (c.in-Err-RequestReused.is ∙ ap (λ (x : AdmitFault). Err x) c.in-Err-RequestReused.field-0-is)

pub returns-in-Err-WrongUnit-clause-ends : goal.returns-in-Err-WrongUnit-clause-ends
returns-in-Err-WrongUnit-clause-ends c =
    refused_ends c.args.node.now c.args.fuse.now c.args.request c.args.outer.now c.requires.healthy c.requires.kept c.requires.early c.admit.new.self c.admit.result c.admit.ensures.answer c.admit.ensures.refused outers.WrongUnit (c.in-Err-WrongUnit.is ∙ ap (λ (x : AdmitFault). Err x) c.in-Err-WrongUnit.field-0-is)

pub returns-in-Err-NoItem-clause-ends : goal.returns-in-Err-NoItem-clause-ends
returns-in-Err-NoItem-clause-ends c =
    refused_ends c.args.node.now c.args.fuse.now c.args.request c.args.outer.now c.requires.healthy c.requires.kept c.requires.early c.admit.new.self c.admit.result c.admit.ensures.answer c.admit.ensures.refused outers.NoItem (c.in-Err-NoItem.is ∙ ap (λ (x : AdmitFault). Err x) c.in-Err-NoItem.field-0-is)

pub returns-in-Err-AlreadyDone-clause-ends : goal.returns-in-Err-AlreadyDone-clause-ends
returns-in-Err-AlreadyDone-clause-ends c =
    refused_ends c.args.node.now c.args.fuse.now c.args.request c.args.outer.now c.requires.healthy c.requires.kept c.requires.early c.admit.new.self c.admit.result c.admit.ensures.answer c.admit.ensures.refused outers.AlreadyDone (c.in-Err-AlreadyDone.is ∙ ap (λ (x : AdmitFault). Err x) c.in-Err-AlreadyDone.field-0-is)

pub returns-in-Err-WrongOutput-clause-ends : goal.returns-in-Err-WrongOutput-clause-ends
returns-in-Err-WrongOutput-clause-ends c =
    refused_ends c.args.node.now c.args.fuse.now c.args.request c.args.outer.now c.requires.healthy c.requires.kept c.requires.early c.admit.new.self c.admit.result c.admit.ensures.answer c.admit.ensures.refused outers.WrongOutput (c.in-Err-WrongOutput.is ∙ ap (λ (x : AdmitFault). Err x) c.in-Err-WrongOutput.field-0-is)

pub unreachable-requires : goal.unreachable-requires
unreachable-requires c =
    new_had_arm c.args.node.now c.args.fuse.now c.args.request c.args.outer.now c.requires.healthy c.requires.kept c.requires.early c.admit.new.self c.admit.ensures.disk (c.in-Err-DiskFailed.is ∙ ap (λ (x : AdmitFault). Err x) c.in-Err-DiskFailed.field-0-is) (sym c.take.ensures.value ∙ c.in-None.is)

pub unreachable-unreachable : goal.unreachable-unreachable
unreachable-unreachable c = c.unreachable.result

pub returns-in-Some-clause-ends : goal.returns-in-Some-clause-ends
returns-in-Some-clause-ends c =
    let is : c.admit.result ≡ Err admits.DiskFailed = c.in-Err-DiskFailed.is ∙ ap (λ (x : AdmitFault). Err x) c.in-Err-DiskFailed.field-0-is in
    let said = subst (λ (r : Result Admitted AdmitFault). AdmitAnswers c.args.node.now c.args.request c.args.outer.now r) is c.admit.ensures.answer in
    let short = c.admit.ensures.short (subst (λ (r : Result Admitted AdmitFault). IsAsked r) (sym is) tt) in (
      let_in c.args.node.now c.args.fuse.now c.args.request c.args.outer.now c.requires.healthy c.requires.kept c.requires.early said.0 short,
      new_broke c.args.node.now c.args.fuse.now c.args.request c.args.outer.now c.requires.healthy c.requires.kept c.requires.early c.admit.new.self c.admit.ensures.disk is c.in-Some.hit (sym c.take.ensures.value ∙ c.in-Some.is) c.admit.ensures.crash (c.admit.ensures.kept (is_err is)) (c.admit.ensures.failed is),
      c.take.ensures.after,
    )

pub returns-in-Err-NoMemory-clause-spared : goal.returns-in-Err-NoMemory-clause-spared
returns-in-Err-NoMemory-clause-spared c =
    let is : c.admit.result ≡ Err admits.NoMemory = c.in-Err-NoMemory.is ∙ ap (λ (x : AdmitFault). Err x) c.in-Err-NoMemory.field-0-is in
    λ _. (
      refl,
      new_spared c.args.node.now c.args.fuse.now c.args.request c.args.outer.now c.requires.healthy c.requires.kept c.requires.early c.admit.new.self c.admit.ensures.disk is (λ e. memory_not_disk (fault_is (sym is ∙ e))) (c.admit.ensures.kept (is_err is)) (c.admit.ensures.no_memory is ∙ c.requires.healthy) c.disk-disk-in-Err-NoMemory.ensures.stands
          c.disarm.new.self c.disarm.ensures,
    )

pub unreachable-requires-in-Err-Reopen : goal.unreachable-requires-in-Err-Reopen
unreachable-requires-in-Err-Reopen c =
    let is : c.admit.result ≡ Err admits.Reopen = c.in-Err-Reopen.is ∙ ap (λ (x : AdmitFault). Err x) c.in-Err-Reopen.field-0-is in
    let said = subst (λ (r : Result Admitted AdmitFault). AdmitAnswers c.args.node.now c.args.request c.args.outer.now r) is c.admit.ensures.answer in
    true≢false (sym said ∙ c.requires.healthy)

pub unreachable-unreachable-in-Err-Reopen : goal.unreachable-unreachable-in-Err-Reopen
unreachable-unreachable-in-Err-Reopen c = c.unreachable-in-Err-Reopen.result

pub unreachable-requires-in-Err-JournalFull : goal.unreachable-requires-in-Err-JournalFull
unreachable-requires-in-Err-JournalFull c =
    let is : c.admit.result ≡ Err admits.JournalFull = c.in-Err-JournalFull.is ∙ ap (λ (x : AdmitFault). Err x) c.in-Err-JournalFull.field-0-is in
    let said = subst (λ (r : Result Admitted AdmitFault). AdmitAnswers c.args.node.now c.args.request c.args.outer.now r) is c.admit.ensures.answer in
    let short = c.admit.ensures.short (subst (λ (r : Result Admitted AdmitFault). IsAsked r) (sym is) tt) in
    let same = c.admit.ensures.refused (is_err is) (λ e. full_not_memory (fault_is (sym is ∙ e))) (λ e. full_not_disk (fault_is (sym is ∙ e))) in
    let P : Server Held → Type 0 = λ s. IsPlaced told_of s.journal s.part s.past in
    admit_fits c.args.node.now (subst P same c.disk-disk-in-Err-JournalFull.ensures.place) c.requires.not_full c.args.request c.args.outer.now short said.1

pub unreachable-unreachable-in-Err-JournalFull : goal.unreachable-unreachable-in-Err-JournalFull
unreachable-unreachable-in-Err-JournalFull c = c.unreachable-in-Err-JournalFull.result
