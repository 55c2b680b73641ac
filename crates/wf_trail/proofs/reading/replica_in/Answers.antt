use Rattle.std.proofs.Common.{◌≡◌, ◌∙◌, Option, Result, rules, sym, subst}
use Rattle.wf_disk.proofs.Runs.{same_then, cause_since}
use Rattle.wf_journal.specs.Frames.{bodies_of}
use Rattle.wf_histories.specs.Histories.{History}
use Rattle.wf_steps.specs.declared.fault.RecoverFault.{RecoverFault}
use Rattle.wf_steps.specs.Recovering.{fault_of}
use Rattle.wf_trail.specs.Images.{kept_with}
use Rattle.wf_trail.specs.Telling.{IsKept, IsFault}
use Rattle.wf_trail.proofs.Readings.{nothing_is, frame_is, read_fault_is, cause_found, cause_read}
use Rattle.wf_trail.proofs.reading.replica_in.Goals as goal

pub returns-in-Ok-Some-clause-kept : goal.returns-in-Ok-Some-clause-kept
returns-in-Ok-Some-clause-kept g c = λ file image place.
    subst (λ (wanted : Result (Option History) RecoverFault). IsKept wanted c.recover_unit.result)
    (sym (frame_is c.args.part file _ _ _ c.in-Ok-Some.field-0-is (c.in-Ok-Some.ensures.read file image place)))
    (c.recover_unit.ensures.kept file (c.read.ensures.same.image ∙ image) place)

pub returns-in-Ok-Some-clause-same : goal.returns-in-Ok-Some-clause-same
returns-in-Ok-Some-clause-same g c = same_then _ _ _ c.read.ensures.same c.recover_unit.ensures.same

pub returns-in-Ok-Some-clause-cause : goal.returns-in-Ok-Some-clause-cause
returns-in-Ok-Some-clause-cause g c =
    cause_since _ _ _ _ _ (c.in-Ok-Some.ensures.cause.kept (λ failed. cc failed)) c.recover_unit.ensures.cause (λ failed. failed) (λ failed. failed)

pub returns-in-Ok-None-clause-kept : goal.returns-in-Ok-None-clause-kept
returns-in-Ok-None-clause-kept g c = λ file image place. nothing_is c.args.part file _ _ c.in-Ok-None.field-0-is (c.in-Ok-None.ensures.read file image place) place

pub returns-in-Ok-None-clause-cause : goal.returns-in-Ok-None-clause-cause
returns-in-Ok-None-clause-cause g c = cause_found _ _ _ _ c.in-Ok-None.ensures.cause (λ failed. cc failed)

pub returns-in-Err-clause-kept : goal.returns-in-Err-clause-kept
returns-in-Err-clause-kept g c = λ file image place.
    let is : c.from.result ≡ fault_of c.in-Err.fault = search (rules, c.from.ensures) in
    subst (IsFault (kept_with c.args.part file (bodies_of file))) (sym is) (read_fault_is (kept_with c.args.part file (bodies_of file)) c.in-Err.fault)

pub returns-in-Err-clause-cause : goal.returns-in-Err-clause-cause
returns-in-Err-clause-cause g c =
    let is : c.from.result ≡ fault_of c.in-Err.fault = search (rules, c.from.ensures) in
    cause_read _ _ c.in-Err.fault c.from.result is c.in-Err.ensures.cause
