use Rattle.std.proofs.Common.{◌≡◌, ap}
use Rattle.wf_steps.specs.Records.{history_of}
use Rattle.wf_steps.specs.declared.fault.RecoverFault.TheVariants as steps
use Rattle.wf_trail.specs.Images.{some_of}
use Rattle.wf_trail.proofs.Readings.{fault_of_image, cause_found, cause_told}
use Rattle.wf_trail.proofs.reading.recover_unit.Goals as goal

pub returns-in-Ok-clause-kept : goal.returns-in-Ok-clause-kept
returns-in-Ok-clause-kept g c = λ file image place. ap some_of (c.in-Ok.ensures.history file image place)

pub returns-in-Ok-clause-cause : goal.returns-in-Ok-clause-cause
returns-in-Ok-clause-cause g c = cause_found _ _ _ _ c.in-Ok.ensures.cause (λ failed. failed)

pub returns-in-Err-clause-kept : goal.returns-in-Err-clause-kept
returns-in-Err-clause-kept g c = λ file image place. fault_of_image (history_of c.args.part file) c.in-Err.refused.fault (c.in-Err.ensures.fault file image place)

pub returns-in-Err-clause-cause : goal.returns-in-Err-clause-cause
returns-in-Err-clause-cause g c = cause_told _ _ (c.in-Err.refused.fault ≡ steps.DiskFailed) c.in-Err.refused.fault c.in-Err.ensures.cause (λ failed. failed) (λ failed. failed)
