use Rattle.std.proofs.Common.{◌∙◌, ap}
use Rattle.std.specs.List.{list_any}
use Rattle.std.proofs.lemmas.List.{take_all}
use Rattle.wf_semantics.specs.Admission.{completes}
use Rattle.wf_histories.specs.Histories.{Admission}
use Rattle.wf_worklist.proofs.Completed.{any_outer}
use Rattle.wf_worklist.proofs.listing.completion_bits.Goals as goal

pub returns : goal.returns
returns c =
    λ number lt.
    c.loop-admission.invariant.bits number lt
    ∙ ap (list_any (λ (a : Admission). completes number a.outer)) (take_all c.loop-admission.admission-index c.args.admissions.now c.loop-admission-test.false)
    ∙ any_outer (completes number) c.args.admissions.now
