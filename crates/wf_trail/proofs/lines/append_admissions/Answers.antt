use Rattle.wf_trail.proofs.Records.{admission_added}
use Rattle.wf_trail.proofs.lines.append_admissions.Goals as goal

pub loop-at-preserved : goal.loop-at-preserved
loop-at-preserved c =
    admission_added c.args.chart.now c.args.before c.loop-at.at c.args.admissions.now c.index-admissions-at.result c.loop-at.text c.append_admission.new.text _ c.loop-at-test.true
    c.index-admissions-at.is c.in_ok-append_admission.ensures c.loop-at.invariant
