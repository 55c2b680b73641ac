use Rattle.std.proofs.Common.{None, length}
use Rattle.wf_codec.specs.Ranges.{chart_numbers}
use Rattle.wf_codec.specs.Fields.{update_at}
use Rattle.wf_codec.proofs.ReadBounds.{update_leaves, rest_is_within, bad_is_within}
use Rattle.wf_codec.proofs.update.first_update.Goals as goal

pub overflow_sub-result : goal.overflow_sub-result
overflow_sub-result c =
    let bytes = c.args.bytes.now in
    rest_is_within (length bytes) (update_at chart_numbers None bytes) c.in-Ok.update c.in-Ok.rest.now (update_leaves chart_numbers None bytes) c.in-Ok.ensures

pub overflow_sub-result-in-Err-Misfit-Bad : goal.overflow_sub-result-in-Err-Misfit-Bad
overflow_sub-result-in-Err-Misfit-Bad c =
    let bytes = c.args.bytes.now in
    let bad = c.in-Err-Misfit-Bad in
    let failed = rw (bad.field-0-is, bad.field-0-0-is) at bad.ensures in
    bad_is_within (length bytes) (update_at chart_numbers None bytes) bad.left (update_leaves chart_numbers None bytes) failed
