use Rattle.std.proofs.Common.{◌∙◌}
use Rattle.wf_central.specs.Kept.{central_of}
use Rattle.wf_audit.proofs.Sights.{sight_is}
use Rattle.wf_audit.proofs.central.sight.Goals as goal

pub returns : goal.returns
unfolding central_of
returns c =
    sight_is c.args.checked.now c.args.central.now c.taken.result c.in_ok-states_in.field-0 c.in_ok-vars_of.field-0 c.in_ok-from_slice.field-0
    (c.taken.ensures c.args.checked.now) c.in_ok-states_in.ensures c.in_ok-vars_of.ensures (c.in_ok-from_slice.ensures ∙ c.raised.ensures c.args.checked.now)
