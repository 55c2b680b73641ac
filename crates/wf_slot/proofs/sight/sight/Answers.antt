use Rattle.std.proofs.Common.{◌∙◌, ap}
use Rattle.wf_slot.specs.Shown.{states_in}
use Rattle.wf_slot.proofs.Showing.{shown_by}
use Rattle.wf_slot.proofs.sight.sight.Goals as goal

pub returns : goal.returns
returns c =
    shown_by c.args.part.now c.args.view.now c.args.taken c.args.admitted c.in_ok-inside.inside _ _ (c.in_ok-own_states.ensures ∙ ap (states_in c.in_ok-inside.inside) c.as_slice.ensures)
    c.in_ok-inside.ensures (c.in_ok-from_slice.ensures ∙ c.vars.ensures)
