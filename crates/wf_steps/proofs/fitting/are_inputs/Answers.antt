use Rattle.std.proofs.Common.{sym, ap, length, ◌∙◌}
use Rattle.wf_steps.proofs.Fits.{other_number}
use Rattle.wf_steps.proofs.fitting.are_inputs.Goals as goal

pub returns-then-peers-inputs : goal.returns-then-peers-inputs
returns-then-peers-inputs c = sym (other_number c.args.part.now c.args.step c.args.part.now.peers c.args.inputs.now (λ e. c.if-peers-inputs.true (ap length c.as_slice-peers.ensures ∙ e)))
