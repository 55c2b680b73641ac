use Rattle.std.proofs.Common.{◌∙◌, sym, rules}
use Rattle.wf_views.specs.Views.{outputs_of}
use Rattle.wf_owns.specs.Sorted.{is_fit_output}
use Rattle.wf_steps.proofs.Fits.{all_flat}
use Rattle.wf_steps.proofs.fitting.are_fit_outers.Goals as goal

pub returns : goal.returns
returns c = c.each_fits.ensures ∙ sym (all_flat (is_fit_output c.args.part.now) outputs_of c.args.outers.now)
