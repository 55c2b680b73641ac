use Rattle.std.proofs.Common.{ap, ◌∙◌, length}
use Rattle.wf_semantics.specs.Configuration.{is_in}
use Rattle.wf_model.specs.Bits.{bit}
use Rattle.wf_central.specs.Kept.{Kept, central_of}
use Rattle.wf_central.proofs.Passing.{row_bit}
use Rattle.wf_central.proofs.state.CentralState.is_in.Goals as goal

pub returns : goal.returns
returns c = λ chart of lt.
    c.is_set.ensures
    ∙ ap (λ bits. bit bits c.args.s.0) (c.as_slice.ensures ∙ ap (λ (k : Kept). k.active) c.self.view_is)
    ∙ row_bit (λ z. is_in z (central_of chart c.args.self.now).configuration) (length chart.states) c.args.s.0 c.args.self.now.active of.active lt
