use Rattle.std.proofs.Common.{◌∙◌, Bool, List, true, set, ap, arith}
use Rattle.wf_masks.proofs.Words.{bits_more}
use Rattle.wf_masks.proofs.masks.Bits.set.Goals as goal

pub returns : goal.returns
returns g c =
    bits_more c.self.inside.words c.args.i (omega (arith, c.self.invariant.0, c.requires)) ∙ ap (λ (l : List Bool). set l c.args.i true) c.self.view_is
