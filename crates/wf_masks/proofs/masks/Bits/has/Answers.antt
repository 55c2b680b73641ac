use Rattle.std.proofs.Common.{◌==◌, ◌∙◌, ◌/◌, ◌%◌, ℕ, get_or, sym, ap}
use Rattle.std.proofs.lemmas.Nat.Bits.{shr_and_one}
use Rattle.wf_masks.proofs.Words.{bit_is}
use Rattle.wf_masks.proofs.masks.Bits.has.Goals as goal

pub returns : goal.returns
returns g c =
    ap (λ (n : ℕ). n == 1) (shr_and_one (get_or c.self.inside.words (c.args.i / 64) 0) (c.args.i % 64))
    ∙ sym (bit_is c.self.inside.words c.args.self.now g.row.W c.args.i (sym c.self.view_is) c.self.invariant.0 c.requires)
