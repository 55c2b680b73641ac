use Rattle.wf_masks.proofs.Words.{bits_none}
use Rattle.wf_masks.proofs.masks.Bits.new.Goals as goal

pub returns : goal.returns
returns g c = bits_none g.row.W
