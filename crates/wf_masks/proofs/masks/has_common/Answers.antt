use Rattle.wf_masks.proofs.Words.{common_is}
use Rattle.wf_masks.proofs.masks.has_common.Goals as goal

pub returns : goal.returns
returns c = common_is c.args.word c.args.other c.ranges.word.fits
