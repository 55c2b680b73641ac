use Rattle.std.proofs.Common.{arith}
use Rattle.std.proofs.lemmas.Grind.{common_steps}
use Rattle.wf_codec.proofs.Parts.{update_spelling}
use Rattle.wf_codec.proofs.spelled.UpdateSpell.spell.Goals as goal

pub returns : goal.returns
returns c = rw (update_spelling c.args.self.now) (grind (arith, common_steps))
