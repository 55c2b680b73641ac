use Rattle.wf_slot.proofs.Spelled.{ok_some}
use Rattle.wf_slot.proofs.slot.showing.letter_of.Goals as goal

pub returns-clause-some : goal.returns-clause-some
returns-clause-some c = ok_some _ _ c.encode.ensures
