use Rattle.wf_cursor.proofs.Reserved.{names_are_not_reserved}
use Rattle.wf_cursor.proofs.laws.names_are_not_reserved.Goals as goal

pub returns : goal.returns
returns c = names_are_not_reserved
