use Rattle.wf_server.proofs.Beginnings.{letters_stay}
use Rattle.wf_server.proofs.laws.letters_stay.Goals as goal

pub returns : goal.returns
returns c = letters_stay
