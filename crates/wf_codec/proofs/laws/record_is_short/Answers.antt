use Rattle.wf_codec.proofs.Lengths.{head_short, admit_short, turn_short}
use Rattle.wf_codec.proofs.laws.record_is_short.Goals as goal

pub returns-clause-head : goal.returns-clause-head
returns-clause-head c = head_short

pub returns-clause-admission : goal.returns-clause-admission
returns-clause-admission c = admit_short

pub returns-clause-turn : goal.returns-clause-turn
returns-clause-turn c = turn_short
