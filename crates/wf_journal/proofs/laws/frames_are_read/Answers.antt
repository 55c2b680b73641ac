use Rattle.wf_journal.proofs.Spelled.{frames_bodies, frames_rest}
use Rattle.wf_journal.proofs.laws.frames_are_read.Goals as goal

pub returns-clause-bodies : goal.returns-clause-bodies
returns-clause-bodies c = frames_bodies

pub returns-clause-rests : goal.returns-clause-rests
returns-clause-rests c = frames_rest
