use Rattle.wf_journal.proofs.Spelled.{front_frames, gate_shut, bodies_are}
use Rattle.wf_journal.proofs.laws.journals_are_frames.Goals as goal

pub returns-clause-front : goal.returns-clause-front
returns-clause-front c = front_frames

pub returns-clause-gate : goal.returns-clause-gate
returns-clause-gate c = gate_shut

pub returns-clause-bodies : goal.returns-clause-bodies
returns-clause-bodies c = bodies_are
