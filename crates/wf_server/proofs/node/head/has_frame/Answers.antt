use Rattle.wf_server.proofs.Empty.{read_none, read_some}
use Rattle.wf_server.proofs.node.head.has_frame.Goals as goal

pub returns-in-Ok-Some-clause-some : goal.returns-in-Ok-Some-clause-some
returns-in-Ok-Some-clause-some g c = λ _ file is. read_some file _ _ _ c.in-Ok-Some.field-0-is (c.in-Ok-Some.ensures.read file is (c.requires file is))

pub returns-in-Ok-None-clause-none : goal.returns-in-Ok-None-clause-none
returns-in-Ok-None-clause-none g c = λ _ file is. read_none file _ _ c.in-Ok-None.field-0-is (c.in-Ok-None.ensures.read file is (c.requires file is))
