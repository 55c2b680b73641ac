use Rattle.std.proofs.Common.{subst}
use Rattle.wf_worlds.specs.Growing.{Fits}
use Rattle.wf_steps.proofs.Made.{made_fits}
use Rattle.wf_server.specs.Servers.{Server}
use Rattle.wf_server.proofs.node.Node.history.Goals as goal

pub returns-clause-fits : goal.returns-clause-fits
returns-clause-fits g c =
    let P : Server g.row.D.Denot → Type 0 = λ s. Fits s.past in
    subst P c.self.view_is (made_fits c.self.inside.replica.part c.history.ensures.made)
