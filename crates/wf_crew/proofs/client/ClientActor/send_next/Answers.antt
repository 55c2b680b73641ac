use Rattle.std.proofs.Common.{refl, sym}
use Rattle.wf_crew.proofs.Lines.{line_sent}
use Rattle.wf_crew.proofs.client.ClientActor.send_next.Goals as goal

pub returns-clause-on : goal.returns-clause-on
returns-clause-on c =
    line_sent c.args.self.now _ c.in-Some.event.now c.requires (sym c.in-Some.ensures.value) c.in-Some.ensures.within refl refl c.push.ensures.ring refl c.in_ok-push.ensures.ok.0
