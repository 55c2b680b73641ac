use Rattle.std.proofs.Common.{◌≡◌, sym, ◌∙◌, subst}
use Rattle.std.specs.Prelude.{Result, Ok, Err, IfOk}
use Rattle.wf_model.specs.declared.update.Update.{Update}
use Rattle.wf_codec.specs.Ranges.{IsInRange}
use Rattle.wf_server.proofs.Cuts.{range_of}
use Rattle.wf_server.proofs.node.Node.sending.Goals as goal

pub returns-clause-range : goal.returns-clause-range
returns-clause-range g c = range_of c.part.result.now.peers c.own_update.result.now c.args.peer.0 c.relevant.result (subst IsInRange (sym c.own_update.ensures.update) c.own_update.ensures.range) c.relevant.ensures
