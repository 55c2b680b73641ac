use Rattle.std.proofs.Common.{◌≡◌, ◌⊎◌, inl, inr, ◌+◌, ◌≤◌, arith, subst}
use Rattle.wf_parts.specs.Parts.{IsPart}
use Rattle.wf_histories.specs.Histories.{taken}
use Rattle.wf_server.proofs.Lending.{range_kept}
use Rattle.wf_server.proofs.node.Node.own_update.Goals as goal

pub returns-then-step-taken-clause-range : goal.returns-then-step-taken-clause-range
returns-then-step-taken-clause-range g c = range_kept _ _ c.self.view_is (subst IsPart c.part.ensures c.data-part.ensures.part) c.history-made.ensures.made c.args.step c.requires.first c.requires.kept

pub returns-else-step-taken-clause-range : goal.returns-else-step-taken-clause-range
returns-else-step-taken-clause-range g c = range_kept _ _ c.self.view_is (subst IsPart c.part.ensures c.data-part.ensures.part) c.history-made.ensures.made c.args.step c.requires.first c.requires.kept
