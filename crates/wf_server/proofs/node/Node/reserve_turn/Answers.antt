use Rattle.std.proofs.Common.{◌≡◌, ◌+◌, ◌<◌, ◌≤◌, ℕ, true, List, Option, sym, ap, ◌∙◌, subst}
use Rattle.wf_model.specs.Limits.{max_steps}
use Rattle.wf_model.specs.declared.update.Update.{Update}
use Rattle.wf_journal.specs.State.{Kept}
use Rattle.wf_parts.specs.Parts.{IsPart}
use Rattle.wf_histories.specs.Histories.{taken}
use Rattle.wf_steps.specs.Growing.{MayTurn}
use Rattle.wf_server.specs.Servers.{Server, inputs_of}
use Rattle.wf_server.specs.Inbox.{AllCame}
use Rattle.wf_server.specs.Images.{Stands, IsPlaced}
use Rattle.wf_server.specs.Nodes.{IsReady}
use Rattle.wf_server.proofs.Inputs.{may_turn}
use Rattle.wf_server.proofs.Keeping.{node_of, some_ready, view_kept}
use Rattle.wf_server.proofs.node.Node.reserve_turn.Goals as goal

pub make_ready-requires-clause-may : goal.make_ready-requires-clause-may
make_ready-requires-clause-may g c =
    let P : Server g.row.D.Denot → Type 0 = λ s. AllCame s.part s.came × (taken s.past < max_steps) in
    let both = subst P (sym c.self.view_is) (c.requires.came, c.requires.steps) in
    subst (λ (slots : List (Option Update)). MayTurn c.self.inside.replica.part c.self.inside.replica.past (inputs_of slots)) (sym c.as_slice-came.ensures.value)
    (may_turn c.self.inside.replica.part c.self.inside.replica.past c.self.inside.came.items (subst IsPart c.part.ensures c.data-part.ensures.part) c.self.invariant.came_is both.0 both.1)

pub invariant_of-self-2 : goal.invariant_of-self-2
invariant_of-self-2 g c =
    let P : Kept g.row.D.Denot → Type 0 = λ k. Stands (g.D.Disk.told k.disk) k.failed c.self.inside.replica.part c.self.inside.replica.past in
    let Q : Kept g.row.D.Denot → Type 0 = λ k. IsPlaced g.D.Disk.told k c.self.inside.replica.part c.self.inside.replica.past in
    node_of g.D.Disk.told _ _ _ _ _ _ _ c.make_ready.ensures.part c.make_ready.ensures.past (subst P (sym c.make_ready.ensures.journal) c.self.invariant.stands) (subst Q (sym c.make_ready.ensures.journal) c.self.invariant.placed) c.self.invariant.came_is c.self.invariant.early_is
    (some_ready (IsReady c.make_ready.new.journal.room c.make_ready.new.replica c.self.inside.came.items) _ (subst (λ (slots : List (Option Update)). IsReady c.make_ready.new.journal.room c.make_ready.new.replica slots c.in_ok-ready.ready) c.as_slice-came.ensures.value c.in_ok-ready.ensures.ready))

pub returns-clause-kept : goal.returns-clause-kept
returns-clause-kept g c = view_kept _ _ c.make_ready.new.journal c.make_ready.new.replica.part c.make_ready.new.replica.past true c.self.view_is c.make_ready.ensures.journal c.make_ready.ensures.part c.make_ready.ensures.past
