use Rattle.std.proofs.Common.{◌≡◌, ◌+◌, ◌≤◌, ℕ, None, sym, ap, ◌∙◌, subst, arith}
use Rattle.wf_histories.specs.Histories.{taken}
use Rattle.wf_steps.specs.Fitting.{MayBeReceived}
use Rattle.wf_server.specs.Servers.{Server}
use Rattle.wf_server.specs.Receiving.{IsNext}
use Rattle.wf_server.proofs.Keeping.{node_next, node_later, none_next}
use Rattle.wf_server.proofs.node.Node.hold.Goals as goal

pub invariant_of-self : goal.invariant_of-self
invariant_of-self g c =
    let P : Server g.row.D.Denot → Type 0 = λ s. IsNext s c.args.update None × MayBeReceived s.part c.args.update in
    let new = subst P (sym c.self.view_is) c.requires in
    let step : c.args.update.step ≡ taken c.self.inside.replica.past + 1 = c.if-update-taken.true ∙ ap (λ n. n + 1) c.taken.ensures.taken in
    node_next g.D.Disk.told _ _ _ _ _ c.args.update c.self.invariant new.0.peer new.1 _ (none_next c.self.inside.came.items c.self.inside.early.items (taken c.self.inside.replica.past) c.args.update.from.0 c.args.update.step new.0.is_held step) step c.put.ensures

pub invariant_of-self-else-update-taken : goal.invariant_of-self-else-update-taken
invariant_of-self-else-update-taken g c =
    let P : Server g.row.D.Denot → Type 0 = λ s. IsNext s c.args.update None × MayBeReceived s.part c.args.update in
    let new = subst P (sym c.self.view_is) c.requires in
    let later = new.0.later in
    let near = new.0.near in
    let now = c.taken.ensures.taken in
    let unlike = c.if-update-taken.false in
    let step : c.args.update.step ≡ taken c.self.inside.replica.past + 2 = omega (arith, later, near, now, unlike) in
    node_later g.D.Disk.told _ _ _ _ _ c.args.update c.self.invariant new.0.peer new.1 _ step c.put-else-update-taken.ensures
