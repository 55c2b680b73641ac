use Rattle.std.proofs.Common.{◌≡◌, ◌<◌, ◌+◌, ◌≤◌, ℕ, List, Option, false, sym, ap, ◌∙◌, subst, arith, rules}
use Rattle.wf_model.specs.Limits.{max_units, max_steps}
use Rattle.wf_model.specs.declared.update.Update.{Update}
use Rattle.wf_parts.specs.declared.data.PartData.{PartData}
use Rattle.wf_parts.specs.Parts.{IsPart}
use Rattle.wf_histories.specs.Histories.{taken}
use Rattle.wf_server.specs.Servers.{Server}
use Rattle.wf_server.specs.Inbox.{AreMissing, AllCame}
use Rattle.wf_server.specs.Answers.{CanTurn}
use Rattle.wf_server.proofs.Inputs.{units_few, all_came}
use Rattle.wf_server.proofs.node.Node.may_turn.Goals as goal

pub missing_peers-absent-requires-clause-few : goal.missing_peers-absent-requires-clause-few
missing_peers-absent-requires-clause-few g c = subst (λ (p : PartData). p.units ≤ max_units) (sym c.data.ensures.same) (units_few c.part.result.now c.data.ensures.part)

pub returns-then-taken-eq-MAX_STEPS-clause-refused : goal.returns-then-taken-eq-MAX_STEPS-clause-refused
returns-then-taken-eq-MAX_STEPS-clause-refused g c =
    let P : Server g.row.D.Denot → Type 0 = λ s. (s.journal.failed ≡ false) × AllCame s.part s.came × (taken s.past ≡ max_steps) in
    subst P c.self.view_is (search rules, all_came c.self.inside.replica.part c.data.result.now c.self.inside.came.items c.as_slice.result.now c.missing_peers-absent.result.0 (subst IsPart c.part.ensures c.data.ensures.part) (c.data.ensures.same ∙ c.part.ensures) c.as_slice.ensures.value c.missing_peers-absent.ensures c.if-absent-ne0.false, sym c.taken.ensures.taken ∙ c.if-taken-eq-MAX_STEPS.true)

pub returns-clause-can : goal.returns-clause-can
returns-clause-can g c =
    let P : Server g.row.D.Denot → Type 0 = λ s. CanTurn s in
    let now = c.taken.ensures.taken in
    let few = c.taken.ensures.few in
    let unlike = c.if-taken-eq-MAX_STEPS.false in
    subst P c.self.view_is (record { healthy = search rules; came = all_came c.self.inside.replica.part c.data.result.now c.self.inside.came.items c.as_slice.result.now c.missing_peers-absent.result.0 (subst IsPart c.part.ensures c.data.ensures.part) (c.data.ensures.same ∙ c.part.ensures) c.as_slice.ensures.value c.missing_peers-absent.ensures c.if-absent-ne0.false; steps = omega (arith, now, few, unlike) })
