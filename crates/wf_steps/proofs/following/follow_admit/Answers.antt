use Rattle.std.proofs.Common.{◌∙◌, ap, sym, subst}
use Rattle.std.specs.Prelude.{Some}
use Rattle.wf_parts.specs.declared.data.PartData.{PartData}
use Rattle.wf_histories.specs.Histories.{History}
use Rattle.wf_worlds.specs.Growing.{admitted}
use Rattle.wf_steps.specs.Growing.{MayAdmit}
use Rattle.wf_steps.proofs.Follows.{admission_after, admission_none, may_admit_it}
use Rattle.wf_steps.proofs.following.follow_admit.Goals as goal

pub returns-then-not-admission_follows-clause-misfit : goal.returns-then-not-admission_follows-clause-misfit
returns-then-not-admission_follows-clause-misfit c _ = admission_none c.args.replica.now.part c.args.replica.now.past c.args.request c.args.outer (sym c.admission_follows.ensures ∙ c.if-not-admission_follows.true)

pub admit-requires-clause-may : goal.admit-requires-clause-may
admit-requires-clause-may c =
    subst (λ (p : PartData). MayAdmit p c.reserve_admit.new.self.past (record { request = c.args.request; outer = c.args.outer })) (sym c.reserve_admit.ensures.part)
    (subst (λ (h : History). MayAdmit c.args.replica.now.part h (record { request = c.args.request; outer = c.args.outer })) (sym c.reserve_admit.ensures.past)
    (may_admit_it c.args.replica.now.part c.args.replica.now.past c.args.request c.args.outer (sym c.admission_follows.ensures ∙ c.if-not-admission_follows.false)))

pub returns-clause-ok : goal.returns-clause-ok
returns-clause-ok c =
    admission_after c.args.replica.now.part c.args.replica.now.past c.args.request c.args.outer (sym c.admission_follows.ensures ∙ c.if-not-admission_follows.false)
    ∙ ap (λ (h : History). Some (admitted h (record { request = c.args.request; outer = c.args.outer }))) (sym c.reserve_admit.ensures.past) ∙ ap (λ (h : History). Some h) (sym c.admit.ensures.past)
