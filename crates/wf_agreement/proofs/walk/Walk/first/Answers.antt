use Rattle.std.proofs.Common.{◌∙◌, subst, sym}
use Rattle.wf_views.specs.Views.{View}
use Rattle.wf_views.specs.Laws.{IsViewOf}
use Rattle.wf_worlds.proofs.Keeping.{local_is_view}
use Rattle.wf_agreement.proofs.Walking.{walk_first, first_local, first_own}
use Rattle.wf_agreement.proofs.walk.Walk.first.Goals as goal

pub own_step-requires : goal.own_step-requires
own_step-requires c =
    subst (λ (v : View). IsViewOf c.args.part.now v) (sym (c.in_ok-view.ensures ∙ first_local c.args.part.now c.args.history.now.past)) (local_is_view c.args.part.now c.args.history.now.past 0)

pub returns : goal.returns
returns c =
    walk_first c.args.part.now c.args.history.now.past c.in_ok-view.view c.new-2.result c.in_ok-next.next
    (c.in_ok-view.ensures ∙ first_local c.args.part.now c.args.history.now.past)
    c.new-2.ensures
    (c.in_ok-next.ensures ∙ first_own c.args.part.now c.args.history.now.past c.in_ok-view.view c.new.result c.in_ok-view.ensures c.new.ensures)
