use Rattle.std.proofs.Common.{sym, subst}
use Rattle.wf_views.specs.Views.{View}
use Rattle.wf_views.specs.Laws.{IsViewOf}
use Rattle.wf_views.proofs.LawsHold.{first_is_view}
use Rattle.wf_part_tests.proofs.beside.first_update.Goals as goal

pub own_step-requires : goal.own_step-requires
own_step-requires c = subst (λ (v : View). IsViewOf c.args.part.now v) (sym c.in_ok-view.ensures) (first_is_view c.args.part.now)
