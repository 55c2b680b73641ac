use Rattle.std.proofs.Common.{◌≡◌, ◌∙◌, ◌++◌, true, List, [], ◌∷◌, is_ok, ap, sym, subst}
use Rattle.wf_model.specs.declared.outer.Entry.{Entry}
use Rattle.wf_model.specs.declared.outer.Outer.{Outer}
use Rattle.wf_semantics.specs.Admission.{may_be_admitted, may_come}
use Rattle.wf_central.specs.Kept.{central_of}
use Rattle.wf_central.proofs.Orders.{may_come-more}
use Rattle.wf_central.proofs.run.CentralRun.admit.Goals as goal

pub returns-in_ok-push-in-Ok-clause-of : goal.returns-in_ok-push-in-Ok-clause-of
returns-in_ok-push-in-Ok-clause-of c =
    let chart = c.args.checked.now in
    let pending = c.args.self.now.pending in
    let central = central_of chart c.args.self.now.central in
    let entry : Outer → Entry = λ o. record { unit = c.args.unit; outer = o } in
    let pushed : c.push.new.self ≡ pending ++ entry c.args.outer.now ∷ [] =
    c.in_ok-push-in-Ok.ensures.ok ∙ ap (λ o. pending ++ entry o ∷ []) c.in_ok-outer-in-Ok.ensures in
    let admitted : is_ok (may_be_admitted chart central.items pending c.args.unit.0 c.args.outer.now) ≡ true =
    sym (ap is_ok (c.in-Ok.ensures pending (sym c.completes-again.ensures))) in
    record {
      of = c.requires.of;
      come = subst (λ (ps : List Entry). may_come chart central.items ps ≡ true) (sym pushed) (may_come-more chart central pending (entry c.args.outer.now) c.requires.come admitted);
    }
