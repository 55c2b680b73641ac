use Rattle.std.proofs.Common.{◌≡◌, ◌<◌, ◌==◌, ◌&&◌, ◌∙◌, ℕ, Bool, List, length, get_or, rules, false, refl, ap, eq-eqb, eqb-true}
use Rattle.std.specs.List.{list_any}
use Rattle.std.proofs.lemmas.Bool.{false_from_ne_true}
use Rattle.wf_model.specs.declared.ids.VarId.{VarId}
use Rattle.wf_partition.specs.Marked.{marked, gives_at}
use Rattle.wf_partition.proofs.Bits.{marked_none, numbers_more, marked_counted, marked_skipped}
use Rattle.wf_partition.proofs.Known.{given_at}
use Rattle.wf_partition.proofs.holding.mark_given.Goals as goal
use Rattle.wf_partition.proofs.holding.mark_given.Goals.{then-act-unit, else-act-unit}

pub loop-act-init : goal.loop-act-init
loop-act-init c = marked_none (λ x. false) c.args.vars.now (λ x. refl)

pub loop-act-preserved : goal.loop-act-preserved
loop-act-preserved c =
    let chart = c.args.chart.now in
    let u = c.args.unit.0 in
    let item = c.act-item.result in
    let within : c.loop-act.act-index < length c.args.chart.now.acts = search rules in
    let there : c.act-item.result ≡ get_or c.args.chart.now.acts c.loop-act.act-index c.act-item.result = search rules in
    let own : Bool = item.unit.0 == u in
    let test = λ (x : ℕ). list_any (λ v. v.0 == x) item.outputs in
    let more = λ (new : List Bool) (made : new ≡ marked (λ x. own && test x) c.loop-act.vars).
    numbers_more (λ a x. gives_at chart u x a) (λ x. own && test x) c.loop-act.act-index c.args.vars.now c.loop-act.vars new
    c.loop-act.invariant made (given_at chart u c.loop-act.act-index item within there) in
    elim c.if-act-unit.branch [
      | then-act-unit w ↦ more _ (w.vars-is ∙ marked_counted own test c.loop-act.vars w.mark_vars.new.vars (eq-eqb _ _ w.if-act-unit.true)
          (w.mark_vars.ensures ∙ ap (λ (xs : List VarId). marked (λ (x : ℕ). list_any (λ v. v.0 == x) xs) c.loop-act.vars) w.as_slice.ensures))
      | else-act-unit w ↦ more _ (w.vars-is ∙ marked_skipped own test c.loop-act.vars (false_from_ne_true own (λ e. w.if-act-unit.false (eqb-true _ _ e))))
    ]
