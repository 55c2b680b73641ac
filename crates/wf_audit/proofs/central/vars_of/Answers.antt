use Rattle.std.proofs.Common.{◌≡◌, ◌<◌, ◌∙◌, ap, sym, arith, length, [], ◌∷◌, ◌++◌, take}
use Rattle.wf_model.specs.declared.chart.Chart.{Chart}
use Rattle.wf_central.specs.Kept.{central_of}
use Rattle.wf_audit.specs.CentralText.{output}
use Rattle.wf_model.proofs.Few.{few_vars}
use Rattle.wf_audit.proofs.Variables.{outputs_from, outputs_more, store_whole}
use Rattle.wf_audit.proofs.central.vars_of.Goals as goal

pub overflow_cast-var : goal.overflow_cast-var
overflow_cast-var c = omega (arith, few_vars c.args.checked.now c.chart.ensures.accepted, ap (λ (chart : Chart). length chart.vars) c.chart.ensures.same)

pub loop-x-preserved : goal.loop-x-preserved
loop-x-preserved c =
    let within : c.loop-x.x < length c.args.checked.now.vars = omega (arith, c.loop-x-test.true, c.len-x-end.ensures, ap (λ (chart : Chart). length chart.vars) c.chart.ensures.same) in
    c.in_ok-push.ensures.ok ∙ ap (λ l. l ++ output (c.loop-x.x, c.var-val.result) ∷ []) c.loop-x.invariant
    ∙ sym (outputs_more (central_of c.args.checked.now c.args.central.now).store c.loop-x.x c.var-val.result (c.var-val.ensures c.args.checked.now c.requires within))

pub returns : goal.returns
unfolding central_of
returns c =
    let all : c.loop-x.x ≡ length c.args.checked.now.vars = omega (arith, c.loop-x-test.false, c.loop-x.auto.x-end, c.len-x-end.ensures, ap (λ (chart : Chart). length chart.vars) c.chart.ensures.same) in
    c.loop-x.invariant ∙ ap (λ n. outputs_from 0 (take n c.args.central.now.store)) all
    ∙ ap (outputs_from 0) (store_whole c.args.checked.now c.args.central.now.store c.requires.sorts)
