use Rattle.std.proofs.Common.{◌≡◌, ◌<◌, ◌∙◌, length, get_or, rules, sym, arith, refl, false}
use Rattle.wf_parts.specs.Parts.{known_variable}
use Rattle.wf_model.proofs.Few.{few_vars}
use Rattle.wf_parts.specs.Known.{knows_var}
use Rattle.wf_model.proofs.Rows.{row_at}
use Rattle.wf_partition.proofs.Numbered.{kept, left_out, all_kept}
use Rattle.wf_partition.proofs.lists.vars_of.Goals as goal
use Rattle.wf_partition.proofs.lists.vars_of.Goals.{then-is_set+in_ok-push, else-is_set}

pub loop-x-preserved : goal.loop-x-preserved
loop-x-preserved c =
    let chart = c.args.chart.now in
    let within : c.loop-x.x < length c.args.chart.now.vars = search rules in
    let there : c.var-item.result ≡ get_or c.args.chart.now.vars c.loop-x.x c.var-item.result = search rules in
    let known = c.is_set.ensures ∙ row_at (knows_var chart c.args.unit.0) (length chart.vars) c.loop-x.x false c.args.known.now c.requires.known within in
    elim c.if-is_set.branch [
      | then-is_set+in_ok-push w ↦ w.vars-is
          ∙ kept known_variable (knows_var c.args.chart.now c.args.unit.0) chart.vars c.loop-x.x c.var-item.result _ c.loop-x.vars w.push.new.self within there (sym known ∙ w.if-is_set.true)
          (refl) c.loop-x.invariant w.in_ok-push.ensures.ok
      | else-is_set w ↦ w.vars-is
          ∙ left_out known_variable (knows_var c.args.chart.now c.args.unit.0) chart.vars c.loop-x.x c.var-item.result c.loop-x.vars within there (sym known ∙ w.if-is_set.false) c.loop-x.invariant
    ]

pub returns : goal.returns
returns c =
    let all : length c.args.chart.now.vars ≡ c.loop-x.x = search rules in
    all_kept known_variable (knows_var c.args.chart.now c.args.unit.0) c.args.chart.now.vars c.loop-x.x c.loop-x.vars all c.loop-x.invariant

pub overflow_cast-x : goal.overflow_cast-x
overflow_cast-x c =
    let within : c.loop-x.x < length c.args.chart.now.vars = search rules in
    omega (arith, few_vars c.args.chart.now c.requires.accepted)
