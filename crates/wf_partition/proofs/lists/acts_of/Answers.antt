use Rattle.std.proofs.Common.{◌≡◌, ◌<◌, ◌∙◌, length, get_or, rules, sym, ap, arith, false}
use Rattle.wf_parts.specs.declared.data.KnownActivity.{KnownActivity}
use Rattle.wf_parts.specs.Known.{knows_act}
use Rattle.wf_parts.specs.Parts.{known_activity}
use Rattle.wf_model.proofs.Few.{few_acts}
use Rattle.wf_model.proofs.Rows.{row_at}
use Rattle.wf_partition.proofs.Numbered.{kept, left_out, all_kept}
use Rattle.wf_partition.proofs.lists.acts_of.Goals as goal
use Rattle.wf_partition.proofs.lists.acts_of.Goals.{then-is_set+in_ok-outputs+in_ok-push, else-is_set}

pub loop-a-preserved : goal.loop-a-preserved
loop-a-preserved c =
    let chart = c.args.chart.now in
    let within : c.loop-a.a < length c.args.chart.now.acts = search rules in
    let there : c.act-item.result ≡ get_or c.args.chart.now.acts c.loop-a.a c.act-item.result = search rules in
    let known = c.is_set.ensures ∙ row_at (knows_act chart c.args.unit.0) (length chart.acts) c.loop-a.a false c.args.known.now c.requires.known within in
    elim c.if-is_set.branch [
      | then-is_set+in_ok-outputs+in_ok-push w ↦ w.acts-is
          ∙ kept (known_activity chart c.args.unit.0) (knows_act chart c.args.unit.0) chart.acts c.loop-a.a c.act-item.result _ c.loop-a.acts w.push.new.self within there (sym known ∙ w.if-is_set.true)
          (ap (λ o. let k : KnownActivity = record { id = record { 0 = c.loop-a.a }; unit = c.act-item.result.unit; outputs = o } in k) w.in_ok-outputs.ensures) c.loop-a.invariant w.in_ok-push.ensures.ok
      | else-is_set w ↦ w.acts-is
          ∙ left_out (known_activity chart c.args.unit.0) (knows_act chart c.args.unit.0) chart.acts c.loop-a.a c.act-item.result c.loop-a.acts within there (sym known ∙ w.if-is_set.false) c.loop-a.invariant
    ]

pub returns : goal.returns
returns c =
    let all : length c.args.chart.now.acts ≡ c.loop-a.a = search rules in
    all_kept (known_activity c.args.chart.now c.args.unit.0) (knows_act c.args.chart.now c.args.unit.0) c.args.chart.now.acts c.loop-a.a c.loop-a.acts all c.loop-a.invariant

pub overflow_cast-a : goal.overflow_cast-a
overflow_cast-a c =
    let within : c.loop-a.a < length c.args.chart.now.acts = search rules in
    omega (arith, few_acts c.args.chart.now c.requires.accepted)
