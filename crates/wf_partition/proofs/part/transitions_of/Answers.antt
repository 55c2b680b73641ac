use Rattle.std.proofs.Common.{◌≡◌, ◌<◌, ◌∙◌, length, get_or, rules, sym, arith, false}
use Rattle.wf_semantics.proofs.Facts.{chart_of}
use Rattle.wf_model.proofs.Rows.{row_at}
use Rattle.wf_scopes.proofs.Lines.{source_read}
use Rattle.wf_parts.specs.Known.{concerns}
use Rattle.wf_parts.specs.Parts.{part_transition}
use Rattle.wf_partition.proofs.Numbered.{kept, left_out, all_kept}
use Rattle.wf_partition.proofs.part.transitions_of.Goals as goal
use Rattle.wf_partition.proofs.part.transitions_of.Goals.{then-is_set+in_ok-known+in_ok-push, else-is_set}

pub loop-t-preserved : goal.loop-t-preserved
loop-t-preserved c =
    let chart = c.args.chart.now in
    let within : c.loop-t.t < length c.args.chart.now.transitions = search rules in
    let there : c.transition-item.result ≡ get_or c.args.chart.now.transitions c.loop-t.t c.transition-item.result = search rules in
    let known = c.is_set.ensures ∙ row_at (concerns chart c.args.unit.0) (length chart.transitions) c.loop-t.t false c.args.concerned.now c.requires.concerned within in
    elim c.if-is_set.branch [
      | then-is_set+in_ok-known+in_ok-push w ↦ w.transitions-is
          ∙ kept (part_transition chart c.args.unit.0) (concerns chart c.args.unit.0) chart.transitions c.loop-t.t c.transition-item.result _ c.loop-t.transitions w.push.new.self within there (sym known ∙ w.if-is_set.true)
          (w.in_ok-known.ensures) c.loop-t.invariant w.in_ok-push.ensures.ok
      | else-is_set w ↦ w.transitions-is
          ∙ left_out (part_transition chart c.args.unit.0) (concerns chart c.args.unit.0) chart.transitions c.loop-t.t c.transition-item.result c.loop-t.transitions within there (sym known ∙ w.if-is_set.false) c.loop-t.invariant
    ]

pub returns : goal.returns
returns c =
    let all : length c.args.chart.now.transitions ≡ c.loop-t.t = search rules in
    all_kept (part_transition c.args.chart.now c.args.unit.0) (concerns c.args.chart.now c.args.unit.0) c.args.chart.now.transitions c.loop-t.t c.loop-t.transitions all c.loop-t.invariant

pub overflow_cast-t : goal.overflow_cast-t
overflow_cast-t c =
    let within : c.loop-t.t < length c.args.chart.now.transitions = search rules in
    omega (arith, (chart_of c.args.chart.now c.requires.accepted).few_transitions)

pub part_transition-requires-clause-source : goal.part_transition-requires-clause-source
part_transition-requires-clause-source c = source_read c.args.chart.now c.loop-t.t c.transition-item.result (search rules) (search rules)
