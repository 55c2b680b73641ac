use Rattle.std.proofs.Common.{◌<◌, ◌-◌, arith, rules, length, map, ap, sym, ◌∙◌}
use Rattle.wf_model.specs.Tree.{scope, all_states}
use Rattle.wf_semantics.proofs.Facts.{chart_of}
use Rattle.wf_semantics.proofs.Scopes.{scope_facts}
use Rattle.wf_semantics.proofs.Places.{above_low}
use Rattle.wf_model.proofs.Rows.{row_len}
use Rattle.wf_central.proofs.Choosing.{chosen_from}
use Rattle.wf_central.proofs.Choosing.{passed_over, taken_up, none_yet, all_chosen}
use Rattle.wf_central.proofs.passes.choice_table.Goals as goal

pub loop-t-init : goal.loop-t-init
loop-t-init c = record {
  within = search rules;
  rest = none_yet c.args.chart.now c.args.ready.now c.in_ok-table.table c.in_ok-table.ensures
      ∙ ap (λ n. map (chosen_from c.args.chart.now c.args.ready.now n) (all_states c.args.chart.now)) (sym c.len-t.ensures);
}

pub overflow_cast-id : goal.overflow_cast-id
overflow_cast-id c = omega (arith, (chart_of c.args.chart.now c.requires.accepted).few_transitions, c.loop-t.invariant.within)

pub set-requires : goal.set-requires
set-requires c =
    let ok = chart_of c.args.chart.now c.requires.accepted in
    let t = c.loop-t.t - 1 in
    let lt : c.loop-t.t - 1 < length c.args.chart.now.transitions = omega arith in
    let is = c.scope.ensures c.args.chart.now c.requires.of lt in
    let above = (scope_facts c.args.chart.now ok (c.loop-t.t - 1) lt).2 in
    omega (
      arith,
      row_len (chosen_from c.args.chart.now c.args.ready.now c.loop-t.t) (length c.args.chart.now.states) c.loop-t.table c.loop-t.invariant.rest,
      above_low c.args.chart.now ok (scope c.args.chart.now (c.loop-t.t - 1)) _ above,
      (ok.sources (c.loop-t.t - 1) lt).1,
      is,
    )

pub loop-t-preserved-then-is_set : goal.loop-t-preserved-then-is_set
loop-t-preserved-then-is_set c = record {
  within = omega arith;
  rest =
      let ok = chart_of c.args.chart.now c.requires.accepted in
      let lt : c.loop-t.t - 1 < length c.args.chart.now.transitions = omega arith in
      let is = c.scope.ensures c.args.chart.now c.requires.of lt in
      let above = (scope_facts c.args.chart.now ok (c.loop-t.t - 1) lt).2 in
      taken_up c.args.chart.now c.args.ready.now c.loop-t.t c.scope.result.0 c.loop-t.table c.set.new.self c.loop-t-test.true c.loop-t.invariant.within (sym c.is_set.ensures ∙ c.if-is_set.true) is
      (omega (arith, above_low c.args.chart.now ok (scope c.args.chart.now (c.loop-t.t - 1)) _ above, (ok.sources (c.loop-t.t - 1) lt).1, is))
      c.loop-t.invariant.rest c.set.ensures;
}

pub loop-t-preserved : goal.loop-t-preserved
loop-t-preserved c = record {
  within = omega arith;
  rest = passed_over c.args.chart.now c.args.ready.now c.loop-t.t c.loop-t.table c.loop-t-test.true c.loop-t.invariant.within (sym c.is_set.ensures ∙ c.if-is_set.false) c.loop-t.invariant.rest;
}

pub returns : goal.returns
returns c = all_chosen c.args.chart.now c.args.ready.now c.loop-t.t c.loop-t.table (omega arith) c.loop-t.invariant.rest
