use Rattle.std.proofs.Common.{◌<◌, ◌≤◌, ◌-◌, ◌∙◌, length, sym, arith}
use Rattle.wf_model.specs.Limits.{max_depth}
use Rattle.wf_print.proofs.Pieces.{none_written, deep_written, table_row, leaf_written, nest_written}
use Rattle.wf_print.proofs.states.+append_state.Goals as goal

pub returns-then-depth-eq-MAX_DEPTH : goal.returns-then-depth-eq-MAX_DEPTH
returns-then-depth-eq-MAX_DEPTH t c = deep_written c.args.chart.now c.args.depth c.args.s c.args.text.now c.if-depth-eq-MAX_DEPTH.true

pub returns-in_default : goal.returns-in_default
returns-in_default t c = none_written c.args.chart.now (max_depth - c.args.depth) c.args.depth c.args.s c.args.text.now (sym c.in_default.ensures.value)

pub returns-then-is_empty : goal.returns-then-is_empty
returns-then-is_empty t c =
    let within : c.args.depth < max_depth = omega arith in
    leaf_written c.append.result c.args.chart.now c.args.depth c.args.s c.in-Some.state.now c.row_of-inside.result.now c.args.text.now c.append_opening.new.text c.append.new.self within
    (sym c.in-Some.ensures.value) (c.row_of-inside.ensures ∙ table_row c.args.chart.now c.args.children.now c.args.s c.requires.table c.in-Some.ensures.within)
    (sym c.is_empty.ensures ∙ c.if-is_empty.true) c.in_ok-append_opening.ensures c.append.ensures.ok

pub returns : goal.returns
returns t c =
    let within : c.args.depth < max_depth = omega arith in
    let over : length c.row_of-inside.result.now ≤ c.loop-child.child-index = omega (arith, c.loop-child-test.false) in
    nest_written c.append_closing.result c.args.chart.now c.args.depth c.args.s c.loop-child.child-index c.in-Some.state.now c.row_of-inside.result.now c.args.text.now
    c.append_opening.new.text c.append-2.new.self c.loop-child.text c.append_closing.new.text within
    (sym c.in-Some.ensures.value) (c.row_of-inside.ensures ∙ table_row c.args.chart.now c.args.children.now c.args.s c.requires.table c.in-Some.ensures.within)
    (sym c.is_empty.ensures ∙ c.if-is_empty.false) c.in_ok-append_opening.ensures c.in_ok-append.ensures.ok c.loop-child.invariant over c.append_closing.ensures
