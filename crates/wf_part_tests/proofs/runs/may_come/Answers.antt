use Rattle.std.proofs.Common.{◌∙◌, List, true, false, ap, arith, rules}
use Rattle.wf_model.specs.declared.outer.Entry.{Entry}
use Rattle.wf_semantics.specs.Admission.{may_be_admitted}
use Rattle.wf_central.specs.Kept.{central_of}
use Rattle.wf_part_tests.proofs.Coming.{next_comes, none_left}
use Rattle.wf_part_tests.proofs.runs.may_come.Goals as goal

pub loop-at-preserved : goal.loop-at-preserved
loop-at-preserved c =
    let chart = c.args.checked.now in
    let items = (central_of chart c.args.state.now).items in
    let x : Entry = c.index-entries-at.result in
    next_comes chart items c.args.entries.now c.loop-at.at x c.may_admit-admitted.result true (omega arith) c.index-entries-at.is
    (c.may_admit-admitted.ensures ∙ ap (λ (ps : List Entry). may_be_admitted chart items ps x.unit.0 x.outer) (search rules)) c.if-is_err.ensures.negation
    ∙ c.loop-at.invariant

pub returns-then-is_err : goal.returns-then-is_err
returns-then-is_err c =
    let chart = c.args.checked.now in
    let items = (central_of chart c.args.state.now).items in
    let x : Entry = c.index-entries-at.result in
    next_comes chart items c.args.entries.now c.loop-at.at x c.may_admit-admitted.result false (omega arith) c.index-entries-at.is
    (c.may_admit-admitted.ensures ∙ ap (λ (ps : List Entry). may_be_admitted chart items ps x.unit.0 x.outer) (search rules)) c.if-is_err.ensures.negation
    ∙ c.loop-at.invariant

pub returns : goal.returns
returns c =
    let chart = c.args.checked.now in
    none_left chart (central_of chart c.args.state.now).items c.args.entries.now c.loop-at.at (omega arith) ∙ c.loop-at.invariant
