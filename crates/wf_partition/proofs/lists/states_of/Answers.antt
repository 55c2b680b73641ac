use Rattle.std.proofs.Common.{◌≡◌, ◌<◌, ◌∙◌, length, get_or, rules, sym, ap, arith, false}
use Rattle.wf_parts.specs.declared.data.KnownState.{KnownState}
use Rattle.wf_model.specs.Ids.{state_id}
use Rattle.wf_semantics.proofs.Facts.{chart_of}
use Rattle.wf_parts.specs.Known.{knows_state}
use Rattle.wf_parts.specs.Parts.{known_state}
use Rattle.wf_partition.proofs.Known.{first_read}
use Rattle.wf_model.proofs.Rows.{row_at}
use Rattle.wf_partition.proofs.Numbered.{kept, left_out, all_kept}
use Rattle.wf_partition.proofs.lists.states_of.Goals as goal
use Rattle.wf_partition.proofs.lists.states_of.Goals.{then-is_set+in_ok-push, else-is_set}

pub loop-s-preserved : goal.loop-s-preserved
loop-s-preserved c =
    let chart = c.args.chart.now in
    let within : c.loop-s.s < length c.args.chart.now.states = search rules in
    let there : c.state-item.result ≡ get_or c.args.chart.now.states c.loop-s.s c.state-item.result = search rules in
    let known = c.is_set.ensures ∙ row_at (knows_state chart c.args.unit.0) (length chart.states) c.loop-s.s false c.args.known.now c.requires.known within in
    elim c.if-is_set.branch [
      | then-is_set+in_ok-push w ↦ w.states-is
          ∙ kept (known_state chart) (knows_state chart c.args.unit.0) chart.states c.loop-s.s c.state-item.result _ c.loop-s.states w.push.new.self within there (sym known ∙ w.if-is_set.true)
          (ap (λ b. let k : KnownState = record { id = state_id c.loop-s.s; unit = c.state-item.result.unit; first = b } in k) (w.starts_in-first.ensures ∙ first_read chart c.args.flat.now c.loop-s.s c.requires.flat within)) c.loop-s.invariant w.in_ok-push.ensures.ok
      | else-is_set w ↦ w.states-is
          ∙ left_out (known_state chart) (knows_state chart c.args.unit.0) chart.states c.loop-s.s c.state-item.result c.loop-s.states within there (sym known ∙ w.if-is_set.false) c.loop-s.invariant
    ]

pub returns : goal.returns
returns c =
    let all : length c.args.chart.now.states ≡ c.loop-s.s = search rules in
    all_kept (known_state c.args.chart.now) (knows_state c.args.chart.now c.args.unit.0) c.args.chart.now.states c.loop-s.s c.loop-s.states all c.loop-s.invariant

pub overflow_cast-s : goal.overflow_cast-s
overflow_cast-s c =
    let within : c.loop-s.s < length c.args.chart.now.states = search rules in
    omega (arith, (chart_of c.args.chart.now c.requires.accepted).few_states)
