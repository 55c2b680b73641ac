use Rattle.std.proofs.Common.{◌≡◌, ◌∙◌, ◌+◌, List, length, drop, ap, sym, subst, arith, rules}
use Rattle.std.proofs.lemmas.List.{get_or_default}
use Rattle.wf_model.specs.declared.ids.TransId.{TransId}
use Rattle.wf_model.specs.declared.step_notes.StepNotes.{StepNotes}
use Rattle.wf_semantics.specs.Run.{CentralState, first_state}
use Rattle.wf_runs.specs.Runs.{IsRunFrom}
use Rattle.wf_central.specs.Kept.{central_of}
use Rattle.wf_central.proofs.Standings.{none_taken}
use Rattle.wf_top.specs.Summaries.{fired_along}
use Rattle.wf_top.proofs.Summaries.{run_more, counted_on, all_counted}
use Rattle.wf_top.proofs.summary.fired_count.Goals as goal

pub loop-entries-init : goal.loop-entries-init
loop-entries-init c =
    let chart = c.args.checked.now in
    let first = c.in_ok-state.ensures.state in
    record {
      count = (let none : length c.new-fired.result ≡ 0 = search rules in omega (arith, none, ap (λ (s : CentralState). length (fired_along chart s c.args.steps.now)) first));
      run = subst (λ (s : CentralState). IsRunFrom chart s c.args.steps.now) (sym first) c.requires.run;
      of = c.in_ok-state.ensures.of;
      taken = none_taken chart c.in_ok-state.state first;
    }

pub step-requires : goal.step-requires
step-requires c =
    let chart = c.args.checked.now in
    let steps = c.args.steps.now in
    let i = c.loop-entries.entries-index in
    let lt = c.loop-entries-test.true in
    let lent : c.as_slice.result.now ≡ c.entries-item.result = search rules in
    let is = lent ∙ c.entries-item.is ∙ get_or_default steps i c.entries-item.result c.as_slice.result.now lt in
    record {
      of = c.loop-entries.invariant.of;
      few = omega (arith, c.loop-entries.invariant.taken, lt, c.requires.few);
      come = (run_more chart (central_of chart c.loop-entries.state) steps i c.as_slice.result.now lt is c.loop-entries.invariant.run).0;
    }

pub loop-entries-preserved : goal.loop-entries-preserved
loop-entries-preserved c =
    let chart = c.args.checked.now in
    let steps = c.args.steps.now in
    let i = c.loop-entries.entries-index in
    let lt = c.loop-entries-test.true in
    let here = central_of chart c.loop-entries.state in
    let next = central_of chart c.step.new.self in
    let total = length (fired_along chart (first_state chart) steps) in
    let lent : c.as_slice.result.now ≡ c.entries-item.result = search rules in
    let is = lent ∙ c.entries-item.is ∙ get_or_default steps i c.entries-item.result c.as_slice.result.now lt in
    let slice : c.as_slice-in-loop-entries.result.now ≡ c.in_ok-notes.notes.fired = search rules in
    let noted = slice ∙ ap (λ (n : StepNotes). n.fired) c.in_ok-notes.ensures.notes in
    record {
      count = ap (λ (l : List TransId). length l + length (fired_along chart next (drop (i + 1) steps))) c.in_ok-append.ensures.ok
          ∙ counted_on chart here next c.loop-entries.fired c.as_slice-in-loop-entries.result.now steps i c.as_slice.result.now total lt is noted c.in_ok-notes.ensures.state c.loop-entries.invariant.count;
      run = subst (λ (s : CentralState). IsRunFrom chart s (drop (i + 1) steps)) (sym c.in_ok-notes.ensures.state)
          (run_more chart here steps i c.as_slice.result.now lt is c.loop-entries.invariant.run).1;
      of = c.in_ok-notes.ensures.of;
      taken = c.in_ok-notes.ensures.taken ∙ ap (λ n. n + 1) c.loop-entries.invariant.taken;
    }

pub returns : goal.returns
returns c =
    let chart = c.args.checked.now in
    let length_is : c.len.result ≡ length c.loop-entries.fired = search rules in
    length_is ∙ all_counted chart (central_of chart c.loop-entries.state) (length c.loop-entries.fired) c.args.steps.now c.loop-entries.entries-index
    (length (fired_along chart (first_state chart) c.args.steps.now)) c.loop-entries-test.false c.loop-entries.invariant.count
