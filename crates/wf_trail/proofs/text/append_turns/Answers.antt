use Rattle.std.proofs.Common.{◌≡◌, ◌+◌, ◌-◌, ◌≤◌, ◌∙◌, ◌++◌, ℕ, List, length, take, drop, sym, ap, subst, arith}
use Rattle.std.specs.List.{sum_by}
use Rattle.wf_histories.specs.Histories.{TurnDone}
use Rattle.wf_trail.specs.TrailText.{lines_from}
use Rattle.wf_trail.proofs.Records.{sealed_by, turn_added, sealed_fits, sealed_more, end_fits}
use Rattle.wf_trail.proofs.text.append_turns.Goals as goal

pub overflow_add-next : goal.overflow_add-next
overflow_add-next c =
    let fits = sealed_fits c.args.turns.now c.loop-at.at c.index-turns-at.result c.loop-at-test.true c.index-turns-at.is (length c.args.admissions.now) c.requires.fits in
    let same : c.turn.inside.sealed ≡ c.index-turns-at.result.sealed = ap (λ (turn : TurnDone). turn.sealed) c.turn.view_is in
    let sealed = c.loop-at.invariant.sealed in
    omega (arith, fits, same, sealed)

pub slice_bounds-here-end : goal.slice_bounds-here-end
slice_bounds-here-end c =
    let fits = sealed_fits c.args.turns.now c.loop-at.at c.index-turns-at.result c.loop-at-test.true c.index-turns-at.is (length c.args.admissions.now) c.requires.fits in
    let same : c.turn.inside.sealed ≡ c.index-turns-at.result.sealed = ap (λ (turn : TurnDone). turn.sealed) c.turn.view_is in
    let sealed = c.loop-at.invariant.sealed in
    omega (arith, fits, same, sealed)

pub loop-at-preserved : goal.loop-at-preserved
loop-at-preserved c =
    let chart = c.args.chart.now in
    let admissions = c.args.admissions.now in
    let turn : TurnDone = c.index-turns-at.result in
    let sealed : ℕ = c.loop-at.sealed in
    let count : ℕ = c.turn.inside.sealed in
    let whole : List ℕ = c.args.text.now ++ lines_from chart 1 admissions c.args.turns.now c.args.updates.now in
    let same : turn.sealed ≡ count = sym (ap (λ (t : TurnDone). t.sealed) c.turn.view_is) in
    let here_is : take (sealed + count - sealed) (drop sealed admissions) ≡ take turn.sealed (drop sealed admissions) =
    ap (λ (n : ℕ). take n (drop sealed admissions)) (let e : sealed + count - sealed ≡ turn.sealed = omega (arith, same) in e) in
    let added = turn_added chart sealed c.loop-at.at admissions c.args.turns.now c.args.updates.now turn c.index-updates-at.result (take (sealed + count - sealed) (drop sealed admissions))
    c.loop-at.text c.append_admissions.new.text c.append_turn.new.text whole
    c.loop-at-test.true c.index-turns-at.is (omega arith) c.index-updates-at.is here_is c.in_ok-append_admissions.ensures c.in_ok-append_turn.ensures c.loop-at.invariant.text in
    record {
      sealed = ap (λ (n : ℕ). n + count) c.loop-at.invariant.sealed ∙ ap (λ (n : ℕ). sum_by sealed_by (take c.loop-at.at c.args.turns.now) + n) (sym same) ∙ (sealed_more c.args.turns.now c.loop-at.at turn c.loop-at-test.true c.index-turns-at.is);
      text = subst (λ (n : ℕ). c.append_turn.new.text ++ lines_from chart (sealed + n + 1) (drop (sealed + n) admissions) (drop (c.loop-at.at + 1) c.args.turns.now) (drop (c.loop-at.at + 1) c.args.updates.now) ≡ whole) same added;
    }

pub slice_bounds-waiting-start : goal.slice_bounds-waiting-start
slice_bounds-waiting-start c =
    let fits = end_fits c.args.turns.now (length c.args.admissions.now) c.loop-at.at c.requires.fits c.loop-at-test.false in
    let sealed = c.loop-at.invariant.sealed in
    omega (arith, fits, sealed)
