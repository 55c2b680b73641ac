use Rattle.std.proofs.Common.{◌≡◌, ℕ, ◌+◌, ◌∙◌, length, get_or, ap, refl, arith}
use Rattle.wf_histories.specs.Histories.{TurnDone, seals}
use Rattle.wf_model.proofs.Rows.{row_more}
use Rattle.wf_projection.specs.Merged.{turn_places}
use Rattle.wf_projection.proofs.Places.{sealed_is, turn_within, sealed_fits, sealed_more, turn_is}
use Rattle.wf_projection.proofs.merging.places_by_turn.Goals as goal

pub prove-unreachable-requires : goal.prove-unreachable-requires
prove-unreachable-requires c =
    let past = c.args.history.now.past in
    let i = c.loop-turn.turn-index in
    let turns = c.turns-turn-items.result.now in
    let lt = c.loop-turn-test.true in
    let k_is : c.from.result ≡ get_or (seals past) i 0 = c.from.ensures ∙ ap (λ (t : TurnDone). t.sealed) c.turn.view_is ∙ sealed_is past turns i c.turn-item.result c.turns-turn-items.ensures lt c.turn-item.is in
    let fits = sealed_fits past i c.from.result c.requires (turn_within past turns i c.turns-turn-items.ensures lt) k_is in
    omega (arith, fits, c.loop-turn.invariant.before, ap length c.admissions.ensures, c.if-prove.true)

pub loop-turn-preserved : goal.loop-turn-preserved
loop-turn-preserved c =
    let past = c.args.history.now.past in
    let u = c.args.unit.0 in
    let i = c.loop-turn.turn-index in
    let k = c.from.result in
    let before = c.loop-turn.before in
    let turns = c.turns-turn-items.result.now in
    let lt = c.loop-turn-test.true in
    let k_is : c.from.result ≡ get_or (seals past) i 0 = c.from.ensures ∙ ap (λ (t : TurnDone). t.sealed) c.turn.view_is ∙ sealed_is past turns i c.turn-item.result c.turns-turn-items.ensures lt c.turn-item.is in
    record {
      turns = c.in_ok-push.ensures.ok
          ∙ row_more (turn_places u past) i c.loop-turn.turns c.in_ok-places_from.field-0 c.loop-turn.invariant.turns
          (c.in_ok-places_from.ensures ∙ turn_is u past i k before (before + k) c.loop-turn.invariant.before k_is refl);
      before = ap (λ (n : ℕ). n + k) c.loop-turn.invariant.before ∙ sealed_more past i k (turn_within past turns i c.turns-turn-items.ensures lt) k_is;
    }
