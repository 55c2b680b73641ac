use Rattle.std.proofs.Common.{ℕ, ◌∙◌, min, sym, ap}
use Rattle.std.proofs.lemmas.Option.{slice_get_within, get_or_from_slice_get}
use Rattle.wf_histories.specs.Histories.{taken}
use Rattle.wf_projection.proofs.Places.{long_at, least_more}
use Rattle.wf_projection.proofs.merging.least_taken.Goals as goal

pub loop-turns-preserved : goal.loop-turns-preserved
loop-turns-preserved c =
    λ h are.
    let i = c.loop-turns.turns-index in
    let k = c.len.result in
    c.min-least.ensures ∙ ap (λ (n : ℕ). min n k) (c.loop-turns.invariant h are) ∙ least_more (λ u. taken (h u)) i k (c.len.ensures ∙ long_at c.args.units.now h i c.turns-item.result are c.loop-turns-test.true c.turns-item.is)

pub loop-turns-init : goal.loop-turns-init
loop-turns-init c =
    λ h are.
    let units = c.args.units.now in
    let first = c.in-Some.first.now in
    let there = sym c.in-Some.ensures.value in
    c.len-least.ensures ∙ long_at units h 0 first are (slice_get_within units 0 first there) (sym (get_or_from_slice_get units 0 first first there))
