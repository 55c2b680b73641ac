use Rattle.std.proofs.Common.{◌≡◌, ℕ, ◌+◌, ◌-◌, ◌∙◌, map, ap, arith}
use Rattle.std.specs.List.{range_with_len}
use Rattle.wf_machine.specs.Machine.{place_of}
use Rattle.wf_projection.proofs.Places.{place_more}
use Rattle.wf_projection.proofs.merging.places_from.Goals as goal

pub loop-number-preserved : goal.loop-number-preserved
loop-number-preserved c = c.in_ok-push.ensures.ok ∙ place_more c.args.unit.0 c.args.before c.loop-number.number c.loop-number.places c.loop-number.auto.number c.loop-number.invariant

pub returns : goal.returns
returns c =
    let done : c.loop-number.number ≡ c.args.last = omega (arith, c.loop-number.auto.number-end, c.requires, c.loop-number-test.false) in
    c.loop-number.invariant ∙ ap (λ (n : ℕ). map (place_of c.args.unit.0) (range_with_len (c.args.before + 1) (n - c.args.before))) done
