use Rattle.std.proofs.Common.{◌∙◌, ℕ, Bool, ap}
use Rattle.wf_parts.specs.declared.data.PartTransition.{PartTransition}
use Rattle.wf_flat.proofs.Loops.{map_step, map_whole, flag_is}
use Rattle.wf_flat.proofs.firing.pairs.Goals as goal

pub loop-at-preserved : goal.loop-at-preserved
loop-at-preserved c = λ test same.
    let xs = c.args.transitions.now in
    let i = c.loop-at.at in
    let x = c.index-transitions-at.result in
    let said = c.flag_at.ensures ∙ flag_is test xs c.args.flags.now i x same c.loop-at-test.true c.index-transitions-at.is in
    map_step (λ (trans : PartTransition). let p : ℕ × Bool = (trans.id.0, test trans) in p) xs i x (x.id.0, c.flag_at.result) c.loop-at.pairs.items c.push.new.self.items c.loop-at-test.true c.index-transitions-at.is
    (ap (λ (b : Bool). let p : ℕ × Bool = (x.id.0, b) in p) said) (c.loop-at.invariant test same) c.in_ok-push.ensures.items

pub returns : goal.returns
returns c = λ test same.
    c.loop-at.invariant test same ∙ map_whole (λ (trans : PartTransition). let p : ℕ × Bool = (trans.id.0, test trans) in p) c.args.transitions.now c.loop-at.at c.loop-at-test.false
