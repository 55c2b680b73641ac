use Rattle.std.proofs.Common.{refl, ◌∙◌, arith}
use Rattle.wf_actors.proofs.Changing.{all_stay, all_then, joined_stay, units_stay, first_next, second_next, others_next}
use Rattle.wf_actors.proofs.pairs.exchange_with.Goals as goal

pub exchange_at-requires-clause-joined : goal.exchange_at-requires-clause-joined
exchange_at-requires-clause-joined g c = let i = c.loop-first.invariant in joined_stay c.args.units.now c.loop-first.units i.len i.each c.requires.joined

pub exchange_at-requires-clause-units : goal.exchange_at-requires-clause-units
exchange_at-requires-clause-units g c = let i = c.loop-first.invariant in units_stay c.args.units.now c.loop-first.units i.len i.each c.requires.units

pub loop-first-init : goal.loop-first-init
loop-first-init g c =
    record {
      len = refl;
      each = all_stay c.args.units.now;
      first_has = (λ k lt. absurd (omega (arith, lt)));
      second_has = (λ k lt. absurd (omega (arith, lt)));
      others = (λ x y n m. refl);
    }

pub loop-first-preserved : goal.loop-first-preserved
loop-first-preserved g c =
    let i = c.loop-first.invariant in
    let e = c.exchange_at.ensures in
    let first = c.args.units.now in
    let before = c.loop-first.units in
    let now = c.exchange_at.new.units in
    let lt = c.loop-first-test.true in
    record {
      len = c.exchange_at.auto.units ∙ i.len;
      each = all_then first before now i.len i.each e.each;
      first_has = first_next before now c.loop-first.first c.args.second lt e.others i.first_has e.first_has;
      second_has = second_next before now c.loop-first.first c.args.second lt e.others i.second_has e.second_has;
      others = others_next before now c.loop-first.first c.args.second lt e.others first i.others;
    }

pub returns-clause-first_has : goal.returns-clause-first_has
returns-clause-first_has g c k lt = let end = c.loop-first-test.false in c.loop-first.invariant.first_has k (omega (arith, lt, end))

pub returns-clause-second_has : goal.returns-clause-second_has
returns-clause-second_has g c k lt = let end = c.loop-first-test.false in c.loop-first.invariant.second_has k (omega (arith, lt, end))
