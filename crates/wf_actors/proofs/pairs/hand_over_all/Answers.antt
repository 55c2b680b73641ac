use Rattle.std.proofs.Common.{refl, ◌∙◌, arith}
use Rattle.wf_actors.proofs.Changing.{all_stay, all_then, joined_stay, units_stay, ways_stay, all_next}
use Rattle.wf_actors.proofs.pairs.hand_over_all.Goals as goal

pub exchange_with-requires-clause-joined : goal.exchange_with-requires-clause-joined
exchange_with-requires-clause-joined g c = let i = c.loop-second.invariant in joined_stay c.args.units.now c.loop-second.units i.len i.each c.requires.joined

pub exchange_with-requires-clause-units : goal.exchange_with-requires-clause-units
exchange_with-requires-clause-units g c = let i = c.loop-second.invariant in units_stay c.args.units.now c.loop-second.units i.len i.each c.requires.units

pub loop-second-init : goal.loop-second-init
loop-second-init g c =
    record {
      len = refl;
      each = all_stay c.args.units.now;
      all = (λ x y n lt. absurd (omega (arith, lt)));
    }

pub loop-second-preserved : goal.loop-second-preserved
loop-second-preserved g c =
    let i = c.loop-second.invariant in
    let e = c.exchange_with.ensures in
    let first = c.args.units.now in
    let before = c.loop-second.units in
    let now = c.exchange_with.new.units in
    record {
      len = c.exchange_with.auto.units ∙ i.len;
      each = all_then first before now i.len i.each e.each;
      all = all_next before now c.loop-second.second e.others e.first_has e.second_has i.all;
    }

pub returns-clause-ways : goal.returns-clause-ways
returns-clause-ways g c = let i = c.loop-second.invariant in ways_stay c.args.units.now c.loop-second.units i.len i.each

pub returns-clause-units : goal.returns-clause-units
returns-clause-units g c = let i = c.loop-second.invariant in units_stay c.args.units.now c.loop-second.units i.len i.each c.requires.units

pub returns-clause-all : goal.returns-clause-all
returns-clause-all g c u v n lt_u lt_v = let end = c.loop-second-test.false in c.loop-second.invariant.all u v n (omega (arith, lt_u, end)) (omega (arith, lt_v, end))
