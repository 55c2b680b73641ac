use Rattle.std.proofs.Common.{◌<◌, length, get_or, ◌∙◌, subst, arith}
use Rattle.wf_exchange.specs.Ports.{unit_of}
use Rattle.wf_actors.specs.Pairs.{HasAll, traffic}
use Rattle.wf_actors.proofs.Pairings.{two_may}
use Rattle.wf_actors.proofs.Changing.{two_change, two_take, first_has_all, second_has_all, two_others}
use Rattle.wf_actors.proofs.pairs.exchange_at.Goals as goal

pub exchange-requires-clause-to_one : goal.exchange-requires-clause-to_one
exchange-requires-clause-to_one g c =
    let s = c.split_at_mut-front.ensures in
    let front = c.split_at_mut-front.result.0.now in
    let back = c.split_at_mut-front.result.1.now in
    let one = c.index-front-first.result in
    let other = c.index-back-0.result in
    let places = c.requires.places in
    let front_len = s.front_len in
    let back_len = s.back_len in
    let within : c.args.first < length front = omega (arith, places.0, front_len) in
    let some : 0 < length back = omega (arith, places.1, back_len) in
    let two = two_change c.args.units.now front back c.args.first c.args.second one other one other s.value s.front_len within some in
    two_may c.args.units.now c.requires.joined c.requires.units c.args.first c.args.second (get_or front c.args.first one) (get_or back 0 other) (λ e. absurd (omega (arith, e, places.0))) two.first two.second

pub exchange-requires-clause-to_other : goal.exchange-requires-clause-to_other
exchange-requires-clause-to_other g c =
    let s = c.split_at_mut-front.ensures in
    let front = c.split_at_mut-front.result.0.now in
    let back = c.split_at_mut-front.result.1.now in
    let one = c.index-front-first.result in
    let other = c.index-back-0.result in
    let places = c.requires.places in
    let front_len = s.front_len in
    let back_len = s.back_len in
    let within : c.args.first < length front = omega (arith, places.0, front_len) in
    let some : 0 < length back = omega (arith, places.1, back_len) in
    let two = two_change c.args.units.now front back c.args.first c.args.second one other one other s.value s.front_len within some in
    two_may c.args.units.now c.requires.joined c.requires.units c.args.second c.args.first (get_or back 0 other) (get_or front c.args.first one) (λ e. absurd (omega (arith, e, places.0))) two.second two.first

pub returns-clause-each : goal.returns-clause-each
returns-clause-each g c =
    let s = c.split_at_mut-front.ensures in
    let front = c.split_at_mut-front.result.0.now in
    let back = c.split_at_mut-front.result.1.now in
    let one = c.index-front-first.result in
    let other = c.index-back-0.result in
    let places = c.requires.places in
    let front_len = s.front_len in
    let back_len = s.back_len in
    let within : c.args.first < length front = omega (arith, places.0, front_len) in
    let some : 0 < length back = omega (arith, places.1, back_len) in
    let two = two_change c.args.units.now front back c.args.first c.args.second one other c.exchange.new.one c.exchange.new.other s.value s.front_len within some in
    two_take c.args.units.now _ c.args.first c.args.second (get_or front c.args.first one) (get_or back 0 other) c.exchange.new.one c.exchange.new.other two c.exchange.ensures.one c.exchange.ensures.other

pub returns-clause-first_has : goal.returns-clause-first_has
returns-clause-first_has g c =
    let s = c.split_at_mut-front.ensures in
    let front = c.split_at_mut-front.result.0.now in
    let back = c.split_at_mut-front.result.1.now in
    let one = c.index-front-first.result in
    let other = c.index-back-0.result in
    let places = c.requires.places in
    let front_len = s.front_len in
    let back_len = s.back_len in
    let within : c.args.first < length front = omega (arith, places.0, front_len) in
    let some : 0 < length back = omega (arith, places.1, back_len) in
    let two = two_change c.args.units.now front back c.args.first c.args.second one other c.exchange.new.one c.exchange.new.other s.value s.front_len within some in
    let at_first = (c.requires.units c.args.first (get_or front c.args.first one) two.first).port in
    let at_second = (c.requires.units c.args.second (get_or back 0 other) two.second).port in
    first_has_all c.args.units.now _ c.args.first c.args.second (get_or front c.args.first one) (get_or back 0 other) c.exchange.new.one c.exchange.new.other two
    (subst (λ v. HasAll (traffic c.exchange.new.one v) (traffic c.exchange.new.other c.args.first)) at_second (subst (λ u. HasAll (traffic c.exchange.new.one (unit_of (get_or back 0 other).port)) (traffic c.exchange.new.other u)) at_first c.exchange.ensures.one_has))

pub returns-clause-second_has : goal.returns-clause-second_has
returns-clause-second_has g c =
    let s = c.split_at_mut-front.ensures in
    let front = c.split_at_mut-front.result.0.now in
    let back = c.split_at_mut-front.result.1.now in
    let one = c.index-front-first.result in
    let other = c.index-back-0.result in
    let places = c.requires.places in
    let front_len = s.front_len in
    let back_len = s.back_len in
    let within : c.args.first < length front = omega (arith, places.0, front_len) in
    let some : 0 < length back = omega (arith, places.1, back_len) in
    let two = two_change c.args.units.now front back c.args.first c.args.second one other c.exchange.new.one c.exchange.new.other s.value s.front_len within some in
    let at_first = (c.requires.units c.args.first (get_or front c.args.first one) two.first).port in
    let at_second = (c.requires.units c.args.second (get_or back 0 other) two.second).port in
    second_has_all c.args.units.now _ c.args.first c.args.second (get_or front c.args.first one) (get_or back 0 other) c.exchange.new.one c.exchange.new.other two
    (subst (λ v. HasAll (traffic c.exchange.new.other c.args.first) (traffic c.exchange.new.one v)) at_second (subst (λ u. HasAll (traffic c.exchange.new.other u) (traffic c.exchange.new.one (unit_of (get_or back 0 other).port))) at_first c.exchange.ensures.other_has))

pub returns-clause-others : goal.returns-clause-others
returns-clause-others g c =
    let s = c.split_at_mut-front.ensures in
    let front = c.split_at_mut-front.result.0.now in
    let back = c.split_at_mut-front.result.1.now in
    let one = c.index-front-first.result in
    let other = c.index-back-0.result in
    let places = c.requires.places in
    let front_len = s.front_len in
    let back_len = s.back_len in
    let within : c.args.first < length front = omega (arith, places.0, front_len) in
    let some : 0 < length back = omega (arith, places.1, back_len) in
    let two = two_change c.args.units.now front back c.args.first c.args.second one other c.exchange.new.one c.exchange.new.other s.value s.front_len within some in
    let at_first = (c.requires.units c.args.first (get_or front c.args.first one) two.first).port in
    let at_second = (c.requires.units c.args.second (get_or back 0 other) two.second).port in
    two_others c.args.units.now _ c.args.first c.args.second (get_or front c.args.first one) (get_or back 0 other) c.exchange.new.one c.exchange.new.other two (λ w n. c.exchange.ensures.one_others w (λ e. n (e ∙ at_second))) (λ w n. c.exchange.ensures.other_others w (λ e. n (e ∙ at_first)))
