use Rattle.std.proofs.Common.{◌≡◌, ◌+◌, ℕ, List, length, sym, subst, arith, rules}
use Rattle.wf_model.proofs.Few.{few_units}
use Rattle.wf_machine.specs.declared.reply.TurnReply.{TurnReply}
use Rattle.wf_world.proofs.Rounds.{IsTurning, none_turned, one_turned, turn_room, all_worn}
use Rattle.wf_world.proofs.fleet.Fleet.turn_all.Goals as goal

pub loop-unit-init : goal.loop-unit-init
loop-unit-init c =
    let f = c.args.self.now in
    let long : c.len-unit-end.result ≡ length f.slots = search (rules, c.len-unit-end.ensures, c.self.view_is) in
    record {
      so_far = subst (λ (n : ℕ). IsTurning f n 0 f c.new-replies.result) (sym long) (subst (λ (rs : List TurnReply). IsTurning f (length f.slots) 0 f rs) (sym c.new-replies.ensures) (none_turned f c.requires.fleet));
      long = long;
    }

pub overflow_cast-unit : goal.overflow_cast-unit
overflow_cast-unit c =
    let few = few_units c.args.self.now.chart c.requires.fleet.accepted in
    let count = c.requires.fleet.count in
    let long = c.loop-unit.invariant.long in
    let lt = c.loop-unit-test.true in
    omega (arith, few, count, long, lt)

pub turn-requires-clause-room : goal.turn-requires-clause-room
turn-requires-clause-room c = turn_room c.args.self.now c.loop-unit.self c.len-unit-end.result c.loop-unit.unit c.loop-unit.replies c.loop-unit.invariant.so_far c.requires.room

pub loop-unit-preserved : goal.loop-unit-preserved
loop-unit-preserved c =
    let f = c.args.self.now in
    let n = c.len-unit-end.result in
    let u = c.loop-unit.unit in
    record {
      so_far = subst (λ (rs : List TurnReply). IsTurning f n (u + 1) c.turn.new.self rs) (sym c.in_ok-push.ensures.ok)
          (one_turned f c.loop-unit.self c.turn.new.self n (record { 0 = u }) c.loop-unit.replies c.in_ok-turn.field-0 c.loop-unit.invariant.so_far c.loop-unit-test.true c.in_ok-turn.ensures.led c.in_ok-turn.ensures.wear);
      long = c.loop-unit.invariant.long;
    }

pub returns-clause-wear : goal.returns-clause-wear
returns-clause-wear c = all_worn c.args.self.now c.loop-unit.self c.len-unit-end.result c.loop-unit.unit c.loop-unit.replies c.loop-unit.invariant.so_far
