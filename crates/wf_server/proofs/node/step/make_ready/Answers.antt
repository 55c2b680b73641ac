use Rattle.std.proofs.Common.{◌≡◌, ◌≤◌, List, length, sym, subst, arith}
use Rattle.wf_parts.specs.declared.data.PartData.{PartData}
use Rattle.wf_histories.specs.Histories.{History}
use Rattle.wf_codec.specs.Bodies.{IsBodyOf}
use Rattle.wf_steps.specs.Growing.{MayTurn}
use Rattle.wf_steps.specs.Replicas.{prepared_of}
use Rattle.wf_server.specs.Servers.{inputs_of, turn_record}
use Rattle.wf_server.specs.Inbox.{AllCame}
use Rattle.wf_server.proofs.Keeping.{at_both}
use Rattle.wf_server.proofs.node.step.make_ready.Goals as goal

pub returns-clause-ready : goal.returns-clause-ready
returns-clause-ready g c = record {
  all_came = subst (λ (p : PartData). AllCame p c.args.came.now) (sym c.reserve_turn.ensures.part) c.requires.came;
  may = at_both (λ p h. MayTurn p h (inputs_of c.args.came.now)) c.reserve_turn.ensures.part c.reserve_turn.ensures.past c.requires.may;
  prepared = at_both (λ p h. c.in_ok-ready.ready.prepared ≡ prepared_of p h (inputs_of c.args.came.now)) c.reserve_turn.ensures.part c.reserve_turn.ensures.past c.in_ok-ready.ensures.prepared;
  body = subst (λ (h : History). IsBodyOf (turn_record h c.args.came.now) c.in_ok-ready.ready.body) (sym c.reserve_turn.ensures.past) c.in_ok-ready.ensures.body;
  short = c.in_ok-ready.ensures.short;
  turn_room = c.in_ok-reserve_turn.ensures.room;
  item_room = c.in_ok-reserve_turn.ensures.items;
  journal_room = subst (λ n. n ≤ c.reserve.new.self.room) c.len.ensures c.in_ok-reserve.ensures.room;
}
