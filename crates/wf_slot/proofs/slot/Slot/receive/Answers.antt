use Rattle.wf_slot.proofs.Seats.{not_away}
use Rattle.wf_slot.proofs.Receives.{may_here, up_slot, up_answers, down_slot, down_answers}
use Rattle.wf_slot.proofs.slot.Slot.receive.Goals as goal
use Rattle.wf_slot.proofs.slot.Slot.receive.Goals.{in-Up, in-Down}

pub receive_up-requires : goal.receive_up-requires
receive_up-requires c = may_here _ _ _ _ _ c.args.update c.self.view_is c.in-Up.is c.requires

pub unreachable-requires : goal.unreachable-requires
unreachable-requires c = not_away _ _ _ c.self.invariant c.in-Away.is

pub unreachable-unreachable : goal.unreachable-unreachable
unreachable-unreachable c = c.unreachable.result

pub invariant_of-self : goal.invariant_of-self
invariant_of-self c =
    elim c.match-self.branch [
      | in-Up w ↦ up_slot c.self.inside _ _ c.args.update c.self.view_is w.in-Up.node w.receive_up.new.node w.in-Up.is w.self-inside-is c.self.invariant w.receive_up.ensures.sits
      | in-Down w ↦ down_slot c.self.inside _ _ c.args.update c.self.view_is w.in-Down.field-0 w.in-Down.is w.self-inside-is c.self.invariant
    ]

pub returns : goal.returns
returns c =
    elim c.match-self.branch [
      | in-Up w ↦ up_answers c.self.inside _ _ c.args.update c.self.view_is w.in-Up.node w.receive_up.new.node w.in-Up.is w.self-inside-is w.receive_up.result _ w.result-is w.receive_up.ensures.answers
      | in-Down w ↦ down_answers c.self.inside _ _ c.args.update c.self.view_is w.in-Down.field-0 w.in-Down.is w.self-inside-is _ w.result-is
    ]
