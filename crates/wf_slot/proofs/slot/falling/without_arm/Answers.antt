use Rattle.wf_slot.proofs.Falling.{revival_unarmed, revival_clock, revival_leaves}
use Rattle.wf_slot.proofs.slot.falling.without_arm.Goals as goal

pub returns-clause-unarmed : goal.returns-clause-unarmed
returns-clause-unarmed c = revival_unarmed c.args.disk c.revive.new.self c.disarm.new.self c.revive.ensures.left c.disarm.ensures

pub returns-clause-clock : goal.returns-clause-clock
returns-clause-clock c = revival_clock c.args.disk c.revive.new.self c.disarm.new.self c.revive.ensures.left c.disarm.ensures

pub returns-clause-leaves : goal.returns-clause-leaves
returns-clause-leaves c = revival_leaves c.args.disk c.revive.new.self c.disarm.new.self c.revive.ensures.left c.disarm.ensures c.revive.ensures.may
