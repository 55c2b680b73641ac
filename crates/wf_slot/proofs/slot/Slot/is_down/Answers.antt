use Rattle.wf_slot.proofs.Seats.{not_away, up_says_no, down_says_yes}
use Rattle.wf_slot.proofs.slot.Slot.is_down.Goals as goal

pub unreachable-requires : goal.unreachable-requires
unreachable-requires c = not_away _ _ _ c.self.invariant c.in-Away.is

pub unreachable-unreachable : goal.unreachable-unreachable
unreachable-unreachable c = c.unreachable.result

pub returns-in-Up : goal.returns-in-Up
returns-in-Up c = up_says_no _ _ _ _ c.self.view_is c.in-Up.field-0 c.in-Up.is

pub returns-in-Down : goal.returns-in-Down
returns-in-Down c = down_says_yes _ _ _ _ c.self.view_is c.in-Down.field-0 c.in-Down.is
