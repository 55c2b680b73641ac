use Rattle.std.proofs.Common.{◌≡◌, ◌⊎◌, ◌+◌}
use Rattle.wf_parts.specs.declared.data.PartData.{PartData}
use Rattle.wf_histories.specs.Histories.{History, taken}
use Rattle.wf_slot.proofs.Seats.{not_away, went_down}
use Rattle.wf_slot.proofs.Reading.{of_server}
use Rattle.wf_slot.proofs.slot.Slot.letter.Goals as goal

pub letter_of-requires-clause-kept : goal.letter_of-requires-clause-kept
letter_of-requires-clause-kept c =
    of_server _ _ _ _ c.self.view_is c.in-Up.node c.in-Up.is (λ (part : PartData) (past : History). (c.args.step ≡ taken past) ⊎ (c.args.step ≡ taken past + 1)) c.requires.kept

pub unreachable-requires : goal.unreachable-requires
unreachable-requires c = c.requires.up (went_down _ _ _ _ c.self.view_is c.in-Down.field-0 c.in-Down.is)

pub unreachable-unreachable : goal.unreachable-unreachable
unreachable-unreachable c = c.unreachable.result

pub unreachable-requires-in-Away : goal.unreachable-requires-in-Away
unreachable-requires-in-Away c = not_away _ _ _ c.self.invariant c.in-Away.is

pub unreachable-unreachable-in-Away : goal.unreachable-unreachable-in-Away
unreachable-unreachable-in-Away c = c.unreachable-in-Away.result
