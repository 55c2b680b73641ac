use Rattle.std.proofs.Common.{◌≡◌, Bool, true, false, true≢false, not, refl, sym, ◌∙◌}
use Rattle.wf_slot.proofs.Finishing.{works_certain}
use Rattle.wf_slot.proofs.Seats.{not_away, went_down}
use Rattle.wf_slot.proofs.Reading.{up_works, down_works}
use Rattle.wf_slot.proofs.slot.Slot.works.Goals as goal

not_true : (b : Bool) → not b ≡ true → b ≡ false
not_true true e = cc
not_true false e = refl

pub returns-in-Up-clause-tells : goal.returns-in-Up-clause-tells
returns-in-Up-clause-tells c = up_works _ _ _ _ c.self.view_is c.in-Up.node c.in-Up.is c.failed.result c.failed.ensures

pub returns-in-Up-clause-certain : goal.returns-in-Up-clause-certain
returns-in-Up-clause-certain c = λ works. works_certain _ _ _ _ c.self.view_is c.self.invariant c.in-Up.node c.in-Up.is (sym c.failed.ensures ∙ not_true c.failed.result works)

pub returns-in-Down-clause-tells : goal.returns-in-Down-clause-tells
returns-in-Down-clause-tells c = down_works _ (went_down _ _ _ _ c.self.view_is c.in-Down.field-0 c.in-Down.is)

pub returns-in-Down-clause-certain : goal.returns-in-Down-clause-certain
returns-in-Down-clause-certain c = λ works. absurd (true≢false (sym works))

pub unreachable-requires : goal.unreachable-requires
unreachable-requires c = not_away _ _ _ c.self.invariant c.in-Away.is

pub unreachable-unreachable : goal.unreachable-unreachable
unreachable-unreachable c = c.unreachable.result
