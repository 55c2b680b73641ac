use Rattle.std.proofs.Common.{rules}
use Rattle.wf_slot.proofs.Recoveries.{left_slot, left_state, same_slot, same_state}
use Rattle.wf_slot.proofs.slot.recovery.remains_of.Goals as goal

pub unreachable-requires : goal.unreachable-requires
unreachable-requires c = c.requires c.in-Away.is

pub unreachable-unreachable : goal.unreachable-unreachable
unreachable-unreachable c = c.unreachable.result

pub returns-in-Up-clause-kept : goal.returns-in-Up-clause-kept
returns-in-Up-clause-kept c = λ fuse doubt kept. left_slot c.args.seat c.in-Up.node c.in-Up.is (record { part = c.close-part.result.0; disk = c.close-part.result.1; past = c.close-part.result.2 }) c.close-part.ensures.part c.close-part.ensures.past c.close-part.ensures.disk fuse doubt (search rules) kept

pub returns-in-Up-clause-same : goal.returns-in-Up-clause-same
returns-in-Up-clause-same c = λ fuse doubt. left_state c.args.seat c.in-Up.node c.in-Up.is (record { part = c.close-part.result.0; disk = c.close-part.result.1; past = c.close-part.result.2 }) c.close-part.ensures.part c.close-part.ensures.past c.close-part.ensures.disk fuse doubt

pub returns-in-Down-clause-kept : goal.returns-in-Down-clause-kept
returns-in-Down-clause-kept c = λ fuse doubt kept. same_slot c.args.seat c.in-Down.remains c.in-Down.is fuse doubt kept

pub returns-in-Down-clause-same : goal.returns-in-Down-clause-same
returns-in-Down-clause-same c = λ fuse doubt. same_state c.args.seat c.in-Down.remains c.in-Down.is fuse doubt
