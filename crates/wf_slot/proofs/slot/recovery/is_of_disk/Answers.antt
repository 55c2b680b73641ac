use Rattle.std.proofs.Common.{◌≡◌, ◌⊎◌, inl, inr, ℕ}
use Rattle.wf_steps.specs.declared.fault.HeadNames.{HeadNames}
use Rattle.wf_server.specs.declared.fault.NodeFault.{NodeFault}
use Rattle.wf_server.specs.declared.fault.NodeFault.TheVariants as faults
use Rattle.wf_slot.proofs.slot.recovery.is_of_disk.Goals as goal

-- the disk failed, or memory ran out
abbrev IsDue : NodeFault → Type 0
IsDue fault = (fault ≡ faults.DiskFailed) ⊎ (fault ≡ faults.NoMemory)

not_foreign : (fault : NodeFault) (kept wanted : HeadNames) → IsDue fault → fault ≡ faults.Foreign kept wanted → ⊥
not_foreign fault kept wanted (inl e) is = cc
not_foreign fault kept wanted (inr e) is = cc

not_bad_record : (fault : NodeFault) (at first : ℕ) → IsDue fault → fault ≡ faults.BadRecord at first → ⊥
not_bad_record fault at first (inl e) is = cc
not_bad_record fault at first (inr e) is = cc

not_bad_frame : (fault : NodeFault) (at : ℕ) → IsDue fault → fault ≡ faults.BadFrame at → ⊥
not_bad_frame fault at (inl e) is = cc
not_bad_frame fault at (inr e) is = cc

pub unreachable-requires : goal.unreachable-requires
unreachable-requires c = not_foreign _ _ _ c.requires c.in-Foreign.is

pub unreachable-unreachable : goal.unreachable-unreachable
unreachable-unreachable c = c.unreachable.result

pub unreachable-requires-in-BadRecord : goal.unreachable-requires-in-BadRecord
unreachable-requires-in-BadRecord c = not_bad_record _ _ _ c.requires c.in-BadRecord.is

pub unreachable-unreachable-in-BadRecord : goal.unreachable-unreachable-in-BadRecord
unreachable-unreachable-in-BadRecord c = c.unreachable-in-BadRecord.result

pub unreachable-requires-in-BadFrame : goal.unreachable-requires-in-BadFrame
unreachable-requires-in-BadFrame c = not_bad_frame _ _ c.requires c.in-BadFrame.is

pub unreachable-unreachable-in-BadFrame : goal.unreachable-unreachable-in-BadFrame
unreachable-unreachable-in-BadFrame c = c.unreachable-in-BadFrame.result
