use Rattle.std.proofs.Common.{refl, arith}
use Rattle.wf_disk.specs.Memory.{image_of}
use Rattle.wf_slot.proofs.Recoveries.{opens, shut_within, shut_leaves, shut_went_off}
use Rattle.wf_slot.proofs.slot.recovery.start_again.Goals as goal

pub returns-in-Ok-clause-opens : goal.returns-in-Ok-clause-opens
returns-in-Ok-clause-opens c = λ fuse doubt kept. opens c.args.remains fuse doubt kept c.in-Ok.node c.in-Ok.ensures.started c.in-Ok.ensures.reopens c.disk-disk.ensures.stands

pub is_of_disk-requires : goal.is_of_disk-requires
is_of_disk-requires c = (c.in-Err.ensures.stays_shut c.requires.holds.0 (image_of c.args.remains.disk) refl c.requires.holds.1).why

pub returns-in-Err-clause-shut : goal.returns-in-Err-clause-shut
returns-in-Err-clause-shut c = λ fuse doubt kept.
    let within = shut_within c.args.remains fuse doubt kept c.requires.early c.in-Err.refused.disk c.in-Err.refused.fault c.in-Err.ensures.stays_shut c.in-Err.ensures.crash_refused in
    let clock = c.without_arm.ensures.clock in
    record {
      part = c.in-Err.ensures.given_back;
      past = refl;
      clock = omega (arith, within, clock);
      unarmed = c.without_arm.ensures.unarmed;
      leaves = λ file may. shut_leaves c.args.remains fuse doubt kept c.requires.early c.in-Err.refused.disk c.in-Err.refused.fault c.in-Err.ensures.stays_shut c.in-Err.ensures.crash_refused file (c.without_arm.ensures.leaves file may);
      went_off = λ failed. shut_went_off c.args.remains fuse doubt kept c.requires.early c.in-Err.refused.disk c.in-Err.refused.fault c.in-Err.ensures.stays_shut c.in-Err.ensures.crash_refused (c.is_of_disk.ensures.0 failed);
    }
