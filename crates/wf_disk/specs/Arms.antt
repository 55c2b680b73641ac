-- Of other calls. What an armed disk does at a stroke.
use Rattle.std.specs.Prelude.{ℕ, ◌+◌, ◌==◌, Bool, true, false, if◌then◌else◌, Option, None, Some}
use Rattle.wf_disk.specs.declared.arm.Arm.{Arm}
use Rattle.wf_disk.specs.declared.arm.Arm.TheVariants.{Fail, Crash}
use Rattle.wf_disk.specs.declared.arm.Armed.{Armed}
use Rattle.wf_disk.specs.declared.arm.Fate.{Fate}
use Rattle.wf_disk.specs.declared.arm.Fate.TheVariants as fate

-- the stroke that moves the clock to n is the one that this arm counts
abbrev pub is_counted : Armed → ℕ → Bool
is_counted arm n = arm.after + arm.stroke == n

-- what the counted stroke does
abbrev pub fate_by : Arm → Fate
fate_by Fail = fate.Fails
fate_by (Crash outcome) = fate.Stops outcome

-- what the stroke that moves the clock to n does
abbrev pub fate_at : Option Armed → ℕ → Fate
fate_at None n = fate.Done
fate_at (Some arm) n = if is_counted arm n then fate_by arm.what else fate.Done

-- this fate stops a disk
abbrev pub is_stop : Fate → Bool
is_stop fate.Done = false
is_stop fate.Fails = false
is_stop (fate.Stops outcome) = true
