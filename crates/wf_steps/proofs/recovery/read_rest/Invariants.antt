use Rattle.std.proofs.Common.{◌≡◌, ◌-◌, ◌^◌, ℕ, List, Some, map}
use Rattle.wf_disk.specs.Disk.{IsSame}
use Rattle.wf_journal.specs.Frames.{Frame, frames_from}
use Rattle.wf_journal.specs.Journal.{IsPlace}
use Rattle.wf_steps.specs.Records.{read_on}
use Rattle.wf_worlds.specs.Ends.{end_of_history}
use Rattle.wf_steps.proofs.recovery.read_rest.Given as goal

abbrev pub invariant-loop-body : goal.invariant-loop-body
invariant-loop-body g l = record {
  part : l.replica.part ≡ l.fn.replica.part;
  same : IsSame (g.D.Disk.told l.fn.journal.disk) (g.D.Disk.told l.journal.disk);
  kept : l.journal ≡ record l.fn.journal { disk = l.journal.disk };
  faults : (g.D.Disk.told l.journal.disk).faults ≡ (g.D.Disk.told l.fn.journal.disk).faults;
  end : l.fn.place ≡ end_of_history l.fn.replica.part l.fn.replica.past → l.at ≡ end_of_history l.replica.part l.replica.past;
  reads : (file : List ℕ) → (g.D.Disk.told l.fn.journal.disk).image ≡ Some file → IsPlace file l.fn.place →
      IsPlace file l.at
      × (read_on l.fn.replica.part (map (λ (frame : Frame). frame.body) (frames_from file l.fn.place)) l.fn.place l.fn.replica.past
      ≡ read_on l.fn.replica.part (map (λ (frame : Frame). frame.body) (frames_from file l.at)) l.at l.replica.past);
}

abbrev pub decreases-loop-body : goal.decreases-loop-body
decreases-loop-body g l = 2 ^ 64 - l.at
