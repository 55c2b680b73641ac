-- Of other calls. What a disk over a file tells: how many strokes and failures there were.
use Rattle.std.specs.Prelude.{ℕ, ◌≡◌, List, Option, None}
use Rattle.wf_model.specs.Faults.{one_more}
use Rattle.wf_disk.specs.Disk.{Told, IsLawful}

-- a disk over a file, as its callers see it
pub record OnFile : Type 0 where
  -- what the file holds, where it tells it
  pub held : Option (List ℕ)
  pub clock : ℕ
  pub faults : ℕ

-- one more stroke was made
abbrev pub counted : OnFile → OnFile
counted disk = record disk { clock = one_more disk.clock }

-- one more stroke was made, which failed
abbrev pub failed : OnFile → OnFile
failed disk = record disk { clock = one_more disk.clock; faults = one_more disk.faults }

-- a call that failed and is no stroke
abbrev pub faulted : OnFile → OnFile
faulted disk = record disk { faults = one_more disk.faults }

-- a stroke was counted, whatever it did to what is held
abbrev pub Counts : OnFile → OnFile → Type 0
Counts old new = (new.clock ≡ (counted old).clock) × (new.faults ≡ old.faults)

-- a stroke that failed was counted, whatever it did to what is held
abbrev pub Fails : OnFile → OnFile → Type 0
Fails old new = (new.clock ≡ (failed old).clock) × (new.faults ≡ (failed old).faults)

-- What it tells as a disk: its counts, and no more. Any stroke may fail, and a crash may leave anything. It wants no
-- memory.
abbrev pub told_of : OnFile → Told
told_of disk = record {
  image = None;
  clock = disk.clock;
  faults = disk.faults;
  moment = 0;
  may_leave = λ c. Unit {0};
  left_since = λ t c. Unit {0};
  is_to_fail = λ n. Unit {0};
  is_to_stop = λ n. Unit {0};
  has_room = λ writes bytes. Unit {0};
}

-- it keeps the law of what disks tell
pub lawful_file : (disk : OnFile) → IsLawful (told_of disk)
lawful_file disk = record {
  stands = λ file is. tt;
  counts_now = λ t within c now. tt;
  only_now = λ c left. tt;
  stops_fail = λ n stops. tt;
  less = λ writes more bytes many room. tt;
}
