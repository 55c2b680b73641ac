-- Of other calls. A disk in memory tells its moments from a record of its strokes.
use Rattle.std.specs.Prelude.{◌≡◌, ◌≢◌, ℕ, ◌+◌, ◌≤◌, Bool, true, ◌||◌, ◌==◌, nat_lt, if◌then◌else◌, List, [], ◌∷◌, ◌++◌, length, drop, Option, None, Some, is_some, unwrap_or}
use Rattle.wf_model.specs.Faults.{last_count, one_more}
use Rattle.wf_disk.specs.Disk.{Told, Only}
use Rattle.wf_disk.specs.Strokes.{Stroke, State, Outcome, Since, image_after, left_after, are_fit, are_writes, first_state, state_after}
use Rattle.wf_disk.specs.Arms.{fate_at, is_stop}
use Rattle.wf_disk.specs.declared.arm.Arm.{Arm}
use Rattle.wf_disk.specs.declared.arm.Armed.{Armed}
use Rattle.wf_disk.specs.declared.arm.Fate.{Fate}
use Rattle.wf_disk.specs.declared.arm.Fate.TheVariants as fate
use Rattle.wf_disk.specs.declared.arm.Outcome.{Outcome as CrashOutcome}
use Rattle.wf_disk.specs.declared.arm.Outcome.TheVariants as outcomes

-- a disk in memory, as its callers see it
pub record Held : Type 0 where
  -- its bytes as the record began, and the strokes that were done since
  pub first : List ℕ
  pub strokes : List Stroke
  -- how many of these stand up to the last sync
  pub synced : ℕ
  pub clock : ℕ
  pub faults : ℕ
  -- the outcome that a disk which has stopped takes at its revival
  pub stop : Option CrashOutcome
  pub arm : Option Armed
  -- for how many bytes and for how many writes there is room
  pub room : ℕ
  pub writes : ℕ

-- its bytes now
abbrev pub image_of : Held → List ℕ
image_of m = image_after m.first m.strokes

-- what a crash leaves by its outcome
abbrev pub left_by : CrashOutcome → Held → List ℕ
left_by outcome m = left_after outcome m.first m.strokes m.synced

-- the same disk with these bytes and a new record
abbrev pub begun_anew : Held → List ℕ → Held
begun_anew m file = record m { first = file; strokes = []; synced = 0 }

-- the same disk after a revival, at which a disk that has stopped takes its outcome
abbrev pub revived : Held → Held
revived m = record (begun_anew m (left_by (unwrap_or m.stop outcomes.Keep) m)) { stop = None }

-- empty, and never armed
abbrev pub new_disk : Held
new_disk = record { first = []; strokes = []; synced = 0; clock = 0; faults = 0; stop = None; arm = None; room = 0; writes = 0 }

-- the same disk with this stroke from now on as the counted one
abbrev pub armed : Held → ℕ → Arm → Held
armed m stroke what = record m { arm = Some (record { after = m.clock; stroke = stroke; what = what }) }

-- the same disk with no arm
abbrev pub disarmed : Held → Held
disarmed m = record m { arm = None }

-- the same disk, whatever room it has
abbrev pub IsButForRoom : Held → Held → Type 0
IsButForRoom wanted now = now ≡ record wanted { room = now.room; writes = now.writes }

-- after writes of so many bytes no more room is gone than theirs
pub record KeepsRoom (old new : Held) (bytes writes : ℕ) : Type 0 where
  pub bytes_left : old.room ≤ new.room + bytes
  pub writes_left : old.writes ≤ new.writes + writes

-- whether it has stopped before the stroke that moves the clock to n. A clock at its end stops it for good.
abbrev pub is_stopped_for : Held → ℕ → Bool
is_stopped_for m n = is_some m.stop || nat_lt last_count n

-- what the stroke that moves the clock to n does
abbrev pub fate_for : Held → ℕ → Fate
fate_for m n = if is_stopped_for m n then fate.Fails else fate_at m.arm n

-- whether the stroke that moves the clock to n leaves it stopped
abbrev pub is_stopped_after : Held → ℕ → Bool
is_stopped_after m n = is_stopped_for m n || is_stop (fate_at m.arm n)

-- whether it has stopped now
abbrev pub has_stopped : Held → Bool
has_stopped m = is_stopped_for m (m.clock + 1)

-- what the next stroke does
abbrev pub fate_of : Held → Fate
fate_of m = fate_for m (m.clock + 1)

-- one more stroke was done
abbrev pub with_write : Held → ℕ → List ℕ → Held
with_write m at bytes = record m { strokes = m.strokes ++ Stroke.Wrote at bytes ∷ [] }

-- a sync, which makes no entry where nothing is unsynced
abbrev pub with_sync : Held → Held
with_sync m =
    if m.synced == length m.strokes then m
    else record m { strokes = m.strokes ++ Stroke.Synced ∷ []; synced = length m.strokes + 1 }

-- one more stroke was made
abbrev pub counted : Held → Held
counted m = record m { clock = one_more m.clock }

-- one more stroke was made, which failed
abbrev pub failed : Held → Held
failed m = record m { clock = one_more m.clock; faults = one_more m.faults }

-- a call that failed and is no stroke
abbrev pub faulted : Held → Held
faulted m = record m { faults = one_more m.faults }

-- after a size or a read, which fail on a disk that has stopped
abbrev pub after_read : Held → Held
after_read m = if has_stopped m then faulted m else m

-- a failed stroke that stops the disk
abbrev pub stopped_by : Held → CrashOutcome → Held
stopped_by m outcome = record (failed m) { stop = Some outcome }

-- after a write, by its fate
abbrev pub after_write : Held → ℕ → List ℕ → Fate → Held
after_write m at bytes fate.Done = counted (with_write m at bytes)
after_write m at bytes fate.Fails = failed m
after_write m at bytes (fate.Stops outcome) = stopped_by (with_write m at bytes) outcome

-- after a sync, by its fate
abbrev pub after_sync : Held → Fate → Held
after_sync m fate.Done = counted (with_sync m)
after_sync m fate.Fails = failed m
after_sync m (fate.Stops outcome) = stopped_by m outcome

-- its image, and what a crash may leave besides
abbrev pub state_of : Held → State
state_of m = state_after (first_state m.first) m.strokes

-- what it tells as a disk
abbrev pub told_of : Held → Told
told_of m = record {
  image = Some (image_of m);
  clock = m.clock;
  faults = m.faults;
  moment = length m.strokes;
  may_leave = Outcome (state_of m);
  left_since = λ t c. Since (first_state m.first) t m.strokes c;
  is_to_fail = λ n. fate_for m n ≢ fate.Done;
  is_to_stop = λ n. is_stopped_after m n ≡ true;
  has_room = λ writes bytes. (writes ≤ m.writes) × (bytes ≤ m.room);
}

-- what is true of the fields of a disk in memory
pub record IsSound (image first : List ℕ) (strokes : List Stroke) (synced room : ℕ) : Type 0 where
  pub replayed : image ≡ image_after first strokes
  -- with nothing unsynced a crash leaves the image
  pub clean : synced ≡ length strokes → Only image (state_after (first_state first) strokes).may
  pub fit : are_fit (length first) (length image) strokes ≡ true
  pub within : synced ≤ length strokes
  pub unsynced : are_writes (drop synced strokes) ≡ true
  -- there is room to begin the record anew
  pub spare : length image ≤ room
