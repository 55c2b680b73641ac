-- What a start takes of its disk's room.
use Rattle.std.proofs.Common.{◌≡◌, ℕ, ◌+◌, refl, sym, ◌∙◌, subst, arith}
use Rattle.std.specs.Prelude.{Result, Ok, Err, IfOk}
use Rattle.wf_disk.specs.Disk.{Told, IsLawful, IsSame}
use Rattle.wf_journal.specs.Journal.{KeepsBodies}
use Rattle.wf_journal.specs.Room.{UsesRoom}
use Rattle.wf_parts.specs.declared.data.PartData.{PartData}
use Rattle.wf_server.specs.Starting.{head_length, StartRoom}
use Rattle.wf_server.specs.Heads.{HeadRoom, IsEmpty}
use Rattle.wf_server.proofs.Stretches.{told_too}

-- ROOM

-- as much as two numbers that are the same
at_same : (disk : Told) (w w' b b' : ℕ) → w ≡ w' → b ≡ b' → disk.has_room w b → disk.has_room w' b'
at_same disk w w' b b' writes bytes room = subst (λ n. disk.has_room n b') writes (subst (λ n. disk.has_room w n) bytes room)

-- nothing is gone, so no more than anything
pub uses_same : (old new : Told) → IsSame old new → UsesRoom old new 0 0
uses_same old new same = λ writes bytes room. same.room writes bytes (at_same old (writes + 0) writes (bytes + 0) bytes (omega arith) (omega arith) room)

pub uses_less : (old new : Told) → IsLawful new → IsSame old new → (used_writes used_bytes : ℕ) → UsesRoom old new used_writes used_bytes
uses_less old new lawful same used_writes used_bytes = λ writes bytes room. lawful.less writes used_writes bytes used_bytes (same.room (writes + used_writes) (bytes + used_bytes) room)

-- more is no less
pub uses_more : (old new : Told) → IsLawful new → (w b more_writes more_bytes : ℕ) → UsesRoom old new w b → UsesRoom old new (more_writes + w) (more_bytes + b)
uses_more old new lawful w b more_writes more_bytes uses = λ writes bytes room.
    lawful.less writes more_writes bytes more_bytes (uses (writes + more_writes) (bytes + more_bytes) (at_same old (writes + (more_writes + w)) (writes + more_writes + w) (bytes + (more_bytes + b)) (bytes + more_bytes + b) (omega arith) (omega arith) room))

-- one call after the other
pub uses_then : (old mid new : Told) (w b w' b' : ℕ) → UsesRoom old mid w b → UsesRoom mid new w' b' → UsesRoom old new (w' + w) (b' + b)
uses_then old mid new w b w' b' first second = λ writes bytes room.
    second writes bytes (first (writes + w') (bytes + b') (at_same old (writes + (w' + w)) (writes + w' + w) (bytes + (b' + b)) (bytes + b' + b) (omega arith) (omega arith) room))

-- the same numbers
pub uses_as : (old new : Told) (w b w' b' : ℕ) → w ≡ w' → b ≡ b' → UsesRoom old new w b → UsesRoom old new w' b'
uses_as old new w b w' b' writes bytes uses = subst (λ n. UsesRoom old new n b') writes (subst (λ n. UsesRoom old new w n) bytes uses)

-- A HEAD

module _ (part : PartData) where
  pub head_room_same : (old new : Told) → IsLawful new → IsSame old new → HeadRoom part old new
  head_room_same old new lawful same = record { most = uses_less old new lawful same 2 (head_length part + 6); begun = λ file is some. uses_same old new same }

  -- one was written
  pub head_room_empty : (old mid new : Told) → IsSame old mid → IsEmpty old → UsesRoom mid new 2 (head_length part + 6) → HeadRoom part old new
  head_room_empty old mid new same empty uses = record {
    most = λ writes bytes room. uses writes bytes (same.room (writes + 2) (bytes + (head_length part + 6)) room);
    begun = λ file is some. absurd (some (empty file is));
  }

  -- and then it was read
  pub head_room_then : (old mid new : Told) → HeadRoom part old mid → IsSame mid new → HeadRoom part old new
  head_room_then old mid new room same = record {
    most = λ writes bytes has. same.room writes bytes (room.most writes bytes has);
    begun = λ file is some. λ writes bytes has. same.room writes bytes (room.begun file is some writes bytes has);
  }

  -- A START

  pub start_room : (old mid new : Told) → KeepsBodies old mid → UsesRoom old mid 1 1 → HeadRoom part mid new → StartRoom part old new
  start_room old mid new kept first room = record {
    most = uses_as old new (2 + 1) (head_length part + 6 + 1) 3 (head_length part + 7) refl (omega arith) (uses_then old mid new 1 1 2 (head_length part + 6) first room.most);
    begun = λ file is some.
        let here = told_too old.image mid.image kept.tells file is in
        uses_as old new (0 + 1) (0 + 1) 1 1 refl refl (uses_then old mid new 1 1 0 0 first (room.begun here.0 here.1 (λ none. some (sym (kept.bodies file here.0 is here.1) ∙ none))));
  }

  -- it was refused as it began
  pub start_room_refused : (old new : Told) → IsLawful new → UsesRoom old new 1 1 → StartRoom part old new
  start_room_refused old new lawful uses = record {
    most = uses_as old new (2 + 1) (head_length part + 6 + 1) 3 (head_length part + 7) refl (omega arith) (uses_more old new lawful 1 1 2 (head_length part + 6) uses);
    begun = λ file is some. uses;
  }

-- whatever came, this holds
pub ok_always : {A E : Type 0} (r : Result A E) (P : Type 0) → P → IfOk r (λ _. P)
ok_always (Ok x) P holds = holds
ok_always (Err e) P holds = tt
