-- Which status the program may end with, and what it has written then.
use Rattle.std.specs.Prelude.{◌≡◌, ◌≤◌, ◌⊎◌, ℕ, List, None, Some, length, take, Option, IfSome}
use Rattle.std.specs.Io.KnownBytes.{Appends, Keeps, IsAtEnd}
use lib.Chars.{codes}
use Rattle.wf_model.specs.declared.status.Status.{Status}
use Rattle.wf_model.specs.declared.status.Status.TheVariants as status
use Rattle.wf_model.specs.Faults.{Rose}
use Rattle.wf_refusals.specs.Lines.{refusal}
use Rattle.wf_disk.specs.Shelf.{ShelfTold}
use Rattle.wf_top.specs.declared.command.Task.{Task}
use Rattle.wf_top.specs.declared.answer.Answer.{Answer}
use Rattle.wf_gen.specs.GenText.{gen_text}
use Rattle.wf_top.specs.declared.command.Command.TheVariants.{Play}
use Rattle.wf_top.specs.declared.command.Telling.TheVariants.{Summary}
use Rattle.wf_top.specs.Answers.{answer, MayGive, task_of, gen_number, bulk_number}
use Rattle.wf_top.specs.Tasks.{HasStatus, MayCome}

-- source, sink and shelf at one moment: the bytes that the source has left and those that the sink holds, where they tell, and how
-- often each has failed; and what the shelf tells
pub record Ends : Type 1 where
  pub left : Option (List ℕ)
  pub read_faults : ℕ
  pub held : Option (List ℕ)
  pub write_faults : ℕ
  pub shelf : ShelfTold

-- the source is as before
pub record IsUnread (before after : Ends) : Type 0 where
  pub left : after.left ≡ before.left
  pub faults : after.read_faults ≡ before.read_faults

-- the words name a task, no read failed, and this answer may come of it: by its status, and by the bytes that the source had left
pub record Answers (words : List (List ℕ)) (before after : Ends) (a : Answer) : Type 0 where
  pub task : Task
  pub named : task_of words ≡ Some task
  pub faults : after.read_faults ≡ before.read_faults
  pub status : HasStatus task a.status before.shelf.faults after.shelf.faults
  pub answer : IfSome before.left (λ input. MayCome task before.shelf input a)

-- the words name a number, the text is the input that is generated from it, and nothing was read
pub record IsGenerated (words : List (List ℕ)) (before after : Ends) (text : List ℕ) : Type 0 where
  pub number : ℕ
  pub named : gen_number words ≡ Some number
  pub made : text ≡ gen_text number
  pub unread : IsUnread before after

-- the words name a number, this answer sums up the play of the input that is generated from it, and nothing was read
pub record IsSummed (words : List (List ℕ)) (before after : Ends) (a : Answer) : Type 0 where
  pub number : ℕ
  pub named : bulk_number words ≡ Some number
  pub answer : MayGive (Play (Summary number)) (gen_text number) a
  pub unread : IsUnread before after

-- the words name a task, and a read failed
pub record IsUnreadable (words : List (List ℕ)) (before after : Ends) : Type 0 where
  pub task : Task
  pub named : task_of words ≡ Some task
  pub faults : Rose before.read_faults after.read_faults

-- an answer to the bytes that the source had left, once it is read to its end; or one that sums up a play of generated input
abbrev pub IsAnswer : List (List ℕ) → Ends → Ends → Answer → Type 0
IsAnswer words before after a = (Answers words before after a × IsAtEnd after.left) ⊎ IsSummed words before after a

-- This status with this text is due, by the words, by the bytes that the source had left, by the shelf, and by whether a read
-- failed. That the bytes are too many may be found before the source is read to its end.
abbrev pub IsDue : List (List ℕ) → Ends → Ends → Status → List ℕ → Type 0
IsDue words before after status.Ok text = IsAnswer words before after (answer status.Ok text) ⊎ IsGenerated words before after text
IsDue words before after status.ChartRefused text = IsAnswer words before after (answer status.ChartRefused text)
IsDue words before after status.ScriptRefused text = IsAnswer words before after (answer status.ScriptRefused text)
IsDue words before after status.Limit text =
    IsAnswer words before after (answer status.Limit text) ⊎ (Answers words before after (answer status.Limit text) × (text ≡ refusal (codes "limit input")))
IsDue words before after status.DiskFault text = Answers words before after (answer status.DiskFault text) × IsAtEnd after.left
IsDue words before after status.Journals text = Answers words before after (answer status.Journals text) × IsAtEnd after.left
IsDue words before after status.Words text =
    (task_of words ≡ None) × (gen_number words ≡ None) × (bulk_number words ≡ None) × IsUnread before after × (text ≡ refusal (codes "words"))
IsDue words before after status.ReadFault text = IsUnreadable words before after × (text ≡ refusal (codes "read"))
IsDue words before after status.WriteFault text = ⊥
IsDue words before after status.NoMemory text = ⊥
IsDue words before after status.Unbuilt text = ⊥

-- what is due was written, and no write failed
pub record IsWritten (words : List (List ℕ)) (before after : Ends) (s : Status) : Type 0 where
  pub text : List ℕ
  pub due : IsDue words before after s text
  pub written : Appends before.held after.held text
  pub faults : after.write_faults ≡ before.write_faults

-- a write failed, and a prefix of what is due was written
pub record IsBroken (words : List (List ℕ)) (before after : Ends) : Type 0 where
  pub wanted : Status
  pub text : List ℕ
  pub count : ℕ
  pub due : IsDue words before after wanted text
  pub within : count ≤ length text
  pub written : Appends before.held after.held (take count text)
  pub faults : Rose before.write_faults after.write_faults

-- the program may end so. Want of memory is free, and nothing is written then
abbrev pub MayAnswer : List (List ℕ) → Ends → Ends → Status → Type 0
MayAnswer words before after status.NoMemory = Keeps before.held after.held × (after.write_faults ≡ before.write_faults)
MayAnswer words before after status.WriteFault = IsBroken words before after
MayAnswer words before after status.Ok = IsWritten words before after status.Ok
MayAnswer words before after status.Words = IsWritten words before after status.Words
MayAnswer words before after status.ChartRefused = IsWritten words before after status.ChartRefused
MayAnswer words before after status.ReadFault = IsWritten words before after status.ReadFault
MayAnswer words before after status.Limit = IsWritten words before after status.Limit
MayAnswer words before after status.ScriptRefused = IsWritten words before after status.ScriptRefused
MayAnswer words before after status.Unbuilt = ⊥
MayAnswer words before after status.DiskFault = IsWritten words before after status.DiskFault
MayAnswer words before after status.Journals = IsWritten words before after status.Journals
