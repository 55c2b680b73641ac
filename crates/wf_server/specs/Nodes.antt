-- Inner. What a node keeps between two calls.
use Rattle.std.specs.Prelude.{◌≡◌, ◌≤◌, ◌+◌, ℕ, List, length, Option}
use Rattle.std.specs.Option.{ForSome}
use Rattle.wf_model.specs.declared.update.Update.{Update}
use Rattle.wf_codec.specs.Bodies.{IsBodyOf}
use Rattle.wf_disk.specs.Disk.{Told}
use Rattle.wf_journal.specs.State.{Kept}
use Rattle.wf_histories.specs.Histories.{taken}
use Rattle.wf_steps.specs.Room.{Replicated}
use Rattle.wf_worlds.specs.Ends.{longest_turn}
use Rattle.wf_steps.specs.Growing.{MayTurn}
use Rattle.wf_steps.specs.Replicas.{prepared_of}
use Rattle.wf_server.specs.declared.node.Ready.{Ready}
use Rattle.wf_server.specs.Servers.{inputs_of, turn_record}
use Rattle.wf_server.specs.Inbox.{AllCame, IsInbox}
use Rattle.wf_server.specs.Images.{Stands, IsPlaced}

-- the Turn that takes in what came is worked out, with its body, and there is room for all of it
pub record IsReady (room : ℕ) (replica : Replicated) (came : List (Option Update)) (ready : Ready) : Type 0 where
  pub all_came : AllCame replica.part came
  pub may : MayTurn replica.part replica.past (inputs_of came)
  pub prepared : ready.prepared ≡ prepared_of replica.part replica.past (inputs_of came)
  pub body : IsBodyOf (turn_record replica.past came) ready.body
  pub short : length ready.body ≤ longest_turn
  pub turn_room : 1 ≤ replica.turn_room
  pub item_room : length ready.prepared.starts ≤ replica.item_room
  pub journal_room : length ready.body ≤ room

pub record IsNode {D : Type 0} (told : D → Told) (journal : Kept D) (replica : Replicated) (came early : List (Option Update)) (ready : Option Ready) : Type 0 where
  pub stands : Stands (told journal.disk) journal.failed replica.part replica.past
  pub placed : IsPlaced told journal replica.part replica.past
  pub came_is : IsInbox replica.part (taken replica.past + 1) came
  pub early_is : IsInbox replica.part (taken replica.past + 2) early
  pub ready_is : ForSome ready (IsReady journal.room replica came)
