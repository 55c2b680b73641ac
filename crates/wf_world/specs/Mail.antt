-- Of other calls. The messages of a world, with their bytes.
use Rattle.std.specs.Prelude.{◌≡◌, ◌≢◌, ◌<◌, ◌≤◌, ◌+◌, ◌==◌, ◌&&◌, ℕ, zero, suc, Bool, List, length, slice_get, Option, None}
use Rattle.std.specs.List.{sum_by, AllByRecursion}
use Rattle.wf_model.specs.Limits.{max_sent}
use Rattle.wf_model.specs.declared.chart.Chart.{Chart}
use Rattle.wf_codec.specs.Ranges.{IsUpdate}
use Rattle.wf_codec.specs.Spelling.{spelling_of}
use Rattle.wf_machine.specs.Server.{taken}
use Rattle.wf_machine.specs.Machine.{CountingMachine, Message, server}
use Rattle.wf_histories.specs.Histories.{History}
use Rattle.wf_worlds.specs.Worlds.{letter}
use Rattle.wf_world.specs.Sent.{brought, bytes_of}
use Rattle.wf_world.specs.declared.mail.Sent.{Sent}

-- how many bytes they have
abbrev pub bytes_in : List Sent → ℕ
bytes_in messages = sum_by (λ (x : Sent). length x.bytes) messages

-- the message with this number, where messages count from 1
abbrev pub sent_at : List Sent → ℕ → Option Sent
sent_at messages zero = None
sent_at messages (suc n) = slice_get messages n

-- it is of this step, from one unit to another
abbrev pub is_of : ℕ → ℕ → ℕ → Sent → Bool
is_of u v j x = ((x.step == j) && (x.sender.0 == u)) && (x.receiver.0 == v)

-- this is how many bytes they have; they aren't too many, and each message has one at least
pub record IsCounted (messages : List Sent) (sent : ℕ) : Type 0 where
  pub counted : sent ≡ bytes_in messages
  pub few : sent ≤ max_sent
  pub some : length messages ≤ sent

-- a message as the machine has it
abbrev pub message_of : Sent → Message
message_of x = record { sender = x.sender.0; receiver = x.receiver.0; step = x.step }

-- a unit sent it to another one, and has made an update of its step
pub record IsMade (m : CountingMachine) (x : Message) : Type 0 where
  pub sender : x.sender < length m.servers
  pub receiver : x.receiver < length m.servers
  pub other : x.sender ≢ x.receiver
  pub first : 1 ≤ x.step
  pub step : x.step ≤ taken (server m x.sender) + 1

-- these are its bytes, by the machine, and they can be read again
pub record IsLetter (chart : Chart) (m : CountingMachine) (x : Sent) : Type 0 where
  pub made : IsMade m (message_of x)
  pub bytes : x.bytes ≡ bytes_of chart m (message_of x)
  pub whole : IsUpdate (brought chart m (message_of x))

-- all of them are
abbrev pub AreLetters : Chart → CountingMachine → List Sent → Type 0
AreLetters chart m messages = AllByRecursion (IsLetter chart m) messages

-- the bytes of each spell what its sender's history makes of its step, cut by what its receiver knows
abbrev pub AreOfHistories : Chart → (ℕ → History) → List Sent → Type 0
AreOfHistories chart h messages = AllByRecursion (λ (x : Sent). x.bytes ≡ spelling_of (letter chart h x.sender.0 x.receiver.0 x.step)) messages
