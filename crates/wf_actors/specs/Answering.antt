-- Of other calls. What a unit answers to its clients' lines and its workers' completions.
use Rattle.std.specs.Prelude.{◌≡◌, ◌≢◌, ℕ, ◌==◌, ◌≤◌, Bool, List, [], ◌∷◌, ◌++◌, flat_map, drop, length, zip, Some, Result, Ok, Err, slice_get, if◌then◌else◌}
use Rattle.std.specs.Option.{option_map_or}
use Rattle.std.specs.List.{enumerate_from}
use Rattle.wf_histories.specs.Histories.{Admission, History}
use Rattle.wf_projection.specs.Merged.{numbered}
use Rattle.wf_exchange.specs.declared.lines.LineItem.{LineItem}
use Rattle.wf_exchange.specs.Rings.{Ring, popped, ring_out}
use Rattle.wf_server.specs.Images.{Begins}
use Rattle.wf_server.specs.declared.fault.Admitted.{Admitted}
use Rattle.wf_server.specs.declared.fault.Admitted.TheVariants.{New, Again}
use Rattle.wf_server.specs.declared.fault.AdmitFault.{AdmitFault}
use Rattle.wf_server.specs.declared.fault.AdmitFault.TheVariants as admits
use Rattle.wf_actors.specs.declared.stop.Stop.{Stop}
use Rattle.wf_actors.specs.declared.stop.Stop.TheVariants as stops
use Rattle.wf_actors.specs.declared.desk.Answer.{Answer}
use Rattle.wf_actors.specs.declared.desk.Answer.TheVariants as answers
use Rattle.wf_actors.specs.declared.desk.Desk.{Desk}

-- ONE ITEM

-- what it asks for
abbrev pub asked_by : LineItem → Admission
asked_by item = record { request = item.request; outer = item.outer }

-- one of these items asks for it
abbrev pub IsAskedIn : List LineItem → Admission → Type 0
IsAskedIn items a = (k : ℕ) × (item : LineItem) × (slice_get items k ≡ Some item) × (asked_by item ≡ a)

-- an answer to it is right by this history; of a refusal nothing is said
abbrev pub IsAnswer : History → LineItem → Answer → Type 0
IsAnswer past item (answers.New n) = numbered past.admissions n ≡ Some (asked_by item)
IsAnswer past item (answers.Again n) = numbered past.admissions n ≡ Some (asked_by item)
IsAnswer past item (answers.Reused n) = (a : Admission) × (numbered past.admissions n ≡ Some a) × (a.request ≡ item.request) × (a ≢ asked_by item)
IsAnswer past item answers.Refused = Unit {0}

-- with its number, if it is new
abbrev pub if_new : LineItem × Answer → List (ℕ × Admission)
if_new (item, answers.New n) = (n, asked_by item) ∷ []
if_new (item, answers.Again n) = []
if_new (item, answers.Reused n) = []
if_new (item, answers.Refused) = []

-- the new ones of these items, each beside its answer
abbrev pub new_ones : List LineItem → List Answer → List (ℕ × Admission)
new_ones items said = flat_map if_new (zip items said)

-- the admissions that came in since, with their numbers
abbrev pub new_admissions : (before now : History) → List (ℕ × Admission)
new_admissions before now = drop (length before.admissions) (enumerate_from 1 now.admissions)

-- what a server's answer is as one of a desk, or why the unit stops
abbrev pub said_by : Result Admitted AdmitFault → Result Answer Stop
said_by (Ok (New n)) = Ok (answers.New n)
said_by (Ok (Again n)) = Ok (answers.Again n)
said_by (Err (admits.RequestReused n kept)) = Ok (answers.Reused n)
said_by (Err admits.WrongUnit) = Ok answers.Refused
said_by (Err admits.NoItem) = Ok answers.Refused
said_by (Err admits.AlreadyDone) = Ok answers.Refused
said_by (Err admits.WrongOutput) = Ok answers.Refused
said_by (Err admits.JournalFull) = Err stops.JournalFull
said_by (Err admits.NoMemory) = Err stops.NoMemory
said_by (Err admits.DiskFailed) = Err stops.DiskFailed
said_by (Err admits.Reopen) = Err stops.DiskFailed

-- AN ITEM IS ANSWERED: rightly, and what came in is the item, if it is new
pub record IsSaid (old new : History) (item : LineItem) (answer : Answer) : Type 0 where
  pub begins : Begins old new
  pub made : new_admissions old new ≡ if_new (item, answer)
  pub right : IsAnswer new item answer

-- so it is, and the answer is written down
pub record SaysOne (old new : History) (item : LineItem) (told told_now : List Answer) : Type 0 where
  pub answer : Answer
  pub said : told_now ≡ told ++ answer ∷ []
  pub is : IsSaid old new item answer

-- what came in, if anything, is the item
pub record AsksOne (old new : History) (item : LineItem) : Type 0 where
  pub begins : Begins old new
  pub made : (n : ℕ) (a : Admission) → length old.admissions ≤ n → slice_get new.admissions n ≡ Some a → a ≡ asked_by item

-- ONE DESK, of a client or of a worker

-- SO IT GOES ON: these items came besides, each was answered and rightly, and the admissions that came in are the new ones of them.
pub record AnswersMore (old new : History) (before now : List LineItem) (told told_now : List Answer) : Type 0 where
  pub items : List LineItem
  pub answers : List Answer
  pub came : now ≡ before ++ items
  pub said : told_now ≡ told ++ answers
  pub one_each : length answers ≡ length items
  pub begins : Begins old new
  pub made : new_admissions old new ≡ new_ones items answers
  pub right : (k : ℕ) (item : LineItem) (answer : Answer) → slice_get items k ≡ Some item → slice_get answers k ≡ Some answer → IsAnswer new item answer

-- or at least: these items came besides, and each admission that came in was asked for by one of them
pub record AsksMore (old new : History) (before now : List LineItem) : Type 0 where
  pub items : List LineItem
  pub came : now ≡ before ++ items
  pub begins : Begins old new
  pub made : (n : ℕ) (a : Admission) → length old.admissions ≤ n → slice_get new.admissions n ≡ Some a → IsAskedIn items a

-- ALL DESKS OF A UNIT

-- what came out at desk m, and what was answered

abbrev pub came_to : List Desk → ℕ → List LineItem
came_to desks m = option_map_or (λ desk. popped desk.mouth) (slice_get desks m) []

abbrev pub said_at : List Desk → ℕ → List Answer
said_at desks m = option_map_or (λ desk. desk.answers) (slice_get desks m) []

-- those of them that this test finds by who made them
abbrev pub made_by : {M : Type 0} → (M → Bool) → List M → List (ℕ × Admission) → List (ℕ × Admission)
made_by test makers new = flat_map (λ x. if test x.0 then x.1 ∷ [] else []) (zip makers new)

-- ALL WAS ANSWERED, and each new admission was asked for at one desk, in the order in which it came there.
pub record AreAnswered (opening past : History) (desks : List Desk) : Type 0 where
  pub begins : Begins opening past
  pub makers : List ℕ
  pub one_each : length makers ≡ length (new_admissions opening past)
  pub made : (m : ℕ) → made_by (λ maker. maker == m) makers (new_admissions opening past) ≡ new_ones (came_to desks m) (said_at desks m)
  pub whole : (m : ℕ) → length (said_at desks m) ≡ length (came_to desks m)
  pub right : (m k : ℕ) (item : LineItem) (answer : Answer) → slice_get (came_to desks m) k ≡ Some item → slice_get (said_at desks m) k ≡ Some answer → IsAnswer past item answer

-- or at least: each new admission was asked for at some desk
pub record AreAsked (opening past : History) (desks : List Desk) : Type 0 where
  pub begins : Begins opening past
  pub asked : (n : ℕ) (a : Admission) → length opening.admissions ≤ n → slice_get past.admissions n ≡ Some a → (m : ℕ) × IsAskedIn (came_to desks m) a

-- SO IT STAYS, whatever the history was at the opening
pub record KeepsAnswered (old new : History) (desks desks_now : List Desk) : Type 0 where
  pub each : (opening : History) → AreAnswered opening old desks → AreAnswered opening new desks_now

pub record KeepsAsked (old new : History) (desks desks_now : List Desk) : Type 0 where
  pub each : (opening : History) → AreAsked opening old desks → AreAsked opening new desks_now

-- the ring of a desk
abbrev pub ring_at : Desk → Ring
ring_at desk = ring_out desk.mouth
