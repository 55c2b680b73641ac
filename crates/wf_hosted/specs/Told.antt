-- Of the laws. What an answer of a desk says by the history before the run.
use Rattle.std.specs.Prelude.{◌≡◌, ◌≢◌, ℕ, List, None, Some, slice_get}
use Rattle.wf_parts.specs.declared.data.PartData.{PartData}
use Rattle.wf_histories.specs.Histories.{Admission, History}
use Rattle.wf_steps.specs.Growing.{place_of, IsMade}
use Rattle.wf_projection.specs.Merged.{numbered}
use Rattle.wf_exchange.specs.declared.lines.LineItem.{LineItem}
use Rattle.wf_actors.specs.declared.desk.Answer.{Answer}
use Rattle.wf_actors.specs.declared.desk.Answer.TheVariants as answers
use Rattle.wf_actors.specs.declared.desk.Desk.{Desk}
use Rattle.wf_actors.specs.Answering.{asked_by, came_to, said_at, AreAnswered}

-- no admission has this request
abbrev pub IsFree : History → ℕ → Type 0
IsFree h request = place_of h request ≡ None

-- `again`: what the item asks for was admission n before the run. `reused`: its request was that of another one. `new`: its request was free,
-- and what it asks for is admission n by now. Of a refusal nothing is said.
abbrev pub IsTold : (opening past : History) → LineItem → Answer → Type 0
IsTold opening past item (answers.New n) = IsFree opening item.request × (numbered past.admissions n ≡ Some (asked_by item))
IsTold opening past item (answers.Again n) = numbered opening.admissions n ≡ Some (asked_by item)
IsTold opening past item (answers.Reused n) =
    (a : Admission) × (numbered opening.admissions n ≡ Some a) × (a.request ≡ item.request) × (a ≢ asked_by item)
IsTold opening past item answers.Refused = Unit {0}

-- no two items that came to the desks have the same request
abbrev pub AreApart : List Desk → Type 0
AreApart desks =
    (m k m' k' : ℕ) (a b : LineItem) → slice_get (came_to desks m) k ≡ Some a → slice_get (came_to desks m') k' ≡ Some b → a.request ≡ b.request →
    (m ≡ m') × (k ≡ k')

-- each request stands once
abbrev pub AreDistinct : History → Type 0
AreDistinct h =
    (i j : ℕ) (a b : Admission) → slice_get h.admissions i ≡ Some a → slice_get h.admissions j ≡ Some b → a.request ≡ b.request → i ≡ j

-- THE LAWS

abbrev pub MadeIsDistinct : Type 0
MadeIsDistinct = (part : PartData) (h : History) → IsMade part h → AreDistinct h

abbrev pub AnswersAreTold : Type 0
AnswersAreTold =
    (opening past : History) (desks : List Desk) → AreDistinct past → AreApart desks → AreAnswered opening past desks →
    (m k : ℕ) (item : LineItem) (answer : Answer) → slice_get (came_to desks m) k ≡ Some item → slice_get (said_at desks m) k ≡ Some answer →
    IsTold opening past item answer
