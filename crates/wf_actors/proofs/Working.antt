-- What a unit did by the end of a round: it took in what came, it answered, and then it took steps.
use Rattle.std.proofs.Common.{◌≡◌, ℕ, ◌<◌, ◌≤◌, Bool, false, List, [], Vec, Option, Some, None, Result, Ok, Err, length, drop, slice_get, ◌==◌, sym, ap, ◌++◌, ◌∙◌, subst, arith}
use Rattle.std.specs.Prelude.{IfSome, OnOk}
use Rattle.std.specs.Vec.{with_items}
use Rattle.std.proofs.lemmas.List.{with_items_is}
use Rattle.std.specs.List.{enumerate_from}
use Rattle.std.specs.Option.{option_map_or}
use Rattle.wf_disk.specs.Disk.{Told}
use Rattle.wf_model.specs.declared.update.Update.{Update}
use Rattle.wf_histories.specs.Histories.{History, taken}
use Rattle.wf_exchange.specs.declared.port.Port.{Port}
use Rattle.wf_exchange.specs.Rings.{pushed}
use Rattle.wf_exchange.specs.Ports.{ways, popped_from, SameEnds}
use Rattle.wf_server.specs.Servers.{Server}
use Rattle.wf_server.specs.Inbox.{AllCame}
use Rattle.wf_actors.specs.declared.desk.Desk.{Desk}
use Rattle.wf_actors.specs.declared.outbox.Outbox.{Outbox}
use Rattle.wf_actors.specs.declared.stop.Stop.{Stop}
use Rattle.wf_actors.specs.declared.stop.Stop.TheVariants as stops
use Rattle.wf_actors.specs.declared.unit.UnitActor.{UnitActor}
use Rattle.wf_actors.specs.Taking.{Anywhere, KeepsHeld}
use Rattle.wf_actors.specs.Peers.{TakesRows}
use Rattle.wf_actors.specs.Sendings.{waiting_for, Sends, SendsSome}
use Rattle.wf_actors.specs.Answering.{made_by, new_admissions, KeepsAnswered, KeepsAsked}
use Rattle.wf_actors.specs.Moves.{Moves, Admits, IsBelow, TakesTurns}
use Rattle.wf_actors.specs.Rounds.{RanOn}
use Rattle.wf_actors.proofs.Beginnings.{begins_over}
use Rattle.wf_actors.proofs.Answered.{answer_stays, answered_then, asked_then}
use Rattle.wf_actors.proofs.Moving.{moves_then, taking_moves}
use Rattle.wf_actors.proofs.Peering.{came_stays}
use Rattle.wf_actors.proofs.Sends.{sends_same, sends_then, some_then, all_some}
use Rattle.wf_actors.proofs.Admitting.{admits_moves, admits_steps}

-- By when all is answered: it took no step, and sent nothing.
pub record Begun {D : Type 0} (told : D → Told) (first answered : Server D) (port took : Port) (refused refused_now : Bool) : Type 0 where
  pub moves : Moves told first answered port took refused refused_now
  pub steps : taken answered.past ≡ taken first.past
  pub sends : (boxes : List Outbox) → Sends first answered port took boxes boxes
  pub came : AllCame first.part first.came → AllCame answered.part answered.came

module _ {D : Type 0} (told : D → Told) where
  -- what came is taken in, and then all is answered
  pub begun : (first taking answered : Server D) (port took : Port) (refused refused_now : Bool) → taking ≡ record first { came = taking.came; early = taking.early } → ways took ≡ ways port
      → ((v : ℕ) → SameEnds port took v) → KeepsHeld first taking → TakesRows Anywhere first taking (popped_from port) (popped_from took) refused refused_now → Admits told taking answered
      → Begun told first answered port took refused refused_now
  begun first taking answered port took refused refused_now rest rings ends stays rows admits =
      record {
        moves = moves_then told first taking answered port took took refused refused_now refused_now
            (taking_moves told first taking port took refused refused_now rest rings rows)
            (admits_moves told taking answered took refused_now admits);
        steps = admits_steps told taking answered admits ∙ ap taken past;
        sends = (λ boxes.
            sends_then first taking answered port took took boxes boxes boxes part (let e = ap taken past in omega (arith, e))
            (sends_same first taking port took boxes part past (λ v. ap (λ o. option_map_or pushed o [] ++ waiting_for boxes v) (ends v)))
            (admits.sends took boxes));
        came = (λ all.
            subst (λ p. AllCame p answered.came) (sym admits.part)
            (subst (λ (l : List (Option Update)). AllCame taking.part l) (sym admits.came) (came_stays first taking rest stays all)));
      }
    where
      part : taking.part ≡ first.part
      part = ap (λ (s : Server D). s.part) rest

      past : taking.past ≡ first.past
      past = ap (λ (s : Server D). s.past) rest

  module _ (first answered : Server D) (port took : Port) (refused refused_now : Bool) (begun : Begun told first answered port took refused refused_now) where
    pub begun_some : (boxes : List Outbox) → SendsSome first answered port took boxes boxes
    begun_some boxes = all_some first answered port took boxes boxes (begun.sends boxes)

    still_below : (target : Option ℕ) → IsBelow target (taken first.past) → IsBelow target (taken answered.past)
    still_below target below = subst (IsBelow target) (sym begun.steps) below

    -- what goes on from there goes on since the first moment
    pub goes_since : (target : Option ℕ) (last : ℕ) → (AllCame answered.part answered.came → IsBelow target (taken answered.past) → taken answered.past < last)
        → AllCame first.part first.came → IsBelow target (taken first.past) → taken first.past < last
    goes_since target last goes all below = let on = goes (begun.came all) (still_below target below) in let e = begun.steps in omega (arith, on, e)

    pub still_within : (target : Option ℕ) → IfSome target (λ t. taken first.past ≤ t → taken answered.past ≤ t)
    still_within None = tt
    still_within (Some t) = λ le. let e = begun.steps in omega (arith, e, le)

    -- and then it took steps
    module _ (last : Server D) (went : Port) where
      pub ended : (refused_last : Bool) → Moves told answered last took went refused_now refused_last → Moves told first last port went refused refused_last
      ended refused_last moves = moves_then told first answered last port took went refused refused_now refused_last begun.moves moves

      pub ended_sends : (boxes boxes_now : List Outbox) → Sends answered last took went boxes boxes_now → Sends first last port went boxes boxes_now
      ended_sends boxes boxes_now sends = sends_then first answered last port took went boxes boxes boxes_now begun.moves.part begun.moves.on (begun.sends boxes) sends

      pub ended_some : (boxes boxes_now : List Outbox) → SendsSome answered last took went boxes boxes_now → SendsSome first last port went boxes boxes_now
      ended_some boxes boxes_now some = some_then first answered last port took went boxes boxes boxes_now begun.moves.part begun.moves.on (begun.sends boxes) some

-- WHAT WAS ANSWERED STAYS SO as steps are taken

module _ (old new : History) (turns : TakesTurns old new) (desks : List Desk) where
  news_stay : (opening : History) → new_admissions opening new ≡ new_admissions opening old
  news_stay opening = ap (λ l. drop (length opening.admissions) (enumerate_from 1 l)) turns.admissions

  answered_stays : KeepsAnswered old new desks desks
  answered_stays =
      record {
        each = (λ opening was.
            record {
              begins = begins_over opening old new was.begins turns.begins;
              makers = was.makers;
              one_each = was.one_each ∙ ap length (sym (news_stay opening));
              made = (λ m. ap (made_by (λ maker. maker == m) was.makers) (news_stay opening) ∙ was.made m);
              whole = was.whole;
              right = (λ m k item answer ei ea. answer_stays old new turns.begins item answer (was.right m k item answer ei ea));
            });
      }

  asked_stays : KeepsAsked old new desks desks
  asked_stays =
      record {
        each = (λ opening was.
            record {
              begins = begins_over opening old new was.begins turns.begins;
              asked = (λ n a le e. was.asked n a le (ap (λ l. slice_get l n) (sym turns.admissions) ∙ e));
            });
      }

pub answered_on : (first old new : History) (desks desks_now : List Desk) → KeepsAnswered first old desks desks_now → TakesTurns old new → KeepsAnswered first new desks desks_now
answered_on first old new desks desks_now k turns = answered_then first old new desks desks_now desks_now k (answered_stays old new turns desks_now)

pub asked_on : (first old new : History) (desks desks_now : List Desk) → KeepsAsked first old desks desks_now → TakesTurns old new → KeepsAsked first new desks desks_now
asked_on first old new desks desks_now k turns = asked_then first old new desks desks_now desks_now k (asked_stays old new turns desks_now)

pub within_from : (target : Option ℕ) (first began last : ℕ) → began ≡ first → IfSome target (λ t. began ≤ t → last ≤ t) → IfSome target (λ t. first ≤ t → last ≤ t)
within_from None first began last same within = tt
within_from (Some t) first began last same within = λ le. within (omega (arith, same, le))

-- what was lent of a vector is what it holds then
pub lent_back : {X Z : Type 0} (v : Vec X Z) (lent back : List X) → lent ≡ v.items → length back ≡ length lent → (with_items v back).items ≡ back
lent_back v lent back same long = with_items_is v back (long ∙ ap length same ∙ sym v.ok.0)

-- a fact of two lists is one of two others that are the same
pub both_same : {X : Type 0} (F : List X → List X → Type 0) (a b c d : List X) → a ≡ c → d ≡ b → F a b → F c d
both_same F a b c d first second fact = subst (λ l. F c l) (sym second) (subst (λ l. F l b) first fact)

-- the end of the work, if no step stopped it
pub ran_on : {D Sent Went : Type 0} (target : Option ℕ) (old new : UnitActor D) (r : Result (Unit {0}) Stop)
    → ((r ≡ Err stops.DiskFailed → ⊥) → new.node.journal.failed ≡ false)
    → OnOk r Sent → (Sent → Sends old.node new.node old.port new.port old.outboxes.items new.outboxes.items)
    → KeepsAnswered old.node.past new.node.past old.desks.items new.desks.items
    → OnOk r Went → (Went → AllCame old.node.part old.node.came → IsBelow target (taken old.node.past) → taken old.node.past < taken new.node.past) → OnOk r (RanOn target old new)
ran_on target old new (Ok done) working sent sends answers went goes = record { working = working (λ is. absurd (cc is)); sends = sends sent; answered = answers; goes = goes went }
ran_on target old new (Err stop) working sent sends answers went goes = tt
