-- What a unit does as it takes a step, or doesn't.
use Rattle.std.proofs.Common.{◌≡◌, ℕ, ◌+◌, ◌<◌, ◌≤◌, Bool, List, refl, sym, ap, ◌∙◌, subst, arith}
use Rattle.wf_disk.specs.Disk.{Told}
use Rattle.wf_model.specs.declared.update.Update.{Update}
use Rattle.wf_histories.specs.Histories.{History, taken}
use Rattle.wf_worlds.specs.Growing.{turned}
use Rattle.wf_exchange.specs.declared.port.Port.{Port}
use Rattle.wf_exchange.specs.Ports.{ways, SameMouths}
use Rattle.wf_server.specs.Servers.{Server, told_by, held, inputs_of, with_turn}
use Rattle.wf_server.specs.Inbox.{AllCame, IsInbox}
use Rattle.wf_actors.specs.declared.outbox.Outbox.{Outbox}
use Rattle.wf_actors.specs.Keeping.{KeepsAll}
use Rattle.wf_actors.specs.Taking.{Anywhere}
use Rattle.wf_actors.specs.Sendings.{Sends}
use Rattle.wf_actors.specs.Moves.{Moves, TakesTurns}
use Rattle.wf_actors.proofs.Beginnings.{begins_same, begins_turned, begins_over}
use Rattle.wf_actors.proofs.Moving.{plain_moves, step_on}
use Rattle.wf_actors.proofs.Peering.{rows_kept, rows_later}
use Rattle.wf_actors.proofs.Sends.{sends_same}

module _ {D : Type 0} (told : D → Told) (old new : Server D) where
  -- a step that isn't taken
  module _ (kept : new ≡ record old { journal = new.journal; ready = new.ready }) where
    part_stays : new.part ≡ old.part
    part_stays = ap (λ (s : Server D). s.part) kept

    steps_stay : taken new.past ≡ taken old.past
    steps_stay = ap (λ (s : Server D). taken s.past) kept

    held_stays : (v s : ℕ) → held new v s ≡ held old v s
    held_stays v s = ap (λ (server : Server D). held server v s) kept

    pub stays_moves : (port : Port) → KeepsAll told old new → (told_by told old).faults ≤ (told_by told new).faults → (refused : Bool) → Moves told old new port port refused refused
    stays_moves port keeps faults refused =
        plain_moves told old new port port refused part_stays keeps faults (let e = steps_stay in omega (arith, e)) refl (λ v. refl)
        (λ came. rows_kept Anywhere old new came refused part_stays (ap (λ (s : Server D). s.past.turns) kept) held_stays)

    pub stays_sends : (port : Port) (boxes : List Outbox) → Sends old new port port boxes boxes
    stays_sends port boxes = sends_same old new port port boxes part_stays (ap (λ (s : Server D). s.past) kept) (λ v. refl)

  -- a step that is taken, whatever is pushed then
  pub step_moves : (port port_now : Port) → new.part ≡ old.part → KeepsAll told old new → (told_by told old).faults ≤ (told_by told new).faults → new.past ≡ with_turn old.past old.came → AllCame old.part old.came → IsInbox old.part (taken old.past + 1) old.came
      → ((v s : ℕ) → taken old.past + 1 < s → held new v s ≡ held old v s) → ways port_now ≡ ways port → ((v : ℕ) → SameMouths port port_now v) → (refused : Bool) → Moves told old new port port_now refused refused
  step_moves port port_now part keeps faults past all inbox later rings mouths refused =
      let step = step_on told old new (inputs_of old.came) past in
      plain_moves told old new port port_now refused part keeps faults (omega (arith, step)) rings mouths
      (λ came. rows_later old new came refused part past all inbox later)

-- HOW THE HISTORY GOES ON

pub turns_none : (old new : History) → new ≡ old → TakesTurns old new
turns_none old new e = subst (λ h. TakesTurns old h) (sym e) (record { begins = begins_same old; admissions = refl })

pub turns_one : (old new : History) (inputs : List Update) → new ≡ turned old inputs → TakesTurns old new
turns_one old new inputs e = subst (λ h. TakesTurns old h) (sym e) (record { begins = begins_turned old inputs; admissions = refl })

pub turns_then : (a b c : History) → TakesTurns a b → TakesTurns b c → TakesTurns a c
turns_then a b c p q = record { begins = begins_over a b c p.begins q.begins; admissions = q.admissions ∙ p.admissions }
