-- What a unit does as it answers, item by item.
use Rattle.std.proofs.Common.{◌≡◌, ℕ, ◌+◌, ◌≤◌, Bool, false, List, length, map, Option, None, Result, Ok, Err, refl, sym, ap, ◌∙◌, subst, arith}
use Rattle.std.specs.Prelude.{◌==◌, if◌then◌else◌}
use Rattle.wf_disk.specs.Disk.{Told}
use Rattle.wf_model.specs.declared.outer.Outer.{Outer}
use Rattle.wf_model.specs.declared.update.Update.{Update}
use Rattle.wf_histories.specs.Histories.{TurnDone, taken}
use Rattle.wf_worlds.specs.Growing.{Fits}
use Rattle.wf_exchange.specs.declared.port.Port.{Port}
use Rattle.wf_server.specs.declared.fault.Admitted.{Admitted}
use Rattle.wf_server.specs.declared.fault.Admitted.TheVariants.{New, Again}
use Rattle.wf_server.specs.declared.fault.AdmitFault.{AdmitFault}
use Rattle.wf_server.specs.Answers.{IsNew}
use Rattle.wf_server.specs.Servers.{Server, told_by, held, held_in, admission, with_admission}
use Rattle.wf_actors.specs.Keeping.{KeepsAll}
use Rattle.wf_actors.specs.Taking.{Anywhere}
use Rattle.wf_actors.specs.Sendings.{Sends}
use Rattle.wf_actors.specs.Moves.{Moves, Admits}
use Rattle.wf_actors.proofs.Moving.{keeps_then, plain_moves}
use Rattle.wf_actors.proofs.Peering.{rows_kept}
use Rattle.wf_actors.proofs.Sends.{sends_admitted, sends_then}

module _ {D : Type 0} (told : D → Told) where
  -- what isn't new leaves all but the journal
  admits_none : (old new : Server D) → KeepsAll told old new → (told_by told old).faults ≤ (told_by told new).faults → new ≡ record old { journal = new.journal } → Admits told old new
  admits_none old new keeps faults e =
      record {
        part = ap (λ (s : Server D). s.part) e;
        came = ap (λ (s : Server D). s.came) e;
        early = ap (λ (s : Server D). s.early) e;
        turns = ap (λ (s : Server D). s.past.turns) e;
        keeps = keeps;
        faults = faults;
        sends = (λ port boxes. subst (λ (s : Server D). Sends old s port port boxes boxes) (sym e) (record { each = (λ v first peer le is. is) }));
      }

  admits_new : (old new : Server D) (request : ℕ) (outer : Outer) → Fits old.past → KeepsAll told old new → (told_by told old).faults ≤ (told_by told new).faults
      → new ≡ record old { journal = new.journal; past = with_admission old.past request outer; ready = false } → Admits told old new
  admits_new old new request outer fits keeps faults e =
      record {
        part = ap (λ (s : Server D). s.part) e;
        came = ap (λ (s : Server D). s.came) e;
        early = ap (λ (s : Server D). s.early) e;
        turns = ap (λ (s : Server D). s.past.turns) e;
        keeps = keeps;
        faults = faults;
        sends = (λ port boxes. sends_admitted old new port boxes (admission request outer) fits (ap (λ (s : Server D). s.part) e) (ap (λ (s : Server D). s.past) e));
      }

  pub admits_of : (old new : Server D) (request : ℕ) (outer : Outer) → Fits old.past → KeepsAll told old new → (told_by told old).faults ≤ (told_by told new).faults
      → (r : Result Admitted AdmitFault) → (IsNew r → new ≡ record old { journal = new.journal; past = with_admission old.past request outer; ready = false })
      → ((IsNew r → ⊥) → new ≡ record old { journal = new.journal }) → Admits told old new
  admits_of old new request outer fits keeps faults (Ok (New n)) fresh old_one = admits_new old new request outer fits keeps faults (fresh tt)
  admits_of old new request outer fits keeps faults (Ok (Again n)) fresh old_one = admits_none old new keeps faults (old_one (λ no. no))
  admits_of old new request outer fits keeps faults (Err fault) fresh old_one = admits_none old new keeps faults (old_one (λ no. no))

  pub admits_steps : (old new : Server D) → Admits told old new → taken new.past ≡ taken old.past
  admits_steps old new a = ap (λ (ts : List TurnDone). length (map (λ (turn : TurnDone). turn.sealed) ts)) a.turns

  pub admits_stay : (s : Server D) → Admits told s s
  admits_stay s = admits_none s s (record { each = (λ taken opening kept. kept) }) (omega arith) refl

  pub admits_then : (a b c : Server D) → Admits told a b → Admits told b c → Admits told a c
  admits_then a b c p q =
      record {
        part = q.part ∙ p.part;
        came = q.came ∙ p.came;
        early = q.early ∙ p.early;
        turns = q.turns ∙ p.turns;
        keeps = keeps_then told a b c p.keeps q.keeps;
        faults = let first = p.faults in let second = q.faults in omega arith;
        sends = (λ port boxes. sends_then a b c port port port boxes boxes boxes p.part (let e = admits_steps a b p in omega (arith, e)) (p.sends port boxes) (q.sends port boxes));
      }

  held_same : (old new : Server D) → Admits told old new → (v s : ℕ) → held new v s ≡ held old v s
  held_same old new a v s =
      ap (λ n. held_at n new.came new.early) (admits_steps old new a)
      ∙ ap (λ l. held_at (taken old.past) l new.early) a.came
      ∙ ap (λ l. held_at (taken old.past) old.came l) a.early
    where
      held_at : ℕ → List (Option Update) → List (Option Update) → Option Update
      held_at n came early = if s == n + 1 then held_in came v else (if s == n + 2 then held_in early v else None)

  -- so nothing moves
  pub admits_moves : (old new : Server D) (port : Port) (refused : Bool) → Admits told old new → Moves told old new port port refused refused
  admits_moves old new port refused a =
      plain_moves told old new port port refused a.part a.keeps a.faults (let e = admits_steps old new a in omega (arith, e)) refl (λ v. refl)
      (λ came. rows_kept Anywhere old new came refused a.part a.turns (held_same old new a))
