-- What a server does with an update that may be received.
use Rattle.std.proofs.Common.{◌≡◌, ◌≢◌, ℕ, Bool, true, false, Some, None, Result, Ok, Err, refl, sym, ap, ap₂, ◌∙◌, subst, arith}
use Rattle.std.specs.Prelude.{is_err, ◌||◌}
use native.Mathlib.Decide.{ℕ_discrete}
use Rattle.wf_model.specs.declared.update.Update.{Update}
use Rattle.wf_steps.specs.Fitting.{MayBeReceived}
use Rattle.wf_server.specs.declared.fault.Received.{Received}
use Rattle.wf_server.specs.declared.fault.Received.TheVariants.{Old, Same, Fresh}
use Rattle.wf_server.specs.declared.fault.ReceiveFault.{ReceiveFault}
use Rattle.wf_server.specs.declared.fault.ReceiveFault.TheVariants as faults
use Rattle.wf_server.specs.Servers.{Server, held}
use Rattle.wf_server.specs.Inbox.{IsPeer}
use Rattle.wf_server.specs.Receiving.{ReceiveAnswers, Holding}
use Rattle.wf_actors.specs.Taking.{Receives, TakesOne, KeepsHeld}

or_false : (b : Bool) → (b || false) ≡ b
or_false true = refl
or_false false = refl

module _ {D : Type 0} (old new : Server D) (x : Update) where
  same_rest : new ≡ old → new ≡ record old { came = new.came; early = new.early }
  same_rest e = subst (λ (s : Server D). s ≡ record old { came = s.came; early = s.early }) (sym e) refl

  same_held : new ≡ old → (v s : ℕ) → held new v s ≡ held old v s
  same_held e v s = ap (λ (server : Server D). held server v s) e

  held_on : Holding old new x → (v s : ℕ) → (v ≡ x.from.0 → s ≢ x.step) → held new v s ≡ held old v s
  held_on h v s n = by_unit (ℕ_discrete v x.from.0)
    where
      by_unit : Dec (v ≡ x.from.0) → held new v s ≡ held old v s
      by_unit (yes e) = h.steps v s (n e)
      by_unit (no ne) = h.units v s ne

  same_keeps : new ≡ old → KeepsHeld old new
  same_keeps e v s y at = same_held e v s ∙ at

  -- where none was held of it
  held_keeps : Holding old new x → held old x.from.0 x.step ≡ None → KeepsHeld old new
  held_keeps h none v s y at = by_unit (ℕ_discrete v x.from.0) (ℕ_discrete s x.step)
    where
      by_unit : Dec (v ≡ x.from.0) → Dec (s ≡ x.step) → held new v s ≡ Some y
      by_unit (no n) d = h.units v s n ∙ at
      by_unit (yes e) (no n) = h.steps v s n ∙ at
      by_unit (yes e) (yes f) = let was : None ≡ Some y = sym none ∙ sym (ap₂ (held old) e f) ∙ at in absurd (cc was)

  stays_of : (r : Result Received ReceiveFault) → ReceiveAnswers old x r → (r ≡ Ok Fresh → Holding old new x) → ((r ≡ Ok Fresh → ⊥) → new ≡ old) → KeepsHeld old new
  stays_of (Ok Old) answer fresh kept = same_keeps (kept (λ f. absurd (cc f)))
  stays_of (Ok Same) answer fresh kept = same_keeps (kept (λ f. absurd (cc f)))
  stays_of (Ok Fresh) answer fresh kept = let next = answer.0 in held_keeps (fresh refl) next.is_held
  stays_of (Err fault) answer fresh kept = same_keeps (kept (λ f. absurd (cc f)))

  receives : (refused : Bool) (r : Result Received ReceiveFault) → IsPeer old.part x.from.0 → MayBeReceived old.part x → ReceiveAnswers old x r → (r ≡ Ok Fresh → Holding old new x) → ((r ≡ Ok Fresh → ⊥) → new ≡ old)
      → Receives old new x refused (refused || is_err r)
  receives refused (Ok Old) peer fit answer fresh kept =
      let e = kept (λ f. absurd (cc f)) in
      record {
        old_one = (λ le. (or_false refused, same_held e));
        fresh = (λ lt near none. let le = answer.1 in absurd (omega (arith, lt, le)));
        others = (λ v s n. same_held e v s);
      }
  receives refused (Ok Same) peer fit answer fresh kept =
      let e = kept (λ f. absurd (cc f)) in
      let later = answer.later in
      record {
        old_one = (λ le. absurd (omega (arith, le, later)));
        fresh = (λ lt near none. absurd (cc (none, answer.is_held)));
        others = (λ v s n. same_held e v s);
      }
  receives refused (Ok Fresh) peer fit answer fresh kept =
      let h = fresh refl in
      let next = answer.0 in
      let later = next.later in
      record {
        old_one = (λ le. absurd (omega (arith, le, later)));
        fresh = (λ lt near none. (or_false refused, h.this));
        others = held_on h;
      }
  receives refused (Err faults.NotPeer) peer fit answer fresh kept = absurd (answer peer)
  receives refused (Err (faults.TooFar step)) peer fit answer fresh kept =
      let e = kept (λ f. absurd (cc f)) in
      let far = answer.1 in
      record {
        old_one = (λ le. absurd (omega (arith, le, far)));
        fresh = (λ lt near none. absurd (omega (arith, near, far)));
        others = (λ v s n. same_held e v s);
      }
  receives refused (Err (faults.Clash given)) peer fit answer fresh kept =
      let e = kept (λ f. absurd (cc f)) in
      let next = answer.1 in
      let later = next.later in
      record {
        old_one = (λ le. absurd (omega (arith, le, later)));
        fresh = (λ lt near none. absurd (cc (none, next.is_held)));
        others = (λ v s n. same_held e v s);
      }
  receives refused (Err faults.Unfit) peer fit answer fresh kept = absurd (answer.1 fit)

  rest_of : (r : Result Received ReceiveFault) → (r ≡ Ok Fresh → Holding old new x) → ((r ≡ Ok Fresh → ⊥) → new ≡ old) → new ≡ record old { came = new.came; early = new.early }
  rest_of (Ok Old) fresh kept = same_rest (kept (λ f. absurd (cc f)))
  rest_of (Ok Same) fresh kept = same_rest (kept (λ f. absurd (cc f)))
  rest_of (Ok Fresh) fresh kept = let h = fresh refl in h.rest
  rest_of (Err fault) fresh kept = same_rest (kept (λ f. absurd (cc f)))

  -- an update that comes, by what the server answers
  pub takes_one : (refused refused_now : Bool) (r : Result Received ReceiveFault) → refused_now ≡ (refused || is_err r) → ReceiveAnswers old x r → (r ≡ Ok Fresh → Holding old new x) → ((r ≡ Ok Fresh → ⊥) → new ≡ old)
      → TakesOne old new x refused refused_now
  takes_one refused refused_now r e answer fresh kept =
      record {
        rest = rest_of r fresh kept;
        stays = stays_of r answer fresh kept;
        receives = (λ peer fit. subst (Receives old new x refused) (sym e) (receives refused r peer fit answer fresh kept));
      }
