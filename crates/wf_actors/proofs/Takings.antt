-- One update more comes in.
use Rattle.std.proofs.Common.{◌≡◌, ◌⊎◌, inl, inr, ⊎_elim, ℕ, zero, suc, ◌+◌, ◌-◌, ◌<◌, ◌≤◌, Bool, false, List, [], ◌∷◌, ◌++◌, length, Some, None, is_some, slice_get, refl, sym, ap, ◌∙◌, subst, arith}
use native.Mathlib.Decide.{ℕ_discrete}
use Rattle.wf_model.specs.declared.update.Update.{Update}
use Rattle.wf_histories.specs.Histories.{taken}
use Rattle.wf_server.specs.Servers.{Server, held}
use Rattle.wf_server.specs.Inbox.{IsPeer, IsUpdateOf}
use Rattle.wf_actors.specs.Taking.{IsRow, IsFull, Receives, TakesOne, TakesMore, Anywhere, Nearby}
use Rattle.wf_actors.proofs.Rows.{behind, before, longer, past_end, none_within, no_value, comes_none, comes_then, row_before}

le_or_lt : (a b : ℕ) → (a ≤ b) ⊎ (b < a)
le_or_lt zero b = inl (omega arith)
le_or_lt (suc a) zero = inr (omega arith)
le_or_lt (suc a) (suc b) = ⊎_elim (λ h. inl (omega arith)) (λ h. inr (omega arith)) (le_or_lt a b)

add_more : (a b : ℕ) → a + (b + 1) ≡ a + b + 1
add_more a b = omega arith

module _ {D : Type 0} where
  pub stays : (reach : ℕ → ℕ → Type 0) (v : ℕ) (old : Server D) (came : List Update) (refused : Bool) → TakesMore reach v old old came came refused refused
  stays reach v old came refused = record { rest = refl; stays = (λ u s x at. at); comes = comes_none came came refl; takes = (λ first base was. was) }

  pub then_more : (reach : ℕ → ℕ → Type 0) (v : ℕ) (a b c : Server D) (ca cb cc' : List Update) (ra rb rc : Bool) → TakesMore reach v a b ca cb ra rb → TakesMore reach v b c cb cc' rb rc → TakesMore reach v a c ca cc' ra rc
  then_more reach v a b c ca cb cc' ra rb rc p q =
      record {
        rest = q.rest ∙ ap (λ (s : Server D). record s { came = c.came; early = c.early }) p.rest;
        stays = (λ u s x at. q.stays u s x (p.stays u s x at));
        comes = comes_then ca cb cc' p.comes q.comes;
        takes = (λ first base was. q.takes first base (p.takes first base was));
      }

  -- it is of a step that is no further than the second next one
  one_more_full : (v first : ℕ) (old new : Server D) (came : List Update) (x : Update) (refused refused_now : Bool) → first + length came ≤ taken old.past + 2 → taken new.past ≡ taken old.past → Receives old new x refused refused_now → IsFull v first old came
      → IsUpdateOf old.part v (first + length came) x → (refused_now ≡ refused) × IsFull v first new (came ++ x ∷ [])
  one_more_full v first old new came x refused refused_now short same r f is = by_step (le_or_lt x.step (taken old.past))
    where
      by_step : (x.step ≤ taken old.past) ⊎ (taken old.past < x.step) → (refused_now ≡ refused) × IsFull v first new (came ++ x ∷ [])
      by_step (inl le) =
          let o = r.old_one le in
          let step = is.at_step in
          let b = f.from in
          let l = longer came x in (
            o.0,
            record {
              from = omega arith;
              most = omega arith;
              each = (λ s lt. o.1 v s ∙ f.each s (omega arith) ∙ sym (before came x (s - first) (λ e. absurd (omega (arith, e, lt)))));
            },
          )
      by_step (inr gt) =
          let step = is.at_step in
          let b = f.from in
          let l = longer came x in
          let none_held : held old x.from.0 x.step ≡ None =
          ap (λ u. held old u x.step) is.from ∙ f.each x.step gt ∙ past_end came (x.step - first) (omega arith) in
          let fr = r.fresh gt (omega arith) none_held in (
            fr.0,
            record {
              from = omega arith;
              most = omega arith;
              each = (λ s lt. at_step s lt fr.1 (ℕ_discrete s x.step));
            },
          )
        where
          at_step : (s : ℕ) → taken new.past < s → held new x.from.0 x.step ≡ Some x → Dec (s ≡ x.step) → held new v s ≡ slice_get (came ++ x ∷ []) (s - first)
          at_step s lt here (yes e) =
              let step = is.at_step in
              let place : s - first ≡ length came = omega (arith, e) in
              ap (λ u. held new u s) (sym is.from) ∙ ap (held new x.from.0) e ∙ here ∙ sym (behind came x) ∙ ap (slice_get (came ++ x ∷ [])) (sym place)
          at_step s lt here (no n) =
              let step = is.at_step in
              let b = f.from in
              r.others v s (λ _. n) ∙ f.each s (omega arith) ∙ sym (before came x (s - first) (λ e. n (omega (arith, e, lt))))

  -- one update more comes; it is of a step that is near enough
  pub one_more : (reach : ℕ → ℕ → Type 0) (v : ℕ) (old new : Server D) (came came_now : List Update) (refused refused_now : Bool) (x : Update)
      → ((first : ℕ) → reach (first + length came + 1) (taken old.past) → reach (first + length came) (taken old.past))
      → ((first : ℕ) → reach (first + length came + 1) (taken old.past) → IsFull v first old came → first + length came ≤ taken old.past + 2)
      → TakesOne old new x refused refused_now → came_now ≡ came ++ x ∷ [] → TakesMore reach v old new came came_now refused refused_now
  one_more reach v old new came came_now refused refused_now x lower near one e =
      record {
        rest = one.rest;
        stays = one.stays;
        comes = (x ∷ [], e);
        takes = (λ first base was row reached.
            let part : new.part ≡ old.part = ap (λ (s : Server D). s.part) one.rest in
            let steps : taken new.past ≡ taken old.past = ap (λ (s : Server D). taken s.past) one.rest in
            let whole : IsRow old.part v first (came ++ x ∷ []) = subst (λ l. IsRow old.part v first l) e (subst (λ p. IsRow p v first came_now) part row) in
            let far : reach (first + length came + 1) (taken old.past) =
            subst (λ n. reach n (taken old.past)) (ap (λ n. first + n) (ap length e ∙ longer came x) ∙ add_more first (length came)) (subst (λ n. reach (first + length came_now) n) steps reached) in
            let t = was (row_before old.part v first came (came ++ x ∷ []) (x ∷ [], refl) whole) (lower first far) in
            let is = whole (length came) x (behind came x) in
            let r = one.receives (subst (IsPeer old.part) (sym is.from) is.peer) is.fit in
            let g = one_more_full v first old new came x refused refused_now (near first far t.full) steps r t.full is in
            record {
              full = subst (IsFull v first new) (sym e) g.1;
              others = (λ u s n. r.others u s (λ same. absurd (n (same ∙ is.from))) ∙ t.others u s n);
              none = g.0 ∙ t.none;
            });
      }

  -- one that is popped while the update of the second next step isn't held
  pub one_popped : (v : ℕ) (old new : Server D) (came came_now : List Update) (refused refused_now : Bool) (x : Update) → is_some (held old v (taken old.past + 2)) ≡ false
      → TakesOne old new x refused refused_now → came_now ≡ came ++ x ∷ [] → TakesMore Anywhere v old new came came_now refused refused_now
  one_popped v old new came came_now refused refused_now x room one e = one_more Anywhere v old new came came_now refused refused_now x (λ first far. tt) (λ first far f. short first f) one e
    where
      short : (first : ℕ) → IsFull v first old came → first + length came ≤ taken old.past + 2
      short first f =
          let b = f.from in
          let n = none_within came (taken old.past + 2 - first) (sym (f.each (taken old.past + 2) (omega arith)) ∙ no_value (held old v (taken old.past + 2)) room) in
          omega arith

  -- one that is handed over
  pub one_handed : (v : ℕ) (old new : Server D) (came came_now : List Update) (refused refused_now : Bool) (x : Update) → TakesOne old new x refused refused_now → came_now ≡ came ++ x ∷ []
      → TakesMore Nearby v old new came came_now refused refused_now
  one_handed v old new came came_now refused refused_now x one e =
      one_more Nearby v old new came came_now refused refused_now x (λ first far. omega (arith, far)) (λ first far f. omega (arith, far)) one e
