-- What came of all peers is taken in, call by call.
use Rattle.std.proofs.Common.{◌≡◌, ◌≢◌, ℕ, zero, suc, ◌+◌, ◌-◌, ◌<◌, ◌≤◌, Bool, List, [], ◌∷◌, ◌++◌, length, map, get_or, Option, Some, None, is_some, slice_get, refl, sym, ap, ◌∙◌, subst, cond, eq-eqb, arith}
use Rattle.std.specs.Prelude.{◌==◌, IsSome}
use Rattle.std.proofs.lemmas.List.{length-append}
use native.Mathlib.Decide.{ℕ_discrete}
use Rattle.wf_model.specs.declared.update.Update.{Update}
use Rattle.wf_parts.specs.declared.data.PartData.{PartData}
use Rattle.wf_histories.specs.Histories.{TurnDone, History, taken, inputs_at}
use Rattle.wf_histories.specs.Agreement.{peers}
use Rattle.wf_worlds.specs.Growing.{turned}
use Rattle.wf_worlds.specs.Worlds.{gather}
use Rattle.wf_worlds.proofs.Growing.{turn_takes}
use Rattle.wf_server.specs.Servers.{Server, held, held_in, inputs_of, with_turn}
use Rattle.wf_server.specs.Inbox.{IsPeer, AllCame, IsInbox}
use Rattle.wf_actors.specs.Taking.{IsRow, IsFull, TakesMore, Anywhere, KeepsHeld, ComesMore}
use Rattle.wf_actors.specs.Peers.{AreRows, ReachTo, KeptWhatCame, HasTaken, TakesRows}
use Rattle.wf_actors.proofs.Rows.{comes_none, comes_then, still_there, row_before}
use Rattle.wf_actors.proofs.Gathers.{gather_more, all_gathered}

-- WHAT A TURN KEPT, after one more

earlier_of : (ts : List TurnDone) (t : TurnDone) (i : ℕ) → i < length (map (λ (turn : TurnDone). turn.sealed) ts) → get_or (map (λ (turn : TurnDone). turn.inputs) (ts ++ t ∷ [])) i [] ≡ get_or (map (λ (turn : TurnDone). turn.inputs) ts) i []
earlier_of [] t i lt = absurd (omega (arith, lt))
earlier_of (x ∷ ts) t zero lt = refl
earlier_of (x ∷ ts) t (suc i) lt = earlier_of ts t i (omega (arith, lt))

last_of : (ts : List TurnDone) (t : TurnDone) → get_or (map (λ (turn : TurnDone). turn.inputs) (ts ++ t ∷ [])) (length (map (λ (turn : TurnDone). turn.sealed) ts)) [] ≡ t.inputs
last_of [] t = refl
last_of (x ∷ ts) t = last_of ts t

earlier_inputs : (h : History) (updates : List Update) (i : ℕ) → i < taken h → inputs_at (turned h updates) i ≡ inputs_at h i
earlier_inputs h updates i lt = earlier_of h.turns _ i lt

last_inputs : (h : History) (updates : List Update) → inputs_at (turned h updates) (taken h) ≡ updates
last_inputs h updates = last_of h.turns _

-- of the next step
pub held_next : {D : Type 0} (s : Server D) (v : ℕ) → held s v (taken s.past + 1) ≡ held_in s.came v
held_next s v =
    ap (λ (b : Bool). cond b (held_in s.came v) (cond (taken s.past + 1 == taken s.past + 2) (held_in s.early v) None)) (eq-eqb (taken s.past + 1) (taken s.past + 1) refl)

module _ {D : Type 0} where
  -- what a Turn kept stays, and what it kept came
  kept_on : (first : ℕ → ℕ) (old new : Server D) (came came_now : ℕ → List Update) (i : ℕ) → new.part ≡ old.part → inputs_at new.past i ≡ inputs_at old.past i → ((v : ℕ) → ComesMore (came v) (came_now v))
      → KeptWhatCame first old came i → KeptWhatCame first new came_now i
  kept_on first old new came came_now i part inputs comes kept =
      let more = gather_more (λ v. slice_get (came v) (suc i - first v)) (λ v. slice_get (came_now v) (suc i - first v)) (peers old.part.units old.part.unit.0) (inputs_at old.past i)
      (λ v x at. still_there (came v) (came_now v) (comes v) (suc i - first v) x at) kept in
      subst (λ (p : PartData). gather (λ v. slice_get (came_now v) (suc i - first v)) (peers p.units p.unit.0) ≡ Some (inputs_at new.past i)) (sym part) (more ∙ ap Some (sym inputs))

  -- nothing came
  pub rows_stay : (reach : ℕ → ℕ → Type 0) (s : Server D) (came : ℕ → List Update) (refused : Bool) → TakesRows reach s s came came refused refused
  rows_stay reach s came refused = record { comes = (λ v. comes_none (came v) (came v) refl); takes = (λ opened first was. was) }

  pub rows_then : (reach : ℕ → ℕ → Type 0) (a b c : Server D) (ca cb cc' : ℕ → List Update) (ra rb rc : Bool) → TakesRows reach a b ca cb ra rb → TakesRows reach b c cb cc' rb rc → TakesRows reach a c ca cc' ra rc
  rows_then reach a b c ca cb cc' ra rb rc p q =
      record {
        comes = (λ v. comes_then (ca v) (cb v) (cc' v) (p.comes v) (q.comes v));
        takes = (λ opened first was. q.takes opened first (p.takes opened first was));
      }

  full_same : (v first : ℕ) (old new : Server D) (came came_now : List Update) → taken new.past ≡ taken old.past → ((s : ℕ) → held new v s ≡ held old v s) → came_now ≡ came → IsFull v first old came → IsFull v first new came_now
  full_same v first old new came came_now steps same e f =
      let from = f.from in
      let most = f.most in
      subst (IsFull v first new) (sym e)
      (record {
        from = omega (arith, steps);
        most = omega (arith, steps);
        each = (λ s lt. same s ∙ f.each s (omega (arith, steps, lt)));
      })

  -- a call by which the server holds the same
  pub rows_kept : (reach : ℕ → ℕ → Type 0) (old new : Server D) (came : ℕ → List Update) (refused : Bool) → new.part ≡ old.part → new.past.turns ≡ old.past.turns → ((v s : ℕ) → held new v s ≡ held old v s)
      → TakesRows reach old new came came refused refused
  rows_kept reach old new came refused part turns same =
      record {
        comes = (λ v. comes_none (came v) (came v) refl);
        takes = (λ opened first was rows near.
            let h = was (subst (λ p. AreRows p first came) part rows)
            (λ v peer. subst (λ n. reach (first v + length (came v)) n) steps (near v (subst (λ p. IsPeer p v) (sym part) peer))) in
            record {
              full = (λ v peer. full_same v (first v) old new (came v) (came v) steps (same v) refl (h.full v (subst (λ p. IsPeer p v) part peer)));
              turns = (λ i from lt. kept_on first old new came came i part (ap (λ (ts : List TurnDone). get_or (map (λ (turn : TurnDone). turn.inputs) ts) i []) turns)
                  (λ v. comes_none (came v) (came v) refl) (h.turns i from (omega (arith, lt, steps))));
              none = h.none;
            });
      }
    where
      steps : taken new.past ≡ taken old.past
      steps = ap (λ (ts : List TurnDone). length (map (λ (turn : TurnDone). turn.sealed) ts)) turns

  -- a step that was taken
  pub rows_later : (old new : Server D) (came : ℕ → List Update) (refused : Bool) → new.part ≡ old.part → new.past ≡ with_turn old.past old.came → AllCame old.part old.came → IsInbox old.part (taken old.past + 1) old.came
      → ((v s : ℕ) → taken old.past + 1 < s → held new v s ≡ held old v s) → TakesRows Anywhere old new came came refused refused
  rows_later old new came refused part past all inbox later =
      record {
        comes = (λ v. comes_none (came v) (came v) refl);
        takes = (λ opened first was rows near.
            let h = was (subst (λ p. AreRows p first came) part rows) (λ v peer. tt) in
            record {
              full = (λ v peer.
                  let f = h.full v (subst (λ p. IsPeer p v) part peer) in
                  let from = f.from in
                  let most = f.most in
                  record {
                    from = omega (arith, steps);
                    most = omega (arith, steps);
                    each = (λ s lt. later v s (omega (arith, steps, lt)) ∙ f.each s (omega (arith, steps, lt)));
                  });
              turns = (λ i from lt. turn_at opened first h i from lt (ℕ_discrete i (taken old.past)));
              none = h.none;
            });
      }
    where
      steps : taken new.past ≡ taken old.past + 1
      steps = let t = ap taken past ∙ turn_takes old.past (inputs_of old.came) in omega (arith, t)

      -- the last one kept what was held
      last_kept : (opened : ℕ) (first : ℕ → ℕ) → HasTaken opened first old came refused → KeptWhatCame first new came (taken old.past)
      last_kept opened first h =
          let all_of = all_gathered old.part (taken old.past + 1) old.came inbox all (λ v. slice_get (came v) (suc (taken old.past) - first v))
          (λ v peer. let next : suc (taken old.past) ≡ taken old.past + 1 = omega arith in
          ap (λ n. slice_get (came v) (n - first v)) next ∙ sym ((h.full v peer).each (taken old.past + 1) (omega arith)) ∙ held_next old v) in
          subst (λ (p : PartData). gather (λ v. slice_get (came v) (suc (taken old.past) - first v)) (peers p.units p.unit.0) ≡ Some (inputs_at new.past (taken old.past))) (sym part)
          (all_of ∙ ap Some (sym (ap (λ (g : History). inputs_at g (taken old.past)) past ∙ last_inputs old.past (inputs_of old.came))))

      turn_at : (opened : ℕ) (first : ℕ → ℕ) → HasTaken opened first old came refused → (i : ℕ) → opened ≤ i → i < taken new.past → Dec (i ≡ taken old.past) → KeptWhatCame first new came i
      turn_at opened first h i from lt (yes e) = subst (KeptWhatCame first new came) (sym e) (last_kept opened first h)
      turn_at opened first h i from lt (no n) =
          let before : i < taken old.past = omega (arith, lt, steps, n) in
          kept_on first old new came came i part (ap (λ (g : History). inputs_at g i) past ∙ earlier_inputs old.past (inputs_of old.came) i before) (λ v. comes_none (came v) (came v) refl) (h.turns i from before)

  -- more came of one peer
  pub rows_more : (reach : ℕ → ℕ → Type 0) (v : ℕ) (old new : Server D) (came came_now : ℕ → List Update) (refused refused_now : Bool) → ((behind more steps : ℕ) → reach (behind + more) steps → reach behind steps)
      → IsPeer old.part v → ((u : ℕ) → u ≢ v → came_now u ≡ came u) → TakesMore reach v old new (came v) (came_now v) refused refused_now → TakesRows reach old new came came_now refused refused_now
  rows_more reach v old new came came_now refused refused_now lower peer others more =
      record {
        comes = (λ u. comes u (ℕ_discrete u v));
        takes = (λ opened first was rows near.
            let h = was (λ u is. row_before old.part u (first u) (came u) (came_now u) (comes u (ℕ_discrete u v)) (row_now first rows u is)) (near_before first near) in
            let t = more.takes (first v) old (λ row reached. record { full = h.full v peer; others = (λ u s n. refl); none = h.none }) (rows v (peer_now v peer)) (near v (peer_now v peer)) in
            record {
              full = (λ u is. full_of opened first h t.full t.others u is (ℕ_discrete u v));
              turns = (λ i from lt. kept_on first old new came came_now i part (ap (λ (s : Server D). inputs_at s.past i) more.rest) (λ u. comes u (ℕ_discrete u v)) (h.turns i from (omega (arith, lt, steps))));
              none = t.none;
            });
      }
    where
      part : new.part ≡ old.part
      part = ap (λ (s : Server D). s.part) more.rest

      steps : taken new.past ≡ taken old.past
      steps = ap (λ (s : Server D). taken s.past) more.rest

      peer_now : (u : ℕ) → IsPeer old.part u → IsPeer new.part u
      peer_now u is = subst (λ p. IsPeer p u) (sym part) is

      comes : (u : ℕ) → Dec (u ≡ v) → ComesMore (came u) (came_now u)
      comes u (yes e) = subst (λ w. ComesMore (came w) (came_now w)) (sym e) more.comes
      comes u (no n) = comes_none (came u) (came_now u) (others u n)

      row_now : (first : ℕ → ℕ) → AreRows new.part first came_now → (u : ℕ) → IsPeer old.part u → IsRow old.part u (first u) (came_now u)
      row_now first rows u is = subst (λ p. IsRow p u (first u) (came_now u)) part (rows u (peer_now u is))

      near_before : (first : ℕ → ℕ) → ReachTo reach new.part first came_now (taken new.past) → ReachTo reach old.part first came (taken old.past)
      near_before first near u is =
          let c = comes u (ℕ_discrete u v) in
          let long : first u + length (came_now u) ≡ first u + length (came u) + length c.0 =
          let l = ap length c.1 in let a = length-append (came u) c.0 in omega (arith, l, a) in
          lower (first u + length (came u)) (length c.0) (taken old.past)
          (subst (λ n. reach n (taken old.past)) long (subst (λ n. reach (first u + length (came_now u)) n) steps (near u (peer_now u is))))

      full_of : (opened : ℕ) (first : ℕ → ℕ) → HasTaken opened first old came refused → IsFull v (first v) new (came_now v) → ((u s : ℕ) → u ≢ v → held new u s ≡ held old u s) → (u : ℕ) → IsPeer new.part u → Dec (u ≡ v)
          → IsFull u (first u) new (came_now u)
      full_of opened first h full same u is (yes e) = subst (λ w. IsFull w (first w) new (came_now w)) (sym e) full
      full_of opened first h full same u is (no n) =
          full_same u (first u) old new (came u) (came_now u) steps (λ s. same u s n) (others u n) (h.full u (subst (λ p. IsPeer p u) part is))

some_stays : (o n : Option Update) → IsSome o → ((x : Update) → o ≡ Some x → n ≡ Some x) → IsSome n
some_stays (Some x) n is stays = ap is_some (stays x refl)
some_stays None n is stays = absurd (cc is)

-- if an update of each peer had come, it is there still
pub came_stays : {D : Type 0} (old new : Server D) → new ≡ record old { came = new.came; early = new.early } → KeepsHeld old new → AllCame old.part old.came → AllCame new.part new.came
came_stays {D = D} old new rest stays all v peer =
    some_stays (held_in old.came v) (held_in new.came v) (all v (subst (λ p. IsPeer p v) part peer))
    (λ x at. sym (held_next new v) ∙ ap (held new v) step ∙ stays v (taken old.past + 1) x (held_next old v ∙ at))
  where
    part : new.part ≡ old.part
    part = ap (λ (s : Server D). s.part) rest

    step : taken new.past + 1 ≡ taken old.past + 1
    step = ap (λ (s : Server D). taken s.past + 1) rest
