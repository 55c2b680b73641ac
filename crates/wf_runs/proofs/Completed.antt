-- What a run completes, once at most.
use Rattle.std.proofs.Common.{◌≡◌, ℕ, zero, suc, ◌+◌, ◌≤◌, ◌==◌, ◌&&◌, ◌||◌, ◌++◌, not, cond, Bool, true, false, List, [], ◌∷◌, Option, Some, None, length, refl, sym, ◌∙◌, ap, ap₂, subst, inl, inr, arith, eqb-true, true≢false, length-append}
use Rattle.std.specs.Prelude.{is_ok, Result, Ok, Err}
use Rattle.std.specs.Option.{is_some}
use Rattle.std.proofs.lemmas.List.Elements.{filter-append}
use Rattle.std.proofs.lemmas.List.Folds.{list_any-append}
use Rattle.wf_model.specs.declared.ids.ActId.{ActId}
use Rattle.wf_model.specs.declared.chart.Chart.{Chart}
use Rattle.wf_model.specs.declared.outer.Output.{Output}
use Rattle.wf_model.specs.declared.outer.Outer.{Outer}
use Rattle.wf_model.specs.declared.outer.Outer.TheVariants.{Happen, Complete}
use Rattle.wf_model.specs.declared.outer.Entry.{Entry}
use Rattle.wf_model.specs.declared.outer.OuterFault.{OuterFault}
use Rattle.wf_model.specs.declared.outer.OuterFault.TheVariants.{WrongUnit, NoItem, AlreadyDone, WrongOutput}
use Rattle.wf_semantics.specs.Items.{Item, one, item_at}
use Rattle.wf_semantics.specs.Run.{CentralState, first_state, next_state, after_steps, central_run, items_closed}
use Rattle.wf_semantics.specs.Admission.{is_act_at, is_of, is_closed, completes, is_pending, are_outputs_of, may_be_admitted, may_come_after, may_come}
use Rattle.wf_model.proofs.Bools.{or_cases, and_both, not_true}
use Rattle.wf_runs.specs.Runs.{IsRunFrom, IsRun}
use Rattle.wf_runs.specs.Completions.{is_completed, completing, all_entries}
use Rattle.wf_runs.proofs.Closing.{closed_now, closed_next}

-- the answer to a completion, by what is tested
abbrev answer : Bool → Bool → Bool → Bool → Result (Unit {0}) OuterFault
answer at of done fit = cond (not at) (Err WrongUnit) (cond (not of) (Err NoItem) (cond done (Err AlreadyDone) (cond (not fit) (Err WrongOutput) (Ok tt))))

-- a completion is admitted where each test passes
passes : (at of closed pending fit : Bool) → is_ok (answer at of (closed || pending) fit) ≡ true → (of ≡ true) × (closed ≡ false) × (pending ≡ false)
passes true true false false true h = (refl, refl, refl)
passes true true false false false h = absurd (true≢false (sym h))
passes true true false true fit h = absurd (true≢false (sym h))
passes true true true pending fit h = absurd (true≢false (sym h))
passes true false closed pending fit h = absurd (true≢false (sym h))
passes false of closed pending fit h = absurd (true≢false (sym h))

module _ (chart : Chart) (c : CentralState) where
  -- an item whose completion is admitted is there, and neither closed nor completed by a pending entry
  pub admitted : (pending : List Entry) (u n : ℕ) (a : ActId) (outputs : List Output) → is_ok (may_be_admitted chart c.items pending u (Complete n a outputs)) ≡ true →
      (is_of a.0 (item_at (c.items u) n) ≡ true) × (is_closed (item_at (c.items u) n) ≡ false) × (is_pending pending u n ≡ false)
  unfolding may_be_admitted
  admitted pending u n a outputs h =
      passes (is_act_at chart u a.0) (is_of a.0 (item_at (c.items u) n)) (is_closed (item_at (c.items u) n)) (is_pending pending u n) (are_outputs_of chart a.0 outputs) h

  is_there : (a : ℕ) (o : Option Item) → is_of a o ≡ true → is_some o ≡ true
  is_there a None h = absurd (true≢false (sym h))
  is_there a (Some x) h = refl

  -- the same of an entry that completes the item
  admitted_entry : (pending : List Entry) (u v n : ℕ) (outer : Outer) → is_ok (may_be_admitted chart c.items pending v outer) ≡ true → ((v == u) && completes n outer) ≡ true →
      (is_some (item_at (c.items u) n) ≡ true) × (is_closed (item_at (c.items u) n) ≡ false) × (is_pending pending u n ≡ false)
  admitted_entry pending u v n (Happen e) h k = absurd (true≢false (sym (and_both (v == u) false k).1))
  admitted_entry pending u v n (Complete item a outputs) h k =
      let same = and_both (v == u) (item == n) k in
      let r = admitted pending u n a outputs
      (sym (ap₂ (λ (w m : ℕ). is_ok (may_be_admitted chart c.items pending w (Complete m a outputs))) (eqb-true v u same.0) (eqb-true item n same.1)) ∙ h) in
      (is_there a.0 (item_at (c.items u) n) r.0, r.1, r.2)

  -- an item that entries complete, which may come, is there
  pub completed_is_there : (pending entries : List Entry) (u n : ℕ) → may_come_after chart c.items pending entries ≡ true → is_pending entries u n ≡ true → is_some (item_at (c.items u) n) ≡ true
  completed_is_there pending [] u n h k = absurd (true≢false (sym k))
  completed_is_there pending (x ∷ xs) u n h k =
      let both = and_both (is_ok (may_be_admitted chart c.items pending x.unit.0 x.outer)) (may_come_after chart c.items (pending ++ x ∷ []) xs) h in
      elim (or_cases ((x.unit.0 == u) && completes n x.outer) (is_pending xs u n) k) [
        | inl p ↦ (admitted_entry pending u x.unit.0 n x.outer both.0 p).0
        | inr r ↦ completed_is_there (pending ++ x ∷ []) xs u n both.1 r
      ]

  -- of entries that may come, one at most completes an item, and none where it is closed or a pending entry completes it
  pub one_completion : (pending entries : List Entry) (u n : ℕ) → may_come_after chart c.items pending entries ≡ true →
      length (completing u n entries) + one (is_closed (item_at (c.items u) n) || is_pending pending u n) ≤ 1
  one_completion pending [] u n h = few (is_closed (item_at (c.items u) n) || is_pending pending u n)
    where
      few : (b : Bool) → 0 + one b ≤ 1
      few true = omega arith
      few false = omega arith
  one_completion pending (x ∷ xs) u n h =
      let both = and_both (is_ok (may_be_admitted chart c.items pending x.unit.0 x.outer)) (may_come_after chart c.items (pending ++ x ∷ []) xs) h in
      go ((x.unit.0 == u) && completes n x.outer) refl both.0
      (subst (λ (b : Bool). length (completing u n xs) + one (is_closed (item_at (c.items u) n) || b) ≤ 1)
      (list_any-append (λ y. (y.unit.0 == u) && completes n y.outer) pending (x ∷ [])) (one_completion (pending ++ x ∷ []) xs u n both.1))
    where
      more : (b p : Bool) (k : ℕ) → b ≡ false → p ≡ false → k + one (b || (p || true)) ≤ 1 → suc k + one (b || p) ≤ 1
      more true p k e q r = absurd (true≢false e)
      more false true k e q r = absurd (true≢false q)
      more false false k e q r = omega arith

      less : (b p : Bool) (k : ℕ) → k + one (b || (p || false)) ≤ 1 → k + one (b || p) ≤ 1
      less true p k r = r
      less false true k r = r
      less false false k r = r

      go : (b : Bool) → ((x.unit.0 == u) && completes n x.outer) ≡ b → is_ok (may_be_admitted chart c.items pending x.unit.0 x.outer) ≡ true →
          length (completing u n xs) + one (is_closed (item_at (c.items u) n) || (is_pending pending u n || (b || false))) ≤ 1 →
          length (cond b (x ∷ completing u n xs) (completing u n xs)) + one (is_closed (item_at (c.items u) n) || is_pending pending u n) ≤ 1
      go true e ok r =
          let w = admitted_entry pending u x.unit.0 n x.outer ok e in
          more (is_closed (item_at (c.items u) n)) (is_pending pending u n) (length (completing u n xs)) w.1 w.2 r
      go false e ok r = less (is_closed (item_at (c.items u) n)) (is_pending pending u n) (length (completing u n xs)) r

-- entries that complete nothing
none_completing : (u n : ℕ) (entries : List Entry) → is_pending entries u n ≡ false → length (completing u n entries) ≡ 0
none_completing u n [] h = refl
none_completing u n (x ∷ xs) h = go ((x.unit.0 == u) && completes n x.outer) h (none_completing u n xs)
  where
    go : (b : Bool) → (b || is_pending xs u n) ≡ false → (is_pending xs u n ≡ false → length (completing u n xs) ≡ 0) → length (cond b (x ∷ completing u n xs) (completing u n xs)) ≡ 0
    go true h ih = absurd (true≢false h)
    go false h ih = ih h

module _ (chart : Chart) where
  -- after entries that may come, an item is closed that was, or that one of them completes
  pub closed_by_entries : (c : CentralState) (entries : List Entry) (u n : ℕ) → may_come chart c.items entries ≡ true →
      is_closed (item_at (items_closed c.items entries u) n) ≡ (is_closed (item_at (c.items u) n) || is_pending entries u n)
  closed_by_entries c entries u n h =
      closed_now chart c entries u n
      ∙ ap (λ (b : Bool). is_closed (item_at (c.items u) n) || b) (go (is_some (item_at (c.items u) n)) (is_pending entries u n) (completed_is_there chart c [] entries u n h))
    where
      go : (s p : Bool) → (p ≡ true → s ≡ true) → (s && p) ≡ p
      go true p f = refl
      go false true f = f refl
      go false false f = refl

  -- after a run an item is closed that was, or that some entry of the run completes
  closed_along : (c : CentralState) (steps : List (List Entry)) (u n : ℕ) → IsRunFrom chart c steps →
      is_closed (item_at ((after_steps chart c steps).items u) n) ≡ (is_closed (item_at (c.items u) n) || is_completed steps u n)
  closed_along c [] u n h = or_none (is_closed (item_at (c.items u) n))
    where
      or_none : (b : Bool) → b ≡ (b || false)
      or_none true = refl
      or_none false = refl
  closed_along c (entries ∷ steps) u n h =
      closed_along (next_state chart c entries) steps u n h.1
      ∙ ap (λ (b : Bool). b || is_completed steps u n) (closed_next chart c entries u n ∙ closed_by_entries c entries u n h.0)
      ∙ or_assoc (is_closed (item_at (c.items u) n)) (is_pending entries u n) (is_completed steps u n)
    where
      or_assoc : (p q r : Bool) → ((p || q) || r) ≡ (p || (q || r))
      or_assoc true q r = refl
      or_assoc false q r = refl

  none_first : (u n : ℕ) → is_closed (item_at ((first_state chart).items u) n) ≡ false
  unfolding first_state
  none_first u zero = refl
  none_first u (suc n) = refl

  pub closed_is_completed : (steps : List (List Entry)) (u n : ℕ) → IsRun chart steps → is_closed (item_at ((central_run chart steps).items u) n) ≡ is_completed steps u n
  closed_is_completed steps u n h = closed_along (first_state chart) steps u n h ∙ ap (λ (b : Bool). b || is_completed steps u n) (none_first u n)

  pub no_second_completion : (steps : List (List Entry)) (pending : List Entry) (u n : ℕ) (a : ActId) (outputs : List Output) → IsRun chart steps →
      (is_completed steps u n || is_pending pending u n) ≡ true → is_ok (may_be_admitted chart (central_run chart steps).items pending u (Complete n a outputs)) ≡ false
  no_second_completion steps pending u n a outputs run h =
      not_true (is_ok (may_be_admitted chart (central_run chart steps).items pending u (Complete n a outputs)))
      (λ ok. let w = admitted chart (central_run chart steps) pending u n a outputs ok in
      true≢false (sym h ∙ ap₂ (λ (p q : Bool). p || q) (sym (closed_is_completed steps u n run) ∙ w.1) w.2))

  -- one entry of a run at most completes an item, and none where it was closed
  once_along : (c : CentralState) (steps : List (List Entry)) (u n : ℕ) → IsRunFrom chart c steps → length (completing u n (all_entries steps)) + one (is_closed (item_at (c.items u) n)) ≤ 1
  once_along c [] u n h = few (is_closed (item_at (c.items u) n))
    where
      few : (b : Bool) → 0 + one b ≤ 1
      few true = omega arith
      few false = omega arith
  once_along c (entries ∷ steps) u n h =
      let parts : length (completing u n (all_entries (entries ∷ steps))) ≡ length (completing u n entries) + length (completing u n (all_entries steps)) =
      ap length (filter-append (λ x. (x.unit.0 == u) && completes n x.outer) entries (all_entries steps)) ∙ length-append (completing u n entries) (completing u n (all_entries steps)) in
      let sum = go (is_closed (item_at (c.items u) n)) (is_pending entries u n) (length (completing u n entries)) (length (completing u n (all_entries steps)))
      (one_completion chart c [] entries u n h.0) (none_completing u n entries)
      (subst (λ (b : Bool). length (completing u n (all_entries steps)) + one b ≤ 1) (closed_next chart c entries u n ∙ closed_by_entries c entries u n h.0)
      (once_along (next_state chart c entries) steps u n h.1)) in
      omega (arith, parts, sum)
    where
      go : (b p : Bool) (j k : ℕ) → j + one (b || false) ≤ 1 → (p ≡ false → j ≡ 0) → k + one (b || p) ≤ 1 → (j + k) + one b ≤ 1
      go true p j k now none later = omega arith
      go false true j k now none later = omega arith
      go false false j k now none later = omega (arith, none refl)

  pub completed_once : (steps : List (List Entry)) (u n : ℕ) → IsRun chart steps → length (completing u n (all_entries steps)) ≤ 1
  completed_once steps u n h = omega (arith, once_along (first_state chart) steps u n h)
