-- A unit's way through a history that records made, one Turn more.
use Rattle.std.proofs.Common.{◌≡◌, ℕ, suc, ◌+◌, ◌*◌, ◌^◌, ◌<◌, ◌≤◌, nat_lt, true, List, [], ◌∷◌, ◌++◌, length, take, drop, get_or, refl, sym, ap, ap₂, ◌∙◌, subst, arith, le-leb}
use Rattle.std.specs.Prelude.{All}
use Rattle.std.specs.List.{sum, insert}
use Rattle.std.proofs.lemmas.Bool.{ltb-true}
use Rattle.std.proofs.lemmas.List.{get_or-map, length-map}
use Rattle.std.proofs.lemmas.List.Elements.{All-from_recursion}
use Rattle.std.proofs.lemmas.List.FromFn.{map-range_with_len_more, get_or-range_with_len}
use Rattle.std.proofs.lemmas.List.Sums.{sum_by_more, sum_by_more_le}
use Rattle.wf_model.specs.Limits.{max_starts, max_steps, max_sealed}
use Rattle.wf_model.specs.declared.ids.ActId.{ActId}
use Rattle.wf_model.specs.declared.outer.Outer.{Outer}
use Rattle.wf_model.specs.declared.update.Update.{Update}
use Rattle.wf_parts.specs.declared.data.PartData.{PartData}
use Rattle.wf_parts.specs.Parts.{IsPart}
use Rattle.wf_views.specs.Views.{View, count_now, first_view}
use Rattle.wf_views.specs.Laws.{IsViewOf}
use Rattle.wf_views.specs.OwnSteps.{own_update}
use Rattle.wf_views.specs.Absorbing.{absorbed, starts_in, start_count}
use Rattle.wf_histories.specs.Histories.{TurnDone, History, seals, taken, inputs_at, sealed_by, local, local_update}
use Rattle.wf_owns.proofs.Small.{all_by}
use Rattle.wf_worlds.specs.Admitting.{outers}
use Rattle.wf_worlds.specs.Counts.{STEP_STARTS, starts_few, HasFewStarts, counts_within}
use Rattle.wf_worlds.proofs.Counted.{counts_are_bounded, absorb_counts_fit, insert_all, insert_length}
use Rattle.wf_worlds.proofs.Keeping.{local_is_view}
use Rattle.wf_steps.specs.Growing.{IsMade}
use Rattle.wf_steps.proofs.Made.{made_fits, made_good, made_steps, made_sealed, inputs_taken, inputs_few, each_few, range_made}
use Rattle.wf_agreement.specs.Own.{updates_to}
use Rattle.wf_agreement.specs.declared.walk.Walk.{Walk}
use Rattle.wf_agreement.specs.Walks.{walk_at}

-- BEFORE THE FIRST TURN

pub first_local : (part : PartData) (h : History) → first_view part ≡ local part h 0
unfolding local
first_local part h = refl

pub first_own : (part : PartData) (h : History) (view : View) (os : List Outer) → view ≡ first_view part → os ≡ [] → own_update part 1 view os ≡ local_update part h 1
unfolding local sealed_by
first_own part h view os view_is os_are = ap₂ (own_update part 1) view_is os_are

pub walk_first : (part : PartData) (h : History) (view : View) (updates : List Update) (next : Update) → view ≡ local part h 0 → updates ≡ [] → next ≡ local_update part h 1 → record { view = view; updates = updates; next = next; sealed = 0 } ≡ walk_at part h 0
unfolding walk_at
walk_first part h view updates next view_is updates_are next_is = λ i. record { view = view_is i; updates = updates_are i; next = next_is i; sealed = 0 }

-- WHAT IT HAS MADE

pub updates_more : (part : PartData) (h : History) (n : ℕ) → updates_to part h n ++ local_update part h (suc n) ∷ [] ≡ updates_to part h (n + 1)
updates_more part h n = sym (map-range_with_len_more (local_update part h) 1 n (suc n) (omega arith))

pub made_so_far : (part : PartData) (h : History) (n : ℕ) (walk : Walk) → walk ≡ walk_at part h n → walk.updates ≡ updates_to part h n
unfolding walk_at
made_so_far part h n walk is = ap (λ (w : Walk). w.updates) is

pub made_next : (part : PartData) (h : History) (n : ℕ) (walk : Walk) → walk ≡ walk_at part h n → walk.updates ++ walk.next ∷ [] ≡ updates_to part h (n + 1)
unfolding walk_at
made_next part h n walk is = ap (λ (w : Walk). w.updates ++ w.next ∷ []) is ∙ updates_more part h n

-- THE TURN AT ITS PLACE, which the unit has come to
pub record IsTurning (part : PartData) (h : History) (at : ℕ) (walk : Walk) (turn : TurnDone) : Type 0 where
  pub is : IsPart part
  pub made : IsMade part h
  pub there : at < taken h
  pub here : walk ≡ walk_at part h at
  pub inputs : turn.inputs ≡ inputs_at h at
  pub sealed : turn.sealed ≡ get_or (seals h) at 0
  pub step : turn.step ≡ at + 1

-- as it was read
pub turning : (part : PartData) (h : History) (at : ℕ) (walk : Walk) (turns : List TurnDone) (item turn : TurnDone) →
    IsPart part → IsMade part h → at < taken h → walk ≡ walk_at part h at → turns ≡ h.turns → item ≡ get_or turns at item → turn ≡ item → IsTurning part h at walk turn
turning part h at walk turns item turn is made there here same got view_is =
    let within : at < length h.turns = omega (arith, there, length-map h.turns (λ (t : TurnDone). t.sealed)) in
    let item_is : turn ≡ get_or h.turns at item = view_is ∙ got ∙ ap (λ (l : List TurnDone). get_or l at item) same in
    record {
      is = is;
      made = made;
      there = there;
      here = here;
      inputs = ap (λ (t : TurnDone). t.inputs) item_is ∙ sym (get_or-map (λ (t : TurnDone). t.inputs) h.turns at item [] within);
      sealed = ap (λ (t : TurnDone). t.sealed) item_is ∙ sym (get_or-map (λ (t : TurnDone). t.sealed) h.turns at item 0 within);
      step = ap (λ (t : TurnDone). t.step) item_is ∙ sym (get_or-map (λ (t : TurnDone). t.step) h.turns at item 0 within)
          ∙ ap (λ (l : List ℕ). get_or l at 0) (made_good part is made).steps ∙ get_or-range_with_len 1 (taken h) at 0 there ∙ (let e : 1 + at ≡ at + 1 = omega arith in e);
    }

pub few_starts : (part : PartData) (is : IsPart part) {h : History} → IsMade part h → HasFewStarts is.chart h
few_starts part is {h} made = record {
  peers = λ j l. inputs_few part is (j + 1) (inputs_at h j) (inputs_taken part made j l).suited;
  starts = λ j l. each_few (inputs_at h j) (inputs_taken part made j l).ranges;
}

-- WHAT IT MAKES

module _ {part : PartData} {h : History} {at : ℕ} {walk : Walk} {turn : TurnDone} (t : IsTurning part h at walk turn) where
  view_is : walk.view ≡ local part h at
  unfolding walk_at
  view_is = ap (λ (w : Walk). w.view) t.here

  next_is : walk.next ≡ local_update part h (suc at)
  unfolding walk_at
  next_is = ap (λ (w : Walk). w.next) t.here

  sealed_is : walk.sealed ≡ sum (take at (seals h))
  unfolding walk_at
  sealed_is = ap (λ (w : Walk). w.sealed) t.here

  -- what it seals was admitted, and is few
  pub sealed_fits : walk.sealed + turn.sealed ≤ length h.admissions
  sealed_fits = let all = sum_by_more_le (λ (x : ℕ). x) (seals h) at 0 t.there in omega (arith, all, made_fits part t.made, sealed_is, t.sealed)

  pub sealed_small : walk.sealed + turn.sealed ≤ max_sealed * max_steps
  sealed_small = let all = sum_by_more_le (λ (x : ℕ). x) (seals h) at 0 t.there in omega (arith, all, made_sealed part t.made, made_steps part t.made, sealed_is, t.sealed)

  pub step_small : turn.step ≤ max_steps
  step_small = omega (arith, t.step, t.there, made_steps part t.made)

  -- the updates of all units
  abbrev all : List Update
  all = insert (inputs_at h at) part.unit.0 (local_update part h (suc at))

  pub all_are : (us : List Update) (own : PartData) → us ≡ insert turn.inputs own.unit.0 walk.next → own ≡ part → us ≡ insert (inputs_at h at) part.unit.0 (local_update part h (suc at))
  all_are us own us_are own_is =
      us_are ∙ ap (λ (p : PartData). insert turn.inputs p.unit.0 walk.next) own_is ∙ ap₂ (λ (l : List Update) (u : Update). insert l part.unit.0 u) t.inputs next_is

  few_here : All (λ a. count_now (local part h at) a + start_count a.0.0 (starts_in all) < 2 ^ 32) (local part h at).unclosed
  few_here =
      let taken_in = inputs_taken part t.made at t.there in
      let own = local_update part h (suc at) in
      let view = local part h at in
      let few = range_made part t.is t.made at (omega (arith, t.there)) in
      let small = insert_all starts_few (inputs_at h at) part.unit.0 own (each_few (inputs_at h at) taken_in.ranges) (le-leb (length own.starts) max_starts few.starts_few) in
      let long : length all ≤ length t.is.chart.units = omega (arith, insert_length (inputs_at h at) part.unit.0 own, inputs_few part t.is (at + 1) (inputs_at h at) taken_in.suited) in
      let counts : counts_within (STEP_STARTS * at) view ≡ true =
      ap (λ (p : PartData). counts_within (STEP_STARTS * at) (local p h at)) t.is.is ∙ counts_are_bounded t.is.chart t.is.unit at h t.is.accepted (few_starts part t.is t.made) (omega (arith, t.there)) in
      All-from_recursion (λ (a : ActId × ℕ). count_now view a + start_count a.0.0 (starts_in all) < 2 ^ 32) view.unclosed
      (all_by (λ (a : ActId × ℕ). nat_lt (count_now view a + start_count a.0.0 (starts_in all)) (2 ^ 32))
      (λ (a : ActId × ℕ). count_now view a + start_count a.0.0 (starts_in all) < 2 ^ 32)
      (λ a e. ltb-true (count_now view a + start_count a.0.0 (starts_in all)) (2 ^ 32) e) view.unclosed
      (absorb_counts_fit t.is.chart at view all t.is.accepted (omega (arith, t.there, made_steps part t.made)) counts long small))

  -- the counts fit
  pub absorb_fits : (us : List Update) → us ≡ insert (inputs_at h at) part.unit.0 (local_update part h (suc at)) → All (λ a. count_now walk.view a + start_count a.0.0 (starts_in us) < 2 ^ 32) walk.view.unclosed
  absorb_fits us us_are =
      let V : View → Type 0 = λ v. All (λ a. count_now v a + start_count a.0.0 (starts_in us) < 2 ^ 32) v.unclosed in
      let U : List Update → Type 0 = λ l. All (λ a. count_now (local part h at) a + start_count a.0.0 (starts_in l) < 2 ^ 32) (local part h at).unclosed in
      subst V (sym view_is) (subst U (sym us_are) few_here)

  pub view_after : (us : List Update) (view : View) → us ≡ insert (inputs_at h at) part.unit.0 (local_update part h (suc at)) → view ≡ absorbed part walk.view us → view ≡ local part h (suc at)
  unfolding local
  view_after us view us_are now = now ∙ ap₂ (absorbed part) view_is us_are

  pub is_view_after : (view : View) → view ≡ local part h (suc at) → IsViewOf part view
  is_view_after view now = subst (λ (v : View). IsViewOf part v) (sym now) (local_is_view part h (suc at))

  pub next_after : (view : View) (os : List Outer) → view ≡ local part h (suc at) → os ≡ outers (take turn.sealed (drop walk.sealed h.admissions)) → own_update part (turn.step + 1) view os ≡ local_update part h (suc (suc at))
  unfolding sealed_by
  next_after view os now os_are =
      ap₂ (λ (k : ℕ) (v : View). own_update part k v os) (let e : turn.step + 1 ≡ suc (suc at) = omega (arith, t.step) in e) now
      ∙ ap (own_update part (suc (suc at)) (local part h (suc at))) (os_are ∙ ap₂ (λ (n k : ℕ). outers (take n (drop k h.admissions))) t.sealed sealed_is)

  pub walk_after : (view : View) (updates : List Update) (next : Update) → view ≡ local part h (suc at) → updates ≡ walk.updates ++ walk.next ∷ [] → next ≡ local_update part h (suc (suc at)) →
      record { view = view; updates = updates; next = next; sealed = walk.sealed + turn.sealed } ≡ walk_at part h (at + 1)
  unfolding walk_at
  walk_after view updates next now more next_now =
      let updates_now : updates ≡ updates_to part h (at + 1) = more ∙ made_next part h at walk t.here in
      let sealed_now : walk.sealed + turn.sealed ≡ sum (take (at + 1) (seals h)) = ap₂ (λ (a b : ℕ). a + b) sealed_is t.sealed ∙ sym (sum_by_more (λ (x : ℕ). x) (seals h) at 0 t.there) in
      (λ i. record { view = now i; updates = updates_now i; next = next_now i; sealed = sealed_now i })
      ∙ ap (λ (k : ℕ). record { view = local part h k; updates = updates_to part h (at + 1); next = local_update part h (suc k); sealed = sum (take (at + 1) (seals h)) }) (let e : suc at ≡ at + 1 = omega arith in e)
