-- Open counts.
use Rattle.std.proofs.Common.{◌≡◌, ℕ, zero, suc, ◌+◌, ◌*◌, ◌^◌, ◌<◌, ◌≤◌, ◌==◌, ◌&&◌, nat_le, nat_lt, Bool, true, List, [], ◌∷◌, ◌++◌, length, map, take, drop, refl, sym, ap, ◌∙◌, arith, lt-ltb}
use Rattle.std.specs.List.{list_all, insert}
use Rattle.std.proofs.lemmas.Bool.{leb-true}
use Rattle.std.proofs.Common.{le-leb}
use Rattle.std.proofs.lemmas.List.Folds.{list_all-map, list_all-append}
use Rattle.std.proofs.lemmas.List.{take-append-drop}
use Rattle.wf_model.specs.Limits.{max_starts, max_steps}
use Rattle.wf_model.specs.declared.ids.ActId.{ActId}
use Rattle.wf_model.specs.declared.chart.Chart.{Chart}
use Rattle.wf_parts.specs.declared.data.KnownActivity.{KnownActivity}
use Rattle.wf_parts.specs.declared.data.PartData.{PartData}
use Rattle.wf_model.specs.declared.outer.Outer.{Outer}
use Rattle.wf_model.specs.declared.update.StartAt.{StartAt}
use Rattle.wf_model.specs.declared.update.Update.{Update}
use Rattle.wf_model.specs.Accepted.{IsAccepted}
use Rattle.wf_model.proofs.Bools.{and_both, and_true}
use Rattle.wf_parts.specs.Parts.{part_of}
use Rattle.wf_views.specs.Views.{View, first_view, count_now, sees}
use Rattle.wf_views.specs.OwnSteps.{part_step, own_update}
use Rattle.wf_views.specs.Absorbing.{absorbed, starts_in, start_count}
use Rattle.wf_histories.specs.Histories.{inputs_at, sealed_by, local}
use Rattle.wf_worlds.specs.Counts.{STEP_STARTS, starts_few, counts_within, CountsAreBounded, AbsorbCountsFit}
use Rattle.wf_owns.proofs.Small.{few}
use Rattle.wf_owns.proofs.Ranged.{own_starts_few, length_append, filter_short}
use Rattle.wf_owns.proofs.Sorting.{all_imply}

-- few starts in each, few in all
pub starts_bound : (updates : List Update) → list_all starts_few updates ≡ true → length (starts_in updates) ≤ max_starts * length updates
starts_bound [] h = omega arith
starts_bound (x ∷ updates) h =
    let a = and_both (starts_few x) (list_all starts_few updates) h in
    let le : length x.starts ≤ max_starts = leb-true (length x.starts) max_starts a.0 in
    let ih = starts_bound updates a.1 in
    let b = length_append x.starts (starts_in updates) in
    omega (arith, le, ih, b)

abbrev next_count : View → List Update → ActId × ℕ → ℕ
next_count view updates a = count_now view a + start_count a.0.0 (starts_in updates)

module _ (chart : Chart) (ok : IsAccepted chart) (view : View) (updates : List Update) (units : length updates ≤ length chart.units) (few_starts : list_all starts_few updates ≡ true) where
  step_bound : length (starts_in updates) ≤ STEP_STARTS
  step_bound = let a = starts_bound updates few_starts in let f = (few chart ok).units in omega (arith, a, f, units)

  count_bound : (n : ℕ) (a : ActId × ℕ) → nat_le a.1 n ≡ true → next_count view updates a ≤ n + STEP_STARTS
  count_bound n a h =
      let le = leb-true a.1 n h in
      let b = filter_short (λ (s : StartAt). s.act.0 == a.0.0) (starts_in updates) in
      let c = step_bound in
      omega (arith, le, b, c)

  pub next_within : (part : PartData) (j : ℕ) → counts_within (STEP_STARTS * j) view ≡ true → counts_within (STEP_STARTS * suc j) (absorbed part view updates) ≡ true
  unfolding absorbed
  next_within part j h =
      list_all-map (λ (a : ActId × ℕ). nat_le a.1 (STEP_STARTS * suc j)) (λ a. (a.0, next_count view updates a)) view.unclosed
      ∙ all_imply (λ a. nat_le a.1 (STEP_STARTS * j)) (λ a. nat_le (next_count view updates a) (STEP_STARTS * suc j)) (λ a k.
      let b = count_bound (STEP_STARTS * j) a k in le-leb (next_count view updates a) (STEP_STARTS * suc j) (omega (arith, b))) view.unclosed h

  fit_32 : (j : ℕ) → j < max_steps → counts_within (STEP_STARTS * j) view ≡ true → list_all (λ a. nat_lt (next_count view updates a) (2 ^ 32)) view.unclosed ≡ true
  fit_32 j lt h =
      all_imply (λ a. nat_le a.1 (STEP_STARTS * j)) (λ a. nat_lt (next_count view updates a) (2 ^ 32)) (λ a k.
      let b = count_bound (STEP_STARTS * j) a k in lt-ltb (next_count view updates a) (2 ^ 32) (omega (arith, b, lt))) view.unclosed h

pub absorb_counts_fit : AbsorbCountsFit
absorb_counts_fit chart j view updates ok lt h units few_starts = fit_32 chart ok view updates units few_starts j lt h

-- a list with one more
pub insert_length : {A : Type 0} (xs : List A) (i : ℕ) (x : A) → length (insert xs i x) ≡ suc (length xs)
insert_length xs i x =
    let a = length_append (take i xs) (x ∷ drop i xs) in
    let b = length_append (take i xs) (drop i xs) in
    let c : length (take i xs ++ drop i xs) ≡ length xs = ap (λ (l : List _). length l) (take-append-drop i xs) in
    omega (arith, a, b, c)

pub insert_all : {A : Type 0} (p : A → Bool) (xs : List A) (i : ℕ) (x : A) → list_all p xs ≡ true → p x ≡ true → list_all p (insert xs i x) ≡ true
insert_all p xs i x h k =
    let a = and_both (list_all p (take i xs)) (list_all p (drop i xs)) (sym (list_all-append p (take i xs) (drop i xs)) ∙ ap (list_all p) (take-append-drop i xs) ∙ h) in
    list_all-append p (take i xs) (x ∷ drop i xs) ∙ and_true (list_all p (take i xs)) (p x && list_all p (drop i xs)) a.0 (and_true (p x) (list_all p (drop i xs)) k a.1)

pub own_few : (chart : Chart) (u k : ℕ) (view : View) (outers : List Outer) → IsAccepted chart → starts_few (own_update (part_of chart u) k view outers) ≡ true
unfolding part_step
own_few chart u k view outers ok = le-leb (length (own_update (part_of chart u) k view outers).starts) max_starts (own_starts_few chart u ok (sees (part_of chart u) view))

first_within : (acts : List KnownActivity) → list_all (λ (a : ActId × ℕ). nat_le a.1 0) (map (λ known. (known.id, 0)) acts) ≡ true
first_within [] = refl
first_within (a ∷ acts) = first_within acts

pub counts_are_bounded : CountsAreBounded
unfolding local first_view
counts_are_bounded chart u zero h ok small le =
    let z : STEP_STARTS * 0 ≡ 0 = omega arith in
    ap (λ (n : ℕ). list_all (λ (a : ActId × ℕ). nat_le a.1 n) (map (λ known. (known.id, 0)) (part_of chart u).acts)) z ∙ first_within (part_of chart u).acts
counts_are_bounded chart u (suc j) h ok small le =
    next_within chart ok (local (part_of chart u) h j) updates
    (let a = insert_length (inputs_at h j) (part_of chart u).unit.0 own in let b = small.peers j (omega arith) in omega (arith, a, b))
    (insert_all starts_few (inputs_at h j) (part_of chart u).unit.0 own (small.starts j (omega arith)) (own_few chart u (suc j) (local (part_of chart u) h j) (sealed_by h j) ok))
    (part_of chart u) j (counts_are_bounded chart u j h ok small (omega arith))
  where
    own : Update
    own = own_update (part_of chart u) (suc j) (local (part_of chart u) h j) (sealed_by h j)

    updates : List Update
    updates = insert (inputs_at h j) (part_of chart u).unit.0 own
