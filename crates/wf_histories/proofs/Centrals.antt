-- The central law over histories that agree, and isolation.
use Rattle.std.proofs.Common.{◌≡◌, ℕ, zero, suc, ◌+◌, ◌<◌, ◌≤◌, true, List, map, take, drop, get_or, sum, length, refl, sym, ap, ap₂, ◌∙◌, arith}
use Rattle.std.specs.List.{range_with_len, insert}
use Rattle.wf_model.specs.declared.chart.Chart.{Chart}
use Rattle.wf_model.specs.declared.outer.Outer.{Outer}
use Rattle.wf_parts.specs.declared.data.PartData.{PartData}
use Rattle.wf_model.specs.declared.update.Update.{Update}
use Rattle.wf_semantics.specs.Admission.{may_come}
use Rattle.wf_semantics.proofs.Lists.{range_mem}
use Rattle.wf_parts.specs.Parts.{part_of}
use Rattle.wf_views.specs.Views.{View, first_view}
use Rattle.wf_views.specs.OwnSteps.{own_update}
use Rattle.wf_views.specs.Absorbing.{absorbed}
use Rattle.wf_views.proofs.Lists.{map_agree}
use Rattle.wf_lockstep.specs.Shares.{entries_at, outers_to, state_after, share_of}
use Rattle.wf_lockstep.specs.Shown.{shown}
use Rattle.wf_lockstep.specs.Lock.{lock_view, lock_update, outers_by}
use Rattle.wf_lockstep.proofs.LockHolds.{view_shown, update_is_share}
use Rattle.wf_histories.specs.Histories.{Admission, History, seals, taken, inputs_at, sealed_by, local, local_update}
use Rattle.wf_histories.specs.Agreement.{lean, least_taken}
use Rattle.wf_histories.specs.Laws.{merged_of, IsCentral, AreLean, Isolation}
use Rattle.wf_histories.proofs.Bridge.{Absorbs, unit_of_part, absorbs_lean, local_is_lock, update_is_lock}
use Rattle.wf_histories.proofs.MergedList.{near_least, merged_long, at_merged, merged_first, outers_own, list_ordered}

-- the run of the parts goes by the outers so far
lock_same : (n : ℕ) (part : ℕ → PartData) (f g : ℕ → ℕ → List Outer) (j u : ℕ) → ((v i : ℕ) → v < n → i < j → f v i ≡ g v i) → lock_view n part f j u ≡ lock_view n part g j u
unfolding lock_view
lock_same n part f g zero u e = refl
lock_same n part f g (suc j) u e =
    ap₂ (absorbed (part u)) (lock_same n part f g j u (λ v i lt l. e v i lt (omega arith)))
    (map_agree (λ v. own_update (part v) (suc j) (lock_view n part f j v) (f v j)) (λ v. own_update (part v) (suc j) (lock_view n part g j v) (g v j)) (range_with_len 0 n)
    (λ v m. let r = range_mem 0 n v m in ap₂ (own_update (part v) (suc j)) (lock_same n part f g j v (λ w i lt l. e w i lt (omega arith))) (e v j (omega arith) (omega arith))))

module _ (chart : Chart) (h : ℕ → History) (are : AreLean chart h) where
  abbrev n : ℕ
  n = length chart.units

  pub near : (u : ℕ) → u < n → taken (h u) ≤ least_taken n h + 1
  near u lt = near_least n h are.agree.made u lt

  pub outers_same : (v i : ℕ) → v < n → i ≤ least_taken n h → sealed_by (h v) i ≡ outers_by (merged_of chart h) v i
  outers_same v i lt le = sym (ap (outers_to v) (at_merged n h (suc (suc i)) (omega arith)) ∙ outers_own n h v i lt)

  pub absorbs : Absorbs (lean chart) n (part_of chart) (λ v. sealed_by (h v))
  absorbs = absorbs_lean chart (λ v. sealed_by (h v)) (λ v j lt. (are.follow v lt).at_unit j)

  pub lock_is : (u j : ℕ) → u < n → j ≤ taken (h u) → local (part_of chart u) (h u) j ≡ lock_view n (part_of chart) (λ v. sealed_by (h v)) j u
  lock_is u j lt le = local_is_lock (lean chart) n (part_of chart) h (unit_of_part chart) absorbs are.agree j u lt le

  merged_lock : (u j : ℕ) → j ≤ least_taken n h + 1 → lock_view n (part_of chart) (λ v. sealed_by (h v)) j u ≡ lock_view n (part_of chart) (outers_by (merged_of chart h)) j u
  merged_lock u j le = lock_same n (part_of chart) (λ v. sealed_by (h v)) (outers_by (merged_of chart h)) j u (λ v i lt l. outers_same v i lt (omega arith))

  -- as far as the entries may come
  abbrev pub Before : ℕ → Type 0
  Before k = (i : ℕ) → i < k → may_come chart (state_after chart (merged_of chart h) i).items (entries_at (merged_of chart h) (suc i)) ≡ true

  pub shows_upto : (u j : ℕ) → u < n → j ≤ taken (h u) → Before j → local (part_of chart u) (h u) j ≡ shown (part_of chart u) (state_after chart (merged_of chart h) j) (entries_at (merged_of chart h) (suc j))
  shows_upto u j lt le before =
      lock_is u j lt le ∙ merged_lock u j (omega (arith, near u lt))
      ∙ view_shown chart (merged_of chart h) are.accepted j before (merged_first n h) (list_ordered n h) j (omega (arith, near u lt, merged_long n h)) (omega arith) u

  -- the run of the parts makes the shares
  pub lock_shares : (v j : ℕ) → v < n → j ≤ least_taken n h → Before (suc j) → lock_update n (part_of chart) (λ v. sealed_by (h v)) j v ≡ share_of chart (merged_of chart h) v j
  lock_shares v j lt le before =
      ap₂ (own_update (part_of chart v) (suc j)) (merged_lock v j (omega arith)) (outers_same v j lt le)
      ∙ update_is_share chart (merged_of chart h) are.accepted (suc j) before (merged_first n h) (list_ordered n h) j v (omega (arith, merged_long n h)) (omega arith)

  pub local_update_is : (u j : ℕ) → u < n → j ≤ taken (h u) → local_update (part_of chart u) (h u) (suc j) ≡ lock_update n (part_of chart) (λ v. sealed_by (h v)) j u
  local_update_is u j lt le = update_is_lock (lean chart) n (part_of chart) h (unit_of_part chart) absorbs u j (lock_is u j lt le)

-- ISOLATION

-- a view is a function of the part, the inputs and what was sealed
local_same : (p q : PartData) (h g : History) (k : ℕ) → p ≡ q → ((j : ℕ) → j < k → inputs_at h j ≡ inputs_at g j) → ((j : ℕ) → j < k → sealed_by h j ≡ sealed_by g j) → local p h k ≡ local q g k
unfolding local
local_same p q h g zero e i s = ap first_view e
local_same p q h g (suc j) e i s =
    ap (λ (view : View). absorbed p view (insert (inputs_at h j) p.unit.0 (own_update p (suc j) view (sealed_by h j)))) (local_same p q h g j e (λ x l. i x (omega arith)) (λ x l. s x (omega arith)))
    ∙ ap₂ (λ (ins : List Update) (os : List Outer). absorbed p (local q g j) (insert ins p.unit.0 (own_update p (suc j) (local q g j) os))) (i j (omega arith)) (s j (omega arith))
    ∙ ap (λ (x : PartData). absorbed x (local q g j) (insert (inputs_at g j) x.unit.0 (own_update x (suc j) (local q g j) (sealed_by g j)))) e

sealed_same : (h g : History) → h.admissions ≡ g.admissions → seals h ≡ seals g → (j : ℕ) → sealed_by h j ≡ sealed_by g j
unfolding sealed_by
sealed_same h g a s zero = refl
sealed_same h g a s (suc i) = ap₂ (λ (ss : List ℕ) (xs : List Admission). map (λ a. a.outer) (take (get_or ss i 0) (drop (sum (take i ss)) xs))) s a

pub isolation_from : ((chart : Chart) (h : ℕ → History) → AreLean chart h → IsCentral chart h) → Isolation
isolation_from law chart chart' h h' u k lt lt' are are' same =
    let views = local_same (part_of chart u) (part_of chart' u) (h u) (h' u) k same.part
    (λ j l. are.agree.kept u j lt (omega (arith, same.taken_here)) ∙ same.reach j l ∙ sym (are'.agree.kept u j lt' (omega (arith, same.taken_there))))
    (λ j l. sealed_same (h u) (h' u) same.admissions same.sealed j) in
    (views, sym ((law chart h are).shows u k lt same.taken_here) ∙ views ∙ (law chart' h' are').shows u k lt' same.taken_there)
