-- Of the laws. Agreement of the units' histories, and the merged list.
use Rattle.std.specs.Prelude.{ℕ, zero, suc, ◌+◌, ◌≡◌, ◌<◌, ◌≤◌, ◌==◌, not, min, List, [], map, filter, flat_map}
use Rattle.std.specs.List.{range_with_len}
use Rattle.wf_model.specs.declared.chart.Chart.{Chart}
use Rattle.wf_model.specs.declared.outer.Outer.{Outer}
use Rattle.wf_model.specs.declared.outer.Entry.{Entry}
use Rattle.wf_parts.specs.declared.data.PartData.{PartData}
use Rattle.wf_model.specs.declared.update.Update.{Update}
use Rattle.wf_views.specs.Relevant.{relevant}
use Rattle.wf_lockstep.specs.Lock.{lock_update}
use Rattle.wf_histories.specs.Histories.{History, taken, inputs_at, sealed_by, local_update}
use Rattle.wf_parts.specs.Peers.{peers_of}

-- the other units, in order
abbrev pub peers : ℕ → ℕ → List ℕ
peers n u = filter (λ v. not (v == u)) (range_with_len 0 n)

-- each input that a Turn kept is the peer's update of that step, as `cut` leaves it on the way from v to u; so each peer has made it
pub record Agree (cut : ℕ → ℕ → Update → Update) (n : ℕ) (part : ℕ → PartData) (h : ℕ → History) : Type 0 where
  pub kept : (u j : ℕ) → u < n → j < taken (h u) → inputs_at (h u) j ≡ map (λ v. cut v u (local_update (part v) (h v) (suc j))) (peers n u)
  pub made : (u v : ℕ) → u < n → v < n → taken (h u) ≤ taken (h v) + 1

-- nothing is cut
abbrev pub whole : ℕ → ℕ → Update → Update
whole v u update = update

-- each peer is sent what it knows
abbrev pub lean : Chart → ℕ → ℕ → Update → Update
lean chart v u update = relevant (peers_of chart v) update u

-- the second text: the inputs are updates of the run of the parts
pub record AgreeLock (cut : ℕ → ℕ → Update → Update) (n : ℕ) (part : ℕ → PartData) (h : ℕ → History) : Type 0 where
  pub kept : (u j : ℕ) → u < n → j < taken (h u) → inputs_at (h u) j ≡ map (λ v. cut v u (lock_update n part (λ v. sealed_by (h v)) j v)) (peers n u)
  pub made : (u v : ℕ) → u < n → v < n → taken (h u) ≤ taken (h v) + 1

-- the least of f 0, .., f n
abbrev pub least_to : (ℕ → ℕ) → ℕ → ℕ
least_to f zero = f 0
least_to f (suc n) = min (least_to f n) (f (suc n))

-- the least taken count of n units
abbrev pub least_taken : ℕ → (ℕ → History) → ℕ
least_taken zero h = 0
least_taken (suc n) h = least_to (λ u. taken (h u)) n

abbrev pub entry : ℕ → Outer → Entry
entry u outer = record { unit = record { 0 = u }; outer = outer }

-- E_k: in unit order, what each unit's Turn k - 2 sealed
abbrev pub merged_entries : ℕ → (ℕ → History) → ℕ → List Entry
merged_entries n h zero = []
merged_entries n h (suc zero) = []
merged_entries n h (suc (suc j)) = flat_map (λ u. map (entry u) (sealed_by (h u) j)) (range_with_len 0 n)

-- the merged list, E_1 to the least taken count + 2
abbrev pub merged_list : ℕ → (ℕ → History) → List (List Entry)
merged_list n h = map (merged_entries n h) (range_with_len 1 (least_taken n h + 2))
