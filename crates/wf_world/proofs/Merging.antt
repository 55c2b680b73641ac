-- The merged list of a fleet's histories is that of the machine that counts for it.
use Rattle.std.proofs.Common.{◌≡◌, ℕ, zero, suc, ◌+◌, List, map, flat_map, length, refl, sym, ap, ◌∙◌, arith}
use Rattle.std.specs.List.{range_with_len}
use Rattle.std.proofs.lemmas.List.{length-map}
use Rattle.std.proofs.lemmas.List.FromFn.{length-map-range_with_len}
use Rattle.wf_semantics.proofs.Lists.{range_mem}
use Rattle.wf_views.proofs.Lists.{map_same}
use Rattle.wf_lockstep.proofs.Numbered.{flat_agree}
use Rattle.wf_machine.specs.declared.admission.Place.{Place}
use Rattle.wf_machine.specs.Server.{numbers_sealed}
use Rattle.wf_machine.specs.Machine.{CountingMachine, all_units, server, place_of, places_at, merged_places}
use Rattle.wf_histories.specs.Histories.{History, seals}
use Rattle.wf_histories.specs.Agreement.{least_taken}
use Rattle.wf_bridge.specs.Bridging.{CountsOf}
use Rattle.wf_bridge.proofs.Placing.{merged_same}
use Rattle.wf_projection.specs.Merged as listed
use Rattle.wf_slot.specs.Slots.{unit_of}
use Rattle.wf_world.specs.Sounds.{hist_of}
use Rattle.wf_world.specs.Fleets.{FleetState, units_of, machine_at, IsFleet}
use Rattle.wf_world.proofs.Counts.{counts}

module _ (m : CountingMachine) (n : ℕ) (h : ℕ → History) (c : CountsOf m n h) where
  -- what a turn of each unit sealed
  sealed_same : (j : ℕ) → flat_map (λ u. map (place_of u) (numbers_sealed (seals (h u)) j)) (range_with_len 0 n) ≡ flat_map (λ u. map (place_of u) (numbers_sealed (server m u).sealed j)) (all_units m)
  sealed_same j =
      flat_agree (λ u. map (place_of u) (numbers_sealed (seals (h u)) j)) (λ u. map (place_of u) (numbers_sealed (server m u).sealed j)) (range_with_len 0 n)
      (λ u at. let within = (range_mem 0 n u at).1 in ap (λ (xs : List ℕ). map (place_of u) (numbers_sealed xs j)) (c.sealed u (omega (arith, within))))
      ∙ ap (λ (k : ℕ). flat_map (λ u. map (place_of u) (numbers_sealed (server m u).sealed j)) (range_with_len 0 k)) (sym c.units)

  places_same : (k : ℕ) → listed.places_at n h k ≡ places_at m k
  unfolding places_at
  places_same zero = refl
  places_same (suc zero) = refl
  places_same (suc (suc j)) = sealed_same j

  pub merged_is : listed.merged_places n h ≡ merged_places m
  unfolding Rattle.wf_projection.specs.Merged.merged_places merged_places
  merged_is =
      map_same (listed.places_at n h) (places_at m) places_same (range_with_len 1 (least_taken n h + 2))
      ∙ ap (λ (k : ℕ). map (places_at m) (range_with_len 1 (k + 2))) (sym (merged_same m n h c).0)

-- A FLEET

pub fleet_turns : (f : FleetState) (units : List (List (List Place))) (end : ℕ) → units ≡ map (λ u. listed.unit_places u (hist_of (units_of f.slots) u)) (range_with_len 0 end) → listed.AreTurns units (hist_of (units_of f.slots))
fleet_turns f units end is =
    is
    ∙ ap (λ (k : ℕ). map (λ u. listed.unit_places u (hist_of (units_of f.slots) u)) (range_with_len 0 k))
    (sym (ap (λ (l : List (List (List Place))). length l) is ∙ length-map-range_with_len (λ u. listed.unit_places u (hist_of (units_of f.slots) u)) 0 end))

pub fleet_merged : (f : FleetState) (is : IsFleet f) (units : List (List (List Place))) (end : ℕ) → units ≡ map (λ u. listed.unit_places u (hist_of (units_of f.slots) u)) (range_with_len 0 end) → end ≡ length f.slots →
    listed.merged_places (length units) (hist_of (units_of f.slots)) ≡ merged_places (machine_at f)
fleet_merged f is units end are long =
    ap (λ (k : ℕ). listed.merged_places k (hist_of (units_of f.slots)))
    (ap (λ (l : List (List (List Place))). length l) are ∙ length-map-range_with_len (λ u. listed.unit_places u (hist_of (units_of f.slots) u)) 0 end ∙ long ∙ is.count)
    ∙ merged_is (machine_at f) (length f.chart.units) (hist_of (units_of f.slots)) (counts f.chart is.accepted (units_of f.slots) f.messages (length-map f.slots unit_of ∙ is.count))
