-- The first units of a world are those of the first machine, and sound.
use Rattle.std.proofs.Common.{◌≡◌, ℕ, zero, suc, ◌+◌, ◌<◌, List, [], ◌∷◌, map, length, slice_get, unwrap_or, Some, None, replicate, refl, sym, ap, ◌∙◌, subst, arith}
use Rattle.std.specs.List.{range_with_len}
use Rattle.wf_model.specs.declared.chart.Chart.{Chart}
use Rattle.wf_model.specs.declared.update.Update.{Update}
use Rattle.wf_model.specs.Accepted.{IsAccepted}
use Rattle.wf_parts.specs.Parts.{part_of}
use Rattle.wf_machine.specs.declared.admission.Admission as of
use Rattle.wf_machine.specs.Server.{Server, Admits, Turns, new_server}
use Rattle.wf_machine.specs.Machine.{first_machine}
use Rattle.wf_histories.specs.Histories.{History}
use Rattle.wf_histories.specs.Agreement.{Agree, lean}
use Rattle.wf_worlds.specs.Growing.{Fits, Good}
use Rattle.wf_worlds.specs.Worlds.{first_history, first_world, Sound}
use Rattle.wf_worlds.proofs.Sounds.{first_sound}
use Rattle.wf_slot.specs.Units.{UnitState, server_of, new_unit}
use Rattle.wf_world.specs.Machines.{machine_of}
use Rattle.wf_world.specs.Sounds.{unit_at, hist_of, IsSound}

-- each unit as it begins
abbrev pub first_units : ℕ → List UnitState
first_units n = map new_unit (range_with_len 0 n)

-- THE FIRST MACHINE counts for them

new_servers : (k n : ℕ) → map server_of (map new_unit (range_with_len k n)) ≡ replicate n new_server
new_servers k zero = refl
new_servers k (suc n) = ap (λ (servers : List Server). new_server ∷ servers) (new_servers (k + 1) n)

pub first_is : (chart : Chart) → machine_of (first_units (length chart.units)) [] ≡ first_machine chart
first_is chart = ap (λ (servers : List Server). record (first_machine chart) { servers = servers }) (new_servers 0 (length chart.units))

-- THEY ARE SOUND

new_from : (k n u : ℕ) → unwrap_or (slice_get (map new_unit (range_with_len k n)) u) (new_unit (k + u)) ≡ new_unit (k + u)
new_from k zero u = refl
new_from k (suc n) zero = ap new_unit (let off : k ≡ k + 0 = omega arith in off)
new_from k (suc n) (suc u) =
    let off : k + suc u ≡ (k + 1) + u = omega arith in
    ap (λ (i : ℕ). unwrap_or (slice_get (map new_unit (range_with_len (k + 1) n)) u) (new_unit i)) off ∙ new_from (k + 1) n u ∙ ap new_unit (sym off)

new_at : (n u : ℕ) → unit_at (first_units n) u ≡ new_unit u
new_at n u =
    let off : u ≡ 0 + u = omega arith in
    ap (λ (i : ℕ). unwrap_or (slice_get (first_units n) u) (new_unit i)) off ∙ new_from 0 n u ∙ ap new_unit (sym off)

module _ (chart : Chart) (ok : IsAccepted chart) where
  abbrev n : ℕ
  n = length chart.units

  hist_first : first_history ≡ hist_of (first_units n)
  hist_first = λ i u. each u i
    where
      each : (u : ℕ) → first_history u ≡ hist_of (first_units (length chart.units)) u
      each u = ap (λ (unit : UnitState). unit.past) (sym (new_at (length chart.units) u))

  sound : Sound chart first_world
  sound = first_sound chart ok

  no_update : (u v j : ℕ) (update : Update) → (unit_at (first_units n) u).held v j ≡ Some update → ⊥
  no_update u v j update e = let none : (unit_at (first_units n) u).held v j ≡ None = ap (λ (unit : UnitState). unit.held v j) (new_at n u) in cc

  no_admission : (u : ℕ) (a : of.Admission) → (unit_at (first_units n) u).doubt ≡ Some (Admits a) → ⊥
  no_admission u a e = let none : (unit_at (first_units n) u).doubt ≡ None = ap (λ (unit : UnitState). unit.doubt) (new_at n u) in cc

  no_turn : (u k : ℕ) → (unit_at (first_units n) u).doubt ≡ Some (Turns k) → ⊥
  no_turn u k e = let none : (unit_at (first_units n) u).doubt ≡ None = ap (λ (unit : UnitState). unit.doubt) (new_at n u) in cc

  pub first_units_sound : IsSound chart (first_units (length chart.units))
  first_units_sound = record {
    agree = let P : (ℕ → History) → Type 0 = λ g. Agree (lean chart) n (part_of chart) g in subst P hist_first sound.agree;
    fits = let P : (ℕ → History) → Type 0 = λ g. (u : ℕ) → u < n → Fits (g u) in subst P hist_first sound.fits;
    good = let P : (ℕ → History) → Type 0 = λ g. (u : ℕ) → u < n → Good chart u (g u) in subst P hist_first sound.good;
    held = λ u v j update lu lv e. absurd (no_update u v j update e);
    admits = λ u a lt e. absurd (no_admission u a e);
    turns = λ u k lt e. absurd (no_turn u k e);
  }
