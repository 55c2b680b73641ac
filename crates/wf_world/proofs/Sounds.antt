-- What is done to a unit keeps what holds of all units together.
use Rattle.std.proofs.Common.{◌≡◌, ◌≢◌, ℕ, zero, suc, ◌<◌, ◌≤◌, ◌==◌, cond, is_ok, min, Bool, true, false, List, [], ◌∷◌, length, slice_get, slice_set, unwrap_or, Option, Some, None, refl, sym, ap, ◌∙◌, subst, arith, eqb-true, eq-eqb}
use Rattle.wf_model.specs.Limits.{max_sealed}
use Rattle.wf_model.specs.declared.chart.Chart.{Chart}
use Rattle.wf_model.specs.declared.update.Update.{Update}
use Rattle.wf_model.specs.Accepted.{IsAccepted}
use Rattle.wf_parts.specs.Parts.{part_of}
use Rattle.wf_machine.specs.declared.admission.Admission as of
use Rattle.wf_machine.specs.Server.{Record as Counted, Admits as CountedAdmits, Turns as CountedTurns}
use Rattle.wf_histories.specs.Histories.{History, taken}
use Rattle.wf_histories.specs.Agreement.{Agree, lean}
use Rattle.wf_worlds.specs.Admitting.{lets_in}
use Rattle.wf_worlds.specs.Growing.{Fits, Good, unsealed}
use Rattle.wf_worlds.specs.Worlds.{World, Record, with_unit, stood, IsMade, MayStand, Sound}
use Rattle.wf_worlds.proofs.GoesOn.{taken_on}
use Rattle.wf_worlds.proofs.Sounds.{stood_on, stands_sound, sound_is_lean}
use Rattle.wf_histories.specs.Laws.{AreLean}
use Rattle.wf_slot.specs.Units.{UnitState, new_unit}
use Rattle.wf_world.specs.Sounds.{unit_at, hist_of, IsSound}

-- A LIST WITH ANOTHER ITEM AT A PLACE

pub get_there : {A : Type 0} (xs : List A) (u : ℕ) (x : A) → u < length xs → slice_get (slice_set xs u x) u ≡ Some x
get_there [] u x lt = absurd (omega (arith, lt))
get_there (y ∷ ys) zero x lt = refl
get_there (y ∷ ys) (suc u) x lt = get_there ys u x (omega (arith, lt))

pub get_other : {A : Type 0} (xs : List A) (u v : ℕ) (x : A) → v ≢ u → slice_get (slice_set xs u x) v ≡ slice_get xs v
get_other [] u v x other = refl
get_other (y ∷ ys) zero zero x other = absurd (other refl)
get_other (y ∷ ys) zero (suc v) x other = refl
get_other (y ∷ ys) (suc u) zero x other = refl
get_other (y ∷ ys) (suc u) (suc v) x other = get_other ys u v x (λ e. other (ap suc e))

module _ (units : List UnitState) (u : ℕ) (next : UnitState) (there : u < length units) where
  pub at_same : unit_at (slice_set units u next) u ≡ next
  at_same = ap (λ (o : Option UnitState). unwrap_or o (new_unit u)) (get_there units u next there)

  pub at_other : (v : ℕ) → v ≢ u → unit_at (slice_set units u next) v ≡ unit_at units v
  at_other v other = ap (λ (o : Option UnitState). unwrap_or o (new_unit v)) (get_other units u v next other)

  -- what holds of the new one, and of each other one, holds of all
  pub at_each : (P : ℕ → UnitState → Type 0) → P u next → ((v : ℕ) → v ≢ u → P v (unit_at units v)) → (v : ℕ) → P v (unit_at (slice_set units u next) v)
  at_each P here others v = go (v == u) refl
    where
      go : (b : Bool) → (v == u) ≡ b → P v (unit_at (slice_set units u next) v)
      go true e = let same : v ≡ u = eqb-true v u e in subst (λ (w : ℕ). P w (unit_at (slice_set units u next) w)) (sym same) (subst (λ (x : UnitState). P u x) (sym at_same) here)
      go false e =
          let other : v ≢ u = λ same. differs same e in
          subst (λ (x : UnitState). P v x) (sym (at_other v other)) (others v other)
        where
          differs : v ≡ u → (v == u) ≡ false → ⊥
          differs same is = let yes : (v == u) ≡ true = eq-eqb v u same in cc

  -- the histories are the old ones with one more at u
  pub hist_is : hist_of (slice_set units u next) ≡ with_unit (hist_of units) u next.past
  hist_is = λ i v. each v i
    where
      each : (v : ℕ) → hist_of (slice_set units u next) v ≡ with_unit (hist_of units) u next.past v
      each v = go (v == u) refl
        where
          go : (b : Bool) → (v == u) ≡ b → hist_of (slice_set units u next) v ≡ with_unit (hist_of units) u next.past v
          go true e =
              let same : v ≡ u = eqb-true v u e in
              ap (λ (w : ℕ). hist_of (slice_set units u next) w) same ∙ ap (λ (x : UnitState). x.past) at_same ∙ ap (λ (b : Bool). cond b next.past (hist_of units v)) (sym e)
          go false e = ap (λ (x : UnitState). x.past) (at_other v (λ same. differs same)) ∙ ap (λ (b : Bool). cond b next.past (hist_of units v)) (sym e)
            where
              differs : v ≡ u → ⊥
              differs same = let yes : (v == u) ≡ true = eq-eqb v u same in cc

module _ (chart : Chart) (ok : IsAccepted chart) (units : List UnitState) (count : length units ≡ length chart.units) (s : IsSound chart units) where
  abbrev n : ℕ
  n = length chart.units

  abbrev pub h : ℕ → History
  h = hist_of units

  -- as a world with no message, and nothing in doubt
  abbrev pub plain : World
  plain = record { hist = h; held = λ u. (unit_at units u).held; messages = []; doubt = λ u. None }

  no_record : (r : Record) → None ≡ Some r → ⊥
  no_record r e = cc

  pub plain_sound : Sound chart plain
  plain_sound = record {
    agree = s.agree;
    fits = s.fits;
    good = s.good;
    sent = λ i d k. absurd (omega (arith, k));
    held = s.held;
    doubtful = λ u r lt e. absurd (no_record r e);
  }

  -- so the laws of histories that agree hold
  pub are_lean : AreLean chart (hist_of units)
  are_lean = sound_is_lean chart plain ok plain_sound

  module _ (u : ℕ) (lt : u < n) (next : UnitState) where
    within : u < length units
    within = omega (arith, lt, count)

    -- A RECORD STANDS
    module _ (r : Record) (may : MayStand chart h u r) (past : next.past ≡ stood r (h u))
        (held : (v j : ℕ) (update : Update) → next.held v j ≡ Some update → (unit_at units u).held v j ≡ Some update) (certain : next.doubt ≡ None) where
      abbrev then : World
      then = record plain { hist = with_unit h u (stood r (h u)) }

      then_sound : Sound chart then
      then_sound = stands_sound chart plain u r ok lt plain_sound refl may

      hist_then : with_unit h u (stood r (h u)) ≡ hist_of (slice_set units u next)
      hist_then = ap (λ (x : History). with_unit h u x) (sym past) ∙ sym (hist_is units u next within)

      goes : (v : ℕ) → taken (h v) ≤ taken (hist_of (slice_set units u next) v)
      goes v =
          at_each units u next within (λ w x. taken (h w) ≤ taken x.past) (subst (λ (x : History). taken (h u) ≤ taken x) (sym past) (taken_on (h u) (stood r (h u)) (stood_on chart r (h u)) (s.fits u lt)))
          (λ w other. omega arith) v

      no_doubt : (c : Counted) → next.doubt ≡ Some c → ⊥
      no_doubt c e = cc

      pub stood_sound : IsSound chart (slice_set units u next)
      stood_sound = record {
        agree = let P : (ℕ → History) → Type 0 = λ g. Agree (lean chart) n (part_of chart) g in subst P hist_then then_sound.agree;
        fits = let P : (ℕ → History) → Type 0 = λ g. (v : ℕ) → v < n → Fits (g v) in subst P hist_then then_sound.fits;
        good = let P : (ℕ → History) → Type 0 = λ g. (v : ℕ) → v < n → Good chart v (g v) in subst P hist_then then_sound.good;
        held = λ v w j update lv lw e. made v w j update lv lw (holds v w j update e);
        admits = λ v a lv e. at_each units u next within (λ x y. x < n → y.doubt ≡ Some (CountedAdmits a) → is_ok (lets_in (part_of chart x) y.past a.outer) ≡ true)
            (λ lx d. absurd (no_doubt (CountedAdmits a) d)) (λ x other lx d. s.admits x a lx d) v lv e;
        turns = λ v k lv e. at_each units u next within
            (λ x y. x < n → y.doubt ≡ Some (CountedTurns k) → (k ≡ min max_sealed (unsealed y.past)) × ((w : ℕ) → w < n → taken y.past ≤ taken (hist_of (slice_set units u next) w)))
            (λ lx d. absurd (no_doubt (CountedTurns k) d)) (λ x other lx d. let old = s.turns x k lx d in (old.0, λ w lw. let before = old.1 w lw in let after = goes w in omega (arith, before, after))) v lv e;
      }
        where
          holds : (v w j : ℕ) (update : Update) → (unit_at (slice_set units u next) v).held w j ≡ Some update → (unit_at units v).held w j ≡ Some update
          holds v w j update e = at_each units u next within (λ x y. y.held w j ≡ Some update → (unit_at units x).held w j ≡ Some update) (held w j update) (λ x other d. d) v e

          made : (v w j : ℕ) (update : Update) → v < n → w < n → (unit_at units v).held w j ≡ Some update → IsMade chart (hist_of (slice_set units u next)) w v j update
          made v w j update lv lw e = let P : (ℕ → History) → Type 0 = λ g. IsMade chart g w v j update in subst P hist_then (then_sound.held v w j update lv lw e)

    -- THE HISTORY STAYS
    module _ (past : next.past ≡ h u) (held : (v j : ℕ) (update : Update) → v < n → next.held v j ≡ Some update → IsMade chart h v u j update)
        (admits : (a : of.Admission) → next.doubt ≡ Some (CountedAdmits a) → is_ok (lets_in (part_of chart u) (h u) a.outer) ≡ true)
        (turns : (k : ℕ) → next.doubt ≡ Some (CountedTurns k) → (k ≡ min max_sealed (unsealed (h u))) × ((v : ℕ) → v < n → taken (h u) ≤ taken (h v))) where
      same_hist : h ≡ hist_of (slice_set units u next)
      same_hist = λ i v. each v i
        where
          each : (v : ℕ) → h v ≡ hist_of (slice_set units u next) v
          each v = at_each units u next within (λ w x. h w ≡ x.past) (sym past) (λ w other. refl) v

      pub changed_sound : IsSound chart (slice_set units u next)
      changed_sound = record {
        agree = let P : (ℕ → History) → Type 0 = λ g. Agree (lean chart) n (part_of chart) g in subst P same_hist s.agree;
        fits = let P : (ℕ → History) → Type 0 = λ g. (v : ℕ) → v < n → Fits (g v) in subst P same_hist s.fits;
        good = let P : (ℕ → History) → Type 0 = λ g. (v : ℕ) → v < n → Good chart v (g v) in subst P same_hist s.good;
        held = λ v w j update lv lw e. let P : (ℕ → History) → Type 0 = λ g. IsMade chart g w v j update in subst P same_hist
            (at_each units u next within (λ x y. x < n → y.held w j ≡ Some update → IsMade chart h w x j update) (λ lx d. held w j update lw d) (λ x other lx d. s.held x w j update lx lw d) v lv e);
        admits = λ v a lv e. let P : (ℕ → History) → Type 0 = λ g. is_ok (lets_in (part_of chart v) (g v) a.outer) ≡ true in subst P same_hist
            (at_each units u next within (λ x y. x < n → y.doubt ≡ Some (CountedAdmits a) → is_ok (lets_in (part_of chart x) (h x) a.outer) ≡ true) (λ lx d. admits a d) (λ x other lx d. s.admits x a lx d) v lv e);
        turns = λ v k lv e. let P : (ℕ → History) → Type 0 = λ g. (k ≡ min max_sealed (unsealed (g v))) × ((w : ℕ) → w < n → taken (g v) ≤ taken (g w)) in subst P same_hist
            (at_each units u next within (λ x y. x < n → y.doubt ≡ Some (CountedTurns k) → (k ≡ min max_sealed (unsealed (h x))) × ((w : ℕ) → w < n → taken (h x) ≤ taken (h w))) (λ lx d. turns k d) (λ x other lx d. s.turns x k lx d) v lv e);
      }
