-- What follows a history, and what doesn't.
use Rattle.std.proofs.Common.{◌≡◌, ℕ, ◌+◌, ◌==◌, ◌&&◌, not, nat_lt, cond, Bool, true, false, List, Option, Some, None, is_ok, refl, sym, ap, ap₂, ◌∙◌, eqb-true, true≢false}
use Rattle.std.specs.Prelude.{is_some}
use Rattle.std.specs.List.{AllByRecursion}
use Rattle.std.proofs.lemmas.Bool.{ltb-true}
use Rattle.wf_model.specs.Limits.{max_steps}
use Rattle.wf_model.specs.declared.outer.Outer.{Outer}
use Rattle.wf_model.specs.declared.update.Update.{Update}
use Rattle.wf_model.proofs.Bools.{and_both}
use Rattle.wf_parts.specs.declared.data.PartData.{PartData}
use Rattle.wf_codec.specs.Ranges.{IsInRange}
use Rattle.wf_codec.specs.declared.record.JournalRecord.TheVariants.{Admit, Turn}
use Rattle.wf_histories.specs.Histories.{Admission, History, taken}
use Rattle.wf_worlds.specs.Admitting.{lets_in}
use Rattle.wf_worlds.specs.Growing.{admitted, turned}
use Rattle.wf_steps.specs.Fitting.{are_inputs}
use Rattle.wf_steps.specs.Growing.{place_of, sealing, MayAdmit, MayTurn}
use Rattle.wf_steps.specs.Records.{admission_follows, turn_follows, after}

module _ (part : PartData) (h : History) (request : ℕ) (outer : Outer) where
  abbrev one : Admission
  one = record { request = request; outer = outer }

  pub admission_after : admission_follows part h request outer ≡ true → after part h (Admit request outer) ≡ Some (admitted h (record { request = request; outer = outer }))
  unfolding after
  admission_after e = ap (λ (b : Bool). cond b (Some (admitted h (record { request = request; outer = outer }))) None) e

  pub admission_none : admission_follows part h request outer ≡ false → after part h (Admit request outer) ≡ None
  unfolding after
  admission_none e = ap (λ (b : Bool). cond b (Some (admitted h (record { request = request; outer = outer }))) None) e

  none_of : (o : Option ℕ) → not (is_some o) ≡ true → o ≡ None
  none_of None e = refl
  none_of (Some k) e = absurd (true≢false (sym e))

  pub may_admit_it : admission_follows part h request outer ≡ true → MayAdmit part h (record { request = request; outer = outer })
  may_admit_it e = let both = and_both (not (is_some (place_of h request))) (is_ok (lets_in part h outer)) e in record { fresh = none_of (place_of h request) both.0; lets = both.1 }

module _ (part : PartData) (h : History) (step : ℕ) (inputs : List Update) (sealed : ℕ) where
  pub turn_after : turn_follows part h step inputs sealed ≡ true → after part h (Turn step inputs sealed) ≡ Some (turned h inputs)
  unfolding after
  turn_after e = ap (λ (b : Bool). cond b (Some (turned h inputs)) None) e

  pub turn_none : turn_follows part h step inputs sealed ≡ false → after part h (Turn step inputs sealed) ≡ None
  unfolding after
  turn_none e = ap (λ (b : Bool). cond b (Some (turned h inputs)) None) e

  pub may_take_it : turn_follows part h step inputs sealed ≡ true → AllByRecursion IsInRange inputs → MayTurn part h inputs
  may_take_it e ranges =
      let a = and_both (step == taken h + 1) (nat_lt (taken h) max_steps && ((sealed == sealing h) && are_inputs part step inputs)) e in
      let b = and_both (nat_lt (taken h) max_steps) ((sealed == sealing h) && are_inputs part step inputs) a.1 in
      let c = and_both (sealed == sealing h) (are_inputs part step inputs) b.1 in
      record {
        steps = ltb-true (taken h) max_steps b.0;
        suited = ap (λ (n : ℕ). are_inputs part n inputs) (sym (eqb-true step (taken h + 1) a.0)) ∙ c.1;
        ranges = ranges;
      }
