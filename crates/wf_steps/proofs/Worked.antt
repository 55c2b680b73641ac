-- What is worked out for a Turn is what the Turn leaves.
use Rattle.std.proofs.Common.{◌≡◌, ℕ, suc, ◌+◌, ◌^◌, ◌<◌, ◌≤◌, nat_lt, Bool, true, List, length, take, drop, refl, sym, ap, ap₂, ◌∙◌, subst, arith, le-leb}
use Rattle.std.specs.Prelude.{All, filter}
use Rattle.std.specs.List.{sum, insert, AllByRecursion}
use Rattle.std.proofs.lemmas.Bool.{ltb-true}
use Rattle.std.proofs.lemmas.List.Elements.{All-from_recursion}
use Rattle.wf_model.specs.Limits.{max_starts}
use Rattle.wf_model.specs.declared.ids.ActId.{ActId}
use Rattle.wf_model.specs.declared.outer.Outer.{Outer}
use Rattle.wf_model.specs.declared.update.StartAt.{StartAt}
use Rattle.wf_model.specs.declared.update.Update.{Update}
use Rattle.wf_parts.specs.declared.data.PartData.{PartData}
use Rattle.wf_parts.specs.Parts.{IsPart}
use Rattle.wf_activities.specs.UnitItems.{listed}
use Rattle.wf_views.specs.Views.{View, count_now}
use Rattle.wf_views.specs.OwnSteps.{own_update}
use Rattle.wf_views.specs.Absorbing.{absorbed, starts_in, start_count}
use Rattle.wf_histories.specs.Histories.{History, seals, taken, local, local_update}
use Rattle.wf_histories.specs.Follows.{is_own_act}
use Rattle.wf_owns.proofs.Small.{all_by}
use Rattle.wf_worlds.specs.Admitting.{outers}
use Rattle.wf_worlds.specs.Counts.{starts_few}
use Rattle.wf_worlds.specs.Growing.{Fits, turned}
use Rattle.wf_worlds.proofs.Counted.{absorb_counts_fit, insert_all, insert_length}
use Rattle.wf_steps.specs.declared.prepared.Prepared.{Prepared}
use Rattle.wf_steps.specs.Items.{own_acts, in_order, new_starts}
use Rattle.wf_steps.specs.Growing.{MayTurn, IsMade, sealing}
use Rattle.wf_steps.specs.Replicas.{prepared_of}
use Rattle.wf_steps.proofs.Turning.{view_now, update_now}
use Rattle.wf_steps.proofs.Made.{made_fits, each_few, inputs_few, counts_made, range_made}
use Rattle.wf_steps.proofs.Kept.{listed_own}

module _ (part : PartData) (past : History) (inputs : List Update) (made : IsMade part past) where
  abbrev all_of : List Update
  all_of = insert inputs part.unit.0 (local_update part past (suc (taken past)))

  -- the counts fit
  pub absorb_fits : IsPart part → MayTurn part past inputs → All (λ a. count_now (local part past (taken past)) a + start_count a.0.0 (starts_in (insert inputs part.unit.0 (local_update part past (suc (taken past))))) < 2 ^ 32) (local part past (taken past)).unclosed
  absorb_fits is may =
      let own = local_update part past (suc (taken past)) in
      let few = range_made part is made (taken past) (omega arith) in
      let small = insert_all starts_few inputs part.unit.0 own (each_few inputs may.ranges) (le-leb (length own.starts) max_starts few.starts_few) in
      let long : length (insert inputs part.unit.0 own) ≤ length is.chart.units = omega (arith, insert_length inputs part.unit.0 own, inputs_few part is (taken past + 1) inputs may.suited) in
      let view = local part past (taken past) in
      All-from_recursion (λ (a : ActId × ℕ). count_now view a + start_count a.0.0 (starts_in (insert inputs part.unit.0 own)) < 2 ^ 32) view.unclosed
      (all_by (λ (a : ActId × ℕ). nat_lt (count_now view a + start_count a.0.0 (starts_in (insert inputs part.unit.0 own))) (2 ^ 32))
      (λ (a : ActId × ℕ). count_now view a + start_count a.0.0 (starts_in (insert inputs part.unit.0 own)) < 2 ^ 32)
      (λ a h. ltb-true (count_now view a + start_count a.0.0 (starts_in (insert inputs part.unit.0 own))) (2 ^ 32) h) view.unclosed
      (absorb_counts_fit is.chart (taken past) view (insert inputs part.unit.0 own) is.accepted may.steps (counts_made part is made) long small))

  module _ (all : List Update) (view : View) (all_is : all ≡ insert inputs part.unit.0 (local_update part past (suc (taken past)))) (view_is : view ≡ absorbed part (local part past (taken past)) all) where
    pub view_after : view ≡ local part (turned past inputs) (suc (taken past))
    view_after = view_is ∙ ap (absorbed part (local part past (taken past))) all_is ∙ sym (view_now part past inputs (made_fits part made))

    pub next_after : (step : ℕ) (os : List Outer) → step ≡ taken past + 1 → os ≡ outers (take (sealing past) (drop (sum (seals past)) past.admissions)) → own_update part (step + 1) view os ≡ local_update part (turned past inputs) (suc (suc (taken past)))
    next_after step os step_is os_are =
        ap₂ (λ (n : ℕ) (v : View). own_update part n v os) (let e : step + 1 ≡ suc (suc (taken past)) = omega (arith, step_is) in e) (view_is ∙ ap (absorbed part (local part past (taken past))) all_is)
        ∙ ap (own_update part (suc (suc (taken past))) (absorbed part (local part past (taken past)) (insert inputs part.unit.0 (local_update part past (suc (taken past)))))) os_are
        ∙ sym (update_now part past inputs (made_fits part made))

    pub starts_after : (acts : List ActId) → acts ≡ own_acts part → in_order (listed acts (starts_in all)) ≡ new_starts part (insert inputs part.unit.0 (local_update part past (suc (taken past))))
    starts_after acts acts_are =
        ap₂ (λ (a : List ActId) (l : List Update). in_order (listed a (starts_in l))) acts_are all_is
        ∙ ap in_order (listed_own part (starts_in (insert inputs part.unit.0 (local_update part past (suc (taken past))))))

pub prepared_is : (part : PartData) (past : History) (inputs : List Update) (p : Prepared) →
    p.done.step ≡ taken past + 1 → p.done.inputs ≡ inputs → p.done.sealed ≡ sealing past → p.view ≡ local part (turned past inputs) (suc (taken past)) →
    p.next ≡ local_update part (turned past inputs) (suc (suc (taken past))) → p.starts ≡ new_starts part (insert inputs part.unit.0 (local_update part past (suc (taken past)))) →
    p ≡ prepared_of part past inputs
prepared_is part past inputs p step ins sealed view next starts i = record { done = record { step = step i; inputs = ins i; sealed = sealed i }; view = view i; next = next i; starts = starts i }
