use Rattle.std.proofs.Common.{◌≡◌, ℕ, All, length, map}
use Rattle.std.specs.List.{range_with_len}
use Rattle.wf_parts.specs.declared.data.PartData.{PartData}
use Rattle.wf_views.specs.Views.{View}
use Rattle.wf_views.specs.OwnSteps.{own_update}
use Rattle.wf_lockstep.specs.Shares.{outers_to}
use Rattle.wf_flat.specs.Locking.{HasFewStarts}
use Rattle.wf_flat.proofs.lock.all_steps.Given as goal

abbrev pub invariant-loop-unit : goal.invariant-loop-unit
invariant-loop-unit l = record {
  steps : (part : ℕ → PartData) (view : ℕ → View) → l.parts ≡ map part (range_with_len 0 (length l.parts)) → l.views ≡ map view (range_with_len 0 (length l.parts)) → l.updates ≡ map (λ u. own_update (part u) l.step (view u) (outers_to u l.entries)) (range_with_len 0 l.unit);
  all : length l.updates ≡ l.unit;
  few : All HasFewStarts l.updates;
}
