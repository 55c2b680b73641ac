use Rattle.std.proofs.Common.{◌≡◌, ℕ, ◌≤◌, length, map, cond, nat_lt, get_or}
use Rattle.std.specs.List.{range_with_len}
use Rattle.wf_parts.specs.declared.data.PartData.{PartData}
use Rattle.wf_views.specs.Views.{View}
use Rattle.wf_views.specs.Absorbing.{absorbed}
use Rattle.wf_flat.proofs.lock.absorb_all.Given as goal

abbrev pub invariant-loop-unit : goal.invariant-loop-unit
invariant-loop-unit l = record {
  same : length l.views.items ≡ length l.parts;
  rest : (k : ℕ) (d : View) → l.unit ≤ k → get_or l.views.items k d ≡ get_or l.initial.views.items k d;
  views : (part : ℕ → PartData) (view : ℕ → View) → l.parts ≡ map part (range_with_len 0 (length l.parts)) → l.initial.views.items ≡ map view (range_with_len 0 (length l.parts)) → l.views.items ≡ map (λ u. cond (nat_lt u l.unit) (absorbed (part u) (view u) l.updates) (view u)) (range_with_len 0 (length l.parts));
}
