use Rattle.std.proofs.Common.{◌≡◌, map, filter, take}
use Rattle.wf_parts.specs.Components.{is_in_after}
use Rattle.wf_semantics.specs.Snapshot.{is_active}
use Rattle.wf_views.specs.OwnSteps.{differs}
use Rattle.wf_flat.specs.Firing.{holds}
use Rattle.wf_flat.specs.Sighted.{shown_by}
use Rattle.wf_flat.proofs.flips.flips.Given as goal

abbrev pub invariant-loop-component : goal.invariant-loop-component
invariant-loop-component l =
    let inside = is_active (shown_by l.sight).seen in
    l.ids ≡ map (λ c. c.state) (filter (λ c. differs (inside c.state.0) (is_in_after (holds l.fires) c (inside c.state.0))) (take l.component-index l.components))
