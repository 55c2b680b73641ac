use Rattle.std.proofs.Common.{◌≡◌, false, length, sym, ◌∙◌, subst}
use Rattle.std.proofs.lemmas.List.{length-map}
use Rattle.wf_histories.specs.Laws.{AreLean}
use Rattle.wf_slot.specs.Slots.{unit_of}
use Rattle.wf_world.specs.Sounds.{hist_of}
use Rattle.wf_world.specs.Fleets.{units_of}
use Rattle.wf_world.specs.States.{Kept}
use Rattle.wf_world.proofs.Sounds.{are_lean}
use Rattle.wf_world.proofs.world.World.history.Goals as goal

pub returns-clause-count : goal.returns-clause-count
returns-clause-count c =
    λ whole.
    subst (λ (k : Kept). length k.slots ≡ length k.chart.units) c.self.view_is
    (c.self.invariant (subst (λ (k : Kept). k.lost ≡ false) (sym c.self.view_is) whole)).fleet.count

pub returns-clause-lean : goal.returns-clause-lean
returns-clause-lean c =
    λ whole.
    let fleet = (c.self.invariant (subst (λ (k : Kept). k.lost ≡ false) (sym c.self.view_is) whole)).fleet in
    let f = c.self.inside.fleet in
    subst (λ (k : Kept). AreLean k.chart (hist_of (units_of k.slots))) c.self.view_is
    (are_lean f.chart fleet.accepted (units_of f.slots) (length-map f.slots unit_of ∙ fleet.count) fleet.sound)
