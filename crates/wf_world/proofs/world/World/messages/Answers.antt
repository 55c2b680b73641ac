use Rattle.std.proofs.Common.{◌≡◌, false, sym, ◌∙◌, subst}
use Rattle.std.proofs.lemmas.List.{length-map}
use Rattle.wf_slot.specs.Slots.{unit_of}
use Rattle.wf_world.specs.Mail.{AreLetters, AreOfHistories}
use Rattle.wf_world.specs.Sounds.{hist_of}
use Rattle.wf_world.specs.Fleets.{units_of}
use Rattle.wf_world.specs.States.{Kept, state_of}
use Rattle.wf_world.proofs.Counts.{of_histories}
use Rattle.wf_world.proofs.world.World.messages.Goals as goal

pub returns-clause-letters : goal.returns-clause-letters
returns-clause-letters c =
    λ whole.
    subst (λ (k : Kept). AreLetters k.chart (state_of k).machine k.messages) c.self.view_is
    (c.self.invariant (subst (λ (k : Kept). k.lost ≡ false) (sym c.self.view_is) whole)).fleet.letters

pub returns-clause-histories : goal.returns-clause-histories
returns-clause-histories c =
    λ whole.
    let fleet = (c.self.invariant (subst (λ (k : Kept). k.lost ≡ false) (sym c.self.view_is) whole)).fleet in
    let f = c.self.inside.fleet in
    subst (λ (k : Kept). AreOfHistories k.chart (hist_of (units_of k.slots)) k.messages) c.self.view_is
    (of_histories f.chart fleet.accepted (units_of f.slots) f.messages (length-map f.slots unit_of ∙ fleet.count) fleet.sound f.messages fleet.letters)
