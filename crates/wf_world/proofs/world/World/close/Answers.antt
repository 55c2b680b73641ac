use Rattle.std.proofs.Common.{sym, subst}
use Rattle.wf_world.specs.States.{Kept}
use Rattle.wf_world.specs.Fleets.{DoWork}
use Rattle.wf_world.proofs.world.World.close.Goals as goal

pub close-requires : goal.close-requires
close-requires c = record { works = subst (λ (k : Kept). DoWork k.slots) (sym c.self.view_is) c.requires.works }
