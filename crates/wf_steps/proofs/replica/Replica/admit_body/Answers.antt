use Rattle.std.proofs.Common.{sym, subst}
use Rattle.wf_steps.specs.Room.{Replicated}
use Rattle.wf_steps.specs.Growing.{MayAdmit}
use Rattle.wf_steps.proofs.Made.{admit_in_range}
use Rattle.wf_steps.proofs.replica.Replica.admit_body.Goals as goal

pub encode_admit-requires : goal.encode_admit-requires
encode_admit-requires c =
    let P : Replicated → Type 0 = λ s. MayAdmit s.part s.past (record { request = c.args.request; outer = c.args.outer.now }) in
    admit_in_range c.self.inside.part c.self.inside.history.past (record { request = c.args.request; outer = c.args.outer.now }) c.data-part.ensures.part (subst P (sym c.self.view_is) c.requires)
