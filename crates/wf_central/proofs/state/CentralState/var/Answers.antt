use Rattle.std.proofs.Common.{◌≡◌, ap, sym, ◌∙◌, Some, None}
use Rattle.std.specs.List.{slice_get}
use Rattle.std.specs.Option.{option_copied}
use Rattle.wf_central.specs.Kept.{Kept, central_of}
use Rattle.wf_central.proofs.Sorts.{store_has}
use Rattle.wf_central.proofs.state.CentralState.var.Goals as goal

pub returns-in-Some : goal.returns-in-Some
unfolding central_of
returns-in-Some c = λ chart of lt. ap (λ (k : Kept). slice_get k.store c.args.v.0) (sym c.self.view_is) ∙ sym c.get.ensures.value ∙ ap option_copied c.in-Some.is

pub returns-in-None : goal.returns-in-None
returns-in-None c = λ chart of lt.
    let w = store_has chart c.args.self.now.store c.args.v.0 of.sorts lt in
    let there : slice_get c.args.self.now.store c.args.v.0 ≡ Some w.0 = w.1 in
    let here : None ≡ slice_get c.args.self.now.store c.args.v.0 =
    sym (ap option_copied c.in-None.is) ∙ c.get.ensures.value ∙ ap (λ (k : Kept). slice_get k.store c.args.v.0) c.self.view_is in
    let both : None ≡ Some w.0 = here ∙ there in
    cc
