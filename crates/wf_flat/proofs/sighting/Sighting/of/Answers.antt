use Rattle.std.proofs.Common.{◌==◌, ◌∙◌, ℕ, Bool, List, ap}
use Rattle.std.specs.List.{list_any}
use Rattle.wf_parts.specs.declared.data.KnownState.{KnownState}
use Rattle.wf_flat.proofs.Showing.{sees_shown}
use Rattle.wf_flat.proofs.sighting.Sighting.of.Goals as goal

pub returns : goal.returns
returns c =
    let part = c.args.part.now in
    let listed = λ (states : List KnownState). let f : ℕ → Bool = λ k. list_any (λ (state : KnownState). state.id.0 == k) states in f in
    sees_shown part c.args.view.now c.in_ok-known.known c.in_ok-inside.inside c.in_ok-vars.vars c.in_ok-unclosed.unclosed c.in_ok-done.done c.in_ok-there.there
    (c.in_ok-known.ensures ∙ ap listed c.as_slice.ensures) c.in_ok-inside.ensures c.in_ok-vars.ensures c.in_ok-unclosed.ensures c.in_ok-done.ensures c.in_ok-there.ensures
