use Rattle.std.proofs.Common.{◌∙◌, ◌∷◌, ◌++◌, [], ap, arith}
use Rattle.wf_model.specs.declared.update.Update.{Update}
use Rattle.wf_agreement.proofs.Walking.{turning, sealed_fits, sealed_small, step_small, all_are, absorb_fits, view_after, is_view_after, next_after, walk_after}
use Rattle.wf_agreement.proofs.walk.Walk.turn.Goals as goal

pub absorb-requires : goal.absorb-requires
absorb-requires c =
    let t = turning c.args.part.now c.args.history.now.past c.args.at c.args.self.now c.turns-turns.result.now c.index-turns-at.result _ c.data.ensures.part c.requires.made c.requires.there c.requires.here c.turns-turns.ensures c.index-turns-at.is c.turn.view_is in
    absorb_fits t c.as_slice.result.now (all_are t c.as_slice.result.now c.data.result.now (c.as_slice.ensures ∙ c.in_ok-all.ensures) c.data.ensures.same)

pub outers_after-requires : goal.outers_after-requires
outers_after-requires c =
    let t = turning c.args.part.now c.args.history.now.past c.args.at c.args.self.now c.turns-turns.result.now c.index-turns-at.result _ c.data.ensures.part c.requires.made c.requires.there c.requires.here c.turns-turns.ensures c.index-turns-at.is c.turn.view_is in
    sealed_fits t

pub overflow_add-turn-inside : goal.overflow_add-turn-inside
overflow_add-turn-inside c =
    let t = turning c.args.part.now c.args.history.now.past c.args.at c.args.self.now c.turns-turns.result.now c.index-turns-at.result _ c.data.ensures.part c.requires.made c.requires.there c.requires.here c.turns-turns.ensures c.index-turns-at.is c.turn.view_is in
    omega (arith, step_small t)

pub own_step-requires : goal.own_step-requires
own_step-requires c =
    let t = turning c.args.part.now c.args.history.now.past c.args.at c.args.self.now c.turns-turns.result.now c.index-turns-at.result _ c.data.ensures.part c.requires.made c.requires.there c.requires.here c.turns-turns.ensures c.index-turns-at.is c.turn.view_is in
    let all = all_are t c.as_slice.result.now c.data.result.now (c.as_slice.ensures ∙ c.in_ok-all.ensures) c.data.ensures.same in
    is_view_after t c.absorb.new.self (view_after t c.as_slice.result.now c.absorb.new.self all c.in_ok-absorb.ensures.ok)

pub overflow_add-self : goal.overflow_add-self
overflow_add-self c =
    let t = turning c.args.part.now c.args.history.now.past c.args.at c.args.self.now c.turns-turns.result.now c.index-turns-at.result _ c.data.ensures.part c.requires.made c.requires.there c.requires.here c.turns-turns.ensures c.index-turns-at.is c.turn.view_is in
    omega (arith, sealed_small t)

pub returns : goal.returns
returns c =
    let t = turning c.args.part.now c.args.history.now.past c.args.at c.args.self.now c.turns-turns.result.now c.index-turns-at.result _ c.data.ensures.part c.requires.made c.requires.there c.requires.here c.turns-turns.ensures c.index-turns-at.is c.turn.view_is in
    let all = all_are t c.as_slice.result.now c.data.result.now (c.as_slice.ensures ∙ c.in_ok-all.ensures) c.data.ensures.same in
    let now = view_after t c.as_slice.result.now c.absorb.new.self all c.in_ok-absorb.ensures.ok in
    walk_after t c.absorb.new.self c.push.new.self c.replace-done.new.dest now
    (c.in_ok-push.ensures.ok ∙ ap (λ (u : Update). c.args.self.now.updates ++ u ∷ []) c.replace-done.ensures.value)
    (c.replace-done.ensures.after ∙ c.in_ok-next.ensures ∙ next_after t c.absorb.new.self c.in_ok-outers.outers now c.in_ok-outers.ensures)
