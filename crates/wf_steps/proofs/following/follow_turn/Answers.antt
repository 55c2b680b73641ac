use Rattle.std.proofs.Common.{◌≡◌, ◌∙◌, ap, ap₂, sym, subst}
use Rattle.std.specs.Prelude.{Some, List}
use Rattle.wf_model.specs.declared.update.Update.{Update}
use Rattle.wf_parts.specs.declared.data.PartData.{PartData}
use Rattle.wf_histories.specs.Histories.{History}
use Rattle.wf_worlds.specs.Growing.{turned}
use Rattle.wf_steps.specs.declared.prepared.Prepared.{Prepared}
use Rattle.wf_steps.specs.Growing.{MayTurn}
use Rattle.wf_steps.specs.Records.{turn_follows}
use Rattle.wf_steps.specs.Replicas.{prepared_of}
use Rattle.wf_steps.proofs.Follows.{turn_after, turn_none, may_take_it}
use Rattle.wf_steps.proofs.following.follow_turn.Goals as goal

pub returns-then-not-turn_follows-clause-misfit : goal.returns-then-not-turn_follows-clause-misfit
returns-then-not-turn_follows-clause-misfit c _ =
    turn_none c.args.replica.now.part c.args.replica.now.past c.args.step c.args.inputs c.args.sealed
    (ap (λ (l : List Update). turn_follows c.args.replica.now.part c.args.replica.now.past c.args.step l c.args.sealed) (sym c.as_slice.ensures) ∙ sym c.turn_follows.ensures ∙ c.if-not-turn_follows.true)

pub prepare-requires : goal.prepare-requires
prepare-requires c =
    may_take_it c.args.replica.now.part c.args.replica.now.past c.args.step c.args.inputs c.args.sealed
    (ap (λ (l : List Update). turn_follows c.args.replica.now.part c.args.replica.now.past c.args.step l c.args.sealed) (sym c.as_slice.ensures) ∙ sym c.turn_follows.ensures ∙ c.if-not-turn_follows.false) c.requires.0

pub turn-requires-clause-may : goal.turn-requires-clause-may
turn-requires-clause-may c =
    let may = may_take_it c.args.replica.now.part c.args.replica.now.past c.args.step c.args.inputs c.args.sealed
    (ap (λ (l : List Update). turn_follows c.args.replica.now.part c.args.replica.now.past c.args.step l c.args.sealed) (sym c.as_slice.ensures) ∙ sym c.turn_follows.ensures ∙ c.if-not-turn_follows.false) c.requires.0 in
    let inputs : c.in_ok-prepared.prepared.done.inputs ≡ c.args.inputs = ap (λ (p : Prepared). p.done.inputs) c.in_ok-prepared.ensures.prepared in
    subst (λ (p : PartData). MayTurn p c.reserve_turn.new.self.past c.in_ok-prepared.prepared.done.inputs) (sym c.reserve_turn.ensures.part)
    (subst (λ (h : History). MayTurn c.args.replica.now.part h c.in_ok-prepared.prepared.done.inputs) (sym c.reserve_turn.ensures.past)
    (subst (λ (l : List Update). MayTurn c.args.replica.now.part c.args.replica.now.past l) (sym inputs) may))

pub turn-requires-clause-prepared : goal.turn-requires-clause-prepared
turn-requires-clause-prepared c =
    let inputs : c.in_ok-prepared.prepared.done.inputs ≡ c.args.inputs = ap (λ (p : Prepared). p.done.inputs) c.in_ok-prepared.ensures.prepared in
    c.in_ok-prepared.ensures.prepared
    ∙ ap₂ (λ (p : PartData) (h : History). prepared_of p h c.args.inputs) (sym c.reserve_turn.ensures.part) (sym c.reserve_turn.ensures.past)
    ∙ ap (prepared_of c.reserve_turn.new.self.part c.reserve_turn.new.self.past) (sym inputs)

pub returns-clause-ok : goal.returns-clause-ok
returns-clause-ok c =
    let inputs : c.in_ok-prepared.prepared.done.inputs ≡ c.args.inputs = ap (λ (p : Prepared). p.done.inputs) c.in_ok-prepared.ensures.prepared in
    turn_after c.args.replica.now.part c.args.replica.now.past c.args.step c.args.inputs c.args.sealed
    (ap (λ (l : List Update). turn_follows c.args.replica.now.part c.args.replica.now.past c.args.step l c.args.sealed) (sym c.as_slice.ensures) ∙ sym c.turn_follows.ensures ∙ c.if-not-turn_follows.false)
    ∙ ap₂ (λ (h : History) (l : List Update). Some (turned h l)) (sym c.reserve_turn.ensures.past) (sym inputs)
    ∙ ap (λ (h : History). Some h) (sym c.turn.ensures.past)
