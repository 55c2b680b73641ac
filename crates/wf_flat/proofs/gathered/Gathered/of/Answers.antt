use Rattle.std.proofs.Common.{◌&&◌, ◌∙◌, Bool, List, filter, take, sym, ap, subst}
use Rattle.wf_parts.specs.declared.data.PartTransition.{PartTransition}
use Rattle.std.proofs.lemmas.List.{take_all}
use Rattle.wf_flat.specs.Firing.{CanFire}
use Rattle.wf_flat.specs.Gathering.{gathered_of}
use Rattle.wf_flat.specs.Sighted.{shown_by}
use Rattle.wf_flat.proofs.Loops.{flag_is}
use Rattle.wf_flat.proofs.Gathering.{kept_more, left_more}
use Rattle.wf_flat.proofs.gathered.Gathered.of.Goals as goal
use Rattle.wf_flat.proofs.gathered.Gathered.of.Goals.{then-acts+in_ok-fire, else-acts}

pub fire-requires : goal.fire-requires
fire-requires c =
    subst (λ (t : PartTransition). CanFire (shown_by c.args.sight.now).seen t) (sym c.index-transitions-at.is) (c.requires c.loop-at.at c.index-transitions-at.result c.loop-at-test.true)

pub loop-at-preserved : goal.loop-at-preserved
loop-at-preserved c = λ test same.
    let seen = (shown_by c.args.sight.now).seen in
    let xs = c.args.transitions.now in
    let i = c.loop-at.at in
    let x = c.index-transitions-at.result in
    let fires = λ (trans : PartTransition). trans.own && test trans in
    let said = flag_is test xs c.args.fires.now i x same c.loop-at-test.true c.index-transitions-at.is in
    let told = ap (λ (b : Bool). x.own && b) (c.flag_at.ensures ∙ said) in
    elim c.if-acts.branch [
      | then-acts+in_ok-fire w ↦
          w.gathered-is ∙ w.in_ok-fire.ensures (filter fires (take i xs)) (c.loop-at.invariant test same)
          ∙ ap (gathered_of seen) (kept_more fires xs i x c.loop-at-test.true c.index-transitions-at.is (sym told ∙ sym w.if-acts.ensures))
      | else-acts w ↦
          w.gathered-is ∙ c.loop-at.invariant test same
          ∙ ap (gathered_of seen) (left_more fires xs i x c.loop-at-test.true c.index-transitions-at.is (sym told ∙ sym w.if-acts.ensures))
    ]

pub returns : goal.returns
returns c = λ test same.
    c.loop-at.invariant test same
    ∙ ap (λ (l : List PartTransition). gathered_of (shown_by c.args.sight.now).seen (filter (λ (trans : PartTransition). trans.own && test trans) l)) (take_all c.loop-at.at c.args.transitions.now c.loop-at-test.false)
