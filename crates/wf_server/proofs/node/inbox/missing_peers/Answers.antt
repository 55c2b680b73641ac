use Rattle.std.proofs.Common.{◌≡◌, ◌<◌, ◌+◌, ℕ, not, true, false, None, refl, sym, ap, ◌∙◌, subst, arith}
use Rattle.std.specs.Prelude.{is_some}
use Rattle.std.proofs.lemmas.List.{get_or_read}
use Rattle.wf_server.specs.Servers.{held_in}
use Rattle.wf_server.proofs.Missing.{AreMissingTo, one_there, one_more, is_own, is_there, is_absent}
use Rattle.wf_server.proofs.node.inbox.missing_peers.Goals as goal
use Rattle.wf_server.proofs.node.inbox.missing_peers.Goals.{then-is_none+then-at-part, else-is_none, else-is_none-via-then-is_none+else-at-part, else-is_none-via-else-is_none}

pub loop-at-preserved : goal.loop-at-preserved
loop-at-preserved c =
    let size = c.requires.size in
    let few = c.requires.few in
    let lt = c.loop-at-test.true in
    let within : c.loop-at.at < c.args.part.now.units = omega (arith, lt, size) in
    let read : held_in c.args.came.now c.loop-at.at ≡ c.index-came-at.result = sym (get_or_read c.args.came.now _ _ c.loop-at-test.true c.index-came-at.is None) in
    elim c.if-is_none.branch [
      | then-is_none+then-at-part w ↦
          subst (AreMissingTo c.args.part.now c.args.came.now (c.loop-at.at + 1)) (sym w.set-is)
          (one_more c.args.part.now c.args.came.now c.loop-at.at c.loop-at.set c.loop-at.invariant (omega (arith, within, few))
          (is_absent c.args.part.now c.args.came.now c.loop-at.at within w.if-at-part.true (ap is_some read ∙ c.is_none.ensures ∙ ap not w.if-is_none.true)))
      | else-is_none w ↦
          subst (AreMissingTo c.args.part.now c.args.came.now (c.loop-at.at + 1)) (sym w.set-is)
          (one_there c.args.part.now c.args.came.now c.loop-at.at c.loop-at.set c.loop-at.invariant
          (elim w.else-is_none.branch [
            | else-is_none-via-then-is_none+else-at-part v ↦ is_own c.args.part.now c.args.came.now c.loop-at.at within v.if-at-part.false
            | else-is_none-via-else-is_none v ↦ is_there c.args.part.now c.args.came.now c.loop-at.at within (ap is_some read ∙ c.is_none.ensures ∙ ap not v.if-is_none.false)
          ]))
    ]
