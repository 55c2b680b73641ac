use Rattle.std.proofs.Common.{◌≡◌, ap, ◌∙◌, sym}
use Rattle.wf_parts.specs.declared.data.PartData.{PartData}
use Rattle.wf_actors.specs.Taking.{Anywhere}
use Rattle.wf_actors.proofs.Peering.{rows_more}
use Rattle.wf_exchange.specs.Ports.{popped_from}
use Rattle.wf_actors.proofs.Moving.{popped_same}
use Rattle.wf_actors.proofs.stepping.take_in_of.Goals as goal

pub returns-clause-rows : goal.returns-clause-rows
returns-clause-rows g c =
    let t = c.take_in.ensures in
    let own : c.data.result.now.unit.0 ≡ c.args.node.now.part.unit.0 = ap (λ (p : PartData). p.unit.0) (c.data.ensures.same ∙ c.part.ensures) in
    rows_more Anywhere c.args.unit c.args.node.now c.take_in.new.node (popped_from c.args.port.now) (popped_from c.take_in.new.port) c.args.refused.now c.take_in.new.refused (λ behind more steps far. tt)
    (record { within = c.requires.unit; other = (λ is. c.if-unit-own.false (is ∙ sym own)) })
    (λ u n. popped_same c.args.port.now c.take_in.new.port u (t.others u n)) t.more
