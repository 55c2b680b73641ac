use Rattle.std.proofs.Common.{◌≡◌, Ok, Err, ap, ◌∙◌}
use Rattle.wf_server.specs.declared.fault.Received.{Received}
use Rattle.wf_server.specs.declared.fault.Received.TheVariants as received
use Rattle.wf_server.specs.declared.fault.ReceiveFault.{ReceiveFault}
use Rattle.wf_slot.proofs.Receives.{old_answers, same_answers, sits_still, fresh_answers, fresh_sits, not_peer, not_far, not_clash, not_unfit}
use Rattle.wf_slot.proofs.slot.receiving.receive_up.Goals as goal

old_not_fresh : ◌≡◌ {A = Received} received.Old received.Fresh → ⊥
old_not_fresh e = cc e

same_not_fresh : ◌≡◌ {A = Received} received.Same received.Fresh → ⊥
same_not_fresh e = cc e

pub returns-in-Ok-Old-clause-answers : goal.returns-in-Ok-Old-clause-answers
returns-in-Ok-Old-clause-answers c = old_answers c.args.node.now c.receive.new.self c.args.update c.receive.result c.receive.ensures.answer c.receive.ensures.kept (c.in-Ok-Old.is ∙ ap (λ (x : Received). Ok x) c.in-Ok-Old.field-0-is)

pub returns-in-Ok-Old-clause-sits : goal.returns-in-Ok-Old-clause-sits
returns-in-Ok-Old-clause-sits c = sits_still c.args.node.now c.receive.new.self c.args.update c.receive.result c.receive.ensures.answer c.receive.ensures.kept received.Old (c.in-Ok-Old.is ∙ ap (λ (x : Received). Ok x) c.in-Ok-Old.field-0-is) old_not_fresh

pub returns-in-Ok-Same-clause-answers : goal.returns-in-Ok-Same-clause-answers
returns-in-Ok-Same-clause-answers c = same_answers c.args.node.now c.receive.new.self c.args.update c.receive.result c.receive.ensures.answer c.receive.ensures.kept (c.in-Ok-Same.is ∙ ap (λ (x : Received). Ok x) c.in-Ok-Same.field-0-is)

pub returns-in-Ok-Same-clause-sits : goal.returns-in-Ok-Same-clause-sits
returns-in-Ok-Same-clause-sits c = sits_still c.args.node.now c.receive.new.self c.args.update c.receive.result c.receive.ensures.answer c.receive.ensures.kept received.Same (c.in-Ok-Same.is ∙ ap (λ (x : Received). Ok x) c.in-Ok-Same.field-0-is) same_not_fresh

pub returns-in-Ok-Fresh-clause-answers : goal.returns-in-Ok-Fresh-clause-answers
returns-in-Ok-Fresh-clause-answers c = fresh_answers c.args.node.now c.receive.new.self c.args.update c.receive.result c.receive.ensures.answer (c.in-Ok-Fresh.is ∙ ap (λ (x : Received). Ok x) c.in-Ok-Fresh.field-0-is) c.receive.ensures.fresh

pub returns-in-Ok-Fresh-clause-sits : goal.returns-in-Ok-Fresh-clause-sits
returns-in-Ok-Fresh-clause-sits c = fresh_sits c.args.node.now c.receive.new.self c.args.update c.receive.result c.receive.ensures.answer (c.in-Ok-Fresh.is ∙ ap (λ (x : Received). Ok x) c.in-Ok-Fresh.field-0-is) c.receive.ensures.fresh

pub unreachable-requires : goal.unreachable-requires
unreachable-requires c = not_peer c.args.node.now c.receive.new.self c.args.update c.receive.result c.receive.ensures.answer c.requires (c.in-Err-NotPeer.is ∙ ap (λ (x : ReceiveFault). Err x) c.in-Err-NotPeer.field-0-is)

pub unreachable-unreachable : goal.unreachable-unreachable
unreachable-unreachable c = c.unreachable.result

pub unreachable-requires-in-Err-TooFar : goal.unreachable-requires-in-Err-TooFar
unreachable-requires-in-Err-TooFar c = not_far c.args.node.now c.receive.new.self c.args.update c.receive.result c.receive.ensures.answer c.requires _ (c.in-Err-TooFar.is ∙ ap (λ (x : ReceiveFault). Err x) c.in-Err-TooFar.field-0-is)

pub unreachable-unreachable-in-Err-TooFar : goal.unreachable-unreachable-in-Err-TooFar
unreachable-unreachable-in-Err-TooFar c = c.unreachable-in-Err-TooFar.result

pub unreachable-requires-in-Err-Clash : goal.unreachable-requires-in-Err-Clash
unreachable-requires-in-Err-Clash c = not_clash c.args.node.now c.receive.new.self c.args.update c.receive.result c.receive.ensures.answer c.requires _ (c.in-Err-Clash.is ∙ ap (λ (x : ReceiveFault). Err x) c.in-Err-Clash.field-0-is)

pub unreachable-unreachable-in-Err-Clash : goal.unreachable-unreachable-in-Err-Clash
unreachable-unreachable-in-Err-Clash c = c.unreachable-in-Err-Clash.result

pub unreachable-requires-in-Err-Unfit : goal.unreachable-requires-in-Err-Unfit
unreachable-requires-in-Err-Unfit c = not_unfit c.args.node.now c.receive.new.self c.args.update c.receive.result c.receive.ensures.answer c.requires (c.in-Err-Unfit.is ∙ ap (λ (x : ReceiveFault). Err x) c.in-Err-Unfit.field-0-is)

pub unreachable-unreachable-in-Err-Unfit : goal.unreachable-unreachable-in-Err-Unfit
unreachable-unreachable-in-Err-Unfit c = c.unreachable-in-Err-Unfit.result
