use Rattle.std.proofs.Common.{sym, ap}
use Rattle.wf_model.specs.declared.outer.Outer.{Outer}
use Rattle.wf_semantics.specs.Run.{is_happening}
use Rattle.wf_central.proofs.Marking.{happening_marked, nothing_marked}
use Rattle.wf_central.proofs.passes.mark_happening.Goals as goal

pub returns-in-Happen : goal.returns-in-Happen
returns-in-Happen c = λ f n rows. happening_marked c.in-Happen.event c.args.outer.now f n c.args.bits.now c.set.new.self (sym c.in-Happen.is) c.set.ensures rows

pub returns-in-Complete : goal.returns-in-Complete
returns-in-Complete c = λ f n rows. nothing_marked c.args.outer.now f n c.args.bits.now (λ k. ap (λ (o : Outer). is_happening k o) c.in-Complete.is) rows
