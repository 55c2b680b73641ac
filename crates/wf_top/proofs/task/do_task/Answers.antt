use Rattle.std.proofs.Common.{IfOk, ℕ, subst, sym}
use Rattle.wf_top.specs.declared.command.Task.{Task}
use Rattle.wf_top.specs.Tasks.{HasStatus, MayCome}
use Rattle.wf_top.proofs.Plays.{if_ok}
use Rattle.wf_top.proofs.Dues.{command_status, short_answer}
use Rattle.wf_top.proofs.task.do_task.Goals as goal

pub returns-in-Run-clause-answer : goal.returns-in-Run-clause-answer
returns-in-Run-clause-answer g c =
    subst (λ (t : Task). IfOk c.answer_to.result (λ a. MayCome t (g.H.DiskShelf.told c.args.shelf.now) c.args.input.now a)) (sym c.in-Run.is)
    (if_ok c.answer_to.result (λ a found. short_answer c.in-Run.command found.0 c.args.input.now a c.requires found.1) c.answer_to.ensures)

pub returns-in-Run-clause-status : goal.returns-in-Run-clause-status
returns-in-Run-clause-status g c =
    let faults : ℕ = (g.H.DiskShelf.told c.args.shelf.now).faults in
    subst (λ (t : Task). IfOk c.answer_to.result (λ a. HasStatus t a.status faults faults)) (sym c.in-Run.is)
    (if_ok c.answer_to.result (λ a found. command_status c.in-Run.command found.0 c.args.input.now faults a found.1) c.answer_to.ensures)
