use Rattle.std.proofs.Common.{◌≡◌, ℕ, List, ◌<◌, length, IfSome, Some, None, refl, subst, inr, rules}
use Rattle.std.specs.Io.KnownBytes.{Consumes, IsAtEnd}
use lib.Chars.{codes}
use Rattle.wf_model.specs.Limits.{max_input}
use Rattle.wf_model.specs.declared.status.Status.TheVariants as status
use Rattle.wf_model.specs.Faults.{Rose}
use Rattle.wf_refusals.specs.Lines.{refusal}
use Rattle.wf_gen.specs.GenText.{gen_text}
use Rattle.wf_top.specs.declared.command.Command.TheVariants.{Play}
use Rattle.wf_top.specs.declared.command.Telling.TheVariants.{Summary}
use Rattle.wf_top.specs.Answers.{answer, MayGive, task_of, gen_number, bulk_number}
use Rattle.wf_top.specs.Tasks.{MayCome}
use Rattle.wf_top.specs.Top.{Ends}
use Rattle.wf_top.proofs.Dues.{finished, long_left, read_left, due_answer, due_summary}
use Rattle.wf_top.proofs.top.mentor.Goals as goal

pub returns-in-Ok-clause-answer : goal.returns-in-Ok-clause-answer
returns-in-Ok-clause-answer g c =
    let named : gen_number c.args.words.now ≡ Some c.in-Some.number = search rules in
    let made : c.as_slice-in-Ok.result.now ≡ gen_text c.in-Some.number = search rules in
    let before : Ends = record { left = g.S.Source.left c.args.source.now; read_faults = g.S.Source.faults c.args.source.now; held = g.K.Sink.held c.args.sink.now; write_faults = g.K.Sink.faults c.args.sink.now; shelf = g.H.DiskShelf.told c.args.shelf.now } in
    let after : Ends = record before { held = g.K.Sink.held c.finish.new.sink; write_faults = g.K.Sink.faults c.finish.new.sink } in
    finished c.args.words.now before after status.Ok c.as_slice-in-Ok.result.now c.finish.result
    (inr (record { number = c.in-Some.number; named = named; made = made; unread = record { left = refl; faults = refl } }))
    c.finish.ensures

pub returns-in-Ok-bulk-clause-answer : goal.returns-in-Ok-bulk-clause-answer
returns-in-Ok-bulk-clause-answer g c =
    let named : bulk_number c.args.words.now ≡ Some c.in-Some-bulk_number.number = search rules in
    let text : c.in-Ok-bulk.found.text ≡ c.as_slice-in-Ok-bulk.result.now = search rules in
    let before : Ends = record { left = g.S.Source.left c.args.source.now; read_faults = g.S.Source.faults c.args.source.now; held = g.K.Sink.held c.args.sink.now; write_faults = g.K.Sink.faults c.args.sink.now; shelf = g.H.DiskShelf.told c.args.shelf.now } in
    let after : Ends = record before { held = g.K.Sink.held c.finish-in-Ok-bulk.new.sink; write_faults = g.K.Sink.faults c.finish-in-Ok-bulk.new.sink } in
    finished c.args.words.now before after c.in-Ok-bulk.found.status c.as_slice-in-Ok-bulk.result.now c.finish-in-Ok-bulk.result
    (due_summary c.args.words.now before after (Play (Summary c.in-Some-bulk_number.number)) 0 c.in-Ok-bulk.found.status c.as_slice-in-Ok-bulk.result.now c.in-Ok-bulk.ensures.status
    (record { number = c.in-Some-bulk_number.number; named = named; answer = subst (λ (t : List ℕ). MayGive (Play (Summary c.in-Some-bulk_number.number)) (gen_text c.in-Some-bulk_number.number) (answer c.in-Ok-bulk.found.status t)) text c.in-Ok-bulk.ensures.answer; unread = record { left = refl; faults = refl } }))
    c.finish-in-Ok-bulk.ensures

pub returns-in_default-task_of-clause-answer : goal.returns-in_default-task_of-clause-answer
returns-in_default-task_of-clause-answer g c =
    let unnamed : task_of c.args.words.now ≡ None = search rules in
    let unnumbered : gen_number c.args.words.now ≡ None = search rules in
    let unsummed : bulk_number c.args.words.now ≡ None = search rules in
    let before : Ends = record { left = g.S.Source.left c.args.source.now; read_faults = g.S.Source.faults c.args.source.now; held = g.K.Sink.held c.args.sink.now; write_faults = g.K.Sink.faults c.args.sink.now; shelf = g.H.DiskShelf.told c.args.shelf.now } in
    let after : Ends = record before { held = g.K.Sink.held c.finish-in_default-task_of.new.sink; write_faults = g.K.Sink.faults c.finish-in_default-task_of.new.sink } in
    finished c.args.words.now before after status.Words (refusal (codes "words")) c.finish-in_default-task_of.result
    (unnamed, unnumbered, unsummed, record { left = refl; faults = refl }, refl)
    c.finish-in_default-task_of.ensures

pub returns-in-Err-ReadFailed-clause-answer : goal.returns-in-Err-ReadFailed-clause-answer
returns-in-Err-ReadFailed-clause-answer g c =
    let named : task_of c.args.words.now ≡ Some c.in-Some-task_of.task = search rules in
    let rose : Rose (g.S.Source.faults c.args.source.now) (g.S.Source.faults c.read_all.new.source) = search rules in
    let before : Ends = record { left = g.S.Source.left c.args.source.now; read_faults = g.S.Source.faults c.args.source.now; held = g.K.Sink.held c.args.sink.now; write_faults = g.K.Sink.faults c.args.sink.now; shelf = g.H.DiskShelf.told c.args.shelf.now } in
    let after : Ends = record { left = g.S.Source.left c.read_all.new.source; read_faults = g.S.Source.faults c.read_all.new.source; held = g.K.Sink.held c.finish-in-Err-ReadFailed.new.sink; write_faults = g.K.Sink.faults c.finish-in-Err-ReadFailed.new.sink; shelf = g.H.DiskShelf.told c.args.shelf.now } in
    finished c.args.words.now before after status.ReadFault (refusal (codes "read")) c.finish-in-Err-ReadFailed.result
    (record { task = c.in-Some-task_of.task; named = named; faults = rose }, refl)
    c.finish-in-Err-ReadFailed.ensures

pub returns-in-Err-TooLong-clause-answer : goal.returns-in-Err-TooLong-clause-answer
returns-in-Err-TooLong-clause-answer g c =
    let named : task_of c.args.words.now ≡ Some c.in-Some-task_of.task = search rules in
    let kept : g.S.Source.faults c.read_all.new.source ≡ g.S.Source.faults c.args.source.now = search rules in
    let long : IfSome (g.S.Source.left c.args.source.now) (λ bytes. max_input < length bytes) = search rules in
    let before : Ends = record { left = g.S.Source.left c.args.source.now; read_faults = g.S.Source.faults c.args.source.now; held = g.K.Sink.held c.args.sink.now; write_faults = g.K.Sink.faults c.args.sink.now; shelf = g.H.DiskShelf.told c.args.shelf.now } in
    let after : Ends = record { left = g.S.Source.left c.read_all.new.source; read_faults = g.S.Source.faults c.read_all.new.source; held = g.K.Sink.held c.finish-in-Err-TooLong.new.sink; write_faults = g.K.Sink.faults c.finish-in-Err-TooLong.new.sink; shelf = g.H.DiskShelf.told c.args.shelf.now } in
    finished c.args.words.now before after status.Limit (refusal (codes "limit input")) c.finish-in-Err-TooLong.result
    (inr (record { task = c.in-Some-task_of.task; named = named; faults = kept; status = tt; answer = long_left c.in-Some-task_of.task before.shelf before.left long }, refl))
    c.finish-in-Err-TooLong.ensures

pub returns-clause-answer : goal.returns-clause-answer
returns-clause-answer g c =
    let named : task_of c.args.words.now ≡ Some c.in-Some-task_of.task = search rules in
    let kept : g.S.Source.faults c.read_all.new.source ≡ g.S.Source.faults c.args.source.now = search rules in
    let taken : Consumes (g.S.Source.left c.args.source.now) (g.S.Source.left c.read_all.new.source) c.in-Ok-read_all.input = search rules in
    let end : IsAtEnd (g.S.Source.left c.read_all.new.source) = search rules in
    let input : c.as_slice-in-Ok-read_all.result.now ≡ c.in-Ok-read_all.input = search rules in
    let text : c.in-Ok-do_task.found.text ≡ c.as_slice-in-Ok-do_task.result.now = search rules in
    let shelf = g.H.DiskShelf.told c.args.shelf.now in
    let came = subst (λ (bytes : List ℕ). MayCome c.in-Some-task_of.task shelf bytes (answer c.in-Ok-do_task.found.status c.as_slice-in-Ok-do_task.result.now)) input
    (subst (λ (t : List ℕ). MayCome c.in-Some-task_of.task shelf c.as_slice-in-Ok-read_all.result.now (answer c.in-Ok-do_task.found.status t)) text c.in-Ok-do_task.ensures.answer) in
    let before : Ends = record { left = g.S.Source.left c.args.source.now; read_faults = g.S.Source.faults c.args.source.now; held = g.K.Sink.held c.args.sink.now; write_faults = g.K.Sink.faults c.args.sink.now; shelf = g.H.DiskShelf.told c.args.shelf.now } in
    let after : Ends = record { left = g.S.Source.left c.read_all.new.source; read_faults = g.S.Source.faults c.read_all.new.source; held = g.K.Sink.held c.finish-in-Ok-do_task.new.sink; write_faults = g.K.Sink.faults c.finish-in-Ok-do_task.new.sink; shelf = g.H.DiskShelf.told c.do_task.new.shelf } in
    finished c.args.words.now before after c.in-Ok-do_task.found.status c.as_slice-in-Ok-do_task.result.now c.finish-in-Ok-do_task.result
    (due_answer c.args.words.now before after c.in-Ok-do_task.found.status c.as_slice-in-Ok-do_task.result.now
    (record { task = c.in-Some-task_of.task; named = named; faults = kept; status = c.in-Ok-do_task.ensures.status; answer = read_left c.in-Some-task_of.task shelf before.left after.left c.in-Ok-read_all.input (answer c.in-Ok-do_task.found.status c.as_slice-in-Ok-do_task.result.now) taken end came })
    end)
    c.finish-in-Ok-do_task.ensures
