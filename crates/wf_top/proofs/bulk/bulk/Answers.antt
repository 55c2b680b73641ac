use Rattle.std.proofs.Common.{◌≡◌, ◌∙◌, ◌≤◌, ◌<◌, ℕ, List, length, sym, ap, subst, arith, rules}
use lib.Chars.{codes}
use Rattle.wf_model.specs.Limits.{max_input}
use Rattle.wf_model.specs.declared.status.Status.TheVariants as status
use Rattle.wf_refusals.specs.Lines.{refusal}
use Rattle.wf_gen.specs.GenText.{gen_text}
use Rattle.wf_top.specs.declared.answer.Answer.{Answer}
use Rattle.wf_top.specs.declared.command.Command.{Command}
use Rattle.wf_top.specs.declared.command.Command.TheVariants.{Play}
use Rattle.wf_top.specs.declared.command.Telling.TheVariants.{Summary}
use Rattle.wf_top.specs.Answers.{answer, MayGive}
use Rattle.wf_top.proofs.Plays.{if_ok}
use Rattle.wf_top.proofs.Dues.{command_status, short_answer, long_answer}
use Rattle.wf_top.proofs.bulk.bulk.Goals as goal

pub returns-then-len-gt-MAX_INPUT-clause-answer : goal.returns-then-len-gt-MAX_INPUT-clause-answer
returns-then-len-gt-MAX_INPUT-clause-answer c =
    let command : Command = Play (Summary c.args.number) in
    let input : c.in_ok-input.input ≡ gen_text c.args.number = search rules in
    let long : max_input < length (gen_text c.args.number) = omega (arith, c.if-len-gt-MAX_INPUT.true, c.len.ensures, ap length input) in
    let line : c.in_ok-line.line ≡ refusal (codes "limit input") = search rules in
    subst (λ (a : Answer). MayGive command (gen_text c.args.number) a) (sym (c.new.ensures ∙ ap (answer status.Limit) line))
    (long_answer command (gen_text c.args.number) long)

pub returns-clause-answer : goal.returns-clause-answer
returns-clause-answer c =
    let command : Command = Play (Summary c.args.number) in
    let input : c.as_slice.result.now ≡ gen_text c.args.number = search rules in
    let short : length c.as_slice.result.now ≤ max_input = search rules in
    if_ok c.answer_to.result
    (λ a found. subst (λ (i : List ℕ). MayGive command i a) input (short_answer command found.0 c.as_slice.result.now a short found.1))
    c.answer_to.ensures

pub returns-clause-status : goal.returns-clause-status
returns-clause-status c =
    let command : Command = Play (Summary c.args.number) in
    if_ok c.answer_to.result (λ a found. command_status command found.0 c.as_slice.result.now 0 a found.1) c.answer_to.ensures
