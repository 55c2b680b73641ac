use Rattle.std.proofs.Common.{◌≡◌, ◌∙◌, ℕ, List, rules, ap, ap₂, subst}
use lib.Chars.{codes}
use Rattle.wf_model.specs.declared.chart.Chart.{Chart}
use Rattle.wf_model.specs.declared.status.Status.TheVariants as status
use Rattle.wf_refusals.specs.Lines.{refusal}
use Rattle.wf_machine.specs.declared.reply.Reply.{Reply}
use Rattle.wf_drive.specs.declared.running.DriveFault.{DriveFault}
use Rattle.wf_drive.specs.declared.running.DriveFault.TheVariants as drives
use Rattle.wf_drive.specs.Driven.{Runs, MayRefuse, MayStop}
use Rattle.wf_world.specs.declared.fault.ActFault.{ActFault}
use Rattle.wf_world.specs.declared.fault.ActFault.TheVariants as stops
use Rattle.wf_world.specs.States as states
use Rattle.wf_world.specs.States.{WorldState, Acts, MayBreak, state_of, first_state}
use Rattle.wf_top.specs.Answers.{answer}
use Rattle.wf_top.specs.Telling.{told_by}
use Rattle.wf_top.proofs.Plays.{if_ok, kept_chart, ran, merged_is, stopped}
use Rattle.wf_top.proofs.play.run.Goals as goal

pub tell-requires : goal.tell-requires
tell-requires c = record {
  list = merged_is c.in-Ok.ensures.run.0 (state_of c.drive.new.servers) c.in-Ok.driven.ending c.in-Ok.ensures.run.2;
  whole = c.in-Ok.ensures.run.2.whole;
}

pub returns-in-Ok : goal.returns-in-Ok
returns-in-Ok c =
    let lines = c.args.lines.now in
    let replies = c.in-Ok.driven.replies in
    let end = c.in-Ok.driven.ending in
    let last = state_of c.drive.new.servers in
    let went = c.in-Ok.ensures.run in
    let start : state_of c.in_ok-world.world ≡ first_state c.args.checked = search rules in
    let run = subst (λ (s : WorldState). Runs Acts s lines replies went.0) start went.1 in
    let whole : c.as_slice.result.now ≡ c.in-Ok.driven.replies = search rules in
    let chart = kept_chart c.args.checked lines replies end went.0 last run went.2 in
    let found = ran c.args.telling c.args.checked lines replies end went.0 last run went.2 in
    if_ok c.tell.result
    (λ a is. (found.0, is ∙ ap₂ (λ (k : Chart) (rs : List (ℕ × Reply)). told_by c.args.telling k rs end last.machine) chart whole ∙ found.1)) c.tell.ensures

pub returns-in-Err-Servers-SentLimit : goal.returns-in-Err-Servers-SentLimit
returns-in-Err-Servers-SentLimit c =
    let start : state_of c.in_ok-world.world ≡ first_state c.args.checked = search rules in
    let text : c.in_ok-from_slice-in-Err-Servers-SentLimit.field-0 ≡ refusal (codes "limit sent") = search rules in
    let is : c.in-Err-Servers-SentLimit.field-0 ≡ drives.Servers stops.SentLimit = search rules in
    let fault = subst (λ (f : DriveFault ActFault). MayStop {R = Reply} Acts states.MayRefuse MayBreak (state_of c.in_ok-world.world) c.args.lines.now f) is
    c.in-Err-Servers-SentLimit.ensures.fault in
    let stop = subst (λ (s : WorldState). MayRefuse {R = Reply} Acts states.MayRefuse MayBreak s c.args.lines.now stops.SentLimit) start fault in
    let found = stopped c.args.telling c.args.checked c.args.lines.now stop in
    (found.0, c.new.ensures ∙ ap (answer status.Limit) text ∙ found.1)
