use Rattle.std.proofs.Common.{rules, arith, ◌≡◌, ◌≢◌, ◌==◌, ◌+◌, ℕ, true, [], List, Ok, Err, length, sym, ◌∙◌, ap, subst}
use Rattle.std.proofs.lemmas.List.{nil_from_length}
use Rattle.std.proofs.lemmas.Bool.{eqb-true}
use Rattle.wf_model.specs.Steps.{Gives}
use Rattle.wf_model.specs.declared.chart.Chart.{Chart}
use Rattle.wf_scripts.specs.declared.script.ScriptFault.TheVariants as faults
use Rattle.wf_scripts.specs.Lines.{lines_of}
use Rattle.wf_scripts.specs.Finders.{finder_of}
use Rattle.wf_scripts.specs.Names.{Finder, names_of}
use Rattle.wf_scripts.proofs.Divided.{behind_line-shorter}
use Rattle.wf_job.specs.declared.draft.Draft.{Draft}
use Rattle.wf_job.specs.Drafts.{blank}
use Rattle.wf_job.specs.Script.{with_line, job_from, job_of}
use Rattle.wf_job.proofs.Read.{gives_refused, gives_same, read_more}
use Rattle.wf_job.proofs.script.read_host.Goals as goal

pub returns-in_err-draft : goal.returns-in_err-draft
unfolding job_of
returns-in_err-draft c =
    let some : c.loop-rest.rest.now ≢ [] = search rules in
    let same : c.from_residual-in_err-draft.result ≡ Err c.in_err-draft.field-0.0 = search rules in
    subst (λ r. Gives faults.NoMemory r (job_of c.args.checked.now c.args.script.now)) (sym same)
    (gives_refused c.args.checked.now (finder_of c.in_ok-names.names) (c.loop-rest.number + 1) c.loop-rest.draft c.loop-rest.rest.now c.split_line.result.0.now c.in_err-draft.field-0.0
    (job_of c.args.checked.now c.args.script.now) some c.split_line.ensures.line
    (c.loop-rest.invariant.read ∙ ap (λ (names : Finder). job_from c.args.checked.now names 1 blank (lines_of c.args.script.now)) (c.in_ok-names.ensures ∙ ap names_of c.chart.ensures.same))
    (subst (λ (chart : Chart). Gives {A = Draft} faults.NoMemory (Err c.in_err-draft.field-0.0) (with_line chart (finder_of c.in_ok-names.names) (c.loop-rest.number + 1) c.split_line.result.0.now c.loop-rest.draft))
    c.chart-in-loop-rest.ensures.same c.in_err-draft.ensures))

pub loop-rest-preserved : goal.loop-rest-preserved
loop-rest-preserved c =
    let some : c.loop-rest.rest.now ≢ [] = search rules in
    let said =
    subst (λ (line : List ℕ). with_line c.args.checked.now (finder_of c.in_ok-names.names) (c.loop-rest.number + 1) line c.loop-rest.draft ≡ Ok c.in_ok-draft.draft) c.split_line.ensures.line
    (subst (λ (chart : Chart). with_line chart (finder_of c.in_ok-names.names) (c.loop-rest.number + 1) c.split_line.result.0.now c.loop-rest.draft ≡ Ok c.in_ok-draft.draft) c.chart-in-loop-rest.ensures.same c.in_ok-draft.ensures) in
    record {
      read = rw c.split_line.ensures.rest
          (read_more c.args.checked.now (finder_of c.in_ok-names.names) (c.loop-rest.number + 1) c.loop-rest.draft c.in_ok-draft.draft c.loop-rest.rest.now some said ∙ c.loop-rest.invariant.read);
      few = omega (arith, c.loop-rest.invariant.few, ap length c.split_line.ensures.rest, behind_line-shorter c.loop-rest.rest.now some);
    }

pub returns : goal.returns
unfolding job_of
returns c =
    let told : (length c.loop-rest.rest.now == 0) ≡ true = sym c.is_empty.ensures ∙ c.loop-rest-test.false in
    let zero : length c.loop-rest.rest.now ≡ 0 = eqb-true (length c.loop-rest.rest.now) 0 told in
    let none : c.loop-rest.rest.now ≡ [] = nil_from_length c.loop-rest.rest.now zero in
    gives_same c.whole.result (job_of c.args.checked.now c.args.script.now)
    (c.whole.ensures ∙ sym (ap (λ (rest : List ℕ). job_from c.args.checked.now (finder_of c.in_ok-names.names) (c.loop-rest.number + 1) c.loop-rest.draft (lines_of rest)) none)
    ∙ c.loop-rest.invariant.read ∙ ap (λ (names : Finder). job_from c.args.checked.now names 1 blank (lines_of c.args.script.now)) (c.in_ok-names.ensures ∙ ap names_of c.chart.ensures.same))
