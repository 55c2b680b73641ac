use Rattle.std.proofs.Common.{rules, arith, ◌≡◌, ◌≢◌, ◌==◌, ◌+◌, ℕ, true, [], List, Result, Ok, Err, length, sym, ◌∙◌, ap, subst}
use Rattle.std.proofs.lemmas.List.{nil_from_length}
use Rattle.std.proofs.lemmas.Bool.{eqb-true}
use Rattle.wf_scripts.specs.declared.script.ScriptFault.{ScriptFault}
use Rattle.wf_scripts.specs.declared.script.ScriptFault.TheVariants as faults
use Rattle.wf_model.specs.Steps.{Gives}
use Rattle.wf_scripts.specs.Lines.{lines_of}
use Rattle.wf_scripts.specs.Finders.{finder_of}
use Rattle.wf_scripts.specs.Names.{Finder, names_of}
use Rattle.wf_scripts.specs.Script.{line_by, lines_from, script_by}
use Rattle.wf_scripts.proofs.Divided.{behind_line-shorter}
use Rattle.wf_scripts.proofs.Read.{gives_refused, read_all, read_more}
use Rattle.wf_scripts.proofs.script.read_script.Goals as goal

pub returns-in_err-said : goal.returns-in_err-said
unfolding script_by
returns-in_err-said g c =
    let some : c.loop-rest.rest.now ≢ [] = search rules in
    let same : c.from_residual-in_err-said.result ≡ Err c.in_err-said.field-0.0 = search rules in
    subst (λ r. Gives faults.NoMemory r (script_by g.G.Grammar.says c.args.checked.now c.args.script.now)) (sym same)
    (gives_refused g.G.Grammar.says (finder_of c.in_ok-names.names) (c.loop-rest.number + 1) c.loop-rest.lines c.loop-rest.rest.now c.split_line.result.0.now
    c.in_err-said.field-0.0 (script_by g.G.Grammar.says c.args.checked.now c.args.script.now) some c.split_line.ensures.line
    (c.loop-rest.invariant.read ∙ ap (λ (names : Finder). lines_from g.G.Grammar.says names 1 (lines_of c.args.script.now)) (c.in_ok-names.ensures ∙ ap names_of c.chart.ensures.same))
    c.in_err-said.ensures)

pub loop-rest-preserved : goal.loop-rest-preserved
loop-rest-preserved g c =
    let some : c.loop-rest.rest.now ≢ [] = search rules in
    let said = subst (λ line. line_by g.G.Grammar.says (finder_of c.in_ok-names.names) (c.loop-rest.number + 1) line ≡ Ok c.in_ok-said.said) c.split_line.ensures.line c.in_ok-said.ensures in
    record {
      read = rw (c.in_ok-add.ensures, c.split_line.ensures.rest)
          (read_more g.G.Grammar.says (finder_of c.in_ok-names.names) (c.loop-rest.number + 1) c.loop-rest.lines c.loop-rest.rest.now c.in_ok-said.said some said
          ∙ c.loop-rest.invariant.read);
      few = omega (arith, c.loop-rest.invariant.few, ap length c.split_line.ensures.rest, behind_line-shorter c.loop-rest.rest.now some);
    }

pub returns : goal.returns
unfolding script_by
returns g c =
    let told : (length c.loop-rest.rest.now == 0) ≡ true = sym c.is_empty.ensures ∙ c.loop-rest-test.false in
    let zero : length c.loop-rest.rest.now ≡ 0 = eqb-true (length c.loop-rest.rest.now) 0 told in
    let none : c.loop-rest.rest.now ≡ [] = nil_from_length c.loop-rest.rest.now zero in
    sym (c.loop-rest.invariant.read ∙ ap (λ (names : Finder). lines_from g.G.Grammar.says names 1 (lines_of c.args.script.now)) (c.in_ok-names.ensures ∙ ap names_of c.chart.ensures.same))
    ∙ read_all g.G.Grammar.says (finder_of c.in_ok-names.names) (c.loop-rest.number + 1) c.loop-rest.lines c.loop-rest.rest.now none
