use Rattle.std.proofs.Common.{rules, arith, ◌≡◌, ◌≤◌, ◌∙◌, ◌+◌, List, ℕ, Result, Err, length, ap, sym, subst}
use Rattle.wf_audit.specs.declared.central.RunFault.{RunFault}
use Rattle.wf_audit.specs.CentralText.{GivesText, central_text, replies_to}
use Rattle.wf_semantics.specs.Standing.{first_standing}
use Rattle.wf_central.specs.Standings.{standing_of}
use Rattle.wf_audit.proofs.Sights.{gives_fault, replies_long}
use Rattle.wf_audit.proofs.central.run_central.Goals as goal

pub returns-in_err-add : goal.returns-in_err-add
unfolding central_text
returns-in_err-add c =
    let chart = c.args.checked.now in
    let whole = replies_to chart (first_standing chart) c.args.script.now in
    let same : c.from_residual-in_err-add.result ≡ Err c.in_err-add.field-0.0 = search rules in
    let line = ap length (c.as_slice.ensures ∙ c.in_ok-answer.ensures.text) in
    let long : length c.loop-number.text + length c.as_slice.result.now ≤ length whole =
    omega (
      arith,
      line,
      replies_long chart (standing_of chart c.loop-number.run) c.loop-number.number-index c.args.script.now c.loop-number-item.result c.loop-number.text whole
          c.loop-number-test.true c.loop-number-item.is c.loop-number.invariant.text,
    ) in
    subst (λ (r : Result (List ℕ) RunFault). GivesText r whole) (sym same)
    (gives_fault c.in_err-add.field-0.0 c.loop-number.text c.add.new.text c.as_slice.result.now whole c.in_err-add.ensures long)
