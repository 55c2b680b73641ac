use Rattle.std.proofs.Common.{◌≡◌, true, List, refl, sym, subst}
use Rattle.wf_model.specs.declared.outer.Entry.{Entry}
use Rattle.wf_semantics.specs.Admission.{may_come}
use Rattle.wf_central.specs.Kept.{central_of}
use Rattle.wf_central.proofs.Standings.{none_taken}
use Rattle.wf_central.proofs.run.CentralRun.start.Goals as goal

pub returns-clause-of : goal.returns-clause-of
returns-clause-of c = record {
  of = c.in_ok-first.ensures.of;
  come = subst (λ (entries : List Entry). may_come c.args.checked.now (central_of c.args.checked.now c.in_ok-first.field-0).items entries ≡ true) (sym c.new.ensures) refl;
}

pub returns-clause-taken : goal.returns-clause-taken
returns-clause-taken c = none_taken c.args.checked.now c.in_ok-first.field-0 c.in_ok-first.ensures.state
