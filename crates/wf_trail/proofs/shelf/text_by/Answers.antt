use Rattle.std.proofs.Common.{◌≡◌, Option, Result, subst}
use Rattle.std.specs.Prelude.{IfOk, IfSome}
use Rattle.wf_parts.specs.Parts.{part_of}
use Rattle.wf_steps.specs.Room.{Replicated}
use Rattle.wf_steps.specs.declared.fault.RecoverFault.{RecoverFault}
use Rattle.wf_trail.proofs.Texts.{kept_is_told, fault_is_told}
use Rattle.wf_trail.proofs.shelf.text_by.Goals as goal

pub text_of-requires : goal.text_of-requires
text_of-requires c =
    let P : Result (Option Replicated) RecoverFault → Type 0 = λ k. IfOk k (λ kept. IfSome kept (λ replica. replica.part ≡ part_of c.args.checked.now c.args.unit.0)) in
    subst P c.in-Ok.is c.requires.part

pub returns-in-Ok : goal.returns-in-Ok
returns-in-Ok c =
    let told = kept_is_told c.args.checked.now c.args.unit c.args.kept c.in-Ok.kept c.text_of.result c.in-Ok.is c.text_of.ensures in
    record { text = told.text; cause = told.cause; unit = told.unit _ c.requires.within }

pub returns-in-Err : goal.returns-in-Err
returns-in-Err c =
    let told = fault_is_told c.args.checked.now c.args.unit c.args.kept c.in-Err.fault c.fault_at.result c.in-Err.is c.fault_at.ensures in
    record { text = told.text; cause = told.cause; unit = told.unit _ c.requires.within }
