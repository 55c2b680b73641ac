use Rattle.std.proofs.Common.{◌∙◌, Option, sym, ap, false}
use Rattle.std.specs.Option.{option_map_or}
use Rattle.std.proofs.lemmas.Bool.Decides.{same_from_decides}
use Rattle.wf_model.specs.declared.update.Update.{Update}
use Rattle.wf_agreement.specs.Same.{same_update}
use Rattle.wf_agreement.proofs.Sameness.{update_Decides}
use Rattle.wf_agreement.proofs.comparing.is_sent.Goals as goal

pub returns-in-Some : goal.returns-in-Some
returns-in-Some c =
    same_from_decides c.is_same.result (same_update c.args.kept.now c.in-Some.update) c.is_same.ensures (update_Decides c.args.kept.now c.in-Some.update)
    ∙ ap (λ (o : Option Update). option_map_or (same_update c.args.kept.now) o false) (sym c.in-Some.is)
