use Rattle.std.proofs.Common.{◌≡◌, ◌∙◌, ap}
use Rattle.std.proofs.lemmas.Result.{IfOk-weaker}
use Rattle.wf_model.specs.declared.chart.Chart.{Chart}
use Rattle.wf_parts.specs.Parts.{part_of}
use Rattle.wf_partition.proofs.part.part_of.Goals as goal

pub seal-requires : goal.seal-requires
seal-requires c =
    record {
      chart = c.args.checked.now;
      unit = c.args.unit.0;
      accepted = c.chart.ensures.accepted;
      within = c.requires.within;
      is = c.in_ok-part.ensures ∙ ap (λ (x : Chart). part_of x c.args.unit.0) c.chart.ensures.same;
    }

pub returns : goal.returns
returns c =
    IfOk-weaker c.seal.result (λ part. part ≡ c.in_ok-part.part) (λ part. part ≡ part_of c.args.checked.now c.args.unit.0)
    (λ part is. is ∙ c.in_ok-part.ensures ∙ ap (λ (x : Chart). part_of x c.args.unit.0) c.chart.ensures.same) c.seal.ensures
