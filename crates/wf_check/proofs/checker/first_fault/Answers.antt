use Rattle.std.proofs.Common.{◌∙◌, sym}
use Rattle.wf_check.proofs.Faultless.{few}
use Rattle.wf_check.proofs.checker.first_fault.Goals as goal

pub number_fault-requires : goal.number_fault-requires
number_fault-requires c = few c.args.chart.now (sym c.size_fault.ensures ∙ c.in_default.is)

pub name_fault-requires : goal.name_fault-requires
name_fault-requires c = few c.args.chart.now (sym c.size_fault.ensures ∙ c.in_default.is)

pub shape_fault-requires-clause-few : goal.shape_fault-requires-clause-few
shape_fault-requires-clause-few c = few c.args.chart.now (sym c.size_fault.ensures ∙ c.in_default.is)

pub sort_fault-requires : goal.sort_fault-requires
sort_fault-requires c = few c.args.chart.now (sym c.size_fault.ensures ∙ c.in_default.is)
