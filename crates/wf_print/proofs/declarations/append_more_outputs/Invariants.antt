use Rattle.std.proofs.Common.{◌≡◌, ◌++◌, drop}
use Rattle.wf_words.specs.Names.{var_name}
use Rattle.wf_print.specs.Words.{behind_commas}
use Rattle.wf_print.proofs.declarations.append_more_outputs.Given as goal

abbrev pub invariant-loop-var : goal.invariant-loop-var
invariant-loop-var l = l.text ++ behind_commas (var_name l.chart) (drop l.var-index l.outputs) ≡ l.fn.text ++ behind_commas (var_name l.chart) l.outputs
