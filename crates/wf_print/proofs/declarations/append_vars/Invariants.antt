use Rattle.std.proofs.Common.{◌≡◌, ◌++◌, drop, flat_map}
use Rattle.wf_print.specs.Declarations.{var_line}
use Rattle.wf_print.proofs.declarations.append_vars.Given as goal

abbrev pub invariant-loop-var : goal.invariant-loop-var
invariant-loop-var l = l.text ++ flat_map var_line (drop l.var-index l.vars) ≡ l.fn.text ++ flat_map var_line l.vars
