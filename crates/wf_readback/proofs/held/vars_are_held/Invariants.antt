use Rattle.std.proofs.Common.{◌≡◌, drop}
use Rattle.std.specs.List.{list_all}
use Rattle.wf_readback.specs.Held.{is_short_value}
use Rattle.wf_readback.proofs.held.vars_are_held.Given as goal

abbrev pub invariant-loop-var : goal.invariant-loop-var
invariant-loop-var l = list_all (λ x. is_short_value x.first) l.vars ≡ list_all (λ x. is_short_value x.first) (drop l.var-index l.vars)
