use Rattle.std.proofs.Common.{◌≡◌, drop}
use Rattle.std.specs.List.{list_all, enumerate_from}
use Rattle.wf_model.specs.Accepted.{all_numbered, is_new_output}
use Rattle.wf_check.proofs.sorts.are_new_outputs.Given as goal

abbrev pub invariant-loop-n : goal.invariant-loop-n
invariant-loop-n l = all_numbered (is_new_output l.outputs) l.outputs ≡ list_all (λ p. is_new_output l.outputs p.0 p.1) (enumerate_from l.n (drop l.n l.outputs))
