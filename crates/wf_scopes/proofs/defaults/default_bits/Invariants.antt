use Rattle.std.proofs.Common.{◌≡◌, map}
use Rattle.std.specs.List.{range_with_len}
use Rattle.wf_semantics.specs.Configuration.{is_in}
use Rattle.wf_semantics.specs.Entry.{default_tree}
use Rattle.wf_scopes.proofs.defaults.default_bits.Given as goal

abbrev pub invariant-loop-z : goal.invariant-loop-z
invariant-loop-z l = l.bits ≡ map (λ s. is_in s (default_tree l.chart 0)) (range_with_len 0 l.z)
