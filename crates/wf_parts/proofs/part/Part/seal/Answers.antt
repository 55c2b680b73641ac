use Rattle.std.proofs.Common.{◌≤◌, All, List, length, sym, subst}
use Rattle.wf_model.specs.Limits.{max_transitions}
use Rattle.wf_parts.specs.declared.data.PartTransition.{PartTransition}
use Rattle.wf_parts.specs.Rows.{IsNumbered}
use Rattle.wf_parts.proofs.Blocking.{few_in_part, numbered_in_part}
use Rattle.wf_parts.proofs.part.Part.seal.Goals as goal

pub of-requires-clause-few : goal.of-requires-clause-few
of-requires-clause-few c = subst (λ (l : List PartTransition). length l ≤ max_transitions) (sym c.as_slice.ensures) (few_in_part c.args.given c.requires)

pub of-requires-clause-all : goal.of-requires-clause-all
of-requires-clause-all c = subst (λ (l : List PartTransition). All IsNumbered l) (sym c.as_slice.ensures) (numbered_in_part c.args.given c.requires)
