use Rattle.std.proofs.Common.{◌==◌, ◌∙◌, ap}
use Rattle.std.specs.List.{list_any}
use Rattle.wf_partition.specs.Marked.{marked}
use Rattle.wf_partition.proofs.Bits.{marked_twice}
use Rattle.wf_partition.proofs.marks.mark_component.Goals as goal

pub returns : goal.returns
returns c =
    marked_twice (λ t. list_any (λ x. x.0 == t) c.args.component.now.enter) (λ t. list_any (λ x. x.0 == t) c.args.component.now.leave) c.args.bits.now c.mark_all.new.bits c.mark_all-2.new.bits
    (c.mark_all.ensures ∙ ap (λ ts. marked (λ t. list_any (λ x. x.0 == t) ts) c.args.bits.now) c.as_slice.ensures)
    (c.mark_all-2.ensures ∙ ap (λ ts. marked (λ t. list_any (λ x. x.0 == t) ts) c.mark_all.new.bits) c.as_slice-2.ensures)
