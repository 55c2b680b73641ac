use Rattle.std.proofs.Common.{refl, subst}
use Rattle.wf_partition.specs.Marked.{Adds}
use Rattle.wf_partition.proofs.Adding.{adds_leaf, adds_state, adds_var, adds_act, adds_Not, adds_Neg, adds_Bin}
use Rattle.wf_partition.proofs.reading.+add_expr.Goals as goal

pub returns-in-Bool : goal.returns-in-Bool
returns-in-Bool t c = adds_leaf c.args.expr.now c.args.reads.now (λ s. rw c.in-Bool.is refl) (λ x. rw c.in-Bool.is refl) (λ a. rw c.in-Bool.is refl)

pub returns-in-Int : goal.returns-in-Int
returns-in-Int t c = adds_leaf c.args.expr.now c.args.reads.now (λ s. rw c.in-Int.is refl) (λ x. rw c.in-Int.is refl) (λ a. rw c.in-Int.is refl)

pub returns-in-Text : goal.returns-in-Text
returns-in-Text t c = adds_leaf c.args.expr.now c.args.reads.now (λ s. rw c.in-Text.is refl) (λ x. rw c.in-Text.is refl) (λ a. rw c.in-Text.is refl)

pub returns-in-In : goal.returns-in-In
returns-in-In t c =
    adds_state c.args.expr.now c.args.reads.now c.mark.new.bits c.in-In.s.0 c.mark.ensures (λ s. rw c.in-In.is refl) (λ x. rw c.in-In.is refl) (λ a. rw c.in-In.is refl)

pub returns-in-Var : goal.returns-in-Var
returns-in-Var t c =
    adds_var c.args.expr.now c.args.reads.now c.mark-in-Var.new.bits c.in-Var.x.0 c.mark-in-Var.ensures (λ s. rw c.in-Var.is refl) (λ x. rw c.in-Var.is refl) (λ a. rw c.in-Var.is refl)

pub returns-in-Count : goal.returns-in-Count
returns-in-Count t c =
    adds_act c.args.expr.now c.args.reads.now c.mark-in-Count.new.bits c.in-Count.a.0 c.mark-in-Count.ensures (λ s. rw c.in-Count.is refl) (λ x. rw c.in-Count.is refl) (λ a. rw c.in-Count.is refl)

pub returns-in-Done : goal.returns-in-Done
returns-in-Done t c =
    adds_act c.args.expr.now c.args.reads.now c.mark-in-Done.new.bits c.in-Done.a.0 c.mark-in-Done.ensures (λ s. rw c.in-Done.is refl) (λ x. rw c.in-Done.is refl) (λ a. rw c.in-Done.is refl)

pub returns-in-Not : goal.returns-in-Not
returns-in-Not t c = rw c.in-Not.is (adds_Not c.in-Not.x c.args.reads.now c.add_expr.new.reads (subst (λ e. Adds (λ r. r e) c.args.reads.now c.add_expr.new.reads) c.get.ensures c.add_expr.ensures))

pub returns-in-Neg : goal.returns-in-Neg
returns-in-Neg t c = rw c.in-Neg.is (adds_Neg c.in-Neg.x c.args.reads.now c.add_expr-in-Neg.new.reads (subst (λ e. Adds (λ r. r e) c.args.reads.now c.add_expr-in-Neg.new.reads) c.get-in-Neg.ensures c.add_expr-in-Neg.ensures))

pub returns-in-Bin : goal.returns-in-Bin
returns-in-Bin t c =
    rw c.in-Bin.is (adds_Bin c.in-Bin.field-0 c.in-Bin.left c.in-Bin.right c.args.reads.now c.add_expr-in-Bin.new.reads c.add_expr-in-Bin-2.new.reads
    (subst (λ e. Adds (λ r. r e) c.args.reads.now c.add_expr-in-Bin.new.reads) c.get-in-Bin.ensures c.add_expr-in-Bin.ensures)
    (subst (λ e. Adds (λ r. r e) c.add_expr-in-Bin.new.reads c.add_expr-in-Bin-2.new.reads) c.get-in-Bin-2.ensures c.add_expr-in-Bin-2.ensures))
