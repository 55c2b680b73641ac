use Rattle.std.proofs.Common.{arith, ap, length}
use Rattle.wf_steps.proofs.Made.{made_fits}
use Rattle.wf_steps.proofs.replica.Replica.pending_admissions.Goals as goal

pub slice_bounds-result-count : goal.slice_bounds-result-count
slice_bounds-result-count c = omega (arith, ap length c.admissions.ensures, made_fits c.self.inside.part c.self.invariant.made, c.self.invariant.sealed_is)

pub slice_bounds-result-start : goal.slice_bounds-result-start
slice_bounds-result-start c = omega (arith, ap length c.admissions.ensures, made_fits c.self.inside.part c.self.invariant.made, c.self.invariant.sealed_is)

pub offset_bounds-admissions-self-inside : goal.offset_bounds-admissions-self-inside
offset_bounds-admissions-self-inside c = omega (arith, ap length c.admissions.ensures, made_fits c.self.inside.part c.self.invariant.made, c.self.invariant.sealed_is, c.admissions.type_inv)
