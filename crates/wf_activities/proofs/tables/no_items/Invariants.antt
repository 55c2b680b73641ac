use Rattle.std.proofs.Common.{◌≡◌, [], map, replicate}
use Rattle.wf_activities.proofs.tables.no_items.Given as goal

abbrev pub invariant-loop-u : goal.invariant-loop-u
invariant-loop-u l = record {
  items : map (λ i. i.items) l.units.items ≡ replicate l.u [];
  steps : map (λ i. i.steps) l.units.items ≡ replicate l.u [];
}
