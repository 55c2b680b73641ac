use Rattle.std.proofs.Common.{◌≡◌, ℕ, map, drop}
use Rattle.wf_semantics.specs.Items.{close_all}
use Rattle.wf_semantics.specs.Run.{completions_at}
use Rattle.wf_activities.specs.Stock.{items_in}
use Rattle.wf_activities.specs.Completed.{CompleteInTurn}
use Rattle.wf_activities.proofs.completions.close_completed.Given as goal

abbrev pub invariant-loop-entry : goal.invariant-loop-entry
invariant-loop-entry l = record {
  turn : CompleteInTurn (items_in l.units) (drop l.entry-index l.entries);
  rest : (u : ℕ) → close_all (completions_at u (drop l.entry-index l.entries)) (items_in l.units u) ≡ close_all (completions_at u l.entries) (items_in l.initial.units u);
  steps : map (λ i. i.steps) l.units ≡ map (λ i. i.steps) l.initial.units;
  rooms : map (λ i. i.room) l.units ≡ map (λ i. i.room) l.initial.units;
}
