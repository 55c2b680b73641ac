use Rattle.std.proofs.Common.{ℕ, List, sym, ◌∙◌, ap, subst}
use Rattle.wf_semantics.specs.Items.{Item}
use Rattle.wf_activities.specs.UnitItems.{UnitItems}
use Rattle.wf_activities.specs.Stock.{Stock, items_at, items_in}
use Rattle.wf_activities.specs.Completed.{CompleteInTurn}
use Rattle.wf_activities.proofs.Turns.{come_in_turn}
use Rattle.wf_activities.proofs.Stepping.{same_items}
use Rattle.wf_activities.proofs.all_items.AllItems.open_counts_then.Goals as goal

pub open_counts_then-requires-clause-turn : goal.open_counts_then-requires-clause-turn
open_counts_then-requires-clause-turn c =
    subst (λ (items : ℕ → List Item). CompleteInTurn items c.args.entries.now)
    (sym (ap (λ (l : List UnitItems). items_in l) c.as_slice.ensures.value ∙ same_items c.self.inside.units.items c.args.self.now (ap (λ (s : Stock). s.items) c.self.view_is)))
    (come_in_turn c.args.chart.now (items_at c.args.self.now) c.args.entries.now c.requires.come)
