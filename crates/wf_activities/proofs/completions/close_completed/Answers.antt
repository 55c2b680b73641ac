use Rattle.std.proofs.Common.{List, sym, ◌∙◌, ap, arith}
use Rattle.std.proofs.lemmas.List.{drop_all}
use Rattle.wf_model.specs.declared.outer.Entry.{Entry}
use Rattle.wf_semantics.specs.Items.{close_all}
use Rattle.wf_semantics.specs.Run.{completions_at}
use Rattle.wf_activities.specs.Stock.{items_in}
use Rattle.wf_activities.proofs.Closing.{first_in_turn, rest_in_turn, rest_closed}
use Rattle.wf_activities.proofs.completions.close_completed.Goals as goal

pub close_one-requires : goal.close_one-requires
close_one-requires c = first_in_turn c.args.entries.now c.loop-entry.entry-index c.entry-item.result (omega arith) c.entry-item.is c.loop-entry.units c.loop-entry.invariant.turn

pub loop-entry-preserved : goal.loop-entry-preserved
loop-entry-preserved c = record {
  turn = rest_in_turn c.args.entries.now c.loop-entry.entry-index c.entry-item.result (omega arith) c.entry-item.is c.loop-entry.units c.close_one.new.units c.close_one.ensures.items c.loop-entry.invariant.turn;
  rest = rest_closed c.args.entries.now c.loop-entry.entry-index c.entry-item.result (omega arith) c.entry-item.is c.loop-entry.units c.close_one.new.units c.close_one.ensures.items
      (λ u. close_all (completions_at u c.args.entries.now) (items_in c.args.units.now u)) c.loop-entry.invariant.rest;
  steps = c.close_one.ensures.steps ∙ c.loop-entry.invariant.steps;
  rooms = c.close_one.ensures.rooms ∙ c.loop-entry.invariant.rooms;
}

pub returns : goal.returns
returns c = record {
  items = λ u.
      ap (λ (es : List Entry). close_all (completions_at u es) (items_in c.loop-entry.units u)) (sym (drop_all c.loop-entry.entry-index c.args.entries.now (omega arith)))
      ∙ c.loop-entry.invariant.rest u;
  steps = c.loop-entry.invariant.steps;
  rooms = c.loop-entry.invariant.rooms;
}
