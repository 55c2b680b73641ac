use Rattle.std.proofs.Common.{◌≡◌, map, take, sum}
use Rattle.std.specs.List.{range_with_len}
use Rattle.wf_histories.specs.Histories.{seals}
use Rattle.wf_projection.specs.Merged.{turn_places}
use Rattle.wf_projection.proofs.merging.places_by_turn.Given as goal

abbrev pub invariant-loop-turn : goal.invariant-loop-turn
invariant-loop-turn l = record {
  turns : l.turns ≡ map (turn_places l.unit.0 l.history.past) (range_with_len 0 l.turn-index);
  before : l.before ≡ sum (take l.turn-index (seals l.history.past));
}
