use Rattle.std.proofs.Common.{◌≡◌, ◌++◌, ◌+◌, take, drop}
use Rattle.std.specs.List.{sum_by}
use Rattle.wf_histories.specs.Histories.{TurnDone}
use Rattle.wf_trail.specs.TrailText.{lines_from}
use Rattle.wf_trail.proofs.text.append_turns.Given as goal

abbrev pub invariant-loop-at : goal.invariant-loop-at
invariant-loop-at l = record {
  sealed : l.sealed ≡ sum_by (λ (turn : TurnDone). turn.sealed) (take l.at l.turns);
  text : l.text ++ lines_from l.chart (l.sealed + 1) (drop l.sealed l.admissions) (drop l.at l.turns) (drop l.at l.updates)
      ≡ l.fn.text ++ lines_from l.chart 1 l.admissions l.turns l.updates;
}
