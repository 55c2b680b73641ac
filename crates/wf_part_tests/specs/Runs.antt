-- Of other calls. What lists of entries have to be for the units' shares of them.
use Rattle.std.specs.Prelude.{◌≡◌, ◌≤◌, List, [], length, IsTrue}
use Rattle.std.specs.List.{list_all}
use Rattle.wf_model.specs.Limits.{max_steps}
use Rattle.wf_model.specs.declared.chart.Chart.{Chart}
use Rattle.wf_model.specs.declared.outer.Entry.{Entry}
use Rattle.wf_runs.specs.Runs.{IsRun}
use Rattle.wf_lockstep.specs.Shares.{entries_at}
use Rattle.wf_lockstep.specs.Ordered.{rises}

-- a run of the chart whose first list is empty, each list in unit order
pub record IsSharedRun (chart : Chart) (outer : List (List Entry)) : Type 0 where
  pub run : IsRun chart outer
  pub first : entries_at outer 1 ≡ []
  pub order : IsTrue (list_all (rises 0) outer)
  pub few : length outer ≤ max_steps
