-- Inner. Ties a run that is held in memory to where a run of the chart stands.
use Rattle.std.specs.Prelude.{ℕ, IsTrue}
use Rattle.wf_model.specs.declared.chart.Chart.{Chart}
use Rattle.wf_semantics.specs.Admission.{may_come}
use Rattle.wf_semantics.specs.Standing.{Standing}
use Rattle.wf_central.specs.declared.run.CentralRun.{CentralRun}
use Rattle.wf_central.specs.Kept.{Kept, central_of, IsOf}

-- the state that a run keeps
abbrev pub state_of : CentralRun → Kept
state_of run = run.central

-- how many steps were taken
abbrev pub taken_by : CentralRun → ℕ
taken_by run = run.central.taken

abbrev pub standing_of : Chart → CentralRun → Standing
standing_of chart run = record { central = central_of chart run.central; pending = run.pending }

-- the run is one of this chart, and what is pending may come in the next step
pub record IsRun (chart : Chart) (run : CentralRun) : Type 0 where
  pub of : IsOf chart run.central
  pub come : IsTrue (may_come chart (central_of chart run.central).items run.pending)
