-- Of the laws. The counting machine's update is the unit's share.
use Rattle.std.specs.Prelude.{ℕ, suc, ◌≡◌, ◌<◌, ◌≤◌, length}
use Rattle.wf_model.specs.declared.chart.Chart.{Chart}
use Rattle.wf_model.specs.Accepted.{IsAccepted}
use Rattle.wf_parts.specs.Parts.{part_of}
use Rattle.wf_lockstep.specs.Shares.{share_from}
use Rattle.wf_machine.specs.Server.{outers_sealed}
use Rattle.wf_machine.specs.Machine.{CountingMachine, server, entries_at, central_at}
use Rattle.wf_machine.specs.Shares.{update_at}
use Rattle.wf_histories.specs.Histories.{History, taken, local_update}
use Rattle.wf_histories.specs.Laws.{AreLean}
use Rattle.wf_bridge.specs.Bridging.{CountsOf}

-- the machine's own text of an update is that of the share
abbrev pub UpdateIsShare : Type 0
UpdateIsShare =
    (chart : Chart) (m : CountingMachine) (u j : ℕ) → IsAccepted chart →
    update_at chart m u (suc j) ≡ share_from chart (central_at chart m j) (entries_at m (suc j)) u (suc j) (outers_sealed (server m u).admissions (server m u).sealed j)

-- so it is the update of the unit's history, up to the step that comes next
abbrev pub UpdateSame : Type 0
UpdateSame =
    (chart : Chart) (m : CountingMachine) (h : ℕ → History) (u j : ℕ) → AreLean chart h → CountsOf m (length chart.units) h → u < length chart.units → j ≤ taken (h u) →
    local_update (part_of chart u) (h u) (suc j) ≡ update_at chart m u (suc j)
