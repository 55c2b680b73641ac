-- Of the laws. The whole merged list, and the places of a unit's admissions in it.
use Rattle.std.specs.Prelude.{ℕ, suc, ◌+◌, ◌≡◌, ◌≤◌, length, map, flat_map, take, sum}
use Rattle.std.specs.List.{range_with_len}
use Rattle.wf_model.specs.declared.chart.Chart.{Chart}
use Rattle.wf_machine.specs.Server.{taken as steps_taken, numbers_sealed}
use Rattle.wf_machine.specs.Machine.{CountingMachine, server, entries_at, least_of}
use Rattle.wf_machine.specs.Shares.{update_at}
use Rattle.wf_histories.specs.Histories.{History, taken}
use Rattle.wf_histories.specs.Agreement.{lean, least_taken, merged_list}
use Rattle.wf_histories.specs.Laws.{AreLean}
use Rattle.wf_bridge.specs.Bridging.{CountsOf}
use Rattle.wf_worlds.specs.Worlds.{letter}

-- the machine's least count is the histories', and its list to the end is their merged list
abbrev pub MergedSame : Type 0
MergedSame =
    (m : CountingMachine) (n : ℕ) (h : ℕ → History) → CountsOf m n h →
    (least_of m.servers ≡ least_taken n h) × (map (entries_at m) (range_with_len 1 (least_of m.servers + 2)) ≡ merged_list n h)

-- what the turns of a unit sealed, in order, are its first admissions: 1, 2, 3 and so on, each once
abbrev pub NumbersInOrder : Type 0
NumbersInOrder =
    (m : CountingMachine) (u k : ℕ) → k ≤ steps_taken (server m u) →
    flat_map (numbers_sealed (server m u).sealed) (range_with_len 1 k) ≡ range_with_len 1 (sum (take k (server m u).sealed))

-- a letter is the cut of the machine's update
abbrev pub LetterCut : Type 0
LetterCut =
    (chart : Chart) (m : CountingMachine) (h : ℕ → History) (v u j : ℕ) → AreLean chart h → CountsOf m (length chart.units) h → (v + 1) ≤ length chart.units → j ≤ taken (h v) →
    letter chart h v u (suc j) ≡ lean chart v u (update_at chart m v (suc j))
