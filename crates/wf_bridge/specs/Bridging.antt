-- Of the laws. The counting machine's words are the histories' where its counts are theirs.
use Rattle.std.specs.Prelude.{ℕ, suc, ◌+◌, ◌≡◌, ◌<◌, ◌≤◌, Bool, List, length, map, filter}
use Rattle.std.specs.List.{list_any, enumerate_from}
use Rattle.wf_model.specs.declared.ids.ActId.{ActId}
use Rattle.wf_model.specs.declared.chart.Chart.{Chart}
use Rattle.wf_model.specs.declared.outer.Outer.{Outer}
use Rattle.wf_parts.specs.declared.data.PartData.{PartData}
use Rattle.wf_semantics.specs.Admission.{completes}
use Rattle.wf_parts.specs.Parts.{part_of}
use Rattle.wf_views.specs.Views.{is_inside}
use Rattle.wf_lockstep.specs.Shares.{state_after, share_from}
use Rattle.wf_machine.specs.declared.admission.Admission as of
use Rattle.wf_machine.specs.declared.reply.Sight.{Sight}
use Rattle.wf_machine.specs.Server.{outers_sealed}
use Rattle.wf_machine.specs.Machine.{CountingMachine, server, entries_at, central_at}
use Rattle.wf_machine.specs.Sights.{sight_of, items_of}
use Rattle.wf_machine.specs.Lines.{lets}
use Rattle.wf_histories.specs.Histories.{Admission, History, seals, taken, local, local_update}
use Rattle.wf_histories.specs.Agreement.{least_taken, merged_entries}
use Rattle.wf_histories.specs.Follows.{item_acts}
use Rattle.wf_histories.specs.Laws.{merged_of, AreLean}
use Rattle.wf_worlds.specs.Admitting.{outers, lets_in}

-- an admission of the machine as a history has it
abbrev pub in_history : of.Admission → Admission
in_history a = record { request = a.request; outer = a.outer }

-- the machine's admissions and seals are the histories'
pub record CountsOf (m : CountingMachine) (n : ℕ) (h : ℕ → History) : Type 0 where
  pub units : length m.servers ≡ n
  pub admissions : (u : ℕ) → u < n → (h u).admissions ≡ map in_history (server m u).admissions
  pub sealed : (u : ℕ) → u < n → seals (h u) ≡ (server m u).sealed

-- so its list of entries is theirs
abbrev pub EntriesSame : Type 0
EntriesSame = (m : CountingMachine) (n : ℕ) (h : ℕ → History) (k : ℕ) → CountsOf m n h → entries_at m k ≡ merged_entries n h k

-- and its central run is that of the merged list, as far as this goes
abbrev pub CentralSame : Type 0
CentralSame =
    (chart : Chart) (m : CountingMachine) (h : ℕ → History) (k : ℕ) → CountsOf m (length chart.units) h → k ≤ least_taken (length chart.units) h + 2 → central_at chart m k ≡ state_after chart (merged_of chart h) k

-- its admission rule is that of the unit's part and history
abbrev pub LetsSame : Type 0
LetsSame =
    (chart : Chart) (m : CountingMachine) (h : ℕ → History) (u : ℕ) (o : Outer) → AreLean chart h → CountsOf m (length chart.units) h → u < length chart.units →
    lets chart m u o ≡ lets_in (part_of chart u) (h u) o

-- what a server shows by its part and its view alone
abbrev pub node_sight : PartData → History → Sight
node_sight part h =
    record {
      unit = part.unit;
      taken = taken h;
      admitted = length h.admissions;
      states = map (λ c. c.state) (filter (λ c. is_inside (local part h (taken h)) c.state.0) part.components);
      vars = (local part h (taken h)).vars;
    }

abbrev pub node_items : PartData → History → List (ActId × ℕ × Bool)
node_items part h = map (λ x. (x.1, x.0, list_any (completes x.0) (outers h.admissions))) (enumerate_from 1 (item_acts part h (taken h)))

abbrev pub SightSame : Type 0
SightSame =
    (chart : Chart) (m : CountingMachine) (h : ℕ → History) (u : ℕ) → AreLean chart h → CountsOf m (length chart.units) h → u < length chart.units → sight_of chart m u ≡ node_sight (part_of chart u) (h u)

abbrev pub ItemsSame : Type 0
ItemsSame =
    (chart : Chart) (m : CountingMachine) (h : ℕ → History) (u : ℕ) → AreLean chart h → CountsOf m (length chart.units) h → u < length chart.units → items_of chart m u ≡ node_items (part_of chart u) (h u)

-- its update is the unit's share of the machine's central run, up to the step that comes next
abbrev pub LetterSame : Type 0
LetterSame =
    (chart : Chart) (m : CountingMachine) (h : ℕ → History) (u j : ℕ) → AreLean chart h → CountsOf m (length chart.units) h → u < length chart.units → j ≤ taken (h u) →
    local_update (part_of chart u) (h u) (suc j)
    ≡ share_from chart (central_at chart m j) (entries_at m (suc j)) u (suc j) (outers_sealed (server m u).admissions (server m u).sealed j)
