-- Of the laws. Histories that went on from ones that agree, by updates that came in order.
use Rattle.std.specs.Prelude.{ℕ, suc, ◌+◌, ◌-◌, ◌≡◌, ◌≢◌, ◌<◌, ◌≤◌, max, List, ◌++◌, length, map, Some, slice_get}
use Rattle.std.specs.List.{range_with_len}
use Rattle.wf_model.specs.declared.chart.Chart.{Chart}
use Rattle.wf_model.specs.declared.update.Update.{Update}
use Rattle.wf_parts.specs.Parts.{part_of}
use Rattle.wf_histories.specs.Histories.{History, taken, inputs_at}
use Rattle.wf_histories.specs.Agreement.{Agree, lean, peers}
use Rattle.wf_worlds.specs.Growing.{GoesOn, Fits}
use Rattle.wf_worlds.specs.Worlds.{letter, gather}

-- The first step whose update a unit sends: the last one that it had taken, since a peer may be one step behind.
abbrev pub first_sent : (opening : ℕ → History) → ℕ → ℕ
first_sent opening v = max 1 (taken (opening v))

-- v's own updates, as u is sent them, from that step on up to v's next one
abbrev pub row_to : Chart → (opening now : ℕ → History) → ℕ → ℕ → List Update
row_to chart opening now v u = map (letter chart now v u) (range_with_len (first_sent opening v) (taken (now v) + 2 - first_sent opening v))

-- Each history goes on. What came to u of v is the first of v's row. And each Turn since took in of each peer what came of its step.
pub record WentOn (chart : Chart) (opening now : ℕ → History) (popped : ℕ → ℕ → List Update) : Type 0 where
  pub goes : (u : ℕ) → GoesOn (opening u) (now u)
  pub came : (u v : ℕ) → u < length chart.units → v < length chart.units → v ≢ u → (rest : List Update) × (row_to chart opening now v u ≡ popped u v ++ rest)
  pub took : (u j : ℕ) → u < length chart.units → taken (opening u) ≤ j → j < taken (now u) →
      gather (λ v. slice_get (popped u v) (suc j - first_sent opening v)) (peers (length chart.units) u) ≡ Some (inputs_at (now u) j)

-- THE LAW
abbrev pub HistoriesStillAgree : Type 0
HistoriesStillAgree =
    (chart : Chart) (opening now : ℕ → History) (popped : ℕ → ℕ → List Update) → Agree (lean chart) (length chart.units) (part_of chart) opening →
    ((u : ℕ) → u < length chart.units → Fits (opening u)) → WentOn chart opening now popped → Agree (lean chart) (length chart.units) (part_of chart) now
