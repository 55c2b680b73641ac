-- Of the laws. What holds of the views and updates of servers whose histories are sound.
use Rattle.std.specs.Prelude.{ℕ, suc, ◌*◌, ◌≡◌, ◌<◌, ◌≤◌, true, length}
use Rattle.std.specs.List.{list_all}
use Rattle.wf_model.specs.Limits.{max_steps}
use Rattle.wf_model.specs.declared.chart.Chart.{Chart}
use Rattle.wf_parts.specs.declared.data.PartData.{PartData}
use Rattle.wf_model.specs.Accepted.{IsAccepted}
use Rattle.wf_codec.specs.Ranges.{IsInRange}
use Rattle.wf_parts.specs.Parts.{part_of}
use Rattle.wf_views.specs.Laws.{IsViewOf}
use Rattle.wf_lockstep.specs.Within.{is_at_unit}
use Rattle.wf_histories.specs.Histories.{History, taken, inputs_at, sealed_by, local, local_update}
use Rattle.wf_owns.specs.Sorted.{is_fit, IsSortedView}
use Rattle.wf_worlds.specs.Counts.{STEP_STARTS, HasFewStarts, counts_within}
use Rattle.wf_worlds.specs.Growing.{Good}
use Rattle.wf_worlds.specs.Worlds.{World, Sound, letter}

-- ONE HISTORY, whoever wrote it

abbrev pub LocalIsView : Type 0
LocalIsView = (part : PartData) (h : History) (j : ℕ) → IsViewOf part (local part h j)

-- where each input that was kept is fit
abbrev pub LocalIsSorted : Type 0
LocalIsSorted =
    (chart : Chart) (u j : ℕ) (h : History) → IsAccepted chart → ((i : ℕ) → list_all (is_at_unit chart u) (sealed_by h i) ≡ true) →
    ((i : ℕ) → i < j → list_all (is_fit (part_of chart u)) (inputs_at h i) ≡ true) → IsSortedView (part_of chart u) (local (part_of chart u) h j)

-- each update that the unit makes has a spelling's ranges
abbrev pub LocalUpdateInRange : Type 0
LocalUpdateInRange =
    (chart : Chart) (u j : ℕ) (h : History) → IsAccepted chart → u < length chart.units → Good chart u h → taken h ≤ max_steps → j ≤ taken h →
    IsInRange (local_update (part_of chart u) h (suc j))

-- ALL SERVERS

-- what reached a server is fit for it and has few starts; so its views have the sorts and the counts that steps need
pub record AreKept (chart : Chart) (w : World) (u : ℕ) : Type 0 where
  pub fit : (i : ℕ) → i < taken (w.hist u) → list_all (is_fit (part_of chart u)) (inputs_at (w.hist u) i) ≡ true
  pub few : HasFewStarts chart (w.hist u)
  pub sorted : (j : ℕ) → j ≤ taken (w.hist u) → IsSortedView (part_of chart u) (local (part_of chart u) (w.hist u) j)
  pub counts : (j : ℕ) → j ≤ taken (w.hist u) → counts_within (STEP_STARTS * j) (local (part_of chart u) (w.hist u) j) ≡ true

abbrev pub SoundIsKept : Type 0
SoundIsKept = (chart : Chart) (w : World) (u : ℕ) → IsAccepted chart → Sound chart w → u < length chart.units → AreKept chart w u

-- what a server is sent of its peers is fit for it
abbrev pub LetterIsFit : Type 0
LetterIsFit =
    (chart : Chart) (w : World) (v u j : ℕ) → IsAccepted chart → Sound chart w → v < length chart.units → j ≤ taken (w.hist v) → is_fit (part_of chart u) (letter chart w.hist v u (suc j)) ≡ true
