-- Of the laws. How many items of an activity a view counts as open.
use Rattle.std.specs.Prelude.{ℕ, ◌≡◌, ◌<◌, ◌≤◌, ◌+◌, ◌*◌, ◌^◌, nat_le, nat_lt, Bool, true, List, length}
use Rattle.std.specs.List.{list_all}
use Rattle.wf_model.specs.Limits.{max_units, max_starts, max_steps}
use Rattle.wf_model.specs.declared.chart.Chart.{Chart}
use Rattle.wf_model.specs.declared.update.Update.{Update}
use Rattle.wf_model.specs.Accepted.{IsAccepted}
use Rattle.wf_parts.specs.Parts.{part_of}
use Rattle.wf_views.specs.Views.{View, count_now}
use Rattle.wf_views.specs.Absorbing.{starts_in, start_count}
use Rattle.wf_histories.specs.Histories.{History, taken, inputs_at, local}

-- the starts of a step: so many in each unit's update
abbrev pub STEP_STARTS : ℕ
STEP_STARTS = max_units * max_starts

-- an update has no more starts than its bytes can have
abbrev pub starts_few : Update → Bool
starts_few update = nat_le (length update.starts) max_starts

-- each Turn kept of fewer units than there are, and such updates
pub record HasFewStarts (chart : Chart) (h : History) : Type 0 where
  pub peers : (j : ℕ) → j < taken h → length (inputs_at h j) < length chart.units
  pub starts : (j : ℕ) → j < taken h → list_all starts_few (inputs_at h j) ≡ true

-- no count of the view is over n
abbrev pub counts_within : ℕ → View → Bool
counts_within n view = list_all (λ a. nat_le a.1 n) view.unclosed

-- after j Turns no open count is over 65,408 * j
abbrev pub CountsAreBounded : Type 0
CountsAreBounded = (chart : Chart) (u j : ℕ) (h : History) → IsAccepted chart → HasFewStarts chart h → j ≤ taken h → counts_within (STEP_STARTS * j) (local (part_of chart u) h j) ≡ true

-- so the next Turn's counts fit 32 bits, up to the greatest number of steps
abbrev pub AbsorbCountsFit : Type 0
AbsorbCountsFit =
    (chart : Chart) (j : ℕ) (view : View) (updates : List Update) → IsAccepted chart → j < max_steps → counts_within (STEP_STARTS * j) view ≡ true → length updates ≤ length chart.units → list_all starts_few updates ≡ true →
    list_all (λ a. nat_lt (count_now view a + start_count a.0.0 (starts_in updates)) (2 ^ 32)) view.unclosed ≡ true
