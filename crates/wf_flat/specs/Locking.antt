-- Inner. Views that stand beside their parts, and how much is started.
use Rattle.std.specs.Prelude.{ℕ, ◌≡◌, ◌+◌, ◌*◌, ◌<◌, ◌≤◌, ◌^◌, List, All, map, length}
use Rattle.std.specs.List.{range_with_len}
use Rattle.wf_model.specs.Limits.{max_units, max_transitions, max_actions}
use Rattle.wf_model.specs.declared.update.Update.{Update}
use Rattle.wf_parts.specs.declared.data.PartData.{PartData}
use Rattle.wf_views.specs.Views.{View, count_now}
use Rattle.wf_views.specs.Absorbing.{start_count, starts_in}
use Rattle.wf_views.specs.Laws.{IsViewOf}

-- each view is one of the part at its place
abbrev pub AreViews : List PartData → List View → Type 0
AreViews parts views =
    (part : ℕ → PartData) (view : ℕ → View) → parts ≡ map part (range_with_len 0 (length parts)) → views ≡ map view (range_with_len 0 (length parts)) →
    (u : ℕ) → u < length parts → IsViewOf (part u) (view u)

-- each transition of a chart starts no more than it has actions
abbrev pub HasFewStarts : Update → Type 0
HasFewStarts update = length update.starts ≤ max_transitions * max_actions

-- so after so many steps no more are open
abbrev pub HasFewOpen : ℕ → View → Type 0
HasFewOpen steps view = All (λ a. a.1 ≤ max_units * (max_transitions * max_actions) * steps) view.unclosed

-- the counts of the view have room for what these updates start
abbrev pub HasRoomFor : List Update → View → Type 0
HasRoomFor updates view = All (λ a. count_now view a + start_count a.0.0 (starts_in updates) < 2 ^ 32) view.unclosed
