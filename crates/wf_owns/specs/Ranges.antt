-- Of the laws. A unit's own update is in the ranges and orders that bytes have, on every view.
use Rattle.std.specs.Prelude.{ℕ, ◌≡◌, ◌<◌, ◌≤◌, ◌+◌, nat_le, Bool, true, List, length}
use Rattle.std.specs.List.{list_all}
use Rattle.wf_model.specs.Limits.{max_states, max_steps, max_sealed}
use Rattle.wf_model.specs.declared.chart.Chart.{Chart}
use Rattle.wf_model.specs.declared.outer.Outer.{Outer}
use Rattle.wf_model.specs.declared.outer.Outer.TheVariants.{Happen, Complete}
use Rattle.wf_model.specs.Accepted.{IsAccepted}
use Rattle.wf_codec.specs.Ranges.{IsInRange}
use Rattle.wf_parts.specs.Parts.{part_of}
use Rattle.wf_views.specs.Views.{View}
use Rattle.wf_views.specs.OwnSteps.{own_update}
use Rattle.wf_lockstep.specs.Within.{is_at_unit}

-- items count from 1
abbrev pub has_item : Outer → Bool
has_item (Happen e) = true
has_item (Complete item a outputs) = nat_le 1 item

-- the view is any: also one whose states are no configuration
abbrev pub OwnInRange : Type 0
OwnInRange =
    (chart : Chart) (u k : ℕ) (view : View) (outers : List Outer) → IsAccepted chart → u < length chart.units → 1 ≤ k → k ≤ max_steps + 1 → length outers ≤ max_sealed →
    list_all (is_at_unit chart u) outers ≡ true → list_all has_item outers ≡ true →
    IsInRange (own_update (part_of chart u) k view outers) × (length (own_update (part_of chart u) k view outers).flips ≤ max_states)
