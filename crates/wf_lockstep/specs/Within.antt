-- Of the laws. A unit's updates hold only what they may.
use Rattle.std.specs.Prelude.{ℕ, ◌≡◌, ◌&&◌, Bool, true, List}
use Rattle.std.specs.List.{list_all}
use Rattle.wf_model.specs.declared.chart.Chart.{Chart}
use Rattle.wf_model.specs.declared.outer.Outer.{Outer}
use Rattle.wf_model.specs.declared.outer.Outer.TheVariants.{Happen, Complete}
use Rattle.wf_semantics.specs.Admission.{is_event_at, is_act_at, are_outputs_of}
use Rattle.wf_parts.specs.Parts.{part_of}
use Rattle.wf_views.specs.Views.{View}
use Rattle.wf_views.specs.OwnSteps.{own_update}
use Rattle.wf_views.specs.Relevant.{is_within}
use Rattle.wf_parts.specs.Peers.{held_by}

-- an event at the unit, or a completion of an activity at it with its outputs
abbrev pub is_at_unit : Chart → ℕ → Outer → Bool
is_at_unit chart u (Happen e) = is_event_at chart u e.0
is_at_unit chart u (Complete item a outputs) = is_act_at chart u a.0 && are_outputs_of chart a.0 outputs

abbrev pub OwnIsWithin : Type 0
OwnIsWithin =
    (chart : Chart) (u k : ℕ) (view : View) (outers : List Outer) → list_all (is_at_unit chart u) outers ≡ true →
    is_within (held_by chart u) (own_update (part_of chart u) k view outers) ≡ true
