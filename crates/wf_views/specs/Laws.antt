-- Of the laws. Views and updates of every part.
use Rattle.std.specs.Prelude.{ℕ, ◌≡◌, ◌<◌, ◌==◌, true, if◌then◌else◌, List, map, length}
use Rattle.std.specs.List.{range_with_len}
use Rattle.wf_model.specs.declared.chart.Chart.{Chart}
use Rattle.wf_parts.specs.declared.data.PartData.{PartData}
use Rattle.wf_model.specs.declared.update.Update.{Update}
use Rattle.wf_parts.specs.Parts.{part_of}
use Rattle.wf_views.specs.Knowledge.{known_to}
use Rattle.wf_views.specs.Views.{View, first_view}
use Rattle.wf_views.specs.Absorbing.{absorbed}
use Rattle.wf_views.specs.Relevant.{cut_update, is_within, relevant}
use Rattle.wf_parts.specs.Peers.{held_by, peers_of}

-- a view of this part has a value for just the variables that the part knows, and a count for just the activities
pub record IsViewOf (part : PartData) (view : View) : Type 0 where
  pub vars : map (λ o. o.var) view.vars ≡ map (λ known. known.id) part.vars
  pub acts : map (λ a. a.0) view.unclosed ≡ map (λ known. known.id) part.acts

abbrev pub FirstIsView : Type 0
FirstIsView = (part : PartData) → IsViewOf part (first_view part)

abbrev pub AbsorbedIsView : Type 0
AbsorbedIsView = (part : PartData) (view : View) (updates : List Update) → IsViewOf part view → IsViewOf part (absorbed part view updates)

-- a part takes in only what it knows
abbrev pub AbsorbsKnown : Type 0
AbsorbsKnown =
    (part : PartData) (view : View) (updates : List Update) → IsViewOf part view →
    absorbed part view (map (cut_update (known_to part)) updates) ≡ absorbed part view updates

-- what unit u's update keeps for its peer v, by u's field of peers, is what v's part knows of it
abbrev pub RelevantIsKnown : Type 0
RelevantIsKnown =
    (chart : Chart) (u v : ℕ) (update : Update) → v < length chart.units → (v ≡ u → ⊥) → is_within (held_by chart u) update ≡ true →
    relevant (peers_of chart u) update v ≡ cut_update (known_to (part_of chart v)) update

-- a reader takes in the updates that are cut for it as it takes in the whole ones
abbrev pub AbsorbsCut : Type 0
AbsorbsCut =
    (chart : Chart) (u : ℕ) (view : View) (update : ℕ → Update) → IsViewOf (part_of chart u) view → u < length chart.units →
    ((v : ℕ) → v < length chart.units → is_within (held_by chart v) (update v) ≡ true) →
    absorbed (part_of chart u) view (map (λ v. if v == u then update v else relevant (peers_of chart v) (update v) u) (range_with_len 0 (length chart.units)))
    ≡ absorbed (part_of chart u) view (map update (range_with_len 0 (length chart.units)))
