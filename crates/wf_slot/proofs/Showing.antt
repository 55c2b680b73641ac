-- A sight by a table of the states that are in.
use Rattle.std.proofs.Common.{◌≡◌, ℕ, Bool, List, map, filter, length, refl, ap, ap₂, ◌∙◌}
use Rattle.wf_model.specs.declared.ids.StateId.{StateId}
use Rattle.wf_model.specs.declared.outer.Output.{Output}
use Rattle.wf_model.specs.Bits.{bit}
use Rattle.wf_parts.specs.declared.data.PartData.{PartData}
use Rattle.wf_views.specs.Views.{View, is_inside}
use Rattle.wf_machine.specs.declared.reply.Sight.{Sight}
use Rattle.wf_histories.specs.Histories.{History, taken, local}
use Rattle.wf_bridge.specs.Bridging.{node_sight}
use Rattle.wf_slot.specs.Shown.{states_in, shown}

abbrev sight_by : PartData → ℕ → ℕ → List StateId → List Output → Sight
sight_by part steps admitted states vars = record { unit = part.unit; taken = steps; admitted = admitted; states = states; vars = vars }

pub shown_by : (part : PartData) (view : View) (steps admitted : ℕ) (inside : List Bool) (states : List StateId) (vars : List Output) →
    states ≡ states_in inside part.components → bit inside ≡ is_inside view → vars ≡ view.vars → sight_by part steps admitted states vars ≡ shown part view steps admitted
shown_by part view steps admitted inside states vars states_are table vars_are =
    ap₂ (λ (s : List StateId) (v : List Output). sight_by part steps admitted s v)
    (states_are ∙ ap (λ (is : ℕ → Bool). map (λ c. c.state) (filter (λ c. is c.state.0) part.components)) table) vars_are

-- the sight of a unit's part and history is that of its view
pub node_sight_is : (part : PartData) (h : History) → node_sight part h ≡ shown part (local part h (taken h)) (taken h) (length h.admissions)
node_sight_is part h = refl
