-- Inner. What a unit shows, by its part and its view.
use Rattle.std.specs.Prelude.{ℕ, Bool, List, map, filter}
use Rattle.wf_model.specs.declared.ids.StateId.{StateId}
use Rattle.wf_model.specs.Bits.{bit}
use Rattle.wf_parts.specs.declared.data.Component.{Component}
use Rattle.wf_parts.specs.declared.data.PartData.{PartData}
use Rattle.wf_views.specs.Views.{View, is_inside}
use Rattle.wf_machine.specs.declared.reply.Sight.{Sight}

-- the states of these components that a table has
abbrev pub states_in : List Bool → List Component → List StateId
states_in inside components = map (λ c. c.state) (filter (λ c. bit inside c.state.0) components)

-- the sight of a part's unit that has this view after so many steps, and so many admissions
abbrev pub shown : PartData → View → ℕ → ℕ → Sight
shown part view taken admitted =
    record {
      unit = part.unit;
      taken = taken;
      admitted = admitted;
      states = map (λ c. c.state) (filter (λ c. is_inside view c.state.0) part.components);
      vars = view.vars;
    }
