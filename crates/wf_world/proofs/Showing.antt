-- What a unit shows is what the machine shows.
use Rattle.std.proofs.Common.{◌≡◌, ◌≢◌, ℕ, true, List, slice_get, Some, refl, sym, ap, ap₂, ◌∙◌}
use Rattle.wf_model.specs.declared.ids.UnitId.{UnitId}
use Rattle.wf_model.specs.declared.ids.ActId.{ActId}
use Rattle.std.specs.Prelude.{Bool}
use Rattle.wf_parts.specs.declared.data.PartData.{PartData}
use Rattle.wf_machine.specs.declared.line.Line.TheVariants as line
use Rattle.wf_machine.specs.declared.reply.Sight.{Sight}
use Rattle.wf_machine.specs.declared.reply.Reply.TheVariants as reply
use Rattle.wf_machine.specs.Server.{IsDown}
use Rattle.wf_machine.specs.Sights.{sight_of, items_of}
use Rattle.wf_histories.specs.Histories.{History}
use Rattle.wf_bridge.specs.Bridging.{node_sight, node_items}
use Rattle.wf_slot.specs.Slots.{SlotState, unit_of}
use Rattle.wf_world.specs.Fleets.{FleetState, units_of, machine_at, IsFleet, Leads}
use Rattle.wf_world.proofs.Counts.{sight_is, items_is}
use Rattle.wf_world.proofs.Lines.{acted, show_up, show_down, items_up, items_down}
use Rattle.wf_world.proofs.Fleets.{in_chart, count_units, at_units, past_is}

module _ (f : FleetState) (is : IsFleet f) (u : UnitId) (s : SlotState) (at : slice_get f.slots u.0 ≡ Some s) where
  pub sight_here : sight_of f.chart (machine_at f) u.0 ≡ node_sight s.part s.past
  sight_here =
      sight_is f.chart is.accepted (units_of f.slots) f.messages (count_units f is u.0 s at) is.sound u.0 (in_chart f is u.0 s at)
      ∙ ap₂ (λ (p : PartData) (x : History). node_sight p x) (sym (is.each u.0 s at).part) (past_is f is u.0 s at)

  items_here : items_of f.chart (machine_at f) u.0 ≡ node_items s.part s.past
  items_here =
      items_is f.chart is.accepted (units_of f.slots) f.messages (count_units f is u.0 s at) is.sound u.0 (in_chart f is u.0 s at)
      ∙ ap₂ (λ (p : PartData) (x : History). node_items p x) (sym (is.each u.0 s at).part) (past_is f is u.0 s at)

  pub shows : (sight : Sight) → s.health ≢ IsDown → sight ≡ node_sight s.part s.past → Leads f (line.Show u) (reply.Shown sight) f
  shows sight up same = record {
    chart = refl;
    machine = (true, show_up f.chart (units_of f.slots) f.messages u (unit_of s) (at_units f is u.0 s at) true up ∙ ap (λ (x : Sight). acted (reply.Shown x) (machine_at f)) (sight_here ∙ sym same));
    fleet = is;
  }

  pub shows_none : s.health ≡ IsDown → Leads f (line.Show u) reply.Down f
  shows_none down = record { chart = refl; machine = (true, show_down f.chart (units_of f.slots) f.messages u (unit_of s) (at_units f is u.0 s at) true down); fleet = is }

  pub lists : (items : List (ActId × ℕ × Bool)) → s.health ≢ IsDown → items ≡ node_items s.part s.past → Leads f (line.Items u) (reply.Items items) f
  lists items up same = record {
    chart = refl;
    machine = (true, items_up f.chart (units_of f.slots) f.messages u (unit_of s) (at_units f is u.0 s at) true up ∙ ap (λ (x : List (ActId × ℕ × Bool)). acted (reply.Items x) (machine_at f)) (items_here ∙ sym same));
    fleet = is;
  }

  pub lists_none : s.health ≡ IsDown → Leads f (line.Items u) reply.Down f
  lists_none down = record { chart = refl; machine = (true, items_down f.chart (units_of f.slots) f.messages u (unit_of s) (at_units f is u.0 s at) true down); fleet = is }
