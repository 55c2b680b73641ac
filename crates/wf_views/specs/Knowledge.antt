-- Which numbers are known, and entries cut to them.
use Rattle.std.specs.Prelude.{ℕ, ◌==◌, ◌||◌, Bool, List, filter, filter_map, option_map, Option, Some, None, if◌then◌else◌}
use Rattle.std.specs.List.{list_any}
use Rattle.wf_model.specs.declared.outer.Outer.{Outer}
use Rattle.wf_model.specs.declared.outer.Outer.TheVariants.{Happen, Complete}
use Rattle.wf_model.specs.declared.outer.Entry.{Entry}
use Rattle.wf_parts.specs.declared.data.PartData.{PartData}
use Rattle.wf_parts.specs.Peers.{Knowledge}

-- what a part knows
abbrev pub known_to : PartData → Knowledge
known_to part =
    record {
      states = λ s. list_any (λ known. known.id.0 == s) part.states;
      vars = λ x. list_any (λ known. known.id.0 == x) part.vars;
      events = λ e. list_any (λ known. known.id.0 == e) part.events;
      acts = λ a. list_any (λ known. known.id.0 == a) part.acts;
    }

-- a known event; a completion whose activity is known, or one of whose outputs is of a known variable, with these
-- outputs alone
abbrev pub cut_outer : Knowledge → Outer → Option Outer
cut_outer known (Happen e) = if known.events e.0 then Some (Happen e) else None
cut_outer known (Complete item a outputs) =
    if known.acts a.0 || list_any (λ o. known.vars o.var.0) outputs then Some (Complete item a (filter (λ o. known.vars o.var.0) outputs)) else None

abbrev pub cut_entry : Knowledge → Entry → Option Entry
cut_entry known x = option_map (λ outer. record { unit = x.unit; outer = outer }) (cut_outer known x.outer)

-- entries as far as they are known
abbrev pub cut_entries : Knowledge → List Entry → List Entry
cut_entries known entries = filter_map (cut_entry known) entries
