-- Of the laws. What a part shows of a central state.
use Rattle.std.specs.Prelude.{◌==◌, List, map, filter, get_or}
use Rattle.std.specs.List.{list_any}
use Rattle.wf_model.specs.declared.outer.Entry.{Entry}
use Rattle.wf_parts.specs.declared.data.PartData.{PartData}
use Rattle.wf_semantics.specs.Configuration.{is_in}
use Rattle.wf_semantics.specs.Items.{open_count}
use Rattle.wf_semantics.specs.Run.{CentralState}
use Rattle.wf_views.specs.Knowledge.{known_to, cut_entries}
use Rattle.wf_views.specs.Views.{View}

-- of a central state and the entries that come next, all that the part knows
unfoldable pub shown : PartData → CentralState → List Entry → View
shown part c entries =
    record {
      states = map (λ known. known.id) (filter (λ known. is_in known.id.0 c.configuration) part.states);
      vars = map (λ known. record { var = known.id; val = get_or c.store known.id.0 known.first }) part.vars;
      raised = map (λ known. known.id) (filter (λ known. list_any (λ r. r.0 == known.id.0) c.raised) part.events);
      unclosed = map (λ known. (known.id, open_count known.id.0 (c.items known.unit.0))) part.acts;
      next = cut_entries (known_to part) entries;
    }
