-- Views and updates that are put together field by field.
use Rattle.std.proofs.Common.{◌≡◌, ◌+◌, ℕ, List, [], map, filter}
use Rattle.wf_model.specs.declared.ids.StateId.{StateId}
use Rattle.wf_model.specs.declared.ids.EventId.{EventId}
use Rattle.wf_model.specs.declared.ids.ActId.{ActId}
use Rattle.wf_model.specs.declared.outer.Output.{Output}
use Rattle.wf_model.specs.declared.outer.Entry.{Entry}
use Rattle.wf_parts.specs.declared.data.PartData.{PartData}
use Rattle.wf_model.specs.declared.update.Update.{Update}
use Rattle.wf_views.specs.OwnSteps.{differs}
use Rattle.wf_views.specs.Knowledge.{known_to, cut_entries}
use Rattle.wf_views.specs.Views.{View, first_view, is_inside, value_now, count_now}
use Rattle.wf_views.specs.Absorbing.{absorbed, is_flipped, is_raised, value_after, writes_in, start_count, starts_in, entries_in}

pub first_made : (part : PartData) (states : List StateId) (vars : List Output) (raised : List EventId) (unclosed : List (ActId × ℕ)) (next : List Entry)
    → states ≡ map (λ known. known.id) (filter (λ known. known.first) part.states) → vars ≡ map (λ known. record { var = known.id; val = known.first }) part.vars
    → raised ≡ [] → unclosed ≡ map (λ known. (known.id, 0)) part.acts → next ≡ []
    → let view : View = record { states = states; vars = vars; raised = raised; unclosed = unclosed; next = next } in view ≡ first_view part
unfolding first_view
first_made part states vars raised unclosed next s v r u n = λ i. record { states = s i; vars = v i; raised = r i; unclosed = u i; next = n i }

pub absorbed_made : (part : PartData) (view : View) (all : List Update) (states : List StateId) (vars : List Output) (raised : List EventId) (unclosed : List (ActId × ℕ)) (next : List Entry)
    → states ≡ map (λ known. known.id) (filter (λ known. differs (is_inside view known.id.0) (is_flipped all known.id.0)) part.states)
    → vars ≡ map (λ o. record { var = o.var; val = value_after (writes_in all) o.var.0 (value_now view o) }) view.vars
    → raised ≡ map (λ known. known.id) (filter (λ known. is_raised all known.id.0) part.events)
    → unclosed ≡ map {B = ActId × ℕ} (λ a. (a.0, count_now view a + start_count a.0.0 (starts_in all))) view.unclosed
    → next ≡ cut_entries (known_to part) (entries_in all)
    → let after : View = record { states = states; vars = vars; raised = raised; unclosed = unclosed; next = next } in after ≡ absorbed part view all
unfolding absorbed
absorbed_made part view all states vars raised unclosed next s v r u n = λ i. record { states = s i; vars = v i; raised = r i; unclosed = u i; next = n i }
