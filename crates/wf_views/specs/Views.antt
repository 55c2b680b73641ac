-- Of other calls. What a unit keeps between its steps, and what its next step sees of it.
use Rattle.std.specs.Prelude.{ℕ, ◌-◌, ◌==◌, ◌||◌, nat_lt, Bool, List, [], ◌∷◌, map, filter, flat_map, find, Option, option_map, Some, None, if◌then◌else◌}
use Rattle.std.specs.List.{list_any}
use Rattle.wf_model.specs.declared.ids.StateId.{StateId}
use Rattle.wf_model.specs.declared.ids.EventId.{EventId}
use Rattle.wf_model.specs.declared.ids.ActId.{ActId}
use Rattle.wf_model.specs.declared.value.Val.{Val}
use Rattle.wf_model.specs.declared.outer.Output.{Output}
use Rattle.wf_model.specs.declared.outer.Outer.{Outer}
use Rattle.wf_model.specs.declared.outer.Outer.TheVariants.{Happen, Complete}
use Rattle.wf_model.specs.declared.outer.Entry.{Entry}
use Rattle.wf_parts.specs.declared.data.PartData.{PartData}
use Rattle.wf_semantics.specs.Snapshot.{Snapshot}
use Rattle.wf_semantics.specs.Items.{Completion, done_count}
use Rattle.wf_semantics.specs.Run.{completions_of, is_happening}
use Rattle.wf_views.specs.Knowledge.{known_to}

-- each list has only what the part knows, ascending
pub record View : Type 0 where
  -- the states that are in
  pub states : List StateId
  -- the variables with their values
  pub vars : List Output
  -- the events raised in the last step
  pub raised : List EventId
  -- the activities, each with how many of its items are open
  pub unclosed : List (ActId × ℕ)
  -- the entries of the next step
  pub next : List Entry

-- before step 1
unfoldable pub first_view : PartData → View
first_view part =
    record {
      states = map (λ known. known.id) (filter (λ known. known.first) part.states);
      vars = map (λ known. record { var = known.id; val = known.first }) part.vars;
      raised = [];
      unclosed = map (λ known. (known.id, 0)) part.acts;
      next = [];
    }

-- state s is in
abbrev pub is_inside : View → ℕ → Bool
is_inside view s = list_any (λ i. i.0 == s) view.states

-- the outputs and the completions of entries, in order

abbrev pub outputs_of : Outer → List Output
outputs_of (Happen e) = []
outputs_of (Complete item a outputs) = outputs

abbrev pub outputs_in : List Entry → List Output
outputs_in entries = flat_map (λ x. outputs_of x.outer) entries

abbrev pub completions_in : List Entry → List Completion
completions_in entries = flat_map (λ x. completions_of x.outer) entries

-- what variable x has after outputs in order, where it had `val`
abbrev pub after_outputs : ℕ → List Output → Val → Val
after_outputs x [] val = val
after_outputs x (o ∷ os) val = after_outputs x os (if o.var.0 == x then o.val else val)

-- a variable's value, and an activity's count, once the entries of the next step came
abbrev pub value_now : View → Output → Val
value_now view o = after_outputs o.var.0 (outputs_in view.next) o.val

-- less the completions; 0 where these are more
abbrev pub count_now : View → ActId × ℕ → ℕ
count_now view a = a.1 - done_count a.0.0 (completions_in view.next)

-- the same of a variable, and of an activity, that the view may not have
abbrev pub var_now : View → ℕ → Option Val
var_now view x = option_map (value_now view) (find (λ o. o.var.0 == x) view.vars)

abbrev pub open_now : View → ℕ → Option ℕ
open_now view a = option_map (count_now view) (find (λ c. c.0.0 == a) view.unclosed)

-- some entry of the next step completes an item of activity a
abbrev pub is_done_now : View → ℕ → Bool
is_done_now view a = nat_lt 0 (done_count a (completions_in view.next))

abbrev pub is_there_now : View → ℕ → Bool
is_there_now view e = list_any (λ r. r.0 == e) view.raised || list_any (λ x. is_happening e x.outer) view.next

-- what the next step sees: of what the part doesn't know, nothing
unfoldable pub sees : PartData → View → Snapshot
sees part view =
    record {
      seen = record {
        state = λ s. if (known_to part).states s then Some (is_inside view s) else None;
        var = var_now view;
        count = open_now view;
        done = λ a. option_map (λ c. is_done_now view a) (find (λ c. c.0.0 == a) view.unclosed);
      };
      there = is_there_now view;
    }
