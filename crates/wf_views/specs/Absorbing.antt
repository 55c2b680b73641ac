-- Of other calls. The view after a step, from one update of each unit in unit order.
use Rattle.std.specs.Prelude.{ℕ, ◌+◌, ◌==◌, Bool, List, map, filter, flat_map, length}
use Rattle.std.specs.Option.{option_map_or}
use Rattle.std.specs.List.{list_any}
use Rattle.wf_model.specs.declared.value.Val.{Val}
use Rattle.wf_parts.specs.declared.data.PartData.{PartData}
use Rattle.wf_model.specs.declared.outer.Entry.{Entry}
use Rattle.wf_model.specs.declared.update.Write.{Write}
use Rattle.wf_model.specs.declared.update.StartAt.{StartAt}
use Rattle.wf_model.specs.declared.update.Update.{Update}
use Rattle.wf_actions.specs.Writes.{winner}
use Rattle.wf_views.specs.Knowledge.{known_to, cut_entries}
use Rattle.wf_views.specs.Views.{View, is_inside, value_now, count_now}
use Rattle.wf_views.specs.OwnSteps.{differs}

-- one of the updates flips state s, and raises event e
abbrev pub is_flipped : List Update → ℕ → Bool
is_flipped updates s = list_any (λ update. list_any (λ i. i.0 == s) update.flips) updates

abbrev pub is_raised : List Update → ℕ → Bool
is_raised updates e = list_any (λ update. list_any (λ r. r.0 == e) update.raised) updates

-- all their writes, starts and entries, in unit order

abbrev pub writes_in : List Update → List Write
writes_in updates = flat_map (λ update. update.writes) updates

abbrev pub starts_in : List Update → List StartAt
starts_in updates = flat_map (λ update. update.starts) updates

abbrev pub entries_of : Update → List Entry
entries_of update = map (λ outer. record { unit = update.from; outer = outer }) update.outer

abbrev pub entries_in : List Update → List Entry
entries_in updates = flat_map entries_of updates

-- of the writes of variable x the one that stays, else the value before
abbrev pub value_after : List Write → ℕ → Val → Val
value_after writes x val = option_map_or (λ write. write.val) (winner x writes) val

-- how many of these start activity a
abbrev pub start_count : ℕ → List StartAt → ℕ
start_count a starts = length (filter (λ s. s.act.0 == a) starts)

unfoldable pub absorbed : PartData → View → List Update → View
absorbed part view updates =
    record {
      states = map (λ known. known.id) (filter (λ known. differs (is_inside view known.id.0) (is_flipped updates known.id.0)) part.states);
      vars = map (λ o. record { var = o.var; val = value_after (writes_in updates) o.var.0 (value_now view o) }) view.vars;
      raised = map (λ known. known.id) (filter (λ known. is_raised updates known.id.0) part.events);
      unclosed = map (λ a. (a.0, count_now view a + start_count a.0.0 (starts_in updates))) view.unclosed;
      next = cut_entries (known_to part) (entries_in updates);
    }
