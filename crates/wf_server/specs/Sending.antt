-- Of other calls. What a peer is sent, and what a server shows of its unit.
use Rattle.std.specs.Prelude.{ℕ, ◌==◌, ◌&&◌, Bool, List, find, Option, Some, None, option_map, if◌then◌else◌}
use Rattle.std.specs.List.{list_any}
use Rattle.wf_model.specs.declared.value.Val.{Val}
use Rattle.wf_model.specs.declared.update.Update.{Update}
use Rattle.wf_codec.specs.Spelling.{spelling_of}
use Rattle.wf_parts.specs.declared.data.PartData.{PartData}
use Rattle.wf_views.specs.Views.{View, is_inside}
use Rattle.wf_views.specs.Relevant.{relevant}
use Rattle.wf_histories.specs.Histories.{History, taken, local, local_update}

-- the unit's update of a step, cut for peer v; and its bytes

abbrev pub sent_to : PartData → History → ℕ → ℕ → Update
sent_to part past v step = relevant part.peers (local_update part past step) v

abbrev pub letter_of : PartData → History → ℕ → ℕ → List ℕ
letter_of part past v step = spelling_of (sent_to part past v step)

-- the view after all steps taken
abbrev pub view_of : PartData → History → View
view_of part past = local part past (taken past)

-- state s is the unit's own
abbrev pub is_own_state : PartData → ℕ → Bool
is_own_state part s = list_any (λ known. (known.id.0 == s) && (known.unit.0 == part.unit.0)) part.states

-- whether state s is in, of an own one; and the value of a variable, of a known one

abbrev pub shown_state : PartData → History → ℕ → Option Bool
shown_state part past s = if is_own_state part s then Some (is_inside (view_of part past) s) else None

abbrev pub shown_var : PartData → History → ℕ → Option Val
shown_var part past x = option_map (λ o. o.val) (find (λ o. o.var.0 == x) (view_of part past).vars)
