-- Of other calls. Which updates a part takes in.
use Rattle.std.specs.Prelude.{ℕ, ◌≡◌, ◌==◌, ◌&&◌, ◌||◌, not, Bool, true, false, List, [], ◌∷◌}
use Rattle.std.specs.Option.{option_map_or}
use Rattle.std.specs.List.{list_all}
use Rattle.wf_model.specs.declared.ids.StateId.{StateId}
use Rattle.wf_model.specs.declared.outer.Outer.{Outer}
use Rattle.wf_model.specs.declared.outer.Outer.TheVariants.{Happen, Complete}
use Rattle.wf_model.specs.declared.update.Update.{Update}
use Rattle.wf_parts.specs.declared.data.Known.{Known}
use Rattle.wf_parts.specs.declared.data.PartData.{PartData}
use Rattle.wf_codec.specs.Ranges.{IsInRange}
use Rattle.wf_owns.specs.Sorted.{is_fit}

-- a known state, a known event and a known activity is at unit v

abbrev pub is_state_from : PartData → ℕ → StateId → Bool
is_state_from part v s = list_all (λ known. not (known.id.0 == s.0) || (known.unit.0 == v)) part.states

abbrev pub is_event_from : PartData → ℕ → ℕ → Bool
is_event_from part v e = list_all (λ known. not (known.id.0 == e) || option_map_or (λ unit. unit.0 == v) known.unit false) part.events

abbrev pub is_act_from : PartData → ℕ → ℕ → Bool
is_act_from part v a = list_all (λ known. not (known.id.0 == a) || (known.unit.0 == v)) part.acts

abbrev pub is_outer_from : PartData → ℕ → Outer → Bool
is_outer_from part v (Happen e) = is_event_from part v e.0
is_outer_from part v (Complete item a outputs) = is_act_from part v a.0

-- its known states, the known events of its outers and the known activities of its completions are at its sender, and it gives no known
-- variable a value of another sort
abbrev pub suits : PartData → Update → Bool
suits part update = list_all (is_state_from part update.from.0) update.flips && (list_all (is_outer_from part update.from.0) update.outer && is_fit part update)

-- AN UPDATE THAT MAY BE RECEIVED
pub record MayBeReceived (part : PartData) (update : Update) : Type 0 where
  pub ranges : IsInRange update
  pub suited : suits part update ≡ true

-- it is this peer's of this step, and suits the part
abbrev pub is_input : PartData → ℕ → Known → Update → Bool
is_input part step peer update = (update.from.0 == peer.unit.0) && ((update.step == step) && suits part update)

-- one such update of each of these peers, in order
abbrev pub are_inputs_of : PartData → ℕ → List Known → List Update → Bool
are_inputs_of part step [] [] = true
are_inputs_of part step [] (x ∷ xs) = false
are_inputs_of part step (p ∷ ps) [] = false
are_inputs_of part step (p ∷ ps) (x ∷ xs) = is_input part step p x && are_inputs_of part step ps xs

-- one of each peer, in unit order
abbrev pub are_inputs : PartData → ℕ → List Update → Bool
are_inputs part step inputs = are_inputs_of part step part.peers inputs
