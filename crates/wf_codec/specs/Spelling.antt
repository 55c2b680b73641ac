-- The one spelling of an update. Numbers are big-endian.
use Rattle.std.specs.Prelude.{ℕ, List, [], ◌∷◌, ◌++◌, length, Bool, true, false}
use Rattle.std.specs.List.{flat_map}
use Rattle.std.specs.Int.{w16, w32, w64, to_be_bytes, cast_unsigned}
use Rattle.wf_model.specs.declared.ids.StateId.{StateId}
use Rattle.wf_model.specs.declared.ids.EventId.{EventId}
use Rattle.wf_model.specs.declared.ids.TransId.{TransId}
use Rattle.wf_model.specs.declared.value.Val.{Val}
use Rattle.wf_model.specs.declared.value.Val.TheVariants as v
use Rattle.wf_model.specs.declared.outer.Output.{Output}
use Rattle.wf_model.specs.declared.outer.Outer.{Outer}
use Rattle.wf_model.specs.declared.outer.Outer.TheVariants.{Happen, Complete}
use Rattle.wf_model.specs.declared.update.Write.{Write}
use Rattle.wf_model.specs.declared.update.StartAt.{StartAt}
use Rattle.wf_model.specs.declared.update.Update.{Update}
use Rattle.wf_codec.specs.Tags.{bool_sort, int_sort, text_sort, happen_kind, complete_kind, update_tag}

-- a number of two bytes
abbrev pub two : ℕ → List ℕ
two n = to_be_bytes w16 n

-- a number of four bytes
abbrev pub four : ℕ → List ℕ
four n = to_be_bytes w32 n

-- a number of eight bytes
abbrev pub eight : ℕ → List ℕ
eight n = to_be_bytes w64 n

-- a truth as a byte
abbrev pub truth : Bool → ℕ
truth false = 0
truth true = 1

-- its sort, and then the truth, eight bytes in two's complement, or a length and the characters
unfoldable pub value_spelling : Val → List ℕ
value_spelling (v.Bool b) = bool_sort ∷ truth b ∷ []
value_spelling (v.Int z) = int_sort ∷ eight (cast_unsigned w64 z)
value_spelling (v.Text cs) = text_sort ∷ length cs ∷ cs

-- its number
abbrev pub state_spelling : StateId → List ℕ
state_spelling s = two s.0

-- its number
abbrev pub event_spelling : EventId → List ℕ
event_spelling e = two e.0

-- its number
abbrev pub trans_spelling : TransId → List ℕ
trans_spelling t = two t.0

-- the variable, the transition that wrote it, and the value
abbrev pub write_spelling : Write → List ℕ
write_spelling w = two w.var.0 ++ (two w.trans.0 ++ value_spelling w.val)

-- the activity, the transition, and the place of the action
abbrev pub start_spelling : StartAt → List ℕ
start_spelling s = two s.act.0 ++ (two s.trans.0 ++ s.place ∷ [])

-- the variable and the value
abbrev pub output_spelling : Output → List ℕ
output_spelling o = two o.var.0 ++ value_spelling o.val

-- its kind, and an event; or its kind, an item, its activity and the outputs behind their number
unfoldable pub outer_spelling : Outer → List ℕ
outer_spelling (Happen e) = happen_kind ∷ two e.0
outer_spelling (Complete item act outputs) = complete_kind ∷ four item ++ (two act.0 ++ length outputs ∷ flat_map output_spelling outputs)

-- how many there are, and then each
abbrev pub listed : {A : Type 0} → (A → List ℕ) → List A → List ℕ
listed spelling xs = two (length xs) ++ flat_map spelling xs

-- the tag, who tells it of which step, and what changes
unfoldable pub spelling_of : Update → List ℕ
spelling_of u =
    update_tag ∷ u.from.0 ∷ four u.step ++ (listed state_spelling u.flips ++ (listed write_spelling u.writes ++ (listed event_spelling u.raised
    ++ (listed start_spelling u.starts ++ (listed trans_spelling u.fired ++ listed outer_spelling u.outer)))))
