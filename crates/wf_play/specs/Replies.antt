-- The written text of replies to the lines of a play.
use Rattle.std.specs.Prelude.{ℕ, ◌==◌, ◌++◌, Bool, true, false, List, [], flat_map, Option, Some, None, if◌then◌else◌}
use Rattle.std.specs.List.{enumerate_from, join_by}
use Rattle.std.specs.Int.{bit_at}
use Rattle.std.specs.Fmt.{decimal}
use lib.Chars.{codes}
use Rattle.wf_model.specs.Ids.{unit_id}
use Rattle.wf_model.specs.declared.ids.ActId.{ActId}
use Rattle.wf_model.specs.declared.update.UnitSet.{UnitSet}
use Rattle.wf_model.specs.declared.chart.Chart.{Chart}
use Rattle.wf_words.specs.Names.{act_name, unit_name}
use Rattle.wf_audit.specs.Replies.{fault_text, shown_text}
use Rattle.wf_machine.specs.declared.reply.Sight.{Sight}
use Rattle.wf_machine.specs.declared.reply.TurnReply.{TurnReply}
use Rattle.wf_machine.specs.declared.reply.TurnReply.TheVariants as turns
use Rattle.wf_machine.specs.declared.reply.Reply.{Reply}
use Rattle.wf_machine.specs.declared.reply.Reply.TheVariants as reply

-- PARTS

-- what a unit shows: its states that are in, and the variables that it knows
abbrev pub sight_text : Chart → Sight → List ℕ
sight_text chart sight = shown_text chart sight.taken sight.states sight.vars

-- ` taken K`
unfoldable pub taken_text : ℕ → List ℕ
taken_text taken = codes " taken " ++ decimal taken

-- ` admitted N`
unfoldable pub admitted_text : ℕ → List ℕ
admitted_text admitted = codes " admitted " ++ decimal admitted

-- recovered taken K admitted N
abbrev pub recovered_text : (taken admitted : ℕ) → List ℕ
recovered_text taken admitted = codes "recovered" ++ taken_text taken ++ admitted_text admitted

-- ` M` for a second message
abbrev pub second_text : Option ℕ → List ℕ
second_text None = []
second_text (Some m) = codes " " ++ decimal m

-- sent M M
abbrev pub sent_text : ℕ → Option ℕ → List ℕ
sent_text first second = codes "sent " ++ decimal first ++ second_text second

-- `A#n=open` or `A#n=done` for an item
abbrev pub item_text : Chart → ActId × ℕ × Bool → List ℕ
item_text chart (act, item, false) = act_name chart act ++ codes "#" ++ decimal item ++ codes "=open"
item_text chart (act, item, true) = act_name chart act ++ codes "#" ++ decimal item ++ codes "=done"

-- items, and each of them behind a space
abbrev pub items_text : Chart → List (ActId × ℕ × Bool) → List ℕ
items_text chart items = codes "items" ++ flat_map (λ item. codes " " ++ item_text chart item) items

-- TURNS

-- whether this unit is in the set
abbrev pub has_unit : UnitSet → ℕ → Bool
has_unit set unit = bit_at set.0 unit == 1

-- the name of a unit behind a space, if the unit is in the set
abbrev pub name_in : UnitSet → ℕ × List ℕ → List ℕ
name_in set (unit, name) = if has_unit set unit then codes " " ++ name else []

-- waiting, and the units of the set
abbrev pub waiting_text : Chart → UnitSet → List ℕ
waiting_text chart set = codes "waiting" ++ flat_map (name_in set) (enumerate_from 0 chart.units)

abbrev pub turn_text : Chart → TurnReply → List ℕ
turn_text chart (turns.Took step) = codes "took " ++ decimal step
turn_text chart (turns.Waiting set) = waiting_text chart set
turn_text chart turns.DiskFault = codes "diskfault"
turn_text chart turns.Reopen = codes "reopen"
turn_text chart turns.Crashed = codes "crashed"
turn_text chart turns.Down = codes "down"

-- U and the reply to its turn
abbrev pub unit_turn_text : Chart → ℕ × TurnReply → List ℕ
unit_turn_text chart (unit, turn) = unit_name chart (unit_id unit) ++ codes " " ++ turn_text chart turn

-- round, and one for each unit in order, with commas between
abbrev pub round_text : Chart → List TurnReply → List ℕ
round_text chart replies = codes "round " ++ join_by (unit_turn_text chart) (codes ", ") (enumerate_from 0 replies)

-- REPLIES

-- the text of a reply
unfoldable pub reply_text : Chart → Reply → List ℕ
reply_text chart (reply.Refused fault) = fault_text fault
reply_text chart (reply.New n) = codes "new " ++ decimal n
reply_text chart (reply.Again n) = codes "again " ++ decimal n
reply_text chart (reply.Reused n) = codes "reused " ++ decimal n
reply_text chart reply.DiskFault = codes "diskfault"
reply_text chart reply.Reopen = codes "reopen"
reply_text chart reply.Crashed = codes "crashed"
reply_text chart reply.Down = codes "down"
reply_text chart (reply.Turned turn) = turn_text chart turn
reply_text chart (reply.Sent first second) = sent_text first second
reply_text chart reply.NoMessage = codes "no message"
reply_text chart reply.Fresh = codes "fresh"
reply_text chart reply.Same = codes "same"
reply_text chart reply.Old = codes "old"
reply_text chart reply.Armed = codes "armed"
reply_text chart (reply.Recovered taken admitted) = recovered_text taken admitted
reply_text chart (reply.Items items) = items_text chart items
reply_text chart (reply.Shown sight) = sight_text chart sight
reply_text chart (reply.Round replies) = round_text chart replies
