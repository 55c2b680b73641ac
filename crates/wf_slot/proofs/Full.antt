-- A journal that has room for every record isn't full.
use Rattle.std.proofs.Common.{◌≡◌, ℕ, ◌+◌, ◌<◌, ◌≤◌, ◌==◌, ◌||◌, nat_lt, if◌then◌else◌, Bool, true, false, ◌∷◌, length, Some, None, refl, ◌∙◌, arith, rules}
use Rattle.std.proofs.lemmas.List.{length-append}
use Rattle.wf_model.specs.Limits.{max_body, max_journal}
use Rattle.wf_model.specs.declared.outer.Outer.{Outer}
use Rattle.wf_codec.specs.declared.record.JournalRecord.TheVariants.{Admit}
use Rattle.wf_codec.specs.Records.{record_spelling}
use Rattle.wf_codec.specs.Spelling.{eight, outer_spelling}
use Rattle.wf_codec.specs.Tags.{admit_tag}
use Rattle.wf_disk.specs.Memory.{Held, told_of, image_of}
use Rattle.wf_journal.specs.declared.fault.AppendFault.{AppendFault}
use Rattle.wf_journal.specs.declared.fault.AppendFault.TheVariants.{Reopen, TooLong, Full}
use Rattle.wf_journal.specs.Faults.{refusal_of}
use Rattle.wf_parts.specs.declared.data.PartData.{PartData}
use Rattle.wf_histories.specs.Histories.{History}
use Rattle.wf_bridge.specs.Full.{IsNotFull}
use Rattle.wf_worlds.specs.Ends.{IsShort, longest_turn, end_of_history}
use Rattle.wf_server.specs.Servers.{Server, turn_record}
use Rattle.wf_server.specs.Images.{IsPlaced}
use Rattle.wf_server.specs.Answers.{says, says_to_turn}

not_so : (a b : AppendFault) → (a ≡ b → ⊥) → Some a ≡ Some b → ⊥
not_so a b differs e = let same : a ≡ b = cc in differs same

never : (a : AppendFault) → None ≡ Some a → ⊥
never a e = cc

reopen_full : Reopen ≡ Full → ⊥
reopen_full e = cc

long_full : TooLong ≡ Full → ⊥
long_full e = cc

full_by : (failed long full : Bool) → (if failed then Some Reopen else if long then Some TooLong else if full then Some Full else None) ≡ Some Full → full ≡ true
full_by true long full e = absurd (not_so Reopen Full reopen_full e)
full_by false true full e = absurd (not_so TooLong Full long_full e)
full_by false false true e = refl
full_by false false false e = absurd (never Full e)

full_is : (failed : Bool) (place n : ℕ) → refusal_of failed place n ≡ Some Full → max_journal < place + n + 6
unfolding refusal_of
full_is failed place n e = let is = full_by failed ((n == 0) || nat_lt max_body n) (nat_lt max_journal (place + n + 6)) e in search (rules, is)

admit_long : (request : ℕ) (outer : Outer) → IsShort outer → length (record_spelling (Admit request outer)) + 6 ≤ longest_turn + 6
unfolding record_spelling
admit_long request outer short = let s : length (outer_spelling outer) ≤ 552 = short in omega (arith, length-append (admit_tag ∷ eight request) (outer_spelling outer), s)

module _ (node : Server Held) (placed : IsPlaced told_of node.journal node.part node.past) (room : IsNotFull node.part node.past) where
  place_is : node.journal.place ≡ end_of_history node.part node.past
  place_is = placed (image_of node.journal.disk) refl

  left : end_of_history node.part node.past + 612430 ≤ max_journal
  left = let r : end_of_history node.part node.past + longest_turn + 6 ≤ max_journal = room in omega (arith, r)

  pub admit_fits : (request : ℕ) (outer : Outer) → IsShort outer → says node (Admit request outer) ≡ Some Full → ⊥
  admit_fits request outer short full =
      let over = full_is node.journal.failed node.journal.place (length (record_spelling (Admit request outer))) full in
      let most = admit_long request outer short in
      let at = place_is in
      absurd (omega (arith, over, most, at, left))

  pub turn_fits : length (record_spelling (turn_record node.past node.came)) ≤ longest_turn → says_to_turn node ≡ Some Full → ⊥
  turn_fits short full =
      let over = full_is node.journal.failed node.journal.place (length (record_spelling (turn_record node.past node.came))) full in
      let at = place_is in
      absurd (omega (arith, over, short, at, left))
