-- A journal that has no room for one more record of a server is nearly as long as it may be.
use Rattle.std.proofs.Common.{◌≡◌, ℕ, ◌+◌, ◌<◌, ◌≤◌, Bool, true, false, ◌||◌, ◌==◌, nat_lt, cond, length, Some, None, ◌∷◌, refl, arith, rules}
use Rattle.std.proofs.lemmas.List.{length-append}
use Rattle.wf_model.specs.Limits.{max_body, max_journal}
use Rattle.wf_model.specs.declared.outer.Outer.{Outer}
use Rattle.wf_codec.specs.Spelling.{eight, outer_spelling}
use Rattle.wf_codec.specs.Tags.{admit_tag}
use Rattle.wf_codec.specs.Records.{record_spelling}
use Rattle.wf_journal.specs.declared.fault.AppendFault.TheVariants.{Reopen, TooLong, Full}
use Rattle.wf_journal.specs.Faults.{refusal_of}
use Rattle.wf_worlds.specs.Ends.{IsShort, longest_turn}
use Rattle.wf_server.specs.Servers.{admit_record}
use Rattle.wf_actors.specs.Stops.{full_place}

no_room : (failed : Bool) (place n : ℕ) → refusal_of failed place n ≡ Some Full → max_journal < place + n + 6
unfolding refusal_of
no_room failed place n = go failed ((n == 0) || nat_lt max_body n) (nat_lt max_journal (place + n + 6)) refl
  where
    go : (f m l : Bool) → nat_lt max_journal (place + n + 6) ≡ l → cond f (Some Reopen) (cond m (Some TooLong) (cond l (Some Full) None)) ≡ Some Full → max_journal < place + n + 6
    go true m l li is = absurd (cc is)
    go false true l li is = absurd (cc is)
    go false false true li is = search (rules, li)
    go false false false li is = absurd (cc is)

-- a record of at most so many bytes
pub full_behind : (failed : Bool) (place n : ℕ) → n ≤ longest_turn → refusal_of failed place n ≡ Some Full → full_place < place
full_behind failed place n short full = let over = no_room failed place n full in omega (arith, over, short)

pub admit_length : (request : ℕ) (outer : Outer) → IsShort outer → length (record_spelling (admit_record request outer)) ≤ longest_turn
unfolding record_spelling
admit_length request outer short = let l = length-append (admit_tag ∷ eight request) (outer_spelling outer) in omega (arith, l, short)
