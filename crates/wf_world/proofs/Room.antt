-- There is room for one more line: on the disk, in the journal and for a step.
use Rattle.std.proofs.Common.{◌≡◌, ℕ, zero, suc, ◌+◌, ◌<◌, ◌≤◌, nat_le, true, List, [], ◌∷◌, ◌++◌, map, length, slice_get, Some, refl, sym, ap, ap₂, ◌∙◌, subst, arith, rules}
use Rattle.std.specs.List.{list_all, sum_by, AllByRecursion}
use Rattle.std.specs.Option.{option_map_or}
use Rattle.std.proofs.lemmas.List.Folds.{list_all-append}
use Rattle.std.proofs.lemmas.List.Sums.{sum_by-cons}
use Rattle.wf_model.specs.Limits.{max_name, max_lines, max_steps, max_journal}
use Rattle.wf_model.specs.Faults.{last_count}
use Rattle.wf_model.specs.Names.{is_name}
use Rattle.wf_model.specs.declared.chart.Chart.{Chart}
use Rattle.wf_model.specs.declared.chart.Event.{Event}
use Rattle.wf_model.specs.declared.chart.Variable.{Variable}
use Rattle.wf_model.specs.declared.chart.Activity.{Activity}
use Rattle.wf_model.specs.declared.chart.State.{State}
use Rattle.wf_model.specs.Accepted.{IsAccepted, is_accepted, is_named, names_of}
use Rattle.wf_model.proofs.Bools.{and_both}
use Rattle.wf_codec.specs.Spelling.{spelling_of}
use Rattle.wf_parts.specs.declared.data.PartData.{PartData}
use Rattle.wf_parts.specs.Parts.{part_of}
use Rattle.wf_machine.specs.Server.{taken as steps}
use Rattle.wf_machine.specs.Machine.{Message, server as server_in}
use Rattle.wf_histories.specs.Histories.{Admission, History, taken}
use Rattle.wf_worlds.specs.Worlds.{letter}
use Rattle.wf_worlds.specs.Ends.{IsShort}
use Rattle.wf_bridge.specs.Full.{IsNotFull}
use Rattle.wf_bridge.proofs.Full.{journal_never_full}
use Rattle.wf_slot.specs.Slots.{SlotState}
use Rattle.wf_world.specs.declared.mail.Sent.{Sent}
use Rattle.wf_world.specs.Mail.{bytes_in, message_of, IsLetter, AreLetters}
use Rattle.wf_world.specs.Sounds.{hist_of}
use Rattle.wf_world.specs.Fleets.{FleetState, units_of, machine_at, IsFleet, IsWorn, HasRoom, HaveRoom}
use Rattle.wf_world.proofs.Sounds.{are_lean}
use Rattle.wf_world.proofs.Counts.{counts, taken_is, brought_letter}
use Rattle.wf_world.proofs.Fleets.{in_chart, count_units, past_is}
use Rattle.wf_world.proofs.Asking.{records_are}

-- NAMES are short

short_name : (name : List ℕ) → is_name name ≡ true → length name ≤ max_name
unfolding is_name
short_name name h =
    let le : nat_le (length name) max_name ≡ true = grind arith in
    search (rules, le)

named_of : (chart : Chart) → IsAccepted chart → is_named chart ≡ true
unfolding is_accepted
named_of chart ok = grind arith

named_parts : (chart : Chart) → is_named chart ≡ true → (is_name chart.name ≡ true) × (list_all is_name (names_of chart) ≡ true)
unfolding is_named
named_parts chart h = (grind arith, grind arith)

front_all : (xs ys : List (List ℕ)) → list_all is_name (xs ++ ys) ≡ true → list_all is_name xs ≡ true
front_all xs ys h = (and_both (list_all is_name xs) (list_all is_name ys) (sym (list_all-append is_name xs ys) ∙ h)).0

units_named : (chart : Chart) → list_all is_name (names_of chart) ≡ true → list_all is_name chart.units ≡ true
units_named chart h =
    let events = map (λ (x : Event). x.name) chart.events in
    let vars = map (λ (x : Variable). x.name) chart.vars in
    let acts = map (λ (x : Activity). x.name) chart.acts in
    let states = map (λ (x : State). x.name) chart.states in
    let acts_too = front_all (chart.units ++ events ++ vars ++ acts) states h in
    let vars_too = front_all (chart.units ++ events ++ vars) acts acts_too in
    front_all chart.units events (front_all (chart.units ++ events) vars vars_too)

unit_name : (names : List (List ℕ)) (u : ℕ) → u < length names → list_all is_name names ≡ true → is_name (option_map_or (λ name. name) (slice_get names u) []) ≡ true
unit_name [] u lt h = absurd (omega (arith, lt))
unit_name (name ∷ names) zero lt h = (and_both (is_name name) (list_all is_name names) h).0
unit_name (name ∷ names) (suc u) lt h = unit_name names u (omega (arith, lt)) (and_both (is_name name) (list_all is_name names) h).1

names_short : (chart : Chart) (u : ℕ) → IsAccepted chart → u < length chart.units → (length (part_of chart u).chart ≤ max_name) × (length (part_of chart u).name ≤ max_name)
unfolding part_of
names_short chart u ok lt =
    let n = named_parts chart (named_of chart ok) in
    (short_name chart.name n.0, short_name (option_map_or (λ name. name) (slice_get chart.units u) []) (unit_name chart.units u lt (units_named chart n.1)))

module _ (f : FleetState) (is : IsFleet f) (u : ℕ) (s : SlotState) (at : slice_get f.slots u ≡ Some s) where
  abbrev h : ℕ → History
  h = hist_of (units_of f.slots)

  abbrev size : Message → ℕ
  size x = length (spelling_of (letter f.chart h x.sender x.receiver x.step))

  -- WHAT WAS SENT has few enough bytes
  size_is : (x : Sent) → IsLetter f.chart (machine_at f) x → size (message_of x) ≡ length x.bytes
  size_is x it =
      let a = it.made.sender in
      let b = (counts f.chart is.accepted (units_of f.slots) f.messages (count_units f is u s at)).units in
      let sender : x.sender.0 < length f.chart.units = omega (arith, a, b) in
      let c = it.made.step in
      let d : steps (server_in (machine_at f) x.sender.0) ≡ taken (h x.sender.0) = taken_is f.chart is.accepted (units_of f.slots) f.messages (count_units f is u s at) is.sound x.sender.0 sender in
      ap (λ (bytes : List ℕ). length bytes)
      (ap spelling_of (sym (brought_letter f.chart is.accepted (units_of f.slots) f.messages (count_units f is u s at) is.sound x.sender.0 sender x.receiver.0 x.step it.made.first (omega (arith, c, d)))) ∙ sym it.bytes)

  sent_is : (messages : List Sent) → AreLetters f.chart (machine_at f) messages → sum_by size (map message_of messages) ≡ bytes_in messages
  sent_is [] are = refl
  sent_is (x ∷ xs) are =
      sum_by-cons size (message_of x) (map message_of xs)
      ∙ ap₂ (λ (a b : ℕ). a + b) (size_is x are.0) (sent_is xs are.1)
      ∙ sym (sum_by-cons (λ (y : Sent). length y.bytes) x xs)

  module _ (n : ℕ) (few : n < max_lines) (worn : IsWorn n s) where
    pub early : s.clock + 2000 ≤ last_count
    early = let a = worn.clock in omega (arith, a, few)

    pub steps_left : taken s.past < max_steps
    steps_left = let a = worn.records in let b = records_are s in omega (arith, a, b, few)

    pub not_full : IsNotFull s.part s.past
    not_full =
        let lt = in_chart f is u s at in
        let part = (is.each u s at).part in
        let past = past_is f is u s at in
        let a = worn.records in
        let b = records_are s in
        let many : length (h u).admissions + taken (h u) ≡ length s.past.admissions + taken s.past = ap (λ (x : History). length x.admissions + taken x) past in
        let names = names_short f.chart u is.accepted lt in
        let sent : sum_by size (map message_of f.messages) ≡ bytes_in f.messages = sent_is f.messages is.letters in
        let most = is.few in
        let full : IsNotFull (part_of f.chart u) (h u) =
        journal_never_full f.chart (machine_at f) h u (part_of f.chart u) (are_lean f.chart is.accepted (units_of f.slots) (count_units f is u s at) is.sound)
        (counts f.chart is.accepted (units_of f.slots) f.messages (count_units f is u s at)) is.posted lt (omega (arith, a, b, many, few))
        (subst (λ (x : History). AllByRecursion (λ (a : Admission). IsShort a.outer) x.admissions) (sym past) (is.each u s at).short)
        names.0 names.1 (omega (arith, sent, most)) in
        subst (λ (x : History). IsNotFull s.part x) past (subst (λ (p : PartData). IsNotFull p (h u)) (sym part) full)

  -- by what a caller shows
  pub room_early : HasRoom f u → s.clock + 2000 ≤ last_count
  room_early room = early room.n room.few (room.worn s at)

  pub room_steps : HasRoom f u → taken s.past < max_steps
  room_steps room = steps_left room.n room.few (room.worn s at)

  pub room_journal : HasRoom f u → IsNotFull s.part s.past
  room_journal room = not_full room.n room.few (room.worn s at)

  -- and so the next step has a number
  pub have_steps : HaveRoom f → taken s.past < max_steps
  have_steps room = steps_left room.n room.few (room.worn u s at)
