-- What is sent is a letter, and what is delivered may come.
use Rattle.std.proofs.Common.{◌≡◌, ◌≢◌, ℕ, zero, suc, ◌+◌, ◌<◌, ◌≤◌, ◌==◌, ◌&&◌, ◌||◌, cond, Bool, true, false, true≢false, List, [], ◌∷◌, ◌++◌, map, drop, find, length, slice_get, slice_set, Option, Some, None, is_some, refl, sym, ap, ap₂, ◌∙◌, subst, arith, eqb-true}
use Rattle.std.specs.List.{AllByRecursion}
use Rattle.std.proofs.lemmas.List.{map-append, append_assoc}
use Rattle.std.proofs.lemmas.List.Folds.{list_any-append}
use Rattle.wf_model.specs.Limits.{max_sent}
use Rattle.wf_model.specs.declared.ids.UnitId.{UnitId}
use Rattle.wf_model.specs.declared.update.Update.{Update}
use Rattle.wf_model.proofs.Bools.{or_left}
use Rattle.wf_codec.specs.Ranges.{IsUpdate}
use Rattle.wf_codec.specs.Spelling.{spelling_of}
use Rattle.wf_parts.specs.declared.data.PartData.{PartData}
use Rattle.wf_parts.specs.Parts.{part_of}
use Rattle.wf_views.specs.Relevant.{relevant}
use Rattle.wf_machine.specs.declared.line.Line.TheVariants as line
use Rattle.wf_machine.specs.declared.reply.Reply.{Reply}
use Rattle.wf_machine.specs.declared.reply.Reply.TheVariants as reply
use Rattle.wf_machine.specs.Server.{IsDown, taken as steps}
use Rattle.wf_machine.specs.Machine.{CountingMachine, Message, server as server_in, message_at}
use Rattle.wf_machine.specs.Lines.{Acted, letters, second_of, send, act}
use Rattle.wf_machine.specs.Account.{IsAccount, MachineGrows}
use Rattle.wf_machine.specs.Postings.{brings, was_sent, IsPosted, records}
use Rattle.wf_machine.proofs.Stays.{and_on}
use Rattle.wf_histories.specs.Histories.{History, taken, local_update}
use Rattle.wf_worlds.specs.Worlds.{letter, IsMade as IsMadeIn}
use Rattle.wf_steps.specs.Fitting.{suits}
use Rattle.wf_slot.specs.Units.{UnitState}
use Rattle.wf_slot.specs.Slots.{SlotState, held, unit_of, server}
use Rattle.wf_slot.specs.Answers.{MayCome, Comes, ReceiveAnswers}
use Rattle.wf_world.specs.declared.mail.Sent.{Sent}
use Rattle.wf_world.specs.Sent.{brought, bytes_of, is_over}
use Rattle.wf_world.specs.Mail.{bytes_in, sent_at, is_of, message_of, IsMade, IsLetter, AreLetters}
use Rattle.wf_world.specs.Machines.{machine_of}
use Rattle.wf_world.specs.Sounds.{hist_of}
use Rattle.wf_world.specs.Fleets.{FleetState, units_of, machine_at, slot_at, IsFleet, ahead, IsWorn, AreWorn, WearsNone, Leads, IsPost, Posts, Overflows, Follows, IsPast}
use Rattle.wf_world.proofs.Letters.{letters_on, all_made, passes_it}
use Rattle.wf_world.proofs.Counts.{counts, taken_is, letter_is, brought_letter}
use Rattle.wf_world.proofs.Inputs.{letter_from, letter_step, not_too_far, no_clash}
use Rattle.wf_world.proofs.Suits.{made_suits}
use Rattle.wf_world.proofs.Lines.{acted, send_up, send_down, deliver_down, deliver_old, deliver_same, deliver_fresh, deliver_none}
use Rattle.wf_world.proofs.Fleets.{in_chart, count_units, at_units, unit_is, past_is, wears_none}
use Rattle.wf_world.proofs.Asking.{old_held, keeps, same_leads}
use Rattle.wf_world.proofs.Following.{stays, send_follows}

-- LISTS

none_some : {A : Type 0} (x : A) → None ≡ Some x → ⊥
none_some x e = cc

some_same : {A : Type 0} (x y : A) → Some x ≡ Some y → x ≡ y
some_same x y e = cc

all_at : {A : Type 0} (P : A → Type 0) (xs : List A) (n : ℕ) (x : A) → AllByRecursion P xs → slice_get xs n ≡ Some x → P x
all_at P [] n x all at = absurd (none_some x at)
all_at P (y ∷ ys) zero x all at = subst P (some_same y x at) all.0
all_at P (y ∷ ys) (suc n) x all at = all_at P ys n x all.1 at

all_push : {A : Type 0} (P : A → Type 0) (xs : List A) (x : A) → AllByRecursion P xs → P x → AllByRecursion P (xs ++ x ∷ [])
all_push P [] x all it = (it, tt)
all_push P (y ∷ ys) x all it = (all.0, all_push P ys x all.1 it)

-- what a search finds passes its test, and what holds of all holds of it
found_all : {A : Type 0} (P : A → Type 0) (test : A → Bool) (xs : List A) (x : A) → AllByRecursion P xs → find test xs ≡ Some x → P x × (test x ≡ true)
found_all P test [] x all is = absurd (none_some x is)
found_all {A} P test (y ∷ ys) x all is = go (test y) refl (found_all P test ys x all.1)
  where
    go : (b : Bool) → test y ≡ b → (find test ys ≡ Some x → P x × (test x ≡ true)) → P x × (test x ≡ true)
    go true e on =
        let same : y ≡ x = some_same y x (ap (λ (b : Bool). cond b (Some y) (find test ys)) (sym e) ∙ is) in
        (subst P same all.0, ap test (sym same) ∙ e)
    go false e on = on (ap (λ (b : Bool). cond b (Some y) (find test ys)) (sym e) ∙ is)

all_drop : {A : Type 0} (P : A → Type 0) (n : ℕ) (xs : List A) → AllByRecursion P xs → AllByRecursion P (drop n xs)
all_drop P zero xs all = all
all_drop P (suc n) [] all = tt
all_drop P (suc n) (x ∷ xs) all = all_drop P n xs all.1

both_true : (a b : Bool) → (a && b) ≡ true → (a ≡ true) × (b ≡ true)
both_true true b e = (refl, e)
both_true false b e = absurd (true≢false (sym e))

-- ONE LETTER MORE
module _ (f : FleetState) (is : IsFleet f) (x : Sent) (it : IsLetter f.chart (machine_at f) x) where
  abbrev after : FleetState
  after = record f { messages = f.messages ++ x ∷ [] }

  grows : MachineGrows (machine_at f) (machine_at after)
  grows = let same = (stays f.chart (machine_at f)).grows in record { units = same.units; each = same.each }

  pub letters_after : AreLetters f.chart (machine_at f) (f.messages ++ x ∷ [])
  letters_after = all_push (IsLetter f.chart (machine_at f)) f.messages x is.letters it

  letters_then : AreLetters f.chart (machine_at after) (f.messages ++ x ∷ [])
  letters_then = letters_on (machine_at f) (machine_at after) grows is.account f.chart (f.messages ++ x ∷ []) letters_after

  messages_are : map message_of (f.messages ++ x ∷ []) ≡ map message_of f.messages ++ message_of x ∷ []
  messages_are = map-append message_of f.messages (x ∷ [])

  account_then : IsAccount (machine_at after)
  account_then = record {
    sealed = is.account.sealed;
    near = is.account.near;
    sent = sent;
    came = is.account.came;
    certain = is.account.certain;
    ready = is.account.ready;
    enough = is.account.enough;
  }
    where
      sent : (n : ℕ) (y : Message) → message_at (machine_at after) n ≡ Some y → y.step ≤ steps (server_in (machine_at after) y.sender) + 1
      sent zero y e = absurd (none_some y e)
      sent (suc n) y e = (all_at (IsMade (machine_at after)) (map message_of (f.messages ++ x ∷ [])) n y (all_made f.chart (machine_at after) (f.messages ++ x ∷ []) letters_then) e).step

  more_sent : (v u j : ℕ) → was_sent (map message_of f.messages) v u j ≡ true → was_sent (map message_of (f.messages ++ x ∷ [])) v u j ≡ true
  more_sent v u j e =
      ap (λ (xs : List Message). was_sent xs v u j) messages_are
      ∙ list_any-append (brings v u j) (map message_of f.messages) (message_of x ∷ [])
      ∙ or_left (was_sent (map message_of f.messages) v u j) (was_sent (message_of x ∷ []) v u j) e

  posted_then : IsPosted (machine_at after)
  posted_then u =
      let old = is.posted u in
      record {
        came = λ v j e. more_sent v u j (old.came v j e);
        steps = λ v j lu lv other some near. more_sent v u j (old.steps v j lu lv other some near);
        doubt = λ v k lu lv other e. more_sent v u (steps (server_in (machine_at f) u) + 1) (old.doubt v k lu lv other e);
      }

  pub one_letter_more : bytes_in (f.messages ++ x ∷ []) ≤ max_sent → IsFleet after
  one_letter_more few = record {
    accepted = is.accepted;
    count = is.count;
    each = is.each;
    sound = is.sound;
    letters = letters_then;
    account = account_then;
    posted = posted_then;
    few = few;
  }

  -- with it the messages are too many, and so are all that come of it
  pub too_many : max_sent < bytes_in f.messages + length x.bytes → (then : CountingMachine) → MachineGrows (machine_at f) then → (more : List Message) → then.messages ≡ map message_of (f.messages ++ x ∷ []) ++ more → is_over f.chart then ≡ true
  too_many over then grow more are = passes_it f.chart then f.messages x more are (letters_on (machine_at f) then grow is.account f.chart (f.messages ++ x ∷ []) letters_after) over

-- POSTS

pub posts_fleet : (f : FleetState) (is : IsFleet f) (from to : UnitId) (step : ℕ) (g : FleetState) → Posts f from to step g → IsFleet g
posts_fleet f is from to step g posts = subst IsFleet (sym posts.after) (one_letter_more f is posts.x posts.post.letter posts.few)

pub posts_worn : (f : FleetState) (from to : UnitId) (step : ℕ) (g : FleetState) → Posts f from to step g → WearsNone f g
posts_worn f from to step g posts n are = subst (λ (y : FleetState). AreWorn n y.slots) (sym posts.after) are

pub posts_slot : (f : FleetState) (from to : UnitId) (step : ℕ) (g : FleetState) (u : ℕ) → Posts f from to step g → slot_at g u ≡ slot_at f u
posts_slot f from to step g u posts = ap (λ (y : FleetState). slot_at y u) posts.after

module _ (f : FleetState) (is : IsFleet f) (from to : UnitId) (s : SlotState) (at : slice_get f.slots from.0 ≡ Some s) where
  abbrev h : ℕ → History
  h = hist_of (units_of f.slots)

  lt : from.0 < length f.chart.units
  lt = in_chart f is from.0 s at

  -- what a slot spells for a peer is a letter
  pub is_post : (step : ℕ) (bytes : List ℕ) → to.0 < length f.chart.units → from.0 ≢ to.0 → 1 ≤ step → step ≤ taken s.past + 1 → bytes ≡ spelling_of (relevant s.part.peers (local_update s.part s.past step) to.0) →
      IsUpdate (relevant s.part.peers (local_update s.part s.past step) to.0) → IsPost f from to step (record { sender = from; receiver = to; step = step; bytes = bytes })
  is_post step bytes lt_to other some near spelled whole =
      let part = (is.each from.0 s at).part in
      let past : h from.0 ≡ s.past = past_is f is from.0 s at in
      let same : relevant s.part.peers (local_update s.part s.past step) to.0 ≡ relevant (part_of f.chart from.0).peers (local_update (part_of f.chart from.0) (h from.0) step) to.0 =
      ap₂ (λ (p : PartData) (g : History). relevant p.peers (local_update p g step) to.0) part (sym past) in
      let steps_same : taken (h from.0) ≡ taken s.past = ap (λ (g : History). taken g) past in
      record {
        message = refl;
        letter = letter_is f.chart is.accepted (units_of f.slots) f.messages (count_units f is from.0 s at) is.sound from.0 lt (record { sender = from; receiver = to; step = step; bytes = bytes }) refl lt_to other some
            (omega (arith, near, steps_same)) (spelled ∙ ap spelling_of same) (subst IsUpdate same whole);
      }

  -- A SEND

  pub sends_down : s.health ≡ IsDown → Leads f (line.Send from to) reply.Down f
  sends_down down = record { chart = refl; machine = (true, send_down f.chart (units_of f.slots) f.messages from (unit_of s) (at_units f is from.0 s at) true to down); fleet = is }

  abbrev replied : Reply
  replied = reply.Sent (length f.messages + 1) (second_of (length f.messages) (taken s.past))

  sends_up : (xs : List Sent) → s.health ≢ IsDown → map message_of xs ≡ letters from.0 to.0 (taken s.past) → IsFleet (record f { messages = f.messages ++ xs }) → Leads f (line.Send from to) replied (record f { messages = f.messages ++ xs })
  sends_up xs up are fleet = record { chart = refl; machine = (true, send_up f.chart (units_of f.slots) f.messages from (unit_of s) (at_units f is from.0 s at) true to xs up are); fleet = fleet }

  -- before the first step there is one letter
  pub one_leads : (g : FleetState) → Posts f from to 1 g → taken s.past ≡ 0 → s.health ≢ IsDown → Leads f (line.Send from to) (reply.Sent (length f.messages + 1) None) g
  one_leads g posts none up =
      let leads : Leads f (line.Send from to) replied (record f { messages = f.messages ++ posts.x ∷ [] }) =
      sends_up (posts.x ∷ []) up (ap (λ (m : Message). m ∷ []) posts.post.message ∙ ap (letters from.0 to.0) (sym none)) (one_letter_more f is posts.x posts.post.letter posts.few) in
      subst (λ (x : FleetState). Leads f (line.Send from to) (reply.Sent (length f.messages + 1) None) x) (sym posts.after)
      (subst (λ (k : ℕ). Leads f (line.Send from to) (reply.Sent (length f.messages + 1) (second_of (length f.messages) k)) (record f { messages = f.messages ++ posts.x ∷ [] })) none leads)

  -- later there are two
  module _ (i : ℕ) (g : FleetState) (first : Posts f from to (suc i) g) (some : taken s.past ≡ suc i) (up : s.health ≢ IsDown) where
    two_leads_by : (g2 : FleetState) → Posts g from to (suc i + 1) g2 → Leads f (line.Send from to) (reply.Sent (length f.messages + 1) (Some (length f.messages + 2))) g2
    two_leads_by g2 second =
        let next : suc i + 1 ≡ suc (suc i) = omega arith in
        let both : map message_of (first.x ∷ second.x ∷ []) ≡ letters from.0 to.0 (suc i) =
        ap₂ (λ (a b : Message). a ∷ b ∷ []) first.post.message (second.post.message ∙ ap (λ (j : ℕ). message from.0 to.0 j) next) in
        let are : g2 ≡ record f { messages = f.messages ++ first.x ∷ second.x ∷ [] } =
        second.after
        ∙ ap (λ (x : FleetState). record x { messages = x.messages ++ second.x ∷ [] }) first.after
        ∙ ap (λ (xs : List Sent). record f { messages = xs }) (append_assoc f.messages (first.x ∷ []) (second.x ∷ [])) in
        let fleet : IsFleet (record f { messages = f.messages ++ first.x ∷ second.x ∷ [] }) = subst IsFleet are (posts_fleet g (posts_fleet f is from to (suc i) g first) from to (suc i + 1) g2 second) in
        subst (λ (x : FleetState). Leads f (line.Send from to) (reply.Sent (length f.messages + 1) (Some (length f.messages + 2))) x) (sym are)
        (subst (λ (k : ℕ). Leads f (line.Send from to) (reply.Sent (length f.messages + 1) (second_of (length f.messages) k)) (record f { messages = f.messages ++ first.x ∷ second.x ∷ [] })) some
        (sends_up (first.x ∷ second.x ∷ []) up (both ∙ ap (letters from.0 to.0) (sym some)) fleet))
      where
        message : ℕ → ℕ → ℕ → Message
        message u v j = record { sender = u; receiver = v; step = j }

  pub two_leads : (k : ℕ) (g g2 : FleetState) → Posts f from to k g → Posts g from to (k + 1) g2 → taken s.past ≡ k → k ≢ 0 → s.health ≢ IsDown → Leads f (line.Send from to) (reply.Sent (length f.messages + 1) (Some ((length f.messages + 1) + 1))) g2
  two_leads zero g g2 first second some other up = absurd (other refl)
  two_leads (suc i) g g2 first second some other up =
      let two : length f.messages + 2 ≡ (length f.messages + 1) + 1 = omega arith in
      subst (λ (n : ℕ). Leads f (line.Send from to) (reply.Sent (length f.messages + 1) (Some n)) g2) two (two_leads_by i g first some up g2 second)

  -- TOO MANY BYTES

  -- what the messages are after a send
  blank : ℕ → Sent
  blank j = record { sender = from; receiver = to; step = j; bytes = [] }

  blanks : ℕ → List Sent
  blanks zero = blank 1 ∷ []
  blanks (suc k) = blank (suc k) ∷ blank (suc (suc k)) ∷ []

  blanks_are : (k : ℕ) → map message_of (blanks k) ≡ letters from.0 to.0 k
  unfolding blank blanks
  blanks_are zero = refl
  blanks_are (suc k) = refl

  send_messages : s.health ≢ IsDown → (send (machine_at f) from.0 to.0).after.messages ≡ map message_of f.messages ++ letters from.0 to.0 (taken s.past)
  unfolding act
  send_messages up =
      ap (λ (d : Acted). d.after.messages) (send_up f.chart (units_of f.slots) f.messages from (unit_of s) (at_units f is from.0 s at) true to (blanks (taken s.past)) up (blanks_are (taken s.past)))
      ∙ map-append message_of f.messages (blanks (taken s.past))
      ∙ ap (λ (ms : List Message). map message_of f.messages ++ ms) (blanks_are (taken s.past))

  module _ (up : s.health ≢ IsDown) (after : CountingMachine) (follows : Follows (send (machine_at f) from.0 to.0).after after) where
    grown : MachineGrows (machine_at f) after
    grown = and_on (machine_at f) (send (machine_at f) from.0 to.0).after after (send_follows f.chart (machine_at f) from.0 to.0).grows follows.grows

    -- the first letter, and what comes behind it
    first_then : (k : ℕ) (x : Sent) → taken s.past ≡ k → message_of x ≡ record { sender = from.0; receiver = to.0; step = 1 } → k ≡ 0 → (more : List Message) × (after.messages ≡ map message_of (f.messages ++ x ∷ []) ++ more)
    first_then k x some message none = (
      follows.more,
      follows.messages
          ∙ ap (λ (ms : List Message). ms ++ follows.more)
          (send_messages up ∙ ap (λ (j : ℕ). map message_of f.messages ++ letters from.0 to.0 j) (some ∙ none) ∙ ap (λ (m : Message). map message_of f.messages ++ m ∷ []) (sym message) ∙ sym (map-append message_of f.messages (x ∷ []))),
    )

    later_then : (i : ℕ) (x : Sent) → taken s.past ≡ suc i → message_of x ≡ record { sender = from.0; receiver = to.0; step = suc i } → (more : List Message) × (after.messages ≡ map message_of (f.messages ++ x ∷ []) ++ more)
    later_then i x some message =
        let next : Message = record { sender = from.0; receiver = to.0; step = suc (suc i) } in (
          next ∷ follows.more,
          follows.messages
              ∙ ap (λ (ms : List Message). ms ++ follows.more)
              (send_messages up ∙ ap (λ (j : ℕ). map message_of f.messages ++ letters from.0 to.0 j) some ∙ ap (λ (m : Message). map message_of f.messages ++ m ∷ next ∷ []) (sym message)
              ∙ sym (append_assoc (map message_of f.messages) (message_of x ∷ []) (next ∷ [])))
              ∙ append_assoc (map message_of f.messages ++ message_of x ∷ []) (next ∷ []) follows.more
              ∙ ap (λ (ms : List Message). ms ++ next ∷ follows.more) (sym (map-append message_of f.messages (x ∷ []))),
        )

    both_then : (i : ℕ) (x y : Sent) → taken s.past ≡ suc i → message_of x ≡ record { sender = from.0; receiver = to.0; step = suc i } → message_of y ≡ record { sender = from.0; receiver = to.0; step = suc (suc i) } →
        after.messages ≡ map message_of ((f.messages ++ x ∷ []) ++ y ∷ []) ++ follows.more
    both_then i x y some first second =
        follows.messages
        ∙ ap (λ (ms : List Message). ms ++ follows.more)
        (send_messages up ∙ ap (λ (j : ℕ). map message_of f.messages ++ letters from.0 to.0 j) some ∙ ap₂ (λ (a b : Message). map message_of f.messages ++ a ∷ b ∷ []) (sym first) (sym second)
        ∙ sym (map-append message_of f.messages (x ∷ y ∷ [])) ∙ ap (map message_of) (sym (append_assoc f.messages (x ∷ []) (y ∷ []))))

  -- the first letter overflows
  pub one_past : Overflows f from to 1 → taken s.past ≡ 0 → s.health ≢ IsDown → IsPast f.chart (send (machine_at f) from.0 to.0).after
  one_past over none up after follows =
      let it = first_then up after follows 0 over.x none over.post.message refl in
      too_many f is over.x over.post.letter over.over after (grown up after follows) it.0 it.1

  pub first_past : (k : ℕ) → Overflows f from to k → taken s.past ≡ k → k ≢ 0 → s.health ≢ IsDown → IsPast f.chart (send (machine_at f) from.0 to.0).after
  first_past zero over some other up then follows = absurd (other refl)
  first_past (suc i) over some other up then follows =
      let it = later_then up then follows i over.x some over.post.message in
      too_many f is over.x over.post.letter over.over then (grown up then follows) it.0 it.1

  -- or the second
  second_past_by : (i : ℕ) (x : Sent) (post : IsPost f from to (suc i) x) (few : bytes_in (f.messages ++ x ∷ []) ≤ max_sent) → Overflows (record f { messages = f.messages ++ x ∷ [] }) from to (suc i + 1) → taken s.past ≡ suc i → s.health ≢ IsDown →
      IsPast f.chart (send (machine_at f) from.0 to.0).after
  second_past_by i x post few over some up after follows =
      let grow = grown up after follows in
      let next : suc i + 1 ≡ suc (suc i) = omega arith in
      too_many (record f { messages = f.messages ++ x ∷ [] }) (one_letter_more f is x post.letter few) over.x over.post.letter over.over after (record { units = grow.units; each = grow.each }) follows.more
      (both_then up after follows i x over.x some post.message (over.post.message ∙ ap (λ (j : ℕ). message from.0 to.0 j) next))
    where
      message : ℕ → ℕ → ℕ → Message
      message u v j = record { sender = u; receiver = v; step = j }

  pub second_past : (k : ℕ) (g : FleetState) → Posts f from to k g → Overflows g from to (k + 1) → taken s.past ≡ k → k ≢ 0 → s.health ≢ IsDown → IsPast f.chart (send (machine_at f) from.0 to.0).after
  second_past zero g first over some other up = absurd (other refl)
  second_past (suc i) g first over some other up = second_past_by i first.x first.post first.few (subst (λ (x : FleetState). Overflows x from to (suc i + 1)) first.after over) some up

-- WHAT WAS SENT BEFORE

-- a message that was sent is the letter of its step again
pub sent_again : (f : FleetState) (from to : UnitId) (step : ℕ) (y : Sent) (bytes : List ℕ) → IsLetter f.chart (machine_at f) y → is_of from.0 to.0 step y ≡ true → bytes ≡ y.bytes →
    IsPost f from to step (record { sender = from; receiver = to; step = step; bytes = bytes })
sent_again f from to step y bytes it of same =
    let outer = both_true ((y.step == step) && (y.sender.0 == from.0)) (y.receiver.0 == to.0) of in
    let inner = both_true (y.step == step) (y.sender.0 == from.0) outer.0 in
    let is : message_of y ≡ record { sender = from.0; receiver = to.0; step = step } =
    ap (λ (j : ℕ). message y.sender.0 y.receiver.0 j) (eqb-true y.step step inner.0)
    ∙ ap₂ (λ (u v : ℕ). message u v step) (eqb-true y.sender.0 from.0 inner.1) (eqb-true y.receiver.0 to.0 outer.1) in
    record {
      message = refl;
      letter = record {
        made = subst (IsMade (machine_at f)) is it.made;
        bytes = same ∙ it.bytes ∙ ap (bytes_of f.chart (machine_at f)) is;
        whole = subst (λ (m : Message). IsUpdate (brought f.chart (machine_at f) m)) is it.whole;
      };
    }
  where
    message : ℕ → ℕ → ℕ → Message
    message u v j = record { sender = u; receiver = v; step = j }

pub recent_again : (f : FleetState) (is : IsFleet f) (from to : UnitId) (step n : ℕ) (y : Sent) (bytes : List ℕ) → find (is_of from.0 to.0 step) (drop n f.messages) ≡ Some y → bytes ≡ y.bytes →
    IsPost f from to step (record { sender = from; receiver = to; step = step; bytes = bytes })
recent_again f is from to step n y bytes found same =
    let it = found_all (IsLetter f.chart (machine_at f)) (is_of from.0 to.0 step) (drop n f.messages) y (all_drop (IsLetter f.chart (machine_at f)) n f.messages is.letters) found in
    sent_again f from to step y bytes it.0 it.1 same

-- a letter has a byte
some_byte : (update : Update) → 1 ≤ length (spelling_of update)
unfolding spelling_of
some_byte update = omega arith

pub some_in_post : (f : FleetState) (from to : UnitId) (step : ℕ) (x : Sent) → IsPost f from to step x → 1 ≤ length x.bytes
some_in_post f from to step x post = subst (λ (bs : List ℕ). 1 ≤ length bs) (sym post.letter.bytes) (some_byte (brought f.chart (machine_at f) (message_of x)))

-- A DELIVERY

-- what has a number is a letter
pub letter_at : (f : FleetState) (is : IsFleet f) (n : ℕ) (x : Sent) → sent_at f.messages n ≡ Some x → IsLetter f.chart (machine_at f) x
letter_at f is zero x at = absurd (none_some x at)
letter_at f is (suc n) x at = all_at (IsLetter f.chart (machine_at f)) f.messages n x is.letters at

pub none_leads : (f : FleetState) (is : IsFleet f) (n : ℕ) → sent_at f.messages n ≡ None → Leads f (line.Deliver n) reply.NoMessage f
none_leads f is n none = record { chart = refl; machine = (true, deliver_none f.chart (units_of f.slots) f.messages true n none); fleet = is }

-- a letter x, and the slot that it comes to
module _ (f : FleetState) (is : IsFleet f) (x : Sent) (it : IsLetter f.chart (machine_at f) x) (s : SlotState) (at : slice_get f.slots x.receiver.0 ≡ Some s) where
  abbrev hist : ℕ → History
  hist = hist_of (units_of f.slots)

  abbrev update : Update
  update = brought f.chart (machine_at f) (message_of x)

  lt_u : x.receiver.0 < length f.chart.units
  lt_u = in_chart f is x.receiver.0 s at

  units_count : length (units_of f.slots) ≡ length f.chart.units
  units_count = count_units f is x.receiver.0 s at

  counts_here : length (machine_at f).servers ≡ length f.chart.units
  counts_here = (counts f.chart is.accepted (units_of f.slots) f.messages units_count).units

  lt_v : x.sender.0 < length f.chart.units
  lt_v = let a = it.made.sender in let b = counts_here in omega (arith, a, b)

  near_v : x.step ≤ taken (hist x.sender.0) + 1
  near_v =
      let a = it.made.step in
      let b : steps (server_in (machine_at f) x.sender.0) ≡ taken (hist x.sender.0) = taken_is f.chart is.accepted (units_of f.slots) f.messages units_count is.sound x.sender.0 lt_v in
      omega (arith, a, b)

  update_is : update ≡ letter f.chart hist x.sender.0 x.receiver.0 x.step
  update_is = brought_letter f.chart is.accepted (units_of f.slots) f.messages units_count is.sound x.sender.0 lt_v x.receiver.0 x.step it.made.first near_v

  made : IsMadeIn f.chart hist x.sender.0 x.receiver.0 x.step update
  made = (near_v, update_is)

  from_by : (k : ℕ) → 1 ≤ k → k ≡ x.step → (letter f.chart hist x.sender.0 x.receiver.0 k).from.0 ≡ x.sender.0
  from_by zero some e = absurd (omega (arith, some))
  from_by (suc j) some e = letter_from f.chart hist x.sender.0 x.receiver.0 j

  update_from : update.from.0 ≡ x.sender.0
  update_from = ap (λ (y : Update). y.from.0) update_is ∙ from_by x.step it.made.first refl

  step_by : (k : ℕ) → 1 ≤ k → k ≡ x.step → (letter f.chart hist x.sender.0 x.receiver.0 k).step ≡ k
  step_by zero some e = absurd (omega (arith, some))
  step_by (suc j) some e = letter_step f.chart hist x.sender.0 x.receiver.0 j

  update_step : update.step ≡ x.step
  update_step = ap (λ (y : Update). y.step) update_is ∙ step_by x.step it.made.first refl

  part_is : s.part ≡ part_of f.chart x.receiver.0
  part_is = (is.each x.receiver.0 s at).part

  past_is_here : hist x.receiver.0 ≡ s.past
  past_is_here = past_is f is x.receiver.0 s at

  -- it may come
  part_units : s.part.units ≡ length f.chart.units
  unfolding part_of
  part_units = ap (λ (p : PartData). p.units) part_is

  part_unit : s.part.unit.0 ≡ x.receiver.0
  unfolding part_of
  part_unit = ap (λ (p : PartData). p.unit.0) part_is

  pub may_come : MayCome s update
  may_come =
      let from = update_from in
      let units = part_units in
      let v = lt_v in
      let far = not_too_far f.chart (units_of f.slots) x.receiver.0 x.sender.0 x.step update is.sound lt_u lt_v made in
      let step = update_step in
      let taken_same : taken (hist x.receiver.0) ≡ taken s.past = ap (λ (g : History). taken g) past_is_here in
      record {
        peer = record { within = omega (arith, from, units, v); other = λ e. it.made.other (sym from ∙ e ∙ part_unit) };
        near = omega (arith, far, step, taken_same);
        same = λ other e. no_clash f.chart (units_of f.slots) x.receiver.0 x.sender.0 x.step update other is.sound lt_u lt_v made
            (ap (λ (y : UnitState). y.held x.sender.0 x.step) (unit_is f is x.receiver.0 s at) ∙ ap₂ (λ (a b : ℕ). held s a b) (sym update_from) (sym update_step) ∙ e);
        fit = record {
          ranges = it.whole.0;
          suited = ap (λ (p : PartData). suits p update) part_is ∙ made_suits f.chart is.accepted (units_of f.slots) units_count is.sound x.receiver.0 x.sender.0 x.step update lt_v it.made.first made;
        };
      }

  -- its bytes needn't be read where the unit is down, or has taken its step
  pub down_leads : (n : ℕ) → sent_at f.messages n ≡ Some x → s.health ≡ IsDown → Leads f (line.Deliver n) reply.Down f
  down_leads n number down = record { chart = refl; machine = (true, deliver_down f.chart (units_of f.slots) f.messages x.receiver (unit_of s) (at_units f is x.receiver.0 s at) true n x number refl down); fleet = is }

  pub old_leads : (n : ℕ) → sent_at f.messages n ≡ Some x → s.health ≢ IsDown → x.step ≤ taken s.past → Leads f (line.Deliver n) reply.Old f
  old_leads n number up old = record { chart = refl; machine = (true, deliver_old f.chart (units_of f.slots) f.messages x.receiver (unit_of s) (at_units f is x.receiver.0 s at) true n x number refl up old); fleet = is }

  -- and comes
  module _ (n : ℕ) (number : sent_at f.messages n ≡ Some x) (t : SlotState) where
    abbrev then : FleetState
    then = record f { slots = slice_set f.slots x.receiver.0 t }

    -- a delivery that changes nothing
    stays_by : (r : Reply) → act f.chart (machine_at f) true (line.Deliver n) ≡ acted r (machine_at f) → t ≡ s → Leads f (line.Deliver n) r then
    stays_by r goes same = same_leads f is x.receiver s at t (line.Deliver n) true r (goes ∙ ap (λ (units : List UnitState). acted r (machine_of units f.messages)) (sym unchanged)) same
      where
        unchanged : slice_set (units_of f.slots) x.receiver.0 (unit_of t) ≡ units_of f.slots
        unchanged = ap (λ (y : SlotState). slice_set (units_of f.slots) x.receiver.0 (unit_of y)) same ∙ set_same (units_of f.slots) x.receiver.0 (unit_of s) (at_units f is x.receiver.0 s at)
          where
            set_same : (xs : List UnitState) (i : ℕ) (y : UnitState) → slice_get xs i ≡ Some y → slice_set xs i y ≡ xs
            set_same [] i y e = refl
            set_same (z ∷ zs) zero y e = ap (λ (w : UnitState). w ∷ zs) (sym (some_same z y e))
            set_same (z ∷ zs) (suc i) y e = ap (λ (ws : List UnitState). z ∷ ws) (set_same zs i y e)

    step_past : update.step ≤ taken s.past → x.step ≤ taken s.past
    step_past old = let e = update_step in omega (arith, old, e)

    step_later : taken s.past < update.step → taken s.past < x.step
    step_later later = let e = update_step in omega (arith, later, e)

    held_here : (o : Option Update) → held s update.from.0 update.step ≡ o → held s x.sender.0 x.step ≡ o
    held_here o e = ap₂ (λ (a b : ℕ). held s a b) (sym update_from) (sym update_step) ∙ e

    module _ (comes : Comes s update t) where
      -- it is held now, as it was made
      now_held : (v j : ℕ) (o : Update) → v < length f.chart.units → held t v j ≡ Some o → IsMadeIn f.chart hist v x.receiver.0 j o
      now_held v j o lv e = go (v == update.from.0) refl (j == update.step) refl (sym (comes.held v j) ∙ e)
        where
          this : v ≡ update.from.0 → j ≡ update.step → update ≡ o → IsMadeIn f.chart hist v x.receiver.0 j o
          this ev ej same =
              subst (λ (y : Update). IsMadeIn f.chart hist v x.receiver.0 j y) same
              (subst (λ (i : ℕ). IsMadeIn f.chart hist v x.receiver.0 i update) (sym (ej ∙ update_step))
              (subst (λ (w : ℕ). IsMadeIn f.chart hist w x.receiver.0 x.step update) (sym (ev ∙ update_from)) made))

          go : (b : Bool) → (v == update.from.0) ≡ b → (c : Bool) → (j == update.step) ≡ c → cond ((v == update.from.0) && (j == update.step)) (Some update) (held s v j) ≡ Some o → IsMadeIn f.chart hist v x.receiver.0 j o
          go true eb true ec is_here =
              this (eqb-true v update.from.0 eb) (eqb-true j update.step ec)
              (some_same update o (ap₂ (λ (p q : Bool). cond (p && q) (Some update) (held s v j)) (sym eb) (sym ec) ∙ is_here))
          go true eb false ec is_here = old_held f is x.receiver s at v j o lv (ap₂ (λ (p q : Bool). cond (p && q) (Some update) (held s v j)) (sym eb) (sym ec) ∙ is_here)
          go false eb c ec is_here = old_held f is x.receiver s at v j o lv (ap (λ (p : Bool). cond (p && (j == update.step)) (Some update) (held s v j)) (sym eb) ∙ is_here)

      some_or : (b : Bool) (o : Option Update) → is_some (cond b (Some update) o) ≡ (b || is_some o)
      some_or true o = refl
      some_or false o = refl

      now_came : (w k : ℕ) → is_some (held t w k) ≡ (((w == x.sender.0) && (k == x.step)) || is_some (held s w k))
      now_came w k =
          ap (λ (o : Option Update). is_some o) (comes.held w k)
          ∙ some_or ((w == update.from.0) && (k == update.step)) (held s w k)
          ∙ ap₂ (λ (a b : ℕ). ((w == a) && (k == b)) || is_some (held s w k)) update_from update_step

      unit_then : record (unit_of s) { held = held t } ≡ unit_of t
      unit_then = sym (ap (λ (y : SlotState). record (unit_of y) { held = held t }) comes.rest)

      fresh_goes : s.health ≢ IsDown → taken s.past < x.step → held s x.sender.0 x.step ≡ None → act f.chart (machine_at f) true (line.Deliver n) ≡ acted reply.Fresh (machine_of (slice_set (units_of f.slots) x.receiver.0 (unit_of t)) f.messages)
      fresh_goes up later none =
          deliver_fresh f.chart (units_of f.slots) f.messages x.receiver (unit_of s) (at_units f is x.receiver.0 s at) true n x number refl up later none (held t) now_came
          ∙ ap (λ (y : UnitState). acted reply.Fresh (machine_of (slice_set (units_of f.slots) x.receiver.0 y) f.messages)) unit_then

      fresh_leads : s.health ≢ IsDown → taken s.past < x.step → held s x.sender.0 x.step ≡ None → Leads f (line.Deliver n) reply.Fresh then
      fresh_leads up later none =
          keeps f is x.receiver s at t (line.Deliver n) true reply.Fresh (fresh_goes up later none) (ap (λ (y : SlotState). y.part) comes.rest) (ap (λ (y : SlotState). y.past) comes.rest) now_held
          (λ q e. (is.each x.receiver.0 s at).doubt q (sym (ap (λ (y : SlotState). y.doubt) comes.rest) ∙ e))

      fresh_worn : (k : ℕ) → IsWorn k s → IsWorn k t
      fresh_worn k worn =
          let a : t.clock + ahead t.health ≡ s.clock + ahead s.health = ap (λ (y : SlotState). y.clock + ahead y.health) comes.rest in
          let b : records (server t) ≡ records (server s) = fresh_records in
          let c = worn.clock in
          let d = worn.records in
          record { clock = omega (arith, a, c); records = omega (arith, b, d) }
        where
          fresh_records : records (server t) ≡ records (server s)
          fresh_records = ap (λ (y : SlotState). records (server y)) comes.rest

    pub delivered : (r : Reply) → ReceiveAnswers s update r t → Leads f (line.Deliver n) r then
    delivered reply.Down answer = stays_by reply.Down (deliver_down f.chart (units_of f.slots) f.messages x.receiver (unit_of s) (at_units f is x.receiver.0 s at) true n x number refl answer.0) answer.1
    delivered reply.Old answer = stays_by reply.Old (deliver_old f.chart (units_of f.slots) f.messages x.receiver (unit_of s) (at_units f is x.receiver.0 s at) true n x number refl answer.0 (step_past answer.1)) answer.2
    delivered reply.Same answer =
        stays_by reply.Same (deliver_same f.chart (units_of f.slots) f.messages x.receiver (unit_of s) (at_units f is x.receiver.0 s at) true n x number refl answer.0.up (step_later answer.0.later) update (held_here (Some update) answer.0.is_held)) answer.1
    delivered reply.Fresh answer = fresh_leads answer.1 answer.0.up (step_later answer.0.later) (held_here None answer.0.is_held)
    delivered r answer = absurd answer

    pub delivered_wears : (r : Reply) → ReceiveAnswers s update r t → WearsNone f then
    delivered_wears reply.Down answer = wears_none f is x.receiver.0 s at t (λ k worn. subst (IsWorn k) (sym answer.1) worn)
    delivered_wears reply.Old answer = wears_none f is x.receiver.0 s at t (λ k worn. subst (IsWorn k) (sym answer.2) worn)
    delivered_wears reply.Same answer = wears_none f is x.receiver.0 s at t (λ k worn. subst (IsWorn k) (sym answer.1) worn)
    delivered_wears reply.Fresh answer = wears_none f is x.receiver.0 s at t (fresh_worn answer.1)
    delivered_wears r answer = absurd answer
