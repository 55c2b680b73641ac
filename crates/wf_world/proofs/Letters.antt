-- The bytes of messages stay as they were sent, and the machine counts as many as there are.
use Rattle.std.proofs.Common.{◌≡◌, ℕ, ◌+◌, ◌<◌, ◌≤◌, true, false, List, [], ◌∷◌, ◌++◌, map, length, refl, sym, ap, ap₂, ◌∙◌, subst, arith, rules}
use Rattle.std.specs.List.{sum_by, AllByRecursion}
use Rattle.std.proofs.lemmas.List.{length-append}
use Rattle.std.proofs.lemmas.List.Sums.{sum_by-cons, sum_by-append, sum_by_push}
use Rattle.wf_model.specs.Limits.{max_sent}
use Rattle.wf_model.specs.declared.chart.Chart.{Chart}
use Rattle.wf_model.specs.declared.update.Update.{Update}
use Rattle.wf_codec.specs.Ranges.{IsUpdate}
use Rattle.wf_codec.specs.Spelling.{spelling_of}
use Rattle.wf_parts.specs.Peers.{peers_of}
use Rattle.wf_views.specs.Relevant.{relevant}
use Rattle.wf_machine.specs.Server.{taken}
use Rattle.wf_machine.specs.Machine.{CountingMachine, Message, server}
use Rattle.wf_machine.specs.Account.{IsAccount, MachineGrows}
use Rattle.wf_machine.proofs.Stays.{update_on}
use Rattle.wf_world.specs.declared.mail.Sent.{Sent}
use Rattle.wf_world.specs.Sent.{brought, bytes_of, sent_bytes, is_over}
use Rattle.wf_world.specs.Mail.{bytes_in, message_of, IsMade, IsLetter, AreLetters}

-- THE BYTES STAY while the machine grows

module _ (m after : CountingMachine) (grows : MachineGrows m after) (account : IsAccount m) (chart : Chart) where
  brought_on : (x : Message) → IsMade m x → brought chart after x ≡ brought chart m x
  brought_on x made = ap (λ (update : Update). relevant (peers_of chart x.sender) update x.receiver) (update_on m after grows account chart x.sender x.step made.sender made.step)

  bytes_on : (x : Message) → IsMade m x → bytes_of chart after x ≡ bytes_of chart m x
  bytes_on x made = ap spelling_of (brought_on x made)

  made_on : (x : Message) → IsMade m x → IsMade after x
  made_on x made =
      let units = grows.units in
      let more : taken (server after x.sender) ≡ taken (server m x.sender) + length (grows.each x.sender).later =
      ap (λ (xs : List ℕ). length xs) (grows.each x.sender).sealed ∙ length-append (server m x.sender).sealed (grows.each x.sender).later in
      record { sender = omega (arith, made.sender, units); receiver = omega (arith, made.receiver, units); other = made.other; first = made.first; step = omega (arith, made.step, more) }

  letter_on : (x : Sent) → IsLetter chart m x → IsLetter chart after x
  letter_on x is = record {
    made = made_on (message_of x) is.made;
    bytes = is.bytes ∙ sym (bytes_on (message_of x) is.made);
    whole = subst IsUpdate (sym (brought_on (message_of x) is.made)) is.whole;
  }

  pub letters_on : (messages : List Sent) → AreLetters chart m messages → AreLetters chart after messages
  letters_on [] are = tt
  letters_on (x ∷ xs) are = (letter_on x are.0, letters_on xs are.1)

  -- so no message that was sent gets longer or shorter
  lengths_on : (messages : List Message) → AllByRecursion (IsMade m) messages → sum_by (λ (x : Message). length (bytes_of chart after x)) messages ≡ sum_by (λ (x : Message). length (bytes_of chart m x)) messages
  lengths_on [] made = refl
  lengths_on (x ∷ xs) made =
      sum_by-cons (λ (y : Message). length (bytes_of chart after y)) x xs
      ∙ ap₂ (λ (a b : ℕ). a + b) (ap (λ (bytes : List ℕ). length bytes) (bytes_on x made.0)) (lengths_on xs made.1)
      ∙ sym (sum_by-cons (λ (y : Message). length (bytes_of chart m y)) x xs)

  -- and what is sent later only adds to them
  pub sent_grows : (more : List Message) → after.messages ≡ m.messages ++ more → AllByRecursion (IsMade m) m.messages → sent_bytes chart m ≤ sent_bytes chart after
  unfolding sent_bytes
  sent_grows more are made =
      let all : sum_by (λ (x : Message). length (bytes_of chart after x)) after.messages ≡ sum_by (λ (x : Message). length (bytes_of chart after x)) m.messages + sum_by (λ (x : Message). length (bytes_of chart after x)) more =
      ap (λ (xs : List Message). sum_by (λ (x : Message). length (bytes_of chart after x)) xs) are ∙ sum_by-append (λ (x : Message). length (bytes_of chart after x)) m.messages more in
      let same = lengths_on m.messages made in
      omega (arith, all, same)

-- THE MACHINE COUNTS THEM

counted : (chart : Chart) (m : CountingMachine) (messages : List Sent) → AreLetters chart m messages → sum_by (λ (x : Message). length (bytes_of chart m x)) (map message_of messages) ≡ bytes_in messages
counted chart m [] are = refl
counted chart m (x ∷ xs) are =
    sum_by-cons (λ (y : Message). length (bytes_of chart m y)) (message_of x) (map message_of xs)
    ∙ ap₂ (λ (a b : ℕ). a + b) (ap (λ (bytes : List ℕ). length bytes) (sym are.0.bytes)) (counted chart m xs are.1)
    ∙ sym (sum_by-cons (λ (y : Sent). length y.bytes) x xs)

pub sent_is : (chart : Chart) (m : CountingMachine) (messages : List Sent) → m.messages ≡ map message_of messages → AreLetters chart m messages → sent_bytes chart m ≡ bytes_in messages
unfolding sent_bytes
sent_is chart m messages are letters = ap (λ (xs : List Message). sum_by (λ (x : Message). length (bytes_of chart m x)) xs) are ∙ counted chart m messages letters

pub all_made : (chart : Chart) (m : CountingMachine) (messages : List Sent) → AreLetters chart m messages → AllByRecursion (IsMade m) (map message_of messages)
all_made chart m [] are = tt
all_made chart m (x ∷ xs) are = (are.0.made, all_made chart m xs are.1)

-- THE LIMIT

-- it is passed where the messages would be too many with the next one, whatever comes after it
pub passes_it : (chart : Chart) (after : CountingMachine) (messages : List Sent) (x : Sent) (more : List Message) → after.messages ≡ map message_of (messages ++ x ∷ []) ++ more → AreLetters chart after (messages ++ x ∷ []) →
    max_sent < bytes_in messages + length x.bytes → is_over chart after ≡ true
unfolding sent_bytes
passes_it chart after messages x more are letters over =
    let all : sum_by (λ (y : Message). length (bytes_of chart after y)) after.messages ≡ sum_by (λ (y : Message). length (bytes_of chart after y)) (map message_of (messages ++ x ∷ [])) + sum_by (λ (y : Message). length (bytes_of chart after y)) more =
    ap (λ (ys : List Message). sum_by (λ (y : Message). length (bytes_of chart after y)) ys) are ∙ sum_by-append (λ (y : Message). length (bytes_of chart after y)) (map message_of (messages ++ x ∷ [])) more in
    let same = counted chart after (messages ++ x ∷ []) letters in
    let push : bytes_in (messages ++ x ∷ []) ≡ bytes_in messages + length x.bytes = sum_by_push (λ (y : Sent). length y.bytes) messages x in
    let enough : max_sent < sum_by (λ (y : Message). length (bytes_of chart after y)) after.messages = omega (arith, over, all, same, push) in
    search (rules, enough)

-- and it isn't where they are few enough
pub keeps_it : (chart : Chart) (m : CountingMachine) (messages : List Sent) → m.messages ≡ map message_of messages → AreLetters chart m messages → bytes_in messages ≤ max_sent → is_over chart m ≡ false
keeps_it chart m messages are letters few =
    let is = sent_is chart m messages are letters in
    let within : sent_bytes chart m ≤ max_sent = omega (arith, is, few) in
    search (rules, within)
