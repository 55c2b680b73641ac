-- How a client's lines go in, one after the other.
use Rattle.std.proofs.Common.{◌≡◌, ℕ, zero, suc, ◌+◌, ◌<◌, List, [], ◌∷◌, ◌++◌, length, take, map, Some, slice_get, sym, ap, ◌∙◌, arith}
use Rattle.std.specs.List.{enumerate_from}
use Rattle.wf_model.specs.declared.ids.EventId.{EventId}
use Rattle.wf_exchange.specs.declared.lines.LineItem.{LineItem}
use Rattle.wf_exchange.specs.Rings.{pushed, ring_in}
use Rattle.wf_crew.specs.declared.client.ClientActor.{ClientActor}
use Rattle.wf_crew.specs.Clients.{line_item, HasSent, SendsOn}

next_line : (c n : ℕ) (events : List EventId) (i : ℕ) (event : EventId) → slice_get events i ≡ Some event
    → take (suc i) (map (line_item c) (enumerate_from n events)) ≡ take i (map (line_item c) (enumerate_from n events)) ++ line_item c (n + i, event) ∷ []
next_line c n [] i event e = absurd (cc e)
next_line c n (x ∷ events) zero event e =
    let same : x ≡ event = cc e in
    let at : n ≡ n + 0 = omega arith in ap (λ y. line_item c (n, y) ∷ []) same ∙ ap (λ k. line_item c (k, event) ∷ []) at
next_line c n (x ∷ events) (suc i) event e =
    let at : n + 1 + i ≡ n + suc i = omega arith in
    ap (λ l. line_item c (n, x) ∷ l)
    (next_line c (n + 1) events i event e ∙ ap (λ k. take i (map (line_item c) (enumerate_from (n + 1) events)) ++ line_item c (k, event) ∷ []) at)

abbrev items_from : ℕ → ClientActor → List LineItem
items_from n client = map (line_item client.number) (enumerate_from n client.events)

-- one line more
pub line_sent : (old new : ClientActor) (event : EventId) → HasSent old → slice_get old.events old.sent ≡ Some event → old.sent < length old.events
    → new.number ≡ old.number → new.events ≡ old.events → ring_in new.end ≡ ring_in old.end → new.sent ≡ old.sent + 1
    → pushed new.end ≡ pushed old.end ++ line_item old.number (old.sent + 1, event) ∷ [] → SendsOn old new
line_sent old new event has at lt number events ring sent more =
    record {
      number = number;
      events = events;
      ring = ring;
      on = omega (arith, sent);
      stands = record {
        within = (let same = ap length events in omega (arith, sent, same, lt));
        few = (let same = ap length events in let few = has.few in omega (arith, same, few));
        first =
            more
            ∙ ap (λ l. l ++ line_item old.number (old.sent + 1, event) ∷ []) has.first
            ∙ ap (λ k. take old.sent (items_from 1 old) ++ line_item old.number (k, event) ∷ []) from_one
            ∙ sym (next_line old.number 1 old.events old.sent event at)
            ∙ ap (λ n. take n (items_from 1 old)) next
            ∙ ap (λ c. take new.sent (map (line_item c) (enumerate_from 1 old.events))) (sym number)
            ∙ ap (λ l. take new.sent (map (line_item new.number) (enumerate_from 1 l))) (sym events);
      };
    }
  where
    from_one : old.sent + 1 ≡ 1 + old.sent
    from_one = omega arith

    next : suc old.sent ≡ new.sent
    next = omega (arith, sent)

pub on_then : (a b c : ClientActor) → SendsOn a b → SendsOn b c → SendsOn a c
on_then a b c p q = record { number = q.number ∙ p.number; events = q.events ∙ p.events; ring = q.ring ∙ p.ring; on = (let first = p.on in let second = q.on in omega arith); stands = q.stands }
