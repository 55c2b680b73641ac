-- What is handed over, unit by unit and pair by pair.
use Rattle.std.proofs.Common.{◌≡◌, ◌≢◌, ℕ, zero, suc, ◌<◌, Bool, List, [], ◌∷◌, ◌++◌, length, map, get_or, Option, Some, slice_get, refl, sym, ap, ◌∙◌, subst, arith, length-set}
use Rattle.std.specs.Prelude.{slice_set}
use Rattle.std.specs.Vec.{with_item}
use Rattle.std.specs.Option.{option_map_or}
use Rattle.std.proofs.lemmas.List.{append-nil}
use Rattle.std.proofs.lemmas.Option.{slice_get_within}
use native.Mathlib.Decide.{ℕ_discrete}
use Rattle.wf_exchange.specs.declared.port.Port.{Port}
use Rattle.wf_exchange.specs.Rings.{pushed}
use Rattle.wf_exchange.specs.Ports.{Ways, ways, unit_of, AreJoined, AllJoined, pushed_to, popped_from, SameEnds, SameMouths}
use Rattle.wf_exchange.proofs.Places.{got_set, got_other, got_read, some_same}
use Rattle.wf_server.specs.Servers.{Server}
use Rattle.wf_server.specs.Inbox.{IsPeer}
use Rattle.wf_actors.specs.declared.outbox.Outbox.{Outbox}
use Rattle.wf_actors.specs.declared.unit.UnitActor.{UnitActor}
use Rattle.wf_actors.specs.Taking.{Nearby, TakesMore}
use Rattle.wf_actors.specs.Peers.{TakesRows}
use Rattle.wf_actors.specs.Sendings.{sent_on, waiting_for}
use Rattle.wf_actors.specs.Pairs.{Traffic, IsUnit, AreUnits, MayTakeOver, TakesOver, ways_of}
use Rattle.wf_actors.proofs.Moving.{popped_same, popped_all}
use Rattle.wf_actors.proofs.Peering.{rows_stay, rows_then, rows_more}

-- TRAFFIC

pub traffic_is : (a b : Traffic) → a.came ≡ b.came → a.pushed ≡ b.pushed → a.waits ≡ b.waits → a ≡ b
traffic_is a b came pushed waits = λ i. record { came = came i; pushed = pushed i; waits = waits i }

pub waiting_here : (boxes : List Outbox) (u : ℕ) (box : Outbox) → u < length boxes → waiting_for (slice_set boxes u box) u ≡ box.waiting.items
waiting_here boxes u box lt = ap (λ (o : Option Outbox). option_map_or (λ (b : Outbox). b.waiting.items) o []) (got_set boxes u box lt)

pub waiting_there : (boxes : List Outbox) (u v : ℕ) (box : Outbox) → v ≢ u → waiting_for (slice_set boxes u box) v ≡ waiting_for boxes v
waiting_there boxes u v box n = ap (λ (o : Option Outbox). option_map_or (λ (b : Outbox). b.waiting.items) o []) (got_other boxes u v box n)

module _ {D : Type 0} where
  -- THE READER

  pub reader_takes : (old : UnitActor D) (node : Server D) (port : Port) (refused : Bool) (v : ℕ) → IsPeer old.node.part v → ways port ≡ ways old.port → ((w : ℕ) → SameEnds old.port port w) → ((w : ℕ) → w ≢ v → SameMouths old.port port w)
      → TakesMore Nearby v old.node node (popped_from old.port v) (popped_from port v) old.refused refused → TakesOver old (record old { node = node; port = port; refused = refused })
  reader_takes old node port refused v peer rings ends others more =
      record {
        rest = more.rest;
        rings = rings;
        boxes = refl;
        sent = (λ w. ap (λ o. option_map_or pushed o [] ++ waiting_for old.outboxes.items w) (ends w));
        rows = rows_more Nearby v old.node node (popped_from old.port) (popped_from port) old.refused refused (λ behind more steps far. omega (arith, far)) peer
            (λ w n. popped_same old.port port w (others w n)) more;
        desks = refl;
        stop = refl;
      }

  -- THE SENDER

  module _ (old : UnitActor D) (port : Port) (u : ℕ) (box was : Outbox) (within : u < length old.outboxes.items) (read : was ≡ get_or old.outboxes.items u was)
      (pushes : pushed_to port u ≡ pushed_to old.port u ++ was.waiting.items) (none : box.waiting.items ≡ []) (others : (v : ℕ) → v ≢ u → pushed_to port v ≡ pushed_to old.port v) where
    waited : waiting_for old.outboxes.items u ≡ was.waiting.items
    waited = ap (λ (o : Option Outbox). option_map_or (λ (b : Outbox). b.waiting.items) o []) (got_read old.outboxes.items u was within read)

    sent_at : (v : ℕ) → Dec (v ≡ u) → sent_on port (slice_set old.outboxes.items u box) v ≡ sent_on old.port old.outboxes.items v
    sent_at v (yes e) =
        subst (λ w. sent_on port (slice_set old.outboxes.items u box) w ≡ sent_on old.port old.outboxes.items w) (sym e)
        (ap (λ l. l ++ waiting_for (slice_set old.outboxes.items u box) u) pushes
        ∙ ap (λ l. (pushed_to old.port u ++ was.waiting.items) ++ l) (waiting_here old.outboxes.items u box within ∙ none)
        ∙ append-nil (pushed_to old.port u ++ was.waiting.items)
        ∙ ap (λ l. pushed_to old.port u ++ l) (sym waited))
    sent_at v (no n) =
        ap (λ l. l ++ waiting_for (slice_set old.outboxes.items u box) v) (others v n)
        ∙ ap (λ l. pushed_to old.port v ++ l) (waiting_there old.outboxes.items u v box n)

    pub sender_takes : ways port ≡ ways old.port → ((v : ℕ) → SameMouths old.port port v) → TakesOver old (record old { port = port; outboxes = with_item old.outboxes u box })
    sender_takes rings mouths =
        record {
          rest = refl;
          rings = rings;
          boxes = length-set old.outboxes.items u box;
          sent = (λ v. sent_at v (ℕ_discrete v u));
          rows = subst (λ came. TakesRows Nearby old.node old.node (popped_from old.port) came old.refused old.refused) (sym (popped_all old.port port mouths)) (rows_stay Nearby old.node (popped_from old.port) old.refused);
          desks = refl;
          stop = refl;
        }

  -- ONE AFTER THE OTHER

  pub takes_stay : (a : UnitActor D) → TakesOver a a
  takes_stay a = record { rest = refl; rings = refl; boxes = refl; sent = (λ v. refl); rows = rows_stay Nearby a.node (popped_from a.port) a.refused; desks = refl; stop = refl }

  pub takes_then : (a b c : UnitActor D) → TakesOver a b → TakesOver b c → TakesOver a c
  takes_then a b c p q =
      record {
        rest = q.rest ∙ ap (λ (s : Server D). record s { came = c.node.came; early = c.node.early }) p.rest;
        rings = q.rings ∙ p.rings;
        boxes = q.boxes ∙ p.boxes;
        sent = (λ v. q.sent v ∙ p.sent v);
        rows = rows_then Nearby a.node b.node c.node (popped_from a.port) (popped_from b.port) (popped_from c.port) a.refused b.refused c.refused p.rows q.rows;
        desks = q.desks ∙ p.desks;
        stop = q.stop ∙ p.stop;
      }

  part_stays : (a b : UnitActor D) → TakesOver a b → b.node.part ≡ a.node.part
  part_stays a b t = ap (λ (s : Server D). s.part) t.rest

  unit_stays : (a b : UnitActor D) → TakesOver a b → unit_of b.port ≡ unit_of a.port
  unit_stays a b t = ap (λ (w : Ways). w.unit) t.rings

  pub is_unit_stays : (units u : ℕ) (a b : UnitActor D) → TakesOver a b → IsUnit units u a → IsUnit units u b
  is_unit_stays units u a b t is =
      record {
        part = ap (λ p. p.unit.0) (part_stays a b t) ∙ is.part;
        among = ap (λ p. p.units) (part_stays a b t) ∙ is.among;
        port = unit_stays a b t ∙ is.port;
        boxes = t.boxes ∙ is.boxes;
      }

  pub may_stay : (a b c d : UnitActor D) → TakesOver a c → TakesOver b d → MayTakeOver a b → MayTakeOver c d
  may_stay a b c d t s may =
      record {
        joined = subst (λ w. AreJoined (ways c.port) w) (sym s.rings) (subst (λ w. AreJoined w (ways b.port)) (sym t.rings) may.joined);
        back = subst (λ w. AreJoined w (ways c.port)) (sym s.rings) (subst (λ w. AreJoined (ways b.port) w) (sym t.rings) may.back);
        peer = subst (λ p. IsPeer p (unit_of d.port)) (sym (part_stays a c t)) (subst (λ v. IsPeer a.node.part v) (sym (unit_stays b d s)) may.peer);
        box = let lt = may.box in let e = unit_stays a c t in let l = s.boxes in omega (arith, lt, e, l);
      }

  -- any two of the units may
  pub two_may : (units : List (UnitActor D)) → AllJoined (map ways_of units) → AreUnits units → (u v : ℕ) (a b : UnitActor D) → u ≢ v → slice_get units u ≡ Some a → slice_get units v ≡ Some b → MayTakeOver a b
  two_may units joined are u v a b n at_u at_v =
      let one = are u a at_u in
      let other = are v b at_v in
      record {
        joined = joined u v (ways a.port) (ways b.port) (way_at units u a at_u) (way_at units v b at_v);
        back = joined v u (ways b.port) (ways a.port) (way_at units v b at_v) (way_at units u a at_u);
        peer = record {
          within = let lt = slice_get_within units v b at_v in let e = other.port in let l = one.among in omega (arith, lt, e, l);
          other = (λ e. n (sym one.part ∙ sym e ∙ other.port));
        };
        box = let lt = slice_get_within units u a at_u in let e = one.port in let l = other.boxes in omega (arith, lt, e, l);
      }
    where
      way_at : (units : List (UnitActor D)) (u : ℕ) (a : UnitActor D) → slice_get units u ≡ Some a → slice_get (map ways_of units) u ≡ Some (ways a.port)
      way_at [] u a at = absurd (cc at)
      way_at (x ∷ xs) zero a at = ap (λ (y : UnitActor D). Some (ways y.port)) (some_same x a at)
      way_at (x ∷ xs) (suc u) a at = way_at xs u a at
