use Rattle.std.proofs.Common.{◌≡◌, ◌<◌, ◌≤◌, ◌+◌, ◌++◌, [], ◌∷◌, Result, Ok, Err, OnOk, IfErr, sym, ap, subst, ◌∙◌, append_assoc, arith}
use Rattle.std.specs.Option.{option_map_or}
use Rattle.wf_model.specs.declared.update.Update.{Update}
use Rattle.wf_exchange.specs.Rings.{pushed}
use Rattle.wf_exchange.specs.Ports.{Ways, unit_of, pushed_to, popped_from, free_to}
use Rattle.wf_actors.specs.Taking.{Nearby, TakesMore}
use Rattle.wf_actors.proofs.Takings.{then_more}
use Rattle.wf_actors.proofs.handing.hand_over.Goals as goal

-- what holds at `Ok`, where `Err` can't be
went_in : (r : Result (Unit {0}) Update) (P : Type 0) (F : Update → Type 0) → OnOk r P → IfErr r F → ((x : Update) → F x → ⊥) → P
went_in (Ok done) P F ok full never = ok
went_in (Err back) P F ok full never = absurd (never back full)

pub loop-update-preserved : goal.loop-update-preserved
loop-update-preserved g c =
    let i = c.loop-update.invariant in
    let d = c.drain-in-Some.ensures in
    let p = c.push.ensures in
    let reads : unit_of c.loop-update.reader ≡ unit_of c.args.reader.now = ap (λ (w : Ways). w.unit) i.reader in
    let sends : unit_of c.push.new.self ≡ unit_of c.args.sender.now = ap (λ (w : Ways). w.unit) (p.ways ∙ i.sender) in
    let room : 0 < free_to c.loop-update.sender c.unit-to.result.0 =
    subst (λ u. 0 < free_to c.loop-update.sender u) (sym i.to) i.room in
    let put = went_in c.push.result
    ((pushed_to c.push.new.self c.unit-to.result.0 ≡ pushed_to c.loop-update.sender c.unit-to.result.0 ++ c.in-Some.update ∷ [])
    × (free_to c.loop-update.sender c.unit-to.result.0 ≤ free_to c.push.new.self c.unit-to.result.0 + 1))
    (λ back. (back ≡ c.in-Some.update) × (pushed_to c.push.new.self c.unit-to.result.0 ≡ pushed_to c.loop-update.sender c.unit-to.result.0) × (free_to c.loop-update.sender c.unit-to.result.0 ≡ 0))
    p.ok p.full (λ back full. let none = full.2 in omega arith) in
    let in_ring = subst (λ u. pushed_to c.push.new.self u ≡ pushed_to c.loop-update.sender u ++ c.in-Some.update ∷ []) i.to put.0 in
    record {
      reader = d.reader ∙ i.reader;
      sender = d.sender ∙ p.ways ∙ i.sender;
      to = i.to;
      more = then_more Nearby (unit_of c.args.sender.now) c.args.node.now c.loop-update.node c.drain-in-Some.new.node _ _ _ _ _ _ i.more
          (subst (λ v. TakesMore Nearby v c.loop-update.node c.drain-in-Some.new.node (popped_from c.loop-update.reader v) (popped_from c.drain-in-Some.new.reader v) c.loop-update.refused c.drain-in-Some.new.refused) sends d.more);
      all = subst (λ v. popped_from c.drain-in-Some.new.reader v ≡ pushed_to c.push.new.self (unit_of c.loop-update.reader)) sends d.all
          ∙ ap (pushed_to c.push.new.self) reads ∙ sym (d.pushed (unit_of c.args.reader.now));
      room = subst (λ u. 0 < free_to c.drain-in-Some.new.sender u) reads d.room;
      rest = ap (λ l. l ++ c.pop_front.new.self.items) (d.pushed (unit_of c.args.reader.now) ∙ in_ring)
          ∙ append_assoc (pushed_to c.loop-update.sender (unit_of c.args.reader.now)) (c.in-Some.update ∷ []) c.pop_front.new.self.items
          ∙ ap (λ l. pushed_to c.loop-update.sender (unit_of c.args.reader.now) ++ l) (sym c.in-Some.ensures.items)
          ∙ i.rest;
      reader_others = (λ v n. d.reader_others v (λ is. n (is ∙ sends)) ∙ i.reader_others v n);
      reader_ends = (λ v. d.reader_ends v ∙ i.reader_ends v);
      sender_mouths = (λ v. d.sender_mouths v ∙ p.mouths v ∙ i.sender_mouths v);
      sender_others = (λ v n. d.pushed v ∙ ap (λ o. option_map_or pushed o []) (p.others v (λ is. n (is ∙ i.to))) ∙ i.sender_others v n);
    }
