use Rattle.std.proofs.Common.{◌≡◌, ◌<◌, [], ◌++◌, length, ◌∙◌, sym, subst, arith}
use Rattle.std.specs.Prelude.{slice_set}
use Rattle.wf_exchange.specs.Ports.{pushed_to}
use Rattle.wf_actors.specs.Sendings.{waiting_for}
use Rattle.wf_actors.proofs.Moving.{popped_same}
use Rattle.wf_actors.proofs.Pairings.{traffic_is, waiting_here, waiting_there, reader_takes, sender_takes}
use Rattle.wf_actors.proofs.pairs.take_over.Goals as goal

pub returns-clause-reader : goal.returns-clause-reader
returns-clause-reader g c =
    let h = c.hand_over.ensures in
    reader_takes c.args.reader.now c.hand_over.new.node c.hand_over.new.reader c.hand_over.new.refused _ c.requires.may.peer h.reader h.reader_ends h.reader_others h.more

pub returns-clause-sender : goal.returns-clause-sender
returns-clause-sender g c =
    let h = c.hand_over.ensures in
    let to = c.unit-to.ensures in
    let within : c.unit-to.result.0 < length c.args.sender.now.outboxes.items = let lt = c.requires.may.box in omega (arith, lt, to) in
    sender_takes c.args.sender.now c.hand_over.new.sender c.unit-to.result.0 (record { waiting = c.hand_over.new.outbox }) c.index_mut-outbox.result.now within c.index_mut-outbox.ensures.value
    (subst (λ u. pushed_to c.hand_over.new.sender u ≡ pushed_to c.args.sender.now.port u ++ c.index_mut-outbox.result.now.waiting.items) (sym to) h.pushed) h.none_waits (λ v n. h.sender_others v (λ e. n (e ∙ sym to)))
    h.sender h.sender_mouths

pub returns-clause-all : goal.returns-clause-all
returns-clause-all g c =
    let h = c.hand_over.ensures in
    let to = c.unit-to.ensures in
    let boxes = c.args.sender.now.outboxes.items in
    let within : c.unit-to.result.0 < length boxes = let lt = c.requires.may.box in omega (arith, lt, to) in
    record {
      came = h.all;
      none_waits = subst (λ u. waiting_for (slice_set boxes c.unit-to.result.0 (record { waiting = c.hand_over.new.outbox })) u ≡ []) to
          (waiting_here boxes c.unit-to.result.0 (record { waiting = c.hand_over.new.outbox }) within ∙ h.none_waits);
    }

pub returns-clause-sender_others : goal.returns-clause-sender_others
returns-clause-sender_others g c v n =
    let h = c.hand_over.ensures in
    let to = c.unit-to.ensures in
    traffic_is _ _ (popped_same c.args.sender.now.port c.hand_over.new.sender v (h.sender_mouths v)) (h.sender_others v n)
    (waiting_there c.args.sender.now.outboxes.items c.unit-to.result.0 v (record { waiting = c.hand_over.new.outbox }) (λ e. n (e ∙ to)))
