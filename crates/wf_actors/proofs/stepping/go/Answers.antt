use Rattle.std.proofs.Common.{◌≡◌, ◌+◌, ℕ, true, false, Ok, [], ◌∷◌, ◌++◌, ap, subst, rules}
use Rattle.wf_server.specs.Servers.{inputs_of}
use Rattle.wf_server.specs.Inbox.{IsPeer}
use Rattle.wf_server.specs.Sending.{sent_to}
use Rattle.wf_actors.specs.Sendings.{sent_on, SentToSome}
use Rattle.wf_actors.proofs.Going.{stays_moves, step_moves}
use Rattle.wf_actors.proofs.Sends.{sends_turned, sends_to_some}
use Rattle.wf_actors.proofs.stepping.go.Goals as goal

pub returns-in_err-step-clause-moves : goal.returns-in_err-step-clause-moves
returns-in_err-step-clause-moves g c refused =
    stays_moves g.D.Disk.told c.args.node.now c.step.new.node (c.in_err-step.ensures.same (λ is. absurd (cc is))) c.args.port.now c.step.ensures.keeps c.step.ensures.faults refused

pub returns-then-not-branch-clause-moves : goal.returns-then-not-branch-clause-moves
returns-then-not-branch-clause-moves g c refused =
    let no : c.in_ok-step.field-0 ≡ false = search (rules, c.if-not-branch.true) in
    stays_moves g.D.Disk.told c.args.node.now c.step.new.node (c.in_ok-step.ensures.same (λ is. absurd (cc (no, is)))) c.args.port.now c.step.ensures.keeps c.step.ensures.faults refused

pub returns-in_err-send_all-clause-moves : goal.returns-in_err-send_all-clause-moves
returns-in_err-send_all-clause-moves g c refused =
    let yes : c.in_ok-step.field-0 ≡ true = search (rules, c.if-not-branch.false) in
    let e = c.in_ok-step.ensures in
    let took = e.took (ap Ok yes) in
    step_moves g.D.Disk.told c.args.node.now c.step.new.node c.args.port.now c.send_all.new.port e.part e.keeps e.faults took.0 took.1 e.inbox (e.later (ap Ok yes)) c.send_all.ensures.ways c.send_all.ensures.mouths refused

pub returns-in_err-send_all-clause-some : goal.returns-in_err-send_all-clause-some
returns-in_err-send_all-clause-some g c =
    let yes : c.in_ok-step.field-0 ≡ true = search (rules, c.if-not-branch.false) in
    let e = c.in_ok-step.ensures in
    let took = e.took (ap Ok yes) in
    sends_to_some c.args.node.now c.step.new.node c.args.port.now c.send_all.new.port c.args.outboxes.now c.send_all.new.outboxes (inputs_of c.args.node.now.came) c.history-before.ensures.fits e.part took.0
    (subst (λ n. SentToSome c.step.new.node.part c.step.new.node.past n c.args.port.now c.send_all.new.port c.args.outboxes.now c.send_all.new.outboxes)
    (ap (λ k. k + 1) c.taken-next.ensures) c.send_all.ensures.some)

pub returns-clause-moves : goal.returns-clause-moves
returns-clause-moves g c refused =
    let yes : c.in_ok-step.field-0 ≡ true = search (rules, c.if-not-branch.false) in
    let e = c.in_ok-step.ensures in
    let took = e.took (ap Ok yes) in
    step_moves g.D.Disk.told c.args.node.now c.step.new.node c.args.port.now c.send_all.new.port e.part e.keeps e.faults took.0 took.1 e.inbox (e.later (ap Ok yes)) c.send_all.ensures.ways c.send_all.ensures.mouths refused

pub returns-clause-sent : goal.returns-clause-sent
returns-clause-sent g c =
    let yes : c.in_ok-step.field-0 ≡ true = search (rules, c.if-not-branch.false) in
    let e = c.in_ok-step.ensures in
    let took = e.took (ap Ok yes) in
    sends_turned c.args.node.now c.step.new.node c.args.port.now c.send_all.new.port c.args.outboxes.now c.send_all.new.outboxes (inputs_of c.args.node.now.came) c.history-before.ensures.fits e.part took.0
    (subst
    (λ n. (v : ℕ) → IsPeer c.step.new.node.part v → sent_on c.send_all.new.port c.send_all.new.outboxes v ≡ sent_on c.args.port.now c.args.outboxes.now v ++ sent_to c.step.new.node.part c.step.new.node.past v n ∷ [])
    (ap (λ k. k + 1) c.taken-next.ensures) c.in_ok-send_all.ensures.sent)

pub returns-clause-some : goal.returns-clause-some
returns-clause-some g c =
    let yes : c.in_ok-step.field-0 ≡ true = search (rules, c.if-not-branch.false) in
    let e = c.in_ok-step.ensures in
    let took = e.took (ap Ok yes) in
    sends_to_some c.args.node.now c.step.new.node c.args.port.now c.send_all.new.port c.args.outboxes.now c.send_all.new.outboxes (inputs_of c.args.node.now.came) c.history-before.ensures.fits e.part took.0
    (subst (λ n. SentToSome c.step.new.node.part c.step.new.node.past n c.args.port.now c.send_all.new.port c.args.outboxes.now c.send_all.new.outboxes)
    (ap (λ k. k + 1) c.taken-next.ensures) c.send_all.ensures.some)
