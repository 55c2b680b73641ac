use Rattle.std.proofs.Common.{◌≡◌, ◌+◌, ◌≤◌, ℕ, is_some, List, length, Option, Some, None, refl, sym, ap, ap₂, ◌∙◌, subst, arith, rules}
use Rattle.std.specs.Prelude.{Result, Ok, Err}
use Rattle.wf_model.specs.declared.update.Update.{Update}
use Rattle.wf_journal.specs.State.{Kept}
use Rattle.wf_codec.specs.Bodies.{IsBodyOf}
use Rattle.wf_histories.specs.Histories.{History, taken}
use Rattle.wf_worlds.specs.Growing.{turned}
use Rattle.wf_steps.specs.Replicas.{prepared_of}
use Rattle.wf_steps.specs.declared.prepared.Prepared.{Prepared}
use Rattle.wf_worlds.specs.Ends.{longest_turn}
use Rattle.wf_steps.specs.Growing.{MayTurn}
use Rattle.wf_server.specs.Servers.{Server, inputs_of, turn_record, with_turn}
use Rattle.wf_server.specs.Nodes.{IsReady}
use Rattle.wf_server.proofs.Standing.{Appended}
use Rattle.wf_server.proofs.Keeping.{residual, node_kept, node_turned, view_turned}
use Rattle.wf_server.proofs.Turning.{crash_asked, room_asked, place_added, healthy_added, placed_added, placed_kept, stands_added, stands_kept, answer_added, answer_err, runs_added, runs_of_err, failed_memory, failed_disk, same_refused, enough_asked, took_now}
use Rattle.wf_server.proofs.node.Node.add_turn.Given.{Over}
use Rattle.wf_server.proofs.node.Node.add_turn.Goals as goal

said_err : (g : Over) (c : goal.After-from_residual g) → Appended g.D.Disk.told c.self.inside.journal c.append.new.self c.as_slice.result.now c.append.result
said_err g c = record {
  refused = c.append.ensures.refused;
  other = c.append.ensures.other;
  ok = c.append.ensures.ok;
  no_memory = c.append.ensures.no_memory;
  place = c.append.ensures.place;
  place_kept = c.append.ensures.place_kept;
  failed = c.append.ensures.failed;
  not_failed = c.append.ensures.not_failed;
  tells = c.append.ensures.tells;
  any_moment = c.append.ensures.any_moment;
  fewer = c.append.ensures.fewer;
  four = c.append.ensures.four;
  two = c.append.ensures.two;
  plan = c.append.ensures.plan;
  safe = c.append.ensures.safe;
  cause = c.append.ensures.cause;
  disk_room = c.append.ensures.disk_room;
}

ready_err : (g : Over) (c : goal.After-from_residual g) → IsReady c.self.inside.journal.room c.self.inside.replica c.self.inside.came.items c.in-Some.ready
ready_err g c = c.self.invariant.ready_is c.in-Some.ready c.in-Some.is

body_err : (g : Over) (c : goal.After-from_residual g) → IsBodyOf (turn_record c.self.inside.replica.past c.self.inside.came.items) c.as_slice.result.now
body_err g c = subst (IsBodyOf (turn_record c.self.inside.replica.past c.self.inside.came.items)) (sym c.as_slice.ensures) (ready_err g c).body

said_ok : (g : Over) (c : goal.After-taken g) → Appended g.D.Disk.told c.self.inside.journal c.append.new.self c.as_slice.result.now c.append.result
said_ok g c = record {
  refused = c.append.ensures.refused;
  other = c.append.ensures.other;
  ok = c.append.ensures.ok;
  no_memory = c.append.ensures.no_memory;
  place = c.append.ensures.place;
  place_kept = c.append.ensures.place_kept;
  failed = c.append.ensures.failed;
  not_failed = c.append.ensures.not_failed;
  tells = c.append.ensures.tells;
  any_moment = c.append.ensures.any_moment;
  fewer = c.append.ensures.fewer;
  four = c.append.ensures.four;
  two = c.append.ensures.two;
  plan = c.append.ensures.plan;
  safe = c.append.ensures.safe;
  cause = c.append.ensures.cause;
  disk_room = c.append.ensures.disk_room;
}

ready_ok : (g : Over) (c : goal.After-taken g) → IsReady c.self.inside.journal.room c.self.inside.replica c.self.inside.came.items c.in-Some.ready
ready_ok g c = c.self.invariant.ready_is c.in-Some.ready c.in-Some.is

body_ok : (g : Over) (c : goal.After-taken g) → IsBodyOf (turn_record c.self.inside.replica.past c.self.inside.came.items) c.as_slice.result.now
body_ok g c = subst (IsBodyOf (turn_record c.self.inside.replica.past c.self.inside.came.items)) (sym c.as_slice.ensures) (ready_ok g c).body

-- the history after the Turn
past_ok : (g : Over) (c : goal.After-taken g) → c.take.new.replica.past ≡ with_turn c.self.inside.replica.past c.self.inside.came.items
past_ok g c = c.take.ensures.past c.in-Some.ready c.in-Some.is ∙ ap (λ (p : Prepared). turned c.self.inside.replica.past p.done.inputs) (ready_ok g c).prepared

pub invariant_of-self : goal.invariant_of-self
invariant_of-self g c =
    node_kept g.D.Disk.told _ _ _ _ _ _ _ c.self.invariant refl refl (omega arith) (omega arith) c.append.ensures.room
    (stands_kept g.D.Disk.told g.met.D.Disk.lawful _ _ c.self.view_is c.self.invariant.stands c.requires.can (ready_err g c).may c.append.new.self c.as_slice.result.now (body_err g c) c.append.result (said_err g c) c.in_err-append.field-0.0 c.in_err-append.was)
    (placed_kept g.D.Disk.told g.met.D.Disk.lawful _ _ c.self.view_is c.self.invariant.stands c.requires.can (ready_err g c).may c.append.new.self c.as_slice.result.now (body_err g c) c.append.result (said_err g c) c.self.invariant.placed c.in_err-append.field-0.0 c.in_err-append.was)

pub returns-in_err-append-clause-answer : goal.returns-in_err-append-clause-answer
returns-in_err-append-clause-answer g c =
    answer_err g.D.Disk.told g.met.D.Disk.lawful _ _ c.self.view_is c.self.invariant.stands c.requires.can (ready_err g c).may c.append.new.self c.as_slice.result.now (body_err g c) c.append.result (said_err g c) c.in_err-append.field-0.0 c.in_err-append.was _ (residual _ _ c.from_residual.ensures.1)
    (subst (λ (b : List ℕ). length b ≤ longest_turn) (sym c.as_slice.ensures) (ready_err g c).short)

pub returns-in_err-append-clause-refused : goal.returns-in_err-append-clause-refused
returns-in_err-append-clause-refused g c = λ is_err memory disk.
    ap (λ (j : Kept g.row.D.Denot). record { journal = j; part = c.self.inside.replica.part; past = c.self.inside.replica.past; came = c.self.inside.came.items; early = c.self.inside.early.items; ready = is_some c.self.inside.ready })
    (same_refused g.D.Disk.told g.met.D.Disk.lawful _ _ c.self.view_is c.self.invariant.stands c.requires.can (ready_err g c).may c.append.new.self c.as_slice.result.now (body_err g c) c.append.result (said_err g c) c.in_err-append.field-0.0 c.in_err-append.was _ (residual _ _ c.from_residual.ensures.1) memory disk) ∙ c.self.view_is

pub returns-in_err-append-clause-no_memory : goal.returns-in_err-append-clause-no_memory
returns-in_err-append-clause-no_memory g c = failed_memory g.D.Disk.told g.met.D.Disk.lawful _ _ c.self.view_is c.self.invariant.stands c.requires.can (ready_err g c).may c.append.new.self c.as_slice.result.now (body_err g c) c.append.result (said_err g c) c.in_err-append.field-0.0 c.in_err-append.was _ (residual _ _ c.from_residual.ensures.1)

pub returns-in_err-append-clause-failed : goal.returns-in_err-append-clause-failed
returns-in_err-append-clause-failed g c = failed_disk g.D.Disk.told g.met.D.Disk.lawful _ _ c.self.view_is c.self.invariant.stands c.requires.can (ready_err g c).may c.append.new.self c.as_slice.result.now (body_err g c) c.append.result (said_err g c) c.in_err-append.field-0.0 c.in_err-append.was _ (residual _ _ c.from_residual.ensures.1)

pub returns-in_err-append-clause-enough : goal.returns-in_err-append-clause-enough
returns-in_err-append-clause-enough g c = enough_asked g.D.Disk.told g.met.D.Disk.lawful _ _ c.self.view_is c.self.invariant.stands c.requires.can (ready_err g c).may c.append.new.self c.as_slice.result.now (body_err g c) c.append.result (said_err g c) c.in_err-append.field-0.0 c.in_err-append.was _ (residual _ _ c.from_residual.ensures.1) (subst (λ (b : List ℕ). length b ≤ c.self.inside.journal.room) (sym c.as_slice.ensures) (ready_err g c).journal_room) c.append.ensures.enough

pub returns-in_err-append-clause-crash : goal.returns-in_err-append-clause-crash
returns-in_err-append-clause-crash g c = crash_asked g.D.Disk.told g.met.D.Disk.lawful _ _ c.self.view_is c.self.invariant.stands c.requires.can (ready_err g c).may c.append.new.self c.as_slice.result.now (body_err g c) c.append.result (said_err g c)

pub returns-in_err-append-clause-disk : goal.returns-in_err-append-clause-disk
returns-in_err-append-clause-disk g c = runs_of_err g.D.Disk.told g.met.D.Disk.lawful _ _ c.self.view_is c.self.invariant.stands c.requires.can (ready_err g c).may c.append.new.self c.as_slice.result.now (body_err g c) c.append.result (said_err g c) c.in_err-append.field-0.0 c.in_err-append.was _ (residual _ _ c.from_residual.ensures.1)

pub take-requires : goal.take-requires
take-requires g c = λ x is.
    let y = c.self.invariant.ready_is x is in (
      subst (λ (p : Prepared). MayTurn c.self.inside.replica.part c.self.inside.replica.past p.done.inputs) (sym y.prepared) y.may,
      y.prepared ∙ ap (λ (p : Prepared). prepared_of c.self.inside.replica.part c.self.inside.replica.past p.done.inputs) (sym y.prepared),
      y.turn_room,
      y.item_room,
    )

pub invariant_of-self-2 : goal.invariant_of-self-2
invariant_of-self-2 g c =
    node_turned g.D.Disk.told _ _ _ _ _ _ _ _ _ _ c.self.invariant c.take.ensures.part (past_ok g c) c.go_on.ensures.came c.go_on.ensures.size c.go_on.ensures.none c.take.ensures.none
    (stands_added g.D.Disk.told g.met.D.Disk.lawful _ _ c.self.view_is c.self.invariant.stands c.requires.can (ready_ok g c).may c.append.new.self c.as_slice.result.now (body_ok g c) c.append.result (said_ok g c) c.in_ok-append.was)
    (placed_added g.D.Disk.told g.met.D.Disk.lawful _ _ c.self.view_is c.self.invariant.stands c.requires.can (ready_ok g c).may c.append.new.self c.as_slice.result.now (body_ok g c) c.append.result (said_ok g c) c.self.invariant.placed c.in_ok-append.was)

pub returns-clause-answer : goal.returns-clause-answer
returns-clause-answer g c = answer_added g.D.Disk.told g.met.D.Disk.lawful _ _ c.self.view_is c.self.invariant.stands c.requires.can (ready_ok g c).may c.append.new.self c.as_slice.result.now (body_ok g c) c.append.result (said_ok g c) _ c.in_ok-append.was (c.taken.ensures.taken ∙ ap taken (past_ok g c) ∙ took_now c.self.inside.replica.past c.self.inside.came.items)

pub returns-clause-took : goal.returns-clause-took
returns-clause-took g c = view_turned _ _ c.append.new.self c.take.new.replica c.go_on.new.came.items c.go_on.new.early.items c.take.new.ready c.self.view_is c.take.ensures.part (past_ok g c) c.go_on.ensures.came c.take.ensures.none

pub returns-clause-crash : goal.returns-clause-crash
returns-clause-crash g c = crash_asked g.D.Disk.told g.met.D.Disk.lawful _ _ c.self.view_is c.self.invariant.stands c.requires.can (ready_ok g c).may c.append.new.self c.as_slice.result.now (body_ok g c) c.append.result (said_ok g c)

pub returns-clause-disk : goal.returns-clause-disk
returns-clause-disk g c = runs_added g.D.Disk.told g.met.D.Disk.lawful _ _ c.self.view_is c.self.invariant.stands c.requires.can (ready_ok g c).may c.append.new.self c.as_slice.result.now (body_ok g c) c.append.result (said_ok g c) _ c.in_ok-append.was

pub returns-clause-healthy : goal.returns-clause-healthy
returns-clause-healthy g c _ = healthy_added g.D.Disk.told g.met.D.Disk.lawful _ _ c.self.view_is c.self.invariant.stands c.requires.can (ready_ok g c).may c.append.new.self c.as_slice.result.now (body_ok g c) c.append.result (said_ok g c) c.in_ok-append.was

pub returns-in_err-append-clause-disk_room : goal.returns-in_err-append-clause-disk_room
returns-in_err-append-clause-disk_room g c = room_asked g.D.Disk.told g.met.D.Disk.lawful _ _ c.self.view_is c.self.invariant.stands c.requires.can (ready_err g c).may c.append.new.self c.as_slice.result.now (body_err g c) c.append.result (said_err g c)

pub returns-clause-disk_room : goal.returns-clause-disk_room
returns-clause-disk_room g c = room_asked g.D.Disk.told g.met.D.Disk.lawful _ _ c.self.view_is c.self.invariant.stands c.requires.can (ready_ok g c).may c.append.new.self c.as_slice.result.now (body_ok g c) c.append.result (said_ok g c)

pub returns-clause-place : goal.returns-clause-place
returns-clause-place g c = place_added g.D.Disk.told g.met.D.Disk.lawful _ _ c.self.view_is c.self.invariant.stands c.requires.can (ready_ok g c).may c.append.new.self c.as_slice.result.now (body_ok g c) c.append.result (said_ok g c) c.in_ok-append.was
