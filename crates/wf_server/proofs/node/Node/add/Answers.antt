use Rattle.std.proofs.Common.{◌≡◌, ◌+◌, ◌≤◌, ℕ, List, length, Option, Some, None, refl, sym, ap, ap₂, ◌∙◌, subst, arith, rules}
use Rattle.std.specs.Prelude.{Result, Ok, Err}
use Rattle.wf_model.specs.declared.outer.Outer.{Outer}
use Rattle.wf_codec.specs.Bodies.{IsBodyOf}
use Rattle.wf_histories.specs.Histories.{Admission, History}
use Rattle.wf_server.specs.Servers.{admit_record, with_admission}
use Rattle.wf_server.proofs.Standing.{Appended}
use Rattle.wf_server.proofs.Keeping.{residual, node_kept, node_unready}
use Rattle.wf_server.proofs.Admitting.{crash_idle, crash_unasked, crash_asked, room_idle, room_unasked, room_asked, place_added, healthy_added, placed_added, placed_kept, stands_added, stands_kept, answer_added, answer_err, runs_of_err}
use Rattle.wf_server.proofs.node.Node.add.Given.{Over}
use Rattle.wf_server.proofs.node.Node.add.Goals as goal

said_err : (g : Over) (c : goal.After-drop-body-inside-in_err-append g) → Appended g.D.Disk.told c.self.inside.journal c.append.new.self c.as_slice.result.now c.append.result
said_err g c = record {
  refused = c.append.ensures.refused;
  other = c.append.ensures.other;
  ok = c.append.ensures.ok;
  no_memory = c.append.ensures.no_memory;
  place = c.append.ensures.place;
  place_kept = c.append.ensures.place_kept;
  failed = c.append.ensures.failed;
  not_failed = c.append.ensures.not_failed;
  tells = c.append.ensures.tells;
  any_moment = c.append.ensures.any_moment;
  fewer = c.append.ensures.fewer;
  four = c.append.ensures.four;
  two = c.append.ensures.two;
  plan = c.append.ensures.plan;
  safe = c.append.ensures.safe;
  cause = c.append.ensures.cause;
  disk_room = c.append.ensures.disk_room;
}

body_err : (g : Over) (c : goal.After-drop-body-inside-in_err-append g) → IsBodyOf (admit_record c.args.request c.args.outer.now) c.as_slice.result.now
body_err g c = subst (IsBodyOf (admit_record c.args.request c.args.outer.now)) (sym c.as_slice.ensures) c.in_ok-body.ensures.body

said_ok : (g : Over) (c : goal.After-drop-body-inside-2 g) → Appended g.D.Disk.told c.self.inside.journal c.append.new.self c.as_slice.result.now c.append.result
said_ok g c = record {
  refused = c.append.ensures.refused;
  other = c.append.ensures.other;
  ok = c.append.ensures.ok;
  no_memory = c.append.ensures.no_memory;
  place = c.append.ensures.place;
  place_kept = c.append.ensures.place_kept;
  failed = c.append.ensures.failed;
  not_failed = c.append.ensures.not_failed;
  tells = c.append.ensures.tells;
  any_moment = c.append.ensures.any_moment;
  fewer = c.append.ensures.fewer;
  four = c.append.ensures.four;
  two = c.append.ensures.two;
  plan = c.append.ensures.plan;
  safe = c.append.ensures.safe;
  cause = c.append.ensures.cause;
  disk_room = c.append.ensures.disk_room;
}

body_ok : (g : Over) (c : goal.After-drop-body-inside-2 g) → IsBodyOf (admit_record c.args.request c.args.outer.now) c.as_slice.result.now
body_ok g c = subst (IsBodyOf (admit_record c.args.request c.args.outer.now)) (sym c.as_slice.ensures) c.in_ok-body.ensures.body

pub returns-in_err-body-clause-crash : goal.returns-in_err-body-clause-crash
returns-in_err-body-clause-crash g c = crash_idle g.D.Disk.told g.met.D.Disk.lawful _ _ c.self.view_is c.args.request c.args.outer.now c.self.invariant.stands

pub returns-in_err-outer-clause-crash : goal.returns-in_err-outer-clause-crash
returns-in_err-outer-clause-crash g c = crash_idle g.D.Disk.told g.met.D.Disk.lawful _ _ c.self.view_is c.args.request c.args.outer.now c.self.invariant.stands

pub invariant_of-self : goal.invariant_of-self
invariant_of-self g c =
    node_kept g.D.Disk.told _ _ _ _ _ _ _ c.self.invariant c.reserve_admit.ensures.part c.reserve_admit.ensures.past c.reserve_admit.ensures.turn_room c.reserve_admit.ensures.item_room (omega arith) c.self.invariant.stands c.self.invariant.placed

pub returns-in_err-reserve_admit-clause-crash : goal.returns-in_err-reserve_admit-clause-crash
returns-in_err-reserve_admit-clause-crash g c = crash_unasked g.D.Disk.told g.met.D.Disk.lawful _ _ c.self.view_is c.args.request c.args.outer.now c.self.invariant.stands

pub invariant_of-self-in_err-append : goal.invariant_of-self-in_err-append
invariant_of-self-in_err-append g c =
    node_kept g.D.Disk.told _ _ _ _ _ _ _ c.self.invariant c.reserve_admit.ensures.part c.reserve_admit.ensures.past c.reserve_admit.ensures.turn_room c.reserve_admit.ensures.item_room c.append.ensures.room
    (stands_kept g.D.Disk.told g.met.D.Disk.lawful _ _ c.self.view_is c.args.request c.args.outer.now c.self.invariant.stands c.requires c.append.new.self c.as_slice.result.now (body_err g c) c.append.result (said_err g c) c.in_err-append.field-0.0 c.in_err-append.was)
    (placed_kept g.D.Disk.told g.met.D.Disk.lawful _ _ c.self.view_is c.args.request c.args.outer.now c.self.invariant.stands c.requires c.append.new.self c.as_slice.result.now (body_err g c) c.append.result (said_err g c) c.self.invariant.placed c.in_err-append.field-0.0 c.in_err-append.was)

pub returns-in_err-append-clause-answer : goal.returns-in_err-append-clause-answer
returns-in_err-append-clause-answer g c = answer_err g.D.Disk.told g.met.D.Disk.lawful _ _ c.self.view_is c.args.request c.args.outer.now c.self.invariant.stands c.requires c.append.new.self c.as_slice.result.now (body_err g c) c.append.result (said_err g c) c.in_err-append.field-0.0 c.in_err-append.was _ (residual _ _ c.from_residual-in_err-append.ensures.1)

pub returns-in_err-append-clause-crash : goal.returns-in_err-append-clause-crash
returns-in_err-append-clause-crash g c = crash_asked g.D.Disk.told g.met.D.Disk.lawful _ _ c.self.view_is c.args.request c.args.outer.now c.self.invariant.stands c.requires c.append.new.self c.as_slice.result.now (body_err g c) c.append.result (said_err g c)

pub returns-in_err-append-clause-disk : goal.returns-in_err-append-clause-disk
returns-in_err-append-clause-disk g c = runs_of_err g.D.Disk.told g.met.D.Disk.lawful _ _ c.self.view_is c.args.request c.args.outer.now c.self.invariant.stands c.requires c.append.new.self c.as_slice.result.now (body_err g c) c.append.result (said_err g c) c.in_err-append.field-0.0 c.in_err-append.was _ (residual _ _ c.from_residual-in_err-append.ensures.1)

pub invariant_of-self-2 : goal.invariant_of-self-2
invariant_of-self-2 g c =
    node_unready g.D.Disk.told _ _ _ _ c.self.inside.replica.part c.self.inside.replica.past (with_admission c.self.inside.replica.past c.args.request c.args.outer.now)
    (c.admit.ensures.part ∙ c.reserve_admit.ensures.part)
    (c.admit.ensures.past ∙ ap₂ (λ (h : History) (o : Outer). with_admission h c.args.request o) c.reserve_admit.ensures.past c.in_ok-outer.ensures)
    refl (stands_added g.D.Disk.told g.met.D.Disk.lawful _ _ c.self.view_is c.args.request c.args.outer.now c.self.invariant.stands c.requires c.append.new.self c.as_slice.result.now (body_ok g c) c.append.result (said_ok g c) c.in_ok-append.was)
    (placed_added g.D.Disk.told g.met.D.Disk.lawful _ _ c.self.view_is c.args.request c.args.outer.now c.self.invariant.stands c.requires c.append.new.self c.as_slice.result.now (body_ok g c) c.append.result (said_ok g c) c.self.invariant.placed c.in_ok-append.was) c.self.invariant.came_is c.self.invariant.early_is

pub returns-clause-answer : goal.returns-clause-answer
returns-clause-answer g c = answer_added g.D.Disk.told g.met.D.Disk.lawful _ _ c.self.view_is c.args.request c.args.outer.now c.self.invariant.stands c.requires c.append.new.self c.as_slice.result.now (body_ok g c) c.append.result (said_ok g c) _ c.in_ok-append.was (ap (λ (l : List Admission). length l + 1) (c.admissions.ensures ∙ ap (λ (h : History). h.admissions) c.history.ensures.past))

pub returns-clause-crash : goal.returns-clause-crash
returns-clause-crash g c = crash_asked g.D.Disk.told g.met.D.Disk.lawful _ _ c.self.view_is c.args.request c.args.outer.now c.self.invariant.stands c.requires c.append.new.self c.as_slice.result.now (body_ok g c) c.append.result (said_ok g c)

pub returns-clause-healthy : goal.returns-clause-healthy
returns-clause-healthy g c _ = healthy_added g.D.Disk.told g.met.D.Disk.lawful _ _ c.self.view_is c.args.request c.args.outer.now c.self.invariant.stands c.requires c.append.new.self c.as_slice.result.now (body_ok g c) c.append.result (said_ok g c) c.in_ok-append.was

pub returns-in_err-body-clause-disk_room : goal.returns-in_err-body-clause-disk_room
returns-in_err-body-clause-disk_room g c = room_idle g.D.Disk.told g.met.D.Disk.lawful _ _ c.self.view_is c.args.request c.args.outer.now c.self.invariant.stands _ _

pub returns-in_err-outer-clause-disk_room : goal.returns-in_err-outer-clause-disk_room
returns-in_err-outer-clause-disk_room g c = room_idle g.D.Disk.told g.met.D.Disk.lawful _ _ c.self.view_is c.args.request c.args.outer.now c.self.invariant.stands _ _

pub returns-in_err-reserve_admit-clause-disk_room : goal.returns-in_err-reserve_admit-clause-disk_room
returns-in_err-reserve_admit-clause-disk_room g c = room_unasked g.D.Disk.told g.met.D.Disk.lawful _ _ c.self.view_is c.args.request c.args.outer.now c.self.invariant.stands _ _

pub returns-in_err-append-clause-disk_room : goal.returns-in_err-append-clause-disk_room
returns-in_err-append-clause-disk_room g c = room_asked g.D.Disk.told g.met.D.Disk.lawful _ _ c.self.view_is c.args.request c.args.outer.now c.self.invariant.stands c.requires c.append.new.self c.as_slice.result.now (body_err g c) c.append.result (said_err g c)

pub returns-clause-disk_room : goal.returns-clause-disk_room
returns-clause-disk_room g c = room_asked g.D.Disk.told g.met.D.Disk.lawful _ _ c.self.view_is c.args.request c.args.outer.now c.self.invariant.stands c.requires c.append.new.self c.as_slice.result.now (body_ok g c) c.append.result (said_ok g c)

pub returns-clause-place : goal.returns-clause-place
returns-clause-place g c _ = place_added g.D.Disk.told g.met.D.Disk.lawful _ _ c.self.view_is c.args.request c.args.outer.now c.self.invariant.stands c.requires c.append.new.self c.as_slice.result.now (body_ok g c) c.append.result (said_ok g c) c.in_ok-append.was
