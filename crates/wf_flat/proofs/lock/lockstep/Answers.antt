use Rattle.std.proofs.Common.{◌≡◌, ◌∙◌, ◌<◌, ◌+◌, ℕ, suc, All, List, length, map, sym, ap, subst, arith}
use Rattle.std.specs.List.{range_with_len}
use Rattle.wf_model.specs.Limits.{max_steps}
use Rattle.wf_model.specs.declared.update.Update.{Update}
use Rattle.wf_lockstep.specs.Shares.{entries_at}
use Rattle.wf_lockstep.specs.Lock.{lock_update, outers_by}
use Rattle.wf_views.specs.Absorbing.{absorbed}
use Rattle.wf_flat.specs.Locking.{AreViews, HasRoomFor}
use Rattle.wf_flat.proofs.Locking.{stands_first, are_views, room_for, stands_more}
use Rattle.wf_flat.proofs.lock.lockstep.Goals as goal

pub loop-taken-init : goal.loop-taken-init
loop-taken-init c = stands_first c.args.parts.now c.args.outer.now c.in_ok-views.views.items c.new-steps.result c.in_ok-views.ensures c.new-steps.ensures

pub all_steps-requires : goal.all_steps-requires
all_steps-requires c =
    let lent = c.as_slice.ensures.value in
    record {
      same = ap length lent ∙ c.loop-taken.invariant.same;
      are = subst (AreViews c.args.parts.now) (sym lent) (are_views c.args.parts.now c.args.outer.now c.loop-taken.taken c.loop-taken.views.items c.loop-taken.steps c.loop-taken.invariant);
    }

pub absorb_all-requires : goal.absorb_all-requires
absorb_all-requires c =
    let lent = c.as_slice-in-loop-taken.ensures in
    let early : c.loop-taken.taken < max_steps = omega (arith, c.loop-taken-test.true, c.requires.steps) in
    record {
      same = c.loop-taken.invariant.same;
      room = subst (λ (l : List Update). All (HasRoomFor l) c.loop-taken.views.items) (sym lent)
          (room_for c.args.parts.now c.args.outer.now c.loop-taken.taken c.loop-taken.views.items c.loop-taken.steps c.loop-taken.invariant
          c.in_ok-updates.updates c.in_ok-updates.ensures.all c.requires.units c.in_ok-updates.ensures.few early);
    }

pub loop-taken-preserved : goal.loop-taken-preserved
loop-taken-preserved c =
    let parts = c.args.parts.now in
    let outer = c.args.outer.now in
    let lent = c.as_slice-in-loop-taken.ensures in
    let next : c.loop-taken.taken + 1 + 1 ≡ suc (suc c.loop-taken.taken) = omega arith in
    stands_more parts outer c.loop-taken.taken c.loop-taken.views.items c.loop-taken.steps c.loop-taken.invariant c.in_ok-updates.updates c.absorb_all.new.views.items c.push.new.self c.entries_of-entries.result.now
    (c.entries_of-entries.ensures ∙ ap (entries_at outer) next) c.in_ok-updates.ensures.all c.in_ok-absorb_all.ensures.same c.requires.units c.in_ok-updates.ensures.few
    (λ part view pe ve. c.in_ok-updates.ensures.steps part view pe (c.as_slice.ensures.value ∙ ve))
    (λ part view pe ve. c.in_ok-absorb_all.ensures.views part view pe ve ∙ ap (λ (l : List Update). map (λ u. absorbed (part u) (view u) l) (range_with_len 0 (length parts))) lent)
    c.in_ok-push.ensures.ok

pub returns : goal.returns
returns c = λ part pe.
    let done : c.loop-taken.taken ≡ length c.args.outer.now = omega arith in
    c.loop-taken.invariant.made part pe
    ∙ ap (λ (m : ℕ). map (λ j. map (lock_update (length c.args.parts.now) part (outers_by c.args.outer.now) j) (range_with_len 0 (length c.args.parts.now))) (range_with_len 0 m)) done
