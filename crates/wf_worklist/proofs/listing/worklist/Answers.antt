use Rattle.std.proofs.Common.{◌≡◌, Bool, ◌∙◌, ◌<◌, ◌+◌, ℕ, List, length, map, get_or, ap, arith}
use Rattle.std.specs.List.{list_any, enumerate_from}
use Rattle.std.proofs.lemmas.List.{take_all}
use Rattle.wf_model.specs.declared.ids.ActId.{ActId}
use Rattle.wf_semantics.specs.Admission.{completes}
use Rattle.wf_histories.specs.Histories.{Admission}
use Rattle.wf_worlds.specs.Admitting.{outers}
use Rattle.wf_steps.specs.Items.{is_completed}
use Rattle.wf_worklist.specs.declared.listing.Item.{Item}
use Rattle.wf_worklist.specs.Worklists.{item_of, worklist_of}
use Rattle.wf_worklist.proofs.Completed.{started_short, list_more}
use Rattle.wf_worklist.proofs.listing.worklist.Goals as goal

pub overflow_cast-number : goal.overflow_cast-number
overflow_cast-number c = omega (arith, c.loop-at-test.true, c.requires, started_short c.args.items.now, ap length c.started-started.ensures)

pub overflow_add-number : goal.overflow_add-number
overflow_add-number c = omega (arith, c.loop-at-test.true, c.requires, started_short c.args.items.now, ap length c.started-started.ensures)

pub loop-at-preserved : goal.loop-at-preserved
loop-at-preserved c =
    let at = c.loop-at.at in
    let started = c.started-started.result.now in
    let first : ActId × ℕ = (record { 0 = 0 }, 0) in
    let within : at + 1 < length started + 1 = omega (arith, c.loop-at-test.true) in
    let done_is : c.has.result ≡ is_completed c.args.history.now.past (at + 1) =
    c.has.ensures ∙ c.in_ok-done.ensures (at + 1) within ∙ ap (λ (xs : List Admission). list_any (completes (at + 1)) (outers xs)) c.admissions.ensures in
    c.in_ok-push.ensures.ok
    ∙ list_more (item_of c.args.history.now.past) started at first c.loop-at.list (record { number = at + 1; act = (get_or started at first).0; step = (get_or started at first).1; done = c.has.result }) c.loop-at-test.true c.loop-at.invariant
    (ap (λ (done : Bool). let item : Item = record { number = at + 1; act = (get_or started at first).0; step = (get_or started at first).1; done = done } in item) done_is)

pub returns : goal.returns
unfolding worklist_of
returns c =
    let h = c.args.history.now.past in
    c.loop-at.invariant
    ∙ ap (λ (l : List (ActId × ℕ)). map (item_of h) (enumerate_from 1 l)) (take_all c.loop-at.at c.started-started.result.now c.loop-at-test.false ∙ c.started-started.ensures)
