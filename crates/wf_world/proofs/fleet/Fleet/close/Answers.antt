use Rattle.std.proofs.Common.{◌≡◌, List, [], ◌∷◌, ◌++◌, length, slice_get, Some, refl, sym, ap, ◌∙◌, subst, append_assoc}
use Rattle.std.specs.Vec.Iter.{into_iter_items}
use Rattle.wf_disk.specs.Memory.{Held, image_of}
use Rattle.wf_server.specs.Images.{Holds}
use Rattle.wf_slot.specs.Slots.{SlotState}
use Rattle.wf_world.specs.Fleets.{FleetState, DoWork, HaveDisks}
use Rattle.wf_world.specs.contracts.fleet.Fleet.{the_view}
use Rattle.wf_world.proofs.fleet.Fleet.close.Goals as goal

-- one more
disks_push : (xs : List SlotState) (ds : List Held) (s : SlotState) (d : Held) → HaveDisks xs ds → Holds s.part s.past (image_of d) → HaveDisks (xs ++ s ∷ []) (ds ++ d ∷ [])
disks_push [] [] s d have it = (it, tt)
disks_push [] (e ∷ es) s d have it = absurd have
disks_push (x ∷ xs) [] s d have it = absurd have
disks_push (x ∷ xs) (e ∷ es) s d have it = (have.0, disks_push xs es s d have.1 it)

-- the slot behind those before
at_seam : (xs : List SlotState) (s : SlotState) (ys : List SlotState) → slice_get (xs ++ s ∷ ys) (length xs) ≡ Some s
at_seam [] s ys = refl
at_seam (x ∷ xs) s ys = at_seam xs s ys

pub close-part-requires : goal.close-part-requires
close-part-requires c =
    let at = c.loop-slot in
    let s = c.in-Some.slot in
    let v = the_view c.self.inside in
    let work : DoWork v.slots = subst (λ (y : FleetState). DoWork y.slots) (sym c.self.view_is) c.requires.works in
    let all : v.slots ≡ at.yielded ++ s ∷ into_iter_items c.next.new.self =
    sym (at.invariant.0 ∙ c.into_iter-slot-iterator.ensures.into_iter_gives.0) ∙ ap (λ (xs : List SlotState). at.yielded ++ xs) c.in-Some.ensures.steps.0 in
    work (length at.yielded) s (ap (λ (xs : List SlotState). slice_get xs (length at.yielded)) all ∙ at_seam at.yielded s (into_iter_items c.next.new.self))

-- so it goes on: what the loop has, with one slot more and its disk
goes_on : (xs ys rest all : List SlotState) (s : SlotState) (ds es : List Held) (d : Held) → xs ++ rest ≡ all → rest ≡ s ∷ ys → HaveDisks xs ds → Holds s.part s.past (image_of d) → es ≡ ds ++ d ∷ []
    → ((xs ++ s ∷ []) ++ ys ≡ all) × HaveDisks (xs ++ s ∷ []) es
goes_on xs ys rest all s ds es d so_far steps have it pushed =
    (append_assoc xs (s ∷ []) ys ∙ ap (λ (zs : List SlotState). xs ++ zs) (sym steps) ∙ so_far, subst (λ (fs : List Held). HaveDisks (xs ++ s ∷ []) fs) (sym pushed) (disks_push xs ds s d have it))

pub loop-slot-preserved-in_ok-push : goal.loop-slot-preserved-in_ok-push
loop-slot-preserved-in_ok-push c =
    let at = c.loop-slot in
    goes_on at.yielded (into_iter_items c.next.new.self) (into_iter_items at.slot-iterator) (into_iter_items c.into_iter-slot-iterator.result) c.in-Some.slot at.disks c.push.new.self c.close-part.result.1
    at.invariant.0 c.in-Some.ensures.steps.0 at.invariant.1 c.close-part.ensures.image c.in_ok-push.ensures.ok

pub loop-slot-preserved-in_ok-push-2 : goal.loop-slot-preserved-in_ok-push-2
loop-slot-preserved-in_ok-push-2 c =
    let at = c.loop-slot in
    goes_on at.yielded (into_iter_items c.next.new.self) (into_iter_items at.slot-iterator) (into_iter_items c.into_iter-slot-iterator.result) c.in-Some.slot at.disks c.push.new.self c.close-part.result.1
    at.invariant.0 c.in-Some.ensures.steps.0 at.invariant.1 c.close-part.ensures.image c.in_ok-push.ensures.ok

pub loop-slot-preserved : goal.loop-slot-preserved
loop-slot-preserved c =
    let at = c.loop-slot in
    goes_on at.yielded (into_iter_items c.next.new.self) (into_iter_items at.slot-iterator) (into_iter_items c.into_iter-slot-iterator.result) c.in-Some.slot at.disks c.push.new.self c.close-part.result.1
    at.invariant.0 c.in-Some.ensures.steps.0 at.invariant.1 c.close-part.ensures.image c.in_ok-push.ensures.ok
