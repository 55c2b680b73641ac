-- At the end of a play each server works.
use Rattle.std.proofs.Common.{◌≡◌, ℕ, zero, suc, Bool, List, [], ◌∷◌, map, slice_get, Some, None, option_map, refl, sym, ap, ◌∙◌}
use Rattle.std.proofs.lemmas.Option.{slice_get-map}
use Rattle.wf_machine.specs.declared.ending.Ending.{Ending}
use Rattle.wf_machine.specs.Strokes.{strokes}
use Rattle.wf_machine.specs.Server.{Health, Works, Failed, IsDown, Server, recovered}
use Rattle.wf_machine.specs.Machine.{CountingMachine}
use Rattle.wf_machine.specs.Runs.{first_outcome, other_outcomes, is_lost, at_end_by, at_end, all_at_end, closed}
use Rattle.wf_slot.specs.Units.{UnitState, server_of}
use Rattle.wf_slot.specs.Slots.{unit_of}
use Rattle.wf_world.specs.States.{WorldState, Kept, state_of, Finishes}
use Rattle.wf_world.specs.Fleets.{units_of, DoWork}

-- ONE SERVER

works_by : (stands : Bool) (s : Server) (h : Health) → s.health ≡ h → (at_end_by (is_lost h) stands s).health ≡ Works
unfolding recovered strokes
works_by stands s Works is = is
works_by stands s Failed is = refl
works_by stands s IsDown is = refl

works_then : (stands : Bool) (s : Server) → (at_end stands s).health ≡ Works
works_then stands s = works_by stands s s.health refl

-- ALL SERVERS

first_same : {A : Type 0} (x y : A) (xs ys : List A) → x ∷ xs ≡ y ∷ ys → x ≡ y
first_same x y xs ys e = cc

rest_same : {A : Type 0} (x y : A) (xs ys : List A) → x ∷ xs ≡ y ∷ ys → xs ≡ ys
rest_same x y xs ys e = cc

none_same : {A : Type 0} (x : A) (xs : List A) → [] ≡ x ∷ xs → ⊥
none_same x xs e = cc

some_same : {A : Type 0} (x y : A) → Some x ≡ Some y → x ≡ y
some_same x y e = cc

no_some : {A : Type 0} (x : A) → None ≡ Some x → ⊥
no_some x e = cc

all_work : (bs : List Bool) (ss : List Server) (units : List UnitState) → all_at_end bs ss ≡ map server_of units → (u : ℕ) (x : UnitState) → slice_get units u ≡ Some x → x.health ≡ Works
all_work bs ss [] is u x at = absurd (no_some x at)
all_work bs [] (y ∷ ys) is u x at = absurd (none_same (server_of y) (map server_of ys) is)
all_work bs (s ∷ ss) (y ∷ ys) is zero x at =
    let one = first_same (at_end (first_outcome bs) s) (server_of y) (all_at_end (other_outcomes bs) ss) (map server_of ys) is in
    ap (λ (z : UnitState). z.health) (sym (some_same y x at)) ∙ ap (λ (z : Server). z.health) (sym one) ∙ works_then (first_outcome bs) s
all_work bs (s ∷ ss) (y ∷ ys) is (suc u) x at =
    all_work (other_outcomes bs) ss ys (rest_same (at_end (first_outcome bs) s) (server_of y) (all_at_end (other_outcomes bs) ss) (map server_of ys) is) u x at

-- A WORLD

pub ended_work : (s : WorldState) (e : Ending) (world : Kept) → Finishes s e (state_of world) → DoWork world.slots
unfolding closed
ended_work s e world did =
    λ u t at.
    all_work did.machine.0 s.machine.servers (units_of world.slots) (ap (λ (m : CountingMachine). m.servers) did.machine.2) u (unit_of t)
    (slice_get-map unit_of world.slots u ∙ ap (option_map unit_of) at)
