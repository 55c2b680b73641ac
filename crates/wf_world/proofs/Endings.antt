-- What an end does to the units of a world is what it does to the machine that counts for them.
use Rattle.std.proofs.Common.{◌≡◌, ℕ, suc, ◌+◌, Bool, true, List, [], ◌∷◌, ◌++◌, map, length, slice_get, Some, refl, sym, ap, ap₂, ◌∙◌, arith, append_assoc}
use Rattle.std.proofs.lemmas.List.{length-map, append-nil}
use Rattle.wf_model.specs.declared.ids.UnitId.{UnitId}
use Rattle.wf_machine.specs.Server.{Server}
use Rattle.wf_machine.specs.Runs.{is_lost, at_end, all_at_end, closed, recovery_of, recoveries}
use Rattle.wf_histories.specs.Histories.{taken}
use Rattle.wf_world.specs.declared.mail.Sent.{Sent}
use Rattle.wf_slot.specs.Units.{UnitState, counted, server_of}
use Rattle.wf_world.specs.Machines.{machine_of}

-- ALL UNITS

-- each unit came to its end, by some outcome
abbrev pub AreEnded : List UnitState → List UnitState → Type 0
AreEnded units nexts = (u : ℕ) (x y : UnitState) → slice_get units u ≡ Some x → slice_get nexts u ≡ Some y → (stands : Bool) × (at_end stands (server_of x) ≡ server_of y)

all_ended : (units nexts : List UnitState) → length nexts ≡ length units → AreEnded units nexts → (bs : List Bool) × (all_at_end bs (map server_of units) ≡ map server_of nexts)
all_ended [] [] same ended = ([], refl)
all_ended [] (y ∷ ys) same ended = absurd (omega (arith, same))
all_ended (x ∷ xs) [] same ended = absurd (omega (arith, same))
all_ended (x ∷ xs) (y ∷ ys) same ended =
    let first = ended 0 x y refl refl in
    let rest = all_ended xs ys (omega (arith, same)) (λ u s t a b. ended (suc u) s t a b) in
    (first.0 ∷ rest.0, ap₂ (λ (s : Server) (ss : List Server). s ∷ ss) first.1 rest.1)

pub closed_is : (units nexts : List UnitState) (messages : List Sent) → length nexts ≡ length units → AreEnded units nexts → (bs : List Bool) × (closed (machine_of units messages) bs ≡ machine_of nexts messages)
unfolding closed
closed_is units nexts messages same ended =
    let all = all_ended units nexts same ended in
    (all.0, ap (λ (servers : List Server). record (machine_of units messages) { servers = servers }) all.1)

-- THE UNITS THAT WERE RECOVERED, one more at the end of both lists

pub recoveries_push : (u : ℕ) (xs ys : List Server) (s t : Server) → length ys ≡ length xs → recoveries u (xs ++ s ∷ []) (ys ++ t ∷ []) ≡ recoveries u xs ys ++ recovery_of (is_lost s.health) (u + length xs) t
recoveries_push u [] [] s t same =
    let off : u ≡ u + 0 = omega arith in
    append-nil (recovery_of (is_lost s.health) u t) ∙ ap (λ (v : ℕ). recovery_of (is_lost s.health) v t) off
recoveries_push u [] (y ∷ ys) s t same = absurd (omega (arith, same))
recoveries_push u (x ∷ xs) [] s t same = absurd (omega (arith, same))
recoveries_push u (x ∷ xs) (y ∷ ys) s t same =
    let rest = recoveries_push (u + 1) xs ys s t (omega (arith, same)) in
    let off : (u + 1) + length xs ≡ u + suc (length xs) = omega arith in
    ap (λ (more : List (UnitId × ℕ × ℕ)). recovery_of (is_lost x.health) u y ++ more) rest
    ∙ sym (append_assoc (recovery_of (is_lost x.health) u y) (recoveries (u + 1) xs ys) (recovery_of (is_lost s.health) ((u + 1) + length xs) t))
    ∙ ap (λ (v : ℕ). recoveries u (x ∷ xs) (y ∷ ys) ++ recovery_of (is_lost s.health) v t) off

-- a unit's counts
pub recovery_is : (u : ℕ) (unit : UnitState) → recovery_of true u (server_of unit) ≡ (record { 0 = u }, taken unit.past, length unit.past.admissions) ∷ []
recovery_is u unit = ap (λ (n : ℕ). (counts u (taken unit.past) n) ∷ []) (length-map unit.past.admissions counted)
  where
    counts : ℕ → ℕ → ℕ → UnitId × ℕ × ℕ
    counts v k n = (record { 0 = v }, k, n)
