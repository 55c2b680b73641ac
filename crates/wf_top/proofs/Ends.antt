-- The counts of the units that were recovered at the end of a play show how their doubts came out.
use Rattle.std.proofs.Common.{◌≡◌, ℕ, ◌+◌, Bool, true, false, List, [], ◌∷◌, ◌++◌, length, Option, Some, None, refl, sym, ap, ap₂, arith}
use Rattle.std.proofs.lemmas.List.{length-append}
use Rattle.wf_model.specs.declared.ids.UnitId.{UnitId}
use Rattle.wf_model.specs.declared.chart.Chart.{Chart}
use Rattle.wf_machine.specs.Strokes.{strokes}
use Rattle.wf_machine.specs.Server.{Works, Record, Admits, Turns, Server, nothing, taken, stand, settled, recovered}
use Rattle.wf_machine.specs.Machine.{CountingMachine}
use Rattle.wf_machine.specs.Runs.{first_outcome, other_outcomes, is_lost, at_end_by, all_at_end, closed, recovery_of, recoveries, ending}

-- ONE SERVER

-- it was recovered, and its doubt came out so
abbrev settled_by : Bool → Option Record → Server → Server
settled_by stands doubt s = record (settled stands doubt s) { health = Works; came = nothing; fuse = None }

-- a record that stands is counted
counted : (r : Record) (s : Server) → taken (settled_by true (Some r) s) ≡ taken (settled_by false (Some r) s)
    → length (settled_by true (Some r) s).admissions ≡ length (settled_by false (Some r) s).admissions → ⊥
unfolding stand
counted (Admits a) s steps requests = let more = length-append s.admissions (a ∷ []) in omega (arith, more, requests)
counted (Turns n) s steps requests = let more = length-append s.sealed (n ∷ []) in omega (arith, more, steps)

same_settled : (b c : Bool) (doubt : Option Record) (s : Server) → taken (settled_by b doubt s) ≡ taken (settled_by c doubt s)
    → length (settled_by b doubt s).admissions ≡ length (settled_by c doubt s).admissions → settled_by b doubt s ≡ settled_by c doubt s
same_settled b c None s steps requests = refl
same_settled true true (Some r) s steps requests = refl
same_settled false false (Some r) s steps requests = refl
same_settled true false (Some r) s steps requests = absurd (counted r s steps requests)
same_settled false true (Some r) s steps requests = absurd (counted r s (sym steps) (sym requests))

same_end : (b c : Bool) (s : Server) → taken (at_end_by true b s) ≡ taken (at_end_by true c s)
    → length (at_end_by true b s).admissions ≡ length (at_end_by true c s).admissions → at_end_by true b s ≡ at_end_by true c s
unfolding recovered strokes
same_end b c s steps requests = same_settled b c s.doubt (record s { fuse = None }) steps requests

-- ALL SERVERS

abbrev Counts : Type 0
Counts = UnitId × ℕ × ℕ

first_same : (x y : Counts) (xs ys : List Counts) → x ∷ xs ≡ y ∷ ys → x ≡ y
first_same x y xs ys e = cc

rest_same : (x y : Counts) (xs ys : List Counts) → x ∷ xs ≡ y ∷ ys → xs ≡ ys
rest_same x y xs ys e = cc

-- the first server came out the same, and so are the counts of the others
first_ends : (lost b c : Bool) (u : ℕ) (s : Server) (xs ys : List Counts)
    → recovery_of lost u (at_end_by lost b s) ++ xs ≡ recovery_of lost u (at_end_by lost c s) ++ ys → (at_end_by lost b s ≡ at_end_by lost c s) × (xs ≡ ys)
first_ends false b c u s xs ys e = (refl, e)
first_ends true b c u s xs ys e =
    let first = first_same _ _ xs ys e in
    (same_end b c s (ap (λ (x : Counts). x.1) first) (ap (λ (x : Counts). x.2) first), rest_same _ _ xs ys e)

all_ends : (u : ℕ) (ss : List Server) (bs cs : List Bool) → recoveries u ss (all_at_end bs ss) ≡ recoveries u ss (all_at_end cs ss) → all_at_end bs ss ≡ all_at_end cs ss
all_ends u [] bs cs e = refl
all_ends u (s ∷ ss) bs cs e =
    let more = first_ends (is_lost s.health) (first_outcome bs) (first_outcome cs) u s (recoveries (u + 1) ss (all_at_end (other_outcomes bs) ss)) (recoveries (u + 1) ss (all_at_end (other_outcomes cs) ss)) e in
    ap₂ (λ (x : Server) (xs : List Server). x ∷ xs) more.0 (all_ends (u + 1) ss (other_outcomes bs) (other_outcomes cs) more.1)

pub ends_show : (chart : Chart) (m : CountingMachine) (bs cs : List Bool) → (ending chart m bs).recovered ≡ (ending chart m cs).recovered → closed m bs ≡ closed m cs
unfolding ending closed
ends_show chart m bs cs same = ap (λ (servers : List Server). record m { servers = servers }) (all_ends 0 m.servers bs cs same)
