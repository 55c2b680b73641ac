-- The raised events of the central run's step ascend, and are determined by their members.
use Rattle.std.proofs.Common.{◌≡◌, ◌↔◌, ℕ, ◌+◌, List, [], ◌∷◌, length, map, filter, Contains, refl, sym, ap, subst, ◌∙◌, arith}
use Rattle.std.specs.List.{range_with_len, list_any}
use Rattle.std.specs.List.Sorted.{IsStrictlyIncreasing}
use Rattle.std.proofs.lemmas.List.FromFn.{length-range_with_len, get_or-range_with_len}
use Rattle.std.proofs.lemmas.List.Kept.{IsStrictlyIncreasing-filter}
use Rattle.wf_model.specs.declared.ids.EventId.{EventId}
use Rattle.wf_model.specs.declared.chart.Chart.{Chart}
use Rattle.wf_model.specs.Seen.{Seen}
use Rattle.wf_semantics.specs.Effects.{raises, raised_by}
use Rattle.wf_actions.specs.Events.{numbers_of}
use Rattle.wf_actions.proofs.Ascending.{one_union}

abbrev event : ℕ → EventId
event e = record { 0 = e }

numbers_back : (ks : List ℕ) → numbers_of (map event ks) ≡ ks
numbers_back [] = refl
numbers_back (k ∷ ks) = ap (λ (l : List ℕ). k ∷ l) (numbers_back ks)

head_of : (j k : ℕ) (js ks : List ℕ) → j ∷ js ≡ k ∷ ks → j ≡ k
head_of j k js ks e = cc

tail_of : (j k : ℕ) (js ks : List ℕ) → j ∷ js ≡ k ∷ ks → js ≡ ks
tail_of j k js ks e = cc

same_numbers : (xs ys : List EventId) → numbers_of xs ≡ numbers_of ys → xs ≡ ys
same_numbers [] [] e = refl
same_numbers [] (y ∷ ys) e = cc
same_numbers (x ∷ xs) [] e = cc
same_numbers (x ∷ xs) (y ∷ ys) e =
    let first : x ≡ y = ap event (head_of x.0 y.0 (numbers_of xs) (numbers_of ys) e) in
    let rest : xs ≡ ys = same_numbers xs ys (tail_of x.0 y.0 (numbers_of xs) (numbers_of ys) e) in
    ap (λ (z : EventId). z ∷ xs) first ∙ ap (λ (l : List EventId). y ∷ l) rest

range_ascends : (n : ℕ) → IsStrictlyIncreasing (range_with_len 0 n)
range_ascends n k l =
    let all : length (range_with_len 0 n) ≡ n = length-range_with_len 0 n in
    omega (arith, get_or-range_with_len 0 n k 0 (omega arith), get_or-range_with_len 0 n (k + 1) 0 (omega arith))

raised_ascends : (chart : Chart) (seen : Seen) (fired : List ℕ) → IsStrictlyIncreasing (numbers_of (raised_by chart seen fired))
raised_ascends chart seen fired =
    let ks : List ℕ = filter (λ e. list_any (raises chart seen e) fired) (range_with_len 0 (length chart.events)) in
    subst IsStrictlyIncreasing (sym (numbers_back ks)) (IsStrictlyIncreasing-filter (λ e. list_any (raises chart seen e) fired) (range_with_len 0 (length chart.events)) (range_ascends (length chart.events)))

pub shares_raised : (chart : Chart) (seen : Seen) (fired : List ℕ) (events : List EventId) → IsStrictlyIncreasing (numbers_of events) → ((e : ℕ) → Contains (numbers_of events) e ↔ Contains (numbers_of (raised_by chart seen fired)) e) → events ≡ raised_by chart seen fired
shares_raised chart seen fired events up same =
    same_numbers events (raised_by chart seen fired)
    (one_union (numbers_of events) (numbers_of (raised_by chart seen fired)) up (raised_ascends chart seen fired) same)
