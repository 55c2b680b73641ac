-- The whole merged list, and the places of a unit's admissions in it.
use Rattle.std.proofs.Common.{◌≡◌, ℕ, zero, suc, ◌+◌, ◌<◌, ◌≤◌, min, ◌⊎◌, List, [], ◌∷◌, ◌++◌, map, flat_map, length, take, sum, get_or, unwrap_or, slice_get, inl, inr, refl, sym, ap, ap₂, ◌∙◌, arith}
use Rattle.std.specs.List.{range_with_len}
use Rattle.std.proofs.Math.Seq.{take-suc}
use Rattle.std.proofs.lemmas.List.{append-nil}
use Rattle.std.proofs.lemmas.List.Sums.{sum_by_push}
use Rattle.wf_semantics.proofs.Children.{lt_or_ge}
use Rattle.wf_views.proofs.Lists.{map_agree}
use Rattle.wf_machine.specs.Server.{Server, new_server, taken as steps_taken, sealed_at, numbers_sealed}
use Rattle.wf_machine.specs.Machine.{CountingMachine, server, entries_at, least_of}
use Rattle.wf_machine.proofs.Stays.{sealed_number}
use Rattle.wf_histories.specs.Histories.{History, taken}
use Rattle.wf_histories.specs.Agreement.{lean, least_taken, merged_entries}
use Rattle.wf_histories.proofs.MergedList.{least_is, least_taken_below}
use Rattle.wf_bridge.specs.Bridging.{CountsOf}
use Rattle.wf_bridge.specs.Places.{MergedSame, NumbersInOrder, LetterCut}
use Rattle.wf_worlds.proofs.Growing.{range_push}
use Rattle.wf_bridge.proofs.Bridging.{entries_are, taken_is}
use Rattle.wf_bridge.proofs.Sharing.{update_same}

abbrev at : List Server → ℕ → ℕ
at ss i = steps_taken (unwrap_or (slice_get ss i) new_server)

-- the least count is one of them, and no more than each
least_some : (s : Server) (ss : List Server) → (i : ℕ) × (i < length (s ∷ ss)) × (least_of (s ∷ ss) ≡ at (s ∷ ss) i)
least_some s [] = (0, omega arith, refl)
least_some s (t ∷ ss) = go (least_some t ss) (lt_or_ge (least_of (t ∷ ss)) (steps_taken s))
  where
    go : ((i : ℕ) × (i < length (t ∷ ss)) × (least_of (t ∷ ss) ≡ at (t ∷ ss) i)) → (least_of (t ∷ ss) < steps_taken s) ⊎ (steps_taken s ≤ least_of (t ∷ ss)) → (i : ℕ) × (i < length (s ∷ (t ∷ ss))) × (min (steps_taken s) (least_of (t ∷ ss)) ≡ at (s ∷ (t ∷ ss)) i)
    go w c = elim c [
      | inl l ↦ let a = w.1 in let e = w.2 in (suc w.0, omega (arith, a), let q : min (steps_taken s) (least_of (t ∷ ss)) ≡ at (t ∷ ss) w.0 = omega (arith, e, l) in q)
      | inr g ↦ (0, omega arith, omega (arith, g))
    ]

least_low : (s : Server) (ss : List Server) (i : ℕ) → i < length (s ∷ ss) → least_of (s ∷ ss) ≤ at (s ∷ ss) i
least_low s [] zero l = omega arith
least_low s [] (suc i) l = absurd (omega (arith, l))
least_low s (t ∷ ss) zero l = omega arith
least_low s (t ∷ ss) (suc i) l = let ih = least_low t ss i (omega (arith, l)) in let q : min (steps_taken s) (least_of (t ∷ ss)) ≤ at (t ∷ ss) i = omega (arith, ih) in q

least_same : (m : CountingMachine) (n : ℕ) (h : ℕ → History) → CountsOf m n h → least_of m.servers ≡ least_taken n h
least_same m n h c = go m.servers refl n refl
  where
    go : (ss : List Server) → m.servers ≡ ss → (k : ℕ) → n ≡ k → least_of ss ≡ least_taken k h
    go [] e zero q = refl
    go [] e (suc k) q = let u = c.units in let l : length m.servers ≡ 0 = ap (λ (ss : List Server). length ss) e in absurd (omega (arith, u, l, q))
    go (s ∷ ss) e zero q = let u = c.units in let l : length m.servers ≡ length (s ∷ ss) = ap (λ (ss : List Server). length ss) e in absurd (omega (arith, u, l, q))
    go (s ∷ ss) e (suc k) q =
        let u = c.units in
        let l : length m.servers ≡ length (s ∷ ss) = ap (λ (ss : List Server). length ss) e in
        let same : (i : ℕ) → i < n → at (s ∷ ss) i ≡ taken (h i) = λ i lt. ap (λ (xs : List Server). at xs i) (sym e) ∙ taken_is m n h c i lt in
        let a = least_some s ss in
        let a_in = a.1 in let a_is = a.2 in
        let a_lt : a.0 < n = omega (arith, a_in, u, l) in
        let a_same = same a.0 a_lt in
        let b = least_is (λ v. taken (h v)) k in
        let b_in = b.1 in let b_is = b.2 in
        let b_lt : b.0 < n = omega (arith, b_in, q) in
        let b_same = same b.0 b_lt in
        let low = least_low s ss b.0 (omega (arith, b_lt, u, l)) in
        let high = least_taken_below (suc k) h a.0 (omega (arith, a_lt, q)) in
        omega (arith, a_is, a_same, b_is, b_same, low, high)

pub merged_same : MergedSame
merged_same m n h c =
    let e = least_same m n h c in (
      e,
      ap (λ (k : ℕ). map (entries_at m) (range_with_len 1 (k + 2))) e
          ∙ map_agree (entries_at m) (merged_entries n h) (range_with_len 1 (least_taken n h + 2)) (λ i mem. entries_are m n h c i),
    )

range_both : (a n k : ℕ) → range_with_len a n ++ range_with_len (a + n) k ≡ range_with_len a (n + k)
range_both a zero k = ap₂ range_with_len (let q : a + 0 ≡ a = omega arith in q) (let q : k ≡ 0 + k = omega arith in q)
range_both a (suc n) k =
    ap (λ (l : List ℕ). a ∷ l) (ap (λ (b : ℕ). range_with_len (a + 1) n ++ range_with_len b k) (let q : a + suc n ≡ a + 1 + n = omega arith in q) ∙ range_both (a + 1) n k)
    ∙ ap (range_with_len a) (let q : suc (n + k) ≡ suc n + k = omega arith in q)

numbers_first : (ss : List ℕ) (k : ℕ) → k ≤ length ss → flat_map (numbers_sealed ss) (range_with_len 1 k) ≡ range_with_len 1 (sum (take k ss))
numbers_first ss zero le = refl
numbers_first ss (suc k) le =
    let s : ℕ = sum (take k ss) in
    let more : sum (take (suc k) ss) ≡ sum (take k ss) + get_or ss k 0 = ap sum (take-suc ss k 0 (omega (arith, le))) ∙ sum_by_push (λ (x : ℕ). x) (take k ss) (get_or ss k 0) in
    ap (flat_map (numbers_sealed ss)) (sym (range_push 1 k))
    ∙ Rattle.std.proofs.lemmas.Grind.flat_map-append (numbers_sealed ss) (range_with_len 1 k) ((1 + k) ∷ [])
    ∙ ap₂ (λ (xs ys : List ℕ). xs ++ ys) (numbers_first ss k (omega (arith, le)))
    (ap (λ (j : ℕ). numbers_sealed ss j ++ []) (let q : 1 + k ≡ suc k = omega arith in q) ∙ append-nil (range_with_len (s + 1) (sealed_at ss k))
    ∙ ap₂ range_with_len (let q : s + 1 ≡ 1 + s = omega arith in q) (sealed_number ss k))
    ∙ range_both 1 s (get_or ss k 0)
    ∙ ap (range_with_len 1) (sym more)

pub numbers_in_order : NumbersInOrder
numbers_in_order m u k le = numbers_first (server m u).sealed k le

pub letter_cut : LetterCut
letter_cut chart m h v u j are c lt le = ap (lean chart v u) (update_same chart m h v j are c (omega (arith, lt)) le)
