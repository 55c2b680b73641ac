-- The texts of units, and the states that they watch.
use Rattle.std.proofs.Common.{◌≡◌, ℕ, suc, ◌+◌, ◌<◌, ◌∙◌, Bool, false, List, [], ◌∷◌, ◌++◌, All, length, map, filter, flat_map, get_or, cond, refl, ap, arith, append-nil}
use Rattle.std.proofs.lemmas.Grind.{flat_map-append}
use Rattle.std.proofs.lemmas.List.Elements.{All-map, All-filter}
use Rattle.std.proofs.lemmas.List.FromFn.{length-enumerate_from, get_or-enumerate_from}
use Rattle.std.specs.List.{range_with_len, enumerate_from}
use Rattle.wf_model.specs.declared.chart.Chart.{Chart}
use Rattle.wf_model.specs.declared.chart.State.{State}
use Rattle.wf_parts.specs.declared.data.KnownState.{KnownState}
use Rattle.wf_parts.specs.declared.data.PartData.{PartData}
use Rattle.wf_model.specs.Tree.{all_states}
use Rattle.wf_model.proofs.Rows.{row_at, range_more}
use Rattle.wf_parts.specs.Known.{watches_state, knows_state}
use Rattle.wf_parts.specs.Parts.{part_of, known_state, numbered}
use Rattle.wf_partition.specs.SplitText.{bit, AreWatched}

-- one more number makes one more piece
pub pieces_more : {A : Type 0} (f : ℕ → List A) (n : ℕ) → flat_map f (range_with_len 0 (n + 1)) ≡ flat_map f (range_with_len 0 n) ++ f n
pieces_more {A} f n =
    ap (flat_map f) (range_more n) ∙ flat_map-append f (range_with_len 0 n) (n ∷ []) ∙ ap (λ (l : List A). flat_map f (range_with_len 0 n) ++ l) (append-nil (f n))

-- two tests that agree on each item keep the same items
pub filter_same : {A : Type 0} (p q : A → Bool) (xs : List A) → All (λ x. p x ≡ q x) xs → filter p xs ≡ filter q xs
filter_same p q [] same = refl
filter_same p q (x ∷ xs) same =
    let head : p x ≡ q x = same 0 x (omega arith) in
    let rest = filter_same p q xs (λ k d lt. same (suc k) d (omega arith)) in
    λ i. cond (head i) (x ∷ rest i) (rest i)

-- a state with its number: the bit tells
told_at : (chart : Chart) (u : ℕ) (bits : List Bool) → bits ≡ map (watches_state chart u) (all_states chart)
    → All (λ (x : ℕ × State). bit bits x.0 ≡ watches_state chart u x.0) (enumerate_from 0 chart.states)
told_at chart u bits is k d lt =
    let within : k < length chart.states = omega (arith, length-enumerate_from 0 chart.states) in
    let zero_more : 0 + k ≡ k = omega arith in
    let number : (get_or (enumerate_from 0 chart.states) k d).0 ≡ k = ap (λ (x : ℕ × State). x.0) (get_or-enumerate_from 0 chart.states k d within) ∙ zero_more in
    rw number (row_at (watches_state chart u) (length chart.states) k false bits is within)

-- the bits of all states tell of each that the unit knows
pub told_of_known : (chart : Chart) (u : ℕ) (part : PartData) (bits : List Bool) → part ≡ part_of chart u → bits ≡ map (watches_state chart u) (all_states chart)
    → AreWatched chart part bits
unfolding part_of
told_of_known chart u part bits is rows =
    rw is
    (All-map (λ (k : KnownState). bit bits k.id.0 ≡ watches_state chart u k.id.0) (known_state chart) (numbered (knows_state chart u) chart.states)
    (All-filter (λ (x : ℕ × State). knows_state chart u x.0) (λ (x : ℕ × State). bit bits x.0 ≡ watches_state chart u x.0) (enumerate_from 0 chart.states)
    (told_at chart u bits rows)))
