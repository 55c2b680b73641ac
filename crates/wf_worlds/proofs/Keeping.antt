-- What holds of the views and updates of servers whose histories are sound.
use Rattle.std.proofs.Common.{◌≡◌, ℕ, zero, suc, ◌+◌, ◌*◌, ◌<◌, ◌≤◌, ◌==◌, ◌&&◌, not, nat_le, cond, Bool, true, false, List, [], ◌∷◌, map, filter, take, drop, get_or, length, Option, Some, None, inl, inr, refl, sym, ap, ap₂, ◌∙◌, subst, arith, le-leb, true≢false}
use Rattle.std.specs.Option.{option_map_or}
use Rattle.std.specs.List.{list_all, range_with_len, sum, insert}
use Rattle.std.proofs.lemmas.Bool.{leb-true}
use Rattle.std.proofs.lemmas.List.FromFn.{length-range_with_len}
use Rattle.wf_model.specs.Limits.{max_starts, max_sealed}
use Rattle.wf_model.specs.declared.chart.Chart.{Chart}
use Rattle.wf_parts.specs.declared.data.PartData.{PartData}
use Rattle.wf_model.specs.declared.update.StartAt.{StartAt}
use Rattle.wf_model.specs.declared.update.Update.{Update}
use Rattle.wf_model.specs.Accepted.{IsAccepted}
use Rattle.wf_model.proofs.Bools.{Mem, and_both, and_true}
use Rattle.wf_semantics.proofs.Lists.{range_mem, filter_mem}
use Rattle.wf_parts.specs.Parts.{part_of}
use Rattle.wf_views.specs.OwnSteps.{own_update}
use Rattle.wf_views.specs.Relevant.{cut_update, is_listed}
use Rattle.wf_views.proofs.LawsHold.{first_is_view, absorbed_is_view}
use Rattle.wf_lockstep.specs.Within.{is_at_unit}
use Rattle.wf_histories.specs.Histories.{Admission, History, seals, taken, inputs_at, sealed_by, local}
use Rattle.wf_histories.specs.Agreement.{peers}
use Rattle.wf_owns.specs.Ranges.{has_item}
use Rattle.wf_owns.specs.Sorted.{is_fit, IsSortedView}
use Rattle.wf_worlds.specs.Counts.{starts_few, HasFewStarts}
use Rattle.wf_worlds.specs.Worlds.{World, Sound, letter}
use Rattle.wf_worlds.specs.Kept.{LocalIsView, LocalIsSorted, LocalUpdateInRange, AreKept, SoundIsKept, LetterIsFit}
use Rattle.wf_owns.proofs.Ranged.{own_in_range, filter_short, length_map}
use Rattle.wf_owns.proofs.Sorting.{first_is_sorted, absorbed_is_sorted, own_is_fit, cut_is_fit}
use Rattle.wf_worlds.proofs.Counted.{counts_are_bounded, insert_all, own_few}
use Rattle.wf_worlds.proofs.Growing.{sealed_pass}
use Rattle.wf_parts.specs.declared.data.Known.{Known}
use Rattle.wf_parts.specs.Peers.{Knowledge, peers_of}

pub local_is_view : LocalIsView
unfolding local
local_is_view part h zero = first_is_view part
local_is_view part h (suc j) = absorbed_is_view part (local part h j) (insert (inputs_at h j) part.unit.0 (own_update part (suc j) (local part h j) (sealed_by h j))) (local_is_view part h j)

pub local_is_sorted : LocalIsSorted
unfolding local
local_is_sorted chart u zero h ok at fit = first_is_sorted chart u ok
local_is_sorted chart u (suc j) h ok at fit =
    let part : PartData = part_of chart u in
    let ih = local_is_sorted chart u j h ok at (λ i l. fit i (omega (arith, l))) in
    let own : Update = own_update part (suc j) (local part h j) (sealed_by h j) in
    absorbed_is_sorted part (local part h j) (insert (inputs_at h j) part.unit.0 own) ih
    (insert_all (is_fit part) (inputs_at h j) part.unit.0 own (fit j (omega arith)) (own_is_fit chart u u (suc j) (local part h j) (sealed_by h j) ok (local_is_view part h j) ih (at j)))

-- what a Turn seals is few
number_passes : (ns : List ℕ) (i : ℕ) → list_all (λ n. nat_le n max_sealed) ns ≡ true → get_or ns i 0 ≤ max_sealed
number_passes [] i h = omega arith
number_passes (n ∷ ns) zero h = leb-true n max_sealed (and_both (nat_le n max_sealed) (list_all (λ n. nat_le n max_sealed) ns) h).0
number_passes (n ∷ ns) (suc i) h = number_passes ns i (and_both (nat_le n max_sealed) (list_all (λ n. nat_le n max_sealed) ns) h).1

take_short : {A : Type 0} (k : ℕ) (xs : List A) → length (take k xs) ≤ k
take_short zero xs = omega arith
take_short (suc k) [] = omega arith
take_short (suc k) (x ∷ xs) = let ih = take_short k xs in omega (arith, ih)

sealed_short : (h : History) (j : ℕ) → list_all (λ n. nat_le n max_sealed) (seals h) ≡ true → length (sealed_by h j) ≤ max_sealed
unfolding sealed_by
sealed_short h zero few = omega arith
sealed_short h (suc i) few =
    let xs : List Admission = drop (sum (take i (seals h))) h.admissions in
    let a = length_map (λ (a : Admission). a.outer) (take (get_or (seals h) i 0) xs) in
    let b = take_short (get_or (seals h) i 0) xs in
    let c = number_passes (seals h) i few in
    omega (arith, a, b, c)

pub local_update_in_range : LocalUpdateInRange
local_update_in_range chart u j h ok lt g steps le =
    (own_in_range chart u (suc j) (local (part_of chart u) h j) (sealed_by h j) ok lt (omega arith) (omega (arith, steps, le)) (sealed_short h j g.few) (sealed_pass (is_at_unit chart u) h g.at_unit j) (sealed_pass has_item h g.items j)).0

-- ALL SERVERS

all_mapped : {A : Type 0} (p : A → Bool) (f : ℕ → A) (xs : List ℕ) → ((x : ℕ) → Mem x xs → p (f x) ≡ true) → list_all p (map f xs) ≡ true
all_mapped p f [] h = refl
all_mapped p f (x ∷ xs) h = and_true (p (f x)) (list_all p (map f xs)) (h x (inl refl)) (all_mapped p f xs (λ y m. h y (inr m)))

cut_few : (known : Knowledge) (update : Update) → starts_few update ≡ true → starts_few (cut_update known update) ≡ true
unfolding cut_update
cut_few known update h =
    let a = leb-true (length update.starts) max_starts h in
    let b = filter_short (λ (s : StartAt). known.acts s.act.0) update.starts in
    le-leb (length (filter (λ (s : StartAt). known.acts s.act.0) update.starts)) max_starts (omega (arith, a, b))

-- a list without one of its numbers is shorter
pub without : (u a n : ℕ) → a ≤ u → u < a + n → length (filter (λ v. not (v == u)) (range_with_len a n)) < n
without u a zero l k = absurd (omega (arith, l, k))
without u a (suc n) l k = go (a == u) refl (λ ne. without u (a + 1) n (omega (arith, l, ne)) (omega (arith, k)))
  where
    rest : List ℕ
    rest = filter (λ v. not (v == u)) (range_with_len (a + 1) n)

    go : (b : Bool) → (a == u) ≡ b → ((a ≡ u → ⊥) → length (filter (λ v. not (v == u)) (range_with_len (a + 1) n)) < n) → length (cond (not b) (a ∷ filter (λ v. not (v == u)) (range_with_len (a + 1) n)) (filter (λ v. not (v == u)) (range_with_len (a + 1) n))) < suc n
    go true e ih = let f = filter_short (λ v. not (v == u)) (range_with_len (a + 1) n) in let r = length-range_with_len (a + 1) n in omega (arith, f, r)
    go false e ih = let s = ih (λ q. true≢false (sym (Rattle.std.proofs.Common.eq-eqb a u q) ∙ e)) in omega (arith, s)

module _ (chart : Chart) (w : World) (ok : IsAccepted chart) (s : Sound chart w) where
  abbrev n : ℕ
  n = length chart.units

  at_units : (v : ℕ) → v < n → (i : ℕ) → list_all (is_at_unit chart v) (sealed_by (w.hist v) i) ≡ true
  at_units v lt i = sealed_pass (is_at_unit chart v) (w.hist v) (s.good v lt).at_unit i

  letter_fit : (v u j : ℕ) → v < n → IsSortedView (part_of chart v) (local (part_of chart v) (w.hist v) j) → is_fit (part_of chart u) (letter chart w.hist v u (suc j)) ≡ true
  letter_fit v u j lt sorted =
      let part : PartData = part_of chart v in
      cut_is_fit (part_of chart u) (option_map_or is_listed (Rattle.std.specs.Prelude.find (λ (known : Known). known.unit.0 == u) (peers_of chart v)) (record { states = λ s. false; vars = λ x. false; events = λ e. false; acts = λ a. false })) (own_update part (suc j) (local part (w.hist v) j) (sealed_by (w.hist v) j))
      (own_is_fit chart v u (suc j) (local part (w.hist v) j) (sealed_by (w.hist v) j) ok (local_is_view part (w.hist v) j) sorted (at_units v lt j))

  letter_few : (v u j : ℕ) → starts_few (letter chart w.hist v u (suc j)) ≡ true
  letter_few v u j =
      let part : PartData = part_of chart v in
      cut_few (option_map_or is_listed (Rattle.std.specs.Prelude.find (λ (known : Known). known.unit.0 == u) (peers_of chart v)) (record { states = λ s. false; vars = λ x. false; events = λ e. false; acts = λ a. false })) (own_update part (suc j) (local part (w.hist v) j) (sealed_by (w.hist v) j))
      (own_few chart v (suc j) (local part (w.hist v) j) (sealed_by (w.hist v) j) ok)

  peer_below : (u v : ℕ) → Mem v (peers n u) → v < n
  peer_below u v m = let r = (range_mem 0 n v (filter_mem (λ v. not (v == u)) (range_with_len 0 n) v m).0).1 in omega (arith, r)

  -- all views up to a step are sorted, and so what they make of the next
  sorted_upto : (j u : ℕ) → u < n → j ≤ taken (w.hist u) → IsSortedView (part_of chart u) (local (part_of chart u) (w.hist u) j)
  sorted_upto j u lt le = local_is_sorted chart u j (w.hist u) ok (at_units u lt) (λ i l. inputs_fit j (λ k q v lv lk. sorted_below j k q v lv lk) i u lt l (omega (arith, le, l)))
    where
      inputs_fit : (j : ℕ) → ((k : ℕ) → k < j → (v : ℕ) → v < n → k ≤ taken (w.hist v) → IsSortedView (part_of chart v) (local (part_of chart v) (w.hist v) k)) → (i u : ℕ) → u < n → i < j → i < taken (w.hist u) → list_all (is_fit (part_of chart u)) (inputs_at (w.hist u) i) ≡ true
      inputs_fit j below i u lt l li =
          ap (list_all (is_fit (part_of chart u))) (s.agree.kept u i lt li)
          ∙ all_mapped (is_fit (part_of chart u)) (λ v. letter chart w.hist v u (suc i)) (peers n u) (λ v m.
          let lv = peer_below u v m in let near = s.agree.made u v lt lv in letter_fit v u i lv (below i l v lv (omega (arith, near, li))))

      sorted_below : (j k : ℕ) → k < j → (v : ℕ) → v < n → k ≤ taken (w.hist v) → IsSortedView (part_of chart v) (local (part_of chart v) (w.hist v) k)
      sorted_below zero k q v lv lk = absurd (omega (arith, q))
      sorted_below (suc j) k q v lv lk = local_is_sorted chart v k (w.hist v) ok (at_units v lv) (λ i l. inputs_fit k (λ a b x lx la. sorted_below j a (omega (arith, b, q)) x lx la) i v lv l (omega (arith, l, lk)))

  pub kept_at : (u : ℕ) → u < n → AreKept chart w u
  kept_at u lt = record {
    fit = λ i l.
        ap (list_all (is_fit (part_of chart u))) (s.agree.kept u i lt l)
        ∙ all_mapped (is_fit (part_of chart u)) (λ v. letter chart w.hist v u (suc i)) (peers n u) (λ v m.
        let lv = peer_below u v m in let near = s.agree.made u v lt lv in letter_fit v u i lv (sorted_upto i v lv (omega (arith, near, l))));
    few = small;
    sorted = λ j le. sorted_upto j u lt le;
    counts = λ j le. counts_are_bounded chart u j (w.hist u) ok small le;
  }
    where
      small : HasFewStarts chart (w.hist u)
      small = record {
        peers = λ j l.
            let a : length (inputs_at (w.hist u) j) ≡ length (map (λ v. letter chart w.hist v u (suc j)) (peers n u)) = ap (λ (l : List Update). length l) (s.agree.kept u j lt l) in
            let b = length_map (λ v. letter chart w.hist v u (suc j)) (peers n u) in
            let c = without u 0 n (omega arith) (omega (arith, lt)) in omega (arith, a, b, c);
        starts = λ j l. ap (list_all starts_few) (s.agree.kept u j lt l) ∙ all_mapped starts_few (λ v. letter chart w.hist v u (suc j)) (peers n u) (λ v m. letter_few v u j);
      }

  pub letter_at : (v u j : ℕ) → v < n → j ≤ taken (w.hist v) → is_fit (part_of chart u) (letter chart w.hist v u (suc j)) ≡ true
  letter_at v u j lt le = letter_fit v u j lt (sorted_upto j v lt le)

pub sound_is_kept : SoundIsKept
sound_is_kept chart w u ok s lt = kept_at chart w ok s u lt

pub letter_is_fit : LetterIsFit
letter_is_fit chart w v u j ok s lt le = letter_at chart w ok s v u j lt le
