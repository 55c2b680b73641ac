-- The order of the starts of an update.
use Rattle.std.proofs.Common.{◌≡◌, ℕ, zero, suc, ◌+◌, ◌==◌, ◌&&◌, nat_lt, nat_le, cond, Bool, true, false, List, [], ◌∷◌, ◌++◌, filter, flat_map, length, refl, sym, ap, ◌∙◌, arith, eqb-true, eq-eqb}
use Rattle.std.specs.List.{list_all, range_with_len}
use Rattle.std.proofs.lemmas.Bool.{leb-true}
use Rattle.std.proofs.lemmas.Bool.Decides.{nat_tests}
use Rattle.std.proofs.lemmas.List.Folds.{list_all-append, flat_map-map}
use Rattle.wf_model.specs.declared.ids.TransId.{TransId}
use Rattle.wf_model.specs.declared.chart.Action.{Action}
use Rattle.wf_model.specs.declared.chart.Action.TheVariants.{Assign, Raise, Start}
use Rattle.wf_parts.specs.declared.data.PartTransition.{PartTransition}
use Rattle.wf_model.specs.declared.update.StartAt.{StartAt}
use Rattle.wf_model.specs.Tree.{all_transitions}
use Rattle.wf_semantics.specs.Snapshot.{Snapshot}
use Rattle.wf_semantics.specs.Effects.{starts_from}
use Rattle.wf_model.proofs.Bools.{and_both, and_true, or_left, or_right}
use Rattle.wf_runs.specs.Starts.{is_earlier}
use Rattle.wf_parts.specs.Known.{concerns}
use Rattle.wf_parts.specs.Parts.{part_of}
use Rattle.wf_views.specs.Views.{sees}
use Rattle.wf_views.specs.OwnSteps.{is_fired_in, part_step}
use Rattle.wf_lockstep.specs.Ordered.{starts_ascend, OwnStartsAscend}
use Rattle.wf_lockstep.proofs.Numbered.{filter_filter, flat_agree}
use Rattle.wf_lockstep.proofs.Firing.{trans_at, trans_id_at}
use Rattle.wf_lockstep.proofs.Within.{own_fired_at, mine}

all_weaker : {A : Type 0} (p q : A → Bool) → ((x : A) → p x ≡ true → q x ≡ true) → (xs : List A) → list_all p xs ≡ true → list_all q xs ≡ true
all_weaker p q h [] k = refl
all_weaker p q h (x ∷ xs) k = let both = and_both (p x) (list_all p xs) k in and_true (q x) (list_all q xs) (h x both.0) (all_weaker p q h xs both.1)

-- of transition t, at this place or later
abbrev from_place : ℕ → ℕ → StartAt → Bool
from_place t place s = (s.trans.0 == t) && nat_le place s.place

later_place : (t place : ℕ) (s : StartAt) → from_place t (place + 1) s ≡ true → from_place t place s ≡ true
later_place t place s h =
    let both = and_both (s.trans.0 == t) (nat_le (place + 1) s.place) h in
    let le : nat_le place s.place ≡ true = let l = leb-true (place + 1) s.place both.1 in grind (arith, nat_tests) in
    and_true (s.trans.0 == t) (nat_le place s.place) both.0 le

block_places : (t place : ℕ) (xs : List Action) → list_all (from_place t place) (starts_from t place xs) ≡ true
block_places t place [] = refl
block_places t place (Assign x value ∷ xs) = all_weaker (from_place t (place + 1)) (from_place t place) (later_place t place) (starts_from t (place + 1) xs) (block_places t (place + 1) xs)
block_places t place (Raise e ∷ xs) = all_weaker (from_place t (place + 1)) (from_place t place) (later_place t place) (starts_from t (place + 1) xs) (block_places t (place + 1) xs)
block_places t place (Start a ∷ xs) =
    let here : nat_le place place ≡ true = grind (arith, nat_tests) in
    and_true ((t == t) && nat_le place place) (list_all (from_place t place) (starts_from t (place + 1) xs)) (and_true (t == t) (nat_le place place) (eq-eqb t t refl) here)
    (all_weaker (from_place t (place + 1)) (from_place t place) (later_place t place) (starts_from t (place + 1) xs) (block_places t (place + 1) xs))

earlier_place : (t place : ℕ) (a : Rattle.wf_model.specs.declared.ids.ActId.ActId) (s : StartAt) → from_place t (place + 1) s ≡ true → is_earlier (record { act = a; trans = record { 0 = t }; place = place }) s ≡ true
earlier_place t place a s h =
    let both = and_both (s.trans.0 == t) (nat_le (place + 1) s.place) h in
    let lt : nat_lt place s.place ≡ true = let l = leb-true (place + 1) s.place both.1 in grind (arith, nat_tests) in
    or_right (nat_lt t s.trans.0) ((t == s.trans.0) && nat_lt place s.place) (and_true (t == s.trans.0) (nat_lt place s.place) (eq-eqb t s.trans.0 (sym (eqb-true s.trans.0 t both.0))) lt)

block_ascends : (t place : ℕ) (xs : List Action) → starts_ascend (starts_from t place xs) ≡ true
block_ascends t place [] = refl
block_ascends t place (Assign x value ∷ xs) = block_ascends t (place + 1) xs
block_ascends t place (Raise e ∷ xs) = block_ascends t (place + 1) xs
block_ascends t place (Start a ∷ xs) =
    and_true (list_all (is_earlier (record { act = a; trans = record { 0 = t }; place = place })) (starts_from t (place + 1) xs)) (starts_ascend (starts_from t (place + 1) xs))
    (all_weaker (from_place t (place + 1)) (is_earlier (record { act = a; trans = record { 0 = t }; place = place })) (earlier_place t place a) (starts_from t (place + 1) xs) (block_places t (place + 1) xs))
    (block_ascends t (place + 1) xs)

-- two lists, the first of transition t and the second of later ones

abbrev from_trans : ℕ → StartAt → Bool
from_trans t s = nat_le t s.trans.0

both_ascend : (t : ℕ) (xs ys : List StartAt) → starts_ascend xs ≡ true → list_all (from_place t 0) xs ≡ true → starts_ascend ys ≡ true → list_all (from_trans (t + 1)) ys ≡ true → starts_ascend (xs ++ ys) ≡ true
both_ascend t [] ys h k l m = l
both_ascend t (x ∷ xs) ys h k l m =
    let a = and_both (list_all (is_earlier x) xs) (starts_ascend xs) h in
    let p = and_both (from_place t 0 x) (list_all (from_place t 0) xs) k in
    let at : x.trans.0 ≡ t = eqb-true x.trans.0 t (and_both (x.trans.0 == t) (nat_le 0 x.place) p.0).0 in
    and_true (list_all (is_earlier x) (xs ++ ys)) (starts_ascend (xs ++ ys))
    (list_all-append (is_earlier x) xs ys ∙ and_true (list_all (is_earlier x) xs) (list_all (is_earlier x) ys) a.0
    (all_weaker (from_trans (t + 1)) (is_earlier x) (λ s q.
    let lt : nat_lt x.trans.0 s.trans.0 ≡ true = let le = leb-true (t + 1) s.trans.0 q in grind (arith, nat_tests) in
    or_left (nat_lt x.trans.0 s.trans.0) ((x.trans.0 == s.trans.0) && nat_lt x.place s.place) lt) ys m))
    (both_ascend t xs ys a.1 p.1 l m)

module _ (actions : ℕ → List Action) (p : ℕ → Bool) where
  abbrev block : ℕ → List StartAt
  block t = starts_from t 0 (actions t)

  range_from : (a n : ℕ) → list_all (from_trans a) (flat_map block (filter p (range_with_len a n))) ≡ true
  range_from a zero = refl
  range_from a (suc n) = go (p a) (all_weaker (from_trans (a + 1)) (from_trans a) (λ s q. let le = leb-true (a + 1) s.trans.0 q in let r : nat_le a s.trans.0 ≡ true = grind (arith, nat_tests) in r) (flat_map block (filter p (range_with_len (a + 1) n))) (range_from (a + 1) n))
    where
      go : (b : Bool) → list_all (from_trans a) (flat_map block (filter p (range_with_len (a + 1) n))) ≡ true → list_all (from_trans a) (flat_map block (cond b (a ∷ filter p (range_with_len (a + 1) n)) (filter p (range_with_len (a + 1) n)))) ≡ true
      go true ih =
          list_all-append (from_trans a) (block a) (flat_map block (filter p (range_with_len (a + 1) n)))
          ∙ and_true (list_all (from_trans a) (block a)) (list_all (from_trans a) (flat_map block (filter p (range_with_len (a + 1) n))))
          (all_weaker (from_place a 0) (from_trans a) (λ s q. let e = eqb-true s.trans.0 a (and_both (s.trans.0 == a) (nat_le 0 s.place) q).0 in let r : nat_le a s.trans.0 ≡ true = grind (arith, nat_tests) in r) (block a) (block_places a 0 (actions a))) ih
      go false ih = ih

  range_ascend : (a n : ℕ) → starts_ascend (flat_map block (filter p (range_with_len a n))) ≡ true
  range_ascend a zero = refl
  range_ascend a (suc n) = go (p a) (range_ascend (a + 1) n)
    where
      go : (b : Bool) → starts_ascend (flat_map block (filter p (range_with_len (a + 1) n))) ≡ true → starts_ascend (flat_map block (cond b (a ∷ filter p (range_with_len (a + 1) n)) (filter p (range_with_len (a + 1) n)))) ≡ true
      go true ih = both_ascend a (block a) (flat_map block (filter p (range_with_len (a + 1) n))) (block_ascends a 0 (actions a)) (block_places a 0 (actions a)) ih (range_from (a + 1) n)
      go false ih = ih

pub own_starts_ascend : OwnStartsAscend
unfolding part_step
own_starts_ascend chart u k view outers =
    let snap : Snapshot = sees (part_of chart u) view in
    ap starts_ascend
    (ap (flat_map (λ (p : PartTransition). starts_from p.id.0 0 p.actions)) (own_fired_at chart u snap)
    ∙ flat_map-map (λ (p : PartTransition). starts_from p.id.0 0 p.actions) (trans_at chart u) (mine chart u snap)
    ∙ flat_agree (λ t. starts_from (trans_at chart u t).id.0 0 (trans_at chart u t).actions) (λ t. starts_from t 0 (trans_at chart u t).actions) (mine chart u snap)
    (λ t m. ap (λ (i : TransId). starts_from i.0 0 (trans_at chart u t).actions) (trans_id_at chart u t))
    ∙ ap (flat_map (λ t. starts_from t 0 (trans_at chart u t).actions)) (filter_filter (λ t. (trans_at chart u t).own && is_fired_in (part_of chart u) snap (trans_at chart u t)) (concerns chart u) (all_transitions chart)))
    ∙ range_ascend (λ t. (trans_at chart u t).actions) (λ t. ((trans_at chart u t).own && is_fired_in (part_of chart u) snap (trans_at chart u t)) && concerns chart u t) 0 (length chart.transitions)
