-- How much a step starts, and how many items are open after steps.
use Rattle.std.proofs.Common.{◌≡◌, ℕ, suc, ◌+◌, ◌*◌, ◌<◌, ◌≤◌, ◌==◌, ◌&&◌, cond, Bool, true, false, List, [], ◌∷◌, All, map, filter, flat_map, length, get_or, refl, sym, ap, subst, arith, length-append}
use Rattle.std.proofs.lemmas.Bool.{leb-true}
use Rattle.std.proofs.lemmas.List.FromFn.{length-range_with_len}
use Rattle.std.proofs.lemmas.List.Elements.{All-head, All-tail, All-map}
use Rattle.std.proofs.lemmas.Option.{slice_get-get_or}
use Rattle.wf_model.specs.Limits.{max_units, max_transitions, max_actions, max_steps}
use Rattle.wf_model.specs.declared.ids.ActId.{ActId}
use Rattle.wf_model.specs.declared.chart.Action.{Action}
use Rattle.wf_model.specs.declared.chart.Action.TheVariants.{Assign, Raise, Start}
use Rattle.wf_model.specs.declared.chart.Chart.{Chart}
use Rattle.wf_model.specs.declared.outer.Outer.{Outer}
use Rattle.wf_model.specs.declared.update.StartAt.{StartAt}
use Rattle.wf_model.specs.declared.update.Update.{Update}
use Rattle.wf_model.specs.Tree.{all_transitions}
use Rattle.wf_model.specs.Accepted.{IsAccepted, is_small}
use Rattle.wf_semantics.specs.Effects.{starts_from}
use Rattle.wf_semantics.proofs.Facts.{rules}
use Rattle.wf_parts.specs.declared.data.PartTransition.{PartTransition}
use Rattle.wf_parts.specs.declared.data.PartData.{PartData}
use Rattle.wf_parts.specs.declared.data.KnownActivity.{KnownActivity}
use Rattle.wf_parts.specs.Known.{concerns}
use Rattle.wf_parts.specs.Parts.{part_of, IsPart}
use Rattle.wf_views.specs.Views.{View, first_view, count_now, sees}
use Rattle.wf_views.specs.OwnSteps.{own_update, own_fired, is_fired_in, part_step}
use Rattle.wf_views.specs.Absorbing.{absorbed, start_count, starts_in}
use Rattle.wf_lockstep.proofs.Firing.{trans_at, trans_of_part}
use Rattle.wf_flat.specs.Locking.{HasFewStarts, HasFewOpen, HasRoomFor}
use Rattle.wf_flat.proofs.Reading.{found, few_actions}

few_filtered : {A : Type 0} (p : A → Bool) (xs : List A) → length (filter p xs) ≤ length xs
few_filtered p [] = omega arith
few_filtered {A} p (x ∷ xs) = go (p x) (few_filtered p xs)
  where
    go : (b : Bool) → length (filter p xs) ≤ length xs → length (cond b (x ∷ filter p xs) (filter p xs)) ≤ suc (length xs)
    go true h = omega arith
    go false h = omega arith

few_mapped : {A B : Type 0} (f : A → B) (xs : List A) → length (map f xs) ≡ length xs
few_mapped f [] = refl
few_mapped f (x ∷ xs) = ap suc (few_mapped f xs)

-- lists of at most m items each
few_joined : {A B : Type 0} (f : A → List B) (m : ℕ) (xs : List A) → All (λ x. length (f x) ≤ m) xs → length (flat_map f xs) ≤ length xs * m
few_joined f m [] h = omega arith
few_joined f m (x ∷ xs) h =
    let here = All-head (λ x. length (f x) ≤ m) x xs h in
    let rest = few_joined f m xs (All-tail (λ x. length (f x) ≤ m) x xs h) in
    let long = length-append (f x) (flat_map f xs) in
    omega arith

few_kept : {A B : Type 0} (f : A → List B) (p : A → Bool) (m : ℕ) (xs : List A) → All (λ x. length (f x) ≤ m) xs → length (flat_map f (filter p xs)) ≤ length xs * m
few_kept f p m [] h = omega arith
few_kept {A} f p m (x ∷ xs) h = go (p x) (few_kept f p m xs (All-tail (λ x. length (f x) ≤ m) x xs h))
  where
    here : length (f x) ≤ m
    here = All-head (λ x. length (f x) ≤ m) x xs h

    go : (b : Bool) → length (flat_map f (filter p xs)) ≤ length xs * m → length (flat_map f (cond b (x ∷ filter p xs) (filter p xs))) ≤ suc (length xs) * m
    go true ih = let long = length-append (f x) (flat_map f (filter p xs)) in let le = here in omega arith
    go false ih = omega arith

few_from : (t place : ℕ) (actions : List Action) → length (starts_from t place actions) ≤ length actions
few_from t place [] = omega arith
few_from t place (Assign x value ∷ rest) = let ih = few_from t (place + 1) rest in omega arith
few_from t place (Raise e ∷ rest) = let ih = few_from t (place + 1) rest in omega arith
few_from t place (Start a ∷ rest) = let ih = few_from t (place + 1) rest in omega arith

small_chart : (chart : Chart) → is_small chart ≡ true → length chart.transitions ≤ max_transitions
unfolding is_small
small_chart chart h = leb-true (length chart.transitions) max_transitions (grind arith)

few_of : (chart : Chart) (u : ℕ) → IsAccepted chart → length (part_of chart u).transitions ≤ max_transitions
few_of chart u ok =
    let one = ap (length {A = PartTransition}) (trans_of_part chart u) in
    let two = few_mapped (trans_at chart u) (filter (concerns chart u) (all_transitions chart)) in
    let three = few_filtered (concerns chart u) (all_transitions chart) in
    let four = length-range_with_len 0 (length chart.transitions) in
    let five = small_chart chart (rules chart ok).small in
    omega arith

starts_of : (part : PartData) (step : ℕ) (view : View) (outers : List Outer) → (own_update part step view outers).starts ≡ flat_map (λ trans. starts_from trans.id.0 0 trans.actions) (own_fired part (sees part view))
unfolding part_step
starts_of part step view outers = refl

few_starts_of : (chart : Chart) (u step : ℕ) (view : View) (outers : List Outer) → IsAccepted chart → HasFewStarts (own_update (part_of chart u) step view outers)
few_starts_of chart u step view outers ok =
    let part = part_of chart u in
    let bound = few_kept (λ (trans : PartTransition). starts_from trans.id.0 0 trans.actions) (λ (trans : PartTransition). trans.own && is_fired_in part (sees part view) trans) max_actions part.transitions each in
    let many = few_of chart u ok in
    let is = ap (length {A = StartAt}) (starts_of part step view outers) in
    omega arith
  where
    each : All (λ (trans : PartTransition). length (starts_from trans.id.0 0 trans.actions) ≤ max_actions) (part_of chart u).transitions
    each k d lt =
        let trans = get_or (part_of chart u).transitions k d in
        let few = few_actions chart ok u trans (found chart u k trans (slice_get-get_or (part_of chart u).transitions k d lt)) in
        let from = few_from trans.id.0 0 trans.actions in
        omega arith

pub few_starts : (part : PartData) (step : ℕ) (view : View) (outers : List Outer) → IsPart part → HasFewStarts (own_update part step view outers)
few_starts part step view outers p = subst (λ (d : PartData). HasFewStarts (own_update d step view outers)) (sym p.is) (few_starts_of p.chart p.unit step view outers p.accepted)

few_started : (a : ℕ) (updates : List Update) → All HasFewStarts updates → start_count a (starts_in updates) ≤ length updates * (max_transitions * max_actions)
few_started a updates few =
    let one = few_filtered (λ (s : StartAt). s.act.0 == a) (starts_in updates) in
    let two = few_joined (λ (update : Update). update.starts) (max_transitions * max_actions) updates few in
    omega arith

-- nothing is open at first
pub first_open : (part : PartData) → HasFewOpen 0 (first_view part)
unfolding first_view
first_open part = All-map (λ (a : ActId × ℕ). a.1 ≤ max_units * (max_transitions * max_actions) * 0) (λ (known : KnownActivity). let p : ActId × ℕ = (known.id, 0) in p) part.acts (λ k d lt. omega arith)

-- the counts of a view have room
pub has_room : (view : View) (updates : List Update) (steps : ℕ) → HasFewOpen steps view → All HasFewStarts updates → length updates ≤ max_units → steps < max_steps → HasRoomFor updates view
has_room view updates steps are few units lt k d within =
    let a : ActId × ℕ = get_or view.unclosed k d in
    let before = are k d within in
    let started = few_started a.0.0 updates few in
    let less : count_now view a ≤ a.1 = omega arith in
    omega arith

pub absorbed_open : (part : PartData) (view : View) (updates : List Update) (steps : ℕ) → HasFewOpen steps view → All HasFewStarts updates → length updates ≤ max_units → HasFewOpen (steps + 1) (absorbed part view updates)
unfolding absorbed
absorbed_open part view updates steps are few units =
    All-map (λ (a : ActId × ℕ). a.1 ≤ max_units * (max_transitions * max_actions) * (steps + 1)) (λ (a : ActId × ℕ). let p : ActId × ℕ = (a.0, count_now view a + start_count a.0.0 (starts_in updates)) in p) view.unclosed
    (λ k d within.
    let a : ActId × ℕ = get_or view.unclosed k d in
    let before = are k d within in
    let started = few_started a.0.0 updates few in
    let less : count_now view a ≤ a.1 = omega arith in
    omega arith)
