-- What transitions do, one action and one transition more.
use Rattle.std.proofs.Common.{◌≡◌, ℕ, suc, ◌+◌, ◌<◌, Bool, true, false, cond, List, [], ◌∷◌, ◌++◌, length, take, filter, filter_map, flat_map, get_or, sym, ◌∙◌, ap, ap₂, arith}
use Rattle.std.proofs.lemmas.List.{take_more, append-nil, append_assoc, map-append, length-take}
use Rattle.std.proofs.lemmas.List.Elements.{filter_map-append, filter_more}
use Rattle.std.proofs.lemmas.Grind.{flat_map-append}
use Rattle.wf_model.specs.declared.ids.EventId.{EventId}
use Rattle.wf_model.specs.declared.chart.Action.{Action}
use Rattle.wf_model.specs.declared.chart.Action.TheVariants.{Assign, Raise, Start}
use Rattle.wf_model.specs.declared.update.Write.{Write}
use Rattle.wf_model.specs.declared.update.StartAt.{StartAt}
use Rattle.wf_model.specs.Seen.{Seen}
use Rattle.wf_semantics.specs.Effects.{starts_from}
use Rattle.wf_actions.specs.Store.{write_of}
use Rattle.wf_parts.specs.declared.data.PartTransition.{PartTransition}
use Rattle.wf_flat.specs.declared.gathered.Gathered.{Gathered}
use Rattle.wf_flat.specs.Gathering.{raises_of, performed, gathered_of}

pub performed_none : (seen : Seen) (t place : ℕ) (g : Gathered) → g ≡ performed seen t place [] g
performed_none seen t place g =
    λ i. record { writes = sym (append-nil g.writes) i; raised = sym (append-nil g.raised) i; starts = sym (append-nil g.starts) i; fired = g.fired }

starts_more : (t place : ℕ) (xs ys : List Action) → starts_from t place (xs ++ ys) ≡ starts_from t place xs ++ starts_from t (place + length xs) ys
starts_more t place [] ys = let e : place ≡ place + 0 = omega arith in ap (λ (n : ℕ). starts_from t n ys) e
starts_more t place (Assign x value ∷ xs) ys = let e : place + 1 + length xs ≡ place + suc (length xs) = omega arith in starts_more t (place + 1) xs ys ∙ ap (λ (n : ℕ). starts_from t (place + 1) xs ++ starts_from t n ys) e
starts_more t place (Raise e ∷ xs) ys = let e : place + 1 + length xs ≡ place + suc (length xs) = omega arith in starts_more t (place + 1) xs ys ∙ ap (λ (n : ℕ). starts_from t (place + 1) xs ++ starts_from t n ys) e
starts_more t place (Start a ∷ xs) ys =
    let e : place + 1 + length xs ≡ place + suc (length xs) = omega arith in
    let s : StartAt = record { act = a; trans = record { 0 = t }; place = place } in
    ap (λ (l : List StartAt). s ∷ l) (starts_more t (place + 1) xs ys ∙ ap (λ (n : ℕ). starts_from t (place + 1) xs ++ starts_from t n ys) e)

performed_append : (seen : Seen) (t : ℕ) (xs ys : List Action) (g : Gathered) → performed seen t (length xs) ys (performed seen t 0 xs g) ≡ performed seen t 0 (xs ++ ys) g
performed_append seen t xs ys g =
    λ i. record {
      writes = (append_assoc g.writes (filter_map (write_of seen t) xs) (filter_map (write_of seen t) ys) ∙ ap (λ (l : List Write). g.writes ++ l) (sym (filter_map-append (write_of seen t) xs ys))) i;
      raised = (append_assoc g.raised (flat_map (raises_of seen) xs) (flat_map (raises_of seen) ys) ∙ ap (λ (l : List EventId). g.raised ++ l) (sym (flat_map-append (raises_of seen) xs ys))) i;
      starts = (append_assoc g.starts (starts_from t 0 xs) (starts_from t (length xs) ys) ∙ ap (λ (l : List StartAt). g.starts ++ l) (from_zero ∙ sym (starts_more t 0 xs ys))) i;
      fired = g.fired;
    }
  where
    from_zero : starts_from t 0 xs ++ starts_from t (length xs) ys ≡ starts_from t 0 xs ++ starts_from t (0 + length xs) ys
    from_zero = let e : length xs ≡ 0 + length xs = omega arith in ap (λ (n : ℕ). starts_from t 0 xs ++ starts_from t n ys) e

-- one action more
pub performed_more : (seen : Seen) (t : ℕ) (actions : List Action) (i : ℕ) (a : Action) (first old new : Gathered) → i < length actions → a ≡ get_or actions i a
    → old ≡ performed seen t 0 (take i actions) first → new ≡ performed seen t i (a ∷ []) old → new ≡ performed seen t 0 (take (i + 1) actions) first
performed_more seen t actions i a first old new lt is before now =
    let long : length (take i actions) ≡ i = omega (arith, length-take i actions) in
    now ∙ ap₂ (λ (n : ℕ) (g : Gathered). performed seen t n (a ∷ []) g) (sym long) before
    ∙ performed_append seen t (take i actions) (a ∷ []) first
    ∙ ap (λ (l : List Action). performed seen t 0 l first) (ap (λ (z : Action). take i actions ++ z ∷ []) is ∙ sym (take_more actions i a lt))

-- one transition more
pub gathered_more : (seen : Seen) (before : List PartTransition) (trans : PartTransition) (old mid new : Gathered) → old ≡ gathered_of seen before → mid ≡ record old { fired = old.fired ++ trans.id ∷ [] }
    → new ≡ performed seen trans.id.0 0 trans.actions mid → new ≡ gathered_of seen (before ++ trans ∷ [])
gathered_more seen before trans old mid new start push now =
    now ∙ ap (performed seen trans.id.0 0 trans.actions) (push ∙ ap (λ (g : Gathered). record g { fired = g.fired ++ trans.id ∷ [] }) start)
    ∙ (λ i. record {
      writes = one (λ (t : PartTransition). filter_map (write_of seen t.id.0) t.actions) i;
      raised = one (λ (t : PartTransition). flat_map (raises_of seen) t.actions) i;
      starts = one (λ (t : PartTransition). starts_from t.id.0 0 t.actions) i;
      fired = sym (map-append (λ (t : PartTransition). t.id) before (trans ∷ [])) i;
    })
  where
    one : {A : Type 0} (f : PartTransition → List A) → flat_map f before ++ f trans ≡ flat_map f (before ++ trans ∷ [])
    one {A} f = ap (λ (l : List A). flat_map f before ++ l) (sym (append-nil (f trans))) ∙ sym (flat_map-append f before (trans ∷ []))

-- a transition that fires, and one that doesn't

pub kept_more : {A : Type 0} (p : A → Bool) (xs : List A) (i : ℕ) (x : A) → i < length xs → x ≡ get_or xs i x → p x ≡ true → filter p (take i xs) ++ x ∷ [] ≡ filter p (take (i + 1) xs)
kept_more {A} p xs i x lt is h =
    sym (filter_more p xs i x lt ∙ ap (λ (z : A). filter p (take i xs) ++ cond (p z) (z ∷ []) []) (sym is) ∙ ap (λ (b : Bool). filter p (take i xs) ++ cond b (x ∷ []) []) h)

pub left_more : {A : Type 0} (p : A → Bool) (xs : List A) (i : ℕ) (x : A) → i < length xs → x ≡ get_or xs i x → p x ≡ false → filter p (take i xs) ≡ filter p (take (i + 1) xs)
left_more {A} p xs i x lt is h =
    sym (filter_more p xs i x lt ∙ ap (λ (z : A). filter p (take i xs) ++ cond (p z) (z ∷ []) []) (sym is) ∙ ap (λ (b : Bool). filter p (take i xs) ++ cond b (x ∷ []) []) h ∙ append-nil (filter p (take i xs)))
