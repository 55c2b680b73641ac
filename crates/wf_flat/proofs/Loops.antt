-- Loops over the transitions of a part, one transition more.
use Rattle.std.proofs.Common.{◌≡◌, ℕ, ◌+◌, ◌<◌, ◌≤◌, ◌==◌, ◌&&◌, not, Bool, true, false, cond, List, [], ◌∷◌, ◌++◌, length, map, take, filter, find, get_or, unwrap_or, Option, Some, None, refl, sym, ◌∙◌, ap, ap₂, arith, eqb-true}
use Rattle.std.specs.Option.{option_map, option_map_or}
use Rattle.std.specs.List.{list_any, range_with_len}
use Rattle.std.proofs.lemmas.List.{map_more, take_all, get_or-map, append-nil, map-append}
use Rattle.std.proofs.lemmas.List.Elements.{filter-append}
use Rattle.wf_model.proofs.Rows.{range_more}
use Rattle.wf_model.specs.Bits.{bit}
use Rattle.wf_model.specs.Limits.{max_events}
use Rattle.wf_model.specs.Ids.{event_id}
use Rattle.wf_model.specs.declared.ids.EventId.{EventId}
use Rattle.wf_parts.specs.declared.data.PartTransition.{PartTransition}
use Rattle.wf_parts.specs.declared.data.PartData.{PartData}
use Rattle.wf_semantics.specs.Snapshot.{Snapshot}
use Rattle.wf_views.specs.OwnSteps.{is_ready_in, is_fired_in}
use Rattle.wf_updates.specs.Tables.{entry, given_by}
use Rattle.wf_updates.proofs.Pairs.{given_map}
use Rattle.wf_flat.specs.Firing.{holds, says_of}
use Rattle.wf_flat.specs.Gathering.{ascending}

pub map_step : {A B : Type 0} (h : A → B) (xs : List A) (i : ℕ) (x : A) (y : B) (old new : List B) → i < length xs → x ≡ get_or xs i x → y ≡ h x → old ≡ map h (take i xs) → new ≡ old ++ y ∷ []
    → new ≡ map h (take (i + 1) xs)
map_step {B = B} h xs i x y old new lt is here before now =
    now ∙ ap₂ (λ (l : List B) (z : B). l ++ z ∷ []) before (here ∙ ap h is) ∙ sym (map_more h xs i x lt)

pub map_whole : {A B : Type 0} (h : A → B) (xs : List A) (i : ℕ) → length xs ≤ i → map h (take i xs) ≡ map h xs
map_whole h xs i le = ap (map h) (take_all i xs le)

-- what is said at a place
pub flag_is : {A : Type 0} (test : A → Bool) (xs : List A) (flags : List Bool) (i : ℕ) (x : A) → flags ≡ map test xs → i < length xs → x ≡ get_or xs i x → bit flags i ≡ test x
flag_is test xs flags i x same lt is = ap (λ (l : List Bool). bit l i) same ∙ get_or-map test xs i x false lt ∙ ap test (sym is)

-- a table by number
pub says_told : (test : PartTransition → Bool) (transitions : List PartTransition) (table : List (Option Bool)) (pairs : List (ℕ × Bool)) → pairs ≡ map (λ trans. (trans.id.0, test trans)) transitions
    → entry table ≡ given_by pairs → holds table ≡ says_of test transitions
says_told test transitions table pairs are told = λ i k. at k i
  where
    found : (o : Option PartTransition) → unwrap_or (option_map test o) false ≡ option_map_or test o false
    found None = refl
    found (Some t) = refl

    at : (k : ℕ) → holds table k ≡ says_of test transitions k
    at k =
        ap (λ (f : ℕ → Option Bool). unwrap_or (f k) false) (told ∙ ap given_by are)
        ∙ ap (λ (o : Option Bool). unwrap_or o false) (given_map (λ (trans : PartTransition). trans.id.0) test transitions k)
        ∙ found (find (λ (trans : PartTransition). trans.id.0 == k) transitions)

-- numbers that pass a test, one more

more_numbers : {A : Type 0} (f : ℕ → A) (p : ℕ → Bool) (i : ℕ) → map f (filter p (range_with_len 0 (i + 1))) ≡ map f (filter p (range_with_len 0 i)) ++ map f (cond (p i) (i ∷ []) [])
more_numbers f p i =
    ap (λ (ns : List ℕ). map f (filter p ns)) (range_more i) ∙ ap (map f) (filter-append p (range_with_len 0 i) (i ∷ [])) ∙ map-append f (filter p (range_with_len 0 i)) (filter p (i ∷ []))

pub number_kept : {A : Type 0} (f : ℕ → A) (p : ℕ → Bool) (i : ℕ) (old new : List A) → p i ≡ true → old ≡ map f (filter p (range_with_len 0 i)) → new ≡ old ++ f i ∷ [] → new ≡ map f (filter p (range_with_len 0 (i + 1)))
number_kept {A} f p i old new h before now =
    now ∙ ap (λ (l : List A). l ++ f i ∷ []) before
    ∙ sym (more_numbers f p i ∙ ap (λ (b : Bool). map f (filter p (range_with_len 0 i)) ++ map f (cond b (i ∷ []) [])) h)

pub number_left : {A : Type 0} (f : ℕ → A) (p : ℕ → Bool) (i : ℕ) (old : List A) → p i ≡ false → old ≡ map f (filter p (range_with_len 0 i)) → old ≡ map f (filter p (range_with_len 0 (i + 1)))
number_left f p i old h before =
    before ∙ sym (more_numbers f p i ∙ ap (λ (b : Bool). map f (filter p (range_with_len 0 i)) ++ map f (cond b (i ∷ []) [])) h ∙ append-nil (map f (filter p (range_with_len 0 i))))

-- which fire, by the enabled ones as a table
pub fired_by_place : (part : PartData) (snap : Snapshot) (lent : List PartTransition) (enabled : List (Option Bool)) (flags : List Bool) → lent ≡ part.transitions
    → holds enabled ≡ says_of (is_ready_in snap) lent → flags ≡ map (λ trans. is_ready_in snap trans && not (list_any (λ b. holds enabled b.0) trans.blockers)) lent
    → flags ≡ map (is_fired_in part snap) lent
fired_by_place part snap lent enabled flags same told are =
    are
    ∙ ap (λ (f : ℕ → Bool). map (λ (trans : PartTransition). is_ready_in snap trans && not (list_any (λ b. f b.0) trans.blockers)) lent)
    (told ∙ ap (says_of (is_ready_in snap)) same)

-- no event is raised
none_kept : (ns : List ℕ) → filter (λ n. false) ns ≡ []
none_kept [] = refl
none_kept (n ∷ ns) = none_kept ns

pub none_ascending : (raised : List EventId) → (length raised == 0) ≡ true → [] ≡ ascending raised
none_ascending [] e = sym (ap (map event_id) (none_kept (range_with_len 0 max_events)))
none_ascending (r ∷ rs) e = let zero : length (r ∷ rs) ≡ 0 = eqb-true (length (r ∷ rs)) 0 e in absurd (omega (arith, zero))
