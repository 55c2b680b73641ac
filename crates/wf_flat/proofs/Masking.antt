-- What fires by sets of places.
use Rattle.std.proofs.Common.{◌≡◌, ℕ, zero, suc, ◌+◌, ◌<◌, ◌≤◌, ◌==◌, ◌||◌, ◌&&◌, nat_lt, not, cond, Bool, true, false, List, [], ◌∷◌, ◌++◌, take, length, map, filter, find, get_or, slice_get, Option, Some, None, refl, sym, ◌∙◌, ap, ap₂, subst, arith, eqb-true, true≢false}
use Rattle.std.specs.Option.{option_map_or}
use Rattle.std.specs.List.{list_any, range_with_len}
use Rattle.std.proofs.lemmas.List.{map_more, get_or-map, get_or_past}
use Rattle.std.proofs.lemmas.List.FromFn.{length-map-range_with_len}
use Rattle.std.proofs.lemmas.Bool.Decides.{nat_tests}
use Rattle.wf_model.specs.Bits.{bit}
use Rattle.wf_model.specs.declared.ids.TransId.{TransId}
use Rattle.wf_model.specs.declared.chart.Chart.{Chart}
use Rattle.wf_model.specs.Ids.{trans_id}
use Rattle.wf_model.proofs.Bools.{any_map}
use Rattle.wf_model.proofs.Rows.{row_at, row_agree}
use Rattle.wf_semantics.specs.Snapshot.{Snapshot}
use Rattle.wf_masks.specs.Masks.{meet, fires_of}
use Rattle.wf_parts.specs.declared.data.PartTransition.{PartTransition}
use Rattle.wf_parts.specs.declared.data.PartData.{PartData}
use Rattle.wf_parts.specs.Known.{concerns}
use Rattle.wf_parts.specs.Parts.{part_of, IsPart}
use Rattle.wf_parts.specs.Rows.{places, names, row_of, rows_of}
use Rattle.wf_views.specs.OwnSteps.{is_ready_in, is_enabled_in, is_fired_in}
use Rattle.wf_lockstep.proofs.Firing.{no_transition, trans_at, trans_of_part, trans_id_at}
use Rattle.wf_flat.specs.Firing.{is_unblocked}

-- TESTS OF LISTS

and_false : (b : Bool) → (b && false) ≡ false
and_false true = refl
and_false false = refl

or_false : (b : Bool) → (b || false) ≡ b
or_false true = refl
or_false false = refl

none_any : {A : Type 0} (p : A → Bool) (xs : List A) → ((x : A) → p x ≡ false) → list_any p xs ≡ false
none_any p [] h = refl
none_any p (x ∷ xs) h = ap₂ (λ (a b : Bool). a || b) (h x) (none_any p xs h)

-- one of two tests
any_either : {A : Type 0} (p q : A → Bool) (xs : List A) → list_any (λ x. p x || q x) xs ≡ (list_any p xs || list_any q xs)
any_either p q [] = refl
any_either p q (x ∷ xs) = ap (λ (b : Bool). (p x || q x) || b) (any_either p q xs) ∙ turn (p x) (q x) (list_any p xs) (list_any q xs)
  where
    turn : (a b c d : Bool) → ((a || b) || (c || d)) ≡ ((a || c) || (b || d))
    turn true b c d = refl
    turn false true true d = refl
    turn false true false d = refl
    turn false false true d = refl
    turn false false false d = refl

-- bits that are set
any_bits : (f : ℕ → Bool) (a n : ℕ) (bits : List Bool) → length bits ≤ n → ((i : ℕ) → i < n → f (a + i) ≡ bit bits i) → list_any f (range_with_len a n) ≡ list_any (λ b. b) bits
any_bits f a zero [] le h = refl
any_bits f a zero (b ∷ bits) le h = absurd (omega arith)
any_bits f a (suc n) [] le h =
    let here : a + 0 ≡ a = omega arith in
    ap₂ (λ (x y : Bool). x || y) (ap f (sym here) ∙ h 0 (omega arith)) (any_bits f (a + 1) n [] (omega arith) (λ i lt. let there : a + 1 + i ≡ a + suc i = omega arith in ap f there ∙ h (suc i) (omega arith)))
any_bits f a (suc n) (b ∷ bits) le h =
    let here : a + 0 ≡ a = omega arith in
    ap₂ (λ (x y : Bool). x || y) (ap f (sym here) ∙ h 0 (omega arith)) (any_bits f (a + 1) n bits (omega arith) (λ i lt. let there : a + 1 + i ≡ a + suc i = omega arith in ap f there ∙ h (suc i) (omega arith)))

-- PLACES

long_map : {A B : Type 0} (f : A → B) (xs : List A) → length (map f xs) ≡ length xs
long_map f [] = refl
long_map f (x ∷ xs) = ap suc (long_map f xs)

-- two tests of what stands at a place
both_bits : {A : Type 0} (p q : A → Bool) (xs : List A) (i : ℕ) → (bit (map p xs) i && bit (map q xs) i) ≡ bit (map (λ x. p x && q x) xs) i
both_bits p q [] i = refl
both_bits p q (x ∷ xs) zero = refl
both_bits p q (x ∷ xs) (suc i) = both_bits p q xs i

-- two sets of places have one in common where a transition passes both tests
meet_is : {A : Type 0} (n : ℕ) (p q : A → Bool) (xs : List A) → length xs ≤ n → meet (places n p xs) (places n q xs) ≡ list_any (λ x. p x && q x) xs
meet_is {A} n p q xs le =
    let a = places n p xs in
    let b = places n q xs in
    let r : A → Bool = λ x. p x && q x in
    let long : length a ≡ n = length-map-range_with_len (bit (map p xs)) 0 n in
    let few : length (map r xs) ≤ n = omega (arith, long_map r xs) in
    ap (λ (m : ℕ). list_any (λ i. bit a i && bit b i) (range_with_len 0 m)) long
    ∙ any_bits (λ i. bit a i && bit b i) 0 n (map r xs) few (λ i lt.
    let at : 0 + i ≡ i = omega arith in
    ap (λ (k : ℕ). bit a k && bit b k) at
    ∙ ap₂ (λ (x y : Bool). x && y) (row_at (bit (map p xs)) n i false a refl lt) (row_at (bit (map q xs)) n i false b refl lt)
    ∙ both_bits p q xs i)
    ∙ any_map (λ (b : Bool). b) r xs

-- what stands at a place, or nothing does
bit_at_place : {A : Type 0} (test : A → Bool) (xs : List A) (i : ℕ) (d : A) → i < length xs → bit (map test xs) i ≡ test (get_or xs i d)
bit_at_place test xs i d lt = get_or-map test xs i d false lt

-- the transitions that fire by their rows
pub fires_by_rows : (n : ℕ) (ready : PartTransition → Bool) (transitions : List PartTransition) (enabled : List Bool) (rows : List (List Bool)) → length transitions ≤ n
    → enabled ≡ places n ready transitions → rows ≡ rows_of n transitions
    → map (λ t. nat_lt t (length rows) && fires_of enabled rows t) (range_with_len 0 n) ≡ places n (is_unblocked transitions ready) transitions
fires_by_rows n ready transitions enabled rows le on are =
    ap₂ (λ (e : List Bool) (r : List (List Bool)). map (λ t. nat_lt t (length r) && fires_of e r t) (range_with_len 0 n)) on are
    ∙ row_agree (λ t. nat_lt t (length (rows_of n transitions)) && fires_of (places n ready transitions) (rows_of n transitions) t) (bit (map (is_unblocked transitions ready) transitions)) n
    (λ t lt. go t lt (nat_lt t (length transitions)) refl)
  where
    long : length (rows_of n transitions) ≡ length transitions
    long = long_map (row_of n transitions) transitions

    -- a place of the list
    inside : (t : ℕ) → t < n → t < length transitions → fires_of (places n ready transitions) (rows_of n transitions) t ≡ bit (map (is_unblocked transitions ready) transitions) t
    inside t lt within =
        let d = no_transition 0 in
        let trans = get_or transitions t d in
        ap₂ (λ (a : Bool) (row : List Bool). a && not (meet (places n ready transitions) row))
        (row_at (bit (map ready transitions)) n t false (places n ready transitions) refl lt ∙ bit_at_place ready transitions t d within)
        (get_or-map (row_of n transitions) transitions t d [] within)
        ∙ ap (λ (b : Bool). ready trans && not b) (meet_is n ready (λ other. names trans.blockers other.id.0) transitions le)
        ∙ sym (bit_at_place (is_unblocked transitions ready) transitions t d within)

    go : (t : ℕ) → t < n → (b : Bool) → nat_lt t (length transitions) ≡ b
        → (nat_lt t (length (rows_of n transitions)) && fires_of (places n ready transitions) (rows_of n transitions) t) ≡ bit (map (is_unblocked transitions ready) transitions) t
    go t lt true e =
        let within : t < length transitions = grind (arith, nat_tests) in
        ap (λ (m : ℕ). nat_lt t m && fires_of (places n ready transitions) (rows_of n transitions) t) long
        ∙ ap (λ (b : Bool). b && fires_of (places n ready transitions) (rows_of n transitions) t) e ∙ inside t lt within
    go t lt false e =
        let past : length transitions ≤ t = grind (arith, nat_tests) in
        let more : length (map (is_unblocked transitions ready) transitions) ≤ t = omega (arith, long_map (is_unblocked transitions ready) transitions) in
        ap (λ (m : ℕ). nat_lt t m && fires_of (places n ready transitions) (rows_of n transitions) t) long
        ∙ ap (λ (b : Bool). b && fires_of (places n ready transitions) (rows_of n transitions) t) e
        ∙ sym (get_or_past (map (is_unblocked transitions ready) transitions) t false more)

-- the flag of one transition more
pub flag_more : (n : ℕ) (test : PartTransition → Bool) (transitions : List PartTransition) (among old new : List Bool) (i : ℕ) (y : Bool) → length transitions ≤ n → i < length transitions
    → among ≡ places n test transitions → y ≡ bit among i → old ≡ map test (take i transitions) → new ≡ old ++ y ∷ [] → new ≡ map test (take (i + 1) transitions)
flag_more n test transitions among old new i y le lt are is before now =
    let d = no_transition 0 in
    now
    ∙ ap₂ (λ (l : List Bool) (b : Bool). l ++ b ∷ []) before (is ∙ row_at (bit (map test transitions)) n i false among are (omega arith) ∙ bit_at_place test transitions i d lt)
    ∙ sym (map_more test transitions i d lt)

-- BLOCKERS BY NUMBER AND BY PLACE

module _ {A : Type 0} (f : ℕ → A) (id : A → ℕ) (same : (t : ℕ) → id (f t) ≡ t) (test : ℕ → Bool) (p : A → Bool) (k : ℕ) where
  -- none has a number below those of the list
  none_before : (a n : ℕ) → k < a → list_any (λ x. p x && (k == id x)) (map f (filter test (range_with_len a n))) ≡ false
  none_before a zero lt = refl
  none_before a (suc n) lt = go (test a) (none_before (a + 1) n (omega arith))
    where
      here : (k == id (f a)) ≡ false
      here = let s = same a in grind (arith, nat_tests)

      go : (b : Bool) → list_any (λ x. p x && (k == id x)) (map f (filter test (range_with_len (a + 1) n))) ≡ false
          → list_any (λ x. p x && (k == id x)) (map f (cond b (a ∷ filter test (range_with_len (a + 1) n)) (filter test (range_with_len (a + 1) n)))) ≡ false
      go true ih = ap₂ (λ (x y : Bool). x || y) (ap (λ (x : Bool). p (f a) && x) here ∙ and_false (p (f a))) ih
      go false ih = ih

  -- the one with this number is the first one
  pub one_is_found : (a n : ℕ) → list_any (λ x. p x && (k == id x)) (map f (filter test (range_with_len a n))) ≡ option_map_or p (find (λ x. id x == k) (map f (filter test (range_with_len a n)))) false
  one_is_found a zero = refl
  one_is_found a (suc n) = go (test a) (id (f a) == k) refl (one_is_found (a + 1) n)
    where
      turn : (k == id (f a)) ≡ (id (f a) == k)
      turn = grind (arith, nat_tests)

      and_yes : (b : Bool) → ((b && true) || false) ≡ b
      and_yes true = refl
      and_yes false = refl

      past : id (f a) ≡ k → list_any (λ x. p x && (k == id x)) (map f (filter test (range_with_len (a + 1) n))) ≡ false
      past e = none_before (a + 1) n (let s = same a in omega arith)

      go : (b h : Bool) → (id (f a) == k) ≡ h
          → list_any (λ x. p x && (k == id x)) (map f (filter test (range_with_len (a + 1) n))) ≡ option_map_or p (find (λ x. id x == k) (map f (filter test (range_with_len (a + 1) n)))) false
          → list_any (λ x. p x && (k == id x)) (map f (cond b (a ∷ filter test (range_with_len (a + 1) n)) (filter test (range_with_len (a + 1) n))))
          ≡ option_map_or p (find (λ x. id x == k) (map f (cond b (a ∷ filter test (range_with_len (a + 1) n)) (filter test (range_with_len (a + 1) n))))) false
      go true true e ih =
          ap₂ (λ (x y : Bool). (p (f a) && x) || y) (turn ∙ e) (past (eqb-true (id (f a)) k e)) ∙ and_yes (p (f a))
          ∙ ap (λ (b : Bool). option_map_or p (cond b (Some (f a)) (find (λ x. id x == k) (map f (filter test (range_with_len (a + 1) n))))) false) (sym e)
      go true false e ih =
          ap (λ (x : Bool). (p (f a) && x) || list_any (λ x. p x && (k == id x)) (map f (filter test (range_with_len (a + 1) n)))) (turn ∙ e)
          ∙ ap (λ (x : Bool). x || list_any (λ x. p x && (k == id x)) (map f (filter test (range_with_len (a + 1) n)))) (and_false (p (f a))) ∙ ih
          ∙ ap (λ (b : Bool). option_map_or p (cond b (Some (f a)) (find (λ x. id x == k) (map f (filter test (range_with_len (a + 1) n))))) false) (sym e)
      go false h e ih = ih

abbrev pub IsFound : List PartTransition → Type 0
IsFound transitions = (p : PartTransition → Bool) (k : ℕ) → list_any (λ x. p x && (k == x.id.0)) transitions ≡ option_map_or p (find (λ x. x.id.0 == k) transitions) false

-- each number stands once in a part
found_in : (chart : Chart) (u : ℕ) → IsFound (part_of chart u).transitions
found_in chart u = subst IsFound (sym (trans_of_part chart u)) (λ p k.
    one_is_found (trans_at chart u) (λ x. x.id.0) (λ t. ap (λ (i : TransId). i.0) (trans_id_at chart u t)) (concerns chart u) p k 0 (length chart.transitions))

pub found_in_part : (part : PartData) → IsPart part → IsFound part.transitions
found_in_part part is = subst (λ (d : PartData). IsFound d.transitions) (sym is.is) (found_in is.chart is.unit)

-- those that block, by their places and by their numbers
blocked_alike : (p : PartTransition → Bool) (transitions : List PartTransition) → IsFound transitions → (ids : List TransId)
    → list_any (λ x. p x && names ids x.id.0) transitions ≡ list_any (λ b. option_map_or p (find (λ x. x.id.0 == b.0) transitions) false) ids
blocked_alike p transitions found [] = none_any (λ x. p x && false) transitions (λ x. and_false (p x))
blocked_alike p transitions found (b ∷ ids) =
    (λ i. list_any (λ (x : PartTransition). both (p x) (b.0 == x.id.0) (names ids x.id.0) i) transitions)
    ∙ any_either (λ x. p x && (b.0 == x.id.0)) (λ x. p x && names ids x.id.0) transitions
    ∙ ap₂ (λ (x y : Bool). x || y) (found p b.0) (blocked_alike p transitions found ids)
  where
    both : (x y z : Bool) → (x && (y || z)) ≡ ((x && y) || (x && z))
    both true y z = refl
    both false y z = refl

-- which fire, as the definitions say
pub unblocked_is_fired : (part : PartData) (snap : Snapshot) → IsPart part → is_unblocked part.transitions (is_ready_in snap) ≡ is_fired_in part snap
unblocked_is_fired part snap is = λ i trans. at trans i
  where
    at : (trans : PartTransition) → is_unblocked part.transitions (is_ready_in snap) trans ≡ is_fired_in part snap trans
    at trans = ap (λ (b : Bool). is_ready_in snap trans && not b) (blocked_alike (is_ready_in snap) part.transitions (found_in_part part is) trans.blockers)
