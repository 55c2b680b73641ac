-- Which place a name finds once the place of a name was written, or one was added.
use Rattle.std.specs.List.{position_or_len, slice_get}
use Rattle.std.proofs.Common.{◌≡◌, ◌≢◌, ℕ, zero, suc, is_some, ◌<◌, ◌≤◌, Bool, true, false, cond, List, [], ◌∷◌, ◌++◌, length, find, position, Option, Some, None, get_or, slice_set, nat_lt, refl, sym, ap, arith, ◌∙◌}
use Rattle.std.proofs.lemmas.Bool.Decides.{nat_tests}
use Rattle.std.proofs.lemmas.Option.{slice_get_read}
use Rattle.std.proofs.lemmas.Slice.Eq.{bytes_eq-Decides}
use Rattle.std.specs.Str.{bytes_eq}
use Rattle.wf_shelf.specs.declared.place.Place.{Place}
use Rattle.wf_shelf.specs.Places.{is_named, place_of, new_place}
use Rattle.wf_shelf.proofs.Found.{found_at, found_written, other_written, none_found, found_added, other_added, found_holds}

picked : (b : Bool) (n l i : ℕ) → nat_lt n l ≡ b → cond b (Some n) None ≡ Some i → (n ≡ i) × (nat_lt n l ≡ true)
picked true n l i tests is = (cc, tests)
picked false n l i tests is = cc

some_position : (n l i : ℕ) → cond (nat_lt n l) (Some n) None ≡ Some i → (n ≡ i) × (n < l)
some_position n l i is = let both = picked (nat_lt n l) n l i refl is in (both.0, grind (arith, nat_tests, both.1))

not_picked : (b : Bool) (n l : ℕ) (o : Option ℕ) → o ≡ None → nat_lt n l ≡ b → cond b (Some n) None ≡ o → nat_lt n l ≡ false
not_picked true n l o none tests is = cc
not_picked false n l o none tests is = tests

no_position : (n l : ℕ) → cond (nat_lt n l) (Some n) None ≡ None → l ≤ n
no_position n l is = let not_less = not_picked (nat_lt n l) n l None refl refl is in grind (arith, nat_tests, not_less)

unless_true : (b : Bool) → (b ≡ true → ⊥) → b ≡ false
unless_true true isnt = absurd (isnt refl)
unless_true false isnt = refl

is_other : (a b : List ℕ) → a ≢ b → bytes_eq a b ≡ false
is_other a b other = unless_true (bytes_eq a b) (λ so. other ((bytes_eq-Decides a b).0 so))

is_same : (a b : List ℕ) → a ≡ b → bytes_eq a b ≡ true
is_same a b same = (bytes_eq-Decides a b).1 same

-- what is found of a name, before and after its place was written
pub record IsWritten (name : List ℕ) (old new : List Place) (was now : Place) : Type 0 where
  pub before : place_of name old ≡ Some was
  pub after : place_of name new ≡ Some now
  pub others : (other : List ℕ) → other ≢ name → place_of other new ≡ place_of other old

pub written : (name : List ℕ) (places : List Place) (i : ℕ) (was now : Place) → position (is_named name) places ≡ Some i → was ≡ get_or places i was → now.name ≡ was.name
    → IsWritten name places (slice_set places i now) was now
written name places i was now at is named =
    let place = some_position (position_or_len (is_named name) places) (length places) i at in
    let within : i < length places = omega (arith, place.0, place.1) in
    let read : slice_get places i ≡ Some was = slice_get_read places (length places) i was refl within is in
    let found : place_of name places ≡ Some was = sym (found_at (is_named name) places place.1) ∙ ap (λ k. slice_get places k) place.0 ∙ read in
    let so : was.name ≡ name = (bytes_eq-Decides was.name name).0 (found_holds (is_named name) places was found) in
    record {
      before = found;
      after = ap (λ k. find (is_named name) (slice_set places k now)) (sym place.0) ∙ found_written (is_named name) places now place.1 (is_same now.name name (named ∙ so));
      others = λ other differs. other_written (is_named other) places i was now read
          (is_other was.name other (λ e. differs (sym e ∙ so))) (is_other now.name other (λ e. differs (sym e ∙ named ∙ so)));
    }

-- a name that no search found has no place
pub none_of : (name : List ℕ) (places : List Place) → position (is_named name) places ≡ None → place_of name places ≡ None
none_of name places is = none_found (is_named name) places (no_position (position_or_len (is_named name) places) (length places) is)

-- the place of a new name is found, and those of others as before
pub added : (name : List ℕ) (places : List Place) → place_of name places ≡ None → place_of name (places ++ new_place name ∷ []) ≡ Some (new_place name)
added name places none = found_added (is_named name) places (new_place name) none (is_same name name refl)

pub others_added : (name other : List ℕ) (places : List Place) → other ≢ name → place_of other (places ++ new_place name ∷ []) ≡ place_of other places
others_added name other places differs = other_added (is_named other) places (new_place name) (is_other name other (λ e. differs (sym e)))

some_at : {X : Type 0} (xs : List X) (i : ℕ) → i < length xs → is_some (slice_get xs i) ≡ true
some_at [] i within = absurd (omega (arith, within))
some_at (x ∷ xs) zero within = refl
some_at (x ∷ xs) (suc i) within = some_at xs i (omega (arith, within))

-- a search for a place tells whether there is one
pub tells_place : (name : List ℕ) (places : List Place) (o : Option ℕ) → position (is_named name) places ≡ o → is_some o ≡ is_some (place_of name places)
tells_place name places None at = ap is_some (sym (none_of name places at))
tells_place name places (Some i) at =
    let place = some_position (position_or_len (is_named name) places) (length places) i at in
    sym (ap is_some (sym (found_at (is_named name) places place.1)) ∙ some_at places (position_or_len (is_named name) places) place.1)
