-- Names that are new where they stand.
use Rattle.std.proofs.Common.{◌≡◌, ℕ, zero, suc, ◌+◌, ◌<◌, ◌||◌, not, Bool, true, false, List, [], ◌∷◌, ◌++◌, length, take, map, slice_get, Some, None, refl, sym, ◌∙◌, ap, subst, arith, inl, inr, append-nil, append_assoc, length-append}
use Rattle.std.specs.List.{list_all, list_any, enumerate_from}
use Rattle.std.specs.Option.{option_map_or}
use Rattle.std.specs.Str.{bytes_eq}
use Rattle.std.proofs.lemmas.Bool.{cases_Bool}
use Rattle.std.proofs.lemmas.List.{take_at}
use Rattle.std.proofs.lemmas.Slice.Eq.{bytes_eq-Decides}
use Rattle.wf_model.specs.Accepted.{is_new, all_numbered}
use Rattle.wf_model.proofs.Bools.{and_both}
use Rattle.wf_cursor.specs.declared.names.Declared.{Declared}
use Rattle.wf_cursor.specs.Names.{declared_as}
use Rattle.wf_grammar.specs.Phrases.{Names}
use Rattle.wf_readback.proofs.Declares.{declared_from}

-- the name is none of these
abbrev pub IsOther : List (List ℕ) → List ℕ → Type 0
IsOther seen x = list_any (bytes_eq x) seen ≡ false

-- each of these is none of those seen before it
abbrev pub AreNew : List (List ℕ) → List (List ℕ) → Type 0
AreNew seen [] = Unit {0}
AreNew seen (x ∷ xs) = IsOther seen x × AreNew (seen ++ x ∷ []) xs

or_both : (a b : Bool) → (a || b) ≡ false → (a ≡ false) × (b ≡ false)
or_both true b h = cc
or_both false b h = (refl, h)

or_neither : (a b : Bool) → a ≡ false → b ≡ false → (a || b) ≡ false
or_neither true b h k = cc
or_neither false b h k = k

not_false : (b : Bool) → not b ≡ true → b ≡ false
not_false true h = cc
not_false false h = refl

pub other-append : (seen more : List (List ℕ)) (x : List ℕ) → IsOther seen x → IsOther more x → IsOther (seen ++ more) x
other-append [] more x h k = k
other-append (y ∷ seen) more x h k =
    let p = or_both (bytes_eq x y) (list_any (bytes_eq x) seen) h in
    or_neither (bytes_eq x y) (list_any (bytes_eq x) (seen ++ more)) p.0 (other-append seen more x p.1 k)

pub other_parts : (seen more : List (List ℕ)) (x : List ℕ) → IsOther (seen ++ more) x → IsOther seen x × IsOther more x
other_parts [] more x h = (refl, h)
other_parts (y ∷ seen) more x h =
    let p = or_both (bytes_eq x y) (list_any (bytes_eq x) (seen ++ more)) h in
    let q = other_parts seen more x p.1 in
    (or_neither (bytes_eq x y) (list_any (bytes_eq x) seen) p.0 q.0, q.1)

-- from the test of charts
new_from : (seen xs names : List (List ℕ)) (k : ℕ) → names ≡ seen ++ xs → length seen ≡ k → list_all (λ p. is_new names p.0 p.1) (enumerate_from k xs) ≡ true → AreNew seen xs
new_from seen [] names k is size h = tt
new_from seen (x ∷ xs) names k is size h =
    let p = and_both (is_new names k x) (list_all (λ p. is_new names p.0 p.1) (enumerate_from (k + 1) xs)) h in
    let front : take k names ≡ seen = ap (take k) is ∙ take_at seen (x ∷ xs) k size in
    let longer : length (seen ++ x ∷ []) ≡ k + 1 = omega (arith, size, length-append seen (x ∷ [])) in (
      ap (list_any (bytes_eq x)) (sym front) ∙ not_false (list_any (bytes_eq x) (take k names)) p.0,
      new_from (seen ++ x ∷ []) xs names (k + 1) (is ∙ sym (append_assoc seen (x ∷ []) xs)) longer p.1,
    )

pub are_new : (names : List (List ℕ)) → all_numbered (is_new names) names ≡ true → AreNew [] names
are_new names h = new_from [] names names 0 refl refl h

-- ---- a name that stands further behind, moved to the front

weaker_seen : (seen other xs : List (List ℕ)) → ((x : List ℕ) → IsOther seen x → IsOther other x) → AreNew seen xs → AreNew other xs
weaker_seen seen other [] w h = tt
weaker_seen seen other (x ∷ xs) w h = (
  w x h.0,
  weaker_seen (seen ++ x ∷ []) (other ++ x ∷ []) xs (λ y k. let p = other_parts seen (x ∷ []) y k in other-append other (x ∷ []) y (w y p.0) p.1) h.1,
)

turned : (x y : List ℕ) → bytes_eq x y ≡ false → bytes_eq y x ≡ false
turned x y h =
    elim (cases_Bool (bytes_eq y x)) [
      | inl same ↦ let back : bytes_eq x y ≡ true = (bytes_eq-Decides x y).1 (sym ((bytes_eq-Decides y x).0 same)) in cc
      | inr other ↦ other
    ]

-- the one behind is none of those before it
one_behind : (seen us rest : List (List ℕ)) (f : List ℕ) → AreNew seen (us ++ f ∷ rest) → IsOther (seen ++ us) f
one_behind seen [] rest f h = subst (λ (s : List (List ℕ)). IsOther s f) (sym (append-nil seen)) h.0
one_behind seen (u ∷ us) rest f h =
    subst (λ (s : List (List ℕ)). IsOther s f) (append_assoc seen (u ∷ []) us) (one_behind (seen ++ u ∷ []) us rest f h.1)

pub to_front : (seen us rest : List (List ℕ)) (f : List ℕ) → AreNew seen (us ++ f ∷ rest) → AreNew (f ∷ seen) (us ++ rest)
to_front seen [] rest f h =
    weaker_seen (seen ++ f ∷ []) (f ∷ seen) rest
    (λ x k. let p = other_parts seen (f ∷ []) x k in or_neither (bytes_eq x f) (list_any (bytes_eq x) seen) (or_both (bytes_eq x f) false p.1).0 p.0)
    h.1
to_front seen (u ∷ us) rest f h =
    let behind = other_parts seen (u ∷ us) f (one_behind seen (u ∷ us) rest f h) in
    let apart = turned f u (or_both (bytes_eq f u) (list_any (bytes_eq f) us) behind.1).0 in
    (or_neither (bytes_eq u f) (list_any (bytes_eq u) seen) apart h.0, to_front (seen ++ u ∷ []) us rest f h.1)

-- ---- declared names

-- what is none of those seen isn't declared
abbrev pub Covers : List (List ℕ) → Names → Type 0
Covers seen names = (x : List ℕ) → IsOther seen x → declared_as names x ≡ None

undeclared-append : (xs ys : Names) (x : List ℕ) → declared_as xs x ≡ None → declared_as ys x ≡ None → declared_as (xs ++ ys) x ≡ None
undeclared-append [] ys x h k = k
undeclared-append (e ∷ xs) ys x h k =
    elim (cases_Bool (bytes_eq x e.0)) [
      | inl same ↦ cc (rw same at h)
      | inr other ↦ rw other (undeclared-append xs ys x (rw other at h) k)
    ]

pub found_behind : (xs ys : Names) (x : List ℕ) → declared_as xs x ≡ None → declared_as (xs ++ ys) x ≡ declared_as ys x
found_behind [] ys x h = refl
found_behind (e ∷ xs) ys x h =
    elim (cases_Bool (bytes_eq x e.0)) [
      | inl same ↦ cc (rw same at h)
      | inr other ↦ rw other (found_behind xs ys x (rw other at h))
    ]

pub found_before : (xs ys : Names) (x : List ℕ) (what : Declared) → declared_as xs x ≡ Some what → declared_as (xs ++ ys) x ≡ Some what
found_before [] ys x what h = cc
found_before (e ∷ xs) ys x what h =
    elim (cases_Bool (bytes_eq x e.0)) [
      | inl same ↦ rw same (rw same at h)
      | inr other ↦ rw other (found_before xs ys x what (rw other at h))
    ]

first_found : (x : List ℕ) (what : Declared) (more : Names) → declared_as ((x, what) ∷ more) x ≡ Some what
first_found x what more = rw ((bytes_eq-Decides x x).1 refl) refl

covers_more : (seen : List (List ℕ)) (names : Names) (x : List ℕ) (what : Declared) → Covers seen names → Covers (seen ++ x ∷ []) (names ++ (x, what) ∷ [])
covers_more seen names x what covers y h =
    let p = other_parts seen (x ∷ []) y h in
    let other = (or_both (bytes_eq y x) false p.1).0 in
    undeclared-append names ((x, what) ∷ []) y (covers y p.0) (rw other refl)

-- each of these is new where it is declared
abbrev pub AreNewIn : {A : Type 0} → (A → List ℕ) → (ℕ → Declared) → Names → ℕ → List A → Type 0
AreNewIn name what names k [] = Unit {0}
AreNewIn name what names k (x ∷ xs) = (declared_as names (name x) ≡ None) × AreNewIn name what (names ++ (name x, what k) ∷ []) (k + 1) xs

-- one kind of parts after the other
pub record Kind {A : Type 0} (name : A → List ℕ) (what : ℕ → Declared) (seen : List (List ℕ)) (names : Names) (k : ℕ) (xs : List A) (rest : List (List ℕ)) : Type 0 where
  pub new : AreNewIn name what names k xs
  pub covers : Covers (seen ++ map name xs) (names ++ declared_from name what k xs)
  pub rest_new : AreNew (seen ++ map name xs) rest

pub kind_of : {A : Type 0} (name : A → List ℕ) (what : ℕ → Declared) (seen : List (List ℕ)) (names : Names) (k : ℕ) (xs : List A) (rest : List (List ℕ))
    → Covers seen names → AreNew seen (map name xs ++ rest) → Kind name what seen names k xs rest
kind_of name what seen names k [] rest covers new = record {
  new = tt;
  covers = λ x h. ap (λ (n : Names). declared_as n x) (append-nil names) ∙ covers x (other_parts seen [] x h).0;
  rest_new = subst (λ (s : List (List ℕ)). AreNew s rest) (sym (append-nil seen)) new;
}
kind_of name what seen names k (x ∷ xs) rest covers new =
    let more = kind_of name what (seen ++ name x ∷ []) (names ++ (name x, what k) ∷ []) (k + 1) xs rest (covers_more seen names (name x) (what k) covers) new.1 in
    let seen_is : seen ++ name x ∷ [] ++ map name xs ≡ seen ++ map name (x ∷ xs) = append_assoc seen (name x ∷ []) (map name xs) in
    let names_are : names ++ (name x, what k) ∷ [] ++ declared_from name what (k + 1) xs ≡ names ++ declared_from name what k (x ∷ xs) = append_assoc names ((name x, what k) ∷ []) (declared_from name what (k + 1) xs) in
    record {
      new = (covers (name x) new.0, more.new);
      covers = λ y h. ap (λ (n : Names). declared_as n y) (sym names_are) ∙ more.covers y (subst (λ (s : List (List ℕ)). IsOther s y) (sym seen_is) h);
      rest_new = subst (λ (s : List (List ℕ)). AreNew s rest) seen_is more.rest_new;
    }

-- each is then found
pub each_found : {A : Type 0} (name : A → List ℕ) (what : ℕ → Declared) (names : Names) (k : ℕ) (xs : List A) (i : ℕ) → AreNewIn name what names k xs → i < length xs
    → declared_as (names ++ declared_from name what k xs) (option_map_or name (slice_get xs i) []) ≡ Some (what (k + i))
each_found name what names k [] i new within = absurd (omega arith)
each_found name what names k (x ∷ xs) zero new within =
    let same : k ≡ k + 0 = omega arith in
    found_behind names (declared_from name what k (x ∷ xs)) (name x) new.0
    ∙ first_found (name x) (what k) (declared_from name what (k + 1) xs)
    ∙ ap (λ (n : ℕ). Some (what n)) same
each_found name what names k (x ∷ xs) (suc i) new within =
    let same : k + 1 + i ≡ k + suc i = omega arith in
    ap (λ (n : Names). declared_as n (option_map_or name (slice_get xs i) [])) (sym (append_assoc names ((name x, what k) ∷ []) (declared_from name what (k + 1) xs)))
    ∙ each_found name what (names ++ (name x, what k) ∷ []) (k + 1) xs i new.1 (omega arith)
    ∙ ap (λ (n : ℕ). Some (what n)) same
