-- One step of the test whether names differ, by the set of those before.
use Rattle.std.proofs.Common.{◌≡◌, ℕ, ◌+◌, ◌<◌, ◌&&◌, ◌||◌, not, Bool, true, false, List, [], ◌∷◌, ◌++◌, length, take, drop, get_or, Bor, sym, ap, ap₂, ◌∙◌, arith, add-one, drop-cons}
use Rattle.std.specs.List.{list_any, list_all, enumerate_from}
use Rattle.std.specs.List.Sorted.{IsPermutation}
use Rattle.std.specs.Str.{bytes_eq}
use Rattle.std.proofs.Math.Bool.{or_comm, or-false}
use Rattle.std.proofs.lemmas.Bool.{and_left}
use Rattle.std.proofs.lemmas.List.{take_more, length-map, get_or-map, map-append}
use Rattle.std.proofs.lemmas.List.Folds.{list_any-append, list_all-map}
use Rattle.std.proofs.lemmas.List.Sorted.{list_any-IsPermutation}
use Rattle.wf_model.specs.Accepted.{is_new}
use Rattle.wf_check.specs.Naming.{texts}

-- the names from the i-th on are new
abbrev pub news_from : List (List ℕ) → ℕ → Bool
news_from names i = list_all (λ p. is_new names p.0 p.1) (enumerate_from i (drop i names))

pub news_step : (names : List (List ℕ)) (i : ℕ) (d : List ℕ) → i < length names → news_from names i ≡ (is_new names i (get_or names i d) && news_from names (i + 1))
news_step names i d h =
    ap (λ (rest : List (List ℕ)). list_all (λ p. is_new names p.0 p.1) (enumerate_from i rest)) (drop-cons names i d h)
    ∙ ap (λ (k : ℕ). is_new names i (get_or names i d) && list_all (λ p. is_new names p.0 p.1) (enumerate_from (i + 1) (drop k names))) (sym (add-one i))

-- the set has the names before the i-th
abbrev pub HasBefore : List (List ℕ) → ℕ → List (Bor (List ℕ)) → Type 0
HasBefore names i keys = (q : List ℕ) → list_any (λ key. bytes_eq q key.now) keys ≡ list_any (bytes_eq q) (take i names)

pub name_at : (refs : List (Bor (List ℕ))) (i : ℕ) (d : Bor (List ℕ)) → i < length refs → get_or (texts refs) i d.now ≡ (get_or refs i d).now
name_at refs i d h = get_or-map (λ (name : Bor (List ℕ)). name.now) refs i d d.now h

pub inside : (refs : List (Bor (List ℕ))) (i : ℕ) → i < length refs → i < length (texts refs)
inside refs i h = omega (arith, length-map refs (λ (name : Bor (List ℕ)). name.now))

news_at : (refs keys : List (Bor (List ℕ))) (i : ℕ) (d : Bor (List ℕ)) (added : Bool) → i < length refs → HasBefore (texts refs) i keys → added ≡ not (list_any (λ key. bytes_eq (get_or refs i d).now key.now) keys)
    → news_from (texts refs) i ≡ (added && news_from (texts refs) (i + 1))
news_at refs keys i d added h before e =
    news_step (texts refs) i d.now (inside refs i h)
    ∙ ap (λ (name : List ℕ). is_new (texts refs) i name && news_from (texts refs) (i + 1)) (name_at refs i d h)
    ∙ ap (λ (b : Bool). not b && news_from (texts refs) (i + 1)) (sym (before (get_or refs i d).now))
    ∙ ap (λ (b : Bool). b && news_from (texts refs) (i + 1)) (sym e)

-- a name that stands twice
pub stands_twice : (refs keys : List (Bor (List ℕ))) (i : ℕ) (d : Bor (List ℕ)) (added : Bool) → i < length refs → HasBefore (texts refs) i keys → added ≡ not (list_any (λ key. bytes_eq (get_or refs i d).now key.now) keys) → added ≡ false
    → false ≡ news_from (texts refs) i
stands_twice refs keys i d added h before e old = sym (news_at refs keys i d added h before e ∙ and_left added (news_from (texts refs) (i + 1)) old)

-- a name that is new
pub stands_first : (refs keys : List (Bor (List ℕ))) (i : ℕ) (d : Bor (List ℕ)) (added : Bool) → i < length refs → HasBefore (texts refs) i keys → added ≡ not (list_any (λ key. bytes_eq (get_or refs i d).now key.now) keys) → added ≡ true
    → news_from (texts refs) i ≡ news_from (texts refs) (i + 1)
stands_first refs keys i d added h before e new = news_at refs keys i d added h before e ∙ ap (λ (b : Bool). b && news_from (texts refs) (i + 1)) new

-- and then the set has it too
pub has_more : (refs keys next : List (Bor (List ℕ))) (i : ℕ) (d : Bor (List ℕ)) → i < length refs → HasBefore (texts refs) i keys → IsPermutation (get_or refs i d ∷ keys) next → HasBefore (texts refs) (i + 1) next
has_more refs keys next i d h before moved q =
    sym (list_any-IsPermutation (λ (key : Bor (List ℕ)). bytes_eq q key.now) (get_or refs i d ∷ keys) next moved)
    ∙ or_comm (bytes_eq q (get_or refs i d).now) (list_any (λ key. bytes_eq q key.now) keys)
    ∙ ap₂ (λ (a b : Bool). a || b) (before q) (ap (bytes_eq q) (sym (name_at refs i d h)) ∙ sym (or-false (bytes_eq q (get_or (texts refs) i d.now))))
    ∙ sym (list_any-append (bytes_eq q) (take i (texts refs)) (get_or (texts refs) i d.now ∷ []))
    ∙ ap (list_any (bytes_eq q)) (sym (take_more (texts refs) i d.now (inside refs i h)))

-- a test of each name's bytes
pub all_texts : (test : List ℕ → Bool) (refs : List (Bor (List ℕ))) → list_all test (texts refs) ≡ list_all (λ name. test name.now) refs
all_texts test refs = list_all-map test (λ (name : Bor (List ℕ)). name.now) refs

-- one more name
pub texts_more : (refs : List (Bor (List ℕ))) (x : Bor (List ℕ)) → texts (refs ++ x ∷ []) ≡ texts refs ++ x.now ∷ []
texts_more refs x = map-append (λ (name : Bor (List ℕ)). name.now) refs (x ∷ [])
