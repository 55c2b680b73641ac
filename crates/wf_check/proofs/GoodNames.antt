-- One step of the search for a name that isn't good, by the set of those before.
use Rattle.std.proofs.Common.{◌≡◌, ℕ, ◌+◌, ◌<◌, ◌&&◌, not, cond, Bool, true, false, List, length, drop, get_or, Bor, Option, Some, sym, ap, ap₂, ◌∙◌, add-one, drop-cons}
use Rattle.std.specs.List.{list_any, enumerate_from}
use Rattle.std.specs.Str.{bytes_eq}
use Rattle.wf_model.specs.Names.{is_name}
use Rattle.wf_check.specs.Naming.{texts, bad_name, is_good_name}
use Rattle.wf_check.proofs.Found.{failing_from, failing_start}
use Rattle.wf_check.proofs.Novel.{HasBefore, name_at, inside}

-- the first name that isn't good, from the i-th on
abbrev pub bad_from : List (List ℕ) → ℕ → Option ℕ
bad_from names i = failing_from (λ p. is_good_name names p.0 p.1) i (enumerate_from i (drop i names))

pub bad_start : (names : List (List ℕ)) → bad_name names ≡ bad_from names 0
bad_start names = failing_start (λ p. is_good_name names p.0 p.1) (enumerate_from 0 names)

pub bad_step : (names : List (List ℕ)) (i : ℕ) (d : List ℕ) → i < length names → bad_from names i ≡ cond (not (is_good_name names i (get_or names i d))) (Some i) (bad_from names (i + 1))
bad_step names i d h =
    ap (λ (rest : List (List ℕ)). failing_from (λ p. is_good_name names p.0 p.1) i (enumerate_from i rest)) (drop-cons names i d h)
    ∙ ap (λ (k : ℕ). cond (not (is_good_name names i (get_or names i d))) (Some i) (failing_from (λ p. is_good_name names p.0 p.1) (i + 1) (enumerate_from (i + 1) (drop k names)))) (sym (add-one i))

-- whether the i-th name is good, by the set
good_at : (refs keys : List (Bor (List ℕ))) (i : ℕ) (d : Bor (List ℕ)) → i < length refs → HasBefore (texts refs) i keys
    → is_good_name (texts refs) i (get_or (texts refs) i d.now) ≡ (is_name (get_or refs i d).now && not (list_any (λ key. bytes_eq (get_or refs i d).now key.now) keys))
good_at refs keys i d h before =
    ap (is_good_name (texts refs) i) (name_at refs i d h)
    ∙ ap (λ (b : Bool). is_name (get_or refs i d).now && not b) (sym (before (get_or refs i d).now))

-- a name that is none
pub no_name : (refs keys : List (Bor (List ℕ))) (i : ℕ) (d : Bor (List ℕ)) → i < length refs → HasBefore (texts refs) i keys → is_name (get_or refs i d).now ≡ false → Some i ≡ bad_from (texts refs) i
no_name refs keys i d h before bad =
    sym (bad_step (texts refs) i d.now (inside refs i h)
    ∙ ap (λ (b : Bool). cond (not b) (Some i) (bad_from (texts refs) (i + 1))) (good_at refs keys i d h before ∙ ap (λ (b : Bool). b && not (list_any (λ key. bytes_eq (get_or refs i d).now key.now) keys)) bad))

-- a name, and whether it was added to the set
added_name : (refs keys : List (Bor (List ℕ))) (i : ℕ) (d : Bor (List ℕ)) (added : Bool) → i < length refs → HasBefore (texts refs) i keys → is_name (get_or refs i d).now ≡ true
    → added ≡ not (list_any (λ key. bytes_eq (get_or refs i d).now key.now) keys) → bad_from (texts refs) i ≡ cond (not added) (Some i) (bad_from (texts refs) (i + 1))
added_name refs keys i d added h before good e =
    bad_step (texts refs) i d.now (inside refs i h)
    ∙ ap (λ (b : Bool). cond (not b) (Some i) (bad_from (texts refs) (i + 1)))
    (good_at refs keys i d h before ∙ ap₂ (λ (a b : Bool). a && b) good (sym e))

-- a name that stands among those before it
pub old_name : (refs keys : List (Bor (List ℕ))) (i : ℕ) (d : Bor (List ℕ)) (added : Bool) → i < length refs → HasBefore (texts refs) i keys → is_name (get_or refs i d).now ≡ true
    → added ≡ not (list_any (λ key. bytes_eq (get_or refs i d).now key.now) keys) → added ≡ false → Some i ≡ bad_from (texts refs) i
old_name refs keys i d added h before good e old =
    sym (added_name refs keys i d added h before good e ∙ ap (λ (b : Bool). cond (not b) (Some i) (bad_from (texts refs) (i + 1))) old)

-- a name that is new
pub new_name : (refs keys : List (Bor (List ℕ))) (i : ℕ) (d : Bor (List ℕ)) (added : Bool) → i < length refs → HasBefore (texts refs) i keys → is_name (get_or refs i d).now ≡ true
    → added ≡ not (list_any (λ key. bytes_eq (get_or refs i d).now key.now) keys) → added ≡ true → bad_from (texts refs) i ≡ bad_from (texts refs) (i + 1)
new_name refs keys i d added h before good e new =
    added_name refs keys i d added h before good e ∙ ap (λ (b : Bool). cond (not b) (Some i) (bad_from (texts refs) (i + 1))) new
