-- A map of names is seen as the list of them.
use Rattle.std.proofs.Common.{◌≡◌, ℕ, List, [], ◌∷◌, ◌++◌, map, Bool, cond, Some, None, refl, ap, ◌∙◌}
use Rattle.std.proofs.lemmas.List.{map-append}
use Rattle.std.specs.Map.{lookup}
use Rattle.std.specs.Str.{bytes_eq}
use Rattle.indexmap.specs.IndexMap.{IndexMap, get, insert_entry}
use Rattle.indexmap.proofs.CallerLemmas.{insert_entry-new}

-- what is shown of keys, with their values
abbrev pub shown : {K L X : Type 0} → (K → L) → List (K × X) → List (L × X)
shown {K} {L} {X} show es = map {B = L × X} (λ e. (show e.0, e.1)) es

-- a look-up by what is shown of the keys
pub lookup-shown : {K L X : Type 0} (show : K → L) (test : L → Bool) (es : List (K × X)) → lookup (λ k. test (show k)) es ≡ lookup test (shown show es)
lookup-shown show test [] = refl
lookup-shown show test (e ∷ es) = ap (λ more. cond (test (show e.0)) (Some e.1) more) (lookup-shown show test es)

-- a new name stands last
pub shown-more : {K X S : Type 0} (show : K → List ℕ) (eq : K → K → Bool) (m : IndexMap K X S) (key : K) (what : X) (name : List ℕ) (new : List (K × X))
    → ((k : K) → eq key k ≡ bytes_eq (show key) (show k)) → show key ≡ name
    → lookup (bytes_eq name) (shown show m.entries) ≡ None
    → new ≡ insert_entry eq m.entries key what
    → shown show new ≡ shown show m.entries ++ (name, what) ∷ []
shown-more {K} {X} show eq m key what name new same named absent inserted =
    let none : get eq m key ≡ None =
    ap (λ (test : K → Bool). lookup test m.entries) (λ i k. same k i)
    ∙ lookup-shown show (bytes_eq (show key)) m.entries
    ∙ ap (λ (n : List ℕ). lookup (bytes_eq n) (shown show m.entries)) named
    ∙ absent in
    ap (shown show) (inserted ∙ insert_entry-new eq m key what none)
    ∙ map-append (λ (e : K × X). let p : List ℕ × X = (show e.0, e.1) in p) m.entries ((key, what) ∷ [])
    ∙ ap (λ (n : List ℕ). shown show m.entries ++ (n, what) ∷ []) named
