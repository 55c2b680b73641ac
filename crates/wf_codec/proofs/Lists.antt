-- Items one after another, and a list behind its count.
use Rattle.std.proofs.Common.{◌≡◌, ℕ, zero, suc, ◌^◌, ◌<◌, ◌≤◌, List, [], ◌∷◌, ◌++◌, length, Option, Some, None, Result, Ok, refl, sym, ap, subst, ◌∙◌, append_assoc, arith}
use Rattle.std.specs.List.{flat_map, AllByRecursion}
use Rattle.std.proofs.lemmas.List.Concat.{flat_map-cons}
use Rattle.wf_codec.specs.declared.fault.Misfit.{Misfit}
use Rattle.wf_codec.specs.Spelling.{listed}
use Rattle.wf_codec.specs.Ranges.{InOrder}
use Rattle.wf_model.specs.Steps.{◌>>=◌}
use Rattle.wf_codec.specs.Reading.{items_at}
use Rattle.wf_codec.specs.Fields.{list_at}
use Rattle.wf_codec.proofs.Readers.{IsBytes, bind_ok, ok_is, Takes, Takes-then, Reads, Reads-then, Reads-as}
use Rattle.wf_codec.proofs.Numbers.{Reads-two}

-- each item fits behind the one before it
abbrev pub EachFits : {A : Type 0} → (Option A → A → Type 0) → Option A → List A → Type 0
EachFits Fit before [] = Unit {0}
EachFits Fit before (x ∷ xs) = Fit before x × EachFits Fit (Some x) xs

items_take : {A : Type 0} (item : Option A → List ℕ → Result (A × List ℕ) Misfit) (spelling : A → List ℕ) (Fit : Option A → A → Type 0)
    → ((before : Option A) → Reads (item before) spelling (Fit before))
    → (n : ℕ) (before : Option A) (bytes : List ℕ) (xs : List A) (rest : List ℕ) → IsBytes bytes → items_at item n before bytes ≡ Ok (xs, rest)
    → Takes bytes (flat_map spelling xs) rest × ((length xs ≡ n) × EachFits Fit before xs)
unfolding items_at
items_take {A} item spelling Fit reads zero before bytes xs rest fits e =
    subst (λ (y : List A × List ℕ). Takes bytes (flat_map spelling y.0) y.1 × ((length y.0 ≡ 0) × EachFits Fit before y.0)) (ok_is ([], bytes) (xs, rest) e)
    (record { parts = refl; rest_fits = fits }, (refl, tt))
items_take {A} item spelling Fit reads (suc n) before bytes xs rest fits e =
    let a = bind_ok (item before bytes) (λ first. items_at item n (Some first.0) first.1 >>= λ others. Ok (first.0 ∷ others.0, others.1)) (xs, rest) e in
    let b = bind_ok (items_at item n (Some a.0.0) a.0.1) (λ others. Ok (a.0.0 ∷ others.0, others.1)) (xs, rest) a.2 in
    let first = (reads before).takes bytes a.0.0 a.0.1 fits a.1 in
    let second = items_take item spelling Fit reads n (Some a.0.0) a.0.1 b.0.0 b.0.1 first.0.rest_fits b.1 in
    let both = Takes-then bytes (spelling a.0.0) a.0.1 (flat_map spelling b.0.0) b.0.1 first.0 second.0 in
    let spelled : Takes bytes (flat_map spelling (a.0.0 ∷ b.0.0)) b.0.1 = rw flat_map-cons both in
    let made : List A × List ℕ = (a.0.0 ∷ b.0.0, b.0.1) in
    subst (λ (y : List A × List ℕ). Takes bytes (flat_map spelling y.0) y.1 × ((length y.0 ≡ suc n) × EachFits Fit before y.0)) {x = made} (ok_is made (xs, rest) b.2)
    (spelled, (ap suc second.1.0, (first.1, second.1.1)))

items_again : {A : Type 0} (item : Option A → List ℕ → Result (A × List ℕ) Misfit) (spelling : A → List ℕ) (Fit : Option A → A → Type 0)
    → ((before : Option A) → Reads (item before) spelling (Fit before))
    → (before : Option A) (xs : List A) (rest : List ℕ) → EachFits Fit before xs → items_at item (length xs) before (flat_map spelling xs ++ rest) ≡ Ok (xs, rest)
unfolding items_at
items_again {A} item spelling Fit reads before [] rest fits = refl
items_again {A} item spelling Fit reads before (x ∷ xs) rest fits =
    let regrouped : flat_map spelling (x ∷ xs) ++ rest ≡ spelling x ++ (flat_map spelling xs ++ rest) = ap (λ (s : List ℕ). s ++ rest) (flat_map-cons spelling x xs) ∙ append_assoc (spelling x) (flat_map spelling xs) rest in
    ap (items_at item (suc (length xs)) before) regrouped
    ∙ ap (λ (r : Result (A × List ℕ) Misfit). r >>= λ first. items_at item (length xs) (Some first.0) first.1 >>= λ others. Ok (first.0 ∷ others.0, others.1)) ((reads before).again x (flat_map spelling xs ++ rest) fits.0)
    ∙ ap (λ (r : Result (List A × List ℕ) Misfit). r >>= λ others. Ok (x ∷ others.0, others.1)) (items_again item spelling Fit reads (Some x) xs rest fits.1)

pub Reads-items : {A : Type 0} {item : Option A → List ℕ → Result (A × List ℕ) Misfit} {spelling : A → List ℕ} {Fit : Option A → A → Type 0}
    → ((before : Option A) → Reads (item before) spelling (Fit before)) → (n : ℕ) (before : Option A)
    → Reads (items_at item n before) (flat_map spelling) (λ xs. (length xs ≡ n) × EachFits Fit before xs)
Reads-items {A} {item} {spelling} {Fit} reads n before = record {
  takes = items_take item spelling Fit reads n before;
  again = λ xs rest fit. ap (λ (k : ℕ). items_at item k before (flat_map spelling xs ++ rest)) (sym fit.0) ∙ items_again item spelling Fit reads before xs rest fit.1;
}

-- a list behind its count
pub Reads-list : {A : Type 0} {item : Option A → List ℕ → Result (A × List ℕ) Misfit} {spelling : A → List ℕ} {Fit : Option A → A → Type 0}
    → ((before : Option A) → Reads (item before) spelling (Fit before)) → (bound : ℕ) → bound ≤ 2 ^ 16
    → Reads (list_at item bound) (listed spelling) (λ xs. (length xs < bound) × EachFits Fit None xs)
unfolding list_at
Reads-list {A} {item} {spelling} {Fit} reads bound small =
    Reads-as (listed spelling) (λ xs. (length xs < bound) × EachFits Fit None xs)
    (Reads-then length (Reads-two 0 bound small) (λ n fit. Reads-items reads n None) (λ n xs fit fits. fits.0))
    (λ xs fit. refl) (λ xs fit. (fit.0.1, fit.1.1)) (λ xs fit. ((omega arith, fit.0), (refl, fit.1)))

-- ---- each item, and each pair of neighbours

-- what fits an item by itself, and how it follows the one before it
pub record IsSplit {A : Type 0} (Fit : Option A → A → Type 0) (Each : A → Type 0) (Before : A → A → Type 0) : Type 0 where
  pub alone : (x : A) → Fit None x → Each x
  pub behind : (x y : A) → Fit (Some x) y → Each y × Before x y
  pub first : (x : A) → Each x → Fit None x
  pub next : (x y : A) → Each y → Before x y → Fit (Some x) y

in_order_behind : {A : Type 0} {Fit : Option A → A → Type 0} {Each : A → Type 0} {Before : A → A → Type 0} → IsSplit Fit Each Before
    → (x : A) (ys : List A) → EachFits Fit (Some x) ys → AllByRecursion Each ys × InOrder Before (x ∷ ys)
in_order_behind split x [] fits = (tt, tt)
in_order_behind split x (y ∷ ys) fits =
    let one = split.behind x y fits.0 in
    let others = in_order_behind split y ys fits.1 in
    ((one.0, others.0), (one.1, others.1))

pub in_order : {A : Type 0} {Fit : Option A → A → Type 0} {Each : A → Type 0} {Before : A → A → Type 0} → IsSplit Fit Each Before
    → (xs : List A) → EachFits Fit None xs → AllByRecursion Each xs × InOrder Before xs
in_order split [] fits = (tt, tt)
in_order split (x ∷ xs) fits =
    let others = in_order_behind split x xs fits.1 in
    ((split.alone x fits.0, others.0), others.1)

each_fits_behind : {A : Type 0} {Fit : Option A → A → Type 0} {Each : A → Type 0} {Before : A → A → Type 0} → IsSplit Fit Each Before
    → (x : A) (ys : List A) → AllByRecursion Each ys → InOrder Before (x ∷ ys) → EachFits Fit (Some x) ys
each_fits_behind split x [] each order = tt
each_fits_behind split x (y ∷ ys) each order = (split.next x y each.0 order.0, each_fits_behind split y ys each.1 order.1)

pub each_fits : {A : Type 0} {Fit : Option A → A → Type 0} {Each : A → Type 0} {Before : A → A → Type 0} → IsSplit Fit Each Before
    → (xs : List A) → AllByRecursion Each xs → InOrder Before xs → EachFits Fit None xs
each_fits split [] each order = tt
each_fits split (x ∷ xs) each order = (split.first x each.0, each_fits_behind split x xs each.1 order)

-- ---- items that follow one another in any order

pub each_alone : {A : Type 0} (Each : A → Type 0) (before : Option A) (xs : List A) → EachFits (λ b. Each) before xs → AllByRecursion Each xs
each_alone Each before [] fits = tt
each_alone Each before (x ∷ xs) fits = (fits.0, each_alone Each (Some x) xs fits.1)

pub all_fit : {A : Type 0} (Each : A → Type 0) (before : Option A) (xs : List A) → AllByRecursion Each xs → EachFits (λ b. Each) before xs
all_fit Each before [] each = tt
all_fit Each before (x ∷ xs) each = (each.0, all_fit Each (Some x) xs each.1)

-- what holds of each in two parts
pub all_both : {A : Type 0} (P Q : A → Type 0) (xs : List A) → AllByRecursion P xs → AllByRecursion Q xs → AllByRecursion (λ x. P x × Q x) xs
all_both P Q [] p q = tt
all_both P Q (x ∷ xs) p q = ((p.0, q.0), all_both P Q xs p.1 q.1)

pub all_as : {A : Type 0} (P Q : A → Type 0) → ((x : A) → P x → Q x) → (xs : List A) → AllByRecursion P xs → AllByRecursion Q xs
all_as P Q to [] p = tt
all_as P Q to (x ∷ xs) p = (to x p.0, all_as P Q to xs p.1)
