-- Reading items one after the other, as a loop does: each may look at the last of those that were read before.
use Rattle.std.proofs.Common.{◌≡◌, ℕ, suc, ◌-◌, ◌+◌, ◌≤◌, ◌<◌, List, [], ◌∷◌, ◌++◌, length, Option, Some, Result, Ok, Err, refl, sym, ap, ◌∙◌, append_assoc, arith, length-append}
use Rattle.std.specs.List.{slice_get}
use Rattle.std.proofs.lemmas.Option.{slice_get_read}
use Rattle.std.proofs.lemmas.List.{append-nil, get_or_push}
use Rattle.wf_codec.specs.declared.fault.Misfit.{Misfit}
use Rattle.wf_codec.specs.declared.fault.FieldFault.{FieldFault}
use Rattle.wf_codec.specs.declared.fault.FieldFault.TheVariants as fault
use Rattle.wf_model.specs.Steps.{◌>>=◌}
use Rattle.wf_codec.specs.Reading.{Fails, items_at}

-- what reads an item behind the one before it
abbrev pub Reads : Type 0 → Type 0
Reads A = Option A → List ℕ → Result (A × List ℕ) Misfit

-- the last of the items that were read
abbrev pub latest : {A : Type 0} → List A → Option A
latest xs = slice_get xs (length xs - 1)

pub latest_pushed : {A : Type 0} (xs : List A) (x : A) → latest (xs ++ x ∷ []) ≡ Some x
latest_pushed xs x =
    let len : length (xs ++ x ∷ []) ≡ length xs + 1 = length-append xs (x ∷ []) in
    let at : length xs ≡ length (xs ++ x ∷ []) - 1 = omega arith in
    slice_get_read (xs ++ x ∷ []) (length (xs ++ x ∷ [])) (length (xs ++ x ∷ []) - 1) x refl (omega arith) (sym (get_or_push xs x x (length (xs ++ x ∷ []) - 1) at))

-- the last of a slice of the items
pub latest_seen : {A : Type 0} (xs seen : List A) (o : Option A) → seen ≡ xs → o ≡ slice_get seen (length seen - 1) → o ≡ latest xs
latest_seen xs seen o same last = last ∙ ap latest same

-- what was read before, and what is still read
abbrev pub with_front : {A : Type 0} → List A → Result (List A × List ℕ) Misfit → Result (List A × List ℕ) Misfit
with_front front read = read >>= λ x. Ok (front ++ x.0, x.1)

-- what is read behind a front that was read
abbrev pub from_front : {A : Type 0} → Reads A → List A → ℕ → List ℕ → Result (List A × List ℕ) Misfit
from_front item front count bytes = with_front front (items_at item count (latest front) bytes)

regroup : {A : Type 0} (front : List A) (x : A) (read : Result (List A × List ℕ) Misfit) → with_front front (read >>= λ others. Ok (x ∷ others.0, others.1)) ≡ with_front (front ++ x ∷ []) read
regroup {A} front x (Ok others) = ap (λ (xs : List A). Ok (xs, others.1)) (simp append_assoc)
regroup front x (Err misfit) = refl

-- one item more was read
pub goes_on : {A : Type 0} (item : Reads A) (front : List A) (count i : ℕ) (bytes : List ℕ) (x : A) (after : List ℕ) (total : Result (List A × List ℕ) Misfit) → i < count
    → item (latest front) bytes ≡ Ok (x, after) → from_front item front (count - i) bytes ≡ total → from_front item (front ++ x ∷ []) (count - (i + 1)) after ≡ total
unfolding items_at
goes_on item front count i bytes x after total lt h so_far =
    let k : count - i ≡ suc (count - (i + 1)) = omega arith in
    let one : from_front item front (count - i) bytes ≡ with_front (front ++ x ∷ []) (items_at item (count - (i + 1)) (Some x) after) = rw (k, h) (regroup front x (items_at item (count - (i + 1)) (Some x) after)) in
    rw latest_pushed (sym one ∙ so_far)

-- an item was not read
pub ends : {A : Type 0} (e : FieldFault) (item : Reads A) (front : List A) (count i : ℕ) (bytes : List ℕ) (total : Result (List A × List ℕ) Misfit) → i < count
    → Fails e (item (latest front) bytes) → from_front item front (count - i) bytes ≡ total → Fails e total
unfolding items_at
ends fault.NoMemory item front count i bytes total lt h so_far = tt
ends (fault.Misfit misfit) item front count i bytes total lt h so_far =
    let k : count - i ≡ suc (count - (i + 1)) = omega arith in
    let one : from_front item front (count - i) bytes ≡ Err misfit = rw (k, h) refl in
    sym so_far ∙ one

-- all of the items were read
pub is_done : {A : Type 0} (item : Reads A) (front : List A) (count i : ℕ) (bytes : List ℕ) (total : Result (List A × List ℕ) Misfit) → count ≤ i → from_front item front (count - i) bytes ≡ total → total ≡ Ok (front, bytes)
unfolding items_at
is_done {A} item front count i bytes total le so_far =
    let k : count - i ≡ 0 = omega arith in
    let one : from_front item front (count - i) bytes ≡ Ok (front, bytes) = rw k (ap (λ (xs : List A). Ok (xs, bytes)) (append-nil front)) in
    sym so_far ∙ one
