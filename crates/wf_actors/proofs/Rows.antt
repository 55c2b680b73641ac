-- More items at the end of a list.
use Rattle.std.proofs.Common.{◌≡◌, ◌≢◌, ℕ, zero, suc, ◌+◌, ◌≤◌, false, List, [], ◌∷◌, ◌++◌, length, Option, Some, None, is_some, slice_get, refl, sym, ap, ◌∙◌, subst, append_assoc, arith}
use Rattle.std.proofs.lemmas.List.{append-nil}
use Rattle.wf_model.specs.declared.update.Update.{Update}
use Rattle.wf_parts.specs.declared.data.PartData.{PartData}
use Rattle.wf_actors.specs.Taking.{IsRow, ComesMore}

pub behind : {X : Type 0} (row : List X) (x : X) → slice_get (row ++ x ∷ []) (length row) ≡ Some x
behind [] x = refl
behind (y ∷ row) x = behind row x

pub before : {X : Type 0} (row : List X) (x : X) (q : ℕ) → q ≢ length row → slice_get (row ++ x ∷ []) q ≡ slice_get row q
before [] x zero n = absurd (n refl)
before [] x (suc q) n = refl
before (y ∷ row) x zero n = refl
before (y ∷ row) x (suc q) n = before row x q (λ e. n (ap suc e))

pub longer : {X : Type 0} (row : List X) (x : X) → length (row ++ x ∷ []) ≡ length row + 1
longer [] x = refl
longer (y ∷ row) x = let ih = longer row x in omega arith

pub past_end : {X : Type 0} (row : List X) (q : ℕ) → length row ≤ q → slice_get row q ≡ None
past_end [] q h = refl
past_end (y ∷ row) zero h = absurd (omega arith)
past_end (y ∷ row) (suc q) h = past_end row q (omega arith)

pub none_within : {X : Type 0} (row : List X) (q : ℕ) → slice_get row q ≡ None → length row ≤ q
none_within [] q h = omega arith
none_within (y ∷ row) zero h = absurd (cc)
none_within (y ∷ row) (suc q) h = let ih = none_within row q h in omega arith

pub no_value : {X : Type 0} (o : Option X) → is_some o ≡ false → o ≡ None
no_value None e = refl
no_value (Some x) e = absurd (cc)

-- what stands in front stays there
pub in_front : {X : Type 0} (row more : List X) (q : ℕ) (x : X) → slice_get row q ≡ Some x → slice_get (row ++ more) q ≡ Some x
in_front [] more q x at = absurd (cc at)
in_front (y ∷ row) more zero x at = at
in_front (y ∷ row) more (suc q) x at = in_front row more q x at

-- MORE CAME

pub comes_none : (came came_now : List Update) → came_now ≡ came → ComesMore came came_now
comes_none came came_now e = ([], e ∙ sym (append-nil came))

pub comes_then : (a b c : List Update) → ComesMore a b → ComesMore b c → ComesMore a c
comes_then a b c p q = (p.0 ++ q.0, q.1 ∙ ap (λ l. l ++ q.0) p.1 ∙ append_assoc a p.0 q.0)

pub still_there : (came came_now : List Update) → ComesMore came came_now → (q : ℕ) (x : Update) → slice_get came q ≡ Some x → slice_get came_now q ≡ Some x
still_there came came_now comes q x at = subst (λ l. slice_get l q ≡ Some x) (sym comes.1) (in_front came comes.0 q x at)

-- so what had come is a row if all is one
pub row_before : (part : PartData) (v first : ℕ) (came came_now : List Update) → ComesMore came came_now → IsRow part v first came_now → IsRow part v first came
row_before part v first came came_now comes row k x at = row k x (still_there came came_now comes k x at)
