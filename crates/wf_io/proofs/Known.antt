-- Bytes that are known, over several calls.
use Rattle.std.proofs.Common.{ℕ, List, ◌++◌, Option, Some, None, Result, Ok, Err, OnErr, ◌∙◌, ap, sym, append_assoc}
use Rattle.std.specs.Io.KnownBytes.{Appends, Consumes}

pub appends_on : (a b c : Option (List ℕ)) (x y : List ℕ) → Appends a b x → Appends b c y → Appends a c (x ++ y)
appends_on None b c x y p q = tt
appends_on (Some a) None c x y p q = absurd p
appends_on (Some a) (Some b) None x y p q = absurd q
appends_on (Some a) (Some b) (Some c) x y p q = q ∙ ap (λ v. v ++ y) p ∙ append_assoc a x y

pub consumes_on : (a b c : Option (List ℕ)) (x y : List ℕ) → Consumes a b x → Consumes b c y → Consumes a c (x ++ y)
consumes_on None b c x y p q = tt
consumes_on (Some a) None c x y p q = absurd p
consumes_on (Some a) (Some b) None x y p q = absurd q
consumes_on (Some a) (Some b) (Some c) x y p q = p ∙ ap (λ v. x ++ v) q ∙ sym (append_assoc x y c)

-- bytes that were consumed are so at an Err
pub consumes_at_err : {T E : Type 0} (result : Result T E) (a b : Option (List ℕ)) (x : List ℕ) → Consumes a b x → OnErr result ((given : List ℕ) × Consumes a b given)
consumes_at_err (Ok value) a b x p = tt
consumes_at_err (Err e) a b x p = (x, p)
