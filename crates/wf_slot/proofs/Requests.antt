-- What a machine answers to a request that an admission has.
use Rattle.std.proofs.Common.{◌≡◌, ℕ, suc, ◌+◌, ◌-◌, ◌≤◌, ◌==◌, ◌&&◌, Bool, true, false, List, [], ◌∷◌, map, slice_get, Some, None, refl, sym, ◌∙◌, ap, ap₂, arith, eqb-true, eq-eqb}
use Rattle.std.specs.Prelude.{ℤ, nat_eq}
use Rattle.std.specs.Bool.{Decides}
use Rattle.std.specs.Cmp.{unsigned_Decides}
use Rattle.std.specs.Cmp.Lexicographic.{pointwise}
use Rattle.std.specs.List.{find, position, position_from, enumerate_from}
use Rattle.std.proofs.lemmas.Bool.{cond-true, cond-false}
use Rattle.std.proofs.lemmas.Bool.Decides.{Decides-int_eq}
use Rattle.std.proofs.lemmas.Slice.Eq.{slice_eq-Decides}
use Rattle.std.proofs.lemmas.Iterator.Adapters.{position_from-zero}
use Rattle.wf_model.specs.declared.value.Val.{Val}
use Rattle.wf_model.specs.declared.value.Val.TheVariants as v
use Rattle.wf_model.specs.declared.outer.Output.{Output}
use Rattle.wf_model.specs.declared.outer.Outer.{Outer}
use Rattle.wf_model.specs.declared.outer.Outer.TheVariants.{Happen, Complete}
use Rattle.wf_model.specs.Values.{is_equal}
use Rattle.wf_machine.specs.declared.admission.Admission as of
use Rattle.wf_machine.specs.Lines.{same_output, same_outer, asked}
use Rattle.wf_histories.specs.Histories.{Admission}
use Rattle.wf_slot.specs.Units.{counted}

-- THE MACHINE'S TEST OF OUTERS TELLS WHETHER THEY ARE EQUAL

both_true : (a b : Bool) → (a && b) ≡ true → (a ≡ true) × (b ≡ true)
both_true true b e = (refl, e)
both_true false b e = cc

val_Decides : (x y : Val) → Decides (is_equal x y) (x ≡ y)
val_Decides (v.Bool false) (v.Bool false) = (λ e. refl, λ e. refl)
val_Decides (v.Bool false) (v.Bool true) = (λ e. cc, λ e. cc)
val_Decides (v.Bool true) (v.Bool false) = (λ e. cc, λ e. cc)
val_Decides (v.Bool true) (v.Bool true) = (λ e. refl, λ e. refl)
val_Decides (v.Bool false) (v.Int n) = (λ e. cc, λ e. cc)
val_Decides (v.Bool true) (v.Int n) = (λ e. cc, λ e. cc)
val_Decides (v.Bool false) (v.Text t) = (λ e. cc, λ e. cc)
val_Decides (v.Bool true) (v.Text t) = (λ e. cc, λ e. cc)
val_Decides (v.Int m) (v.Bool b) = (λ e. cc, λ e. cc)
val_Decides (v.Int m) (v.Int n) = (λ e. let same : m ≡ n = (Decides-int_eq m n).0 e in ap (λ (z : ℤ). v.Int z) same, λ e. let same : m ≡ n = cc in (Decides-int_eq m n).1 same)
val_Decides (v.Int m) (v.Text t) = (λ e. cc, λ e. cc)
val_Decides (v.Text s) (v.Bool b) = (λ e. cc, λ e. cc)
val_Decides (v.Text s) (v.Int n) = (λ e. cc, λ e. cc)
val_Decides (v.Text s) (v.Text t) =
    let told : Decides (pointwise nat_eq s t) (s ≡ t) = slice_eq-Decides unsigned_Decides s t (pointwise nat_eq s t) refl in
    (λ e. ap (λ (cs : List ℕ). v.Text cs) (told.0 e), λ e. let same : s ≡ t = cc in told.1 same)

-- the records of one number, and of a variable with its value
abbrev output_by : ℕ → Val → Output
output_by x val = record { var = record { 0 = x }; val = val }

abbrev happen_by : ℕ → Outer
happen_by e = Happen (record { 0 = e })

abbrev complete_by : ℕ → ℕ → List Output → Outer
complete_by n a outputs = Complete n (record { 0 = a }) outputs

both_are : (a b : Bool) → a ≡ true → b ≡ true → (a && b) ≡ true
both_are a b e f = ap₂ (λ (x y : Bool). x && y) e f

output_Decides : (o p : Output) → Decides (same_output o p) (o ≡ p)
output_Decides o p = (same, λ e. both_are (o.var.0 == p.var.0) (is_equal o.val p.val) (eq-eqb o.var.0 p.var.0 (ap (λ (x : Output). x.var.0) e)) ((val_Decides o.val p.val).1 (ap (λ (x : Output). x.val) e)))
  where
    same : same_output o p ≡ true → o ≡ p
    same e =
        let both = both_true (o.var.0 == p.var.0) (is_equal o.val p.val) e in
        let vars : o.var.0 ≡ p.var.0 = eqb-true o.var.0 p.var.0 both.0 in
        let vals : o.val ≡ p.val = (val_Decides o.val p.val).0 both.1 in
        ap₂ (λ (x : ℕ) (val : Val). output_by x val) vars vals

outputs_Decides : (xs ys : List Output) → Decides (pointwise same_output xs ys) (xs ≡ ys)
outputs_Decides xs ys = slice_eq-Decides output_Decides xs ys (pointwise same_output xs ys) refl

-- the parts of a completion
abbrev item_of : Outer → ℕ
item_of (Happen e) = 0
item_of (Complete n a outputs) = n

abbrev number_of : Outer → ℕ
number_of (Happen e) = e.0
number_of (Complete n a outputs) = a.0

abbrev outputs_of : Outer → List Output
outputs_of (Happen e) = []
outputs_of (Complete n a outputs) = outputs

pub outer_Decides : (x y : Outer) → Decides (same_outer x y) (x ≡ y)
outer_Decides (Happen e) (Happen f) = (λ q. ap (λ (n : ℕ). happen_by n) (eqb-true e.0 f.0 q), λ q. eq-eqb e.0 f.0 (ap number_of q))
outer_Decides (Happen e) (Complete n a outputs) = (λ q. cc, λ q. cc)
outer_Decides (Complete n a outputs) (Happen e) = (λ q. cc, λ q. cc)
outer_Decides (Complete n a outputs) (Complete i b given) = (same, told)
  where
    same : same_outer (Complete n a outputs) (Complete i b given) ≡ true → Complete n a outputs ≡ Complete i b given
    same q =
        let first = both_true (n == i) ((a.0 == b.0) && pointwise same_output outputs given) q in
        let rest = both_true (a.0 == b.0) (pointwise same_output outputs given) first.1 in
        let items : n ≡ i = eqb-true n i first.0 in
        let acts : a.0 ≡ b.0 = eqb-true a.0 b.0 rest.0 in
        let outs : outputs ≡ given = (outputs_Decides outputs given).0 rest.1 in
        ap₂ (λ (x y : ℕ). complete_by x y outputs) items acts ∙ ap (λ (os : List Output). complete_by i b.0 os) outs

    told : Complete n a outputs ≡ Complete i b given → same_outer (Complete n a outputs) (Complete i b given) ≡ true
    told q =
        both_are (n == i) ((a.0 == b.0) && pointwise same_output outputs given) (eq-eqb n i (ap item_of q))
        (both_are (a.0 == b.0) (pointwise same_output outputs given) (eq-eqb a.0 b.0 (ap number_of q)) ((outputs_Decides outputs given).1 (ap outputs_of q)))

-- THE ADMISSION THAT HAS A REQUEST

-- the test of a request over a history's admissions
abbrev has_request : ℕ → Admission → Bool
has_request request a = a.request == request

-- the first that has it from place i on, which the machine numbers from k on
pub record IsFound (request k i place : ℕ) (xs : List Admission) : Type 0 where
  pub a : Admission
  pub later : i ≤ place
  pub there : slice_get xs (place - i) ≡ Some a
  pub found : find (λ (x : ℕ × of.Admission). x.1.request == request) (enumerate_from k (map counted xs)) ≡ Some (k + (place - i), counted a)

place_is : (i place : ℕ) → Some i ≡ Some place → i ≡ place
place_is i place e = cc

no_place : (place : ℕ) → None ≡ Some place → ⊥
no_place place e = cc

-- where the first admission has it, and where another one has

found_here : (request k i place : ℕ) (x : Admission) (xs : List Admission) → (x.request == request) ≡ true → i ≡ place → IsFound request k i place (x ∷ xs)
found_here request k i place x xs q here =
    let zero_off : place - i ≡ 0 = omega (arith, here) in
    let number : k + (place - i) ≡ k = omega (arith, here) in
    record {
      a = x;
      later = omega (arith, here);
      there = ap (λ (n : ℕ). slice_get (x ∷ xs) n) zero_off;
      found = cond-true (x.request == request) (Some (k, counted x)) (find (λ (y : ℕ × of.Admission). y.1.request == request) (enumerate_from (k + 1) (map counted xs))) q ∙ ap (λ (n : ℕ). Some (n, counted x)) (sym number);
    }

found_later : (request k i place : ℕ) (x : Admission) (xs : List Admission) → (x.request == request) ≡ false → IsFound request (k + 1) (i + 1) place xs → IsFound request k i place (x ∷ xs)
found_later request k i place x xs q rest =
    let later = rest.later in
    let off : place - i ≡ suc (place - (i + 1)) = omega (arith, later) in
    let number : (k + 1) + (place - (i + 1)) ≡ k + (place - i) = omega (arith, later) in
    record {
      a = rest.a;
      later = omega (arith, later);
      there = ap (λ (n : ℕ). slice_get (x ∷ xs) n) off ∙ rest.there;
      found = cond-false (x.request == request) (Some (k, counted x)) (find (λ (y : ℕ × of.Admission). y.1.request == request) (enumerate_from (k + 1) (map counted xs))) q ∙ rest.found ∙ ap (λ (n : ℕ). Some (n, counted rest.a)) number;
    }

found_from : (request k i place : ℕ) (xs : List Admission) → position_from (has_request request) i xs ≡ Some place → IsFound request k i place xs
found_from request k i place [] e = absurd (no_place place e)
found_from request k i place (x ∷ xs) e = go (x.request == request) refl (λ next. found_from request (k + 1) (i + 1) place xs next)
  where
    go : (b : Bool) → (x.request == request) ≡ b → (position_from (has_request request) (i + 1) xs ≡ Some place → IsFound request (k + 1) (i + 1) place xs) → IsFound request k i place (x ∷ xs)
    go true q rest = found_here request k i place x xs q (place_is i place (sym (cond-true (x.request == request) (Some i) (position_from (has_request request) (i + 1) xs) q) ∙ e))
    go false q rest = found_later request k i place x xs q (rest (sym (cond-false (x.request == request) (Some i) (position_from (has_request request) (i + 1) xs) q) ∙ e))

none_from : (request k i : ℕ) (xs : List Admission) → position_from (has_request request) i xs ≡ None → find (λ (x : ℕ × of.Admission). x.1.request == request) (enumerate_from k (map counted xs)) ≡ None
none_from request k i [] e = refl
none_from request k i (x ∷ xs) e = go (x.request == request) refl (λ next. none_from request (k + 1) (i + 1) xs next)
  where
    go : (b : Bool) → (x.request == request) ≡ b →
        (position_from (has_request request) (i + 1) xs ≡ None → find (λ (y : ℕ × of.Admission). y.1.request == request) (enumerate_from (k + 1) (map counted xs)) ≡ None) →
        find (λ (y : ℕ × of.Admission). y.1.request == request) (enumerate_from k (map counted (x ∷ xs))) ≡ None
    go true q rest = absurd (no_place i (sym e ∙ cond-true (x.request == request) (Some i) (position_from (has_request request) (i + 1) xs) q))
    go false q rest =
        cond-false (x.request == request) (Some (k, counted x)) (find (λ (y : ℕ × of.Admission). y.1.request == request) (enumerate_from (k + 1) (map counted xs))) q
        ∙ rest (sym (cond-false (x.request == request) (Some i) (position_from (has_request request) (i + 1) xs) q) ∙ e)

-- the machine finds the admission that a history has at a place, by one more than that
pub asked_at : (request place : ℕ) (xs : List Admission) → position (has_request request) xs ≡ Some place → (a : Admission) × (slice_get xs place ≡ Some a) × (asked request (map counted xs) ≡ Some (place + 1, counted a))
asked_at request place xs e =
    let found : IsFound request 1 0 place xs = found_from request 1 0 place xs (sym (position_from-zero (has_request request) xs) ∙ e) in
    let off : place - 0 ≡ place = omega arith in
    let number : 1 + (place - 0) ≡ place + 1 = omega arith in
    (found.a, ap (λ (n : ℕ). slice_get xs n) (sym off) ∙ found.there, found.found ∙ ap (λ (n : ℕ). Some (n, counted found.a)) number)

-- and none if the history has none
pub asked_none : (request : ℕ) (xs : List Admission) → position (has_request request) xs ≡ None → asked request (map counted xs) ≡ None
asked_none request xs e = none_from request 1 0 xs (sym (position_from-zero (has_request request) xs) ∙ e)
