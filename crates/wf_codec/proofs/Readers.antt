-- A reader of one spelling: what it reads is spelled so and fits, and what fits is read again, whatever follows. Readers one after another are one reader.
use Rattle.std.proofs.Common.{◌≡◌, ℕ, suc, ◌+◌, ◌<◌, List, [], ◌∷◌, ◌++◌, get_or, take, drop, Result, Ok, Err, refl, sym, ap, subst, ◌∙◌, append_assoc, arith, inl, inr}
use Rattle.std.proofs.lemmas.Bool.{cases_lt}
use Rattle.std.proofs.lemmas.List.{append-nil, length-take, get_or-drop, get_or-take, get_or_past}
use Rattle.wf_codec.specs.declared.fault.Misfit.{Misfit}
use Rattle.wf_model.specs.Steps.{◌>>=◌}

abbrev pub IsBytes : List ℕ → Type 0
IsBytes bytes = (i : ℕ) → get_or bytes i 0 < 256

pub IsBytes-drop : (n : ℕ) (bytes : List ℕ) → IsBytes bytes → IsBytes (drop n bytes)
IsBytes-drop n bytes h i = rw get_or-drop (h (n + i))

pub IsBytes-take : (n : ℕ) (bytes : List ℕ) → IsBytes bytes → IsBytes (take n bytes)
IsBytes-take n bytes h i =
    elim (cases_lt i n) [
      | inl lt ↦ rw (get_or-take n bytes i 0 lt) (h i)
      | inr le ↦ rw (get_or_past (take n bytes) i 0 (omega (arith, length-take n bytes))) (omega arith)
    ]

pub IsBytes-rest : (b : ℕ) (bytes : List ℕ) → IsBytes (b ∷ bytes) → IsBytes bytes
IsBytes-rest b bytes h i = h (suc i)

-- the value of a step that did not fail
pub bind_ok : {A B : Type 0} (r : Result A Misfit) (f : A → Result B Misfit) (y : B) → (r >>= f) ≡ Ok y → (x : A) × (r ≡ Ok x) × (f x ≡ Ok y)
bind_ok (Ok x) f y e = (x, refl, e)
bind_ok (Err d) f y e = absurd cc

abbrev done : {A : Type 0} → A → Result A Misfit
done x = Ok x

pub ok_is : {A : Type 0} (x y : A) → done x ≡ done y → x ≡ y
ok_is x y e = cc

-- what a reader took from the front
pub record Takes (bytes spelling rest : List ℕ) : Type 0 where
  pub parts : bytes ≡ spelling ++ rest
  pub rest_fits : IsBytes rest

pub Takes-then : (a x b y c : List ℕ) → Takes a x b → Takes b y c → Takes a (x ++ y) c
Takes-then a x b y c p q = record { parts = p.parts ∙ ap (λ (t : List ℕ). x ++ t) q.parts ∙ sym (append_assoc x y c); rest_fits = q.rest_fits }

-- what a reader reads is spelled so and fits; what fits is read again
pub record Reads {A : Type 0} (read : List ℕ → Result (A × List ℕ) Misfit) (spelling : A → List ℕ) (Fit : A → Type 0) : Type 0 where
  pub takes : (bytes : List ℕ) (x : A) (rest : List ℕ) → IsBytes bytes → read bytes ≡ Ok (x, rest) → Takes bytes (spelling x) rest × Fit x
  pub again : (x : A) (rest : List ℕ) → Fit x → read (spelling x ++ rest) ≡ Ok (x, rest)

-- a value that is there without reading
pub Reads-made : {A : Type 0} (made : A) → Reads (λ bytes. Ok (made, bytes)) (λ x. []) (λ x. x ≡ made)
Reads-made {A} made = record {
  takes = λ bytes x rest fits e.
      let p = ok_is (made, bytes) (x, rest) e in
      (record { parts = ap (λ (y : A × List ℕ). y.1) p; rest_fits = subst IsBytes (ap (λ (y : A × List ℕ). y.1) p) fits }, sym (ap (λ (y : A × List ℕ). y.0) p));
  again = λ x rest e. ap (λ (y : A). Ok (y, rest)) (sym e);
}

-- a first part, and then the others, whose value has that first part
pub Reads-then : {A B : Type 0} {first : List ℕ → Result (A × List ℕ) Misfit} {spelling : A → List ℕ} {Fit : A → Type 0}
    {next : A → List ℕ → Result (B × List ℕ) Misfit} {others : B → List ℕ} {Fits : A → B → Type 0}
    (part : B → A) → Reads first spelling Fit → ((a : A) → Fit a → Reads (next a) others (Fits a)) → ((a : A) (b : B) → Fit a → Fits a b → part b ≡ a)
    → Reads (λ bytes. first bytes >>= λ x. next x.0 x.1) (λ b. spelling (part b) ++ others b) (λ b. Fit (part b) × Fits (part b) b)
Reads-then {A} {B} {first} {spelling} {Fit} {next} {others} {Fits} part one two same = record {
  takes = λ bytes b rest fits e.
      let s = bind_ok (first bytes) (λ x. next x.0 x.1) (b, rest) e in
      let t = one.takes bytes s.0.0 s.0.1 fits s.1 in
      let u = (two s.0.0 t.1).takes s.0.1 b rest t.0.rest_fits s.2 in
      subst (λ (a : A). Takes bytes (spelling a ++ others b) rest × (Fit a × Fits a b)) (sym (same s.0.0 b t.1 u.1))
      (Takes-then bytes (spelling s.0.0) s.0.1 (others b) rest t.0 u.0, (t.1, u.1));
  again = λ b rest fit.
      let e : (spelling (part b) ++ others b) ++ rest ≡ spelling (part b) ++ (others b ++ rest) = append_assoc (spelling (part b)) (others b) rest in
      ap (λ (bytes : List ℕ). first bytes >>= λ x. next x.0 x.1) e
      ∙ ap (λ (r : Result (A × List ℕ) Misfit). r >>= λ x. next x.0 x.1) (one.again (part b) (others b ++ rest) fit.0)
      ∙ (two (part b) fit.0).again b rest fit.1;
}

-- the same reader, with the spelling and the range in other words
pub Reads-as : {A : Type 0} {read : List ℕ → Result (A × List ℕ) Misfit} {spelling : A → List ℕ} {Fit : A → Type 0} (as_spelling : A → List ℕ) (As : A → Type 0)
    → Reads read spelling Fit → ((x : A) → Fit x → spelling x ≡ as_spelling x) → ((x : A) → Fit x → As x) → ((x : A) → As x → Fit x) → Reads read as_spelling As
Reads-as {A} {read} {spelling} {Fit} as_spelling As reads same to from = record {
  takes = λ bytes x rest fits e.
      let t = reads.takes bytes x rest fits e in
      (subst (λ (s : List ℕ). Takes bytes s rest) (same x t.1) t.0, to x t.1);
  again = λ x rest fit. ap (λ (s : List ℕ). read (s ++ rest)) (sym (same x (from x fit))) ∙ reads.again x rest (from x fit);
}

-- a value that is made of one part
pub Reads-of : {A B : Type 0} {read : List ℕ → Result (A × List ℕ) Misfit} {spelling : A → List ℕ} {Fit : A → Type 0}
    (part : B → A) (make : A → B) → Reads read spelling Fit → ((a : A) → Fit a → part (make a) ≡ a)
    → Reads (λ bytes. read bytes >>= λ x. Ok (make x.0, x.1)) (λ b. spelling (part b)) (λ b. Fit (part b) × (b ≡ make (part b)))
Reads-of {A} {B} {read} {spelling} {Fit} part make reads back =
    Reads-as (λ b. spelling (part b)) (λ b. Fit (part b) × (b ≡ make (part b)))
    (Reads-then {next = λ a bytes. Ok (make a, bytes)} {others = λ b. []} {Fits = λ a b. b ≡ make a} part reads (λ a fit. Reads-made (make a)) (λ a b fit e. ap part e ∙ back a fit))
    (λ b fit. append-nil (spelling (part b))) (λ b fit. fit) (λ b fit. fit)
