-- Histories that begin with others.
use Rattle.std.proofs.Common.{◌≡◌, List, [], ◌∷◌, ◌++◌, length, take, refl, ap, ap₂, ◌∙◌}
use Rattle.wf_model.specs.declared.update.Update.{Update}
use Rattle.wf_histories.specs.Histories.{Admission, History}
use Rattle.wf_worlds.specs.Growing.{admitted, turned}
use Rattle.wf_server.specs.Images.{Begins}

module _ {X : Type 0} where
  all : (xs : List X) → take (length xs) xs ≡ xs
  all [] = refl
  all (x ∷ xs) = ap (λ l. x ∷ l) (all xs)

  front : (xs more : List X) → take (length xs) (xs ++ more) ≡ xs
  front [] more = refl
  front (x ∷ xs) more = ap (λ l. x ∷ l) (front xs more)

  head_same : (x y : X) (xs ys : List X) → x ∷ xs ≡ y ∷ ys → x ≡ y
  head_same x y xs ys e = cc

  rest_same : (x y : X) (xs ys : List X) → x ∷ xs ≡ y ∷ ys → xs ≡ ys
  rest_same x y xs ys e = cc

  over : (xs ys zs : List X) → take (length xs) ys ≡ xs → take (length ys) zs ≡ ys → take (length xs) zs ≡ xs
  over [] ys zs p q = refl
  over (x ∷ xs) [] zs p q = absurd (cc p)
  over (x ∷ xs) (y ∷ ys) [] p q = absurd (cc q)
  over (x ∷ xs) (y ∷ ys) (z ∷ zs) p q =
      ap₂ (λ h l. h ∷ l) (head_same z y (take (length ys) zs) ys q ∙ head_same y x (take (length xs) ys) xs p)
      (over xs ys zs (rest_same y x (take (length xs) ys) xs p) (rest_same z y (take (length ys) zs) ys q))

pub begins_same : (h : History) → Begins h h
begins_same h = record { admissions = all h.admissions; turns = all h.turns }

pub begins_over : (f g h : History) → Begins f g → Begins g h → Begins f h
begins_over f g h p q = record { admissions = over f.admissions g.admissions h.admissions p.admissions q.admissions; turns = over f.turns g.turns h.turns p.turns q.turns }

pub begins_admitted : (h : History) (a : Admission) → Begins h (admitted h a)
begins_admitted h a = record { admissions = front h.admissions (a ∷ []); turns = all h.turns }

pub begins_turned : (h : History) (inputs : List Update) → Begins h (turned h inputs)
begins_turned h inputs = record { admissions = all h.admissions; turns = front h.turns _ }
