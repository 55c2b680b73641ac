-- What holds of each drawn transition.
use Rattle.std.proofs.Common.{◌≡◌, ℕ, zero, suc, ◌+◌, ◌*◌, ◌/◌, ◌==◌, cond, Bool, true, false, List, [], ◌∷◌, length, refl, ◌∙◌, arith, length-append}
use Rattle.std.specs.List.{list_all}
use Rattle.std.proofs.lemmas.List.Folds.{list_all-append}
use Rattle.wf_model.specs.declared.chart.Action.{Action}
use Rattle.wf_model.specs.declared.chart.Transition.{Transition}
use Rattle.wf_gen.specs.Draws.{draw}
use Rattle.wf_gen.specs.GenChart.{actions, move, transition, transitions}

-- what holds of each of the four lists of actions holds of them
pub by_actions : (P : List Action → Type 0) (d : ℕ) → P (actions 0) → P (actions 1) → P (actions 2) → P (actions 3) → P (actions d)
by_actions P d one two three none = go (d == 0) (d == 1) (d == 2)
  where
    go : (a b c : Bool) → P (cond a (actions 0) (cond b (actions 1) (cond c (actions 2) (actions 3))))
    go true b c = one
    go false true c = two
    go false false true = three
    go false false false = none

-- what holds of each move holds of the first transitions
pub all_moves : (test : Transition → Bool) (n k : ℕ) → ((r a b c d : ℕ) → test (move r a b c d) ≡ true) → list_all test (transitions n k) ≡ true
unfolding transitions
all_moves test n zero each = refl
all_moves test n (suc k) each =
    let here : test (transition n k) ≡ true = each (k / 5) (draw n (4 * k + 1) 4) (draw n (4 * k + 2) 4) (draw n (4 * k + 3) 4) (draw n (4 * k + 4) 4) in
    list_all-append test (transitions n k) (transition n k ∷ []) ∙ rw (all_moves test n k each, here) refl

pub count_moves : (n k : ℕ) → length (transitions n k) ≡ k
unfolding transitions
count_moves n zero = refl
count_moves n (suc k) = let before = count_moves n k in simp length-append (omega arith)
