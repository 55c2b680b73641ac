-- The chart of each number is accepted.
use Rattle.std.proofs.Common.{◌≡◌, ℕ, zero, suc, ◌+◌, ◌*◌, ◌/◌, ◌^◌, ◌<◌, ◌==◌, cond, Bool, true, false, List, [], ◌∷◌, length, refl, ◌∙◌, ap, arith, length-append}
use Rattle.std.specs.Prelude.{nat_le, nat_lt}
use Rattle.std.specs.List.{list_all}
use Rattle.std.specs.Fmt.{digits}
use Rattle.std.proofs.Math.Nat.{mod-lt}
use Rattle.std.proofs.lemmas.Bool.{lt-ltb}
use Rattle.std.proofs.lemmas.List.Folds.{list_all-append}
use Rattle.wf_model.specs.declared.chart.Action.{Action}
use Rattle.wf_model.specs.declared.chart.Transition.{Transition}
use Rattle.wf_model.specs.Limits.{max_transitions, max_actions}
use Rattle.wf_model.specs.Names.{is_name, is_reserved}
use Rattle.wf_model.specs.Tree.{ancestors_by}
use Rattle.wf_model.specs.Sorts.{op_sort}
use Rattle.wf_model.specs.Accepted.{IsAccepted, is_accepted, is_small, is_numbered, is_named, is_shaped, is_sorted, is_small_action, is_small_transition, is_known_action, is_known_transition, is_sorted_action, is_sorted_transition, spares_root, are_outputs}
use Rattle.wf_gen.specs.Draws.{after, draw}
use Rattle.wf_gen.specs.GenChart.{actions, move, transition, transitions, groups, states, chart_with, gen_chart}

-- ---- transitions

-- what holds of each of the actions holds of them
by_actions : (P : List Action → Type 0) (d : ℕ) → P (actions 0) → P (actions 1) → P (actions 2) → P (actions 3) → P (actions d)
by_actions P d one two three none = go (d == 0) (d == 1) (d == 2)
  where
    go : (a b c : Bool) → P (cond a (actions 0) (cond b (actions 1) (cond c (actions 2) (actions 3))))
    go true b c = one
    go false true c = two
    go false false true = three
    go false false false = none

record IsFine (moves : List Transition) (t : Transition) : Type 0 where
  small : is_small_transition t ≡ true
  known : is_known_transition (chart_with moves) t ≡ true
  spares : spares_root t ≡ true
  sorted : is_sorted_transition (chart_with moves) t ≡ true

record AreFine (moves : List Transition) (acts : List Action) : Type 0 where
  few : nat_le (length acts) max_actions ≡ true
  small : list_all is_small_action acts ≡ true
  known : list_all (is_known_action (chart_with moves)) acts ≡ true
  sorted : list_all (is_sorted_action (chart_with moves)) acts ≡ true

actions_fine : (moves : List Transition) (d : ℕ) → AreFine moves (actions d)
unfolding chart_with op_sort Rattle.wf_model.specs.declared.expr.Expr.TheBlock.hidden-the_row-Expr-0 denote.Hole.Carrier.hidden
actions_fine moves d =
    by_actions (AreFine moves) d (record { few = refl; small = refl; known = refl; sorted = refl }) (record { few = refl; small = refl; known = refl; sorted = refl })
    (record { few = refl; small = refl; known = refl; sorted = refl }) (record { few = refl; small = refl; known = refl; sorted = refl })

known_state : (r j : ℕ) → r < 6 → j < 4 → nat_lt (5 * r + 3 + j) 32 ≡ true
known_state r j group place = lt-ltb (5 * r + 3 + j) 32 (omega arith)

no_root : (r j : ℕ) → nat_lt 0 (5 * r + 3 + j) ≡ true
no_root r j = lt-ltb 0 (5 * r + 3 + j) (omega arith)

known_event : (c : ℕ) → c < 4 → nat_lt (c + 1) 5 ≡ true
known_event c within = lt-ltb (c + 1) 5 (omega arith)

move_fine : (moves : List Transition) (r a b c d : ℕ) → r < 6 → a < 4 → b < 4 → c < 4 → IsFine moves (move r a b c d)
unfolding chart_with states groups
move_fine moves r a b c d group first second third =
    let fine = actions_fine moves d in
    record {
      small = rw (fine.few, fine.small) refl;
      known = rw (known_state r a group first, known_state r b group second, known_event c third, fine.known) refl;
      spares = rw (no_root r a, no_root r b) refl;
      sorted = rw fine.sorted refl;
    }

drawn_fine : (moves : List Transition) (n t : ℕ) → t < 30 → IsFine moves (transition n t)
drawn_fine moves n t within =
    move_fine moves (t / 5) (draw n (4 * t + 1) 4) (draw n (4 * t + 2) 4) (draw n (4 * t + 3) 4) (draw n (4 * t + 4) 4) (omega arith)
    (mod-lt (after (4 * t + 1) n / 2 ^ 33) (omega arith)) (mod-lt (after (4 * t + 2) n / 2 ^ 33) (omega arith)) (mod-lt (after (4 * t + 3) n / 2 ^ 33) (omega arith))

all_moves : (test : Transition → Bool) (n k : ℕ) → ((t : ℕ) → t < k → test (transition n t) ≡ true) → list_all test (transitions n k) ≡ true
unfolding transitions
all_moves test n zero each = refl
all_moves test n (suc k) each =
    list_all-append test (transitions n k) (transition n k ∷ [])
    ∙ rw (all_moves test n k (λ t within. each t (omega arith)), each k (omega arith)) refl

count_moves : (n k : ℕ) → length (transitions n k) ≡ k
unfolding transitions
count_moves n zero = refl
count_moves n (suc k) = let before = count_moves n k in simp length-append (omega arith)

-- ---- the rules

module _ (moves : List Transition) where
  rule_small : nat_le (length moves) max_transitions ≡ true → list_all is_small_transition moves ≡ true → is_small (chart_with moves) ≡ true
  unfolding chart_with states groups is_small
  rule_small few small = rw (few, small) refl

  rule_numbered : list_all (is_known_transition (chart_with moves)) moves ≡ true → is_numbered (chart_with moves) ≡ true
  unfolding chart_with states groups is_numbered ancestors_by
  rule_numbered known = rw known refl

  rule_named : is_named (chart_with moves) ≡ true
  unfolding chart_with states groups is_named is_name is_reserved digits
  rule_named = refl

  rule_shaped : is_shaped (chart_with moves) ≡ true
  unfolding chart_with states groups is_shaped ancestors_by
  rule_shaped = refl

  rule_sorted : list_all (is_sorted_transition (chart_with moves)) moves ≡ true → is_sorted (chart_with moves) ≡ true
  unfolding chart_with is_sorted
  rule_sorted sorted = rw sorted refl

accepted : (moves : List Transition) → is_small (chart_with moves) ≡ true → is_numbered (chart_with moves) ≡ true → is_named (chart_with moves) ≡ true
    → is_shaped (chart_with moves) ≡ true → list_all are_outputs (chart_with moves).acts ≡ true → list_all spares_root (chart_with moves).transitions ≡ true
    → is_sorted (chart_with moves) ≡ true → is_accepted (chart_with moves) ≡ true
unfolding is_accepted
accepted moves small numbered named shaped outputs spares sorted = rw (small, numbered, named, shaped, outputs, spares, sorted) refl

outputs_fine : (moves : List Transition) → list_all are_outputs (chart_with moves).acts ≡ true
unfolding chart_with
outputs_fine moves = refl

spares_fine : (moves : List Transition) → list_all spares_root moves ≡ true → list_all spares_root (chart_with moves).transitions ≡ true
unfolding chart_with
spares_fine moves spares = spares

generated_true : (n : ℕ) → is_accepted (gen_chart n) ≡ true
unfolding gen_chart
generated_true n =
    accepted (transitions n 30)
    (rule_small (transitions n 30) (ap (λ (k : ℕ). nat_le k max_transitions) (count_moves n 30)) (all_moves is_small_transition n 30 (λ t within. (drawn_fine (transitions n 30) n t within).small)))
    (rule_numbered (transitions n 30) (all_moves (is_known_transition (chart_with (transitions n 30))) n 30 (λ t within. (drawn_fine (transitions n 30) n t within).known)))
    (rule_named (transitions n 30)) (rule_shaped (transitions n 30)) (outputs_fine (transitions n 30))
    (spares_fine (transitions n 30) (all_moves spares_root n 30 (λ t within. (drawn_fine (transitions n 30) n t within).spares)))
    (rule_sorted (transitions n 30) (all_moves (is_sorted_transition (chart_with (transitions n 30))) n 30 (λ t within. (drawn_fine (transitions n 30) n t within).sorted)))

pub generated : (n : ℕ) → IsAccepted (gen_chart n)
generated n = generated_true n
