-- The canonical text of the generated chart is short.
use Rattle.std.proofs.Common.{◌≡◌, ℕ, zero, suc, ◌+◌, ◌*◌, ◌≤◌, true, nat_le, List, [], ◌∷◌, ◌++◌, length, flat_map, drop, refl, ap, ◌∙◌, arith, append_assoc, length-append}
use Rattle.std.specs.Prelude.{slice_get}
use Rattle.std.specs.List.{list_all}
use Rattle.std.specs.Option.{option_map_or}
use Rattle.std.specs.Fmt.{digits}
use Rattle.std.proofs.lemmas.Bool.{and_parts, leb-true, le-leb}
use lib.Chars.{codes}
use Rattle.wf_model.specs.Limits.{max_tokens, max_depth}
use Rattle.wf_model.specs.Ids.{state_id, event_id}
use Rattle.wf_model.specs.Tree.{children}
use Rattle.wf_model.specs.declared.chart.Action.{Action}
use Rattle.wf_model.specs.declared.chart.Transition.{Transition}
use Rattle.wf_model.specs.declared.chart.State.{State}
use Rattle.wf_model.specs.declared.chart.Event.{Event}
use Rattle.wf_model.specs.declared.chart.Chart.{Chart}
use Rattle.wf_words.specs.Names.{state_name, event_name}
use Rattle.wf_print.specs.ChartText.{chart_text}
use Rattle.wf_print.specs.Declarations.{chart_line, unit_line, event_line, var_line, activity_line}
use Rattle.wf_print.specs.States.{state_text}
use Rattle.wf_print.specs.Transitions.{transition_line, action_text}
use Rattle.wf_print.specs.Words.{listed}
use Rattle.wf_gen.specs.GenChart.{actions, move, transitions, groups, states, chart_with, gen_chart}
use Rattle.wf_gen_laws.proofs.Moves.{by_actions, all_moves, count_moves}

-- what is found in a list whose names are short has a short name, and nothing has the empty one
short_name : {A : Type 0} (name : A → List ℕ) (most : ℕ) (xs : List A) (k : ℕ) → list_all (λ x. nat_le (length (name x)) most) xs ≡ true → length (option_map_or name (slice_get xs k) []) ≤ most
short_name name most [] k all = omega arith
short_name name most (x ∷ xs) zero all = leb-true (length (name x)) most (and_parts (nat_le (length (name x)) most) (list_all (λ x. nat_le (length (name x)) most) xs) all).0
short_name name most (x ∷ xs) (suc k) all = short_name name most xs k (and_parts (nat_le (length (name x)) most) (list_all (λ x. nat_le (length (name x)) most) xs) all).1

-- short pieces make a short text
short_pieces : {A : Type 0} (f : A → List ℕ) (most : ℕ) (xs : List A) → list_all (λ x. nat_le (length (f x)) most) xs ≡ true → length (flat_map f xs) ≤ most * length xs
short_pieces f most [] all = omega arith
short_pieces f most (x ∷ xs) all =
    let parts = and_parts (nat_le (length (f x)) most) (list_all (λ x. nat_le (length (f x)) most) xs) all in
    let here : length (f x) ≤ most = leb-true (length (f x)) most (parts.0) in
    let rest : length (flat_map f xs) ≤ most * length xs = short_pieces f most xs (parts.1) in
    let whole : length (f x ++ flat_map f xs) ≡ length (f x) + length (flat_map f xs) = length-append (f x) (flat_map f xs) in
    let size : most * suc (length xs) ≡ most + most * length xs = omega arith in
    omega (arith, here, rest, whole, size)

-- a line of short pieces
line_short : (source target event acts : List ℕ) → length source ≤ 4 → length target ≤ 4 → length event ≤ 5 → length acts ≤ 20 →
    length (codes "from " ++ source ++ codes " to " ++ target ++ (codes " on " ++ event) ++ [] ++ acts ++ codes ";\n") ≤ 60
line_short source target event acts a b c d = simp length-append (omega arith)

-- the text of all but the transitions
front : Chart → List ℕ
front chart =
    chart_line chart ++ flat_map unit_line chart.units ++ flat_map (event_line chart) (drop 1 chart.events)
    ++ flat_map var_line chart.vars ++ flat_map (activity_line chart) chart.acts ++ state_text chart max_depth 0 0

regroup : (a b c d e f g : List ℕ) → a ++ b ++ c ++ d ++ e ++ f ++ g ≡ (a ++ b ++ c ++ d ++ e ++ f) ++ g
regroup a b c d e f g = simp append_assoc

text_parts : (chart : Chart) → chart_text chart ≡ front chart ++ flat_map (transition_line chart) chart.transitions
unfolding chart_text front
text_parts chart =
    regroup (chart_line chart) (flat_map unit_line chart.units) (flat_map (event_line chart) (drop 1 chart.events)) (flat_map var_line chart.vars)
    (flat_map (activity_line chart) chart.acts) (state_text chart max_depth 0 0) (flat_map (transition_line chart) chart.transitions)

module _ (moves : List Transition) where
  states_short : (k : ℕ) → length (state_name (chart_with moves) (state_id k)) ≤ 4
  unfolding chart_with states groups digits
  states_short k = short_name (λ (s : State). s.name) 4 (chart_with moves).states k refl

  events_short : (k : ℕ) → length (event_name (chart_with moves) (event_id k)) ≤ 5
  unfolding chart_with
  events_short k = short_name (λ (e : Event). e.name) 5 (chart_with moves).events k refl

  actions_short : (d : ℕ) → nat_le (length (listed (codes " do ") (action_text (chart_with moves)) (actions d))) 20 ≡ true
  unfolding chart_with digits Rattle.wf_model.specs.declared.expr.Expr.TheBlock.hidden-the_row-Expr-0 denote.Hole.Carrier.hidden
  actions_short d = by_actions (λ (acts : List Action). nat_le (length (listed (codes " do ") (action_text (chart_with moves)) acts)) 20 ≡ true) d refl refl refl refl

  front_short : nat_le (length (front (chart_with moves))) 2000 ≡ true
  unfolding front chart_with states groups state_text digits children
  front_short = refl

  move_short : (r a b c d : ℕ) → nat_le (length (transition_line (chart_with moves) (move r a b c d))) 60 ≡ true
  unfolding transition_line
  move_short r a b c d =
      let from_is : length (state_name (chart_with moves) (move r a b c d).source) ≤ 4 = states_short (5 * r + 3 + a) in
      let to_is : length (state_name (chart_with moves) (move r a b c d).target) ≤ 4 = states_short (5 * r + 3 + b) in
      let event_is : length (event_name (chart_with moves) (event_id (c + 1))) ≤ 5 = events_short (c + 1) in
      let acts_are : length (listed (codes " do ") (action_text (chart_with moves)) (actions d)) ≤ 20 = leb-true (length (listed (codes " do ") (action_text (chart_with moves)) (actions d))) 20 (actions_short d) in
      le-leb (length (transition_line (chart_with moves) (move r a b c d))) 60
      (line_short (state_name (chart_with moves) (move r a b c d).source) (state_name (chart_with moves) (move r a b c d).target) (event_name (chart_with moves) (event_id (c + 1)))
      (listed (codes " do ") (action_text (chart_with moves)) (actions d)) from_is to_is event_is acts_are)

few_bytes : (text head lines : List ℕ) (count : ℕ) → text ≡ head ++ lines → length head ≤ 2000 → length lines ≤ 60 * count → count ≡ 30 → length text ≤ max_tokens
few_bytes text head lines count is first others many =
    let size : length text ≡ length head + length lines = ap length is ∙ length-append head lines in
    omega (arith, size, first, others, many)

pub text_short : (n : ℕ) → length (chart_text (gen_chart n)) ≤ max_tokens
unfolding gen_chart chart_with
text_short n =
    let moves = transitions n 30 in
    let head : length (front (chart_with moves)) ≤ 2000 = leb-true (length (front (chart_with moves))) 2000 (front_short moves) in
    let lines : length (flat_map (transition_line (chart_with moves)) moves) ≤ 60 * length moves =
    short_pieces (transition_line (chart_with moves)) 60 moves
    (all_moves (λ (t : Transition). nat_le (length (transition_line (chart_with moves) t)) 60) n 30 (move_short moves)) in
    few_bytes (chart_text (chart_with moves)) (front (chart_with moves)) (flat_map (transition_line (chart_with moves)) moves) (length moves)
    (text_parts (chart_with moves)) head lines (count_moves n 30)
