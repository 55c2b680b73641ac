-- The parts of an input are no longer than the input.
use Rattle.std.proofs.Common.{◌≤◌, ◌==◌, ◌&&◌, ℕ, ◌+◌, suc, Bool, true, false, cond, List, [], ◌∷◌, length, arith, length-drop}
use Rattle.wf_scripts.specs.Lines.{first_line, behind_line, is_divider, before_divider, behind_divider, chart_part, script_part}

before_short : (begins : Bool) (bytes : List ℕ) → length (before_divider begins bytes) ≤ length bytes
before_short begins [] = omega arith
before_short begins (b ∷ bytes) = by_test (begins && is_divider (first_line (b ∷ bytes))) (before_short (b == 10) bytes)
  where
    by_test : (t : Bool) → length (before_divider (b == 10) bytes) ≤ length bytes → length (cond t [] (b ∷ before_divider (b == 10) bytes)) ≤ suc (length bytes)
    by_test true ih = omega arith
    by_test false ih = omega (arith, ih)

behind_short : (begins : Bool) (bytes : List ℕ) → length (behind_divider begins bytes) ≤ length bytes
behind_short begins [] = omega arith
behind_short begins (b ∷ bytes) = by_test (begins && is_divider (first_line (b ∷ bytes))) (behind_short (b == 10) bytes)
  where
    by_test : (t : Bool) → length (behind_divider (b == 10) bytes) ≤ length bytes
        → length (cond t (behind_line (b ∷ bytes)) (behind_divider (b == 10) bytes)) ≤ suc (length bytes)
    by_test true ih = omega (arith, length-drop (length (first_line (b ∷ bytes)) + 1) (b ∷ bytes))
    by_test false ih = omega (arith, ih)

pub chart_short : (input : List ℕ) → length (chart_part input) ≤ length input
unfolding chart_part
chart_short input = before_short true input

pub script_short : (input : List ℕ) → length (script_part input) ≤ length input
unfolding script_part
script_short input = behind_short true input
