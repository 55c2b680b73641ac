-- How long the last line is.
use Rattle.std.proofs.Common.{◌≡◌, ℕ, ◌-◌, List, length, not, take_while, reverse, arith, length-drop}
use Rattle.std.specs.List.{after_last, prefix_len}
use Rattle.std.proofs.lemmas.List.{length-reverse, length-take}
use Rattle.std.proofs.lemmas.List.Folds.{length-prefix_len}
use Rattle.wf_text.specs.Places.{is_lf}

-- the bytes behind the last LF, counted from the end
pub last_line_length : (bytes : List ℕ) → length (after_last is_lf bytes) ≡ length (take_while (λ b. not (is_lf b)) (reverse bytes))
last_line_length bytes =
    let size = prefix_len (λ b. not (is_lf b)) (reverse bytes) in
    let long = length-prefix_len (λ b. not (is_lf b)) (reverse bytes) in
    let same = length-reverse bytes in
    omega (arith, long, same, length-drop (length bytes - size) bytes, length-take size (reverse bytes))
