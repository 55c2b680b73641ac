-- The lines of a text, and how an input is divided into a chart's text and a script.
use Rattle.std.specs.Prelude.{ℕ, ◌+◌, ◌==◌, ◌&&◌, ◌||◌, Bool, true, not, List, [], ◌∷◌, length, take_while, drop, if◌then◌else◌}
use Rattle.std.specs.Str.{bytes_eq}
use lib.Chars.{codes}

-- the bytes before the first LF
abbrev pub first_line : List ℕ → List ℕ
first_line bytes = take_while (λ b. not (b == 10)) bytes

-- the bytes behind the first LF
abbrev pub behind_line : List ℕ → List ℕ
behind_line bytes = drop (length (first_line bytes) + 1) bytes

-- these lines, where the byte stands before the first one
abbrev pub with_byte : ℕ → List (List ℕ) → List (List ℕ)
with_byte b [] = (b ∷ []) ∷ []
with_byte b (line ∷ lines) = (b ∷ line) ∷ lines

-- The lines of a text. A line ends at LF alone, and a last line needs none.
abbrev pub lines_of : List ℕ → List (List ℕ)
lines_of [] = []
lines_of (b ∷ bytes) = if b == 10 then [] ∷ lines_of bytes else with_byte b (lines_of bytes)

-- the line that ends a chart's text: `---`, which CR may follow
abbrev pub is_divider : List ℕ → Bool
is_divider line = bytes_eq line (codes "---") || bytes_eq line (codes "---\r")

-- The bytes before the first divider, all of them where there is none. The flag says whether a line begins here.
abbrev pub before_divider : Bool → List ℕ → List ℕ
before_divider begins [] = []
before_divider begins (b ∷ bytes) =
    if begins && is_divider (first_line (b ∷ bytes)) then [] else b ∷ before_divider (b == 10) bytes

-- The bytes behind the first divider and its LF, none where there is no divider. The flag says whether a line begins here.
abbrev pub behind_divider : Bool → List ℕ → List ℕ
behind_divider begins [] = []
behind_divider begins (b ∷ bytes) =
    if begins && is_divider (first_line (b ∷ bytes)) then behind_line (b ∷ bytes) else behind_divider (b == 10) bytes

-- the chart's text of an input: all before the first line that is a divider
unfoldable pub chart_part : List ℕ → List ℕ
chart_part input = before_divider true input

-- the script of an input: all behind that line
unfoldable pub script_part : List ℕ → List ℕ
script_part input = behind_divider true input
