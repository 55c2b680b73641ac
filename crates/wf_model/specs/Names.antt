-- Words and names.
use Rattle.std.specs.Prelude.{ℕ, List, [], ◌∷◌, ◌==◌, ◌||◌, ◌&&◌, Bool, false, not, nat_le, length}
use Rattle.std.specs.List.{list_all}
use Rattle.std.specs.Str.{bytes_eq}
use lib.Chars.{codes}
use Rattle.wf_model.specs.Limits.{max_name}

-- A to Z and a to z
abbrev pub is_letter : ℕ → Bool
is_letter b = (nat_le 65 b && nat_le b 90) || (nat_le 97 b && nat_le b 122)

-- 0 to 9
abbrev pub is_digit : ℕ → Bool
is_digit b = nat_le 48 b && nat_le b 57

-- a letter, a digit or `_`
abbrev pub is_word_char : ℕ → Bool
is_word_char b = is_letter b || is_digit b || (b == 95)

abbrev pub are_word_chars : List ℕ → Bool
are_word_chars bytes = list_all is_word_char bytes

-- a letter, and letters, digits and `_`
abbrev pub is_word : List ℕ → Bool
is_word [] = false
is_word (b ∷ bytes) = is_letter b && are_word_chars bytes

-- the words that declare
abbrev pub is_declaring : List ℕ → Bool
is_declaring w =
    bytes_eq w (codes "chart") || bytes_eq w (codes "unit") || bytes_eq w (codes "event") || bytes_eq w (codes "var")
    || bytes_eq w (codes "activity") || bytes_eq w (codes "at") || bytes_eq w (codes "gives") || bytes_eq w (codes "basic")
    || bytes_eq w (codes "or") || bytes_eq w (codes "and")

-- the words of transitions
abbrev pub is_moving : List ℕ → Bool
is_moving w =
    bytes_eq w (codes "from") || bytes_eq w (codes "to") || bytes_eq w (codes "on") || bytes_eq w (codes "if")
    || bytes_eq w (codes "do") || bytes_eq w (codes "raise") || bytes_eq w (codes "start")

-- the words of values and sorts
abbrev pub is_valued : List ℕ → Bool
is_valued w =
    bytes_eq w (codes "true") || bytes_eq w (codes "false") || bytes_eq w (codes "not") || bytes_eq w (codes "in")
    || bytes_eq w (codes "count") || bytes_eq w (codes "done") || bytes_eq w (codes "bool") || bytes_eq w (codes "int")
    || bytes_eq w (codes "text")

-- a word of the language's own
unfoldable pub is_reserved : List ℕ → Bool
is_reserved w = is_declaring w || is_moving w || is_valued w

-- a word of at most 32 bytes that isn't reserved
unfoldable pub is_name : List ℕ → Bool
is_name bytes = nat_le (length bytes) max_name && is_word bytes && not (is_reserved bytes)
