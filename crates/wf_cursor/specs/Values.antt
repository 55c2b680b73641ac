-- What an Int or a Text holds.
use Rattle.std.specs.Prelude.{ℕ, ◌+◌, ◌-◌, ◌*◌, nat_le, if◌then◌else◌, List, length, drop, take_while, Option, Some, None}
use Rattle.std.specs.List.{fold}
use Rattle.wf_model.specs.Limits.{max_text}
use Rattle.wf_model.specs.Txt.{is_text_char}

-- a digit more behind a number; 48 is `0`
abbrev pub with_digit : ℕ → ℕ → ℕ
with_digit number digit = number * 10 + (digit - 48)

-- the number that the digits make
abbrev pub number : List ℕ → ℕ
number digits = fold with_digit 0 digits

-- the same, where it is at most this
unfoldable pub number_up_to : ℕ → List ℕ → Option ℕ
number_up_to most digits = if nat_le (number digits) most then Some (number digits) else None

-- the characters behind the opening quote
abbrev pub characters : List ℕ → List ℕ
characters token = take_while is_text_char (drop 1 token)

-- the same, where they aren't too many
unfoldable pub short_text : List ℕ → Option (List ℕ)
short_text token = if nat_le (length (characters token)) max_text then Some (characters token) else None
