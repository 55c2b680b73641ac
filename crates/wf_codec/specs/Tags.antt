-- The bytes by which spellings begin, and how long one may be, as numbers.
-- `bytes_are_numbers` ties the program's constants to them.
use Rattle.std.specs.Prelude.{ℕ}

-- an update
abbrev pub update_tag : ℕ
update_tag = 85

-- the records

abbrev pub head_tag : ℕ
head_tag = 72

abbrev pub admit_tag : ℕ
admit_tag = 65

abbrev pub turn_tag : ℕ
turn_tag = 84

-- the sorts of values

abbrev pub bool_sort : ℕ
bool_sort = 0

abbrev pub int_sort : ℕ
int_sort = 1

abbrev pub text_sort : ℕ
text_sort = 2

-- the kinds of outers

abbrev pub happen_kind : ℕ
happen_kind = 0

abbrev pub complete_kind : ℕ
complete_kind = 1

-- bytes of an update, at most
abbrev pub max_spelling : ℕ
max_spelling = 87488
