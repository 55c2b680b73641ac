-- The values in a script's line: value = true | false | [ - ] INT | TEXT
use Rattle.std.specs.Prelude.{ℕ, ◌+◌, pos, neg_ℤ, true, false, List, [], ◌∷◌, Option, Some, None, slice_range, if◌then◌else◌}
use Rattle.std.specs.Option.{option_map}
use Rattle.std.specs.Str.{bytes_eq}
use lib.Chars.{codes}
use Rattle.wf_model.specs.Limits.{max_int}
use Rattle.wf_model.specs.declared.value.Val.{Val}
use Rattle.wf_model.specs.declared.value.Val.TheVariants as v
use Rattle.wf_lex.specs.declared.token.TokenKind.{TokenKind}
use Rattle.wf_lex.specs.declared.token.TokenKind.TheVariants as kinds
use Rattle.wf_lex.specs.declared.token.Token.{Token}
use Rattle.wf_cursor.specs.Values.{number_up_to, short_text}

-- the bytes of a token of the line
abbrev pub text_at : List ℕ → Token → List ℕ
text_at line token = slice_range line token.start token.end

-- INT, at most this
abbrev pub int_by : ℕ → TokenKind → List ℕ → Option ℕ
int_by most kinds.Word spelling = None
int_by most kinds.Int spelling = number_up_to most spelling
int_by most kinds.Text spelling = None
int_by most kinds.Sign spelling = None

abbrev pub int_at : ℕ → List ℕ → Token → Option ℕ
int_at most line token = int_by most token.kind (text_at line token)

-- true | false
abbrev pub truth : List ℕ → Option Val
truth word = if bytes_eq word (codes "true") then Some (v.Bool true) else (if bytes_eq word (codes "false") then Some (v.Bool false) else None)

-- true | false | INT | TEXT
abbrev pub single_value : TokenKind → List ℕ → Option Val
single_value kinds.Word spelling = truth spelling
single_value kinds.Int spelling = option_map (λ n. v.Int (pos n)) (number_up_to max_int spelling)
single_value kinds.Text spelling = option_map (λ t. v.Text t) (short_text spelling)
single_value kinds.Sign spelling = None

-- - INT
abbrev pub negative_int : List ℕ → Option ℕ → Option Val
negative_int minus int = if bytes_eq minus (codes "-") then option_map (λ n. v.Int (neg_ℤ (pos n))) int else None

-- the value that these tokens are, if they are one
unfoldable pub value_of : List ℕ → List Token → Option Val
value_of line [] = None
value_of line (token ∷ []) = single_value token.kind (text_at line token)
value_of line (minus ∷ int ∷ []) = negative_int (text_at line minus) (int_at (max_int + 1) line int)
value_of line (first ∷ second ∷ third ∷ more) = None
