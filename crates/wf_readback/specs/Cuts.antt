-- Of the laws. How a text is cut into tokens, with no bound on their number.
use Rattle.std.specs.Prelude.{ℕ, false, List}
use Rattle.wf_lex.specs.declared.token.Token.{Token}
use Rattle.wf_lex.specs.Slices.{AreSlices}

-- Each token is the one that `token_at` answers where it stands. Around them are blanks and comments alone, and no other byte.
abbrev pub IsCut : List ℕ → List Token → Type 0
IsCut text tokens = AreSlices false 0 text tokens
