-- The fault of a chart's text, with the line and the column that it stands at.
use Rattle.std.specs.Prelude.{ℕ, List, length, slice_get}
use Rattle.std.specs.Option.{option_map_or}
use Rattle.wf_lex.specs.declared.token.Token.{Token}
use Rattle.wf_cursor.specs.declared.fault.TextFault.{TextFault}
use Rattle.wf_cursor.specs.declared.fault.TextFault.TheVariants as fault
use Rattle.wf_text.specs.declared.places.Place.{Place}
use Rattle.wf_text.specs.declared.chart_fault.ChartFault.{ChartFault}
use Rattle.wf_text.specs.declared.chart_fault.ChartFault.TheVariants as placed
use Rattle.wf_text.specs.Places.{place_of}

-- where a token starts, or the end of the text where there is no such token
abbrev pub token_place : List ℕ → List Token → ℕ → Place
token_place text tokens at = place_of text (option_map_or (λ token. token.start) (slice_get tokens at) (length text))

-- the fault of a byte stands at that byte, the others where their token starts
unfoldable pub placed_fault : List ℕ → List Token → TextFault → ChartFault
placed_fault text tokens (fault.BadByte at) = let p = place_of text at in placed.BadByte p.line p.col
placed_fault text tokens (fault.TooManyTokens at) = let p = place_of text at in placed.TooManyTokens p.line p.col
placed_fault text tokens (fault.Syntax at) = let p = token_place text tokens at in placed.Syntax p.line p.col
placed_fault text tokens (fault.UnknownName at) = let p = token_place text tokens at in placed.UnknownName p.line p.col
placed_fault text tokens (fault.DoubleName at) = let p = token_place text tokens at in placed.DoubleName p.line p.col
placed_fault text tokens (fault.Oversize at) = let p = token_place text tokens at in placed.Oversize p.line p.col
placed_fault text tokens fault.NoMemory = placed.NoMemory
