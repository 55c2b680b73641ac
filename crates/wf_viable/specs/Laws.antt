-- Of the laws. Where the reader of charts reports its faults.
-- `syntax` at the first piece that no text of the grammar has there, the others before it.
use Rattle.std.specs.Prelude.{◌≡◌, ◌≢◌, ℕ, ◌+◌, ◌<◌, ◌≤◌, ◌⊎◌, List, ◌++◌, length, map, take, drop, Option, Some, None, Ok, Err}
use Rattle.wf_model.specs.declared.chart.Chart.{Chart as Drawing}
use Rattle.wf_lex.specs.declared.token.Token.{Token}
use Rattle.wf_lex.specs.Lex.{tokens_of}
use Rattle.wf_cursor.specs.declared.piece.Piece.{Piece}
use Rattle.wf_text.specs.declared.places.Place.{Place}
use Rattle.wf_text.specs.declared.chart_fault.ChartFault.{ChartFault}
use Rattle.wf_text.specs.declared.chart_fault.ChartFault.TheVariants as placed
use Rattle.wf_text.specs.ChartFaults.{token_place}
use Rattle.wf_text.specs.Text.{chart_of}
use Rattle.wf_grammar.specs.Lexemes.{lexeme_of}
use Rattle.wf_grammar.specs.Charts.{IsChart}
use Rattle.wf_viable.specs.Shapes.{first}
use Rattle.wf_viable.specs.Charts.{Chart}

-- what the tokens of a text are to the grammar
abbrev pub pieces_of : List ℕ → List Token → List Piece
pieces_of text tokens = map (λ t. (lexeme_of text t).piece) tokens

-- a text of the grammar begins with these pieces
abbrev pub BeginsChart : List Piece → Type 0
BeginsChart ps = (more : List Piece) × Chart (ps ++ more)

-- No text of the grammar that begins with the first so many pieces has there the piece that comes next, or ends where these end.
abbrev pub Misfits : List Piece → ℕ → Type 0
Misfits ps at = (more : List Piece) → first more ≡ first (drop at ps) → Chart (take at ps ++ more) → ⊥

-- a text of the grammar begins with the pieces before this place, and none has what stands there, a piece or the end
pub record IsFirstMisfit (ps : List Piece) (at : ℕ) : Type 0 where
  pub within : at ≤ length ps
  pub begins : BeginsChart (take at ps)
  pub misfits : Misfits ps at

-- a text of the grammar begins with the pieces up to this one
pub record IsFit (ps : List Piece) (at : ℕ) : Type 0 where
  pub within : at < length ps
  pub begins : BeginsChart (take (at + 1) ps)

-- the place is that of a token, or of the end, of which this holds
pub record StandsAt (text : List ℕ) (place : Place) (P : List Piece → ℕ → Type 0) : Type 0 where
  pub tokens : List Token
  pub at : ℕ
  pub are_tokens : tokens_of text ≡ Ok tokens
  pub is_place : token_place text tokens at ≡ place
  pub holds : P (pieces_of text tokens) at

-- ---- the laws

-- `syntax` stands at the first misfit
abbrev pub SyntaxIsFirstMisfit : Type 0
SyntaxIsFirstMisfit =
    (text : List ℕ) (line col : ℕ) → chart_of text ≡ Err (placed.Syntax line col) →
    StandsAt text (record { line = line; col = col }) IsFirstMisfit

-- where a fault of names or sizes stands
abbrev pub place_of_other : ChartFault → Option Place
place_of_other (placed.UnknownName line col) = Some (record { line = line; col = col })
place_of_other (placed.DoubleName line col) = Some (record { line = line; col = col })
place_of_other (placed.Oversize line col) = Some (record { line = line; col = col })
place_of_other _ = None

-- a fault of names or sizes stands at a piece that fits
abbrev pub OtherFaultsFit : Type 0
OtherFaultsFit =
    (text : List ℕ) (fault : ChartFault) (place : Place) → chart_of text ≡ Err fault → place_of_other fault ≡ Some place →
    StandsAt text place IsFit

-- a fault of names or sizes at a token before this one
abbrev pub StandsBefore : List ℕ → List Token → ℕ → ChartFault → Type 0
StandsBefore text tokens at fault = (before : ℕ) × (before < at) × (place_of_other fault ≡ Some (token_place text tokens before))

-- the fault of syntax at this place
abbrev pub syntax_at : Place → ChartFault
syntax_at place = placed.Syntax place.line place.col

-- the first misfit of a text is told, or a fault of names or sizes before it
abbrev pub FirstMisfitIsTold : Type 0
FirstMisfitIsTold =
    (text : List ℕ) (tokens : List Token) (at : ℕ) → tokens_of text ≡ Ok tokens → IsFirstMisfit (pieces_of text tokens) at →
    (fault : ChartFault) × (chart_of text ≡ Err fault) × ((fault ≡ syntax_at (token_place text tokens at)) ⊎ StandsBefore text tokens at fault)

-- a text that means a chart is a text of the grammar
abbrev pub ReadIsShaped : Type 0
ReadIsShaped =
    (text : List ℕ) (chart : Drawing) → chart_of text ≡ Ok chart →
    (tokens : List Token) × (tokens_of text ≡ Ok tokens) × Chart (pieces_of text tokens)

-- tokens that are a text of a chart by the grammar with names and sizes are one by the grammar over pieces
abbrev pub SpelledIsShaped : Type 0
SpelledIsShaped =
    (text : List ℕ) (tokens : List Token) (chart : Drawing) → tokens_of text ≡ Ok tokens → IsChart (map (lexeme_of text) tokens) chart →
    Chart (pieces_of text tokens)

-- No text that means a chart has the same pieces before a misfit, and the same one there: what follows can't mend it.
abbrev pub MisfitIsFinal : Type 0
MisfitIsFinal =
    (text other : List ℕ) (tokens others : List Token) (at : ℕ) (chart : Drawing) →
    tokens_of text ≡ Ok tokens → IsFirstMisfit (pieces_of text tokens) at →
    tokens_of other ≡ Ok others → chart_of other ≡ Ok chart →
    take at (pieces_of other others) ≡ take at (pieces_of text tokens) →
    first (drop at (pieces_of other others)) ≢ first (drop at (pieces_of text tokens))

-- Reading answers a chart or a fault of the text, and never that memory ran out: this answer is left to the code, where it does.
abbrev pub ReadingHasMemory : Type 0
ReadingHasMemory = (text : List ℕ) → chart_of text ≢ Err placed.NoMemory
