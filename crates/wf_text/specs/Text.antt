-- The rule of a chart's text: chart = chart NAME ; { decl } [ state ] { trans }
use Rattle.std.specs.Prelude.{◌≡◌, ℕ, if◌then◌else◌, nat_lt, List, [], length, Result, Ok, Err}
use Rattle.wf_model.specs.declared.chart.Chart.{Chart}
use Rattle.wf_model.specs.declared.chart.Transition.{Transition}
use Rattle.wf_lex.specs.declared.token.Token.{Token}
use Rattle.wf_lex.specs.declared.token.LexFault.{LexFault}
use Rattle.wf_lex.specs.Lex.{tokens_of}
use Rattle.wf_cursor.specs.declared.piece.Piece.TheVariants as pieces
use Rattle.wf_cursor.specs.Fault.{fault_of}
use Rattle.wf_cursor.specs.Input.{Outcome, Parser, ◌>>=◌, ◌>>◌, pure, syntax, start_of, expect, name, chart_with}
use Rattle.wf_cursor.specs.declared.fault.TextFault.{TextFault}
use Rattle.wf_text.specs.declared.chart_fault.ChartFault.{ChartFault}
use Rattle.wf_text.specs.ChartFaults.{placed_fault}
use Rattle.wf_text.specs.Declarations.{declarations}
use Rattle.wf_text.specs.States.{root}
use Rattle.wf_text.specs.Transitions.{transitions}

-- no token is left
abbrev pub text_end : Parser (Unit {0})
text_end = λ i. if nat_lt 0 (length i.left) then syntax i else pure tt i

-- chart NAME ; { decl } [ state ] { trans }: the name and the transitions
unfoldable pub contents : Parser (List ℕ × List Transition)
contents = do
  expect pieces.Chart
  chart_name ← name
  expect pieces.Semicolon
  declarations
  root
  found ← transitions
  text_end
  pure (chart_name, found)

-- the chart of all that was read
abbrev pub whole : Outcome (List ℕ × List Transition) → Result Chart TextFault
whole (Ok p) = Ok (chart_with p.0.0 p.0.1 p.1)
whole (Err e) = Err e

-- with the place of a fault in the text of these tokens
abbrev pub with_place : List ℕ → List Token → Result Chart TextFault → Result Chart ChartFault
with_place text tokens (Ok chart) = Ok chart
with_place text tokens (Err e) = Err (placed_fault text tokens e)

abbrev pub chart_from : List ℕ → Result (List Token) LexFault → Result Chart ChartFault
chart_from text (Ok tokens) = with_place text tokens (whole (contents (start_of text tokens)))
chart_from text (Err e) = with_place text [] (Err (fault_of e))

-- the chart that the text means, or the first fault of its tokens, or else of its grammar
unfoldable pub chart_of : List ℕ → Result Chart ChartFault
chart_of text = chart_from text (tokens_of text)

-- the text means the chart
abbrev pub Means : List ℕ → Chart → Type 0
Means text chart = chart_of text ≡ Ok chart
