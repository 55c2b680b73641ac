-- Of the laws. The reader of charts and their grammar say the same.
use Rattle.std.specs.Prelude.{◌≡◌, ℕ, List, map, Ok}
use Rattle.wf_model.specs.declared.chart.Chart.{Chart}
use Rattle.wf_lex.specs.declared.token.Token.{Token}
use Rattle.wf_lex.specs.Lex.{tokens_of}
use Rattle.wf_text.specs.Text.{chart_of}
use Rattle.wf_grammar.specs.Lexemes.{lexeme_of}
use Rattle.wf_grammar.specs.Charts.{IsChart}

-- a text that means a chart has tokens, and they are a text of this chart
abbrev pub ChartReadIsSpelled : Type 0
ChartReadIsSpelled =
    (text : List ℕ) (chart : Chart) → chart_of text ≡ Ok chart →
    (tokens : List Token) × (tokens_of text ≡ Ok tokens) × IsChart (map (lexeme_of text) tokens) chart

-- tokens that are a text of a chart mean this chart
abbrev pub ChartSpelledIsRead : Type 0
ChartSpelledIsRead =
    (text : List ℕ) (tokens : List Token) (chart : Chart) → tokens_of text ≡ Ok tokens → IsChart (map (lexeme_of text) tokens) chart →
    chart_of text ≡ Ok chart

-- so tokens are a text of at most one chart
abbrev pub SpellsOneChart : Type 0
SpellsOneChart =
    (text : List ℕ) (tokens : List Token) (chart other : Chart) → tokens_of text ≡ Ok tokens →
    IsChart (map (lexeme_of text) tokens) chart → IsChart (map (lexeme_of text) tokens) other → chart ≡ other
