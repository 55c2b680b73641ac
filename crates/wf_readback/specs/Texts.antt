-- Of the laws. The texts of a chart by the grammar, with no bound on their tokens.
use Rattle.std.specs.Prelude.{ℕ, List, map}
use Rattle.wf_model.specs.declared.chart.Chart.{Chart}
use Rattle.wf_lex.specs.declared.token.Token.{Token}
use Rattle.wf_grammar.specs.Lexemes.{lexeme_of}
use Rattle.wf_grammar.specs.Charts.{IsChart}
use Rattle.wf_readback.specs.Cuts.{IsCut}

-- the text is cut into tokens that are a text of this chart by the grammar
abbrev pub IsTextOf : List ℕ → Chart → Type 0
IsTextOf text chart = (tokens : List Token) × IsCut text tokens × IsChart (map (lexeme_of text) tokens) chart
