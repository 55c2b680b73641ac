-- Of the laws. The canonical text of a chart is read back.
use Rattle.std.specs.Prelude.{◌≡◌, ◌≤◌, ◌↔◌, ℕ, List, length, Ok, IsTrue}
use Rattle.wf_model.specs.Limits.{max_tokens}
use Rattle.wf_model.specs.declared.chart.Chart.{Chart}
use Rattle.wf_model.specs.Accepted.{IsAccepted}
use Rattle.wf_lex.specs.declared.token.Token.{Token}
use Rattle.wf_lex.specs.Lex.{tokens_of}
use Rattle.wf_print.specs.ChartText.{chart_text}
use Rattle.wf_text.specs.Text.{Means}
use Rattle.wf_readback.specs.Cuts.{IsCut}
use Rattle.wf_readback.specs.Held.{is_held}
use Rattle.wf_readback.specs.Texts.{IsTextOf}

-- at most max_tokens tokens that a text is cut into are those that the tokenizer answers, and the other way round
abbrev pub CutIsAnswered : Type 0
CutIsAnswered = (text : List ℕ) (tokens : List Token) → length tokens ≤ max_tokens → (IsCut text tokens ↔ (tokens_of text ≡ Ok tokens))

-- a text is cut in at most one way
abbrev pub CutsAreEqual : Type 0
CutsAreEqual = (text : List ℕ) (tokens other : List Token) → IsCut text tokens → IsCut text other → tokens ≡ other

-- a text that means a chart is a text of it by the grammar
abbrev pub MeantIsTextOf : Type 0
MeantIsTextOf = (text : List ℕ) (chart : Chart) → Means text chart → IsTextOf text chart

-- and a text of a chart means it, where it is cut into at most max_tokens tokens
abbrev pub TextOfFewIsMeant : Type 0
TextOfFewIsMeant =
    (text : List ℕ) (tokens : List Token) (chart : Chart) → IsCut text tokens → length tokens ≤ max_tokens → IsTextOf text chart →
    Means text chart

-- The canonical text of an accepted chart is a text of that chart by the grammar, however many tokens it has, where its literals
-- are such as a program holds.
abbrev pub ChartIsSpelled : Type 0
ChartIsSpelled = (chart : Chart) → IsAccepted chart → IsTrue (is_held chart) → IsTextOf (chart_text chart) chart

-- The canonical text of an accepted chart means that chart, where its literals are such as a program holds, and where it is cut
-- into at most max_tokens tokens: the text of a large chart may have more.
abbrev pub ChartIsReadBack : Type 0
ChartIsReadBack =
    (chart : Chart) (tokens : List Token) → IsAccepted chart → IsTrue (is_held chart) →
    IsCut (chart_text chart) tokens → length tokens ≤ max_tokens → Means (chart_text chart) chart

-- so does each canonical text of at most max_tokens bytes
abbrev pub ShortTextIsReadBack : Type 0
ShortTextIsReadBack =
    (chart : Chart) → IsAccepted chart → IsTrue (is_held chart) → length (chart_text chart) ≤ max_tokens →
    Means (chart_text chart) chart
