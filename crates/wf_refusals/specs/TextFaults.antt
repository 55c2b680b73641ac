-- The line of a text that means no chart: what is wrong, and where.
use Rattle.std.specs.Prelude.{ℕ, ◌++◌, List, []}
use Rattle.std.specs.Fmt.{decimal}
use lib.Chars.{codes}
use Rattle.wf_text.specs.declared.chart_fault.ChartFault.{ChartFault}
use Rattle.wf_text.specs.declared.chart_fault.ChartFault.TheVariants as fault
use Rattle.wf_refusals.specs.Lines.{refusal}

-- chart line LINE column COL
unfoldable pub place_words : ℕ → ℕ → List ℕ
place_words line col = codes "chart line " ++ decimal line ++ codes " column " ++ decimal col

-- chart line LINE column COL WHAT
abbrev pub placed : ℕ → ℕ → List ℕ → List ℕ
placed line col what = place_words line col ++ what

-- want of memory has no line
unfoldable pub text_fault_line : ChartFault → List ℕ
text_fault_line (fault.BadByte line col) = refusal (placed line col (codes " bad byte"))
text_fault_line (fault.TooManyTokens line col) = refusal (placed line col (codes " too many tokens"))
text_fault_line (fault.Syntax line col) = refusal (placed line col (codes " syntax"))
text_fault_line (fault.UnknownName line col) = refusal (placed line col (codes " unknown name"))
text_fault_line (fault.DoubleName line col) = refusal (placed line col (codes " double name"))
text_fault_line (fault.Oversize line col) = refusal (placed line col (codes " oversize"))
text_fault_line fault.NoMemory = []
