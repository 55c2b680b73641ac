-- Of the laws. What holds of the chart of each number.
use Rattle.std.specs.Prelude.{ℕ}
use Rattle.wf_model.specs.Accepted.{IsAccepted}
use Rattle.wf_gen.specs.GenChart.{gen_chart}

-- it is accepted
abbrev pub GeneratedIsAccepted : Type 0
GeneratedIsAccepted = (n : ℕ) → IsAccepted (gen_chart n)
