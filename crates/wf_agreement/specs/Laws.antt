-- Of the laws. That no difference is found exactly where the histories agree.
use Rattle.std.specs.Prelude.{ℕ, ◌≡◌, ◌<◌, ◌↔◌, length, None}
use Rattle.wf_model.specs.declared.chart.Chart.{Chart}
use Rattle.wf_parts.specs.Parts.{part_of}
use Rattle.wf_histories.specs.Histories.{History}
use Rattle.wf_histories.specs.Agreement.{Agree, lean}
use Rattle.wf_steps.specs.Growing.{IsMade}
use Rattle.wf_agreement.specs.Differing.{first_difference}

-- of histories that records made
abbrev pub NoneWhereAgreed : Type 0
NoneWhereAgreed =
    (chart : Chart) (h : ℕ → History) → ((u : ℕ) → u < length chart.units → IsMade (part_of chart u) (h u)) →
    (first_difference (length chart.units) (part_of chart) h ≡ None) ↔ Agree (lean chart) (length chart.units) (part_of chart) h
