-- Inner. What is answered to a request that was admitted with another outer.
use Rattle.std.specs.Prelude.{◌≡◌, ◌≢◌, ℕ, ◌+◌, List, Some}
use Rattle.wf_model.specs.declared.outer.Outer.{Outer}
use Rattle.wf_histories.specs.Histories.{Admission}
use Rattle.wf_server.specs.declared.fault.AdmitFault.{AdmitFault}
use Rattle.wf_server.specs.declared.fault.AdmitFault.TheVariants as admits
use Rattle.wf_server.specs.Answers.{outer_at}

abbrev pub RepeatRefused : List Admission → ℕ → Outer → AdmitFault → Type 0
RepeatRefused admissions place outer (admits.RequestReused n kept) = (n ≡ place + 1) × (outer_at admissions place ≡ Some kept) × (kept ≢ outer)
RepeatRefused admissions place outer admits.NoMemory = Unit {0}
RepeatRefused admissions place outer fault = ⊥
