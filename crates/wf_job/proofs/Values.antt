-- Values for variables.
use Rattle.std.proofs.Common.{◌≡◌, ◌<◌, ℕ, false, List, [], ◌∷◌, length, drop, length-drop, refl, arith}
use Rattle.wf_model.specs.declared.ids.VarId.{VarId}
use Rattle.wf_model.specs.declared.chart.Chart.{Chart}
use Rattle.wf_model.specs.declared.outer.Output.{Output}
use Rattle.wf_semantics.specs.Admission.{are_values}

fewer : (chart : Chart) (xs : List VarId) (os : List Output) → 0 < length xs → length os < 1 → are_values chart xs os ≡ false
fewer chart [] os some none = absurd (omega (arith, some))
fewer chart (x ∷ xs) [] some none = refl
fewer chart (x ∷ xs) (o ∷ os) some none = absurd (omega (arith, none))

-- a value is missing
pub value_missing : (chart : Chart) (xs : List VarId) (i : ℕ) (os : List Output) → i < length xs → length os < 1 → are_values chart (drop i xs) os ≡ false
value_missing chart xs i os within none = fewer chart (drop i xs) os (omega (arith, length-drop i xs)) none
