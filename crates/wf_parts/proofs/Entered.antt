-- What a transition enters and leaves: together they are the states below its scope.
use Rattle.std.proofs.Common.{◌≡◌, ℕ, ◌<◌, ◌||◌, ◌&&◌, not, Bool, true, false, length, refl, ap}
use Rattle.std.specs.List.{list_any}
use Rattle.wf_model.specs.declared.chart.Chart.{Chart}
use Rattle.wf_model.specs.Tree.{all_states, scope, is_above}
use Rattle.wf_model.specs.Accepted.{IsAccepted}
use Rattle.wf_model.proofs.Bools.{any_agree}
use Rattle.wf_semantics.proofs.Facts.{chart_of}
use Rattle.wf_semantics.proofs.Towards.{entry_below}
use Rattle.wf_parts.specs.Components.{enters, leaves}
use Rattle.wf_parts.specs.Known.{is_state_of, concerns}

-- what t enters is below its scope
pub entered_is_below : (chart : Chart) → IsAccepted chart → (t z : ℕ) → t < length chart.transitions → enters chart t z ≡ true → is_above chart (scope chart t) z ≡ true
entered_is_below chart ok t z lt h = entry_below chart (chart_of chart ok) t z lt h

-- what is below t's scope it enters or leaves, and nothing else
pub below_is_moved : (chart : Chart) → IsAccepted chart → (t z : ℕ) → t < length chart.transitions → is_above chart (scope chart t) z ≡ (enters chart t z || leaves chart t z)
below_is_moved chart ok t z lt = parted (enters chart t z) (is_above chart (scope chart t) z) (entered_is_below chart ok t z lt)
  where
    parted : (e a : Bool) → (e ≡ true → a ≡ true) → a ≡ (e || (a && not e))
    parted true a f = f refl
    parted false true f = refl
    parted false false f = refl

-- a transition concerns the units of the states that it enters or leaves
pub concerned_by_lists : (chart : Chart) → IsAccepted chart → (u t : ℕ) → t < length chart.transitions →
    concerns chart u t ≡ list_any (λ z. is_state_of chart u z && (enters chart t z || leaves chart t z)) (all_states chart)
unfolding concerns
concerned_by_lists chart ok u t lt =
    any_agree (λ z. is_state_of chart u z && is_above chart (scope chart t) z) (λ z. is_state_of chart u z && (enters chart t z || leaves chart t z)) (all_states chart)
    (λ z m. ap (λ (b : Bool). is_state_of chart u z && b) (below_is_moved chart ok t z lt))
