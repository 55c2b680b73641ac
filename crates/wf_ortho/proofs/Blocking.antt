-- What blocks a transition, by the scopes.
use Rattle.std.proofs.Common.{◌≡◌, ℕ, ◌<◌, ◌==◌, ◌||◌, ◌&&◌, nat_lt, Bool, length, refl, arith}
use Rattle.wf_model.specs.declared.chart.Chart.{Chart}
use Rattle.wf_model.specs.Accepted.{IsAccepted}
use Rattle.wf_model.specs.Tree.{scope, source, is_above}
use Rattle.wf_semantics.specs.Flat.{blocks}
use Rattle.wf_semantics.proofs.Facts.{chart_of}
use Rattle.wf_semantics.proofs.Scopes.{scope_facts}
use Rattle.wf_semantics.proofs.Places.{above_low}

-- the scope of a transition is a state of the chart
scope_low : (chart : Chart) → IsAccepted chart → (t : ℕ) → t < length chart.transitions → scope chart t < length chart.states
scope_low chart accepted t lt =
    let ok = chart_of chart accepted in
    omega (arith, above_low chart ok (scope chart t) (source chart t) (scope_facts chart ok t lt).2, (ok.sources t lt).1)

-- the test, where the scopes are known
pub blocks_read : (chart : Chart) (b t upper lower : ℕ) (above same before : Bool) → IsAccepted chart → t < length chart.transitions → upper ≡ scope chart b → lower ≡ scope chart t
    → (lower < length chart.states → above ≡ is_above chart upper lower) → same ≡ (upper == lower) → before ≡ nat_lt b t → (above || (same && before)) ≡ blocks chart b t
blocks_read chart b t upper lower above same before accepted lt u l a s n = rw (a (omega (arith, scope_low chart accepted t lt)), s, n, u, l) refl
