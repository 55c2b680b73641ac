-- Which transitions concern a unit: its own ones, and what blocks those that do.
use Rattle.std.proofs.Common.{◌≡◌, ℕ, ◌==◌, ◌&&◌, nat_lt, true, length, inl, inr, sym, subst, arith, eqb-true}
use Rattle.wf_model.specs.declared.chart.Chart.{Chart}
use Rattle.wf_model.specs.Tree.{all_states, scope, source, is_above}
use Rattle.wf_model.specs.Accepted.{IsAccepted}
use Rattle.wf_semantics.specs.Flat.{blocks}
use Rattle.wf_model.proofs.Bools.{or_cases, and_both, and_true, any_mem, mem_any}
use Rattle.wf_semantics.proofs.Lists.{mem_range}
use Rattle.wf_semantics.proofs.Facts.{chart_of}
use Rattle.wf_semantics.proofs.Places.{above_trans}
use Rattle.wf_semantics.proofs.Scopes.{scope_facts}
use Rattle.wf_parts.specs.Known.{is_state_of, concerns, is_own}
use Rattle.wf_parts.specs.Laws.{OwnConcerns, BlockersConcern}

pub own_concerns : OwnConcerns
unfolding concerns is_own
own_concerns chart u t ok lt own =
    let is = chart_of chart ok in
    mem_any (λ z. is_state_of chart u z && is_above chart (scope chart t) z) (source chart t) (all_states chart)
    (mem_range 0 (length chart.states) (source chart t) (omega arith) (omega (arith, (is.sources t lt).1)))
    (and_true (is_state_of chart u (source chart t)) (is_above chart (scope chart t) (source chart t)) own (scope_facts chart is t lt).2)

-- what is below t's scope is below the scope of what blocks t
blocker_above : (chart : Chart) → IsAccepted chart → (b t z : ℕ) → blocks chart b t ≡ true → is_above chart (scope chart t) z ≡ true → is_above chart (scope chart b) z ≡ true
blocker_above chart ok b t z h k = elim (or_cases (is_above chart (scope chart b) (scope chart t)) ((scope chart b == scope chart t) && nat_lt b t) h) [
  | inl above ↦ above_trans chart (chart_of chart ok) (scope chart b) (scope chart t) z above k
  | inr same ↦ subst (λ (s : ℕ). is_above chart s z ≡ true) (sym (eqb-true (scope chart b) (scope chart t) (and_both (scope chart b == scope chart t) (nat_lt b t) same).0)) k
]

pub blockers_concern : BlockersConcern
unfolding concerns
blockers_concern chart u b t ok lt h k =
    let w = any_mem (λ z. is_state_of chart u z && is_above chart (scope chart t) z) (all_states chart) h in
    let v = and_both (is_state_of chart u w.0) (is_above chart (scope chart t) w.0) w.2 in
    mem_any (λ z. is_state_of chart u z && is_above chart (scope chart b) z) w.0 (all_states chart) w.1
    (and_true (is_state_of chart u w.0) (is_above chart (scope chart b) w.0) v.0 (blocker_above chart ok b t w.0 k v.1))
