-- No state lies too deep for the text.
use Rattle.std.proofs.Common.{◌≡◌, ℕ, zero, suc, ◌+◌, ◌-◌, ◌<◌, ◌==◌, List, [], ◌∷◌, ◌++◌, length, flat_map, slice_get, Some, None, refl, sym, ◌∙◌, ap, ap₂, arith, inl, inr}
use Rattle.std.proofs.lemmas.Option.{slice_get_past}
use Rattle.wf_model.specs.Limits.{max_depth}
use Rattle.wf_model.specs.declared.chart.Chart.{Chart}
use Rattle.wf_model.specs.declared.chart.State.{State}
use Rattle.wf_model.specs.Tree.{parent, ancestors, ancestors_by, children}
use Rattle.wf_model.proofs.Bools.{Mem}
use Rattle.wf_semantics.proofs.Ancestors.{enough}
use Rattle.wf_semantics.proofs.Children.{lt_or_ge, mem_child_parent}
use Rattle.wf_semantics.proofs.Facts.{IsChart, chart_of}
use Rattle.wf_semantics.proofs.Charts.{falls}
use Rattle.wf_print.specs.States.{opening, body, state_text}
use Rattle.wf_print.specs.Nested.{depth, text_from, StatesRead}
use Rattle.wf_print.proofs.Pieces.{state_text-some}

get_within : (xs : List State) (s : ℕ) (state : State) → slice_get xs s ≡ Some state → s < length xs
get_within xs s state is = elim (lt_or_ge s (length xs)) [
  | inl within ↦ within
  | inr past ↦ absurd (none_some (sym (slice_get_past xs s past) ∙ is))
]
  where
    none_some : None ≡ Some state → ⊥
    none_some e = cc

-- a child lies one level deeper
depth_child : (chart : Chart) → IsChart chart → (k s : ℕ) → parent chart k ≡ Some s → depth chart k ≡ depth chart s + 1
unfolding ancestors_by
depth_child chart ok zero s up = absurd (omega (arith, falls chart ok 0 s up))
depth_child chart ok (suc k) s up =
    let low : s < suc k = falls chart ok (suc k) s up in
    let same : ancestors_by (parent chart) k s ≡ ancestors chart s = enough (parent chart) (falls chart ok) k s s (omega arith) (omega arith) in
    rw (up, same) (omega arith)

depth_root : (chart : Chart) → depth chart 0 ≡ 0
unfolding ancestors_by
depth_root chart = refl

same_texts : (f g : ℕ → List ℕ) (ks : List ℕ) → ((k : ℕ) → Mem k ks → f k ≡ g k) → flat_map f ks ≡ flat_map g ks
same_texts f g [] same = refl
same_texts f g (k ∷ ks) same = ap₂ (λ (x y : List ℕ). x ++ y) (same k (inl refl)) (same_texts f g ks (λ j m. same j (inr m)))

abbrev at_depth : Chart → ℕ → ℕ → List ℕ
at_depth chart s d = state_text chart (max_depth - d) d s

pub states_read : StatesRead
states_read chart accepted = (
  ap (at_depth chart 0) (sym (depth_root chart)),
  λ s state is.
      let ok = chart_of chart accepted in
      let within : depth chart s < max_depth = ok.few_ancestors s (get_within chart.states s state is) in
      state_text-some chart (depth chart s) s state within is
      ∙ ap (λ (texts : List ℕ). opening chart (depth chart s) state ++ body (depth chart s) (length (children chart s) == 0) texts)
      (sym (same_texts (text_from chart) (state_text chart (max_depth - (depth chart s + 1)) (depth chart s + 1)) (children chart s)
      (λ k m. ap (at_depth chart k) (depth_child chart ok k s (mem_child_parent chart s k m))))),
)
