-- The limits of an accepted chart, and lists of which all pass.
use Rattle.std.proofs.Common.{◌≡◌, ℕ, suc, ◌+◌, ◌<◌, ◌≤◌, nat_le, Bool, true, List, [], ◌∷◌, length, map, slice_get, slice_index, Some, ap, subst, arith}
use Rattle.std.specs.List.{list_all, AllByRecursion}
use Rattle.std.specs.List.Sorted.{IsStrictlyIncreasing}
use Rattle.std.proofs.lemmas.Bool.{leb-true}
use Rattle.wf_model.specs.Limits.{max_units, max_events, max_vars, max_acts, max_outputs, max_actions}
use Rattle.wf_model.specs.declared.chart.Chart.{Chart}
use Rattle.wf_model.specs.declared.chart.Transition.{Transition}
use Rattle.wf_model.specs.declared.chart.Activity.{Activity}
use Rattle.wf_model.specs.Accepted.{IsAccepted, is_small, is_small_transition}
use Rattle.wf_model.proofs.Bools.{and_both}
use Rattle.wf_semantics.proofs.Facts.{rules, parts}
use Rattle.wf_codec.specs.Ranges.{Ascend}
use Rattle.wf_model.proofs.Items.{all_at}

pub record AreFew (chart : Chart) : Type 0 where
  pub units : length chart.units ≤ max_units
  pub events : length chart.events ≤ max_events
  pub vars : length chart.vars ≤ max_vars
  pub acts : length chart.acts ≤ max_acts
  pub outputs : list_all (λ (a : Activity). nat_le (length a.outputs) max_outputs) chart.acts ≡ true

few_of : (chart : Chart) → is_small chart ≡ true → AreFew chart
unfolding is_small
few_of chart small = record {
  units = leb-true (length chart.units) max_units (grind arith);
  events = leb-true (length chart.events) max_events (grind arith);
  vars = leb-true (length chart.vars) max_vars (grind arith);
  acts = leb-true (length chart.acts) max_acts (grind arith);
  outputs = grind arith;
}

pub few : (chart : Chart) → IsAccepted chart → AreFew chart
few chart ok = few_of chart (rules chart ok).small

pub few_actions : (chart : Chart) (t : ℕ) (trans : Transition) → IsAccepted chart → slice_get chart.transitions t ≡ Some trans → length trans.actions ≤ max_actions
few_actions chart t trans ok e =
    let small : is_small_transition trans ≡ true = all_at is_small_transition chart.transitions (parts chart ok).small_transitions t trans e in
    leb-true (length trans.actions) max_actions (grind arith)

-- from tests to facts
pub all_by : {A : Type 0} (p : A → Bool) (P : A → Type 0) → ((x : A) → p x ≡ true → P x) → (xs : List A) → list_all p xs ≡ true → AllByRecursion P xs
all_by p P f [] h = tt
all_by p P f (x ∷ xs) h = let both = and_both (p x) (list_all p xs) h in (f x both.0, all_by p P f xs both.1)

increasing_tail : (n : ℕ) (ns : List ℕ) → IsStrictlyIncreasing (n ∷ ns) → IsStrictlyIncreasing ns
increasing_tail n ns h k lt =
    let e : suc k + 1 ≡ suc (k + 1) = omega arith in
    let q : slice_index (n ∷ ns) (suc k + 1) ≡ slice_index ns (k + 1) = ap (slice_index (n ∷ ns)) e in
    let r : slice_index ns k < slice_index (n ∷ ns) (suc k + 1) = h (suc k) (omega arith) in
    subst (λ (m : ℕ). slice_index ns k < m) q r

pub ascend : {A : Type 0} (number : A → ℕ) (xs : List A) → IsStrictlyIncreasing (map number xs) → Ascend number xs
ascend number [] h = tt
ascend number (x ∷ []) h = tt
ascend number (x ∷ (y ∷ ys)) h = (h 0 (omega arith), ascend number (y ∷ ys) (increasing_tail (number x) (map number (y ∷ ys)) h))
