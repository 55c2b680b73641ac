-- That the definition of checking never answers that memory ran out.
use Rattle.std.proofs.Common.{◌≡◌, ℕ, ◌+◌, ◌-◌, Bool, true, false, nat_lt, if◌then◌else◌, List, [], ◌∷◌, Option, Some, None, refl, sym, ap, ◌∙◌, true≢false}
use Rattle.std.specs.Option.{option_or, option_map}
use Rattle.wf_model.specs.declared.chart.Chart.{Chart}
use Rattle.wf_model.specs.declared.chart.Transition.{Transition}
use Rattle.wf_model.specs.declared.chart.Kind.{Kind}
use Rattle.wf_model.specs.declared.chart.Kind.TheVariants.{Basic, Or, And}
use Rattle.wf_model.specs.declared.ids.StateId.{StateId}
use Rattle.wf_model.specs.Tree.{kind}
use Rattle.wf_check.specs.declared.fault.What.{What}
use Rattle.wf_check.specs.declared.fault.CheckFault.{CheckFault}
use Rattle.wf_check.specs.declared.fault.CheckFault.TheVariants as faults
use Rattle.wf_check.specs.Firsts.{unless, first_from}
use Rattle.wf_check.specs.Limited.{size_fault}
use Rattle.wf_check.specs.Numbered.{number_fault}
use Rattle.wf_check.specs.Naming.{name_fault, named_in}
use Rattle.wf_check.specs.Rooted.{shape_fault, kind_fault}
use Rattle.wf_check.specs.Sorted.{sort_fault, transition_fault}
use Rattle.wf_check.specs.FirstFault.{first_fault}
use Rattle.wf_check.specs.Laws.{CheckingHasMemory}

-- a fault that isn't want of memory
abbrev is_rule : CheckFault → Bool
is_rule faults.NoMemory = false
is_rule _ = true

-- such a fault, or none
abbrev has_memory : Option CheckFault → Bool
has_memory None = true
has_memory (Some fault) = is_rule fault

or_has : (a b : Option CheckFault) → has_memory a ≡ true → has_memory b ≡ true → has_memory (option_or a b) ≡ true
or_has None b has_a has_b = has_b
or_has (Some fault) b has_a has_b = has_a

unless_has : (passes : Bool) (fault : CheckFault) → is_rule fault ≡ true → has_memory (unless passes fault) ≡ true
unless_has true fault has = refl
unless_has false fault has = has

map_has : {A : Type 0} → (f : A → CheckFault) → ((x : A) → is_rule (f x) ≡ true) → (o : Option A) → has_memory (option_map f o) ≡ true
map_has f has None = refl
map_has f has (Some x) = has x

from_has : {A : Type 0} → (fault : ℕ → A → Option CheckFault) → ((n : ℕ) (x : A) → has_memory (fault n x) ≡ true) → (n : ℕ) (xs : List A) → has_memory (first_from fault n xs) ≡ true
from_has fault has n [] = refl
from_has fault has n (x ∷ xs) = or_has (fault n x) (first_from fault (n + 1) xs) (has n x) (from_has fault has (n + 1) xs)

if_rule : (b : Bool) (x y : CheckFault) → is_rule x ≡ true → is_rule y ≡ true → is_rule (if b then x else y) ≡ true
if_rule true x y rule_x rule_y = rule_x
if_rule false x y rule_x rule_y = rule_y

named_rule : (kinds : List (What × ℕ)) (last : What) (n : ℕ) → is_rule (named_in kinds last n) ≡ true
named_rule [] last n = refl
named_rule (kind ∷ more) last n = if_rule (nat_lt n kind.1) (faults.BadName kind.0 n) (named_in more last (n - kind.1)) refl (named_rule more last (n - kind.1))

kind_fault_rule : (k : Kind) (s : StateId) → is_rule (kind_fault k s) ≡ true
kind_fault_rule Basic s = refl
kind_fault_rule Or s = refl
kind_fault_rule And s = refl

module _ (c : Chart) where
  size_has : has_memory (size_fault c) ≡ true
  unfolding size_fault
  size_has = search (or_has, unless_has) depth 40

  number_has : has_memory (number_fault c) ≡ true
  unfolding number_fault
  number_has = search (or_has, unless_has, map_has) depth 40

  name_has : has_memory (name_fault c) ≡ true
  unfolding name_fault
  name_has = search (or_has, unless_has, map_has, named_rule) depth 40

  shape_has : has_memory (shape_fault c) ≡ true
  unfolding shape_fault
  shape_has = search (or_has, unless_has, map_has, kind_fault_rule) depth 40

  transition_has : (t : ℕ) (trans : Transition) → has_memory (transition_fault c t trans) ≡ true
  unfolding transition_fault
  transition_has t trans = search (or_has, unless_has, map_has) depth 40

  sort_has : has_memory (sort_fault c) ≡ true
  unfolding sort_fault
  sort_has = search (or_has, map_has, from_has, transition_has) depth 40

  fault_has : has_memory (first_fault c) ≡ true
  unfolding first_fault
  fault_has =
      or_has (size_fault c) _ size_has (or_has (number_fault c) _ number_has (or_has (name_fault c) _ name_has
      (or_has (shape_fault c) _ shape_has (or_has (sort_fault c) None sort_has refl))))

pub checking_has_memory : CheckingHasMemory
checking_has_memory chart out = true≢false (sym (fault_has chart) ∙ ap has_memory out)
