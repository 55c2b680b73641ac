-- Which transitions fire, by a rule that walks no tree.
use Rattle.std.specs.Prelude.{ℕ, ◌≡◌, ◌<◌, ◌||◌, ◌&&◌, ◌==◌, not, nat_lt, Bool, true, List, length, filter}
use Rattle.std.specs.List.{list_any}
use Rattle.wf_model.specs.declared.chart.Chart.{Chart}
use Rattle.wf_model.specs.Tree.{all_transitions, scope, source, is_above}
use Rattle.wf_semantics.specs.Configuration.{Tree, is_in}

-- b keeps t from firing: its scope is above t's, or is the same and b has the lower number
abbrev pub blocks : Chart → ℕ → ℕ → Bool
blocks chart b t = is_above chart (scope chart b) (scope chart t) || ((scope chart b == scope chart t) && nat_lt b t)

-- the transitions that keep t from firing where they are enabled, in order
abbrev pub blockers : Chart → ℕ → List ℕ
blockers chart t = filter (λ b. blocks chart b t) (all_transitions chart)

-- t is enabled and none of its blockers is
abbrev pub fires : Chart → (ℕ → Bool) → ℕ → Bool
fires chart enabled t = enabled t && not (list_any enabled (blockers chart t))

-- each enabled transition has its source in
abbrev pub HaveActiveSources : Chart → (ℕ → Bool) → Tree → Type 0
HaveActiveSources chart enabled c =
    (t : ℕ) → t < length chart.transitions → enabled t ≡ true → is_in (source chart t) c ≡ true
