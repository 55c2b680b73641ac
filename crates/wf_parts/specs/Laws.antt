-- Of the laws. Components and parts of every accepted chart.
use Rattle.std.specs.Prelude.{ℕ, ◌≡◌, ◌<◌, Bool, true, length, filter}
use Rattle.wf_model.specs.declared.chart.Chart.{Chart}
use Rattle.wf_model.specs.Tree.{all_transitions}
use Rattle.wf_model.specs.Accepted.{IsAccepted}
use Rattle.wf_semantics.specs.Configuration.{Tree, is_in, IsConfiguration}
use Rattle.wf_semantics.specs.Walk.{new_tree, fired_of}
use Rattle.wf_semantics.specs.Flat.{blocks, HaveActiveSources}
use Rattle.wf_parts.specs.Components.{flat_of, component_of, fires_by, is_in_after}
use Rattle.wf_parts.specs.Known.{concerns, is_own}

-- The flat step: on every configuration, and whichever transitions with active sources are enabled, those that fire by their blockers are
-- those that fire on the walk, and the components' new bits are the new tree's.
abbrev pub FlatStep : Type 0
FlatStep =
    (chart : Chart) (enabled : ℕ → Bool) (c : Tree) → IsAccepted chart → IsConfiguration chart c → HaveActiveSources chart enabled c →
    (fired_of chart enabled c ≡ filter (fires_by (flat_of chart) enabled) (all_transitions chart))
    × ((z : ℕ) → z < length chart.states → is_in z (new_tree chart enabled c) ≡ is_in_after (fires_by (flat_of chart) enabled) (component_of chart z) (is_in z c))

-- a unit's own transitions concern it
abbrev pub OwnConcerns : Type 0
OwnConcerns = (chart : Chart) (u t : ℕ) → IsAccepted chart → t < length chart.transitions → is_own chart u t ≡ true → concerns chart u t ≡ true

-- what blocks a transition that concerns a unit concerns it too
abbrev pub BlockersConcern : Type 0
BlockersConcern =
    (chart : Chart) (u b t : ℕ) → IsAccepted chart → t < length chart.transitions → concerns chart u t ≡ true → blocks chart b t ≡ true → concerns chart u b ≡ true
