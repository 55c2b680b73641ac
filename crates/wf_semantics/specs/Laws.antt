-- Of the laws. Configurations, entry trees and the walk of every accepted chart.
use Rattle.std.specs.Prelude.{ℕ, ◌≡◌, ◌<◌, ◌||◌, ◌&&◌, ◌⊎◌, not, Bool, true, List, length, filter, Some}
use Rattle.std.specs.List.{list_any}
use Rattle.wf_model.specs.declared.chart.Chart.{Chart}
use Rattle.wf_model.specs.declared.chart.Kind.TheVariants.{Or}
use Rattle.wf_model.specs.declared.outer.Entry.{Entry}
use Rattle.wf_model.specs.Tree.{kind, parent, children, is_above, scope, source, target, all_transitions}
use Rattle.wf_model.specs.Accepted.{IsAccepted}
use Rattle.wf_semantics.specs.Configuration.{Tree, root, is_in, IsTreeOf, IsConfiguration}
use Rattle.wf_semantics.specs.Entry.{trees, node, tree_by, first_child, default_tree, child_towards, entry_tree}
use Rattle.wf_semantics.specs.Walk.{new_tree, fired_of}
use Rattle.wf_semantics.specs.Snapshot.{is_enabled}
use Rattle.wf_semantics.specs.Run.{central_run, snapshot_of, fired_in}
use Rattle.wf_semantics.specs.Picks.{PicksChildren}
use Rattle.wf_semantics.specs.Bits.{tree_of_bits}
use Rattle.wf_semantics.specs.Flat.{fires, HaveActiveSources}

-- the default tree of the root is a configuration
abbrev pub DefaultIsConfiguration : Type 0
DefaultIsConfiguration = (chart : Chart) → IsAccepted chart → IsConfiguration chart (default_tree chart 0)

-- whichever transitions are enabled, the walk leads from a configuration to one
abbrev pub WalkKeepsConfigurations : Type 0
WalkKeepsConfigurations =
    (chart : Chart) (enabled : ℕ → Bool) (c : Tree) → IsAccepted chart → IsConfiguration chart c → IsConfiguration chart (new_tree chart enabled c)

-- a basic state's tree is the state; an Or state's has the tree of the child that is picked, and an And state's those of
-- all children; and in default trees and entry trees children are picked
abbrev pub TreesRead : Type 0
TreesRead =
    (chart : Chart) → IsAccepted chart →
    ((pick : ℕ → ℕ) (s : ℕ) → PicksChildren chart pick →
    tree_by chart pick s ≡ node (kind chart s) s (tree_by chart pick (pick s)) (trees (tree_by chart pick) (children chart s)))
    × PicksChildren chart (first_child chart)
    × ((x : ℕ) → PicksChildren chart (child_towards chart x))

-- a configuration is the tree of its bits, so two configurations with the same states in are equal
abbrev pub ConfigurationIsItsBits : Type 0
ConfigurationIsItsBits =
    (chart : Chart) (c : Tree) → IsAccepted chart → IsConfiguration chart c →
    (tree_of_bits chart (λ z. is_in z c) ≡ c)
    × ((d : Tree) → IsConfiguration chart d → ((z : ℕ) → z < length chart.states → is_in z c ≡ is_in z d) → c ≡ d)

-- a scope is an Or state above the source and the target, and each other such state is above the scope
abbrev pub ScopeIsLowest : Type 0
ScopeIsLowest =
    (chart : Chart) (t : ℕ) → IsAccepted chart → t < length chart.transitions →
    (kind chart (scope chart t) ≡ Or)
    × (is_above chart (scope chart t) (source chart t) ≡ true)
    × (is_above chart (scope chart t) (target chart t) ≡ true)
    × ((a : ℕ) → kind chart a ≡ Or → is_above chart a (source chart t) ≡ true → is_above chart a (target chart t) ≡ true →
    (a ≡ scope chart t) ⊎ (is_above chart a (scope chart t) ≡ true))

-- an entry tree is one of the child of the scope that is, or contains, the target, and the target is in it
abbrev pub EntryTreeFits : Type 0
EntryTreeFits =
    (chart : Chart) (t : ℕ) → IsAccepted chart → t < length chart.transitions →
    IsTreeOf chart (entry_tree chart t)
    × (parent chart (root (entry_tree chart t)) ≡ Some (scope chart t))
    × ((root (entry_tree chart t) ≡ target chart t) ⊎ (is_above chart (root (entry_tree chart t)) (target chart t) ≡ true))
    × (is_in (target chart t) (entry_tree chart t) ≡ true)

-- the transitions that fire on the walk are those that fire by the rule
abbrev pub WalkFiresByRule : Type 0
WalkFiresByRule =
    (chart : Chart) (enabled : ℕ → Bool) (c : Tree) → IsAccepted chart → IsConfiguration chart c → HaveActiveSources chart enabled c →
    fired_of chart enabled c ≡ filter (fires chart enabled) (all_transitions chart)

-- after the walk a state is in where a fired transition enters it, or where it was in and no fired transition has its
-- scope above it
abbrev pub WalkMovesByRule : Type 0
WalkMovesByRule =
    (chart : Chart) (enabled : ℕ → Bool) (c : Tree) (z : ℕ) → IsAccepted chart → IsConfiguration chart c →
    is_in z (new_tree chart enabled c)
    ≡ (list_any (λ t. is_in z (entry_tree chart t)) (fired_of chart enabled c)
    || (is_in z c && not (list_any (λ t. is_above chart (scope chart t) z) (fired_of chart enabled c))))

-- after each list of steps the central run is in a configuration, and what fires in the next step fires by the rule
abbrev pub RunGoesByRule : Type 0
RunGoesByRule =
    (chart : Chart) (steps : List (List Entry)) (entries : List Entry) → IsAccepted chart →
    IsConfiguration chart (central_run chart steps).configuration
    × (fired_in chart (central_run chart steps) entries
    ≡ filter (fires chart (is_enabled chart (snapshot_of chart (central_run chart steps) entries))) (all_transitions chart))
