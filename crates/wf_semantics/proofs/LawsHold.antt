-- The laws, of each accepted chart.
use Rattle.std.proofs.Common.{ap, subst, sym}
use Rattle.wf_model.specs.Tree.{kind, is_or, scope, target}
use Rattle.wf_semantics.specs.Run.{central_run}
use Rattle.wf_semantics.specs.Laws.{DefaultIsConfiguration, WalkKeepsConfigurations, TreesRead, ConfigurationIsItsBits, ScopeIsLowest, EntryTreeFits, WalkFiresByRule, WalkMovesByRule, RunGoesByRule}
use Rattle.wf_semantics.proofs.Children.{or_of}
use Rattle.wf_semantics.proofs.Facts.{chart_of}
use Rattle.wf_semantics.proofs.Places.{IsBelow}
use Rattle.wf_semantics.proofs.Scopes.{scope_facts, scope_lowest}
use Rattle.wf_semantics.proofs.Grown.{first_picks, towards_picks, default_configuration, entry_fits, new_configuration}
use Rattle.wf_semantics.proofs.Depth.{tree_by_reads}
use Rattle.wf_semantics.proofs.Towards.{entry_root, entry_towards, target_in}
use Rattle.wf_semantics.proofs.Configured.{tree_of_its_bits, same_configuration}
use Rattle.wf_semantics.proofs.Steps.{same_fired, same_bits}
use Rattle.wf_semantics.proofs.Runs.{run_configuration, step_fires}

pub default_is_configuration : DefaultIsConfiguration
default_is_configuration chart ok = default_configuration chart (chart_of chart ok)

pub walk_keeps_configurations : WalkKeepsConfigurations
walk_keeps_configurations chart enabled c ok conf = new_configuration chart (chart_of chart ok) enabled c conf

pub trees_read : TreesRead
trees_read chart ok = let is = chart_of chart ok in
    ((λ pick s fits. tree_by_reads chart is pick fits s), first_picks chart is, (λ x. towards_picks chart is x))

pub configuration_is_its_bits : ConfigurationIsItsBits
configuration_is_its_bits chart c ok conf = let is = chart_of chart ok in
    (tree_of_its_bits chart is c conf, (λ d conf' same. same_configuration chart is c d conf conf' same))

pub scope_is_lowest : ScopeIsLowest
scope_is_lowest chart t ok lt = let is = chart_of chart ok in
    let f = scope_facts chart is t lt in
    (or_of (kind chart (scope chart t)) f.0, f.2, f.1, (λ a o s g. scope_lowest chart is t lt a (ap is_or o) s g))

pub entry_tree_fits : EntryTreeFits
entry_tree_fits chart t ok lt = let is = chart_of chart ok in
    let f = entry_fits chart is t lt in
    (f.1, f.0, subst (λ s. IsBelow chart s (target chart t)) (sym (entry_root chart is t)) (entry_towards chart is t lt), target_in chart is t lt)

pub walk_fires_by_rule : WalkFiresByRule
walk_fires_by_rule chart enabled c ok conf active = same_fired chart (chart_of chart ok) enabled c conf active

pub walk_moves_by_rule : WalkMovesByRule
walk_moves_by_rule chart enabled c z ok conf = same_bits chart (chart_of chart ok) enabled c conf z

pub run_goes_by_rule : RunGoesByRule
run_goes_by_rule chart steps entries ok = let is = chart_of chart ok in
    (run_configuration chart is steps, step_fires chart is (central_run chart steps) entries (run_configuration chart is steps))
