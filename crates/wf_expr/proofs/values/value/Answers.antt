use Rattle.wf_model.specs.Seen.{var_sorts}
use Rattle.wf_model.proofs.Sound.{value_sort_is}
use Rattle.wf_expr.proofs.Small.{sorted_is_small}
use Rattle.wf_expr.proofs.values.value.Goals as goal

pub outcome-requires-clause-small : goal.outcome-requires-clause-small
outcome-requires-clause-small g c = sorted_is_small (var_sorts (g.S.Snapshot.seen c.args.snap.now)) c.args.e.now c.requires.typed

pub returns-clause-sort : goal.returns-clause-sort
returns-clause-sort g c =
    value_sort_is (g.S.Snapshot.seen c.args.snap.now) c.args.e.now c.outcome.result c.requires.typed c.outcome.ensures
