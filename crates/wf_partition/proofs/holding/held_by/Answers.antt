use Rattle.std.proofs.Common.{◌∙◌, ap, map, false}
use Rattle.std.specs.List.{range_with_len}
use Rattle.wf_partition.proofs.HoldingSteps.{held_row}
use Rattle.wf_partition.proofs.holding.held_by.Goals as goal

pub returns : goal.returns
returns c =
    held_row c.args.chart.now c.args.unit.0 (record { states = c.args.states; vars = c.in_ok-vars.vars; events = c.args.events; acts = c.args.acts }) c.add_own.new.held c.mark_given.new.vars c.requires.states
    (c.in_ok-vars.ensures ∙ ap (λ n. map (λ k. false) (range_with_len 0 n)) c.len.ensures) c.requires.events c.requires.acts c.add_own.ensures c.mark_given.ensures
