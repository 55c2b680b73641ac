use Rattle.std.proofs.Common.{◌≡◌, drop}
use Rattle.std.specs.List.{list_all}
use Rattle.wf_readback.specs.Held.{is_held_action}
use Rattle.wf_readback.proofs.held.actions_are_held.Given as goal

abbrev pub invariant-loop-action : goal.invariant-loop-action
invariant-loop-action l = list_all is_held_action l.actions ≡ list_all is_held_action (drop l.action-index l.actions)
