use Rattle.std.proofs.Common.{false, ap₂, arith}
use Rattle.wf_model.specs.declared.chart.Chart.{Chart}
use Rattle.wf_machine.specs.Machine.{CountingMachine}
use Rattle.wf_world.specs.States.{WorldState}
use Rattle.wf_world.proofs.world.World.start.Goals as goal

pub invariant_of-result : goal.invariant_of-result
invariant_of-result c = λ e. record { fleet = c.in_ok-start.ensures.fleet; few = omega arith; worn = c.in_ok-start.ensures.wear }

abbrev begun : Chart → CountingMachine → WorldState
begun chart m = record { chart = chart; machine = m; acted = 0; lost = false }

pub returns : goal.returns
returns c = ap₂ begun c.in_ok-start.ensures.chart c.in_ok-start.ensures.machine
