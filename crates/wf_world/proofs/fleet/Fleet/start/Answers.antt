use Rattle.std.proofs.Common.{◌≡◌, List, sym, subst}
use Rattle.wf_machine.specs.Machine.{first_machine}
use Rattle.wf_world.specs.declared.mail.Sent.{Sent}
use Rattle.wf_world.specs.Fleets.{machine_at, IsFleet}
use Rattle.wf_world.proofs.Beginning.{begun_machine, begun_fleet, begun_worn}
use Rattle.wf_world.proofs.fleet.Fleet.start.Goals as goal

pub returns-clause-machine : goal.returns-clause-machine
returns-clause-machine c =
    let slots = c.in_ok-slots.slots in
    subst (λ (ms : List Sent). machine_at (record { chart = c.args.checked; slots = slots.items; messages = ms }) ≡ first_machine c.args.checked) (sym c.new.ensures)
    (begun_machine c.args.checked c.chart-accepted.ensures.accepted slots.items c.in_ok-slots.ensures.count c.in_ok-slots.ensures.new)

pub returns-clause-fleet : goal.returns-clause-fleet
returns-clause-fleet c =
    let slots = c.in_ok-slots.slots in
    subst (λ (ms : List Sent). IsFleet (record { chart = c.args.checked; slots = slots.items; messages = ms })) (sym c.new.ensures)
    (begun_fleet c.args.checked c.chart-accepted.ensures.accepted slots.items c.in_ok-slots.ensures.count c.in_ok-slots.ensures.new)

pub returns-clause-wear : goal.returns-clause-wear
returns-clause-wear c = begun_worn c.args.checked c.chart-accepted.ensures.accepted c.in_ok-slots.slots.items c.in_ok-slots.ensures.count c.in_ok-slots.ensures.new
