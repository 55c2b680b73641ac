use Rattle.std.proofs.Common.{◌≡◌, true, sym, ap, ◌∙◌, subst}
use Rattle.wf_machine.specs.declared.line.Line.{Line}
use Rattle.wf_machine.specs.Fits.{is_line}
use Rattle.wf_machine.specs.Lines.{act}
use Rattle.wf_world.specs.Sent.{is_over}
use Rattle.wf_world.specs.Fleets.{machine_at, WearsNone, WearsAll}
use Rattle.wf_world.proofs.Results.{if_ok}
use Rattle.wf_world.proofs.Fitting.{admit_at, turn_at, send_between, crash_at, arm_at, recover_at, show_at, items_at}
use Rattle.wf_world.proofs.Worlds.{has_room, one_wears_all, none_wears_all, same_wears, send_over, round_over}
use Rattle.wf_world.proofs.fleet.Fleet.act.Goals as goal

pub admit-requires-clause-unit : goal.admit-requires-clause-unit
admit-requires-clause-unit c = admit_at c.args.self.now.chart c.in-Admit.unit c.in-Admit.request c.in-Admit.outer (ap (is_line c.args.self.now.chart) (sym c.in-Admit.is) ∙ c.requires.line)

pub admit-requires-clause-room : goal.admit-requires-clause-room
admit-requires-clause-room c = has_room c.args.self.now c.in-Admit.unit.0 c.requires.room

pub turn-requires-clause-unit : goal.turn-requires-clause-unit
turn-requires-clause-unit c = turn_at c.args.self.now.chart c.in-Turn.unit (ap (is_line c.args.self.now.chart) (sym c.in-Turn.is) ∙ c.requires.line)

pub turn-requires-clause-room : goal.turn-requires-clause-room
turn-requires-clause-room c = has_room c.args.self.now c.in-Turn.unit.0 c.requires.room

pub send-requires-clause-from : goal.send-requires-clause-from
send-requires-clause-from c = (send_between c.args.self.now.chart c.in-Send.from c.in-Send.to (ap (is_line c.args.self.now.chart) (sym c.in-Send.is) ∙ c.requires.line)).0

pub send-requires-clause-to : goal.send-requires-clause-to
send-requires-clause-to c = (send_between c.args.self.now.chart c.in-Send.from c.in-Send.to (ap (is_line c.args.self.now.chart) (sym c.in-Send.is) ∙ c.requires.line)).1

pub send-requires-clause-other : goal.send-requires-clause-other
send-requires-clause-other c = (send_between c.args.self.now.chart c.in-Send.from c.in-Send.to (ap (is_line c.args.self.now.chart) (sym c.in-Send.is) ∙ c.requires.line)).2

pub crash-requires-clause-unit : goal.crash-requires-clause-unit
crash-requires-clause-unit c = crash_at c.args.self.now.chart c.in-Crash.unit c.in-Crash.outcome (ap (is_line c.args.self.now.chart) (sym c.in-Crash.is) ∙ c.requires.line)

pub arm-requires-clause-unit : goal.arm-requires-clause-unit
arm-requires-clause-unit c = (arm_at c.args.self.now.chart c.in-Arm.unit c.in-Arm.stroke c.in-Arm.what (ap (is_line c.args.self.now.chart) (sym c.in-Arm.is) ∙ c.requires.line)).0

pub arm-requires-clause-room : goal.arm-requires-clause-room
arm-requires-clause-room c = has_room c.args.self.now c.in-Arm.unit.0 c.requires.room

pub arm-requires-clause-stroke : goal.arm-requires-clause-stroke
arm-requires-clause-stroke c = let fits = arm_at c.args.self.now.chart c.in-Arm.unit c.in-Arm.stroke c.in-Arm.what (ap (is_line c.args.self.now.chart) (sym c.in-Arm.is) ∙ c.requires.line) in (fits.1, fits.2)

pub recover-requires-clause-unit : goal.recover-requires-clause-unit
recover-requires-clause-unit c = recover_at c.args.self.now.chart c.in-Recover.unit (ap (is_line c.args.self.now.chart) (sym c.in-Recover.is) ∙ c.requires.line)

pub recover-requires-clause-room : goal.recover-requires-clause-room
recover-requires-clause-room c = has_room c.args.self.now c.in-Recover.unit.0 c.requires.room

pub show-requires-clause-unit : goal.show-requires-clause-unit
show-requires-clause-unit c = show_at c.args.self.now.chart c.in-Show.unit (ap (is_line c.args.self.now.chart) (sym c.in-Show.is) ∙ c.requires.line)

pub items-requires-clause-unit : goal.items-requires-clause-unit
items-requires-clause-unit c = items_at c.args.self.now.chart c.in-Items.unit (ap (is_line c.args.self.now.chart) (sym c.in-Items.is) ∙ c.requires.line)

pub returns-in_ok-admit-in-Admit-clause-wear : goal.returns-in_ok-admit-in-Admit-clause-wear
returns-in_ok-admit-in-Admit-clause-wear c = one_wears_all c.in-Admit.unit.0 c.args.self.now c.admit.new.self c.in_ok-admit-in-Admit.ensures.wear

pub returns-in_ok-turn-in-Turn-clause-wear : goal.returns-in_ok-turn-in-Turn-clause-wear
returns-in_ok-turn-in-Turn-clause-wear c = one_wears_all c.in-Turn.unit.0 c.args.self.now c.turn.new.self c.in_ok-turn-in-Turn.ensures.wear

pub returns-in_ok-recover-in-Recover-clause-wear : goal.returns-in_ok-recover-in-Recover-clause-wear
returns-in_ok-recover-in-Recover-clause-wear c = one_wears_all c.in-Recover.unit.0 c.args.self.now c.recover.new.self c.in_ok-recover-in-Recover.ensures.wear

pub returns-in_ok-deliver-in-Deliver-clause-wear : goal.returns-in_ok-deliver-in-Deliver-clause-wear
returns-in_ok-deliver-in-Deliver-clause-wear c = none_wears_all c.args.self.now c.deliver.new.self c.in_ok-deliver-in-Deliver.ensures.wear

pub returns-in-Crash-clause-wear : goal.returns-in-Crash-clause-wear
returns-in-Crash-clause-wear c = one_wears_all c.in-Crash.unit.0 c.args.self.now c.crash.new.self c.crash.ensures.wear

pub returns-in-Arm-clause-wear : goal.returns-in-Arm-clause-wear
returns-in-Arm-clause-wear c = one_wears_all c.in-Arm.unit.0 c.args.self.now c.arm.new.self c.arm.ensures.wear

pub returns-in_ok-show-in-Show-clause-wear : goal.returns-in_ok-show-in-Show-clause-wear
returns-in_ok-show-in-Show-clause-wear c = same_wears c.args.self.now

pub returns-in_ok-items-in-Items-clause-wear : goal.returns-in_ok-items-in-Items-clause-wear
returns-in_ok-items-in-Items-clause-wear c = same_wears c.args.self.now

pub returns-in-Send-clause-wear : goal.returns-in-Send-clause-wear
returns-in-Send-clause-wear c = if_ok c.send.result (λ _. WearsNone c.args.self.now c.send.new.self) (λ _. WearsAll c.args.self.now c.send.new.self) c.send.ensures.wear (λ r worn. none_wears_all c.args.self.now c.send.new.self worn)

pub returns-in-Send-clause-over : goal.returns-in-Send-clause-over
returns-in-Send-clause-over c =
    λ e. subst (λ (x : Line). is_over c.args.self.now.chart (act c.args.self.now.chart (machine_at c.args.self.now) true x).after ≡ true) (sym c.in-Send.is)
    (send_over c.args.self.now c.in-Send.from c.in-Send.to (c.send.ensures.over e))

pub returns-in-Round-clause-over : goal.returns-in-Round-clause-over
returns-in-Round-clause-over c =
    λ e. subst (λ (x : Line). is_over c.args.self.now.chart (act c.args.self.now.chart (machine_at c.args.self.now) true x).after ≡ true) (sym c.in-Round.is) (round_over c.args.self.now (c.round.ensures.over e))
