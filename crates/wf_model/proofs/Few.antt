-- How many units, events, activities and variables an accepted chart has.
use Rattle.std.proofs.Common.{◌≤◌, length, arith}
use Rattle.std.proofs.lemmas.Bool.Decides.{nat_tests}
use Rattle.wf_model.specs.Limits.{max_units, max_events, max_acts, max_vars}
use Rattle.wf_model.specs.declared.chart.Chart.{Chart}
use Rattle.wf_model.specs.Accepted.{IsAccepted, is_accepted, is_small}

pub few_units : (chart : Chart) → IsAccepted chart → length chart.units ≤ max_units
unfolding is_accepted is_small
few_units chart h = grind (arith, nat_tests)

pub few_events : (chart : Chart) → IsAccepted chart → length chart.events ≤ max_events
unfolding is_accepted is_small
few_events chart h = grind (arith, nat_tests)

pub few_acts : (chart : Chart) → IsAccepted chart → length chart.acts ≤ max_acts
unfolding is_accepted is_small
few_acts chart h = grind (arith, nat_tests)

pub few_vars : (chart : Chart) → IsAccepted chart → length chart.vars ≤ max_vars
unfolding is_accepted is_small
few_vars chart h = grind (arith, nat_tests)
