-- The laws, of each chart and each list of steps.
use Rattle.wf_semantics.specs.Run.{central_run, fired_in}
use Rattle.wf_runs.specs.Laws.{ItemsAreStarts, StartsGoOn, StartsKeepNumbers, StartsAreInOrder, NumbersGoOn, StartsHaveUnits, ClosedForGood, ClosedIsCompleted, CountsOpenStarts, StepGoesBySight, NoSecondCompletion, CompletedOnce}
use Rattle.wf_runs.proofs.Closing as closing
use Rattle.wf_runs.proofs.Completed as completed
use Rattle.wf_runs.proofs.Numbers as numbers
use Rattle.wf_runs.proofs.Units as units
use Rattle.wf_runs.proofs.Order as order
use Rattle.wf_runs.proofs.Counting as counting
use Rattle.wf_runs.proofs.Sight as sight

pub items_are_starts : ItemsAreStarts
items_are_starts chart u steps = (numbers.as_many chart u steps, numbers.same_acts chart u steps)

pub starts_go_on : StartsGoOn
starts_go_on = numbers.starts_go_on

pub starts_keep_numbers : StartsKeepNumbers
starts_keep_numbers = numbers.starts_keep_numbers

pub starts_are_in_order : StartsAreInOrder
starts_are_in_order chart u steps m n s t es et = (order.starts_in_order chart u steps m n s t es et, order.one_number chart u steps m n s t es et)

pub numbers_go_on : NumbersGoOn
numbers_go_on chart steps entries = (numbers.tells_starts chart (central_run chart steps) entries, (λ u. numbers.numbers_go_on chart u steps entries))

pub starts_have_units : StartsHaveUnits
starts_have_units chart c entries ok = units.starts_have_units chart ok (fired_in chart c entries)

pub closed_for_good : ClosedForGood
closed_for_good = closing.closed_for_good

pub closed_is_completed : ClosedIsCompleted
closed_is_completed = completed.closed_is_completed

pub counts_open_starts : CountsOpenStarts
counts_open_starts chart steps entries a run come = counting.counts_open chart steps entries run come a

pub step_goes_by_sight : StepGoesBySight
step_goes_by_sight chart c e d f alike = (
  sight.same_fired chart c e d f alike,
  sight.same_configuration chart c e d f alike,
  sight.same_store chart c e d f alike,
  sight.same_raised chart c e d f alike,
  sight.same_starts chart c e d f alike,
)

pub no_second_completion : NoSecondCompletion
no_second_completion = completed.no_second_completion

pub completed_once : CompletedOnce
completed_once = completed.completed_once
