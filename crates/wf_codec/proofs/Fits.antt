-- What is in range fits its bytes.
use Rattle.std.proofs.Common.{ℕ, ◌+◌, ◌≤◌, ◌<◌, ◌^◌, List, [], ◌∷◌, length, arith}
use Rattle.std.specs.List.{AllByRecursion}
use Rattle.wf_model.specs.Limits.{max_events, max_vars, max_states, max_units}
use Rattle.wf_model.specs.declared.outer.Output.{Output}
use Rattle.wf_model.specs.declared.outer.Outer.{Outer}
use Rattle.wf_model.specs.declared.outer.Outer.TheVariants.{Happen, Complete}
use Rattle.wf_model.specs.declared.update.Write.{Write}
use Rattle.wf_model.specs.declared.update.Update.{Update}
use Rattle.wf_codec.specs.Ranges.{chart_numbers, any_numbers, Ascend, IsWrite, IsOuter, IsInRange}

-- the number of the first, and how many there are, stay within the limit
first_leaves_room : {A : Type 0} (number : A → ℕ) (limit : ℕ) (x : A) (xs : List A) → AllByRecursion (λ y. number y < limit) (x ∷ xs) → Ascend number (x ∷ xs) → number x + length (x ∷ xs) ≤ limit
first_leaves_room number limit x [] below ascend = omega (arith, below.0)
first_leaves_room number limit x (y ∷ ys) below ascend = omega (arith, ascend.0, first_leaves_room number limit y ys below.1 ascend.1)

-- numbers that ascend below a limit are at most so many
pub ascending_few : {A : Type 0} (number : A → ℕ) (limit : ℕ) (xs : List A) → AllByRecursion (λ y. number y < limit) xs → Ascend number xs → length xs ≤ limit
ascending_few number limit [] below ascend = omega arith
ascending_few number limit (x ∷ xs) below ascend = omega (arith, first_leaves_room number limit x xs below ascend)

variables_below : (ws : List Write) → AllByRecursion IsWrite ws → AllByRecursion (λ w. w.var.0 < max_vars) ws
variables_below [] ranged = tt
variables_below (w ∷ ws) ranged = (ranged.0.0, variables_below ws ranged.1)

-- the lists that ascend are short
pub flips_few : (u : Update) → IsInRange u → length u.flips ≤ max_states
flips_few u ranged = ascending_few (λ s. s.0) max_states u.flips ranged.flips ranged.flips_ascend

pub writes_few : (u : Update) → IsInRange u → length u.writes ≤ max_vars
writes_few u ranged = ascending_few (λ w. w.var.0) max_vars u.writes (variables_below u.writes ranged.writes) ranged.writes_ascend

pub raised_few : (u : Update) → IsInRange u → length u.raised ≤ max_events
raised_few u ranged = ascending_few (λ e. e.0) max_events u.raised ranged.raised ranged.raised_ascend

outputs_fit : (outputs : List Output) → AllByRecursion (λ o. o.var.0 < max_vars) outputs → AllByRecursion (λ o. o.var.0 < 2 ^ 16) outputs
outputs_fit [] below = tt
outputs_fit (o ∷ outputs) below = (omega (arith, below.0), outputs_fit outputs below.1)

pub outer_fits : (outer : Outer) → IsOuter chart_numbers outer → IsOuter any_numbers outer
outer_fits (Happen event) ranged = omega (arith, ranged)
outer_fits (Complete item act outputs) ranged = (ranged.0, omega (arith, ranged.1), ranged.2, outputs_fit outputs ranged.3)

all_outers_fit : (outers : List Outer) → AllByRecursion (IsOuter chart_numbers) outers → AllByRecursion (IsOuter any_numbers) outers
all_outers_fit [] ranged = tt
all_outers_fit (outer ∷ outers) ranged = (outer_fits outer ranged.0, all_outers_fit outers ranged.1)

-- an update's outers fit
pub outers_fit : (u : Update) → IsInRange u → AllByRecursion (IsOuter any_numbers) u.outer
outers_fit u ranged = all_outers_fit u.outer ranged.outer

units_below : (us : List Update) → AllByRecursion IsInRange us → AllByRecursion (λ u. u.from.0 < max_units) us
units_below [] ranged = tt
units_below (u ∷ us) ranged = (ranged.0.from, units_below us ranged.1)

-- a turn has at most an update of each unit
pub inputs_few : (us : List Update) → AllByRecursion IsInRange us → Ascend (λ u. u.from.0) us → length us ≤ max_units
inputs_few us ranged ascend = ascending_few (λ u. u.from.0) max_units us (units_below us ranged) ascend
