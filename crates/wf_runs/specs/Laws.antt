-- Of the laws. The central run of every chart, over every list of steps.
use Rattle.std.specs.Prelude.{ℕ, ◌≡◌, ◌<◌, ◌≤◌, ◌+◌, ◌++◌, ◌||◌, nat_lt, true, false, List, [], ◌∷◌, length, map, Some, is_ok}
use Rattle.std.specs.Option.{option_map, option_map_or}
use Rattle.std.specs.List.{range_with_len, zip, list_all}
use Rattle.wf_model.specs.declared.ids.ActId.{ActId}
use Rattle.wf_model.specs.declared.chart.Chart.{Chart}
use Rattle.wf_model.specs.declared.outer.Output.{Output}
use Rattle.wf_model.specs.declared.outer.Outer.TheVariants.{Complete}
use Rattle.wf_model.specs.declared.outer.Entry.{Entry}
use Rattle.wf_model.specs.Accepted.{IsAccepted}
use Rattle.wf_semantics.specs.Effects.{starts_of}
use Rattle.wf_semantics.specs.Items.{item_at}
use Rattle.wf_semantics.specs.Run.{CentralState, act_unit, snapshot_of, fired_in, started_in, next_state, after_steps, central_run}
use Rattle.wf_semantics.specs.Admission.{is_closed, is_pending, may_be_admitted, may_come}
use Rattle.wf_runs.specs.Runs.{IsRun}
use Rattle.wf_runs.specs.Starts.{StartIn, in_step, starts_at, all_starts, start_at, is_before, started_at}
use Rattle.wf_runs.specs.Completions.{is_completed, completing, all_entries, open_numbers}
use Rattle.wf_runs.specs.Sight.{SeeAlike}

-- a unit has an item for each start of its activities so far, and the item with number n is of the activity of the n-th
abbrev pub ItemsAreStarts : Type 0
ItemsAreStarts =
    (chart : Chart) (u : ℕ) (steps : List (List Entry)) →
    (length ((central_run chart steps).items u) ≡ length (all_starts chart u steps))
    × ((n : ℕ) → option_map (λ x. x.act) (item_at ((central_run chart steps).items u) n) ≡ option_map (λ s. s.start.act) (start_at (all_starts chart u steps) n))

-- a step's starts come behind those of the steps before
abbrev pub StartsGoOn : Type 0
StartsGoOn =
    (chart : Chart) (u : ℕ) (steps : List (List Entry)) (entries : List Entry) →
    all_starts chart u (steps ++ entries ∷ []) ≡ all_starts chart u steps ++ map (in_step (length steps + 1)) (starts_at chart u (central_run chart steps) entries)

-- a start keeps its number, whatever steps come
abbrev pub StartsKeepNumbers : Type 0
StartsKeepNumbers =
    (chart : Chart) (u : ℕ) (steps more : List (List Entry)) (n : ℕ) (s : StartIn) →
    start_at (all_starts chart u steps) n ≡ Some s → start_at (all_starts chart u (steps ++ more)) n ≡ Some s

-- starts count in order of step, transition and place, and two numbers have two starts
abbrev pub StartsAreInOrder : Type 0
StartsAreInOrder =
    (chart : Chart) (u : ℕ) (steps : List (List Entry)) (m n : ℕ) (s t : StartIn) →
    start_at (all_starts chart u steps) m ≡ Some s → start_at (all_starts chart u steps) n ≡ Some t →
    (m < n → is_before s t ≡ true) × (s ≡ t → m ≡ n)

-- a step tells all its starts in order, and at each unit with the next numbers there
abbrev pub NumbersGoOn : Type 0
NumbersGoOn =
    (chart : Chart) (steps : List (List Entry)) (entries : List Entry) →
    (map (λ s. s.0) (started_in chart (central_run chart steps) entries) ≡ map (λ s. s.act) (starts_of chart (fired_in chart (central_run chart steps) entries)))
    × ((u : ℕ) → started_at chart u (central_run chart steps) entries
    ≡ zip (map (λ s. s.act) (starts_at chart u (central_run chart steps) entries))
    (range_with_len (length (all_starts chart u steps) + 1) (length (starts_at chart u (central_run chart steps) entries))))

-- what a step of an accepted chart starts is of an activity at a unit of the chart
abbrev pub StartsHaveUnits : Type 0
StartsHaveUnits =
    (chart : Chart) (c : CentralState) (entries : List Entry) → IsAccepted chart →
    list_all (λ s. option_map_or (λ u. nat_lt u (length chart.units)) (act_unit chart s.act.0) false) (starts_of chart (fired_in chart c entries)) ≡ true

-- a closed item stays closed, whatever steps come
abbrev pub ClosedForGood : Type 0
ClosedForGood =
    (chart : Chart) (c : CentralState) (steps : List (List Entry)) (u n : ℕ) →
    is_closed (item_at (c.items u) n) ≡ true → is_closed (item_at ((after_steps chart c steps).items u) n) ≡ true

-- an item is closed exactly where some entry of the run so far completes it
abbrev pub ClosedIsCompleted : Type 0
ClosedIsCompleted =
    (chart : Chart) (steps : List (List Entry)) (u n : ℕ) → IsRun chart steps →
    is_closed (item_at ((central_run chart steps).items u) n) ≡ is_completed steps u n

-- the count that a step sees of an activity is how many of its items were started before, and not completed by now
abbrev pub CountsOpenStarts : Type 0
CountsOpenStarts =
    (chart : Chart) (steps : List (List Entry)) (entries : List Entry) (a : ℕ) → IsRun chart steps → may_come chart (central_run chart steps).items entries ≡ true →
    (snapshot_of chart (central_run chart steps) entries).seen.count a
    ≡ Some (option_map_or (λ u. length (open_numbers chart steps entries a u)) (act_unit chart a) 0)

-- two states that see the same do the same
abbrev pub StepGoesBySight : Type 0
StepGoesBySight =
    (chart : Chart) (c : CentralState) (e : List Entry) (d : CentralState) (f : List Entry) → SeeAlike chart c e d f →
    (fired_in chart c e ≡ fired_in chart d f)
    × ((next_state chart c e).configuration ≡ (next_state chart d f).configuration)
    × ((next_state chart c e).store ≡ (next_state chart d f).store)
    × ((next_state chart c e).raised ≡ (next_state chart d f).raised)
    × (starts_of chart (fired_in chart c e) ≡ starts_of chart (fired_in chart d f))

-- once an entry of the run completes an item, no completion of it is let in
abbrev pub NoSecondCompletion : Type 0
NoSecondCompletion =
    (chart : Chart) (steps : List (List Entry)) (pending : List Entry) (u n : ℕ) (a : ActId) (outputs : List Output) → IsRun chart steps →
    (is_completed steps u n || is_pending pending u n) ≡ true →
    is_ok (may_be_admitted chart (central_run chart steps).items pending u (Complete n a outputs)) ≡ false

-- at most one entry of a run completes an item
abbrev pub CompletedOnce : Type 0
CompletedOnce = (chart : Chart) (steps : List (List Entry)) (u n : ℕ) → IsRun chart steps → length (completing u n (all_entries steps)) ≤ 1
