-- Of the laws. The starts of a unit over a list of steps, and their numbers.
use Rattle.std.specs.Prelude.{ℕ, zero, suc, ◌+◌, ◌==◌, ◌&&◌, ◌||◌, ◌++◌, nat_lt, Bool, false, List, [], ◌∷◌, map, filter, Option, Some, None, slice_get}
use Rattle.wf_model.specs.declared.ids.ActId.{ActId}
use Rattle.wf_model.specs.declared.chart.Chart.{Chart}
use Rattle.wf_model.specs.declared.outer.Entry.{Entry}
use Rattle.wf_model.specs.declared.update.StartAt.{StartAt}
use Rattle.wf_semantics.specs.Effects.{starts_of}
use Rattle.wf_semantics.specs.Run.{CentralState, first_state, next_state, fired_in, started_in, is_at}
use Rattle.wf_semantics.specs.Admission.{is_act_at}

-- a start, and the step that it is in, where steps count from 1
pub record StartIn : Type 0 where
  pub step : ℕ
  pub start : StartAt

abbrev pub in_step : ℕ → StartAt → StartIn
in_step n s = record { step = n; start = s }

-- the starts of unit u's activities in the next step, by transition and place
abbrev pub starts_at : Chart → ℕ → CentralState → List Entry → List StartAt
starts_at chart u c entries = filter (is_at chart u) (starts_of chart (fired_in chart c entries))

-- the starts of unit u's activities in these steps from c on
abbrev pub starts_along : Chart → ℕ → CentralState → List (List Entry) → List StartIn
starts_along chart u c [] = []
starts_along chart u c (entries ∷ more) =
    map (in_step (c.taken + 1)) (starts_at chart u c entries) ++ starts_along chart u (next_state chart c entries) more

-- all starts of unit u's activities in these steps
abbrev pub all_starts : Chart → ℕ → List (List Entry) → List StartIn
all_starts chart u steps = starts_along chart u (first_state chart) steps

-- the start with this number, from 1
abbrev pub start_at : List StartIn → ℕ → Option StartIn
start_at starts zero = None
start_at starts (suc n) = slice_get starts n

abbrev pub is_start_of : ℕ → Option StartIn → Bool
is_start_of a None = false
is_start_of a (Some s) = s.start.act.0 == a

-- within a step: a lower transition is first, and of one transition the place that is earlier
abbrev pub is_earlier : StartAt → StartAt → Bool
is_earlier s t = nat_lt s.trans.0 t.trans.0 || ((s.trans.0 == t.trans.0) && nat_lt s.place t.place)

abbrev pub is_before : StartIn → StartIn → Bool
is_before s t = nat_lt s.step t.step || ((s.step == t.step) && is_earlier s.start t.start)

-- what the next step starts at unit u, with item numbers
abbrev pub started_at : Chart → ℕ → CentralState → List Entry → List (ActId × ℕ)
started_at chart u c entries = filter (λ s. is_act_at chart u s.0.0) (started_in chart c entries)
