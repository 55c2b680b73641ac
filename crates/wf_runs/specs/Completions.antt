-- Of the laws. The completions of items over a list of steps.
use Rattle.std.specs.Prelude.{ℕ, ◌==◌, ◌&&◌, ◌||◌, not, Bool, List, length, filter, flat_map}
use Rattle.std.specs.List.{list_any, range_with_len}
use Rattle.wf_model.specs.declared.chart.Chart.{Chart}
use Rattle.wf_model.specs.declared.outer.Entry.{Entry}
use Rattle.wf_semantics.specs.Admission.{completes, is_pending}
use Rattle.wf_runs.specs.Starts.{all_starts, start_at, is_start_of}

-- some entry of these steps completes unit u's item n
abbrev pub is_completed : List (List Entry) → ℕ → ℕ → Bool
is_completed steps u n = list_any (λ entries. is_pending entries u n) steps

-- the entries that complete unit u's item n
abbrev pub completing : ℕ → ℕ → List Entry → List Entry
completing u n entries = filter (λ x. (x.unit.0 == u) && completes n x.outer) entries

-- the entries of all steps, in order
abbrev pub all_entries : List (List Entry) → List Entry
all_entries steps = flat_map (λ entries. entries) steps

-- the numbers of unit u's items of activity a that these steps start, and that neither they nor these entries complete
abbrev pub open_numbers : Chart → List (List Entry) → List Entry → ℕ → ℕ → List ℕ
open_numbers chart steps entries a u =
    filter (λ n. is_start_of a (start_at (all_starts chart u steps) n) && not (is_completed steps u n || is_pending entries u n)) (range_with_len 1 (length (all_starts chart u steps)))
