-- The summary of a play: how many steps were taken, what was admitted, and what fired.
use Rattle.std.specs.Prelude.{ℕ, ◌+◌, ◌++◌, List, [], ◌∷◌, length, take, map, flat_map}
use Rattle.std.specs.List.{range_with_len}
use Rattle.std.specs.Fmt.{decimal}
use lib.Chars.{codes}
use Rattle.wf_model.specs.declared.chart.Chart.{Chart}
use Rattle.wf_model.specs.declared.outer.Entry.{Entry}
use Rattle.wf_semantics.specs.Run.{CentralState, first_state, next_state, fired_in}
use Rattle.wf_machine.specs.declared.line.Line.{Line}
use Rattle.wf_machine.specs.Machine.{CountingMachine, first_machine, entries_at, least_of, merged_places}
use Rattle.wf_machine.specs.Runs.{Outcomes, after_lines, closed}

-- the merged list, from step 1 to the least taken count + 2
abbrev pub merged_entries : CountingMachine → List (List Entry)
merged_entries m = map (entries_at m) (range_with_len 1 (least_of m.servers + 2))

-- the transitions that fire in steps with these lists of entries, from this state on
abbrev pub fired_along : Chart → CentralState → List (List Entry) → List ℕ
fired_along chart c [] = []
fired_along chart c (entries ∷ more) = fired_in chart c entries ++ fired_along chart (next_state chart c entries) more

-- bulk N steps S admitted A fired F: the least taken count; how many admissions the merged list has; and how many transitions fire in the
-- first 1004 steps of its central run
unfoldable pub summary_line : ℕ → Chart → CountingMachine → List ℕ
summary_line n chart m =
    codes "bulk " ++ decimal n ++ codes " steps " ++ decimal (least_of m.servers) ++ codes " admitted "
    ++ decimal (length (flat_map (λ places. places) (merged_places m))) ++ codes " fired "
    ++ decimal (length (fired_along chart (first_state chart) (take 1004 (merged_entries m)))) ++ codes "\n"

-- the summary of the play of these lines, where its doubts turn out so
unfoldable pub summary_text : ℕ → Chart → List (ℕ × Line) → Outcomes → List ℕ
summary_text n chart lines outcomes =
    summary_line n chart (closed (after_lines chart (first_machine chart) outcomes.at_lines lines) outcomes.at_end)
