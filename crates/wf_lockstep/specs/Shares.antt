-- Of the laws. What each unit contributes to a step of the central run.
use Rattle.std.specs.Prelude.{ℕ, zero, suc, ◌==◌, List, [], map, filter, flat_map, take, get_or}
use Rattle.std.specs.List.{range_with_len}
use Rattle.wf_model.specs.declared.chart.Chart.{Chart}
use Rattle.wf_model.specs.declared.outer.Outer.{Outer}
use Rattle.wf_model.specs.declared.outer.Entry.{Entry}
use Rattle.wf_model.specs.declared.update.Update.{Update}
use Rattle.wf_model.specs.Tree.{all_states}
use Rattle.wf_semantics.specs.Configuration.{is_in}
use Rattle.wf_semantics.specs.Effects.{raised_by, starts_of}
use Rattle.wf_semantics.specs.Run.{CentralState, snapshot_of, fired_in, next_state, central_run}
use Rattle.wf_actions.specs.Writes.{merged}
use Rattle.wf_actions.specs.Store.{writes_of}
use Rattle.wf_parts.specs.Known.{is_state_of, is_own}
use Rattle.wf_views.specs.OwnSteps.{differs}
use Rattle.wf_model.specs.Ids.{state_id, trans_id}

-- the entries of step k, where steps count from 1; none past the last list
abbrev pub entries_at : List (List Entry) → ℕ → List Entry
entries_at steps zero = []
entries_at steps (suc i) = get_or steps i []

-- the central state after k steps
abbrev pub state_after : Chart → List (List Entry) → ℕ → CentralState
state_after chart steps k = central_run chart (take k steps)

-- the entries that came to unit u, and their outers

abbrev pub entries_to : ℕ → List Entry → List Entry
entries_to u entries = filter (λ x. x.unit.0 == u) entries

abbrev pub outers_to : ℕ → List Entry → List Outer
outers_to u entries = map (λ x. x.outer) (entries_to u entries)

-- entries in unit order, each at one of n units: those of unit 0, then those of unit 1, and so on
abbrev pub by_units : ℕ → List Entry → List Entry
by_units n entries = flat_map (λ u. entries_to u entries) (range_with_len 0 n)

-- u's own transitions that fire in a step from c
abbrev pub fired_of_unit : Chart → CentralState → List Entry → ℕ → List ℕ
fired_of_unit chart c entries u = filter (is_own chart u) (fired_in chart c entries)

-- u's states that the step from c takes in or out
abbrev pub moved_of_unit : Chart → CentralState → List Entry → ℕ → List ℕ
moved_of_unit chart c entries u =
    filter (λ z. differs (is_in z c.configuration) (is_in z (next_state chart c entries).configuration)) (filter (is_state_of chart u) (all_states chart))

-- what u contributes to the step from c with these entries: step number k, with outers for the next
unfoldable pub share_from : Chart → CentralState → List Entry → ℕ → ℕ → List Outer → Update
share_from chart c entries u k outers =
    record {
      from = record { 0 = u };
      step = k;
      flips = map state_id (moved_of_unit chart c entries u);
      writes = merged (writes_of chart (snapshot_of chart c entries).seen (fired_of_unit chart c entries u));
      raised = raised_by chart (snapshot_of chart c entries).seen (fired_of_unit chart c entries u);
      starts = starts_of chart (fired_of_unit chart c entries u);
      fired = map trans_id (fired_of_unit chart c entries u);
      outer = outers;
    }

-- u's share of step k + 1 of the central run
abbrev pub share_of : Chart → List (List Entry) → ℕ → ℕ → Update
share_of chart steps u k = share_from chart (state_after chart steps k) (entries_at steps (suc k)) u (suc k) (outers_to u (entries_at steps (suc (suc k))))
