-- The central run: the state of a chart step by step.
use Rattle.std.specs.Prelude.{ℕ, ◌+◌, ◌++◌, ◌==◌, ◌||◌, nat_lt, if◌then◌else◌, Bool, false, List, [], ◌∷◌, length, map, filter, flat_map, Option, Some, slice_get, option_map}
use Rattle.std.specs.Option.{option_map_or}
use Rattle.std.specs.List.{list_any}
use Rattle.wf_model.specs.declared.ids.ActId.{ActId}
use Rattle.wf_model.specs.declared.ids.EventId.{EventId}
use Rattle.wf_model.specs.declared.value.Val.{Val}
use Rattle.wf_model.specs.declared.chart.Chart.{Chart}
use Rattle.wf_model.specs.declared.outer.Outer.{Outer}
use Rattle.wf_model.specs.declared.outer.Outer.TheVariants.{Happen, Complete}
use Rattle.wf_model.specs.declared.outer.Entry.{Entry}
use Rattle.wf_model.specs.declared.update.StartAt.{StartAt}
use Rattle.wf_semantics.specs.Configuration.{Tree, is_in}
use Rattle.wf_semantics.specs.Entry.{default_tree}
use Rattle.wf_semantics.specs.Walk.{new_tree, fired_of}
use Rattle.wf_semantics.specs.Snapshot.{Snapshot, is_enabled}
use Rattle.wf_semantics.specs.Effects.{after_entries, after_fired, raised_by, starts_of}
use Rattle.wf_semantics.specs.Items.{Item, Completion, new_item, open_count, close_all, done_count}

pub record CentralState : Type 0 where
  pub configuration : Tree
  -- the value of each variable, in order
  pub store : List Val
  -- the events raised in the last step, ascending
  pub raised : List EventId
  -- the items of each unit
  pub items : ℕ → List Item
  -- how many steps were taken
  pub taken : ℕ

-- BEFORE STEP 1

unfoldable pub first_state : Chart → CentralState
first_state chart =
    record { configuration = default_tree chart 0; store = map (λ x. x.first) chart.vars; raised = []; items = λ u. []; taken = 0 }

-- WHAT A STEP SEES, where these entries came

abbrev pub is_happening : ℕ → Outer → Bool
is_happening e (Happen f) = f.0 == e
is_happening e (Complete item a outputs) = false

abbrev pub completions_of : Outer → List Completion
completions_of (Happen e) = []
completions_of (Complete item a outputs) = record { item = item; act = a } ∷ []

-- the completions that came to unit u, in order
abbrev pub completions_at : ℕ → List Entry → List Completion
completions_at u entries = flat_map (λ x. completions_of x.outer) (filter (λ x. x.unit.0 == u) entries)

-- the unit of activity a
abbrev pub act_unit : Chart → ℕ → Option ℕ
act_unit chart a = option_map (λ act. act.unit.0) (slice_get chart.acts a)

-- unit u's items, once the completions have closed theirs
abbrev pub items_closed : (ℕ → List Item) → List Entry → ℕ → List Item
items_closed items entries u = close_all (completions_at u entries) (items u)

-- how many items of activity a are open then, and how many were completed
abbrev pub open_now : Chart → (ℕ → List Item) → List Entry → ℕ → ℕ
open_now chart items entries a = option_map_or (λ u. open_count a (items_closed items entries u)) (act_unit chart a) 0

abbrev pub done_now : Chart → List Entry → ℕ → Bool
done_now chart entries a = option_map_or (λ u. nat_lt 0 (done_count a (completions_at u entries))) (act_unit chart a) false

-- the events raised in the last step, and those that happened now
abbrev pub is_there : List EventId → List Entry → ℕ → Bool
is_there raised entries e = list_any (λ r. r.0 == e) raised || list_any (λ x. is_happening e x.outer) entries

unfoldable pub snapshot_of : Chart → CentralState → List Entry → Snapshot
snapshot_of chart c entries =
    record {
      seen = record {
        state = λ s. Some (is_in s c.configuration);
        var = slice_get (after_entries entries c.store);
        count = λ a. Some (open_now chart c.items entries a);
        done = λ a. Some (done_now chart entries a);
      };
      there = is_there c.raised entries;
    }

-- A STEP

-- the transitions that fire, ascending
unfoldable pub fired_in : Chart → CentralState → List Entry → List ℕ
fired_in chart c entries = fired_of chart (is_enabled chart (snapshot_of chart c entries)) c.configuration

abbrev pub is_at : Chart → ℕ → StartAt → Bool
is_at chart u start = option_map_or (λ v. v == u) (act_unit chart start.act.0) false

-- the items that these starts make at unit u
abbrev pub new_items : Chart → ℕ → List StartAt → List Item
new_items chart u starts = map (λ s. new_item s.act) (filter (is_at chart u) starts)

unfoldable pub next_state : Chart → CentralState → List Entry → CentralState
next_state chart c entries =
    record {
      configuration = new_tree chart (is_enabled chart (snapshot_of chart c entries)) c.configuration;
      store = after_fired chart (snapshot_of chart c entries).seen (fired_in chart c entries) (after_entries entries c.store);
      raised = raised_by chart (snapshot_of chart c entries).seen (fired_in chart c entries);
      items = λ u. items_closed c.items entries u ++ new_items chart u (starts_of chart (fired_in chart c entries));
      taken = c.taken + 1;
    }

-- these starts with the numbers of their items, where each unit has so many items before
abbrev pub numbered : Chart → (ℕ → ℕ) → List StartAt → List (ActId × ℕ)
numbered chart before [] = []
numbered chart before (s ∷ starts) =
    (s.act, option_map_or before (act_unit chart s.act.0) 0 + 1)
    ∷ numbered chart (λ u. if is_at chart u s then before u + 1 else before u) starts

-- what the step starts, with item numbers
unfoldable pub started_in : Chart → CentralState → List Entry → List (ActId × ℕ)
started_in chart c entries = numbered chart (λ u. length (c.items u)) (starts_of chart (fired_in chart c entries))

-- THE RUN

-- the state after steps with these lists of entries
abbrev pub after_steps : Chart → CentralState → List (List Entry) → CentralState
after_steps chart c [] = c
after_steps chart c (entries ∷ more) = after_steps chart (next_state chart c entries) more

abbrev pub central_run : Chart → List (List Entry) → CentralState
central_run chart steps = after_steps chart (first_state chart) steps
