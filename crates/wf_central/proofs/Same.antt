-- A kept state, field by field.
use Rattle.std.proofs.Common.{◌≡◌, ℕ, ◌+◌, ◌*◌, ◌<◌, ◌≤◌, ◌++◌, ◌^◌, Bool, true, List, [], length, map, sym, ◌∙◌, ap, ap₂, subst, arith, length-append}
use Rattle.wf_model.specs.Limits.{max_transitions, max_actions, max_steps}
use Rattle.wf_model.specs.declared.chart.Chart.{Chart}
use Rattle.wf_model.specs.declared.outer.Outer.{Outer}
use Rattle.wf_model.specs.declared.outer.Entry.{Entry}
use Rattle.wf_model.specs.declared.update.StartAt.{StartAt}
use Rattle.wf_model.specs.Accepted.{IsAccepted}
use Rattle.wf_model.specs.Tree.{all_states, all_acts, all_events}
use Rattle.wf_semantics.specs.Configuration.{Tree, is_in, IsConfiguration}
use Rattle.wf_semantics.specs.Bits.{tree_of_bits}
use Rattle.wf_semantics.specs.Entry.{default_tree}
use Rattle.wf_semantics.specs.Effects.{after_entries, starts_of}
use Rattle.wf_semantics.specs.Items.{Item}
use Rattle.wf_semantics.specs.Run.{first_state, next_state, fired_in, started_in, items_closed, new_items, completions_at, numbered, open_now, done_now, is_there}
use Rattle.wf_semantics.specs.Admission.{may_be_admitted, may_come}
use Rattle.wf_semantics.specs.Shown.{HasSorts}
use Rattle.wf_semantics.proofs.Facts.{chart_of}
use Rattle.wf_semantics.proofs.Configured.{tree_of_same_bits, bits_configuration}
use Rattle.wf_semantics.proofs.Runs.{first_configuration, next_configuration}
use Rattle.wf_scopes.specs.Tables.{tables_of}
use Rattle.wf_activities.specs.Stock.{Stock, AreOf, AreStarted, items_at}
use Rattle.wf_model.specs.Bits.{bit}
use Rattle.wf_central.specs.Kept.{Kept, central_of, IsOf}
use Rattle.wf_central.specs.Made.{IsSeen}
use Rattle.wf_central.specs.declared.snapshot.StepSnapshot.{StepSnapshot}
use Rattle.wf_central.proofs.Passing.{row_bit}
use Rattle.wf_central.proofs.Sorts.{first_sorts}
use Rattle.wf_central.proofs.Starts.{few_starts, closed_length, new_few}

-- of the state that is kept the admission rule reads the items
pub admits : (chart other : Chart) (stock : Stock) (kept : Kept) (pending : List Entry) (u : ℕ) (outer : Outer) → other ≡ chart → stock ≡ kept.items
    → may_be_admitted other (items_at stock) pending u outer ≡ may_be_admitted chart (central_of chart kept).items pending u outer
unfolding central_of
admits chart other stock kept pending u outer same is =
    ap₂ (λ (x : Chart) (s : Stock). may_be_admitted x (items_at s) pending u outer) same is

pub comes : (chart other : Chart) (stock : Stock) (kept : Kept) (entries : List Entry) → other ≡ chart → stock ≡ kept.items → may_come chart (central_of chart kept).items entries ≡ true
    → may_come other (items_at stock) entries ≡ true
unfolding central_of
comes chart other stock kept entries same is h =
    ap₂ (λ (x : Chart) (s : Stock). may_come x (items_at s) entries) same is ∙ h

-- the items that a step leaves, and the numbers of its starts, by the kept items
pub took : (chart other : Chart) (before stock : Stock) (kept : Kept) (entries : List Entry) (starts : List StartAt) → other ≡ chart → before ≡ kept.items
    → items_at stock ≡ (λ u. items_closed (items_at before) entries u ++ new_items other u starts)
    → items_at stock ≡ (λ u. items_closed (items_at kept.items) entries u ++ new_items chart u starts)
took chart other before stock kept entries starts same is e =
    let then : Chart → Stock → ℕ → List Item = λ x s u. items_closed (items_at s) entries u ++ new_items x u starts in
    e ∙ ap₂ then same is

pub took_numbers : (chart other : Chart) (before : Stock) (kept : Kept) (starts : List StartAt) → other ≡ chart → before ≡ kept.items
    → numbered other (λ u. length (items_at before u)) starts ≡ numbered chart (λ u. length (items_at kept.items u)) starts
took_numbers chart other before kept starts same is = ap₂ (λ (x : Chart) (s : Stock). numbered x (λ u. length (items_at s u)) starts) same is

-- the items of the starts have the step's number
pub steps_made : (chart other : Chart) (before after : Stock) (kept : Kept) (entries : List Entry) (starts : List StartAt) (step : ℕ) → other ≡ chart → before ≡ kept.items
    → step ≡ kept.taken + 1 → starts ≡ starts_of chart (fired_in chart (central_of chart kept) entries) → AreStarted other step starts before after
    → AreStarted chart (kept.taken + 1) (starts_of chart (fired_in chart (central_of chart kept) entries)) kept.items after
steps_made chart other before after kept entries starts step same is number fired h =
    let due = starts_of chart (fired_in chart (central_of chart kept) entries) in
    subst (λ (x : Chart). AreStarted x (kept.taken + 1) due kept.items after) same
    (subst (λ (b : Stock). AreStarted other (kept.taken + 1) due b after) is
    (subst (λ (n : ℕ). AreStarted other n due before after) number
    (subst (λ (ss : List StartAt). AreStarted other step ss before after) fired h)))

-- what is kept shows what the step sees
pub sees : (chart : Chart) (accepted : IsAccepted chart) (kept : Kept) (entries : List Entry) (snap : StepSnapshot) (there : List Bool) → IsOf chart kept → snap.active.now ≡ kept.active
    → snap.store.now ≡ after_entries entries kept.store → snap.counts.now ≡ map (open_now chart (items_at kept.items) entries) (all_acts chart)
    → snap.dones.now ≡ map (done_now chart entries) (all_acts chart) → there ≡ map (is_there kept.raised entries) (all_events chart)
    → IsSeen chart (central_of chart kept) entries snap there
unfolding central_of
sees chart accepted kept entries snap there of active store counts dones events = record {
  configuration = bits_configuration chart (chart_of chart accepted) (bit kept.active);
  active = active ∙ of.active;
  store = store;
  counts = counts;
  dones = dones;
  events = events;
}

module _ (chart : Chart) (accepted : IsAccepted chart) where
  -- bits of a configuration make it
  made : (active : List Bool) (c : Tree) → IsConfiguration chart c → active ≡ map (λ z. is_in z c) (all_states chart) → tree_of_bits chart (bit active) ≡ c
  made active c conf rows = tree_of_same_bits chart (chart_of chart accepted) (bit active) c conf (λ z lt. row_bit (λ s. is_in s c) (length chart.states) z active rows lt)

  -- the configuration that is kept is one
  pub kept_configuration : (kept : Kept) → IsConfiguration chart (central_of chart kept).configuration
  unfolding central_of
  kept_configuration kept = bits_configuration chart (chart_of chart accepted) (bit kept.active)

  -- bits of a configuration are those of the state that keeps them
  pub keeps : (kept : Kept) (c : Tree) → IsConfiguration chart c → kept.active ≡ map (λ z. is_in z c) (all_states chart)
      → kept.active ≡ map (λ z. is_in z (central_of chart kept).configuration) (all_states chart)
  unfolding central_of
  keeps kept c conf rows = rows ∙ ap (λ (t : Tree). map (λ z. is_in z t) (all_states chart)) (sym (made kept.active c conf rows))

  -- the state before the first step
  pub first_is : (kept : Kept) → kept.active ≡ map (λ z. is_in z (default_tree chart 0)) (all_states chart) → kept.store ≡ map (λ x. x.first) chart.vars → kept.raised ≡ []
      → ((u : ℕ) → items_at kept.items u ≡ []) → kept.taken ≡ 0 → central_of chart kept ≡ first_state chart
  unfolding central_of first_state
  first_is kept rows store quiet none taken =
      let tree : tree_of_bits chart (bit kept.active) ≡ default_tree chart 0 = made kept.active (default_tree chart 0) (first_configuration chart (chart_of chart accepted)) rows in
      λ i. record { configuration = tree i; store = store i; raised = quiet i; items = λ u. none u i; taken = taken i }

  pub first_of : (kept : Kept) → kept.active ≡ map (λ z. is_in z (default_tree chart 0)) (all_states chart) → kept.store ≡ map (λ x. x.first) chart.vars → AreOf chart kept.items
      → ((u : ℕ) → items_at kept.items u ≡ []) → kept.tables ≡ tables_of chart → IsOf chart kept
  unfolding first_state
  first_of kept rows store stock none tables = record {
    active = keeps kept (default_tree chart 0) (first_configuration chart (chart_of chart accepted)) rows;
    sorts = ap (map Rattle.wf_model.specs.Seen.val_sort) store ∙ first_sorts chart accepted;
    stock = stock;
    few = λ u. omega (arith, ap length (none u));
    tables = tables;
  }

  -- the next state
  pub next_is : (kept next : Kept) (entries : List Entry) → next.active ≡ map (λ z. is_in z (next_state chart (central_of chart kept) entries).configuration) (all_states chart)
      → next.store ≡ (next_state chart (central_of chart kept) entries).store → next.raised ≡ (next_state chart (central_of chart kept) entries).raised
      → items_at next.items ≡ (next_state chart (central_of chart kept) entries).items → next.taken ≡ kept.taken + 1
      → central_of chart next ≡ next_state chart (central_of chart kept) entries
  unfolding central_of next_state
  next_is kept next entries rows store raised items taken =
      let c = central_of chart kept in
      let conf : IsConfiguration chart (next_state chart c entries).configuration = next_configuration chart (chart_of chart accepted) c entries (kept_configuration kept) in
      let tree : tree_of_bits chart (bit next.active) ≡ (next_state chart c entries).configuration = made next.active (next_state chart c entries).configuration conf rows in
      λ i. record { configuration = tree i; store = store i; raised = raised i; items = items i; taken = taken i }

  -- its items, by the starts
  pub items_made : (kept : Kept) (stock : Stock) (entries : List Entry) (starts : List StartAt) → starts ≡ starts_of chart (fired_in chart (central_of chart kept) entries)
      → items_at stock ≡ (λ u. items_closed (items_at kept.items) entries u ++ new_items chart u starts) → items_at stock ≡ (next_state chart (central_of chart kept) entries).items
  unfolding central_of next_state
  items_made kept stock entries starts made_starts e =
      let then : List StartAt → ℕ → List Item = λ l u. items_closed (central_of chart kept).items entries u ++ new_items chart u l in
      e ∙ ap then made_starts

  pub started_made : (kept : Kept) (entries : List Entry) (starts : List StartAt) → starts ≡ starts_of chart (fired_in chart (central_of chart kept) entries)
      → numbered chart (λ u. length (items_at kept.items u)) starts ≡ started_in chart (central_of chart kept) entries
  unfolding central_of started_in
  started_made kept entries starts made_starts = ap (numbered chart (λ u. length (items_at kept.items u))) made_starts

  -- there is room for its items
  pub room : (kept : Kept) (entries : List Entry) (starts : List StartAt) → IsOf chart kept → kept.taken < max_steps → starts ≡ starts_of chart (fired_in chart (central_of chart kept) entries)
      → (u : ℕ) → length (items_at kept.items u) + length starts < 2 ^ 32
  room kept entries starts of few made_starts u =
      omega (arith, of.few u, ap length made_starts, few_starts chart accepted (central_of chart kept) entries)

  -- a step starts no more items than a step can
  grown : (kept : Kept) (stock : Stock) (entries : List Entry) (starts : List StartAt) → IsOf chart kept → starts ≡ starts_of chart (fired_in chart (central_of chart kept) entries)
      → items_at stock ≡ (λ u. items_closed (items_at kept.items) entries u ++ new_items chart u starts) → (u : ℕ) → length (items_at stock u) ≤ (kept.taken + 1) * (max_transitions * max_actions)
  grown kept stock entries starts of made_starts e u =
      let here : items_at stock u ≡ items_closed (items_at kept.items) entries u ++ new_items chart u starts = λ i. e i u in
      omega (
        arith,
        ap length here,
        length-append (items_closed (items_at kept.items) entries u) (new_items chart u starts),
        closed_length (completions_at u entries) (items_at kept.items u),
        new_few chart u starts,
        ap length made_starts,
        few_starts chart accepted (central_of chart kept) entries,
        of.few u,
      )

  pub next_of : (kept next : Kept) (entries : List Entry) (starts : List StartAt) → IsOf chart kept
      → next.active ≡ map (λ z. is_in z (next_state chart (central_of chart kept) entries).configuration) (all_states chart)
      → HasSorts chart next.store → AreOf chart next.items → starts ≡ starts_of chart (fired_in chart (central_of chart kept) entries)
      → items_at next.items ≡ (λ u. items_closed (items_at kept.items) entries u ++ new_items chart u starts) → next.taken ≡ kept.taken + 1 → next.tables ≡ kept.tables → IsOf chart next
  next_of kept next entries starts of rows sorts stock made_starts items taken tables = record {
    active = keeps next (next_state chart (central_of chart kept) entries).configuration (next_configuration chart (chart_of chart accepted) (central_of chart kept) entries (kept_configuration kept)) rows;
    sorts = sorts;
    stock = stock;
    few = λ u. subst (λ (n : ℕ). length (items_at next.items u) ≤ n * (max_transitions * max_actions)) (sym taken) (grown kept next.items entries starts of made_starts items u);
    tables = tables ∙ of.tables;
  }
