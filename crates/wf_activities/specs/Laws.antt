-- Of the laws. How items read by number, what is counted, and the admission rule.
use Rattle.std.specs.Prelude.{ℕ, ◌≡◌, ◌==◌, ◌&&◌, ◌++◌, ◌≤◌, not, true, List, [], ◌∷◌, Some, length, map, filter, slice_get, if◌then◌else◌}
use Rattle.std.specs.Option.{option_map}
use Rattle.wf_model.specs.declared.ids.ActId.{ActId}
use Rattle.wf_model.specs.declared.ids.VarId.{VarId}
use Rattle.wf_model.specs.declared.value.Sort.{Sort}
use Rattle.wf_model.specs.declared.chart.Activity.{Activity}
use Rattle.wf_model.specs.declared.chart.Chart.{Chart}
use Rattle.wf_model.specs.declared.outer.Output.{Output}
use Rattle.wf_model.specs.declared.outer.Outer.TheVariants.{Complete}
use Rattle.wf_model.specs.declared.outer.Entry.{Entry}
use Rattle.wf_model.specs.declared.update.StartAt.{StartAt}
use Rattle.wf_model.specs.Sorts.{var_sort}
use Rattle.wf_semantics.specs.Items.{Item, new_item, item_at, open_count, close}
use Rattle.wf_semantics.specs.Run.{new_items}
use Rattle.wf_semantics.specs.Admission.{is_act_at, is_closed, is_pending, may_be_admitted}
use Rattle.wf_activities.specs.UnitItems.{is_listed, listed}
use Rattle.wf_activities.specs.Completing.{may_complete, unless_pending}

abbrev pub closed_item : Item → Item
closed_item x = record x { closed = true }

-- closing an item closes that one and leaves all others
abbrev pub ClosesOne : Type 0
ClosesOne =
    (items : List Item) (m n : ℕ) →
    item_at (close m items) n ≡ (if n == m then option_map closed_item (item_at items n) else item_at items n)

-- an item keeps its number where more are started
abbrev pub KeepsNumbers : Type 0
KeepsNumbers = (items more : List Item) (n : ℕ) → n ≤ length items → item_at (items ++ more) n ≡ item_at items n

-- a closed item stays closed where others are closed or started
abbrev pub ClosedStaysClosed : Type 0
ClosedStaysClosed =
    (items more : List Item) (m n : ℕ) → is_closed (item_at items n) ≡ true →
    (is_closed (item_at (close m items) n) ≡ true) × (is_closed (item_at (items ++ more) n) ≡ true)

-- the count of an activity is how many of its items were started and not closed
abbrev pub CountsOpenItems : Type 0
CountsOpenItems =
    (a : ℕ) (items : List Item) → open_count a items ≡ length (filter (λ x. (x.act.0 == a) && not x.closed) items)

-- these are the variables, each with its sort
abbrev pub HaveSorts : Chart → List VarId → List (VarId × Sort) → Type 0
HaveSorts chart [] [] = Unit {0}
HaveSorts chart [] (w ∷ ws) = ⊥
HaveSorts chart (x ∷ xs) [] = ⊥
HaveSorts chart (x ∷ xs) (w ∷ ws) = (w.0.0 ≡ x.0) × (var_sort chart x.0 ≡ Some w.1) × HaveSorts chart xs ws

-- a completion is admitted at its unit where the item may be completed and isn't pending, and else refused for the reason that the item's
-- answer and the pending entries give
abbrev pub CompletesByAdmission : Type 0
CompletesByAdmission =
    (chart : Chart) (items : ℕ → List Item) (pending : List Entry) (u n : ℕ) (a : ActId) (outputs : List Output) (act : Activity) (wanted : List (VarId × Sort)) →
    is_act_at chart u a.0 ≡ true → slice_get chart.acts a.0 ≡ Some act → HaveSorts chart act.outputs wanted →
    may_be_admitted chart items pending u (Complete n a outputs) ≡ unless_pending (may_complete (items u) n a outputs wanted) (is_pending pending u n)

-- where the listed activities are those of the unit, the starts of a step make the items that the step's rule says
abbrev pub GrowsByStep : Type 0
GrowsByStep =
    (chart : Chart) (u : ℕ) (acts : List ActId) (starts : List StartAt) →
    ((a : ℕ) → is_listed acts a ≡ is_act_at chart u a) →
    map (λ s. new_item s.act) (listed acts starts) ≡ new_items chart u starts
