-- How many items of an activity are open once entries have closed theirs.
use Rattle.std.proofs.Common.{◌≡◌, ℕ, ◌+◌, ◌<◌, ◌≤◌, List, length, map, get_or, Option, Some, sym, ◌∙◌, ap, arith}
use Rattle.std.specs.List.{slice_get, range_with_len}
use Rattle.std.specs.Option.{option_map_or, option_map}
use Rattle.std.proofs.lemmas.Option.{slice_get-get_or}
use Rattle.std.proofs.lemmas.Grind.{get_or_default_zero}
use Rattle.wf_model.specs.declared.chart.Activity.{Activity}
use Rattle.wf_model.specs.declared.chart.Chart.{Chart}
use Rattle.wf_model.specs.declared.outer.Entry.{Entry}
use Rattle.wf_semantics.specs.Items.{open_count, close_all, done_count}
use Rattle.wf_semantics.specs.Run.{act_unit, completions_at, open_now}
use Rattle.wf_activities.specs.UnitItems.{UnitItems}
use Rattle.wf_activities.specs.Completed.{done_by, CompleteInTurn}
use Rattle.wf_activities.specs.Stock.{items_in}
use Rattle.wf_activities.proofs.Rows.{row_at, row_len}
use Rattle.wf_activities.proofs.Admitting.{get_within}
use Rattle.wf_activities.proofs.Turns.{turn_counts}

-- what is read of an activity in a list
pub act_read : (chart : Chart) (acts : List Activity) (a : ℕ) (act : Activity) → acts ≡ chart.acts → a < length acts → act ≡ get_or acts a act → slice_get chart.acts a ≡ Some act
act_read chart acts a act e lt is = ap (λ (l : List Activity). slice_get l a) (sym e) ∙ slice_get-get_or acts a act lt ∙ ap Some (sym is)

unit_read : (chart : Chart) (a : ℕ) (act : Activity) → slice_get chart.acts a ≡ Some act → act_unit chart a ≡ Some act.unit.0
unit_read chart a act e = ap (option_map (λ (x : Activity). x.unit.0)) e

-- what the table says of an activity
pub done_read : (chart : Chart) (entries : List Entry) (counts : List ℕ) → counts ≡ map (done_by chart entries) (range_with_len 0 (length chart.acts)) → (a : ℕ) (act : Activity) → slice_get chart.acts a ≡ Some act
    → (n : ℕ) → n ≡ get_or counts a n → n ≡ done_count a (completions_at act.unit.0 entries)
done_read chart entries counts made a act e n is =
    let lt : a < length chart.acts = get_within chart.acts a act e in
    is
    ∙ get_or_default_zero counts a n (omega (arith, lt, row_len (done_by chart entries) (length chart.acts) counts made))
    ∙ row_at (done_by chart entries) (length chart.acts) a 0 counts made lt
    ∙ ap (λ (o : Option ℕ). option_map_or (λ u. done_count a (completions_at u entries)) o 0) (unit_read chart a act e)

module _ (chart : Chart) (units : List UnitItems) (entries : List Entry) (turn : CompleteInTurn (items_in units) entries) (a : ℕ) (act : Activity) (there : slice_get chart.acts a ≡ Some act)
    (n : ℕ) (done : n ≡ done_count a (completions_at act.unit.0 entries)) where
  counted : open_count a (close_all (completions_at act.unit.0 entries) (items_in units act.unit.0)) + done_count a (completions_at act.unit.0 entries) ≡ open_count a (items_in units act.unit.0)
  counted = turn_counts a (completions_at act.unit.0 entries) (items_in units act.unit.0) (turn act.unit.0)

  -- no more are completed than are open
  pub few_done : n ≤ open_count a (items_in units act.unit.0)
  few_done = omega (arith, counted, done)

  pub open_made : (m : ℕ) → m + n ≡ open_count a (items_in units act.unit.0) → m ≡ open_now chart (items_in units) entries a
  open_made m e =
      let left : m ≡ open_count a (close_all (completions_at act.unit.0 entries) (items_in units act.unit.0)) = omega (arith, counted, done, e) in
      left ∙ ap (λ (o : Option ℕ). option_map_or (λ u. open_count a (close_all (completions_at u entries) (items_in units u))) o 0) (sym (unit_read chart a act there))
