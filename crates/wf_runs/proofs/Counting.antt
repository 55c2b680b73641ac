-- The count that a step sees, by the numbers of items.
use Rattle.std.proofs.Common.{◌≡◌, ℕ, suc, ◌+◌, ◌==◌, ◌&&◌, ◌||◌, not, cond, Bool, true, false, List, [], ◌∷◌, Option, Some, None, length, filter, refl, sym, ◌∙◌, ap, ap₂, arith}
use Rattle.std.specs.List.{slice_get, range_with_len}
use Rattle.std.specs.Option.{option_map, option_map_or}
use Rattle.std.proofs.lemmas.List.{length-map}
use Rattle.std.proofs.lemmas.Option.{slice_get-map}
use Rattle.wf_model.specs.declared.ids.ActId.{ActId}
use Rattle.wf_model.specs.declared.chart.Chart.{Chart}
use Rattle.wf_model.specs.declared.outer.Entry.{Entry}
use Rattle.wf_semantics.specs.Items.{Item, open_count}
use Rattle.wf_semantics.specs.Run.{central_run, act_unit, items_closed, completions_at, snapshot_of}
use Rattle.wf_semantics.specs.Admission.{is_closed, is_pending, may_come}
use Rattle.wf_activities.proofs.LawsHold.{counts_open_items}
use Rattle.wf_runs.specs.Runs.{IsRun}
use Rattle.wf_runs.specs.Starts.{StartIn, all_starts, start_at, is_start_of}
use Rattle.wf_runs.specs.Completions.{is_completed, open_numbers}
use Rattle.wf_runs.proofs.Completed.{closed_by_entries, closed_is_completed}
use Rattle.wf_runs.proofs.Numbers.{acts, acts_started, closing_keeps_acts, acts_of_run}

-- items that pass are as many as the numbers that do
count_by_number : (p : Item → Bool) (q : ℕ → Bool) (k : ℕ) (items : List Item) → ((i : ℕ) (x : Item) → slice_get items i ≡ Some x → p x ≡ q (k + i)) →
    length (filter p items) ≡ length (filter q (range_with_len k (length items)))
count_by_number p q k [] h = refl
count_by_number p q k (x ∷ xs) h =
    let first : k + 0 ≡ k = omega arith in
    ap (λ (b : Bool). length (cond b (x ∷ filter p xs) (filter p xs))) (h 0 x refl ∙ ap q first)
    ∙ go (q k) (count_by_number p q (k + 1) xs (λ i y e. let later : k + suc i ≡ (k + 1) + i = omega arith in h (suc i) y e ∙ ap q later))
  where
    go : (b : Bool) → length (filter p xs) ≡ length (filter q (range_with_len (k + 1) (length xs))) →
        length (cond b (x ∷ filter p xs) (filter p xs)) ≡ length (cond b (k ∷ filter q (range_with_len (k + 1) (length xs))) (filter q (range_with_len (k + 1) (length xs))))
    go true e = omega (arith, e)
    go false e = e

start_of : (a : ℕ) (o : Option StartIn) → option_map_or (λ (b : ActId). b.0 == a) (option_map (λ s. s.start.act) o) false ≡ is_start_of a o
start_of a None = refl
start_of a (Some s) = refl

module _ (chart : Chart) (steps : List (List Entry)) (entries : List Entry) (run : IsRun chart steps) (come : may_come chart (central_run chart steps).items entries ≡ true) (a : ℕ) where
  module _ (u : ℕ) where
    now : List Item
    now = items_closed (central_run chart steps).items entries u

    now_acts : acts (items_closed (central_run chart steps).items entries u) ≡ acts_started (all_starts chart u steps)
    now_acts = closing_keeps_acts (completions_at u entries) ((central_run chart steps).items u) ∙ acts_of_run chart u steps

    abbrev is_open_number : ℕ → Bool
    is_open_number n = is_start_of a (start_at (all_starts chart u steps) n) && not (is_completed steps u n || is_pending entries u n)

    open_by_number : (i : ℕ) (x : Item) → slice_get (items_closed (central_run chart steps).items entries u) i ≡ Some x → ((x.act.0 == a) && not x.closed) ≡ is_open_number (suc i)
    open_by_number i x e =
        let act : Some x.act ≡ option_map (λ s. s.start.act) (slice_get (all_starts chart u steps) i) =
        sym (ap (option_map (λ (y : Item). y.act)) e)
        ∙ sym (slice_get-map (λ (y : Item). y.act) (items_closed (central_run chart steps).items entries u) i)
        ∙ ap (λ (l : List ActId). slice_get l i) now_acts
        ∙ slice_get-map (λ (s : StartIn). s.start.act) (all_starts chart u steps) i in
        let own : (x.act.0 == a) ≡ is_start_of a (slice_get (all_starts chart u steps) i) =
        ap (λ (o : Option ActId). option_map_or (λ (b : ActId). b.0 == a) o false) act ∙ start_of a (slice_get (all_starts chart u steps) i) in
        let done : x.closed ≡ (is_completed steps u (suc i) || is_pending entries u (suc i)) =
        sym (ap is_closed e)
        ∙ closed_by_entries chart (central_run chart steps) entries u (suc i) come
        ∙ ap (λ (b : Bool). b || is_pending entries u (suc i)) (closed_is_completed chart steps u (suc i) run) in
        ap₂ (λ (b d : Bool). b && not d) own done

    open_items : open_count a (items_closed (central_run chart steps).items entries u) ≡ length (open_numbers chart steps entries a u)
    open_items =
        let many : length (items_closed (central_run chart steps).items entries u) ≡ length (all_starts chart u steps) =
        sym (length-map (items_closed (central_run chart steps).items entries u) (λ x. x.act)) ∙ ap length now_acts ∙ length-map (all_starts chart u steps) (λ s. s.start.act) in
        counts_open_items a (items_closed (central_run chart steps).items entries u)
        ∙ count_by_number (λ x. (x.act.0 == a) && not x.closed) is_open_number 1 (items_closed (central_run chart steps).items entries u)
        (λ i x e. let number : suc i ≡ 1 + i = omega arith in open_by_number i x e ∙ ap is_open_number number)
        ∙ ap (λ (k : ℕ). length (filter is_open_number (range_with_len 1 k))) many

  pub counts_open : (snapshot_of chart (central_run chart steps) entries).seen.count a ≡ Some (option_map_or (λ u. length (open_numbers chart steps entries a u)) (act_unit chart a) 0)
  unfolding snapshot_of
  counts_open = ap Some (go (act_unit chart a))
    where
      go : (o : Option ℕ) → option_map_or (λ u. open_count a (items_closed (central_run chart steps).items entries u)) o 0 ≡ option_map_or (λ u. length (open_numbers chart steps entries a u)) o 0
      go None = refl
      go (Some u) = open_items u
