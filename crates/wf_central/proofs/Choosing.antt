-- The first ready transition of each scope, found from the last transition down.
use Rattle.std.proofs.Common.{◌≡◌, ℕ, suc, ◌+◌, ◌-◌, ◌<◌, ◌≤◌, ◌==◌, ◌&&◌, cond, Bool, true, false, List, ◌∷◌, length, map, find, set, Option, Some, None, refl, sym, ◌∙◌, ap, ap₂, arith}
use Rattle.std.specs.List.{range_with_len}
use Rattle.std.specs.Option.{option_map}
use Rattle.wf_model.specs.declared.ids.TransId.{TransId}
use Rattle.wf_model.specs.declared.chart.Chart.{Chart}
use Rattle.wf_model.specs.Tree.{scope, all_states}
use Rattle.wf_model.specs.Ids.{trans_id}
use Rattle.wf_model.proofs.Rows.{row_agree, row_set, put}
use Rattle.wf_model.specs.Bits.{bit}
use Rattle.wf_scopes.proofs.DefaultIn.{flip}
use Rattle.wf_central.specs.Passes.{chosen_by}

-- the first ready transition from number t on whose scope is s
abbrev pub chosen_from : Chart → List Bool → ℕ → ℕ → Option TransId
chosen_from chart ready t s =
    option_map trans_id (find (λ u. bit ready u && (scope chart u == s)) (range_with_len t (length chart.transitions - t)))

-- one number more at the front
range_down : (t m : ℕ) → 0 < t → t ≤ m → range_with_len (t - 1) (m - (t - 1)) ≡ (t - 1) ∷ range_with_len t (m - t)
range_down t m pos le =
    let more : m - (t - 1) ≡ suc (m - t) = omega arith in
    let back : t - 1 + 1 ≡ t = omega arith in
    ap (range_with_len (t - 1)) more ∙ ap (λ a. (t - 1) ∷ range_with_len a (m - t)) back

module _ (chart : Chart) (ready : List Bool) where
  down : (t s : ℕ) → 0 < t → t ≤ length chart.transitions →
      chosen_from chart ready (t - 1) s ≡ option_map trans_id (cond (bit ready (t - 1) && (scope chart (t - 1) == s)) (Some (t - 1))
      (find (λ u. bit ready u && (scope chart u == s)) (range_with_len t (length chart.transitions - t))))
  down t s pos le = ap (λ l. option_map trans_id (find (λ u. bit ready u && (scope chart u == s)) l)) (range_down t (length chart.transitions) pos le)

  -- a transition that isn't ready changes nothing
  pub passed_over : (t : ℕ) (table : List (Option TransId)) → 0 < t → t ≤ length chart.transitions → bit ready (t - 1) ≡ false →
      table ≡ map (chosen_from chart ready t) (all_states chart) → table ≡ map (chosen_from chart ready (t - 1)) (all_states chart)
  passed_over t table pos le off rows =
      rows ∙ row_agree (chosen_from chart ready t) (chosen_from chart ready (t - 1)) (length chart.states)
      (λ s lt. sym (down t s pos le ∙ ap (λ (b : Bool). option_map trans_id (cond (b && (scope chart (t - 1) == s)) (Some (t - 1))
      (find (λ u. bit ready u && (scope chart u == s)) (range_with_len t (length chart.transitions - t))))) off))

  -- one that is ready is chosen at its scope
  pub taken_up : (t sc : ℕ) (table new : List (Option TransId)) → 0 < t → t ≤ length chart.transitions → bit ready (t - 1) ≡ true → sc ≡ scope chart (t - 1) → sc < length chart.states →
      table ≡ map (chosen_from chart ready t) (all_states chart) → new ≡ set table sc (Some (trans_id (t - 1))) → new ≡ map (chosen_from chart ready (t - 1)) (all_states chart)
  taken_up t sc table new pos le on same within rows is =
      is ∙ row_set (chosen_from chart ready t) (length chart.states) sc (Some (trans_id (t - 1))) table rows within
      ∙ row_agree (put (chosen_from chart ready t) sc (Some (trans_id (t - 1)))) (chosen_from chart ready (t - 1)) (length chart.states)
      (λ s lt. sym (down t s pos le
      ∙ ap (λ (b : Bool). option_map trans_id (cond (b && (scope chart (t - 1) == s)) (Some (t - 1))
      (find (λ u. bit ready u && (scope chart u == s)) (range_with_len t (length chart.transitions - t))))) on
      ∙ here s))
    where
      pick : (b : Bool) (o : Option ℕ) → option_map trans_id (cond b (Some (t - 1)) o) ≡ cond b (Some (trans_id (t - 1))) (option_map trans_id o)
      pick true o = refl
      pick false o = refl

      here : (s : ℕ) → option_map trans_id (cond (scope chart (t - 1) == s) (Some (t - 1)) (find (λ u. bit ready u && (scope chart u == s)) (range_with_len t (length chart.transitions - t))))
          ≡ put (chosen_from chart ready t) sc (Some (trans_id (t - 1))) s
      here s =
          pick (scope chart (t - 1) == s) (find (λ u. bit ready u && (scope chart u == s)) (range_with_len t (length chart.transitions - t)))
          ∙ ap (λ (b : Bool). cond b (Some (trans_id (t - 1))) (chosen_from chart ready t s)) (flip (scope chart (t - 1)) s ∙ ap (λ x. s == x) (sym same))

  -- at the start none is chosen
  pub none_yet : (table : List (Option TransId)) → table ≡ map (λ s. None) (all_states chart) → table ≡ map (chosen_from chart ready (length chart.transitions)) (all_states chart)
  none_yet table rows =
      let none : length chart.transitions - length chart.transitions ≡ 0 = omega arith in
      rows ∙ row_agree (λ s. None) (chosen_from chart ready (length chart.transitions)) (length chart.states)
      (λ s lt. sym (ap (λ n. option_map trans_id (find (λ u. bit ready u && (scope chart u == s)) (range_with_len (length chart.transitions) n))) none))

  -- at the end all are
  pub all_chosen : (t : ℕ) (table : List (Option TransId)) → t ≡ 0 → table ≡ map (chosen_from chart ready t) (all_states chart) → table ≡ map (chosen_by chart ready) (all_states chart)
  all_chosen t table done rows =
      let all : length chart.transitions - t ≡ length chart.transitions = omega arith in
      rows ∙ row_agree (chosen_from chart ready t) (chosen_by chart ready) (length chart.states)
      (λ s lt. ap₂ (λ a n. option_map trans_id (find (λ u. bit ready u && (scope chart u == s)) (range_with_len a n))) done all)
