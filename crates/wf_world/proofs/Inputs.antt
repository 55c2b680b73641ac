-- What a unit holds of its peers: what its next turn takes in, and what may come.
use Rattle.std.proofs.Common.{◌≡◌, ◌≢◌, ℕ, suc, ◌+◌, ◌<◌, ◌≤◌, ◌==◌, not, cond, Bool, true, false, List, [], ◌∷◌, map, filter, length, Option, Some, None, refl, sym, ap, ap₂, ◌∙◌, subst, arith, eqb-true, eq-eqb}
use Rattle.std.specs.Prelude.{slice_index_or}
use Rattle.std.specs.List.{filter_map, cons_option, range_with_len}
use Rattle.std.proofs.lemmas.Bool.{cond-true, cond-false}
use Rattle.wf_model.specs.declared.chart.Chart.{Chart}
use Rattle.wf_model.specs.declared.update.Update.{Update}
use Rattle.wf_parts.specs.Parts.{part_of}
use Rattle.wf_views.specs.OwnSteps.{part_step}
use Rattle.wf_views.specs.Relevant.{cut_update}
use Rattle.wf_histories.specs.Histories.{History, taken}
use Rattle.wf_histories.specs.Agreement.{peers}
use Rattle.wf_worlds.specs.Worlds.{Turns, letter, IsMade, MayStand}
use Rattle.wf_slot.specs.Units.{UnitState}
use Rattle.wf_world.specs.Sounds.{unit_at, hist_of, IsSound}

-- WHAT CAME, IN UNIT ORDER

-- one of each unit but u
abbrev wanted : (ℕ → Update) → ℕ → ℕ → Option Update
wanted g u v = cond (v == u) None (Some (g v))

one_more : (g : ℕ → Update) (k : ℕ) (vs : List ℕ) (b : Bool) → cons_option (cond b None (Some (g k))) (map g vs) ≡ map g (cond (not b) (k ∷ vs) vs)
one_more g k vs true = refl
one_more g k vs false = refl

inputs_from : (g : ℕ → Update) (u k : ℕ) (slots : List (Option Update)) → ((v : ℕ) → v < length slots → slice_index_or slots v None ≡ wanted g u (k + v)) →
    filter_map (λ slot. slot) slots ≡ map g (filter (λ v. not (v == u)) (range_with_len k (length slots)))
inputs_from g u k [] each = refl
inputs_from g u k (slot ∷ slots) each =
    let zero_off : k + 0 ≡ k = omega arith in
    let here : slot ≡ wanted g u k = each 0 (omega arith) ∙ ap (wanted g u) zero_off in
    let rest = inputs_from g u (k + 1) slots (λ v lt. let off : k + suc v ≡ (k + 1) + v = omega arith in each (suc v) (omega (arith, lt)) ∙ ap (wanted g u) off) in
    ap₂ (λ (o : Option Update) (updates : List Update). cons_option o updates) here rest
    ∙ one_more g k (filter (λ v. not (v == u)) (range_with_len (k + 1) (length slots))) (k == u)

-- A TURN MAY STAND where an update of each peer came, each as its sender made it
module _ (chart : Chart) (units : List UnitState) (s : IsSound chart units) (u : ℕ) (lt : u < length chart.units) (slots : List (Option Update))
    (size : length slots ≡ length chart.units)
    (own : slice_index_or slots u None ≡ None)
    (came : (v : ℕ) → v < length chart.units → v ≢ u → (update : Update) × (slice_index_or slots v None ≡ Some update))
    (made : (v : ℕ) (update : Update) → v < length chart.units → slice_index_or slots v None ≡ Some update → IsMade chart (hist_of units) v u (suc (taken (hist_of units u))) update) where
  abbrev h : ℕ → History
  h = hist_of units

  abbrev due : ℕ → Update
  due v = letter chart h v u (suc (taken (h u)))

  differs : (v : ℕ) → (v == u) ≡ false → v ≢ u
  differs v e same = let yes : (v == u) ≡ true = eq-eqb v u same in cc

  slot_is : (v : ℕ) → v < length chart.units → (b : Bool) → (v == u) ≡ b → slice_index_or slots v None ≡ wanted due u v
  slot_is v lv true e = ap (λ (w : ℕ). slice_index_or slots w None) (eqb-true v u e) ∙ own ∙ sym (cond-true (v == u) None (Some (due v)) e)
  slot_is v lv false e =
      let it = came v lv (differs v e) in
      it.1 ∙ ap (λ (x : Update). Some x) (made v it.0 lv it.1).1 ∙ sym (cond-false (v == u) None (Some (due v)) e)

  inputs_are : filter_map (λ slot. slot) slots ≡ map due (peers (length chart.units) u)
  inputs_are =
      inputs_from due u 0 slots (λ v lv. let off : v ≡ 0 + v = omega arith in slot_is v (omega (arith, lv, size)) (v == u) refl ∙ ap (wanted due u) off)
      ∙ ap (λ (n : ℕ). map due (peers n u)) size

  not_behind : (v : ℕ) → v < length chart.units → (b : Bool) → (v == u) ≡ b → taken (h u) ≤ taken (h v)
  not_behind v lv true e = let same : u ≡ v = sym (eqb-true v u e) in subst (λ (w : ℕ). taken (h u) ≤ taken (h w)) same (omega arith)
  not_behind v lv false e = let it = came v lv (differs v e) in let near = (made v it.0 lv it.1).0 in omega (arith, near)

  pub may_turn : MayStand chart (hist_of units) u (Turns (filter_map (λ slot. slot) slots))
  may_turn = (inputs_are, λ v lv. not_behind v lv (v == u) refl)

-- WHAT COMES

-- a letter tells its sender and its step

pub letter_from : (chart : Chart) (h : ℕ → History) (v u j : ℕ) → (letter chart h v u (suc j)).from.0 ≡ v
unfolding part_of part_step cut_update
letter_from chart h v u j = refl

pub letter_step : (chart : Chart) (h : ℕ → History) (v u j : ℕ) → (letter chart h v u (suc j)).step ≡ suc j
unfolding part_of part_step cut_update
letter_step chart h v u j = refl

-- it is of one of the next two steps at most
pub not_too_far : (chart : Chart) (units : List UnitState) (u v j : ℕ) (update : Update) → IsSound chart units → u < length chart.units → v < length chart.units → IsMade chart (hist_of units) v u j update →
    j ≤ taken (hist_of units u) + 2
not_too_far chart units u v j update s lu lv made = let near = s.agree.made v u lv lu in omega (arith, near, made.0)

-- and what is held of its sender and step is the same
pub no_clash : (chart : Chart) (units : List UnitState) (u v j : ℕ) (update other : Update) → IsSound chart units → u < length chart.units → v < length chart.units → IsMade chart (hist_of units) v u j update →
    (unit_at units u).held v j ≡ Some other → other ≡ update
no_clash chart units u v j update other s lu lv made there = (s.held u v j other lu lv there).1 ∙ sym made.1
