-- The tables of a chart, as they are made.
use Rattle.std.proofs.Common.{◌≡◌, ℕ, ◌+◌, ◌<◌, ◌≤◌, List, [], ◌∷◌, ◌++◌, length, replicate, take, get_or, Option, Some, None, refl, sym, ◌∙◌, ap}
use Rattle.std.specs.List.{slice_get, cons_option}
use Rattle.std.specs.Option.{option_map}
use Rattle.std.proofs.lemmas.List.{take_more, length-replicate}
use Rattle.wf_model.specs.Limits.{max_units, max_acts}
use Rattle.wf_model.specs.declared.ids.VarId.{VarId}
use Rattle.wf_model.specs.declared.value.Sort.{Sort}
use Rattle.wf_model.specs.declared.chart.Variable.{Variable}
use Rattle.wf_model.specs.declared.chart.Chart.{Chart}
use Rattle.wf_model.specs.Accepted.{IsAccepted}
use Rattle.wf_model.proofs.Few.{few_units, few_acts}
use Rattle.wf_semantics.specs.Items.{Item}
use Rattle.wf_activities.specs.Stock.{Stock, AreOf, items_at, steps_at, with_sort, with_sorts, wanted_of}
use Rattle.wf_activities.proofs.Rows.{get_replicate}

-- an accepted chart has few units and activities
pub few : (chart : Chart) → IsAccepted chart → (length chart.units ≤ max_units) × (length chart.acts ≤ max_acts)
few chart ok = (few_units chart ok, few_acts chart ok)

sorts_append : (chart : Chart) (xs ys : List VarId) → with_sorts chart (xs ++ ys) ≡ with_sorts chart xs ++ with_sorts chart ys
sorts_append chart [] ys = refl
sorts_append chart (x ∷ xs) ys = go (with_sort chart x) (sorts_append chart xs ys)
  where
    go : (o : Option (VarId × Sort)) → with_sorts chart (xs ++ ys) ≡ with_sorts chart xs ++ with_sorts chart ys → cons_option o (with_sorts chart (xs ++ ys)) ≡ cons_option o (with_sorts chart xs) ++ with_sorts chart ys
    go None e = e
    go (Some p) e = ap (λ (l : List (VarId × Sort)). p ∷ l) e

-- one variable more
pub sorts_more : (chart : Chart) (xs : List VarId) (i : ℕ) (d : VarId) → i < length xs → with_sorts chart (take (i + 1) xs) ≡ with_sorts chart (take i xs) ++ cons_option (with_sort chart (get_or xs i d)) []
sorts_more chart xs i d lt = ap (with_sorts chart) (take_more xs i d lt) ∙ sorts_append chart (take i xs) (get_or xs i d ∷ [])

pub sort_read : (chart : Chart) (x : VarId) (o : Option Variable) → o ≡ slice_get chart.vars x.0 → with_sort chart x ≡ option_map {U = VarId × Sort} (λ (v : Variable). (x, v.sort)) o
sort_read chart x o e = ap (λ (p : Option Variable). option_map {U = VarId × Sort} (λ (s : Sort). (x, s)) (option_map (λ (v : Variable). v.sort) p)) (sym e) ∙ twice o
  where
    twice : (o : Option Variable) → option_map {U = VarId × Sort} (λ (s : Sort). (x, s)) (option_map (λ (v : Variable). v.sort) o) ≡ option_map {U = VarId × Sort} (λ (v : Variable). (x, v.sort)) o
    twice None = refl
    twice (Some v) = refl

-- what is made for a chart, with no item
pub made_of : (chart : Chart) (stock : Stock) → stock.items ≡ replicate (length chart.units) [] → stock.wanted ≡ wanted_of chart → AreOf chart stock
made_of chart stock items wanted = record { units = ap length items ∙ length-replicate (length chart.units) []; wanted = wanted }

pub no_items_at : (stock : Stock) (n : ℕ) → stock.items ≡ replicate n [] → (u : ℕ) → items_at stock u ≡ []
no_items_at stock n e u = ap (λ (l : List (List Item)). get_or l u []) e ∙ get_replicate [] n u

pub no_steps_at : (stock : Stock) (n : ℕ) → stock.steps ≡ replicate n [] → (u : ℕ) → steps_at stock u ≡ []
no_steps_at stock n e u = ap (λ (l : List (List ℕ)). get_or l u []) e ∙ get_replicate [] n u
