-- The values of a chart's variables, one by one.
use Rattle.std.proofs.Common.{◌≡◌, ℕ, zero, suc, ◌+◌, List, [], ◌∷◌, ◌++◌, Option, Some, is_some, unwrap_or, true≢false, length, map, take, slice_get, sym, ◌∙◌, ap, arith}
use Rattle.std.specs.List.{enumerate_from}
use Rattle.std.proofs.lemmas.List.{take_all, length-map}
use Rattle.wf_model.specs.declared.value.Val.{Val}
use Rattle.wf_model.specs.declared.chart.Chart.{Chart}
use Rattle.wf_model.specs.declared.chart.Variable.{Variable}
use Rattle.wf_model.specs.declared.outer.Output.{Output}
use Rattle.wf_model.specs.Seen.{val_sort}
use Rattle.wf_semantics.specs.Shown.{HasSorts}
use Rattle.wf_audit.specs.CentralText.{output}

-- the outputs of these values, where they are the variables from this one on
abbrev pub outputs_from : ℕ → List Val → List Output
outputs_from at store = map output (enumerate_from at store)

outputs_from-more : (at : ℕ) (store : List Val) (x : ℕ) (val : Val) → slice_get store x ≡ Some val
    → outputs_from at (take (suc x) store) ≡ outputs_from at (take x store) ++ output (at + x, val) ∷ []
outputs_from-more at [] zero val is = absurd (true≢false (sym (ap (λ (o : Option Val). is_some o) is)))
outputs_from-more at [] (suc x) val is = absurd (true≢false (sym (ap (λ (o : Option Val). is_some o) is)))
outputs_from-more at (v ∷ store) zero val is =
    let here : at ≡ at + zero = omega arith in
    let same : v ≡ val = ap (λ (o : Option Val). unwrap_or o val) is in
    λ i. output (here i, same i) ∷ []
outputs_from-more at (v ∷ store) (suc x) val is =
    let next : (at + 1) + x ≡ at + suc x = omega arith in
    ap (λ (l : List Output). output (at, v) ∷ l) (outputs_from-more (at + 1) store x val is ∙ ap (λ n. outputs_from (at + 1) (take x store) ++ output (n, val) ∷ []) next)

pub outputs_more : (store : List Val) (x : ℕ) (val : Val) → slice_get store x ≡ Some val
    → outputs_from 0 (take (x + 1) store) ≡ outputs_from 0 (take x store) ++ output (x, val) ∷ []
outputs_more store x val is =
    let one : x + 1 ≡ suc x = omega arith in
    let here : 0 + x ≡ x = omega arith in
    ap (λ n. outputs_from 0 (take n store)) one ∙ outputs_from-more 0 store x val is ∙ ap (λ n. outputs_from 0 (take x store) ++ output (n, val) ∷ []) here

-- each variable has a value
pub store_whole : (chart : Chart) (store : List Val) → HasSorts chart store → take (length chart.vars) store ≡ store
store_whole chart store sorts =
    let sort = λ (x : Variable). x.sort in
    let values : length store ≡ length chart.vars = sym (length-map store val_sort) ∙ ap length sorts ∙ length-map chart.vars sort in
    take_all (length chart.vars) store (omega (arith, values))
