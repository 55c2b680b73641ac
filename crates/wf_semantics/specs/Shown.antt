-- What a snapshot of a chart shows, and what a store of a chart holds.
use Rattle.std.specs.Prelude.{◌≡◌, ◌<◌, ℕ, List, length, map, IsSome}
use Rattle.wf_model.specs.declared.value.Val.{Val}
use Rattle.wf_model.specs.declared.chart.Chart.{Chart}
use Rattle.wf_model.specs.Seen.{Seen, val_sort, var_sorts}
use Rattle.wf_model.specs.Sorts.{var_sort}

-- the snapshot has each state, variable and activity of the chart, and each variable's value has its sort
pub record Shows (chart : Chart) (seen : Seen) : Type 0 where
  pub states : (s : ℕ) → s < length chart.states → IsSome (seen.state s)
  pub vars : (x : ℕ) → var_sorts seen x ≡ var_sort chart x
  pub counts : (a : ℕ) → a < length chart.acts → IsSome (seen.count a)
  pub dones : (a : ℕ) → a < length chart.acts → IsSome (seen.done a)

-- the store has one value for each variable, of its sort
abbrev pub HasSorts : Chart → List Val → Type 0
HasSorts chart store = map val_sort store ≡ map (λ x. x.sort) chart.vars
