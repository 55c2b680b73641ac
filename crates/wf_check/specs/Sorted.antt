-- Sorts, outputs, and where transitions go.
use Rattle.std.specs.Prelude.{ℕ, nat_lt, [], ◌∷◌, Option}
use Rattle.std.specs.Option.{option_map}
use Rattle.wf_model.specs.declared.chart.Chart.{Chart}
use Rattle.wf_model.specs.declared.chart.Transition.{Transition}
use Rattle.wf_model.specs.declared.value.Sort.TheVariants as sorts
use Rattle.wf_model.specs.Seen.{val_sort}
use Rattle.wf_model.specs.Sorts.{alike}
use Rattle.wf_model.specs.Accepted.{all_of, has_sort, are_outputs, is_sorted_action}
use Rattle.wf_model.specs.Ids.{var_id, act_id, trans_id}
use Rattle.wf_check.specs.declared.fault.CheckFault.{CheckFault}
use Rattle.wf_check.specs.declared.fault.CheckFault.TheVariants.{BadType, BadOutput, SourceRoot, TargetRoot}
use Rattle.wf_check.specs.declared.fault.TypePlace.TheVariants as place
use Rattle.wf_check.specs.Firsts.{first_failing, unless, first_some, first_from}

-- the first variable whose first value is of another sort
abbrev pub unlike_var : Chart → Option ℕ
unlike_var c = first_failing (λ x. alike (val_sort x.first) x.sort) c.vars

-- the first activity that has a variable twice among its outputs
abbrev pub double_output : Chart → Option ℕ
double_output c = first_failing are_outputs c.acts

-- the first action that assigns a value of another sort
abbrev pub unlike_action : Chart → Transition → Option ℕ
unlike_action c t = first_failing (is_sorted_action c) t.actions

-- the first rule that transition t breaks
unfoldable pub transition_fault : Chart → ℕ → Transition → Option CheckFault
transition_fault c t trans =
    first_some
    (unless (nat_lt 0 trans.source.0) (SourceRoot (trans_id t))
    ∷ unless (nat_lt 0 trans.target.0) (TargetRoot (trans_id t))
    ∷ unless (all_of (λ guard. has_sort c guard sorts.Bool) trans.guard) (BadType (place.Guard (trans_id t)))
    ∷ option_map (λ n. BadType (place.Act (trans_id t) n)) (unlike_action c trans)
    ∷ [])

-- first values, then outputs, then transition by transition
unfoldable pub sort_fault : Chart → Option CheckFault
sort_fault c =
    first_some
    (option_map (λ x. BadType (place.Var (var_id x))) (unlike_var c)
    ∷ option_map (λ a. BadOutput (act_id a)) (double_output c)
    ∷ first_from (transition_fault c) 0 c.transitions
    ∷ [])
