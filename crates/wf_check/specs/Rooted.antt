-- The shape: the root, the depth, and which states have children.
use Rattle.std.specs.Prelude.{ℕ, nat_lt, [], ◌∷◌, length, Option}
use Rattle.std.specs.Option.{option_map}
use Rattle.wf_model.specs.Limits.{max_depth}
use Rattle.wf_model.specs.declared.chart.Chart.{Chart}
use Rattle.wf_model.specs.declared.chart.Kind.{Kind}
use Rattle.wf_model.specs.declared.chart.Kind.TheVariants.{Basic, Or, And}
use Rattle.wf_model.specs.declared.ids.StateId.{StateId}
use Rattle.wf_model.specs.Tree.{kind, is_or, ancestors}
use Rattle.wf_model.specs.Accepted.{has_child, suits}
use Rattle.wf_model.specs.Ids.{state_id}
use Rattle.wf_check.specs.declared.fault.CheckFault.{CheckFault}
use Rattle.wf_check.specs.declared.fault.CheckFault.TheVariants.{NoRoot, RootNotOr, TooDeep, EmptyOr, EmptyAnd, BasicWithChildren}
use Rattle.wf_check.specs.Firsts.{first_failing_numbered, unless, first_some}

-- the first state that is too deep
abbrev pub deep_state : Chart → Option ℕ
deep_state c = first_failing_numbered (λ s state. nat_lt (length (ancestors c s)) max_depth) c.states

-- the first state whose kind doesn't suit its having children, or having none
abbrev pub unfit_state : Chart → Option ℕ
unfit_state c = first_failing_numbered (λ s state. suits state.kind (has_child c s)) c.states

-- the fault of an unfit state of this kind
abbrev pub kind_fault : Kind → StateId → CheckFault
kind_fault Basic s = BasicWithChildren s
kind_fault Or s = EmptyOr s
kind_fault And s = EmptyAnd s

unfoldable pub shape_fault : Chart → Option CheckFault
shape_fault c =
    first_some
    (unless (nat_lt 0 (length c.states)) NoRoot
    ∷ unless (is_or (kind c 0)) RootNotOr
    ∷ option_map (λ s. TooDeep (state_id s)) (deep_state c)
    ∷ option_map (λ s. kind_fault (kind c s) (state_id s)) (unfit_state c)
    ∷ [])
