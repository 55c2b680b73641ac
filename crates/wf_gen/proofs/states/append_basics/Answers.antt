use Rattle.std.proofs.Common.{◌∙◌, ◌++◌, ◌∷◌, [], List, map, sym, ap, ap₂, append_assoc, arith}
use Rattle.std.specs.List.{range_with_len}
use Rattle.std.proofs.lemmas.List.FromFn.{map-range_with_len_more}
use Rattle.wf_model.specs.declared.chart.State.{State}
use Rattle.wf_gen.specs.GenChart.{basic_state}
use Rattle.wf_gen.proofs.states.append_basics.Goals as goal

pub loop-j-preserved : goal.loop-j-preserved
loop-j-preserved c =
    c.in_ok-push.ensures.ok ∙ ap₂ (λ (l : List State) (x : State). l ++ x ∷ []) c.loop-j.invariant c.in_ok-basic_state.ensures
    ∙ append_assoc c.args.states.now (map (basic_state c.args.r) (range_with_len 0 c.loop-j.j)) (basic_state c.args.r c.loop-j.j ∷ [])
    ∙ ap (λ (l : List State). c.args.states.now ++ l) (sym (map-range_with_len_more (basic_state c.args.r) 0 c.loop-j.j c.loop-j.j (omega arith)))
