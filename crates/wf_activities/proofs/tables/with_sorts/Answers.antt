use Rattle.std.proofs.Common.{◌≡◌, ℕ, take, List, Option, Some, None, [], ◌∷◌, ◌++◌, get_or, append-nil, sym, ◌∙◌, ap, arith}
use Rattle.std.specs.List.{cons_option}
use Rattle.wf_model.specs.declared.ids.VarId.{VarId}
use Rattle.wf_model.specs.declared.value.Sort.{Sort}
use Rattle.wf_activities.specs.Stock.{with_sort, with_sorts}
use Rattle.wf_activities.proofs.ChartTables.{sorts_more, sort_read}
use Rattle.wf_activities.proofs.tables.with_sorts.Goals as goal
use Rattle.wf_activities.proofs.tables.with_sorts.Goals.{in-Some+in_ok-push, in_default}

pub loop-x-preserved : goal.loop-x-preserved
loop-x-preserved c =
    let x : VarId = get_or c.args.outputs.now c.loop-x.x-index (record { 0 = 0 }) in
    let more = sorts_more c.args.chart.now c.args.outputs.now c.loop-x.x-index (record { 0 = 0 }) (omega arith) in
    let joined = λ (i : ℕ) (o : Option (VarId × Sort)). with_sorts c.args.chart.now (take i c.args.outputs.now) ++ cons_option o [] in
    elim c.match-get.branch [
      | in-Some+in_ok-push w ↦
          let pair : with_sort c.args.chart.now x ≡ Some (x, w.in-Some.var.now.sort) = sort_read c.args.chart.now x (Some w.in-Some.var.now) w.in-Some.ensures.value in
          w.pairs-is ∙ w.in_ok-push.ensures.ok ∙ ap (λ (l : List (VarId × Sort)). l ++ (x, w.in-Some.var.now.sort) ∷ []) c.loop-x.invariant ∙ sym (more ∙ ap (joined c.loop-x.x-index) pair)
      | in_default w ↦
          let no_pair : with_sort c.args.chart.now x ≡ None = sort_read c.args.chart.now x None w.in_default.ensures.value in
          w.pairs-is ∙ c.loop-x.invariant ∙ sym (more ∙ ap (joined c.loop-x.x-index) no_pair ∙ append-nil (with_sorts c.args.chart.now (take c.loop-x.x-index c.args.outputs.now)))
    ]
