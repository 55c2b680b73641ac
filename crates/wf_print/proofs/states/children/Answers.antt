use Rattle.std.proofs.Common.{◌≡◌, ◌∙◌, ◌++◌, ◌∷◌, [], length, sym, ap, get_or, set, arith, List, ℕ}
use Rattle.wf_print.proofs.Gathered.{gathered, gathered_all, gathered_root, gathered_child}
use Rattle.wf_print.proofs.states.children.Goals as goal
use Rattle.wf_print.proofs.states.children.Goals.{in-Some+in_ok-add_child, in_default}

pub loop-s-preserved : goal.loop-s-preserved
loop-s-preserved c = elim c.match-parent_of.branch [
  | in-Some+in_ok-add_child w ↦ rw w.table-is
      (w.in_ok-add_child.ensures
      ∙ ap (λ (rows : List (List ℕ)). set rows w.in-Some.parent (get_or rows w.in-Some.parent [] ++ c.loop-s.s ∷ [])) c.loop-s.invariant
      ∙ gathered_child c.args.chart.now c.loop-s.s w.in-Some.parent (sym w.in-Some.ensures))
  | in_default w ↦ rw w.table-is (c.loop-s.invariant ∙ gathered_root c.args.chart.now c.loop-s.s (sym w.in_default.ensures))
]

pub returns : goal.returns
returns c =
    let all : c.loop-s.s ≡ length c.args.chart.now.states = omega (arith, c.loop-s-test.false, c.loop-s.auto.s-end, c.len-s-end.ensures) in
    c.from_vec.ensures ∙ c.loop-s.invariant ∙ ap (gathered c.args.chart.now) all ∙ gathered_all c.args.chart.now
