-- The generated text is read.
use Rattle.std.proofs.Common.{◌≡◌, ℕ, true, List, ◌++◌, refl, sym, ap, ◌∙◌, subst, append_assoc}
use Rattle.std.specs.List.{list_all}
use Rattle.wf_model.specs.declared.chart.Action.{Action}
use Rattle.wf_print.specs.ChartText.{chart_text}
use Rattle.wf_print.specs.Lined.{are_texts, moves_by_texts, assigns_texts, are_lines}
use Rattle.wf_print.proofs.LinedText.{text_is_lined}
use Rattle.wf_text.specs.Text.{Means}
use Rattle.wf_readback.specs.Held.{is_held, is_held_transition, is_held_action}
use Rattle.wf_readback.proofs.Spelled.{short_text_is_read_back}
use Rattle.wf_scripts.specs.Lines.{chart_part, script_part}
use Rattle.wf_gen.specs.Draws.{after}
use Rattle.wf_gen.specs.GenChart.{move, chart_with, gen_chart}
use Rattle.wf_gen.specs.GenScript.{gen_script}
use Rattle.wf_gen.specs.GenText.{gen_text}
use Rattle.wf_gen.proofs.Sealed.{generated}
use Rattle.wf_gen_laws.specs.Laws.{GeneratedIsDivided, GeneratedIsRead}
use Rattle.wf_gen_laws.proofs.Moves.{by_actions, all_moves}
use Rattle.wf_gen_laws.proofs.Divided.{divider, before, behind}
use Rattle.wf_gen_laws.proofs.Short.{text_short}

-- its literals are such as a program holds

held_move : (r a b c d : ℕ) → is_held_transition (move r a b c d) ≡ true
unfolding Rattle.wf_model.specs.declared.expr.Expr.TheBlock.hidden-the_row-Expr-0 denote.Hole.Carrier.hidden
held_move r a b c d = by_actions (λ (acts : List Action). list_all is_held_action acts ≡ true) d refl refl refl refl

lined_move : (r a b c d : ℕ) → moves_by_texts (move r a b c d) ≡ true
unfolding Rattle.wf_model.specs.declared.expr.Expr.TheBlock.hidden-the_row-Expr-0 denote.Hole.Carrier.hidden
lined_move r a b c d = by_actions (λ (acts : List Action). list_all assigns_texts acts ≡ true) d refl refl refl refl

held : (n : ℕ) → is_held (gen_chart n) ≡ true
unfolding gen_chart chart_with is_held
held n =
    all_moves is_held_transition n 30 held_move

texts : (n : ℕ) → are_texts (gen_chart n) ≡ true
unfolding gen_chart chart_with are_texts
texts n =
    all_moves moves_by_texts n 30 lined_move

lined : (n : ℕ) → are_lines true (chart_text (gen_chart n)) ≡ true
lined n = text_is_lined (gen_chart n) (generated n) (texts n)

text_is : (n : ℕ) → gen_text n ≡ chart_text (gen_chart n) ++ (divider ++ gen_script (after 120 n))
unfolding gen_text
text_is n = append_assoc (chart_text (gen_chart n)) divider (gen_script (after 120 n))

pub divided : GeneratedIsDivided
unfolding chart_part script_part
divided n = (
  ap chart_part (text_is n) ∙ before true (chart_text (gen_chart n)) (gen_script (after 120 n)) (lined n),
  ap script_part (text_is n) ∙ behind true (chart_text (gen_chart n)) (gen_script (after 120 n)) (lined n),
)

pub read : GeneratedIsRead
read n = subst (λ (text : List ℕ). Means text (gen_chart n)) (sym (divided n).0) (short_text_is_read_back (gen_chart n) (generated n) (held n) (text_short n))
