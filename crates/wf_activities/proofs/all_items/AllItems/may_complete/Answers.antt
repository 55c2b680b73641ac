use Rattle.std.proofs.Common.{◌≡◌, length, get_or, sym, ◌∙◌, ap, ap₂, arith}
use Rattle.wf_model.specs.declared.value.Sort.{Sort}
use Rattle.wf_model.specs.declared.ids.VarId.{VarId}
use Rattle.std.proofs.Common.{List}
use Rattle.wf_semantics.specs.Items.{Item}
use Rattle.wf_activities.specs.Completing.{may_complete, unless_pending}
use Rattle.wf_activities.specs.Stock.{Stock, items_at}
use Rattle.wf_activities.proofs.Admitting.{act_there, unit_known, get_within, outputs_sorted, wanted_length, wanted_read, units_length, items_read, wrong_unit, answered}
use Rattle.wf_activities.proofs.all_items.AllItems.may_complete.Goals as goal

pub returns-then-not-is_act_at : goal.returns-then-not-is_act_at
returns-then-not-is_act_at c = λ entries same.
    wrong_unit c.args.chart.now (items_at c.args.self.now) entries c.args.unit.0 c.args.item c.args.act c.args.outputs.now (sym c.is_act_at.ensures ∙ c.if-not-is_act_at.true)

pub index-items-requires : goal.index-items-requires
index-items-requires c =
    let there = act_there c.args.chart.now c.args.unit.0 c.args.act.0 (sym c.is_act_at.ensures ∙ c.if-not-is_act_at.false) in
    omega (
      arith,
      unit_known c.args.chart.now c.requires.accepted c.args.act.0 there.0 there.1,
      there.2,
      c.requires.of.units,
      units_length c.self.inside.units.items c.args.self.now (ap (λ (s : Stock). s.items) c.self.view_is),
    )

pub bounds-as_slice-act : goal.bounds-as_slice-act
bounds-as_slice-act c =
    let there = act_there c.args.chart.now c.args.unit.0 c.args.act.0 (sym c.is_act_at.ensures ∙ c.if-not-is_act_at.false) in
    omega (
      arith,
      get_within c.args.chart.now.acts c.args.act.0 there.0 there.1,
      wanted_length c.args.chart.now c.args.self.now c.requires.of,
      ap (λ (s : Stock). length s.wanted) c.self.view_is,
      ap length c.as_slice.ensures,
    )

pub returns : goal.returns
returns c = λ entries same.
    let there = act_there c.args.chart.now c.args.unit.0 c.args.act.0 (sym c.is_act_at.ensures ∙ c.if-not-is_act_at.false) in
    let items : c.index-items.result.now.items ≡ items_at c.args.self.now c.args.unit.0 =
    items_read c.self.inside.units.items c.args.self.now c.args.unit.0 c.index-items.result.now (ap (λ (s : Stock). s.items) c.self.view_is)
    (omega (
      arith,
      unit_known c.args.chart.now c.requires.accepted c.args.act.0 there.0 there.1,
      there.2,
      c.requires.of.units,
      units_length c.self.inside.units.items c.args.self.now (ap (λ (s : Stock). s.items) c.self.view_is),
    ))
    c.index-items.ensures in
    let wanted : c.index-as_slice-act.result ≡ get_or c.args.self.now.wanted c.args.act.0 c.index-as_slice-act.result =
    c.index-as_slice-act.is ∙ ap (λ (l : List (List (VarId × Sort))). get_or l c.args.act.0 c.index-as_slice-act.result) (c.as_slice.ensures ∙ ap (λ (s : Stock). s.wanted) c.self.view_is) in
    let made = wanted_read c.args.chart.now c.args.self.now c.args.act.0 there.0 c.index-as_slice-act.result c.requires.of there.1 wanted in
    c.answer_unless_pending.ensures
    ∙ ap₂ unless_pending
    (c.may_complete-answer.ensures.answer
    ∙ ap₂ (λ (l : List Item) (w : List (VarId × Sort)). may_complete l c.args.item c.args.act c.args.outputs.now w) items (c.as_slice-2.ensures ∙ made))
    (sym same)
    ∙ answered c.args.chart.now (items_at c.args.self.now) entries c.args.unit.0 c.args.item c.args.act c.args.outputs.now there.0 _
    (sym c.is_act_at.ensures ∙ c.if-not-is_act_at.false) there.1 (outputs_sorted c.args.chart.now c.requires.accepted c.args.act.0 there.0 there.1)
