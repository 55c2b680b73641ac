use Rattle.std.proofs.Common.{ℕ, List, [], ◌∷◌, ◌++◌, length, map, sym, ◌∙◌, ap, ap₂, arith}
use Rattle.std.proofs.lemmas.List.{map_more, take_all}
use Rattle.wf_activities.specs.UnitItems.{UnitItems}
use Rattle.wf_activities.proofs.Closing.{items_read}
use Rattle.wf_activities.proofs.numbers.lengths.Goals as goal

pub overflow_cast-len : goal.overflow_cast-len
overflow_cast-len c =
    omega (
      arith,
      c.requires c.loop-unit.unit-index,
      ap length (items_read c.args.units.now c.loop-unit.unit-index c.unit-item.result (omega arith)),
      ap (λ (i : UnitItems). length i.items) c.unit-item.is,
      c.len.ensures,
    )

pub loop-unit-preserved : goal.loop-unit-preserved
loop-unit-preserved c =
    c.in_ok-push.ensures.items
    ∙ ap₂ (λ (l : List ℕ) (n : ℕ). l ++ n ∷ []) c.loop-unit.invariant (c.len.ensures ∙ ap (λ (i : UnitItems). length i.items) c.unit-item.is)
    ∙ sym (map_more (λ (i : UnitItems). length i.items) c.args.units.now c.loop-unit.unit-index c.unit-item.result (omega arith))

pub returns : goal.returns
returns c = c.loop-unit.invariant ∙ ap (map (λ (i : UnitItems). length i.items)) (take_all c.loop-unit.unit-index c.args.units.now (omega arith))
