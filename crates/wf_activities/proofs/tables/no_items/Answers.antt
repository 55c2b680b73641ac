use Rattle.std.proofs.Common.{◌≡◌, ℕ, List, [], ◌∷◌, ◌++◌, length, map, replicate, ◌∙◌, ap, ap₂, arith, rules}
use Rattle.std.proofs.lemmas.List.{map-append}
use Rattle.wf_semantics.specs.Items.{Item}
use Rattle.wf_activities.specs.UnitItems.{UnitItems}
use Rattle.wf_activities.proofs.Rows.{replicate_more}
use Rattle.wf_activities.proofs.ChartTables.{few}
use Rattle.wf_activities.proofs.tables.no_items.Goals as goal

pub overflow_cast-u : goal.overflow_cast-u
overflow_cast-u c = omega (arith, (few c.args.chart.now c.requires).0)

pub loop-u-preserved : goal.loop-u-preserved
loop-u-preserved c = record {
  items =
      ap (map (λ (i : UnitItems). i.items)) c.in_ok-push.ensures.items
      ∙ map-append (λ (i : UnitItems). i.items) c.loop-u.units.items (c.new.result ∷ [])
      ∙ ap₂ (λ (l : List (List Item)) (x : List Item). l ++ x ∷ []) c.loop-u.invariant.items c.new.ensures.items
      ∙ replicate_more [] c.loop-u.u;
  steps =
      ap (map (λ (i : UnitItems). i.steps)) c.in_ok-push.ensures.items
      ∙ map-append (λ (i : UnitItems). i.steps) c.loop-u.units.items (c.new.result ∷ [])
      ∙ ap₂ (λ (l : List (List ℕ)) (x : List ℕ). l ++ x ∷ []) c.loop-u.invariant.steps c.new.ensures.steps
      ∙ replicate_more [] c.loop-u.u;
}

pub returns-clause-items : goal.returns-clause-items
returns-clause-items c =
    let all : c.loop-u.u ≡ length c.args.chart.now.units = search rules in
    c.loop-u.invariant.items ∙ ap (λ n. replicate n []) all

pub returns-clause-steps : goal.returns-clause-steps
returns-clause-steps c =
    let all : c.loop-u.u ≡ length c.args.chart.now.units = search rules in
    c.loop-u.invariant.steps ∙ ap (λ n. replicate n []) all
