use Rattle.std.proofs.Common.{◌≡◌, ◌<◌, List, [], ◌∷◌, Option, Some, None, IfSome, refl, sym, ◌∙◌, ap, length}
use Rattle.wf_model.specs.declared.ids.StateId.{StateId}
use Rattle.wf_model.specs.declared.ids.TransId.{TransId}
use Rattle.wf_scopes.specs.Tables.{ancestor_ids}
use Rattle.wf_model.specs.Bits.{bit}
use Rattle.wf_central.specs.Passes.{at, or_else, first_ids, bit_by}
use Rattle.wf_central.proofs.passes.is_in_then.Goals as goal

-- what is found first is found somewhere
found_at : (firing : List (Option TransId)) (P : TransId → Type 0) (xs : List StateId) (t : TransId) → ((s : Rattle.std.proofs.Common.ℕ) → IfSome (at firing s) P) → first_ids firing xs ≡ Some t → P t
found_at firing P [] t h e = absurd (differ e)
  where
    differ : None ≡ Some t → ⊥
    differ r = cc
found_at firing P (x ∷ xs) t h e = go (at firing x.0) (h x.0) e (found_at firing P xs t h)
  where
    go : (o : Option TransId) → IfSome o P → or_else o (first_ids firing xs) ≡ Some t → (first_ids firing xs ≡ Some t → P t) → P t
    go None p q ih = ih q
    go (Some u) p q ih =
        let same : u ≡ t = cc in
        Rattle.std.proofs.Common.subst P same p

pub returns-in-Some : goal.returns-in-Some
returns-in-Some c =
    let found : Some c.in-Some.t ≡ first_ids c.args.firing.now (ancestor_ids c.args.chart.now c.args.z.0) =
    sym c.in-Some.is ∙ c.first_of.ensures ∙ ap (first_ids c.args.firing.now) (c.lineage.ensures c.args.chart.now c.requires.of c.requires.in_range) in
    let lt : c.in-Some.t.0 < length c.args.chart.now.transitions =
    found_at c.args.firing.now (λ t. t.0 < length c.args.chart.now.transitions) (ancestor_ids c.args.chart.now c.args.z.0) c.in-Some.t c.requires.known (sym found) in
    c.enters.ensures c.args.chart.now c.requires.of lt c.requires.in_range
    ∙ ap (bit_by c.args.chart.now c.args.z.0 (bit c.args.active.now c.args.z.0)) found
