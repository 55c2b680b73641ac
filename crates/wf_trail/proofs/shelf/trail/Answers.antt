use Rattle.std.proofs.Common.{◌≡◌, ◌∙◌, ◌+◌, ◌≤◌, ◌⊎◌, List, ℕ, Result, length, true≢false, refl, sym, ap, subst, rules, arith}
use Rattle.std.specs.Prelude.{Ok, Err, is_ok, IfErr, IsErrAnd}
use Rattle.wf_model.specs.declared.chart.Chart.{Chart}
use Rattle.wf_model.proofs.Few.{few_units}
use Rattle.wf_trail.specs.declared.fault.TrailFault.{TrailFault}
use Rattle.wf_trail.specs.declared.fault.TrailFault.TheVariants as f
use Rattle.wf_trail.specs.Images.{MayTell, trail_of, trail_from, short_text}
use Rattle.wf_trail.specs.Shelves.{IsOfDisk, IsOfUnits}
use Rattle.wf_trail.proofs.Texts.{free_tells}
use Rattle.wf_trail.proofs.Leaving.{nothing_left, ends_rose}
use Rattle.wf_trail.proofs.Crashes.{nothing_lost}
use Rattle.wf_trail.proofs.shelf.trail.Goals as goal

-- ---- no memory for the components

pub returns-in_err-flat-clause-text : goal.returns-in_err-flat-clause-text
returns-in_err-flat-clause-text g c = λ images tells.
    let is : c.from_residual.result ≡ Err f.NoMemory = search rules in
    subst (MayTell (trail_of c.args.checked.now images)) (sym is) tt

pub returns-in_err-flat-clause-disks : goal.returns-in_err-flat-clause-disks
returns-in_err-flat-clause-disks g c = nothing_left (g.H.DiskShelf.told c.args.shelf.now)

pub returns-in_err-flat-clause-bodies : goal.returns-in_err-flat-clause-bodies
returns-in_err-flat-clause-bodies g c = nothing_lost (g.H.DiskShelf.told c.args.shelf.now)

pub returns-in_err-flat-clause-rose : goal.returns-in_err-flat-clause-rose
returns-in_err-flat-clause-rose g c = λ of.
    let is : c.from_residual.result ≡ Err f.NoMemory = search rules in
    absurd (subst (λ (r : Result (List ℕ) TrailFault). IsErrAnd r IsOfDisk) is of)

pub returns-in_err-flat-clause-unit : goal.returns-in_err-flat-clause-unit
returns-in_err-flat-clause-unit g c =
    let is : c.from_residual.result ≡ Err f.NoMemory = search rules in
    subst (λ (r : Result (List ℕ) TrailFault). IfErr r (IsOfUnits (length c.args.checked.now.units))) (sym is) tt

-- ---- a disk that isn't handed out

pub returns-in_err-trail-clause-text : goal.returns-in_err-trail-clause-text
returns-in_err-trail-clause-text g c = λ images tells.
    let is : c.from_residual-in_err-trail.result ≡ Err c.in_err-trail.field-0.0 = search rules in
    subst (MayTell (trail_of c.args.checked.now images)) (sym is) (free_tells (trail_of c.args.checked.now images) c.in_err-trail.field-0.0 c.in_err-trail.ensures.free)

pub returns-in_err-trail-clause-rose : goal.returns-in_err-trail-clause-rose
returns-in_err-trail-clause-rose g c = λ of.
    let is : c.from_residual-in_err-trail.result ≡ Err c.in_err-trail.field-0.0 = search rules in
    c.in_err-trail.ensures.rose (subst (λ (r : Result (List ℕ) TrailFault). IsErrAnd r IsOfDisk) is of)

pub returns-in_err-trail-clause-kept : goal.returns-in_err-trail-clause-kept
returns-in_err-trail-clause-kept g c = λ ok.
    let is : c.from_residual-in_err-trail.result ≡ Err c.in_err-trail.field-0.0 = search rules in
    absurd (true≢false (sym ok ∙ ap (λ (r : Result (List ℕ) TrailFault). is_ok r) is))

pub returns-in_err-trail-clause-unit : goal.returns-in_err-trail-clause-unit
returns-in_err-trail-clause-unit g c =
    let is : c.from_residual-in_err-trail.result ≡ Err c.in_err-trail.field-0.0 = search rules in
    subst (λ (r : Result (List ℕ) TrailFault). IfErr r (IsOfUnits (length c.args.checked.now.units))) (sym is) c.in_err-trail.ensures.unit

-- ---- all disks were taken and given back

pub trail_from-requires-clause-within : goal.trail_from-requires-clause-within
trail_from-requires-clause-within g c =
    let same : c.as_slice-names.result.now ≡ c.args.checked.now.units = c.as_slice-names.ensures ∙ ap (λ (chart : Chart). chart.units) c.chart.ensures.same in
    omega (arith, ap (λ (names : List (List ℕ)). length names) same)

pub trail_from-requires-clause-few : goal.trail_from-requires-clause-few
trail_from-requires-clause-few g c = omega (arith, few_units c.args.checked.now c.chart.ensures.accepted)

pub returns-clause-text : goal.returns-clause-text
unfolding trail_of
returns-clause-text g c = λ images tells.
    let same : c.as_slice-names.result.now ≡ c.args.checked.now.units = c.as_slice-names.ensures ∙ ap (λ (chart : Chart). chart.units) c.chart.ensures.same in
    let P : List (List ℕ) → Type 0 = λ names. MayTell (trail_from c.args.checked.now images 0 names) c.in_ok-trail.trail.text in
    c.finish.ensures.text (trail_from c.args.checked.now images 0 c.args.checked.now.units) (subst P same (c.in_ok-trail.ensures.text images tells))

pub returns-clause-rose : goal.returns-clause-rose
returns-clause-rose g c = λ of. ends_rose _ _ c.in_ok-trail.trail c.in_ok-trail.ensures.causes (c.finish.ensures.cause of)

pub returns-clause-kept : goal.returns-clause-kept
returns-clause-kept g c = λ ok. let both = c.finish.ensures.ok ok in let causes = c.in_ok-trail.ensures.causes in causes.kept both.0 both.1

pub returns-clause-unit : goal.returns-clause-unit
returns-clause-unit g c = c.finish.ensures.unit _ c.in_ok-trail.ensures.units
