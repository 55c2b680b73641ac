use Rattle.std.proofs.Common.{◌∙◌, ◌<◌, length, sym, ap, arith}
use Rattle.wf_parts.specs.Parts.{part_of}
use Rattle.wf_agreement.specs.Differing.{inputs_in, most_taken, told}
use Rattle.wf_agreement.specs.Senders.{AreSenders}
use Rattle.wf_agreement.proofs.Finding.{from_start, piece_passes, piece_stops, none_left}
use Rattle.wf_agreement.proofs.Sending.{most_of, agreed_iff}
use Rattle.wf_agreement.proofs.comparing.agree.Goals as goal

pub first_in_step-requires : goal.first_in_step-requires
first_in_step-requires c = record { made = c.requires; same = ap length c.as_slice.ensures ∙ c.in_ok-units.ensures.same }

pub loop-at-init : goal.loop-at-init
loop-at-init c = λ part h of. from_start (length c.args.parts.now) part h

pub loop-at-preserved : goal.loop-at-preserved
loop-at-preserved c =
    λ part h of.
    let n = length c.args.parts.now in
    let most = most_of c.args.parts.now c.args.histories.now part h c.most_taken-at-end.result of c.most_taken-at-end.ensures in
    let within : c.loop-at.at < most_taken n h = omega (arith, most, c.loop-at-test.true) in
    let are : AreSenders n c.args.parts.now c.as_slice.result.now part h = record { parts_are = of.parts_are; updates_are = c.as_slice.ensures ∙ c.in_ok-units.ensures.units part h of } in
    sym (piece_passes part h (inputs_in n h) c.loop-at.at (most_taken n h) within (sym c.in-Agree.is ∙ c.in_ok-found.ensures part h of are)) ∙ c.loop-at.invariant part h of

pub returns-in_default-clause-first : goal.returns-in_default-clause-first
returns-in_default-clause-first c =
    λ part h of.
    let n = length c.args.parts.now in
    let most = most_of c.args.parts.now c.args.histories.now part h c.most_taken-at-end.result of c.most_taken-at-end.ensures in
    let within : c.loop-at.at < most_taken n h = omega (arith, most, c.loop-at-test.true) in
    let are : AreSenders n c.args.parts.now c.as_slice.result.now part h = record { parts_are = of.parts_are; updates_are = c.as_slice.ensures ∙ c.in_ok-units.ensures.units part h of } in
    piece_stops part h (inputs_in n h) c.in_ok-found.found c.loop-at.at (most_taken n h) within (c.in_ok-found.ensures part h of are) c.in_default.not-Agree
    ∙ ap (told part h) (c.loop-at.invariant part h of)

pub returns-in_default-clause-agree : goal.returns-in_default-clause-agree
returns-in_default-clause-agree c =
    λ chart h of units. agreed_iff c.args.parts.now c.args.histories.now c.requires chart h of units c.in_ok-found.found (returns-in_default-clause-first c (part_of chart) h of)

pub returns-clause-first : goal.returns-clause-first
returns-clause-first c =
    λ part h of.
    let n = length c.args.parts.now in
    let most = most_of c.args.parts.now c.args.histories.now part h c.most_taken-at-end.result of c.most_taken-at-end.ensures in
    ap (told part h) (sym (none_left part h (inputs_in n h) c.loop-at.at (most_taken n h) (omega (arith, most, c.loop-at-test.false))) ∙ c.loop-at.invariant part h of)

pub returns-clause-agree : goal.returns-clause-agree
returns-clause-agree c =
    λ chart h of units. agreed_iff c.args.parts.now c.args.histories.now c.requires chart h of units _ (returns-clause-first c (part_of chart) h of)
