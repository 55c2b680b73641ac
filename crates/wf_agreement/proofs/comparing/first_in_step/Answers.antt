use Rattle.std.proofs.Common.{◌∙◌, List, length, sym, ap, arith}
use Rattle.wf_parts.specs.Parts.{part_of}
use Rattle.wf_parts.specs.declared.data.PartData.{PartData}
use Rattle.wf_agreement.specs.Differing.{Input, inputs_of, first_of, told}
use Rattle.wf_agreement.proofs.Finding.{from_zero, piece_passes, piece_stops, none_left}
use Rattle.wf_agreement.proofs.Sending.{as_many, senders_are, inputs_are}
use Rattle.wf_agreement.proofs.comparing.first_in_step.Goals as goal

pub bounds-histories-unit : goal.bounds-histories-unit
bounds-histories-unit c = omega (arith, c.loop-unit-test.true, as_many c.args.parts.now c.args.histories.now (part_of c.requires.made.chart) c.requires.made.past c.requires.made.of)

pub first_in_turn-requires : goal.first_in_turn-requires
first_in_turn-requires c =
    record {
      same = c.requires.same;
      senders = senders_are c.args.parts.now c.args.histories.now c.requires.made c.loop-unit.unit c.loop-unit-test.true c.index-parts-unit.result c.index-histories-unit.result c.index-parts-unit.is c.index-histories-unit.is
          c.args.at c.inputs_at-inputs.result.now c.inputs_at-inputs.ensures;
    }

pub loop-unit-init : goal.loop-unit-init
loop-unit-init c = λ part h of are. ap (first_of part h) (from_zero (inputs_of h c.args.at) (length c.args.parts.now))

pub loop-unit-preserved : goal.loop-unit-preserved
loop-unit-preserved c =
    λ part h of are.
    let inputs = inputs_are c.args.parts.now c.args.histories.now c.requires.made c.loop-unit.unit c.loop-unit-test.true c.index-parts-unit.result c.index-histories-unit.result c.index-parts-unit.is c.index-histories-unit.is
    part h c.args.at c.data.result.now.unit c.inputs_at-inputs.result.now of (ap (λ (p : PartData). p.unit) c.data.ensures.same) c.inputs_at-inputs.ensures in
    sym (piece_passes part h (inputs_of h c.args.at) c.loop-unit.unit (length c.args.parts.now) c.loop-unit-test.true
    (sym c.in-Agree.is ∙ c.in_ok-found.ensures part h are ∙ ap (λ (l : List Input). told part h (first_of part h l)) inputs))
    ∙ c.loop-unit.invariant part h of are

pub returns-in_default : goal.returns-in_default
returns-in_default c =
    λ part h of are.
    let inputs = inputs_are c.args.parts.now c.args.histories.now c.requires.made c.loop-unit.unit c.loop-unit-test.true c.index-parts-unit.result c.index-histories-unit.result c.index-parts-unit.is c.index-histories-unit.is
    part h c.args.at c.data.result.now.unit c.inputs_at-inputs.result.now of (ap (λ (p : PartData). p.unit) c.data.ensures.same) c.inputs_at-inputs.ensures in
    piece_stops part h (inputs_of h c.args.at) c.in_ok-found.found c.loop-unit.unit (length c.args.parts.now) c.loop-unit-test.true
    (c.in_ok-found.ensures part h are ∙ ap (λ (l : List Input). told part h (first_of part h l)) inputs) c.in_default.not-Agree
    ∙ ap (told part h) (c.loop-unit.invariant part h of are)

pub returns : goal.returns
returns c =
    λ part h of are. ap (told part h) (sym (none_left part h (inputs_of h c.args.at) c.loop-unit.unit (length c.args.parts.now) c.loop-unit-test.false) ∙ c.loop-unit.invariant part h of are)
