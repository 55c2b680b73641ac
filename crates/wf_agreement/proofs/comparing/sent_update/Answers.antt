use Rattle.std.proofs.Common.{◌∙◌, ◌-◌, List, length, slice_get, ap}
use Rattle.wf_model.specs.declared.update.Update.{Update}
use Rattle.wf_parts.specs.declared.data.PartData.{PartData}
use Rattle.wf_views.specs.Relevant.{relevant}
use Rattle.wf_agreement.proofs.Sending.{part_at, updates_at, sends_it, sends_none}
use Rattle.wf_agreement.proofs.comparing.sent_update.Goals as goal

pub returns-in_ok-relevant-in-Some : goal.returns-in_ok-relevant-in-Some
returns-in_ok-relevant-in-Some c =
    λ part h are.
    let x = c.args.kept.now in
    let n = length c.args.parts.now in
    let us = c.index-units-sender.result in
    let us_are = updates_at n c.args.parts.now c.args.units.now part h are x.from.0 c.requires.sender.0 us c.index-units-sender.is in
    let p = c.index-parts-sender.result in
    let p_is = part_at c.args.parts.now part n x.from.0 p are.parts_are c.requires.sender.0 c.requires.sender.0 c.index-parts-sender.is in
    sends_it part h c.args.reader.0 x c.requires.sender.1 c.in-Some.update.now c.in_ok-relevant-in-Some.field-0
    (c.in-Some.ensures.value ∙ ap (λ (l : List Update). slice_get l (x.step - 1)) us_are)
    (c.in_ok-relevant-in-Some.ensures ∙ ap (λ (q : PartData). relevant q.peers c.in-Some.update.now c.args.reader.0) p_is)

pub returns-in-None : goal.returns-in-None
returns-in-None c =
    λ part h are.
    let x = c.args.kept.now in
    let n = length c.args.parts.now in
    let us = c.index-units-sender.result in
    let us_are = updates_at n c.args.parts.now c.args.units.now part h are x.from.0 c.requires.sender.0 us c.index-units-sender.is in
    sends_none part h c.args.reader.0 x c.requires.sender.1 (c.in-None.ensures.value ∙ ap (λ (l : List Update). slice_get l (x.step - 1)) us_are)
