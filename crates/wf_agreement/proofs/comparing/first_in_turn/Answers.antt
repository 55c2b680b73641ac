use Rattle.std.proofs.Common.{◌∙◌, Option, length, false, sym, ap, subst}
use Rattle.std.specs.Option.{option_map_or}
use Rattle.wf_model.specs.declared.update.Update.{Update}
use Rattle.wf_agreement.specs.declared.agreement.Agreement.TheVariants as agreement
use Rattle.wf_agreement.specs.Same.{same_update}
use Rattle.wf_agreement.specs.Differing.{told}
use Rattle.wf_agreement.specs.Senders.{HasSender}
use Rattle.wf_agreement.proofs.Finding.{input_passes, input_stops, no_input_left}
use Rattle.wf_agreement.proofs.comparing.first_in_turn.Goals as goal

pub sent_update-requires : goal.sent_update-requires
sent_update-requires c =
    record {
      same = c.requires.same;
      sender = subst (HasSender (length c.args.parts.now)) (sym c.kept-item.is) (c.requires.senders c.loop-kept.kept-index c.kept-item.result c.loop-kept-test.true);
    }

pub loop-kept-preserved : goal.loop-kept-preserved
loop-kept-preserved c =
    λ part h are.
    let x = c.kept-item.result in
    sym (input_passes part h c.args.reader.0 c.args.inputs.now c.loop-kept.kept-index x c.loop-kept-test.true c.kept-item.is
    (ap (λ (o : Option Update). option_map_or (same_update x) o false) (sym (c.in_ok-given.ensures part h are)) ∙ sym c.is_sent.ensures ∙ c.if-not-is_sent.false))
    ∙ c.loop-kept.invariant part h are

pub returns-then-not-is_sent : goal.returns-then-not-is_sent
returns-then-not-is_sent c =
    λ part h are.
    let x = c.kept-item.result in
    (λ i. agreement.Differ c.args.reader x.step x.from (c.in_ok-copy.ensures i) (c.in_ok-given.ensures part h are i))
    ∙ ap (told part h) (sym (input_stops part h c.args.reader.0 c.args.inputs.now c.loop-kept.kept-index x c.loop-kept-test.true c.kept-item.is
    (ap (λ (o : Option Update). option_map_or (same_update x) o false) (sym (c.in_ok-given.ensures part h are)) ∙ sym c.is_sent.ensures ∙ c.if-not-is_sent.true))
    ∙ c.loop-kept.invariant part h are)

pub returns : goal.returns
returns c =
    λ part h are. ap (told part h) (sym (no_input_left part h c.args.reader.0 c.args.inputs.now c.loop-kept.kept-index c.loop-kept-test.false) ∙ c.loop-kept.invariant part h are)
