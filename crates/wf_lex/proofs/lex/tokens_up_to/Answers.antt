use Rattle.std.proofs.Common.{rules, arith, ◌≡◌, ◌≢◌, ◌+◌, Some, length, drop, get_or, false, sym, ◌∙◌}
use Rattle.std.proofs.lemmas.List.{take_rest, length-append, length-drop}
use Rattle.wf_lex.specs.Lex.{is_blank, token_at}
use Rattle.wf_lex.proofs.TokenSteps.{token_step}
use Rattle.wf_lex.proofs.lex.tokens_up_to.Goals as goal

pub loop-at-preserved : goal.loop-at-preserved
loop-at-preserved c =
    let blank : is_blank (get_or c.args.text.now c.loop-at.at 0) ≡ false = rw (← c.is_blank.ensures) c.if-is_blank.false in
    let token : token_at (get_or c.args.text.now c.loop-at.at 0) (drop (c.loop-at.at + 1) c.args.text.now) ≡ Some (c.in-Some.kind, c.in-Some.rest) = rw take_rest at (sym c.in-Some.ensures.exact) in
    let few : length c.loop-at.found.items ≢ c.args.most = search rules in
    record {
      few = rw (c.in_ok-push.ensures.items, length-append) (omega (arith, few, c.loop-at.invariant.few));
      within = omega (arith, c.in-Some.ensures.within, length-drop (c.loop-at.at + 1) c.args.text.now);
      rest = rw (c.in_ok-push.ensures.items, length-append, c.if-in_comment.false)
          (token_step c.args.most c.loop-at.at c.in-Some.rest c.args.text.now c.loop-at.found.items c.in-Some.kind 0 c.loop-at-test.true blank c.if-byte-eq35.false token few
          ∙ rw c.if-in_comment.false at c.loop-at.invariant.rest);
    }
