use Rattle.std.proofs.Common.{◌≡◌, ◌∷◌, [], ◌++◌, arith, length-append}
use Rattle.std.proofs.lemmas.Result.{err_from_is_err_and}
use Rattle.wf_model.specs.Txt.{is_text_char}
use Rattle.wf_codec.specs.Reading.{byte_that, bytes_that}
use Rattle.wf_codec.proofs.ReadLoop.{goes_on, ends, is_done}
use Rattle.wf_codec.proofs.ReadFields.{byte_passed}
use Rattle.wf_codec.proofs.value.chars_of.Goals as goal

pub returns-in_err-c : goal.returns-in_err-c
returns-in_err-c c =
    let p = err_from_is_err_and c.from_residual.result c.from_residual.ensures.1 in
    rw (p.1, p.2) (ends c.in_err-c.field-0.0 (λ before. byte_that is_text_char) c.loop.text c.args.count c.loop.counter c.loop.rest.now (bytes_that is_text_char c.args.count c.args.bytes.now) c.loop-test.true c.in_err-c.ensures c.loop.invariant.so_far)

pub push-requires-clause-text : goal.push-requires-clause-text
push-requires-clause-text c = (byte_passed is_text_char c.loop.rest.now c.in_ok-c.c c.in_ok-c.after.now c.in_ok-c.ensures).0

pub loop-preserved : goal.loop-preserved
loop-preserved c =
    let x = c.in_ok-c.c in
    let e : c.push.new.self ≡ c.loop.text ++ x ∷ [] = c.push.ensures in
    record {
      so_far = rw e (goes_on (λ before. byte_that is_text_char) c.loop.text c.args.count c.loop.counter c.loop.rest.now x c.in_ok-c.after.now (bytes_that is_text_char c.args.count c.args.bytes.now) c.loop-test.true c.in_ok-c.ensures c.loop.invariant.so_far);
      room = rw e (omega (arith, length-append c.loop.text (x ∷ []), c.loop.invariant.room));
    }

pub returns : goal.returns
returns c = is_done (λ before. byte_that is_text_char) c.loop.text c.args.count c.loop.counter c.loop.rest.now (bytes_that is_text_char c.args.count c.args.bytes.now) c.loop-test.false c.loop.invariant.so_far
