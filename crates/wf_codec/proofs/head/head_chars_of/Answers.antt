use Rattle.std.proofs.Common.{◌≡◌, ℕ, suc, ◌+◌, ◌∷◌, [], ◌++◌, List, Ok, take, drop, sym, ap, subst, ◌∙◌, arith}
use Rattle.std.proofs.lemmas.Result.{err_from_is_err_and}
use Rattle.wf_codec.specs.Reading.{byte_that, bytes_that}
use Rattle.wf_codec.specs.Records.{is_head_char}
use Rattle.wf_codec.proofs.ReadLoop.{goes_on, ends, is_done}
use Rattle.wf_codec.proofs.ReadFields.{byte_passed, taken_more}
use Rattle.wf_codec.proofs.head.head_chars_of.Goals as goal

pub returns-in_err-after : goal.returns-in_err-after
returns-in_err-after c =
    let p = err_from_is_err_and c.from_residual.result c.from_residual.ensures.1 in
    rw (p.1, p.2) (ends c.in_err-after.field-0.0 (λ before. byte_that is_head_char) (take c.loop.counter c.args.bytes.now) c.args.count c.loop.counter c.loop.rest.now (bytes_that is_head_char c.args.count c.args.bytes.now) c.loop-test.true c.in_err-after.ensures c.loop.invariant.so_far)

pub loop-preserved : goal.loop-preserved
loop-preserved c =
    let i = c.loop.counter in
    let x = c.in_ok-after.field-0-0 in
    let rest = c.in_ok-after.after.now in
    let read = byte_passed is_head_char c.loop.rest.now x rest c.in_ok-after.ensures in
    let more = taken_more i c.args.bytes.now x rest (c.loop.invariant.behind ∙ read.1) in
    let next : i + 1 ≡ suc i = omega arith in
    let so_far = goes_on (λ before. byte_that is_head_char) (take i c.args.bytes.now) c.args.count i c.loop.rest.now x rest (bytes_that is_head_char c.args.count c.args.bytes.now) c.loop-test.true c.in_ok-after.ensures c.loop.invariant.so_far in
    let taken : take (i + 1) c.args.bytes.now ≡ take i c.args.bytes.now ++ x ∷ [] = subst (λ (n : ℕ). take n c.args.bytes.now ≡ take i c.args.bytes.now ++ x ∷ []) (sym next) more.0 in
    record {
      so_far = rw taken so_far;
      behind = subst (λ (n : ℕ). drop n c.args.bytes.now ≡ rest) (sym next) more.1;
      within = omega (arith, more.2);
    }

pub returns : goal.returns
returns c =
    let bytes = c.args.bytes.now in
    let i = c.loop.counter in
    let done = is_done (λ before. byte_that is_head_char) (take i bytes) c.args.count i c.loop.rest.now (bytes_that is_head_char c.args.count bytes) c.loop-test.false c.loop.invariant.so_far in
    let end : i ≡ c.from.result = omega (arith, c.loop-test.false, c.loop.auto.counter-end, c.from.ensures) in
    rw (c.split_at.ensures.front, c.split_at.ensures.back) (done ∙ ap (λ (s : List ℕ). Ok (take i bytes, s)) (sym c.loop.invariant.behind) ∙ ap (λ (n : ℕ). Ok (take n bytes, drop n bytes)) end)
