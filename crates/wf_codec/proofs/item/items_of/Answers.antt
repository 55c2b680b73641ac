use Rattle.std.proofs.Common.{◌≡◌, ◌∷◌, [], ◌++◌, None, option_copied}
use Rattle.std.proofs.lemmas.Result.{err_from_is_err_and}
use Rattle.wf_codec.specs.Reading.{items_at}
use Rattle.wf_codec.proofs.ReadLoop.{latest_seen, goes_on, ends, is_done}
use Rattle.wf_codec.proofs.item.items_of.Goals as goal

pub returns-in_err-item : goal.returns-in_err-item
returns-in_err-item g c =
    let reading = g.T.Read.reading c.args.numbers in
    let failed = rw (latest_seen c.loop.items c.as_slice.result.now (option_copied c.last.result) c.as_slice.ensures c.last.ensures.value) at c.in_err-item.ensures in
    let p = err_from_is_err_and c.from_residual.result c.from_residual.ensures.1 in
    rw (p.1, p.2) (ends c.in_err-item.field-0.0 reading c.loop.items c.args.count c.loop.counter c.loop.rest.now (items_at reading c.args.count None c.args.bytes.now) c.loop-test.true failed c.loop.invariant)

pub loop-preserved : goal.loop-preserved
loop-preserved g c =
    let reading = g.T.Read.reading c.args.numbers in
    let x = c.in_ok-item.item in
    let given = rw (latest_seen c.loop.items c.as_slice.result.now (option_copied c.last.result) c.as_slice.ensures c.last.ensures.value) at c.in_ok-item.ensures in
    let e : c.push.new.self ≡ c.loop.items ++ x ∷ [] = c.in_ok-push.ensures.ok in
    rw e (goes_on reading c.loop.items c.args.count c.loop.counter c.loop.rest.now x c.in_ok-item.after.now (items_at reading c.args.count None c.args.bytes.now) c.loop-test.true given c.loop.invariant)

pub returns : goal.returns
returns g c =
    let reading = g.T.Read.reading c.args.numbers in
    is_done reading c.loop.items c.args.count c.loop.counter c.loop.rest.now (items_at reading c.args.count None c.args.bytes.now) c.loop-test.false c.loop.invariant
