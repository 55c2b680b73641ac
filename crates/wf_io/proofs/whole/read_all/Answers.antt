use Rattle.wf_io.proofs.Known.{consumes_on, consumes_at_err}
use Rattle.wf_io.proofs.whole.read_all.Goals as goal

pub returns-in_err-append-clause-front : goal.returns-in_err-append-clause-front
returns-in_err-append-clause-front g c =
    consumes_at_err _ _ _ _ (consumes_on _ _ _ _ _ c.loop-piece.invariant.0 c.in_ok-count.ensures.bytes.0)
