use Rattle.wf_actors.proofs.Pairings.{takes_then}
use Rattle.wf_actors.proofs.pairs.exchange.Goals as goal

pub returns-clause-one : goal.returns-clause-one
returns-clause-one g c = takes_then c.args.one.now c.take_over.new.reader c.take_over-2.new.sender c.take_over.ensures.reader c.take_over-2.ensures.sender

pub returns-clause-other : goal.returns-clause-other
returns-clause-other g c = takes_then c.args.other.now c.take_over.new.sender c.take_over-2.new.reader c.take_over.ensures.sender c.take_over-2.ensures.reader
