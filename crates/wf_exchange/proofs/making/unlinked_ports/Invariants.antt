use Rattle.std.proofs.Common.{◌≡◌, length}
use Rattle.wf_exchange.specs.Ports.{AreNumbered}
use Rattle.wf_exchange.specs.Making.{AreEmpty}
use Rattle.wf_exchange.proofs.making.unlinked_ports.Given as goal

abbrev pub invariant-loop-unit : goal.invariant-loop-unit
invariant-loop-unit l = (length l.made.items ≡ l.unit) × AreNumbered l.made.items × AreEmpty l.made.items
