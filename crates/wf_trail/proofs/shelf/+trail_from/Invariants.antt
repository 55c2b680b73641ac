use Rattle.std.proofs.Common.{length}
use Rattle.wf_trail.proofs.shelf.+trail_from.Given as goal

abbrev pub decreases-trail_from : goal.decreases-trail_from
decreases-trail_from g l = length l.names.now
