use Rattle.std.proofs.Common.{◌∙◌, sym}
use Rattle.wf_journal.proofs.journal.Journal.read.Goals as goal

pub invariant_of-self-2 : goal.invariant_of-self-2
invariant_of-self-2 g c fine file is =
    let same = c.read_frame.ensures.same in
    let was = c.self.invariant fine file (sym same.image ∙ is) in
    record { rests = was.rests; only = λ f now. was.only f (same.crash f now) }
