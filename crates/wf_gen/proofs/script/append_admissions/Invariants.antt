use Rattle.std.proofs.Common.{◌≡◌, ◌++◌}
use Rattle.wf_gen.specs.Draws.{after}
use Rattle.wf_gen.specs.GenScript.{admissions}
use Rattle.wf_gen.proofs.script.append_admissions.Given as goal

abbrev pub invariant-loop-q : goal.invariant-loop-q
invariant-loop-q l = (l.text ≡ l.fn.text ++ admissions l.fn.draws l.q) × (l.draws ≡ after l.q l.fn.draws)
