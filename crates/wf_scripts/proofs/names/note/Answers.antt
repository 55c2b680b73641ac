use Rattle.std.proofs.Common.{sym, ◌∙◌}
use Rattle.wf_scripts.specs.Names.{found_in}
use Rattle.wf_scripts.proofs.Noted.{noted, none_found}
use Rattle.wf_scripts.proofs.names.note.Goals as goal

pub returns-in_ok-insert : goal.returns-in_ok-insert
returns-in_ok-insert c = λ word.
    c.in_ok-insert.ensures.updates.0 (record { ref_ptr = (0, 0); now = word })
    ∙ noted (found_in c.args.numbers.now) c.args.name.now word c.args.number (none_found (found_in c.args.numbers.now c.args.name.now) (sym c.contains_key.ensures ∙ c.if-not-contains_key.true))
