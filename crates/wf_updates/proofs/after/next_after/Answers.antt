use Rattle.std.proofs.Common.{◌≡◌, ◌∙◌, ◌==◌, sym, ap, length, true}
use Rattle.std.specs.List.{list_all}
use Rattle.wf_views.specs.Knowledge.{known_to}
use Rattle.wf_updates.proofs.Tabled.{none_entered}
use Rattle.wf_updates.proofs.after.next_after.Goals as goal

pub returns-then-have_no_outer : goal.returns-then-have_no_outer
returns-then-have_no_outer c =
    let none : list_all (λ update. length update.outer == 0) c.args.all.now ≡ true = sym c.have_no_outer.ensures ∙ c.if-have_no_outer.true in
    c.new.ensures ∙ none_entered (known_to c.args.part.now) c.args.all.now none
