use Rattle.std.proofs.Common.{◌≡◌, ◌∙◌, None, ap, rules}
use Rattle.wf_histories.specs.Histories.{History}
use Rattle.wf_world.specs.Fleets.{units_of}
use Rattle.wf_world.specs.Sounds.{hist_of}
use Rattle.wf_top.proofs.Plays.{if_ok}
use Rattle.wf_top.proofs.Summaries.{entry_is, no_entry}
use Rattle.wf_top.proofs.summary.entry_at.Goals as goal

pub returns-in-Some : goal.returns-in-Some
returns-in-Some c =
    let world = c.args.world.now in
    let xs = c.admissions.result.now in
    let past : xs ≡ (hist_of (units_of world.slots) c.args.place.unit.0).admissions =
    c.admissions.ensures ∙ ap (λ (h : History). h.admissions) c.in-Some.ensures.past in
    if_ok c.entry_numbered.result (λ entry is. is ∙ entry_is world c.args.place xs past) c.entry_numbered.ensures

pub returns-in-None : goal.returns-in-None
returns-in-None c = let none : c.history.result ≡ None = search rules in no_entry c.args.world.now c.args.place (c.history.ensures.none.0 none)
