use Rattle.wf_top.proofs.Plays.{if_ok}
use Rattle.wf_top.proofs.Trails.{trail_status}
use Rattle.wf_top.proofs.trail.trail_chart.Goals as goal

pub returns-clause-answer : goal.returns-clause-answer
returns-clause-answer g c =
    if_ok c.answer_by.result (λ a is. (c.trail-found.result, record { told = c.trail-found.ensures.text; unit = c.trail-found.ensures.unit }, is)) c.answer_by.ensures.answer

pub returns-clause-status : goal.returns-clause-status
returns-clause-status g c =
    trail_status c.args.checked.now c.trail-found.result (g.H.DiskShelf.told c.args.shelf.now).faults (g.H.DiskShelf.told c.trail-found.new.shelf).faults c.answer_by.result
    c.answer_by.ensures.answer c.answer_by.ensures.found c.trail-found.ensures.kept c.trail-found.ensures.rose
