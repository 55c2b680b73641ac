use Rattle.std.proofs.Common.{◌∙◌, List, ap}
use Rattle.std.proofs.lemmas.Result.{on_ok_weaker}
use Rattle.wf_model.specs.declared.ids.TransId.{TransId}
use Rattle.wf_model.specs.declared.chart.Action.{Action}
use Rattle.wf_flat.specs.declared.gathered.Gathered.{Gathered}
use Rattle.wf_flat.specs.Gathering.{performed}
use Rattle.wf_flat.specs.Sighted.{shown_by}
use Rattle.wf_flat.proofs.Gathering.{gathered_more}
use Rattle.wf_flat.proofs.gathered.Gathered.fire.Goals as goal

pub returns : goal.returns
returns c =
    let seen = (shown_by c.args.sight.now).seen in
    let trans = c.args.trans.now in
    let old = c.args.self.now in
    let mid : Gathered = record old { fired = c.push.new.self } in
    on_ok_weaker c.perform_all.result
    (λ now before start. gathered_more seen before trans old mid c.perform_all.new.self start (ap (λ (l : List TransId). record old { fired = l }) c.in_ok-push.ensures.ok)
    (now ∙ ap (λ (l : List Action). performed seen trans.id.0 0 l mid) c.as_slice.ensures))
    c.perform_all.ensures
