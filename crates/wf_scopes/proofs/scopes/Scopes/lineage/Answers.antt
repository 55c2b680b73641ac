use Rattle.std.proofs.Common.{◌≡◌, ap, sym, ◌∙◌, Some, None, length}
use Rattle.std.specs.List.{slice_get}
use Rattle.std.specs.Option.{option_copied}
use Rattle.wf_scopes.specs.Tables.{Tables, lineages_of, ancestor_ids}
use Rattle.wf_model.proofs.Rows.{row_get}
use Rattle.wf_scopes.proofs.scopes.Scopes.lineage.Goals as goal

pub returns-in-Some : goal.returns-in-Some
unfolding lineages_of
returns-in-Some c = λ chart of lt.
    let there : slice_get c.self.inside.lineages c.args.s.0 ≡ Some (ancestor_ids chart c.args.s.0) = row_get (ancestor_ids chart) (length chart.states) c.args.s.0 c.self.inside.lineages (ap (λ (x : Tables). x.lineages) (c.self.view_is ∙ of)) lt in
    let here : Some c.in-Some.ids.now ≡ slice_get c.self.inside.lineages c.args.s.0 = sym (ap option_copied c.in-Some.is) ∙ c.get.ensures.value in
    let both : Some c.in-Some.ids.now ≡ Some (ancestor_ids chart c.args.s.0) = here ∙ there in
    let same : c.in-Some.ids.now ≡ ancestor_ids chart c.args.s.0 = cc in
    c.as_slice.ensures ∙ same

pub returns-in-None : goal.returns-in-None
unfolding lineages_of
returns-in-None c = λ chart of lt.
    let there : slice_get c.self.inside.lineages c.args.s.0 ≡ Some (ancestor_ids chart c.args.s.0) = row_get (ancestor_ids chart) (length chart.states) c.args.s.0 c.self.inside.lineages (ap (λ (x : Tables). x.lineages) (c.self.view_is ∙ of)) lt in
    let here : None ≡ slice_get c.self.inside.lineages c.args.s.0 = sym (ap option_copied c.in-None.is) ∙ c.get.ensures.value in
    let both : None ≡ Some (ancestor_ids chart c.args.s.0) = here ∙ there in
    cc
