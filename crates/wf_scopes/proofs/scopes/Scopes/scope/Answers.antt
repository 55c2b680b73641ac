use Rattle.std.proofs.Common.{◌≡◌, ap, sym, ◌∙◌, Some, None, length}
use Rattle.std.specs.List.{slice_get}
use Rattle.std.specs.Option.{option_copied}
use Rattle.wf_model.specs.declared.ids.StateId.{StateId}
use Rattle.wf_model.specs.Tree.{scope}
use Rattle.wf_model.specs.Ids.{state_id}
use Rattle.wf_scopes.specs.Tables.{Tables, scopes_of}
use Rattle.wf_model.proofs.Rows.{row_get}
use Rattle.wf_scopes.proofs.scopes.Scopes.scope.Goals as goal

pub returns-in-Some : goal.returns-in-Some
unfolding scopes_of
returns-in-Some c = λ chart of lt.
    let there : slice_get c.self.inside.scopes c.args.t.0 ≡ Some (state_id (scope chart c.args.t.0)) = row_get ((λ t. state_id (scope chart t))) (length chart.transitions) c.args.t.0 c.self.inside.scopes (ap (λ (x : Tables). x.scopes) (c.self.view_is ∙ of)) lt in
    let here : Some c.in-Some.scope.now ≡ slice_get c.self.inside.scopes c.args.t.0 = sym (ap option_copied c.in-Some.is) ∙ c.get.ensures.value in
    let both : Some c.in-Some.scope.now ≡ Some (state_id (scope chart c.args.t.0)) = here ∙ there in
    let same : c.in-Some.scope.now ≡ state_id (scope chart c.args.t.0) = cc in
    ap (λ (s : StateId). s.0) same

pub returns-in-None : goal.returns-in-None
unfolding scopes_of
returns-in-None c = λ chart of lt.
    let there : slice_get c.self.inside.scopes c.args.t.0 ≡ Some (state_id (scope chart c.args.t.0)) = row_get ((λ t. state_id (scope chart t))) (length chart.transitions) c.args.t.0 c.self.inside.scopes (ap (λ (x : Tables). x.scopes) (c.self.view_is ∙ of)) lt in
    let here : None ≡ slice_get c.self.inside.scopes c.args.t.0 = sym (ap option_copied c.in-None.is) ∙ c.get.ensures.value in
    let both : None ≡ Some (state_id (scope chart c.args.t.0)) = here ∙ there in
    cc
