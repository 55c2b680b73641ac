use Rattle.std.proofs.Common.{◌≡◌, ap, sym, ◌∙◌, Some, None, length}
use Rattle.std.specs.List.{slice_get}
use Rattle.std.specs.Option.{option_copied}
use Rattle.wf_semantics.specs.Configuration.{is_in}
use Rattle.wf_semantics.specs.Entry.{entry_tree}
use Rattle.wf_scopes.specs.Tables.{Tables, entries_of, entry_row}
use Rattle.wf_model.proofs.Rows.{row_get}
use Rattle.wf_scopes.proofs.scopes.Scopes.enters.Goals as goal

pub returns-in-Some-get : goal.returns-in-Some-get
unfolding entries_of
returns-in-Some-get c = λ chart of lt within.
    let there : slice_get c.self.inside.entries c.args.t.0 ≡ Some (entry_row chart c.args.t.0) = row_get (entry_row chart) (length chart.transitions) c.args.t.0 c.self.inside.entries (ap (λ (x : Tables). x.entries) (c.self.view_is ∙ of)) lt in
    let here : Some c.in-Some.row.now ≡ slice_get c.self.inside.entries c.args.t.0 = sym (ap option_copied c.in-Some.is) ∙ c.get.ensures.value in
    let both : Some c.in-Some.row.now ≡ Some (entry_row chart c.args.t.0) = here ∙ there in
    let row : c.in-Some.row.now ≡ entry_row chart c.args.t.0 = cc in
    let bit : slice_get c.in-Some.row.now c.args.s.0 ≡ Some (is_in c.args.s.0 (entry_tree chart c.args.t.0)) = row_get (λ z. is_in z (entry_tree chart c.args.t.0)) (length chart.states) c.args.s.0 c.in-Some.row.now row within in
    let found : Some c.in-Some-get.enters.now ≡ slice_get c.in-Some.row.now c.args.s.0 = sym (ap option_copied c.in-Some-get.is) ∙ c.get-in-Some.ensures.value in
    let last : Some c.in-Some-get.enters.now ≡ Some (is_in c.args.s.0 (entry_tree chart c.args.t.0)) = found ∙ bit in
    cc

pub returns-in-None-get : goal.returns-in-None-get
unfolding entries_of
returns-in-None-get c = λ chart of lt within.
    let there : slice_get c.self.inside.entries c.args.t.0 ≡ Some (entry_row chart c.args.t.0) = row_get (entry_row chart) (length chart.transitions) c.args.t.0 c.self.inside.entries (ap (λ (x : Tables). x.entries) (c.self.view_is ∙ of)) lt in
    let here : Some c.in-Some.row.now ≡ slice_get c.self.inside.entries c.args.t.0 = sym (ap option_copied c.in-Some.is) ∙ c.get.ensures.value in
    let both : Some c.in-Some.row.now ≡ Some (entry_row chart c.args.t.0) = here ∙ there in
    let row : c.in-Some.row.now ≡ entry_row chart c.args.t.0 = cc in
    let bit : slice_get c.in-Some.row.now c.args.s.0 ≡ Some (is_in c.args.s.0 (entry_tree chart c.args.t.0)) = row_get (λ z. is_in z (entry_tree chart c.args.t.0)) (length chart.states) c.args.s.0 c.in-Some.row.now row within in
    let found : None ≡ slice_get c.in-Some.row.now c.args.s.0 = sym (ap option_copied c.in-None-get.is) ∙ c.get-in-Some.ensures.value in
    let last : None ≡ Some (is_in c.args.s.0 (entry_tree chart c.args.t.0)) = found ∙ bit in
    cc

pub returns-in-None : goal.returns-in-None
unfolding entries_of
returns-in-None c = λ chart of lt within.
    let there : slice_get c.self.inside.entries c.args.t.0 ≡ Some (entry_row chart c.args.t.0) = row_get (entry_row chart) (length chart.transitions) c.args.t.0 c.self.inside.entries (ap (λ (x : Tables). x.entries) (c.self.view_is ∙ of)) lt in
    let here : None ≡ slice_get c.self.inside.entries c.args.t.0 = sym (ap option_copied c.in-None.is) ∙ c.get.ensures.value in
    let both : None ≡ Some (entry_row chart c.args.t.0) = here ∙ there in
    cc
