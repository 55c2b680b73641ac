use Rattle.std.proofs.Common.{◌≡◌, length, map, refl, arith, ap, ◌∙◌}
use Rattle.std.specs.List.{range_with_len}
use Rattle.wf_parts.specs.declared.data.Flat.{Flat}
use Rattle.wf_model.proofs.Rows.{row_at, row_len}
use Rattle.wf_parts.specs.Components.{flat_of, component_of}
use Rattle.wf_ortho.proofs.lines.guard_text.Goals as goal

pub bounds-as_slice-s : goal.bounds-as_slice-s
unfolding flat_of
bounds-as_slice-s c =
    omega (arith, row_len (component_of c.args.checked.now) (length c.args.checked.now.states) c.as_slice.result.now (c.as_slice.ensures ∙ ap (λ (f : Flat). f.components) c.requires.flat))

pub returns : goal.returns
unfolding flat_of
returns c =
    let rows : c.as_slice.result.now ≡ map (component_of c.args.checked.now) (range_with_len 0 (length c.args.checked.now.states)) =
    c.as_slice.ensures ∙ ap (λ (f : Flat). f.components) c.requires.flat in
    let item : c.index-as_slice-s.result ≡ component_of c.args.checked.now c.args.s.0 =
    c.index-as_slice-s.is ∙ row_at (component_of c.args.checked.now) (length c.args.checked.now.states) c.args.s.0 c.index-as_slice-s.result c.as_slice.result.now rows c.requires.within in
    c.in_ok-add_component.ensures ∙ rw (c.new-text.ensures, c.chart.ensures.same, item) refl
