use Rattle.std.proofs.Common.{◌≡◌, List, ℕ, Option, None, Some, position, option_map, slice_set, refl, sym, ap, ◌∙◌}
use Rattle.wf_shelf.specs.declared.place.Place.{Place}
use Rattle.wf_shelf.specs.Places.{place_of, filled, is_named}
use Rattle.wf_shelf.specs.Shelves.{Shelved}
use Rattle.wf_shelf.proofs.Written.{IsWritten, written, none_of}
use Rattle.wf_shelf.proofs.shelf.MemShelf.put.Goals as goal

-- what was written, by the name that was sought
is_written : (c : goal.After-self-1) → IsWritten c.args.unit.now c.self.inside.places.items (slice_set c.self.inside.places.items c.in-Some.at c.put.new.self) c.index_mut.result.now c.put.new.self
is_written c =
    let at : position (is_named c.args.unit.now) c.self.inside.places.items ≡ Some c.in-Some.at = cc in
    written c.args.unit.now c.self.inside.places.items c.in-Some.at c.index_mut.result.now c.put.new.self at c.index_mut.ensures.value (ap (λ (p : Place). p.name) c.put.ensures)

pub returns-in-Some-clause-place : goal.returns-in-Some-clause-place
returns-in-Some-clause-place c =
    let places : c.self.inside.places.items ≡ c.args.self.now.places = ap (λ (s : Shelved). s.places) c.self.view_is in
    (is_written c).after ∙ ap Some c.put.ensures
    ∙ ap (option_map (filled c.args.disk)) (sym (is_written c).before ∙ ap (place_of c.args.unit.now) places)

pub returns-in-Some-clause-others : goal.returns-in-Some-clause-others
returns-in-Some-clause-others c name differs =
    (is_written c).others name differs ∙ ap (λ (s : Shelved). place_of name s.places) c.self.view_is

pub returns-in_default-clause-place : goal.returns-in_default-clause-place
returns-in_default-clause-place c =
    let at : position (is_named c.args.unit.now) c.self.inside.places.items ≡ None = cc in
    let none : place_of c.args.unit.now c.args.self.now.places ≡ None =
    ap (λ (s : Shelved). place_of c.args.unit.now s.places) (sym c.self.view_is) ∙ none_of c.args.unit.now c.self.inside.places.items at in
    rw none refl
