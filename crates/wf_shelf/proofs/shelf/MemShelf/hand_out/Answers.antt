use Rattle.std.proofs.Common.{◌≡◌, List, ℕ, Option, None, Some, position, option_map, slice_set, refl, sym, ap, ◌∙◌}
use Rattle.wf_shelf.specs.declared.place.Place.{Place}
use Rattle.wf_shelf.specs.Places.{place_of, emptied, handed_from, is_named}
use Rattle.wf_shelf.specs.Shelves.{Shelved}
use Rattle.wf_shelf.proofs.Written.{IsWritten, written, none_of}
use Rattle.wf_shelf.proofs.shelf.MemShelf.hand_out.Goals as goal

-- what was written, by the name that was sought
is_written : (c : goal.After-self-1) → IsWritten c.args.unit.now c.self.inside.places.items (slice_set c.self.inside.places.items c.in-Some.at c.take.new.self) c.index_mut.result.now c.take.new.self
is_written c =
    let at : position (is_named c.args.unit.now) c.self.inside.places.items ≡ Some c.in-Some.at = cc in
    written c.args.unit.now c.self.inside.places.items c.in-Some.at c.index_mut.result.now c.take.new.self at c.index_mut.ensures.value (ap (λ (p : Place). p.name) c.take.ensures.place)

-- what stood there
was_there : (c : goal.After-self-1) → place_of c.args.unit.now c.args.self.now.places ≡ Some c.index_mut.result.now
was_there c = ap (λ (s : Shelved). place_of c.args.unit.now s.places) (sym c.self.view_is) ∙ (is_written c).before

pub returns-in-Some-clause-disk : goal.returns-in-Some-clause-disk
returns-in-Some-clause-disk c = c.take.ensures.disk ∙ ap handed_from (sym (was_there c))

pub returns-in-Some-clause-place : goal.returns-in-Some-clause-place
returns-in-Some-clause-place c = (is_written c).after ∙ ap Some c.take.ensures.place ∙ ap (option_map emptied) (sym (was_there c))

pub returns-in-Some-clause-others : goal.returns-in-Some-clause-others
returns-in-Some-clause-others c name differs =
    (is_written c).others name differs ∙ ap (λ (s : Shelved). place_of name s.places) c.self.view_is

pub returns-in-None-clause-disk : goal.returns-in-None-clause-disk
returns-in-None-clause-disk c =
    let at : position (is_named c.args.unit.now) c.self.inside.places.items ≡ None = cc in
    let none : place_of c.args.unit.now c.args.self.now.places ≡ None =
    ap (λ (s : Shelved). place_of c.args.unit.now s.places) (sym c.self.view_is) ∙ none_of c.args.unit.now c.self.inside.places.items at in
    sym (ap handed_from none)

pub returns-in-None-clause-place : goal.returns-in-None-clause-place
returns-in-None-clause-place c =
    let at : position (is_named c.args.unit.now) c.self.inside.places.items ≡ None = cc in
    let none : place_of c.args.unit.now c.args.self.now.places ≡ None =
    ap (λ (s : Shelved). place_of c.args.unit.now s.places) (sym c.self.view_is) ∙ none_of c.args.unit.now c.self.inside.places.items at in
    none ∙ sym (ap (option_map emptied) none)
