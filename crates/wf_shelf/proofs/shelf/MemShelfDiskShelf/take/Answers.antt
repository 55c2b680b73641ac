use Rattle.std.proofs.Common.{◌≡◌, ◌≢◌, Bool, not, true, false, List, ℕ, Option, None, Some, Ok, IsOk, is_some, ◌≤◌, refl, sym, ap, arith, ◌∙◌}
use Rattle.std.proofs.lemmas.Bool.{false≢true}
use Rattle.wf_model.specs.Faults.{one_more}
use Rattle.wf_shelf.specs.declared.place.Place.{Place}
use Rattle.wf_shelf.specs.Places.{place_of, new_place}
use Rattle.wf_shelf.specs.Shelves.{Shelved}
use Rattle.wf_shelf.proofs.Written.{added, others_added}
use Rattle.wf_shelf.proofs.Tells.{keeps, takes_new}
use Rattle.wf_shelf.proofs.shelf.MemShelfDiskShelf.take.Goals as goal

none_where_no : (o : Option Place) → false ≡ is_some o → o ≡ None
none_where_no None isnt = refl
none_where_no (Some place) isnt = absurd (false≢true isnt)

-- the name was new
was_none : (c : goal.In-Ok) → place_of c.args.unit.now c.args.self.now.places ≡ None
was_none c = none_where_no (place_of c.args.unit.now c.args.self.now.places) (sym c.if-not-has_place.true ∙ c.has_place.ensures)

pub returns-in-Ok-clause-taken : goal.returns-in-Ok-clause-taken
returns-in-Ok-clause-taken c =
    let after : place_of c.args.unit.now c.add.new.self.places ≡ Some (new_place c.args.unit.now) =
    ap (λ (s : Shelved). place_of c.args.unit.now s.places) (c.in-Ok.ensures.ok refl) ∙ added c.args.unit.now c.args.self.now.places (was_none c) in
    takes_new c.args.unit.now c.args.self.now c.add.new.self c.in-Ok.disk (was_none c) after c.in-Ok.ensures.disk

pub returns-in-Ok-clause-others : goal.returns-in-Ok-clause-others
returns-in-Ok-clause-others c name differs =
    keeps name c.args.self.now c.add.new.self
    (ap (λ (s : Shelved). place_of name s.places) (c.in-Ok.ensures.ok refl) ∙ others_added c.args.unit.now name c.args.self.now.places differs)

pub returns-in-None-clause-cause : goal.returns-in-None-clause-cause
returns-in-None-clause-cause c = record {
  later = omega (arith, c.count_fault.ensures.later, c.hand_out.ensures.faults);
  rose = λ failure. omega (arith, ap (λ (s : Shelved). s.faults) c.count_fault.ensures.next, c.hand_out.ensures.faults);
  kept = λ sound. absurd (sound refl);
}
