use Rattle.std.proofs.Common.{◌≡◌, Option, ℕ, position, is_some, refl, sym, ap, ◌∙◌}
use Rattle.wf_shelf.specs.Places.{place_of, is_named}
use Rattle.wf_shelf.specs.Shelves.{Shelved}
use Rattle.wf_shelf.proofs.Written.{tells_place}
use Rattle.wf_shelf.proofs.shelf.MemShelf.has_place.Goals as goal

pub returns : goal.returns
returns c =
    let at : position (is_named c.args.unit.now) c.self.inside.places.items ≡ c.find.result = cc in
    let told : c.is_some.result ≡ is_some c.find.result = cc in
    told ∙ tells_place c.args.unit.now c.self.inside.places.items c.find.result at
    ∙ ap (λ (s : Shelved). is_some (place_of c.args.unit.now s.places)) c.self.view_is
