use Rattle.std.proofs.Common.{◌∙◌}
use Rattle.wf_trail.proofs.Leaving.{all_causes}
use Rattle.wf_trail.proofs.Crashes.{comes_back}
use Rattle.wf_trail.proofs.shelf.tell_unit.Goals as goal

pub returns-clause-text : goal.returns-clause-text
returns-clause-text g c = λ file others image rest. c.join.ensures.text _ others (c.read_unit-disk.ensures.text file image) rest

pub returns-clause-back : goal.returns-clause-back
returns-clause-back g c =
    comes_back c.args.name.now _ _ _ _ c.read_unit-disk.ensures.lawful c.give-given.ensures.given c.read_unit-disk.ensures.crash c.give-given.ensures.others c.read_unit-disk.ensures.image

pub returns-clause-causes : goal.returns-clause-causes
returns-clause-causes g c = λ before causes.
    all_causes before (g.H.DiskShelf.told c.args.shelf.now) (g.H.DiskShelf.told c.give-given.new.self) _ _ c.args.unit c.read_unit-disk.result.text c.args.rest c.join.result c.give-given.result
    c.requires.sound c.read_unit-disk.ensures.cause c.give-given.ensures.cause causes c.join.ensures.cause c.join.ensures.both c.join.ensures.lost

pub returns-clause-units : goal.returns-clause-units
returns-clause-units g c = λ named. c.join.ensures.unit _ c.requires.within c.read_unit-disk.ensures.unit named
