use Rattle.std.proofs.Common.{◌≡◌, ◌∙◌, ◌+◌, ◌≤◌, List, ℕ, Result, length, refl, sym, ap, subst, rules, arith}
use Rattle.std.specs.Prelude.{Ok, Err, IfErr, IsErrAnd}
use Rattle.wf_trail.specs.declared.fault.TrailFault.{TrailFault}
use Rattle.wf_trail.specs.declared.shelf.Trails.{Trails}
use Rattle.wf_trail.specs.Images.{MayTell, trail_from}
use Rattle.wf_trail.specs.Shelves.{KeepsDisks, IsOfDisk, IsOfUnits}
use Rattle.wf_trail.specs.Telling.{IsFree, HasCauses}
use Rattle.wf_trail.proofs.Texts.{from_tells, none_tell, names_split, no_names}
use Rattle.wf_trail.proofs.Leaving.{nothing_left, tells_others, is_out, all_kept, none_causes, none_named, rose_on}
use Rattle.wf_trail.proofs.Crashes.{unread, nothing_lost, all_left}
use Rattle.wf_trail.proofs.shelf.+trail_from.Goals as goal

-- ---- no unit

pub returns-in_default-clause-text : goal.returns-in_default-clause-text
returns-in_default-clause-text g t c = λ images tells.
    let P : List (List ℕ) → Type 0 = λ names. MayTell (trail_from c.args.checked.now images c.args.unit.0 names) (Ok c.new.result) in
    subst P (sym (no_names c.args.names.now c.in_default.len_below)) (none_tell c.args.checked.now images c.args.unit.0 c.new.result c.new.ensures)

pub returns-in_default-clause-disks : goal.returns-in_default-clause-disks
returns-in_default-clause-disks g t c = nothing_left (g.H.DiskShelf.told c.args.shelf.now)

pub returns-in_default-clause-bodies : goal.returns-in_default-clause-bodies
returns-in_default-clause-bodies g t c = nothing_lost (g.H.DiskShelf.told c.args.shelf.now)

pub returns-in_default-clause-causes : goal.returns-in_default-clause-causes
returns-in_default-clause-causes g t c = none_causes (g.H.DiskShelf.told c.args.shelf.now) c.new.result

pub returns-in_default-clause-units : goal.returns-in_default-clause-units
returns-in_default-clause-units g t c = none_named (length c.args.checked.now.units) c.new.result

-- ---- a disk that isn't handed out

pub returns-in_err-disk-clause-free : goal.returns-in_err-disk-clause-free
returns-in_err-disk-clause-free g t c =
    let is : c.from_residual.result ≡ Err c.in_err-disk.field-0.0 = search rules in
    subst (λ (r : Result Trails TrailFault). IfErr r IsFree) (sym is) c.in_err-disk.ensures.free

pub returns-in_err-disk-clause-disks : goal.returns-in_err-disk-clause-disks
returns-in_err-disk-clause-disks g t c = c.in_err-disk.ensures.kept

pub returns-in_err-disk-clause-bodies : goal.returns-in_err-disk-clause-bodies
returns-in_err-disk-clause-bodies g t c = c.in_err-disk.ensures.bodies

pub returns-in_err-disk-clause-later : goal.returns-in_err-disk-clause-later
returns-in_err-disk-clause-later g t c = c.take_disk.ensures.later

pub returns-in_err-disk-clause-rose : goal.returns-in_err-disk-clause-rose
returns-in_err-disk-clause-rose g t c = λ of.
    let is : c.from_residual.result ≡ Err c.in_err-disk.field-0.0 = search rules in
    c.in_err-disk.ensures.rose (subst (λ (r : Result Trails TrailFault). IsErrAnd r IsOfDisk) is of)

pub returns-in_err-disk-clause-unit : goal.returns-in_err-disk-clause-unit
returns-in_err-disk-clause-unit g t c =
    let is : c.from_residual.result ≡ Err c.in_err-disk.field-0.0 = search rules in
    subst (λ (r : Result Trails TrailFault). IfErr r (IsOfUnits (length c.args.checked.now.units))) (sym is) (c.in_err-disk.ensures.unit (length c.args.checked.now.units) (omega arith))

-- ---- the disks behind this one were taken, read and given back

pub tell_unit-requires-clause-out : goal.tell_unit-requires-clause-out
tell_unit-requires-clause-out g t c = λ _ _. is_out _ _ _ _ _ c.in_ok-disk.ensures.taken c.trail_from.ensures.disks

pub tell_unit-requires-clause-sound : goal.tell_unit-requires-clause-sound
tell_unit-requires-clause-sound g t c = λ _ _. c.in_ok-disk.ensures.taken.no_faults

pub returns-in-Ok-clause-text : goal.returns-in-Ok-clause-text
returns-in-Ok-clause-text g t c = λ images tells.
    let P : List (List ℕ) → Type 0 = λ names. MayTell (trail_from c.args.checked.now images c.args.unit.0 names) c.tell_unit.result.text in
    let goes = c.in_ok-disk.ensures.taken in
    subst P (sym (names_split c.args.names.now _ c.in-len1-up.len_at_least c.name-item.is))
    (from_tells c.args.checked.now images c.args.unit.0 _ _ _ _ _ c.tell_unit.ensures.text (goes.image ∙ tells _ goes.stood)
    (c.in-Ok.ensures.text images (tells_others _ _ _ _ images goes c.take_disk.ensures.others tells)))

pub returns-in-Ok-clause-disks : goal.returns-in-Ok-clause-disks
returns-in-Ok-clause-disks g t c = all_kept _ _ _ _ _ _ c.in_ok-disk.ensures.taken c.take_disk.ensures.others c.trail_from.ensures.disks c.tell_unit.ensures.back

pub returns-in-Ok-clause-bodies : goal.returns-in-Ok-clause-bodies
returns-in-Ok-clause-bodies g t c = λ images tells.
    all_left _ _ _ _ _ _ c.in_ok-disk.ensures.taken c.take_disk.ensures.others c.trail_from.ensures.disks c.trail_from.ensures.bodies c.tell_unit.ensures.back images tells

pub returns-in-Ok-clause-causes : goal.returns-in-Ok-clause-causes
returns-in-Ok-clause-causes g t c =
    let P : ℕ → Type 0 = λ n. HasCauses n (g.H.DiskShelf.told c.trail_from.new.shelf).faults c.in-Ok.rest in
    c.tell_unit.ensures.causes (g.H.DiskShelf.told c.args.shelf.now).faults (subst P c.in_ok-disk.ensures.same c.in-Ok.ensures.causes)

pub returns-in-Ok-clause-later : goal.returns-in-Ok-clause-later
returns-in-Ok-clause-later g t c = let causes = returns-in-Ok-clause-causes g t c in causes.later

pub returns-in-Ok-clause-units : goal.returns-in-Ok-clause-units
returns-in-Ok-clause-units g t c = c.tell_unit.ensures.units c.in-Ok.ensures.units

-- ---- one of them wasn't handed out

pub give-requires : goal.give-requires
give-requires g t c = record { out = is_out _ _ _ _ _ c.in_ok-disk.ensures.taken c.trail_from.ensures.disks }

pub returns-in-Err-clause-disks : goal.returns-in-Err-clause-disks
returns-in-Err-clause-disks g t c =
    all_kept _ _ _ _ _ _ c.in_ok-disk.ensures.taken c.take_disk.ensures.others c.trail_from.ensures.disks
    (unread _ _ _ _ c.is_a_disk.ensures c.give.ensures.given c.give.ensures.others)

pub returns-in-Err-clause-bodies : goal.returns-in-Err-clause-bodies
returns-in-Err-clause-bodies g t c = λ images tells.
    all_left _ _ _ _ _ _ c.in_ok-disk.ensures.taken c.take_disk.ensures.others c.trail_from.ensures.disks c.trail_from.ensures.bodies
    (unread _ _ _ _ c.is_a_disk.ensures c.give.ensures.given c.give.ensures.others) images tells

pub returns-in-Err-clause-later : goal.returns-in-Err-clause-later
returns-in-Err-clause-later g t c = let same = c.in_ok-disk.ensures.same in let more = c.give.ensures.cause.later in omega (arith, same, more, c.trail_from.ensures.later)

pub returns-in-Err-clause-rose : goal.returns-in-Err-clause-rose
returns-in-Err-clause-rose g t c = λ of. rose_on _ _ _ _ c.in_ok-disk.ensures.same (c.in-Err.ensures.rose of) c.give.ensures.cause.later
