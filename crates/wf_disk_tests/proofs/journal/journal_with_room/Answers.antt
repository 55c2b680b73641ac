use Rattle.std.proofs.Common.{rules, arith, ◌≡◌, ◌+◌, ◌*◌, sym, subst}
use Rattle.wf_disk.specs.Memory.{Held, told_of}
use Rattle.wf_disk_tests.proofs.journal.journal_with_room.Goals as goal

pub returns-clause-disk : goal.returns-clause-disk
returns-clause-disk c =
    let made = c.in_ok-reserve.ensures.room in
    let left = c.in_ok-journal.ensures 4 (2 * (c.args.len + 6)) (omega (arith, made.0), omega (arith, made.1, c.from.ensures)) in
    let disk : c.reserve-2.new.self.disk ≡ c.in_ok-journal.journal.disk = search rules in
    subst (λ (d : Held). (told_of d).has_room 4 (2 * (c.args.len + 6))) (sym disk) left
