use Rattle.std.proofs.Common.{rules, ◌≡◌, ◌↔◌, ◌==◌, true, subst, sym}
use Rattle.wf_model.specs.Faults.{last_count}
use Rattle.wf_disk.specs.Disk.{IsDown}
use Rattle.wf_disk.specs.Memory.{has_stopped, told_of}
use Rattle.wf_disk.proofs.Plans.{down_is_stopped}
use Rattle.wf_disk.proofs.memory.MemDisk.stopped.Goals as goal

pub returns-then-is_some-clause-down : goal.returns-then-is_some-clause-down
returns-then-is_some-clause-down c early =
    let is : has_stopped c.args.self.now ≡ c.is_some.result = search rules in
    subst (λ b. (b ≡ true) ↔ IsDown (told_of c.args.self.now)) is (down_is_stopped c.args.self.now early)

pub returns-else-is_some-clause-down : goal.returns-else-is_some-clause-down
returns-else-is_some-clause-down c early =
    let is : (c.self.inside.clock == last_count) ≡ has_stopped c.args.self.now = search rules in
    subst (λ b. (b ≡ true) ↔ IsDown (told_of c.args.self.now)) (sym is) (down_is_stopped c.args.self.now early)
