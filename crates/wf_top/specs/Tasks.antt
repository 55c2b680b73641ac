-- What may come of a task that reads an input.
use Rattle.std.specs.Prelude.{◌≡◌, ℕ, List}
use Rattle.wf_model.specs.Faults.{Rose}
use Rattle.wf_model.specs.declared.status.Status.{Status}
use Rattle.wf_model.specs.declared.status.Status.TheVariants as status
use Rattle.wf_disk.specs.Shelf.{ShelfTold}
use Rattle.wf_top.specs.declared.command.Task.{Task}
use Rattle.wf_top.specs.declared.command.Task.TheVariants as task
use Rattle.wf_top.specs.declared.answer.Answer.{Answer}
use Rattle.wf_top.specs.Answers.{MayGive}
use Rattle.wf_top.specs.Trails.{MayTrail}

-- The task may end with this status once it has read its input, by the shelf's counts of faults before and after it. Only the trail
-- asks for disks: it says that one failed only if the count rose, and that all is well only if it didn't.
abbrev pub HasStatus : Task → Status → ℕ → ℕ → Type 0
HasStatus t status.Ok before now = now ≡ before
HasStatus t status.ChartRefused before now = Unit {0}
HasStatus t status.Limit before now = Unit {0}
HasStatus (task.Run command) status.ScriptRefused before now = Unit {0}
HasStatus task.Trail status.DiskFault before now = Rose before now
HasStatus task.Trail status.Journals before now = Unit {0}
HasStatus _ _ before now = ⊥

-- this answer may come of an input, and of the shelf as it is before
abbrev pub MayCome : Task → ShelfTold → List ℕ → Answer → Type 0
MayCome (task.Run command) shelf input a = MayGive command input a
MayCome task.Trail shelf input a = MayTrail shelf input a
