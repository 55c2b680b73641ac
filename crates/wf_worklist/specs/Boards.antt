-- Of other calls. Who did which item.
use Rattle.std.specs.Prelude.{ℕ, Option, nat_eq}
use Rattle.std.specs.HashMap.{get}
use Rattle.wf_worklist.specs.declared.board.Board.{Board}

-- the worker to whom the item with this number was last assigned
abbrev pub worker_at : Board → ℕ → Option ℕ
worker_at b number = get nat_eq b.workers number
