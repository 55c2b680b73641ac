use Rattle.std.proofs.Common.{refl, arith, ◌≡◌, length, take, drop}
use Rattle.std.proofs.lemmas.List.{drop-drop, length-drop, length-take-le}
use Rattle.wf_cursor.specs.Input.{next}
use Rattle.wf_cursor.proofs.cursor.Cursor.take.Goals as goal

pub returns-then-self-clause-next : goal.returns-then-self-clause-next
unfolding next
returns-then-self-clause-next c =
    let one : length (take 1 (drop c.self.inside.at c.self.inside.tokens.now)) ≡ 1 =
    length-take-le 1 (drop c.self.inside.at c.self.inside.tokens.now) (omega (arith, length-drop c.self.inside.at c.self.inside.tokens.now)) in
    rw (← c.self.view_is) (rw (one, drop-drop) refl)

pub returns-then-self-clause-left : goal.returns-then-self-clause-left
returns-then-self-clause-left c = rw (← c.self.view_is) (rw drop-drop refl)
