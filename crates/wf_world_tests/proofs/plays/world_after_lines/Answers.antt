use Rattle.std.proofs.Common.{◌≡◌, true, Result, Ok, Err, sym, ◌∙◌}
use Rattle.std.specs.Prelude.{is_ok, IfOk}
use Rattle.wf_world.proofs.Working.{ended_work}
use Rattle.wf_world_tests.proofs.plays.world_after_lines.Goals as goal

-- what holds of the value of an `Ok`
of_ok : {A B : Type 0} (P : Type 0) (F : A → Type 0) (r : Result A B) → is_ok r ≡ true → IfOk r F → ((x : A) → F x → P) → P
of_ok P F (Ok x) ok f made = made x f
of_ok P F (Err y) ok f made = absurd (cc ok)

pub returns-then-is_played : goal.returns-then-is_played
returns-then-is_played c =
    of_ok _ _ c.drive-driven.result (sym c.is_ok-is_played.ensures.value ∙ c.if-is_played.true) c.drive-driven.ensures.run
    (λ driven run. ended_work run.0 driven.ending c.drive-driven.new.servers run.2)
