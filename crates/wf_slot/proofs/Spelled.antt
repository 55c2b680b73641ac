-- A letter has a byte.
use Rattle.std.proofs.Common.{◌≡◌, ℕ, ◌≤◌, List, length, Result, Ok, Err, sym, subst, arith}
use Rattle.std.specs.Prelude.{IfOk}
use Rattle.wf_model.specs.declared.update.Update.{Update}
use Rattle.wf_codec.specs.Spelling.{spelling_of}

pub some_byte : (update : Update) → 1 ≤ length (spelling_of update)
unfolding spelling_of
some_byte update = omega arith

pub ok_some : {E : Type 0} (r : Result (List ℕ) E) (update : Update) → IfOk r (λ bytes. bytes ≡ spelling_of update) → IfOk r (λ bytes. 1 ≤ length bytes)
ok_some (Ok bytes) update is = subst (λ (bs : List ℕ). 1 ≤ length bs) (sym is) (some_byte update)
ok_some (Err fault) update is = tt
