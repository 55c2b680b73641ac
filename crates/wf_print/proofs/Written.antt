-- What stands after several pieces were appended, the last of which may have failed.
use Rattle.std.proofs.Common.{◌≡◌, ℕ, List, ◌++◌, Result, sym, ◌∙◌, ap}
use Rattle.std.specs.Result.{OnOk}
use Rattle.std.proofs.lemmas.Result.{on_ok_weaker}
use Rattle.std.proofs.lemmas.List.{append_assoc}

pub three_written : {E : Type 0} (r : Result (Unit {0}) E) (t0 t1 t2 t3 a b c whole : List ℕ) → t1 ≡ t0 ++ a → t2 ≡ t1 ++ b → whole ≡ a ++ b ++ c
    → OnOk r (t3 ≡ t2 ++ c) → OnOk r (t3 ≡ t0 ++ whole)
three_written r t0 t1 t2 t3 a b c whole first second is third =
    on_ok_weaker r
    (λ (e : t3 ≡ t2 ++ c).
    e ∙ ap (λ (t : List ℕ). t ++ c) (second ∙ ap (λ (t : List ℕ). t ++ b) first ∙ append_assoc t0 a b) ∙ append_assoc t0 (a ++ b) c
    ∙ ap (λ (t : List ℕ). t0 ++ t) (sym is))
    third

pub five_written : {E : Type 0} (r : Result (Unit {0}) E) (t0 t1 t2 t3 t4 t5 a b c d e whole : List ℕ) → t1 ≡ t0 ++ a → t2 ≡ t1 ++ b → t3 ≡ t2 ++ c → t4 ≡ t3 ++ d
    → whole ≡ a ++ b ++ c ++ d ++ e → OnOk r (t5 ≡ t4 ++ e) → OnOk r (t5 ≡ t0 ++ whole)
five_written r t0 t1 t2 t3 t4 t5 a b c d e whole p q s u is last =
    three_written r t0 t3 t4 t5 (a ++ b ++ c) d e whole
    (s ∙ ap (λ (t : List ℕ). t ++ c) (q ∙ ap (λ (t : List ℕ). t ++ b) p ∙ append_assoc t0 a b) ∙ append_assoc t0 (a ++ b) c)
    u is last
