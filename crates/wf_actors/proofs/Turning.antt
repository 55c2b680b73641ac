-- How far a unit comes in a round, step by step.
use Rattle.std.proofs.Common.{◌≡◌, ◌⊎◌, ⊎_elim, ℕ, ◌+◌, ◌<◌, ◌≤◌, Bool, true, false, Option, Some, None, refl, sym, ap, subst, arith}
use Rattle.std.specs.Prelude.{IfSome}
use Rattle.wf_histories.specs.Histories.{taken}
use Rattle.wf_server.specs.Servers.{Server}
use Rattle.wf_server.specs.Inbox.{AllCame}
use Rattle.wf_actors.specs.Moves.{IsBelow}

-- one step more, if the target is further on, is none past it
pub next_within : (target : Option ℕ) (first before now : ℕ) → IsBelow target before → now ≤ before + 1 → IfSome target (λ t. first ≤ t → now ≤ t)
next_within None first before now below most = tt
next_within (Some t) first before now below most = λ le. omega (arith, below, most)

by_bool : {P : Type 0} (b : Bool) → (b ≡ true → P) → (b ≡ false → P) → P
by_bool true = λ yes no. yes refl
by_bool false = λ yes no. no refl

-- Once a step is taken, one is taken; and the first call takes one, if the updates of the next step had come.
pub goes_on : {D : Type 0} (first before now : Server D) (turns : ℕ) (went : Bool)
    → (taken first.past < taken before.past) ⊎ ((turns ≡ 0) × (before ≡ first)) → taken before.past ≤ taken now.past
    → (went ≡ true → taken now.past ≡ taken before.past + 1) → (went ≡ false → AllCame before.part before.came → ⊥)
    → AllCame first.part first.came → taken first.past < taken now.past
goes_on {D = D} first before now turns went was on one waits all =
    ⊎_elim (λ lt. omega (arith, lt, on))
    (λ same.
    by_bool went
    (λ yes. let step = one yes in let is = ap (λ (s : Server D). taken s.past) same.1 in omega (arith, step, is))
    (λ no. absurd (waits no (subst (λ (s : Server D). AllCame s.part s.came) (sym same.1) all))))
    was
