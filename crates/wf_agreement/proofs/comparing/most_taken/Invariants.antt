use Rattle.std.proofs.Common.{◌≡◌, ℕ, map, length}
use Rattle.std.specs.List.{range_with_len}
use Rattle.wf_histories.specs.Histories.{History}
use Rattle.wf_agreement.specs.Differing.{most_taken}
use Rattle.wf_agreement.proofs.comparing.most_taken.Given as goal

abbrev pub invariant-loop-history : goal.invariant-loop-history
invariant-loop-history l = (h : ℕ → History) → map (λ lent. lent.now.past) l.histories ≡ map h (range_with_len 0 (length l.histories)) → l.most ≡ most_taken l.history-index h
