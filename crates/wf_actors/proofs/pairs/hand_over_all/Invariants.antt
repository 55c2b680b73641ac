use Rattle.std.proofs.Common.{◌≡◌, ◌≢◌, ◌<◌, ℕ, length}
use Rattle.wf_actors.specs.Pairs.{AllTakeOver, HasAllOf}
use Rattle.wf_actors.proofs.pairs.hand_over_all.Given as goal

abbrev pub invariant-loop-second : goal.invariant-loop-second
invariant-loop-second g l =
    record {
      len : length l.units ≡ length l.fn.units;
      each : AllTakeOver l.fn.units l.units;
      all : (x y : ℕ) → x ≢ y → x < l.second → y < l.second → HasAllOf l.units x y;
    }
