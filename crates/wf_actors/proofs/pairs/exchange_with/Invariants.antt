use Rattle.std.proofs.Common.{◌≡◌, ◌≢◌, ◌<◌, ℕ, length}
use Rattle.wf_actors.specs.Pairs.{AllTakeOver, HasAllOf, traffic_at}
use Rattle.wf_actors.proofs.pairs.exchange_with.Given as goal

abbrev pub invariant-loop-first : goal.invariant-loop-first
invariant-loop-first g l =
    record {
      len : length l.units ≡ length l.fn.units;
      each : AllTakeOver l.fn.units l.units;
      first_has : (k : ℕ) → k < l.first → HasAllOf l.units k l.second;
      second_has : (k : ℕ) → k < l.first → HasAllOf l.units l.second k;
      others : (x y : ℕ) → x ≢ l.second → y ≢ l.second → traffic_at l.units x y ≡ traffic_at l.fn.units x y;
    }
