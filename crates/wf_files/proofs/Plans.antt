-- A disk that tells no image goes to any plan, and may be left with anything.
use Rattle.std.proofs.Common.{List, ℕ, inr, refl, arith}
use Rattle.wf_disk.specs.Disk.{GoesToPlan, Torn}
use Rattle.wf_files.specs.Files.{OnFile, told_of}

pub goes : (old new : OnFile) (ok failed : Type 0) → GoesToPlan (told_of old) (told_of new) ok failed
goes old new ok failed = record {
  done = λ at_ok file tells to_fail. cc;
  kept = λ at_ok. record { kept = λ n was. tt; no_other = λ n was. tt; stops_kept = λ n was. tt; no_other_stop = λ n was. tt };
  failed = λ at_failure. tt;
  goes_on_or_stops = λ at_failure. inr (tt, λ n later. tt);
}

-- what a write that wrote nothing leaves
pub torn_same : (at n : ℕ) (file : List ℕ) → Torn at n file file
torn_same at n file = record { before = refl; after = refl; no_shorter = omega arith; no_longer = omega arith }
