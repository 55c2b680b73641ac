-- Of other calls. A journal between two calls.
use Rattle.std.specs.Prelude.{◌≡◌, ℕ, Bool, false, refl}
use Rattle.std.specs.Coded.{Coded, code_by, coded×, coded_ℕ, coded_bool}
use Rattle.wf_disk.specs.Disk.{Told}
use Rattle.wf_journal.specs.Journal.{IsSettled}

-- A journal: its disk, the place of its closed gate, whether a disk call of an append failed, and the longest body for
-- which it has room of its own.
pub record Kept (D : Type 0) : Type 0 where
  pub disk : D
  pub place : ℕ
  pub failed : Bool
  pub room : ℕ

-- it is stored as the tuple of its fields
abbrev pub kept_code : {D : Type 0} → Coded D → Coded (Kept D)
kept_code {D = D} disk =
    code_by (D × (ℕ × (Bool × ℕ)))
    (coded× disk (coded× coded_ℕ (coded× coded_bool coded_ℕ)))
    (λ k. (k.disk, (k.place, (k.failed, k.room))))
    (λ p. record { disk = p.0; place = p.1.0; failed = p.1.1.0; room = p.1.1.1 })
    (λ _. refl)

-- unless a disk call of an append failed, the disk is at rest with a closed gate at this place
abbrev pub IsReady : Told → ℕ → Bool → Type 0
IsReady disk place failed = failed ≡ false → IsSettled disk place
