-- Of other calls. What contracts see of `Claims` and of its seats.
use Rattle.std.specs.Prelude.{◌≡◌, ℕ, ◌+◌, ◌≤◌, Bool, false, List, [], ◌∷◌, length}
use Rattle.atomic_table.specs.Table.{Me}
use Rattle.atomic_table.specs.Seated.{TableId}
use Rattle.wf_claims.specs.Counts.{total, times, once_below}
use Rattle.wf_claims.specs.declared.rule.Hand.{Hand}

-- one part; its draws and its allowance make limit + 1, no number twice, and all below the limit unless it is spent
pub record IsSound (limit : ℕ) (spent : Bool) (me : Me ℕ Hand) : Type 0 where
  pub empty : me.1 ≡ []
  pub limit_is : me.0.limit ≡ limit
  pub part : me.0.parts ≡ 1
  pub left : me.0.left + length me.0.drawn ≡ limit + 1
  pub once : (x : ℕ) → times x me.0.drawn ≤ 1
  pub below : spent ≡ false → (x : ℕ) → limit ≤ x → times x me.0.drawn ≡ 0

-- which claims, and how many numbers and seats they have
pub record Source : Type 0 where
  pub home : TableId
  pub n : ℕ
  pub seats : ℕ

-- of which claims the seat is, whether it is spent, and what it has drawn, in order
pub record Drawer : Type 0 where
  pub home : TableId
  pub limit : ℕ
  pub spent : Bool
  pub drawn : List ℕ

abbrev pub IsSeatOf : Source → Drawer → Type 0
IsSeatOf c s = (s.home ≡ c.home) × (s.limit ≡ c.n)

abbrev pub AreSeatsOf : Source → List Drawer → Type 0
AreSeatsOf c [] = Unit {0}
AreSeatsOf c (s ∷ ss) = IsSeatOf c s × AreSeatsOf c ss

-- the seats have drawn nothing
abbrev pub AreFresh : List Drawer → Type 0
AreFresh [] = Unit {0}
AreFresh (s ∷ ss) = (s.spent ≡ false) × (s.drawn ≡ []) × AreFresh ss

-- how often these seats have drawn x
abbrev pub drawn_times : ℕ → List Drawer → ℕ
drawn_times x ss = total (λ (s : Drawer). times x s.drawn) ss

-- these seats have drawn the numbers below n, each once
abbrev pub DrewBelow : ℕ → List Drawer → Type 0
DrewBelow n ss = (x : ℕ) → drawn_times x ss ≡ once_below x n

-- fresh seats of the table
abbrev pub AreCut : TableId → ℕ → List Drawer → Type 0
AreCut home n [] = Unit {0}
AreCut home n (s ∷ ss) = (s.home ≡ home) × (s.limit ≡ n) × (s.spent ≡ false) × (s.drawn ≡ []) × AreCut home n ss

abbrev pub AreAt : TableId → List Drawer → Type 0
AreAt home [] = Unit {0}
AreAt home (s ∷ ss) = (s.home ≡ home) × AreAt home ss
