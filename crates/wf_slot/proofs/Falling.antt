-- What a crash or a revival makes of a disk.
use Rattle.std.proofs.Common.{◌≡◌, ◌⊎◌, inl, inr, ℕ, List, Option, sym, ap, ◌∙◌, subst}
use Rattle.wf_disk.specs.declared.arm.Outcome.{Outcome}
use Rattle.wf_disk.specs.Memory.{Held, told_of, image_of, begun_anew, left_by, revived, disarmed, IsButForRoom}
use Rattle.wf_machine.specs.Strokes.{Fuse}
use Rattle.wf_slot.specs.Fuses.{IsUnarmed, IsFused}
use Rattle.wf_slot.proofs.Fuses.{unarmed_is, fused_same}

-- a crash of a disk whose record began anew leaves its bytes
only_bytes : (file : List ℕ) (P : List ℕ → Type 0) → P file → (c : List ℕ) → (c ≡ file) ⊎ (c ≡ file) → P c
only_bytes file P here c (inl e) = subst P (sym e) here
only_bytes file P here c (inr e) = subst P (sym e) here

-- A CRASH
module _ (old new : Held) (outcome : Outcome) (left : IsButForRoom (begun_anew old (left_by outcome old)) new) where
  pub crash_clock : new.clock ≡ old.clock
  crash_clock = ap (λ (m : Held). m.clock) left

  pub crash_leaves : (told_of old).may_leave (image_of new) → (c : List ℕ) → (told_of new).may_leave c → (told_of old).may_leave c
  crash_leaves =
      let Q : Held → Type 0 = λ m. (told_of old).may_leave (image_of m) → (c : List ℕ) → (told_of m).may_leave c → (told_of old).may_leave c in
      subst Q (sym left) (λ may c leaves. only_bytes (left_by outcome old) (told_of old).may_leave may c leaves)

  pub crash_fused : (fuse : Option Fuse) → IsFused (told_of old) fuse → IsFused (told_of new) fuse
  crash_fused fuse lit = fused_same old new crash_clock (ap (λ (m : Held). m.stop) left) (ap (λ (m : Held). m.arm) left) fuse lit

-- A REVIVAL, and then no arm
module _ (old mid new : Held) (left : IsButForRoom (revived old) mid) (off : new ≡ disarmed mid) where
  pub revival_unarmed : IsUnarmed (told_of new)
  revival_unarmed = unarmed_is new (ap (λ (m : Held). m.stop) off ∙ ap (λ (m : Held). m.stop) left) (ap (λ (m : Held). m.arm) off)

  pub revival_clock : new.clock ≡ old.clock
  revival_clock = ap (λ (m : Held). m.clock) off ∙ ap (λ (m : Held). m.clock) left

  pub revival_leaves : (told_of old).may_leave (image_of mid) → (c : List ℕ) → (told_of new).may_leave c → (told_of old).may_leave c
  revival_leaves may =
      let Q : Held → Type 0 = λ m. (told_of old).may_leave (image_of m) → (c : List ℕ) → (told_of (disarmed m)).may_leave c → (told_of old).may_leave c in
      let R : Held → Type 0 = λ m. (c : List ℕ) → (told_of m).may_leave c → (told_of old).may_leave c in
      subst R (sym off) (subst Q (sym left) (λ here c leaves. only_bytes (revived old).first (told_of old).may_leave here c leaves) may)
