-- The disk of a unit in a call of its server.
use Rattle.std.proofs.Common.{◌≡◌, ℕ, ◌+◌, ◌-◌, ◌<◌, ◌≤◌, true, false, List, Option, Some, None, refl, sym, ap, ◌∙◌, subst, arith}
use Rattle.std.specs.Prelude.{IfSome}
use Rattle.wf_model.specs.Faults.{last_count}
use Rattle.wf_disk.specs.Memory.{Held, told_of, image_of, disarmed}
use Rattle.wf_disk.specs.MemoryLaws.{lawful_memory}
use Rattle.wf_journal.specs.Plan.{WentOn, Struck}
use Rattle.wf_machine.specs.Strokes.{Fuse, Done, SetOff, strokes}
use Rattle.wf_worlds.specs.Worlds.{Record, stood}
use Rattle.wf_server.specs.Servers.{Server}
use Rattle.wf_server.specs.Images.{Holds, CrashLeaves}
use Rattle.wf_slot.specs.declared.fuse.Fuse.{Fuse as Kept}
use Rattle.wf_slot.specs.Fuses.{fuse_of, is_crash, IsUnarmed, IsFused}
use Rattle.wf_slot.specs.Writes.{BrokeOff, IsSpared}
use Rattle.wf_slot.proofs.Fuses.{burnt, longer, burns, goes_off, unarmed_is, runs_on}

done_is : (a b : Option Fuse) → Done a ≡ Done b → a ≡ b
done_is a b e = cc

fuse_is : (a b : Fuse) → Some a ≡ Some b → a ≡ b
fuse_is a b e = cc

pub some_by : (o : Option Kept) (P : Kept → Type 0) → ((f : Kept) → o ≡ Some f → P f) → IfSome o P
some_by None P each = tt
some_by (Some f) P each = each f refl

no_fuse : (a : Fuse) → None ≡ Some a → ⊥
no_fuse a e = cc

-- ALL STROKES WERE DONE

module _ (old new : Held) (n : ℕ) (went : WentOn (told_of old) (told_of new)) (clock : new.clock ≡ old.clock + n) where
  pub is_longer : (fuse : Option Kept) → IsFused (told_of old) (fuse_of fuse) → (f : Kept) → fuse ≡ Some f → n < f.left
  is_longer fuse lit f is =
      let P : Option Kept → Type 0 = λ o. IsFused (told_of old) (fuse_of o) in
      longer (told_of old) (told_of new) n (image_of old) refl went clock (record { left = f.left; what = f.what }) (subst P is lit)

  pub still_fused : (fuse : Option Fuse) (rest : Option Fuse) → IsFused (told_of old) fuse → strokes n fuse ≡ Done rest → IsFused (told_of new) rest
  still_fused fuse rest lit met =
      let did = burns (told_of old) (told_of new) n (image_of old) refl went clock fuse lit in
      subst (λ (f : Option Fuse). IsFused (told_of new) f) (done_is (burnt n fuse) rest (sym did.0 ∙ met)) did.1

-- so a disk that can count on hasn't stopped, and is to fail no more once it has no arm
pub spared : (old new : Held) (fuse : Option Fuse) → IsFused (told_of old) fuse → WentOn (told_of old) (told_of new) → new.clock + 2 ≤ last_count → IsUnarmed (told_of (disarmed new))
spared old new fuse lit went early =
    let later = went.later in
    let clock : new.clock ≡ old.clock + (new.clock - old.clock) = omega (arith, later) in
    let did = burns (told_of old) (told_of new) (new.clock - old.clock) (image_of old) refl went clock fuse lit in
    unarmed_is (disarmed new) (runs_on new (burnt (new.clock - old.clock) fuse) did.1 early) refl

-- A STROKE FAILED: it set off the arm that the fuse has
pub record HitBy (old new : Held) (most : ℕ) (fuse : Option Kept) (hit : Kept) : Type 0 where
  pub within : hit.left ≤ most
  pub met : strokes most (fuse_of fuse) ≡ SetOff hit.left hit.what
  pub clock : new.clock ≡ old.clock + hit.left
  pub unarmed : is_crash hit.what ≡ false → IsUnarmed (told_of new)

module _ (old new : Held) (most : ℕ) (struck : Struck (told_of old) (told_of new) most) (early : old.clock + most ≤ last_count) where
  pub had_arm : (fuse : Option Kept) → IsFused (told_of old) (fuse_of fuse) → fuse ≡ None → ⊥
  had_arm fuse lit is =
      let P : Option Kept → Type 0 = λ o. IsFused (told_of old) (fuse_of o) in
      let off = goes_off (told_of old) (told_of new) most struck early None (subst P is lit) in
      no_fuse off.f off.is

  pub hit_by : (fuse : Option Kept) (hit : Kept) → IsFused (told_of old) (fuse_of fuse) → fuse ≡ Some hit → HitBy old new most fuse hit
  hit_by fuse hit lit is =
      let P : Option Kept → Type 0 = λ o. IsFused (told_of old) (fuse_of o) in
      let there : Fuse = record { left = hit.left; what = hit.what } in
      let off = goes_off (told_of old) (told_of new) most struck early (Some there) (subst P is lit) in
      let same : off.f ≡ there = sym (fuse_is there off.f off.is) in
      let within = off.within in
      let left : off.f.left ≡ hit.left = ap (λ (f : Fuse). f.left) same in
      record {
        within = omega (arith, within, left);
        met = let Q : Option Kept → Type 0 = λ o. strokes most (fuse_of o) ≡ SetOff hit.left hit.what in
            subst Q (sym is) (off.met ∙ ap (λ (f : Fuse). SetOff f.left f.what) same);
        clock = off.clock ∙ ap (λ (k : ℕ). old.clock + k) left;
        unarmed = λ fails. off.unarmed (ap (λ (f : Fuse). is_crash f.what) same ∙ fails);
      }

-- A WRITE BROKE OFF
module _ (node new : Server Held) (fuse : Option Kept) (hit : Kept) (r : Record) (healthy : node.journal.failed ≡ false) (lit : IsFused (told_of node.journal.disk) (fuse_of fuse)) (early : node.journal.disk.clock + 2000 ≤ last_count) where
  pub broke_off : fuse ≡ Some hit → Struck (told_of node.journal.disk) (told_of new.journal.disk) 4 → CrashLeaves (told_of node.journal.disk) (told_of new.journal.disk) node.journal.failed node.part node.past (stood r node.past) →
      new ≡ record node { journal = new.journal; ready = new.ready } → new.journal.failed ≡ true → BrokeOff node fuse r new hit
  broke_off is struck crash rest failed =
      let by = hit_by node.journal.disk new.journal.disk 4 struck (omega (arith, early)) fuse hit lit is in
      let within = by.within in
      let clock = by.clock in
      record {
        met = by.met;
        rest = rest;
        failed = failed;
        clock = omega (arith, within, clock);
        either = λ file may. let leaves = crash.either healthy (image_of node.journal.disk) refl in
            leaves.each file ((lawful_memory new.journal.disk).counts_now (told_of node.journal.disk).moment leaves.later file may);
        fewer = λ few file may. let leaves = crash.fewer healthy (image_of node.journal.disk) refl (omega (arith, few, clock)) in
            leaves.each file ((lawful_memory new.journal.disk).counts_now (told_of node.journal.disk).moment leaves.later file may);
        unarmed = by.unarmed;
      }

-- MEMORY RAN OUT
pub is_spared : (node new : Server Held) (fuse : Option Fuse) → IsFused (told_of node.journal.disk) fuse → node.journal.disk.clock + 2000 ≤ last_count → WentOn (told_of node.journal.disk) (told_of new.journal.disk) →
    new.journal.disk.clock ≤ node.journal.disk.clock + 2 → new.part ≡ node.part → new.past ≡ node.past →
    ((file : List ℕ) → (told_of new.journal.disk).may_leave file → Holds new.part new.past file) →
    IsSpared node (record new { journal = record new.journal { disk = disarmed new.journal.disk } })
is_spared node new fuse lit early went two part past leaves =
    record {
      part = part;
      past = past;
      kept = record { fused = spared node.journal.disk new.journal.disk fuse lit went (omega (arith, early, two)); leaves = leaves };
    }
