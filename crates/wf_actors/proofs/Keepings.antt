-- What was kept of a unit is kept after a call that may add a record.
use Rattle.std.proofs.Common.{◌≡◌, ⊎_elim, inl, inr, ℕ, ◌+◌, ◌≤◌, Bool, true, false, List, Option, Some, None, Ok, Err, is_some, refl, sym, ap, ◌∙◌, subst, arith}
use Rattle.std.specs.Prelude.{if◌then◌else◌}
use Rattle.wf_disk.specs.Disk.{Told, LeavesOnly}
use Rattle.wf_journal.specs.Frames.{end_of}
use Rattle.wf_parts.specs.declared.data.PartData.{PartData}
use Rattle.wf_histories.specs.Histories.{History}
use Rattle.wf_steps.specs.Records.{history_of}
use Rattle.wf_server.specs.declared.fault.NodeFault.TheVariants as faults
use Rattle.wf_server.specs.Images.{Begins, Holds, HoldsEither, CrashLeaves}
use Rattle.wf_server.specs.Servers.{Server, told_by}
use Rattle.wf_actors.specs.Opened.{opened, read_as}
use Rattle.wf_actors.specs.Keeping.{IsKept, Keeps, KeepsAll}
use Rattle.wf_actors.proofs.Beginnings.{begins_same, begins_over}

-- an image that holds a history is opened to it
holds_opened : (part : PartData) (past : History) (file : List ℕ) → Holds part past file → opened part file ≡ Ok past
unfolding opened
holds_opened part past file holds =
    ap (λ (b : Bool). if b then read_as (history_of part file) else Err (faults.BadFrame (end_of file))) holds.starts ∙ ap read_as holds.history

one_past : (part : PartData) (file : List ℕ) (h g : History) → opened part file ≡ Ok h → opened part file ≡ Ok g → h ≡ g
one_past part file h g p q = cc

told_before : (o n : Option (List ℕ)) (file : List ℕ) → is_some n ≡ is_some o → n ≡ Some file → (old : List ℕ) × (o ≡ Some old)
told_before (Some old) n file e at = (old, refl)
told_before None n file e at = absurd (cc (sym e ∙ ap is_some at))

module _ (part : PartData) (taken old new : Told) (opening before now : History) (k : IsKept part taken old opening before false) where
  -- crashes meanwhile leave what goes on from the history before, and goes on to the one now
  carried : (failed : Bool) (P : List ℕ → Type 0) → LeavesOnly old new P → Begins before now
      → ((c : List ℕ) → P c → (h : History) × (opened part c ≡ Ok h) × Begins before h)
      → (failed ≡ false → (c : List ℕ) (h : History) → P c → opened part c ≡ Ok h → Begins h now) → IsKept part taken new opening now failed
  carried failed P leaves on from to =
      let a = k.later in
      let b = leaves.later in
      record {
        later = omega arith;
        begins = begins_over opening before now k.begins on;
        crashes = (λ still c at. ⊎_elim (λ o. k.crashes still c o) (λ p. ((from c p).0, (from c p).1, begins_over opening before (from c p).0 k.begins (from c p).2)) (leaves.before taken.moment c k.later at));
        covers = (λ still working c h at is. ⊎_elim (λ o. begins_over h before now (k.covers still refl c h o is) on) (λ p. to working c h p is) (leaves.before taken.moment c k.later at));
      }

  from_either : (next : History) → Begins before next → (c : List ℕ) → HoldsEither part before next c → (h : History) × (opened part c ≡ Ok h) × Begins before h
  from_either next on c (inl holds) = (before, holds_opened part before c holds, begins_same before)
  from_either next on c (inr holds) = (next, holds_opened part next c holds, on)

  to_either : (next : History) → Begins before next → (c : List ℕ) (h : History) → HoldsEither part before next c → opened part c ≡ Ok h → Begins h next
  to_either next on c h (inl holds) is = subst (λ g. Begins g next) (one_past part c before h (holds_opened part before c holds) is) on
  to_either next on c h (inr holds) is = subst (λ g. Begins g next) (one_past part c next h (holds_opened part next c holds) is) (begins_same next)

-- what is kept of a unit with this part, disk and history
abbrev KeepsFor : {D : Type 0} → (D → Told) → D → History → PartData → D → History → Bool → Type 0
KeepsFor told taken opening part disk past failed = (file : List ℕ) → (told disk).image ≡ Some file → IsKept part (told taken) (told disk) opening past failed

-- HOW A CALL ENDS over a disk of which no call failed before: nothing happened; the record was added; memory ran out within two strokes; or
-- the disk failed
pub data Outcome {D : Type 0} (told : D → Told) (old new : Server D) (next : History) : Type 0 where
  unchanged : new.part ≡ old.part → new.journal.disk ≡ old.journal.disk → new.past ≡ old.past → new.journal.failed ≡ old.journal.failed → Outcome told old new next
  added : new.part ≡ old.part → new.past ≡ next → new.journal.failed ≡ false → Outcome told old new next
  ran_out : new.part ≡ old.part → new.past ≡ old.past → new.journal.failed ≡ false → (told_by told new).clock ≤ (told_by told old).clock + 2 → Outcome told old new next
  broke : new.part ≡ old.part → new.past ≡ old.past → new.journal.failed ≡ true → Outcome told old new next

module _ {D : Type 0} (told : D → Told) (old new : Server D) (next : History) (working : old.journal.failed ≡ false) (on : Begins old.past next)
    (crash : CrashLeaves (told_by told old) (told_by told new) old.journal.failed old.part old.past next) (tells : is_some (told_by told new).image ≡ is_some (told_by told old).image) where
  module _ (taken : D) (opening : History) (kept : Keeps told taken opening old) where
    kept_before : (file : List ℕ) → (told_by told old).image ≡ Some file → IsKept old.part (told taken) (told_by told old) opening old.past false
    kept_before file at = subst (λ b. IsKept old.part (told taken) (told_by told old) opening old.past b) working (kept file at)

    after : (part : PartData) (past : History) (failed : Bool) → part ≡ old.part → IsKept old.part (told taken) (told_by told new) opening past failed → IsKept part (told taken) (told_by told new) opening past failed
    after part past failed same k = subst (λ p. IsKept p (told taken) (told_by told new) opening past failed) (sym same) k

    ends : Outcome told old new next → Keeps told taken opening new
    ends (unchanged part disk past failed) file at =
        subst (λ p. KeepsFor told taken opening p new.journal.disk new.past new.journal.failed) (sym part)
        (subst (λ d. KeepsFor told taken opening old.part d new.past new.journal.failed) (sym disk)
        (subst (λ h. KeepsFor told taken opening old.part old.journal.disk h new.journal.failed) (sym past)
        (subst (λ b. KeepsFor told taken opening old.part old.journal.disk old.past b) (sym failed) kept)))
        file at
    ends (added part past failed) file at =
        let was = told_before (told_by told old).image (told_by told new).image file tells at in
        after new.part new.past new.journal.failed part
        (subst (λ h. IsKept old.part (told taken) (told_by told new) opening h new.journal.failed) (sym past)
        (carried old.part (told taken) (told_by told old) (told_by told new) opening old.past next (kept_before was.0 was.1) new.journal.failed (HoldsEither old.part old.past next)
        (crash.either working was.0 was.1) on
        (from_either old.part (told taken) (told_by told old) (told_by told new) opening old.past next (kept_before was.0 was.1) next on)
        (λ w. to_either old.part (told taken) (told_by told old) (told_by told new) opening old.past next (kept_before was.0 was.1) next on)))
    ends (ran_out part past failed two) file at =
        let was = told_before (told_by told old).image (told_by told new).image file tells at in
        after new.part new.past new.journal.failed part
        (subst (λ h. IsKept old.part (told taken) (told_by told new) opening h new.journal.failed) (sym past)
        (carried old.part (told taken) (told_by told old) (told_by told new) opening old.past old.past (kept_before was.0 was.1) new.journal.failed (Holds old.part old.past)
        (crash.fewer working was.0 was.1 (omega (arith, two))) (begins_same old.past)
        (λ c holds. (old.past, holds_opened old.part old.past c holds, begins_same old.past))
        (λ w c h holds is. subst (λ g. Begins g old.past) (one_past old.part c old.past h (holds_opened old.part old.past c holds) is) (begins_same old.past))))
    ends (broke part past failed) file at =
        let was = told_before (told_by told old).image (told_by told new).image file tells at in
        after new.part new.past new.journal.failed part
        (subst (λ h. IsKept old.part (told taken) (told_by told new) opening h new.journal.failed) (sym past)
        (carried old.part (told taken) (told_by told old) (told_by told new) opening old.past old.past (kept_before was.0 was.1) new.journal.failed (HoldsEither old.part old.past next)
        (crash.either working was.0 was.1) (begins_same old.past)
        (from_either old.part (told taken) (told_by told old) (told_by told new) opening old.past old.past (kept_before was.0 was.1) next on)
        (λ w. absurd (cc (failed, w)))))

  pub call_keeps : Outcome told old new next → KeepsAll told old new
  call_keeps outcome = record { each = (λ taken opening kept. ends taken opening kept outcome) }
