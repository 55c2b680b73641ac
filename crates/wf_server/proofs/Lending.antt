-- What is true of a server that is lent, or whose disk is armed.
use Rattle.std.proofs.Common.{◌≡◌, ◌⊎◌, inl, inr, ℕ, zero, suc, ◌+◌, ◌≤◌, Bool, false, List, Option, Some, refl, sym, ap, ◌∙◌, subst, arith}
use Rattle.std.specs.Prelude.{Result, Ok}
use Rattle.std.specs.Result.{ForOk}
use Rattle.wf_model.specs.declared.update.Update.{Update}
use Rattle.wf_disk.specs.Disk.{Told, Within}
use Rattle.wf_journal.specs.State.{Kept}
use Rattle.wf_codec.specs.Ranges.{IsInRange}
use Rattle.wf_parts.specs.declared.data.PartData.{PartData}
use Rattle.wf_parts.specs.Parts.{IsPart}
use Rattle.wf_histories.specs.Histories.{History, taken, local_update}
use Rattle.wf_steps.specs.Growing.{IsMade}
use Rattle.wf_steps.specs.Records.{history_of}
use Rattle.wf_steps.specs.Room.{Replicated}
use Rattle.wf_steps.proofs.Made.{made_fits, updates_in_range}
use Rattle.wf_server.specs.declared.node.Ready.{Ready}
use Rattle.wf_server.specs.Servers.{Server}
use Rattle.wf_server.specs.Inbox.{IsInbox}
use Rattle.wf_server.specs.Images.{Begins, Holds, HoldsOn, Stands, IsPlaced}
use Rattle.wf_server.specs.Nodes.{IsNode}
use Rattle.wf_server.specs.Sending.{letter_of}
use Rattle.wf_server.proofs.Beginnings.{letter_same}
use Rattle.wf_server.proofs.Reading.{one_ok}

-- THE DISK

stands_by : {D : Type 0} (told : D → Told) (a b : Server D) → a ≡ b → Stands (told a.journal.disk) a.journal.failed a.part a.past → Stands (told b.journal.disk) b.journal.failed b.part b.past
stands_by {D = D} told a b view_is stands = let P : Server D → Type 0 = λ s. Stands (told s.journal.disk) s.journal.failed s.part s.past in subst P view_is stands

module _ {D : Type 0} (told : D → Told) (a b : Server D) (view_is : a ≡ b) (stands : Stands (told a.journal.disk) a.journal.failed a.part a.past) where
  pub disk_holds : b.journal.failed ≡ false → (file : List ℕ) → (told b.journal.disk).image ≡ Some file → (c : List ℕ) → (told b.journal.disk).may_leave c → Holds b.part b.past c
  disk_holds healthy file is c may = let o = (stands_by told a b view_is stands).exact healthy file is in subst (Holds b.part b.past) (sym (o.only c may)) o.image

  pub disk_stays : (file : List ℕ) → (told b.journal.disk).image ≡ Some file → (c : List ℕ) → (told b.journal.disk).may_leave c → HoldsOn b.part b.past c
  disk_stays = (stands_by told a b view_is stands).stays

  pub disk_place : IsPlaced told a.journal a.part a.past → IsPlaced told b.journal b.part b.past
  disk_place placed = let P : Server D → Type 0 = λ s. IsPlaced told s.journal s.part s.past in subst P view_is placed

  -- so letters stay
  pub letter_stays : (v step : ℕ) → IsMade a.part a.past → (step ≡ taken b.past) ⊎ (step ≡ taken b.past + 1) → (file : List ℕ) → (told b.journal.disk).image ≡ Some file → (c : List ℕ) → (told b.journal.disk).may_leave c →
      ForOk (history_of b.part c) (λ other. letter_of b.part other v step ≡ letter_of b.part b.past v step)
  letter_stays v step made kept file is c may other holds =
      let on = disk_stays file is c may in
      letter_same b.part b.past other v step (made_fits b.part made_by) (subst (Begins b.past) (one_ok (sym on.1.history ∙ holds)) on.2) (within kept)
    where
      made_by : IsMade b.part b.past
      made_by = let P : Server D → Type 0 = λ s. IsMade s.part s.past in subst P view_is made

      within : (step ≡ taken b.past) ⊎ (step ≡ taken b.past + 1) → step ≤ taken b.past + 1
      within (inl e) = omega (arith, e)
      within (inr e) = omega (arith, e)

-- WHAT CAME

pub next_inbox : {D : Type 0} (a b : Server D) → a ≡ b → IsInbox a.part (taken a.past + 1) a.came → IsInbox b.part (taken b.past + 1) b.came
next_inbox {D = D} a b view_is inbox = let P : Server D → Type 0 = λ s. IsInbox s.part (taken s.past + 1) s.came in subst P view_is inbox

pub later_inbox : {D : Type 0} (a b : Server D) → a ≡ b → IsInbox a.part (taken a.past + 2) a.early → IsInbox b.part (taken b.past + 2) b.early
later_inbox {D = D} a b view_is inbox = let P : Server D → Type 0 = λ s. IsInbox s.part (taken s.past + 2) s.early in subst P view_is inbox

-- an own update that is kept is in range
pub range_at : {D : Type 0} (a b : Server D) → a ≡ b → IsPart a.part → IsMade a.part a.past → (step : ℕ) → 1 ≤ step → step ≤ taken b.past + 1 → IsInRange (local_update b.part b.past step)
range_at {D = D} a b view_is part made step some within =
    let P : Server D → Type 0 = λ s. step ≤ taken s.past + 1 → IsInRange (local_update s.part s.past step) in
    subst P view_is (go step some) within
  where
    go : (step : ℕ) → 1 ≤ step → step ≤ taken a.past + 1 → IsInRange (local_update a.part a.past step)
    go zero some within = absurd (omega (arith, some))
    go (suc j) some within = updates_in_range a.part a.past j part made (omega (arith, within))

-- a disk that holds the same and leaves no more
pub moved : {D : Type 0} (told : D → Told) (j j' : Kept D) (disk : D) (replica : Replicated) (came early : List (Option Update)) (ready : Option Ready) → j' ≡ record j { disk = disk } → (told disk).image ≡ (told j.disk).image → Within (told disk).may_leave (told j.disk).may_leave →
    IsNode told j replica came early ready → IsNode told j' replica came early ready
moved {D = D} told j j' disk replica came early ready is image within n =
    let P : Kept D → Type 0 = λ k. IsNode told k replica came early ready in
    subst P (sym is) (record {
      stands = record {
        exact = λ healthy file there. let o = n.stands.exact healthy file (sym image ∙ there) in record { image = o.image; only = λ c may. o.only c (within c may) };
        stays = λ file there c may. n.stands.stays file (sym image ∙ there) c (within c may);
      };
      placed = λ file there. n.placed file (sym image ∙ there);
      came_is = n.came_is;
      early_is = n.early_is;
      ready_is = n.ready_is;
    })

pub range_kept : {D : Type 0} (a b : Server D) → a ≡ b → IsPart a.part → IsMade a.part a.past → (step : ℕ) → 1 ≤ step → (step ≡ taken b.past) ⊎ (step ≡ taken b.past + 1) → IsInRange (local_update b.part b.past step)
range_kept a b view_is part made step some (inl e) = range_at a b view_is part made step some (omega (arith, e))
range_kept a b view_is part made step some (inr e) = range_at a b view_is part made step some (omega (arith, e))
