-- A node as it begins.
use Rattle.std.proofs.Common.{◌≡◌, ℕ, ◌+◌, ◌==◌, cond, Bool, true, false, List, length, Option, Some, None, refl, sym, ap, ◌∙◌, subst}
use Rattle.std.specs.Prelude.{is_some, Result, Ok, Err}
use Rattle.wf_model.specs.declared.update.Update.{Update}
use Rattle.wf_disk.specs.Disk.{Told}
use Rattle.wf_journal.specs.State.{Kept, IsReady as IsReadyJournal}
use Rattle.wf_journal.specs.Frames.{end_of}
use Rattle.wf_worlds.specs.Ends.{end_of_history}
use Rattle.wf_parts.specs.declared.data.PartData.{PartData}
use Rattle.wf_histories.specs.Histories.{History, taken}
use Rattle.wf_steps.specs.Room.{Replicated}
use Rattle.wf_steps.specs.Records.{history_of}
use Rattle.wf_server.specs.Images.{Holds, IsOnly, Stands, IsPlaced}
use Rattle.wf_server.specs.Servers.{Server, held, held_in}
use Rattle.wf_server.specs.Starting.{IsStarted}
use Rattle.wf_server.specs.Heads.{KeepsHistory, IsOpen}
use Rattle.wf_server.specs.Nodes.{IsNode}
use Rattle.wf_server.specs.declared.node.Ready.{Ready}
use Rattle.wf_server.specs.Nodes.{IsReady}
use Rattle.wf_server.proofs.Standing.{told_before, holds_on}
use Rattle.wf_server.proofs.Beginnings.{begins_same}
use Rattle.wf_server.proofs.Empty.{can_start_read}
use Rattle.wf_server.proofs.Keeping.{node_of, empty_inbox, none_ready}

module _ (part : PartData) (past : History) (old new : Told) (tells : is_some new.image ≡ is_some old.image) (keeps : KeepsHistory part old new) (history : (file : List ℕ) → old.image ≡ Some file → history_of part file ≡ Ok past) (is_open : IsOpen new) where
  only_one : (file : List ℕ) → new.image ≡ Some file → IsOnly new part past file
  only_one file is =
      let was = told_before new.image old.image file tells is in
      record {
        image = record { begun = is_open.begun file is; starts = can_start_read file (is_open.readable file is); history = keeps.image was.0 file was.1 is ∙ history was.0 was.1 };
        only = is_open.still file is;
      }

  pub stands_open : (failed : Bool) → Stands new failed part past
  stands_open failed = record {
    exact = λ _ file is. only_one file is;
    stays = λ file is c may. let o = only_one file is in holds_on part past past c (subst (Holds part past) (sym (o.only c may)) o.image) (begins_same past);
  }

-- where the journal's gate stands
pub placed_open : {D : Type 0} (told : D → Told) (j : Kept D) (part : PartData) (r : Replicated) → r.part ≡ part → j.failed ≡ false → IsReadyJournal (told j.disk) j.place j.failed → IsOpen (told j.disk) → ((file : List ℕ) → (told j.disk).image ≡ Some file → end_of file ≡ end_of_history r.part r.past) → IsPlaced told j part r.past
placed_open told j part r same healthy ready is_open ends file is =
    sym (ready healthy file is).rests.end ∙ ends file is ∙ ap (λ (p : PartData). end_of_history p r.past) same

-- the node with an empty inbox
pub node_open : {D : Type 0} (told : D → Told) (j : Kept D) (r : Replicated) (came early : List (Option Update)) (part : PartData) → r.part ≡ part → length came ≡ part.units → length early ≡ part.units → ((v : ℕ) → (held_in came v ≡ None) × (held_in early v ≡ None)) → Stands (told j.disk) j.failed part r.past → IsPlaced told j part r.past → IsNode told j r came early None
node_open told j r came early part is size more none stands placed =
    node_of told j r came early None part r.past is refl stands placed (empty_inbox told part (taken r.past + 1) came size (λ v. (none v).0)) (empty_inbox told part (taken r.past + 2) early more (λ v. (none v).1)) (none_ready (IsReady j.room r came))

pub nothing_held : {D : Type 0} (server : Server D) → ((v : ℕ) → (held_in server.came v ≡ None) × (held_in server.early v ≡ None)) → (v step : ℕ) → held server v step ≡ None
nothing_held server none v step = go (step == taken server.past + 1) (step == taken server.past + 2)
  where
    go : (next behind : Bool) → cond next (held_in server.came v) (cond behind (held_in server.early v) None) ≡ None
    go true behind = (none v).0
    go false true = (none v).1
    go false false = refl
