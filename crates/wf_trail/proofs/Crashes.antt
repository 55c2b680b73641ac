-- What a crash leaves of a disk that is only read, and of a shelf.
use Rattle.std.proofs.Common.{◌≡◌, ◌≢◌, ℕ, ◌⊎◌, inl, inr, List, Some, None, refl, sym, ◌∙◌, subst}
use Rattle.wf_disk.specs.Disk.{Told, IsSame, IsLawful, Within}
use Rattle.wf_disk.specs.Shelf.{ShelfTold, KeepsDisk, IsTaken, IsGiven}
use Rattle.wf_disk.proofs.Runs.{started, stays, weaker, joined}
use Rattle.wf_journal.specs.Journal.{HasBodiesOf}
use Rattle.wf_journal.specs.Start.{LeavesStart}
use Rattle.wf_trail.specs.Shelves.{Tells, KeepsDisks, KeepsBodies, LeavesBodies}
use Rattle.wf_trail.specs.Telling.{ComesBack}
use Rattle.wf_trail.proofs.Leaving.{which, tells_others}

-- ---- images with the bodies of others

less_bodies : (P Q : List ℕ → Type 0) → Within P Q → (c : List ℕ) → HasBodiesOf P c → HasBodiesOf Q c
less_bodies P Q within c has = (has.0, within has.0 has.1, has.2, has.3)

own_bodies : (P Q : List ℕ → Type 0) → Within P Q → (c : List ℕ) → P c → HasBodiesOf Q c
own_bodies P Q within c left = (c, within c left, refl, λ starts. starts)

-- ---- a disk

-- nothing is done with it
pub idle : (disk : Told) → IsLawful disk → LeavesStart disk disk
idle disk law = λ file image. started disk (HasBodiesOf disk.may_leave) law (λ c left. (c, left, refl, λ starts. starts))

-- a call that is no stroke comes last
pub then_still : (old mid new : Told) → LeavesStart old mid → IsSame mid new → LeavesStart old new
then_still old mid new leaves same = λ file image. stays old mid new (HasBodiesOf old.may_leave) (leaves file image) same

-- or first
pub still_then : (old mid new : Told) → IsLawful old → IsSame old mid → LeavesStart mid new → LeavesStart old new
still_then old mid new law same leaves = λ file image.
    joined old mid new (HasBodiesOf old.may_leave) (then_still old old mid (idle old law) same file image)
    (weaker mid new (HasBodiesOf mid.may_leave) (HasBodiesOf old.may_leave) (leaves file (same.image ∙ image)) (less_bodies mid.may_leave old.may_leave same.crash))

-- it is given back as it was
module _ (name : List ℕ) (old new : ShelfTold) (disk back : Told) (law : IsLawful back) (given : IsGiven name old new back) (leaves : LeavesStart disk back) where
  left_now : (file : List ℕ) → disk.image ≡ Some file → (c : List ℕ) → new.may_leave name c → HasBodiesOf disk.may_leave c
  left_now file image c left = let so_far = leaves file image in so_far.each c (law.counts_now disk.moment so_far.later c (given.crash c left))

  left_meanwhile : (file : List ℕ) → disk.image ≡ Some file → old.taken_at name ≡ Some disk.moment → (c : List ℕ) → new.left_between name c → HasBodiesOf disk.may_leave c
  left_meanwhile file image out c left = let so_far = leaves file image in so_far.each c (given.past disk.moment out c left)

  pub comes_back : ((n : List ℕ) → n ≢ name → KeepsDisk n old new) → back.image ≡ disk.image → ComesBack name old new disk
  comes_back stay same = record { stands = given.stands; image = given.image ∙ same; now = left_now; meanwhile = left_meanwhile; others = stay }

-- or nothing was done with it
pub unread : (name : List ℕ) (old new : ShelfTold) (disk : Told) → IsLawful disk → IsGiven name old new disk → ((n : List ℕ) → n ≢ name → KeepsDisk n old new) → ComesBack name old new disk
unread name old new disk law given stay = comes_back name old new disk disk law given (idle disk law) stay refl

-- ---- a shelf

keeps_then : (name : List ℕ) (old mid new : ShelfTold) → KeepsDisk name old mid → KeepsDisk name mid new → KeepsDisk name old new
keeps_then name old mid new first second = record {
  image = second.image ∙ first.image;
  crash = λ c left. first.crash c (second.crash c left);
  crash_kept = λ c left. second.crash_kept c (first.crash_kept c left);
  taken_at = second.taken_at ∙ first.taken_at;
  past = λ c left. first.past c (second.past c left);
  past_kept = λ c left. second.past_kept c (first.past_kept c left);
}

keeps_itself : (name : List ℕ) (shelf : ShelfTold) → KeepsDisk name shelf shelf
keeps_itself name shelf = record { image = refl; crash = λ c left. left; crash_kept = λ c left. left; taken_at = refl; past = λ c left. left; past_kept = λ c left. left }

kept_bodies : (name : List ℕ) (old new : ShelfTold) → KeepsDisk name old new → LeavesBodies name old new
kept_bodies name old new keeps = record { now = own_bodies (new.may_leave name) (old.may_leave name) keeps.crash; meanwhile = inl keeps }

-- nothing is taken from it
pub nothing_lost : (shelf : ShelfTold) → KeepsBodies shelf shelf
nothing_lost shelf = λ images tells name stands. kept_bodies name shelf shelf (keeps_itself name shelf)

-- a disk isn't handed out
pub refused_bodies : (name : List ℕ) (old new : ShelfTold) → KeepsDisk name old new → ((n : List ℕ) → n ≢ name → KeepsDisk n old new) → KeepsBodies old new
refused_bodies name old new here others = λ images tells n stands. kept_bodies n old new (go n (which n name))
  where
    go : (n : List ℕ) → (n ≡ name) ⊎ (n ≢ name) → KeepsDisk n old new
    go n (inl is) = subst (λ (m : List ℕ). KeepsDisk m old new) (sym is) here
    go n (inr other) = others n other

-- the disk of this name went out, others were taken and given back, and it comes back
module _ (name : List ℕ) (old taken rest given : ShelfTold) (disk : Told) (goes : IsTaken name old taken disk) (others : (n : List ℕ) → n ≢ name → KeepsDisk n old taken)
    (keeps : KeepsDisks taken rest) (leaves : KeepsBodies taken rest) (back : ComesBack name rest given disk) (images : List ℕ → List ℕ) (tells : Tells old images) where
  own_left : LeavesBodies name old given
  own_left =
      let image : disk.image ≡ Some (images name) = goes.image ∙ tells name goes.stood in
      record {
        now = λ c left. less_bodies disk.may_leave (old.may_leave name) goes.crash c (back.now (images name) image c left);
        meanwhile = inr (λ c left. less_bodies disk.may_leave (old.may_leave name) goes.crash c (back.meanwhile (images name) image (keeps.taken_at name ∙ goes.out) c left));
      }

  other_left : (n : List ℕ) → n ≢ name → old.taken_at n ≡ None → LeavesBodies n old given
  other_left n other stands =
      let out = others n other in
      let there = back.others n other in
      let before = leaves images (tells_others name old taken disk images goes others tells) n (out.taken_at ∙ stands) in
      record {
        now = λ c left. less_bodies (taken.may_leave n) (old.may_leave n) out.crash c (before.now c (there.crash c left));
        meanwhile = go out there before.meanwhile;
      }
    where
      go : KeepsDisk n old taken → KeepsDisk n rest given → KeepsDisk n taken rest ⊎ ((c : List ℕ) → rest.left_between n c → HasBodiesOf (taken.may_leave n) c) →
          KeepsDisk n old given ⊎ ((c : List ℕ) → given.left_between n c → HasBodiesOf (old.may_leave n) c)
      go out there (inl same) = inl (keeps_then n old taken given out (keeps_then n taken rest given same there))
      go out there (inr far) = inr (λ c left. less_bodies (taken.may_leave n) (old.may_leave n) out.crash c (far c (there.past c left)))

  pub all_left : (n : List ℕ) → old.taken_at n ≡ None → LeavesBodies n old given
  all_left n stands = go (which n name)
    where
      go : (n ≡ name) ⊎ (n ≢ name) → LeavesBodies n old given
      go (inl is) = subst (λ (m : List ℕ). LeavesBodies m old given) (sym is) own_left
      go (inr other) = other_left n other stands
