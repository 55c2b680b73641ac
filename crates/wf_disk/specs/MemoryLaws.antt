-- Inner. What a disk in memory tells is lawful.
use Rattle.std.specs.Prelude.{◌≡◌, ◌≢◌, ◌||◌, ℕ, zero, suc, ◌≤◌, Bool, true, false, if◌then◌else◌, List, [], ◌∷◌, length, Some, unwrap_or}
use mathlib.Core.Logic.{inr}
use Rattle.std.proofs.Common.{refl, sym, ap, arith, ◌∙◌, true≢false}
use Rattle.wf_disk.specs.Disk.{IsLawful}
use Rattle.wf_disk.specs.Strokes.{Stroke, State, Outcome, Since, image_after, first_state, after, state_after}
use Rattle.wf_disk.specs.Arms.{is_stop, fate_at}
use Rattle.wf_disk.specs.declared.arm.Fate.{Fate}
use Rattle.wf_disk.specs.declared.arm.Fate.TheVariants as fate
use Rattle.wf_disk.specs.Memory.{Held, told_of, is_stopped_for}

-- the image of a state after strokes
pub image-state : (s : State) (strokes : List Stroke) → (state_after s strokes).image ≡ image_after s.image strokes
image-state s [] = refl
image-state s (Stroke.Wrote at bytes ∷ strokes) = image-state (after s (Stroke.Wrote at bytes)) strokes
image-state s (Stroke.Synced ∷ strokes) = image-state (after s Stroke.Synced) strokes

-- a crash after these strokes is one since stroke t of them
counts_from : (s : State) (strokes : List Stroke) (t : ℕ) (c : List ℕ) → t ≤ length strokes → Outcome (state_after s strokes) c → Since s t strokes c
counts_from s [] t c within now = now
counts_from s (stroke ∷ strokes) zero c within now = inr (counts_from (after s stroke) strokes zero c (omega arith) now)
counts_from s (stroke ∷ strokes) (suc t) c within now = counts_from (after s stroke) strokes t c (omega arith) now

-- and none but it is one since the last of them
only_at : (s : State) (strokes : List Stroke) (c : List ℕ) → Since s (length strokes) strokes c → Outcome (state_after s strokes) c
only_at s [] c left = left
only_at s (stroke ∷ strokes) c left = only_at (after s stroke) strokes c left

same_image : (a b : List ℕ) → Some a ≡ Some b → b ≡ a
same_image a b is = sym (ap (λ o. unwrap_or o a) is)

-- a fate that stops isn't that of a stroke which is done
not_done : (f : Fate) → is_stop f ≡ true → f ≢ fate.Done
not_done f stops is = true≢false (sym stops ∙ ap is_stop is)

abbrev is_done : Fate → Bool
is_done fate.Done = true
is_done fate.Fails = false
is_done (fate.Stops outcome) = false

fails_not_done : fate.Fails ≢ fate.Done
fails_not_done is = true≢false (sym (ap is_done is))

-- a stroke that stops isn't done, whether the disk had stopped before or not
stops_by : (stopped : Bool) (f : Fate) → (stopped || is_stop f) ≡ true → (if stopped then fate.Fails else f) ≢ fate.Done
stops_by true f stops = fails_not_done
stops_by false f stops = not_done f stops

-- A DISK IN MEMORY KEEPS THE LAW of what disks tell.
pub lawful_memory : (m : Held) → IsLawful (told_of m)
lawful_memory m = record {
  stands = λ file is. inr (same_image _ _ is ∙ sym (image-state (first_state m.first) m.strokes));
  counts_now = λ t within c now. counts_from (first_state m.first) m.strokes t c within now;
  only_now = λ c left. only_at (first_state m.first) m.strokes c left;
  stops_fail = λ n stops. stops_by (is_stopped_for m n) (fate_at m.arm n) stops;
  less = λ writes more bytes many room. (omega (arith, room.0), omega (arith, room.1));
}
