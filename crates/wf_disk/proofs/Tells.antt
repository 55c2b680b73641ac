-- What a disk in memory tells after one stroke more, and that each outcome of a crash is one that it tells.
use Rattle.std.proofs.Common.{◌≡◌, ◌⊎◌, inl, inr, ⊎_elim, ℕ, zero, suc, ◌+◌, ◌≤◌, max, Option, Bool, true, false, List, [], ◌∷◌, ◌++◌, length, take, drop, refl, sym, ◌∙◌, ap, subst, arith, if◌then◌else◌, append_assoc, length-append, length-take-le, replicate}
use Rattle.std.proofs.lemmas.List.{take_at, drop_at, length-replicate, take-append-drop}
use Rattle.wf_disk.specs.Disk.{put_at, Torn, Follows, Within, Only, Elapses}
use Rattle.wf_disk.specs.Strokes.{Stroke, State, Outcome, Since, image_after, torn_after, left_after, are_fit, are_writes, first_state, after, state_after}
use Rattle.wf_disk.specs.declared.arm.Outcome.{Outcome as CrashOutcome}
use Rattle.wf_disk.specs.declared.arm.Outcome.TheVariants as outcomes
use Rattle.wf_disk.specs.declared.arm.Armed.{Armed}
use Rattle.wf_model.specs.Faults.{one_more}
use Rattle.wf_disk.specs.Memory.{Held, told_of, image_of, counted}
use Rattle.wf_disk.specs.MemoryLaws.{image-state}
use Rattle.wf_disk.proofs.Replays.{length-put_at, fits_first, fit_later, image_after-more}

pub state_after-more : (s : State) (xs ys : List Stroke) → state_after s (xs ++ ys) ≡ state_after (state_after s xs) ys
state_after-more s [] ys = refl
state_after-more s (x ∷ xs) ys = state_after-more (after s x) xs ys

since_more : (s : State) (xs : List Stroke) (x : Stroke) (t : ℕ) (c : List ℕ) → t ≤ length xs → Since s t (xs ++ x ∷ []) c → Since s t xs c ⊎ Outcome (state_after s (xs ++ x ∷ [])) c
since_more s [] x zero c within left = left
since_more s [] x (suc t) c within left = absurd (omega arith)
since_more s (y ∷ xs) x zero c within (inl now) = inl (inl now)
since_more s (y ∷ xs) x zero c within (inr later) = ⊎_elim (λ was. inl (inr was)) (λ now. inr now) (since_more (after s y) xs x zero c (omega arith) later)
since_more s (y ∷ xs) x (suc t) c within left = since_more (after s y) xs x t c (omega arith) left

since_keeps : (s : State) (xs : List Stroke) (x : Stroke) (t : ℕ) (c : List ℕ) → t ≤ length xs → Since s t xs c → Since s t (xs ++ x ∷ []) c
since_keeps s [] x zero c within left = inl left
since_keeps s [] x (suc t) c within left = absurd (omega arith)
since_keeps s (y ∷ xs) x zero c within (inl now) = inl now
since_keeps s (y ∷ xs) x zero c within (inr later) = inr (since_keeps (after s y) xs x zero c (omega arith) later)
since_keeps s (y ∷ xs) x (suc t) c within left = since_keeps (after s y) xs x t c (omega arith) left

-- a write that was done is one of its torn writes
written_torn : (old : List ℕ) (at : ℕ) (bytes : List ℕ) → at ≤ length old → Torn at (length bytes) old (put_at old at bytes)
written_torn old at bytes begins =
    let front : length (take at old) ≡ at = length-take-le at old begins in
    let both : length (take at old ++ bytes) ≡ at + length bytes = omega (arith, front, length-append (take at old) bytes) in
    let size = length-put_at old at bytes begins in
    record {
      before = ap (take at) (append_assoc (take at old) bytes (drop (at + length bytes) old)) ∙ take_at (take at old) (bytes ++ drop (at + length bytes) old) at front;
      after = drop_at (take at old ++ bytes) (drop (at + length bytes) old) (at + length bytes) both;
      no_shorter = omega (arith, size);
      no_longer = omega (arith, size);
    }

-- a write that did nothing is one of its torn writes
torn_same : (at n : ℕ) (d : List ℕ) → Torn at n d d
torn_same at n d = record { before = refl; after = refl; no_shorter = omega arith; no_longer = omega arith }

-- the outcomes after one write more
pub follows_write : (first : List ℕ) (strokes : List Stroke) (at : ℕ) (bytes : List ℕ) → at ≤ length (image_after first strokes)
    → Follows (Torn at (length bytes)) (Outcome (state_after (first_state first) strokes)) (Outcome (state_after (first_state first) (strokes ++ Stroke.Wrote at bytes ∷ [])))
follows_write first strokes at bytes begins c now = by_case (subst (λ (t : State). Outcome t c) (state_after-more (first_state first) strokes (Stroke.Wrote at bytes ∷ [])) now)
  where
    by_case : Outcome (after (state_after (first_state first) strokes) (Stroke.Wrote at bytes)) c
        → (d : List ℕ) × Outcome (state_after (first_state first) strokes) d × Torn at (length bytes) d c
    by_case (inl torn) = torn
    by_case (inr is) =
        let image = (state_after (first_state first) strokes).image in
        let inside : at ≤ length image = subst (λ (f : List ℕ). at ≤ length f) (sym (image-state (first_state first) strokes)) begins in
        (image, inr refl, subst (Torn at (length bytes) image) (sym is) (written_torn image at bytes inside))

-- the outcomes after a sync
pub only_sync : (first : List ℕ) (strokes : List Stroke) → Only (image_after first strokes) (Outcome (state_after (first_state first) (strokes ++ Stroke.Synced ∷ [])))
only_sync first strokes c now =
    by_case (subst (λ (t : State). Outcome t c) (state_after-more (first_state first) strokes (Stroke.Synced ∷ [])) now) ∙ image-state (first_state first) strokes
  where
    by_case : Outcome (after (state_after (first_state first) strokes) Stroke.Synced) c → c ≡ (state_after (first_state first) strokes).image
    by_case (inl is) = is
    by_case (inr is) = is

-- with nothing besides the image
pub only_image : (first : List ℕ) (strokes : List Stroke) → Only (image_after first strokes) (state_after (first_state first) strokes).may
    → Only (image_after first strokes) (Outcome (state_after (first_state first) strokes))
only_image first strokes clean c (inl may) = clean c may
only_image first strokes clean c (inr is) = is ∙ image-state (first_state first) strokes

pub within_image : (first : List ℕ) (strokes : List Stroke) (outcomes : List ℕ → Type 0) → Only (image_after first strokes) outcomes
    → Within outcomes (Outcome (state_after (first_state first) strokes))
within_image first strokes outcomes only c now = inr (only c now ∙ sym (image-state (first_state first) strokes))

-- what stays an outcome while nothing is synced
lost : (s : State) (d : List ℕ) (strokes : List Stroke) → are_writes strokes ≡ true → Outcome s d → Outcome (state_after s strokes) d
lost s d [] all now = now
lost s d (Stroke.Wrote at bytes ∷ strokes) all now = lost (after s (Stroke.Wrote at bytes)) d strokes all (inl (d, now, torn_same at (length bytes) d))
lost s d (Stroke.Synced ∷ strokes) all now = absurd (cc all)

torn : (s : State) (d : List ℕ) (room : ℕ) (strokes : List Stroke) → are_writes strokes ≡ true → are_fit (length d) room strokes ≡ true → Outcome s d
    → Outcome (state_after s strokes) (torn_after d strokes)
torn s d room [] all fit now = now
torn s d room (Stroke.Wrote at bytes ∷ strokes) all fit now =
    let full = replicate (length bytes) 255 in
    let size : length full ≡ length bytes = length-replicate (length bytes) 255 in
    let first = fits_first (length d) room at (length bytes) (are_fit (max (length d) (at + length bytes)) room strokes) fit in
    let step : Torn at (length bytes) d (put_at d at full) = subst (λ k. Torn at k d (put_at d at full)) size (written_torn d at full first.begins) in
    let longer : length (put_at d at full) ≡ max (length d) (at + length bytes) = length-put_at d at full first.begins ∙ ap (λ n. max (length d) (at + n)) size in
    torn (after s (Stroke.Wrote at bytes)) (put_at d at full) room strokes all (subst (λ n. are_fit n room strokes ≡ true) (sym longer) first.later) (inl (d, now, step))
torn s d room (Stroke.Synced ∷ strokes) all fit now = absurd (cc all)

-- WHAT A CRASH LEAVES is what it may leave
pub left_is_outcome : (outcome : CrashOutcome) (first : List ℕ) (strokes : List Stroke) (synced room : ℕ) → are_fit (length first) room strokes ≡ true
    → are_writes (drop synced strokes) ≡ true → Outcome (state_after (first_state first) strokes) (left_after outcome first strokes synced)
left_is_outcome outcomes.Keep first strokes synced room fit all = inr (sym (image-state (first_state first) strokes))
left_is_outcome outcomes.Lose first strokes synced room fit all =
    let kept = state_after (first_state first) (take synced strokes) in
    let d = image_after first (take synced strokes) in
    let here : Outcome kept d = inr (sym (image-state (first_state first) (take synced strokes))) in
    subst (λ (t : State). Outcome t d) (sym (state_after-more (first_state first) (take synced strokes) (drop synced strokes)) ∙ ap (state_after (first_state first)) (take-append-drop synced strokes))
    (lost kept d (drop synced strokes) all here)
left_is_outcome outcomes.Torn first strokes synced room fit all =
    let kept = state_after (first_state first) (take synced strokes) in
    let d = image_after first (take synced strokes) in
    let here : Outcome kept d = inr (sym (image-state (first_state first) (take synced strokes))) in
    subst (λ (t : State). Outcome t (torn_after d (drop synced strokes)))
    (sym (state_after-more (first_state first) (take synced strokes) (drop synced strokes)) ∙ ap (state_after (first_state first)) (take-append-drop synced strokes))
    (torn kept d room (drop synced strokes) all (fit_later first room synced strokes fit) here)

-- time goes on by one stroke more, or by none
module _ (m : Held) (synced clock faults : ℕ) (stop : Option CrashOutcome) (arm : Option Armed) (room writes : ℕ) where
  pub elapses_stroke : (x : Stroke) → Elapses (told_of m) (told_of (record {
    first = m.first;
    strokes = m.strokes ++ x ∷ [];
    synced = synced;
    clock = clock;
    faults = faults;
    stop = stop;
    arm = arm;
    room = room;
    writes = writes;
  }))
  elapses_stroke x = record {
    later = omega (arith, length-append m.strokes (x ∷ []));
    nothing_else = λ t c within left. since_more (first_state m.first) m.strokes x t c within left;
    keeps = λ t within c left. since_keeps (first_state m.first) m.strokes x t c within left;
  }

  elapses_none : Elapses (told_of m) (told_of (record {
    first = m.first;
    strokes = m.strokes;
    synced = synced;
    clock = clock;
    faults = faults;
    stop = stop;
    arm = arm;
    room = room;
    writes = writes;
  }))
  elapses_none = record { later = omega arith; nothing_else = λ t c within left. inl left; keeps = λ t within c left. left }

-- a sync, which makes an entry or none
abbrev pub synced_by : Bool → Held → ℕ → ℕ → Held
synced_by all m room writes = record (if all then m else record m { strokes = m.strokes ++ Stroke.Synced ∷ []; synced = length m.strokes + 1 }) { room = room; writes = writes }

pub image_sync : (all : Bool) (m : Held) (room writes : ℕ) → image_of (counted (synced_by all m room writes)) ≡ image_of m
image_sync true m room writes = refl
image_sync false m room writes = image_after-more m.first m.strokes (Stroke.Synced ∷ [])

pub elapses_sync : (all : Bool) (m : Held) (room writes : ℕ) → Elapses (told_of m) (told_of (counted (synced_by all m room writes)))
elapses_sync true m room writes = elapses_none m m.synced (one_more m.clock) m.faults m.stop m.arm room writes
elapses_sync false m room writes = elapses_stroke m (length m.strokes + 1) (one_more m.clock) m.faults m.stop m.arm room writes Stroke.Synced
