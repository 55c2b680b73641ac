-- What is found on a disk.
use Rattle.std.proofs.Common.{◌≡◌, ℕ, ◌+◌, ◌<◌, ◌≤◌, Bool, true, false, not, ◌||◌, cond, nat_lt, List, [], ◌∷◌, length, Option, Some, None, Result, Ok, Err, refl, sym, ap, ap₂, ◌∙◌, subst, arith}
use Rattle.std.specs.Prelude.{is_some, map, IsErrOf}
use Rattle.std.proofs.lemmas.Bool.{le-ltb}
use Rattle.wf_disk.specs.Disk.{Told, HasCause}
use Rattle.wf_disk.proofs.Runs.{cause_since, cause_none}
use Rattle.wf_journal.specs.Frames.{Frame, open_gate, bodies_of, frames_at, is_broken, can_start, end_of}
use Rattle.wf_journal.specs.Journal.{IsPlace, IsRead}
use Rattle.wf_journal.specs.declared.fault.ReadFault.{ReadFault}
use Rattle.wf_journal.specs.declared.fault.ReadFault.TheVariants as read
use Rattle.wf_journal.specs.declared.fault.StartFault.{StartFault}
use Rattle.wf_journal.specs.declared.fault.StartFault.TheVariants as start
use Rattle.wf_parts.specs.declared.data.PartData.{PartData}
use Rattle.wf_histories.specs.Histories.{History}
use Rattle.wf_steps.specs.declared.fault.RecoverFault.{RecoverFault}
use Rattle.wf_steps.specs.declared.fault.RecoverFault.TheVariants as steps
use Rattle.wf_steps.specs.Records.{history_of}
use Rattle.wf_steps.specs.Recovering as recovering
use Rattle.wf_steps.proofs.Ends.{no_bodies}
use Rattle.wf_trail.specs.Images.{some_of, kept_in, kept_with}
use Rattle.wf_trail.specs.Telling.{start_fault, IsFault}

-- ---- what is read first

-- an image has no body if nothing is read at its beginning
pub nothing_is : (part : PartData) (file : List ℕ) (found : Option ℕ) (bytes : List ℕ) → found ≡ None → IsRead file 0 found bytes → IsPlace file 0 →
    kept_with part file (bodies_of file) ≡ Ok None
nothing_is part file found bytes is read place =
    let P : Option ℕ → Type 0 = λ o. IsRead file 0 o bytes in
    ap (kept_with part file) (no_bodies file place (subst P is read))

-- and else it has a first one
pub frame_is : (part : PartData) (file : List ℕ) (found : Option ℕ) (next : ℕ) (bytes : List ℕ) → found ≡ Some next → IsRead file 0 found bytes →
    kept_with part file (bodies_of file) ≡ some_of (history_of part file)
unfolding bodies_of frames_at
frame_is part file found next bytes is read =
    let P : Option ℕ → Type 0 = λ o. IsRead file 0 o bytes in
    let first : IsRead file 0 (Some next) bytes = subst P is read in
    ap (λ (frames : List Frame). kept_with part file (map (λ (frame : Frame). frame.body) frames)) first.1

-- what is wrong with a history is wrong with the image
pub fault_of_image : (wanted : Result History RecoverFault) (fault : RecoverFault) → recovering.IsFault wanted fault → IsFault (some_of wanted) fault
fault_of_image wanted (steps.Foreign kept names) is = ap some_of is
fault_of_image wanted (steps.BadRecord at first) is = ap some_of is
fault_of_image wanted steps.DiskFailed is = tt
fault_of_image wanted steps.NoMemory is = tt

-- a read that fails leaves free what is told
pub read_fault_is : (wanted : Result (Option History) RecoverFault) (fault : ReadFault) → IsFault wanted (recovering.fault_of fault)
read_fault_is wanted read.DiskFailed = tt
read_fault_is wanted read.NoMemory = tt

-- it is the disk's fault only if the read says so
read_failed : (fault : ReadFault) → recovering.fault_of fault ≡ steps.DiskFailed → fault ≡ read.DiskFailed
read_failed read.DiskFailed is = refl
read_failed read.NoMemory is = cc

-- ---- images

-- an image of fewer than two bytes has no frame
pub short_has_none : (part : PartData) (file : List ℕ) → length file < 2 → kept_in part file ≡ Ok None
unfolding kept_in bodies_of frames_at
short_has_none part [] short = refl
short_has_none part (x ∷ []) short = refl
short_has_none part (x ∷ (y ∷ file)) short = absurd (omega arith)

-- a whole one holds what its bodies say
pub whole_is : (part : PartData) (file : List ℕ) → is_broken file ≡ false → kept_in part file ≡ kept_with part file (bodies_of file)
unfolding kept_in
whole_is part file whole = go (nat_lt (length file) 2) (is_broken file) whole
  where
    go : (short broken : Bool) → broken ≡ false → cond (short || not broken) (kept_with part file (bodies_of file)) (Err (steps.BadRecord (end_of file) open_gate)) ≡ kept_with part file (bodies_of file)
    go true broken w = refl
    go false true w = cc
    go false false w = refl

-- a broken one of two bytes or more is bad
pub broken_is : (part : PartData) (file : List ℕ) → 2 ≤ length file → is_broken file ≡ true → kept_in part file ≡ Err (steps.BadRecord (end_of file) open_gate)
unfolding kept_in
broken_is part file long broken = ap₂ (λ (a b : Bool). cond (a || not b) (kept_with part file (bodies_of file)) (Err (steps.BadRecord (end_of file) open_gate))) (le-ltb (length file) 2 long) broken

-- why a journal doesn't start
pub start_fault_is : (part : PartData) (file : List ℕ) (fault : StartFault) → ((at : ℕ) → fault ≡ start.BadFrame at → (2 ≤ length file) × (is_broken file ≡ true) × (end_of file ≡ at)) →
    IsFault (kept_in part file) (start_fault fault)
start_fault_is part file (start.BadFrame at) bad =
    let b = bad at refl in
    broken_is part file b.0 b.1 ∙ ap (λ (n : ℕ). Err (steps.BadRecord n open_gate)) b.2
start_fault_is part file start.DiskFailed bad = tt
start_fault_is part file start.NoMemory bad = tt

-- an image that is kept where it is told, and told where it was
pub image_kept : (old new : Option (List ℕ)) → is_some new ≡ is_some old → ((file : List ℕ) → old ≡ Some file → new ≡ Some file) → new ≡ old
image_kept None None tells same = refl
image_kept None (Some file) tells same = cc
image_kept (Some file) new tells same = same file refl

-- it is the disk's fault only if the journal says so
start_failed : (fault : StartFault) → start_fault fault ≡ steps.DiskFailed → fault ≡ start.DiskFailed
start_failed (start.BadFrame at) is = cc
start_failed start.DiskFailed is = refl
start_failed start.NoMemory is = cc

-- ---- causes

-- what is found is no failure
pub cause_found : {T : Type 0} (old new : Told) (F : Type 0) (x : T) → HasCause old new F → (F → ⊥) → HasCause old new (IsErrOf {T = T} {E = RecoverFault} (Ok x) steps.DiskFailed)
cause_found old new F x cause sound = cause_none old new _ (cause.kept sound) (λ e. cc e)

-- a fault is one of the disk exactly where a call said so
pub cause_told : {T : Type 0} (old new : Told) (F : Type 0) (fault : RecoverFault) → HasCause old new F → (fault ≡ steps.DiskFailed → F) → (F → fault ≡ steps.DiskFailed) →
    HasCause old new (IsErrOf {T = T} (Err fault) steps.DiskFailed)
cause_told {T = T} old new F fault cause from to =
    let G : Type 0 = ◌≡◌ {A = Result T RecoverFault} (Err fault) (Err steps.DiskFailed) in
    cause_since old old new F G refl cause (λ e. from (cc e)) (λ failure. ap (λ (f : RecoverFault). Err f) (to failure))

-- so a read did, or the start of a journal
pub cause_read : {S T : Type 0} (old new : Told) (fault : ReadFault) (made : RecoverFault) → made ≡ recovering.fault_of fault →
    HasCause old new (IsErrOf {T = S} (Err fault) read.DiskFailed) → HasCause old new (IsErrOf {T = T} (Err made) steps.DiskFailed)
cause_read {S = S} old new fault made is cause =
    cause_told old new (◌≡◌ {A = Result S ReadFault} (Err fault) (Err read.DiskFailed)) made cause
    (λ failed. ap (λ (f : ReadFault). Err f) (read_failed fault (sym is ∙ failed)))
    (λ failed. let e : fault ≡ read.DiskFailed = cc failed in is ∙ ap recovering.fault_of e)

pub cause_start : {T : Type 0} (old new : Told) (fault : StartFault) (made : RecoverFault) → made ≡ start_fault fault →
    HasCause old new (fault ≡ start.DiskFailed) → HasCause old new (IsErrOf {T = T} (Err made) steps.DiskFailed)
cause_start old new fault made is cause =
    cause_told old new (fault ≡ start.DiskFailed) made cause (λ failed. start_failed fault (sym is ∙ failed)) (λ failed. is ∙ ap start_fault failed)
