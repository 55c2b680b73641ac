-- Which disks are out after a take, a return and a refusal.
use Rattle.std.proofs.Common.{◌≡◌, ◌≢◌, ℕ, Bool, true, false, not, ◌||◌, if◌then◌else◌, List, [], ◌∷◌, ◌++◌, filter, None, Some, is_some, IsTrue, refl, sym, ap, ◌∙◌}
use Rattle.std.specs.List.{list_any}
use Rattle.std.specs.Str.{bytes_eq}
use Rattle.std.proofs.lemmas.List.Folds.{list_any-append}
use Rattle.std.proofs.lemmas.Map.Views.{any-filter_same}
use Rattle.std.proofs.lemmas.Slice.Eq.{bytes_eq-Decides}
use Rattle.wf_disk.specs.Shelf.{KeepsDisk, IsTaken, IsGiven}
use Rattle.wf_files.specs.Files.{OnFile, told_of as told_of_file}
use Rattle.wf_files.specs.Folders.{OnFolder, is_out, told_of}

unless_true : (b : Bool) → (b ≡ true → ⊥) → b ≡ false
unless_true true isnt = absurd (isnt refl)
unless_true false isnt = refl

is_other : (a b : List ℕ) → a ≢ b → bytes_eq a b ≡ false
is_other a b other = unless_true (bytes_eq a b) (λ so. other ((bytes_eq-Decides a b).0 so))

is_same : (a : List ℕ) → bytes_eq a a ≡ true
is_same a = (bytes_eq-Decides a a).1 refl

or_true : (b : Bool) → (b || true) ≡ true
or_true true = refl
or_true false = refl

or_false : (b : Bool) → (b || false) ≡ b
or_false true = refl
or_false false = refl

module _ (unit : List ℕ) (old new : OnFolder) where
  -- a disk that went out is out, and of others the same ones as before
  pub out_now : new.out ≡ old.out ++ unit ∷ [] → is_out unit new ≡ true
  out_now is =
      ap (list_any (λ other. bytes_eq other unit)) is ∙ list_any-append (λ other. bytes_eq other unit) old.out (unit ∷ [])
      ∙ ap (λ b. list_any (λ other. bytes_eq other unit) old.out || (b || false)) (is_same unit)
      ∙ or_true (list_any (λ other. bytes_eq other unit) old.out)

  pub others_out : (name : List ℕ) → name ≢ unit → new.out ≡ old.out ++ unit ∷ [] → is_out name new ≡ is_out name old
  others_out name differs is =
      ap (list_any (λ other. bytes_eq other name)) is ∙ list_any-append (λ other. bytes_eq other name) old.out (unit ∷ [])
      ∙ ap (λ b. list_any (λ other. bytes_eq other name) old.out || (b || false)) (is_other unit name (λ e. differs (sym e)))
      ∙ or_false (list_any (λ other. bytes_eq other name) old.out)

  -- a disk that came back is in, and of others the same ones are out
  pub back_now : new.out ≡ filter (λ name. not (bytes_eq name unit)) old.out → is_out unit new ≡ false
  back_now is =
      ap (list_any (λ other. bytes_eq other unit)) is
      ∙ any-filter_same (λ other. bytes_eq other unit) (λ name. not (bytes_eq name unit)) false (λ k same. ap not same) old.out

  pub others_back : (name : List ℕ) → name ≢ unit → new.out ≡ filter (λ name. not (bytes_eq name unit)) old.out → is_out name new ≡ is_out name old
  others_back name differs is =
      ap (list_any (λ other. bytes_eq other name)) is
      ∙ any-filter_same (λ other. bytes_eq other name) (λ name. not (bytes_eq name unit)) true
      (λ k same. ap not (is_other k unit (λ e. differs (sym ((bytes_eq-Decides k name).0 same) ∙ e)))) old.out

-- a disk of which a moment of its take is told is out
pub out_if_taken : (b : Bool) → IsTrue (is_some {T = ℕ} (if b then Some 0 else None)) → b ≡ true
out_if_taken true taken = refl
out_if_taken false taken = taken

-- A DISK THAT IS OUT OR IN as before is kept.
pub keeps : (name : List ℕ) (old new : OnFolder) → is_out name new ≡ is_out name old → KeepsDisk name (told_of old) (told_of new)
keeps name old new same = record {
  image = refl;
  crash = λ c left. tt;
  crash_kept = λ c left. tt;
  taken_at = ap (λ b. if b then Some 0 else None) same;
  past = λ c left. tt;
  past_kept = λ c left. tt;
}

-- A DISK that was in, and is out now, was taken.
pub takes : (unit : List ℕ) (old new : OnFolder) (disk : OnFile) → is_out unit old ≡ false → is_out unit new ≡ true → disk.faults ≡ 0
    → IsTaken unit (told_of old) (told_of new) (told_of_file disk)
takes unit old new disk before after sound = record {
  stood = ap (λ b. if b then Some 0 else None) before;
  out = ap (λ b. if b then Some 0 else None) after;
  image = refl;
  crash = λ c left. tt;
  crash_kept = λ c left. tt;
  no_faults = sound;
}

-- A DISK that is in now was given back.
pub gives : (unit : List ℕ) (old new : OnFolder) (disk : OnFile) → is_out unit new ≡ false → IsGiven unit (told_of old) (told_of new) (told_of_file disk)
gives unit old new disk after = record {
  stands = ap (λ b. if b then Some 0 else None) after;
  image = refl;
  crash = λ c left. tt;
  crash_kept = λ c left. tt;
  past = λ t at c left. tt;
  past_kept = λ t at c left. tt;
}
