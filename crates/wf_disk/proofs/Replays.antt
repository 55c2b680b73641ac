-- Strokes that are kept as entries, and done again.
use Rattle.std.proofs.Common.{◌≡◌, ℕ, zero, suc, ◌+◌, ◌≤◌, max, Bool, true, ◌&&◌, List, [], ◌∷◌, ◌++◌, length, take, drop, replicate, refl, sym, ◌∙◌, ap, subst, arith, length-append, length-drop, length-take-le}
use Rattle.std.proofs.lemmas.List.{length-replicate, take_all, take-append-le, drop-append-le}
use Rattle.std.specs.Prelude.{nat_le}
use Rattle.wf_disk.specs.Disk.{put_at}
use Rattle.wf_disk.specs.Strokes.{Stroke, image_after, ranges_of, torn_over, torn_after, do_fit, are_fit, are_writes}
use Rattle.wf_disk.specs.Entries.{total, strokes_of, ranges_in}
use Rattle.wf_disk.specs.declared.entry.Entry.{Entry}
use Rattle.wf_disk.specs.declared.entry.Entry.TheVariants as entry

pub length-put_at : (old : List ℕ) (at : ℕ) (bytes : List ℕ) → at ≤ length old → length (put_at old at bytes) ≡ max (length old) (at + length bytes)
length-put_at old at bytes within =
    omega (
      arith,
      length-append (take at old ++ bytes) (drop (at + length bytes) old),
      length-append (take at old) bytes,
      length-take-le at old within,
      length-drop (at + length bytes) old,
    )

-- the parts of a test that holds
pub record FitsFirst (n room at len : ℕ) (rest : Bool) : Type 0 where
  pub begins : at ≤ n
  pub ends : at + len ≤ room
  pub later : rest ≡ true

pub fits_first : (n room at len : ℕ) (rest : Bool) → ((nat_le at n && nat_le (at + len) room) && rest) ≡ true → FitsFirst n room at len rest
fits_first n room at len rest fit = record { begins = grind (arith, fit); ends = grind (arith, fit); later = grind (arith, fit) }

pub fits_both : (n room at len : ℕ) (rest : Bool) → FitsFirst n room at len rest → ((nat_le at n && nat_le (at + len) room) && rest) ≡ true
fits_both n room at len rest fit = grind (arith, fit.begins, fit.ends, fit.later)

pub length-strokes_of : (entries : List Entry) (written : List ℕ) → length (strokes_of entries written) ≡ length entries
length-strokes_of [] written = refl
length-strokes_of (entry.Wrote at len ∷ entries) written = ap suc (length-strokes_of entries (drop len written))
length-strokes_of (entry.Synced ∷ entries) written = ap suc (length-strokes_of entries written)

pub total-append : (xs ys : List Entry) → total (xs ++ ys) ≡ total xs + total ys
total-append [] ys = omega arith
total-append (entry.Wrote at len ∷ xs) ys = let more = total-append xs ys in omega arith
total-append (entry.Synced ∷ xs) ys = total-append xs ys

pub strokes_of-sync : (entries : List Entry) (written : List ℕ) → strokes_of (entries ++ entry.Synced ∷ []) written ≡ strokes_of entries written ++ Stroke.Synced ∷ []
strokes_of-sync [] written = refl
strokes_of-sync (entry.Wrote at len ∷ entries) written = ap (λ strokes. Stroke.Wrote at (take len written) ∷ strokes) (strokes_of-sync entries (drop len written))
strokes_of-sync (entry.Synced ∷ entries) written = ap (λ strokes. Stroke.Synced ∷ strokes) (strokes_of-sync entries written)

pub strokes_of-write : (entries : List Entry) (written bytes : List ℕ) (at : ℕ) → total entries ≡ length written
    → strokes_of (entries ++ entry.Wrote at (length bytes) ∷ []) (written ++ bytes) ≡ strokes_of entries written ++ Stroke.Wrote at bytes ∷ []
strokes_of-write [] [] bytes at filled = ap (λ b. Stroke.Wrote at b ∷ []) (take_all (length bytes) bytes (omega arith))
strokes_of-write [] (b ∷ written) bytes at filled = absurd (omega arith)
strokes_of-write (entry.Wrote place len ∷ entries) written bytes at filled =
    let within : len ≤ length written = omega arith in
    let left : total entries ≡ length (drop len written) = omega (arith, length-drop len written) in
    rw (take-append-le len written bytes within, drop-append-le len written bytes within)
    (ap (λ strokes. Stroke.Wrote place (take len written) ∷ strokes) (strokes_of-write entries (drop len written) bytes at left))
strokes_of-write (entry.Synced ∷ entries) written bytes at filled = ap (λ strokes. Stroke.Synced ∷ strokes) (strokes_of-write entries written bytes at filled)

pub strokes_of-take : (k : ℕ) (entries : List Entry) (written : List ℕ) → strokes_of (take k entries) written ≡ take k (strokes_of entries written)
strokes_of-take zero entries written = refl
strokes_of-take (suc k) [] written = refl
strokes_of-take (suc k) (entry.Wrote at len ∷ entries) written = ap (λ strokes. Stroke.Wrote at (take len written) ∷ strokes) (strokes_of-take k entries (drop len written))
strokes_of-take (suc k) (entry.Synced ∷ entries) written = ap (λ strokes. Stroke.Synced ∷ strokes) (strokes_of-take k entries written)

pub total-take : (k : ℕ) (entries : List Entry) → total (take k entries) ≤ total entries
total-take zero entries = omega arith
total-take (suc k) [] = omega arith
total-take (suc k) (entry.Wrote at len ∷ entries) = let less = total-take k entries in omega arith
total-take (suc k) (entry.Synced ∷ entries) = total-take k entries

-- strokes write the ranges of their entries
pub ranges_of-strokes_of : (entries : List Entry) (written : List ℕ) → total entries ≤ length written → ranges_of (strokes_of entries written) ≡ ranges_in entries
ranges_of-strokes_of [] written filled = refl
ranges_of-strokes_of (entry.Wrote at len ∷ entries) written filled =
    let size : length (take len written) ≡ len = length-take-le len written (omega arith) in
    let later = ranges_of-strokes_of entries (drop len written) (omega (arith, length-drop len written)) in
    rw (size, later) refl
ranges_of-strokes_of (entry.Synced ∷ entries) written filled = ranges_of-strokes_of entries written filled

-- the later strokes write the ranges of the later entries
pub ranges_of-later : (k : ℕ) (entries : List Entry) (written : List ℕ) → total entries ≤ length written → ranges_of (drop k (strokes_of entries written)) ≡ ranges_in (drop k entries)
ranges_of-later zero entries written filled = ranges_of-strokes_of entries written filled
ranges_of-later (suc k) [] written filled = refl
ranges_of-later (suc k) (entry.Wrote at len ∷ entries) written filled = ranges_of-later k entries (drop len written) (omega (arith, length-drop len written))
ranges_of-later (suc k) (entry.Synced ∷ entries) written filled = ranges_of-later k entries written filled

-- a loop that does the entries from the place i on again
pub record Redoes (first image written left : List ℕ) (entries : List Entry) (i room capacity : ℕ) : Type 0 where
  pub ends : image_after image (strokes_of (drop i entries) left) ≡ image_after first (strokes_of entries written)
  pub filled : total (drop i entries) ≤ length left
  pub fit : do_fit (length image) room (ranges_in (drop i entries)) ≡ true
  pub grows : room ≤ capacity

pub record Tears (first image : List ℕ) (entries : List Entry) (i room capacity : ℕ) : Type 0 where
  pub ends : torn_over image (ranges_in (drop i entries)) ≡ torn_over first (ranges_in entries)
  pub fit : do_fit (length image) room (ranges_in (drop i entries)) ≡ true
  pub grows : room ≤ capacity

-- STROKES THAT FIT
-- a front of them, and more room
pub fit_front : (n room k : ℕ) (strokes : List Stroke) → are_fit n room strokes ≡ true → are_fit n room (take k strokes) ≡ true
fit_front n room zero strokes fit = refl
fit_front n room (suc k) [] fit = refl
fit_front n room (suc k) (Stroke.Wrote at bytes ∷ strokes) fit =
    let first = fits_first n room at (length bytes) (are_fit (max n (at + length bytes)) room strokes) fit in
    fits_both n room at (length bytes) (are_fit (max n (at + length bytes)) room (take k strokes)) (record {
      begins = first.begins;
      ends = first.ends;
      later = fit_front (max n (at + length bytes)) room k strokes first.later;
    })
fit_front n room (suc k) (Stroke.Synced ∷ strokes) fit = fit_front n room k strokes fit

pub fit_more : (n room more : ℕ) (strokes : List Stroke) → room ≤ more → are_fit n room strokes ≡ true → are_fit n more strokes ≡ true
fit_more n room more [] grows fit = refl
fit_more n room more (Stroke.Wrote at bytes ∷ strokes) grows fit =
    let first = fits_first n room at (length bytes) (are_fit (max n (at + length bytes)) room strokes) fit in
    fits_both n more at (length bytes) (are_fit (max n (at + length bytes)) more strokes) (record {
      begins = first.begins;
      ends = omega (arith, first.ends, grows);
      later = fit_more (max n (at + length bytes)) room more strokes grows first.later;
    })
fit_more n room more (Stroke.Synced ∷ strokes) grows fit = fit_more n room more strokes grows fit

-- the strokes after the first k
pub fit_later : (file : List ℕ) (room k : ℕ) (strokes : List Stroke) → are_fit (length file) room strokes ≡ true
    → are_fit (length (image_after file (take k strokes))) room (drop k strokes) ≡ true
fit_later file room zero strokes fit = fit
fit_later file room (suc k) [] fit = refl
fit_later file room (suc k) (Stroke.Wrote at bytes ∷ strokes) fit =
    let first = fits_first (length file) room at (length bytes) (are_fit (max (length file) (at + length bytes)) room strokes) fit in
    let size = length-put_at file at bytes first.begins in
    fit_later (put_at file at bytes) room k strokes (subst (λ n. are_fit n room strokes ≡ true) (sym size) first.later)
fit_later file room (suc k) (Stroke.Synced ∷ strokes) fit = fit_later file room k strokes fit

-- one more write
pub fit_write : (file : List ℕ) (room at : ℕ) (bytes : List ℕ) (strokes : List Stroke) → are_fit (length file) room strokes ≡ true
    → at ≤ length (image_after file strokes) → at + length bytes ≤ room → are_fit (length file) room (strokes ++ Stroke.Wrote at bytes ∷ []) ≡ true
fit_write file room at bytes [] fit begins ends = fits_both (length file) room at (length bytes) true (record { begins = begins; ends = ends; later = refl })
fit_write file room at bytes (Stroke.Wrote place old ∷ strokes) fit begins ends =
    let first = fits_first (length file) room place (length old) (are_fit (max (length file) (place + length old)) room strokes) fit in
    let size = length-put_at file place old first.begins in
    let more = fit_write (put_at file place old) room at bytes strokes (subst (λ n. are_fit n room strokes ≡ true) (sym size) first.later) begins ends in
    fits_both (length file) room place (length old) (are_fit (max (length file) (place + length old)) room (strokes ++ Stroke.Wrote at bytes ∷ [])) (record {
      begins = first.begins;
      ends = first.ends;
      later = subst (λ n. are_fit n room (strokes ++ Stroke.Wrote at bytes ∷ []) ≡ true) size more;
    })
fit_write file room at bytes (Stroke.Synced ∷ strokes) fit begins ends = fit_write file room at bytes strokes fit begins ends

pub fit_sync : (n room : ℕ) (strokes : List Stroke) → are_fit n room strokes ≡ true → are_fit n room (strokes ++ Stroke.Synced ∷ []) ≡ true
fit_sync n room [] fit = refl
fit_sync n room (Stroke.Wrote at bytes ∷ strokes) fit =
    let first = fits_first n room at (length bytes) (are_fit (max n (at + length bytes)) room strokes) fit in
    fits_both n room at (length bytes) (are_fit (max n (at + length bytes)) room (strokes ++ Stroke.Synced ∷ [])) (record {
      begins = first.begins;
      ends = first.ends;
      later = fit_sync (max n (at + length bytes)) room strokes first.later;
    })
fit_sync n room (Stroke.Synced ∷ strokes) fit = fit_sync n room strokes fit

-- an image stays within the room, and doesn't shrink
pub image_within : (file : List ℕ) (room : ℕ) (strokes : List Stroke) → length file ≤ room → are_fit (length file) room strokes ≡ true → length (image_after file strokes) ≤ room
image_within file room [] within fit = within
image_within file room (Stroke.Wrote at bytes ∷ strokes) within fit =
    let first = fits_first (length file) room at (length bytes) (are_fit (max (length file) (at + length bytes)) room strokes) fit in
    let size = length-put_at file at bytes first.begins in
    image_within (put_at file at bytes) room strokes (omega (arith, size, first.ends, within)) (subst (λ n. are_fit n room strokes ≡ true) (sym size) first.later)
image_within file room (Stroke.Synced ∷ strokes) within fit = image_within file room strokes within fit

pub image_grows : (file : List ℕ) (room : ℕ) (strokes : List Stroke) → are_fit (length file) room strokes ≡ true → length file ≤ length (image_after file strokes)
image_grows file room [] fit = omega arith
image_grows file room (Stroke.Wrote at bytes ∷ strokes) fit =
    let first = fits_first (length file) room at (length bytes) (are_fit (max (length file) (at + length bytes)) room strokes) fit in
    let size = length-put_at file at bytes first.begins in
    let rest = image_grows (put_at file at bytes) room strokes (subst (λ n. are_fit n room strokes ≡ true) (sym size) first.later) in
    omega (arith, size, rest)
image_grows file room (Stroke.Synced ∷ strokes) fit = image_grows file room strokes fit

pub torn_within : (file : List ℕ) (room : ℕ) (strokes : List Stroke) → length file ≤ room → are_fit (length file) room strokes ≡ true → length (torn_after file strokes) ≤ room
torn_within file room [] within fit = within
torn_within file room (Stroke.Wrote at bytes ∷ strokes) within fit =
    let first = fits_first (length file) room at (length bytes) (are_fit (max (length file) (at + length bytes)) room strokes) fit in
    let full : length (replicate (length bytes) 255) ≡ length bytes = length-replicate (length bytes) 255 in
    let size : length (put_at file at (replicate (length bytes) 255)) ≡ max (length file) (at + length bytes) =
    length-put_at file at (replicate (length bytes) 255) first.begins ∙ ap (λ n. max (length file) (at + n)) full in
    torn_within (put_at file at (replicate (length bytes) 255)) room strokes (omega (arith, size, first.ends, within)) (subst (λ n. are_fit n room strokes ≡ true) (sym size) first.later)
torn_within file room (Stroke.Synced ∷ strokes) within fit = torn_within file room strokes within fit

pub image_after-more : (file : List ℕ) (xs ys : List Stroke) → image_after file (xs ++ ys) ≡ image_after (image_after file xs) ys
image_after-more file [] ys = refl
image_after-more file (Stroke.Wrote at bytes ∷ xs) ys = image_after-more (put_at file at bytes) xs ys
image_after-more file (Stroke.Synced ∷ xs) ys = image_after-more file xs ys

pub are_writes-more : (strokes : List Stroke) (at : ℕ) (bytes : List ℕ) → are_writes strokes ≡ true → are_writes (strokes ++ Stroke.Wrote at bytes ∷ []) ≡ true
are_writes-more [] at bytes all = refl
are_writes-more (Stroke.Wrote place old ∷ strokes) at bytes all = are_writes-more strokes at bytes all
are_writes-more (Stroke.Synced ∷ strokes) at bytes all = absurd (cc all)

-- an image that these strokes made, in a buffer of this capacity
module _ (first image : List ℕ) (strokes : List Stroke) (k capacity : ℕ) (replayed : image ≡ image_after first strokes) (fit : are_fit (length first) (length image) strokes ≡ true)
    (room : length image ≤ capacity) where
  first_within : length first ≤ length image
  first_within = omega (arith, image_grows first (length image) strokes fit, ap length replayed)

  pub first_fits : length first ≤ capacity
  first_fits = omega (arith, first_within, room)

  pub front_fits : are_fit (length first) capacity (take k strokes) ≡ true
  front_fits = fit_front (length first) capacity k strokes (fit_more (length first) (length image) capacity strokes room fit)

  rest_fits : (lost : List ℕ) → lost ≡ image_after first (take k strokes) → are_fit (length lost) (length image) (drop k strokes) ≡ true
  rest_fits lost is = subst (λ (f : List ℕ). are_fit (length f) (length image) (drop k strokes) ≡ true) (sym is) (fit_later first (length image) k strokes fit)

  pub later_fits : (lost : List ℕ) (more : ℕ) → lost ≡ image_after first (take k strokes) → capacity ≤ more → are_fit (length lost) more (drop k strokes) ≡ true
  later_fits lost more is grows = fit_more (length lost) (length image) more (drop k strokes) (omega (arith, room, grows)) (rest_fits lost is)

  pub lost_within : (lost : List ℕ) → lost ≡ image_after first (take k strokes) → length lost ≤ length image
  lost_within lost is =
      omega (arith, ap length is, image_within first (length image) (take k strokes) first_within (fit_front (length first) (length image) k strokes fit))

  pub torn_left : (lost torn : List ℕ) → lost ≡ image_after first (take k strokes) → torn ≡ torn_after lost (drop k strokes) → length torn ≤ length image
  torn_left lost torn is filled =
      omega (arith, ap length filled, torn_within lost (length image) (drop k strokes) (lost_within lost is) (rest_fits lost is))
