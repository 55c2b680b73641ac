-- A range that is read or written piece by piece.
use Rattle.std.proofs.Common.{◌≡◌, ℕ, ◌+◌, ◌≤◌, List, [], ◌++◌, length, take, drop, Option, None, Some, refl, sym, ap, subst, arith, ◌∙◌, append_assoc, length-append}
use Rattle.std.proofs.Math.Seq.{take-add, take-append-add, take-append_seam, drop-append-add}
use Rattle.std.proofs.lemmas.List.{length-take-le, take-append-le, drop-drop, take-append-drop, append-nil}
use Rattle.wf_disk.specs.Disk.{put_at}
use Rattle.wf_files.specs.Bytes.{IsRead, IsPut}

-- nothing written changes nothing
put_none : (file : List ℕ) (at : ℕ) → put_at file at [] ≡ file
put_none file at =
    let plain : at + length {A = ℕ} [] ≡ at = omega arith in
    ap (λ front. front ++ drop (at + length {A = ℕ} []) file) (append-nil (take at file)) ∙ ap (λ n. take at file ++ drop n file) plain ∙ take-append-drop at file

-- a write, and one where it ended, are one write
put_on : (file : List ℕ) (at : ℕ) (xs ys : List ℕ) → at ≤ length file → put_at (put_at file at xs) (at + length xs) ys ≡ put_at file at (xs ++ ys)
put_on file at xs ys within =
    let front = take at file ++ xs in
    let rest = drop (at + length xs) file in
    let size : length front ≡ at + length xs = length-append (take at file) xs ∙ ap (λ n. n + length xs) (length-take-le at file within) in
    let begins : take (at + length xs) (front ++ rest) ≡ front = ap (λ n. take n (front ++ rest)) (sym size) ∙ take-append_seam front rest in
    let past : at + length xs + length ys ≡ at + length (xs ++ ys) = omega (arith, length-append xs ys) in
    let ends : drop (at + length xs + length ys) (front ++ rest) ≡ drop (at + length (xs ++ ys)) file =
    ap (λ n. drop (n + length ys) (front ++ rest)) (sym size) ∙ drop-append-add front rest (length ys)
    ∙ drop-drop (length ys) (at + length xs) file ∙ ap (λ n. drop n file) past in
    ap (λ a. a ++ ys ++ drop (at + length xs + length ys) (front ++ rest)) begins ∙ ap (λ d. front ++ ys ++ d) ends
    ∙ ap (λ f. f ++ drop (at + length (xs ++ ys)) file) (append_assoc (take at file) xs ys)

-- a file is no shorter than where a write ended
put_reaches : (file : List ℕ) (at : ℕ) (xs : List ℕ) → at ≤ length file → at + length xs ≤ length (put_at file at xs)
put_reaches file at xs within =
    omega (arith, length-append (take at file ++ xs) (drop (at + length xs) file), length-append (take at file) xs, length-take-le at file within)

pub puts_none : (held : Option (List ℕ)) (at : ℕ) → IsPut held held at []
puts_none None at = tt
puts_none (Some file) at = λ within. ap Some (sym (put_none file at))

-- one piece more
pub puts_on : (a b c : Option (List ℕ)) (at done n : ℕ) (bytes : List ℕ) → done ≤ length bytes
    → IsPut a b at (take done bytes) → IsPut b c (at + done) (take n (drop done bytes)) → IsPut a c at (take (done + n) bytes)
puts_on None b c at done n bytes part first second = tt
puts_on (Some file) b c at done n bytes part first second = λ within.
    let size : length (take done bytes) ≡ done = length-take-le done bytes part in
    let then : IsPut (Some (put_at file at (take done bytes))) c (at + done) (take n (drop done bytes)) =
    subst (λ b. IsPut b c (at + done) (take n (drop done bytes))) (first within) second in
    let reaches : at + done ≤ length (put_at file at (take done bytes)) = omega (arith, put_reaches file at (take done bytes) within, size) in
    then reaches ∙ ap (λ k. Some (put_at (put_at file at (take done bytes)) (at + k) (take n (drop done bytes)))) (sym size)
    ∙ ap Some (put_on file at (take done bytes) (take n (drop done bytes)) within)
    ∙ ap (λ whole. Some (put_at file at whole)) (sym (take-add done n bytes))

pub reads_none : (held : Option (List ℕ)) (at : ℕ) (into : List ℕ) → IsRead held at 0 into
reads_none None at into = tt
reads_none (Some file) at into = refl

-- one piece more, behind those that were read
pub reads_on : (held : Option (List ℕ)) (at done n : ℕ) (into more : List ℕ) → done ≤ length into
    → IsRead held at done into → IsRead held (at + done) n more → IsRead held at (done + n) (take done into ++ more)
reads_on None at done n into more part first second = tt
reads_on (Some file) at done n into more part first second =
    let size : length (take done into) ≡ done = length-take-le done into part in
    ap (λ k. take (k + n) (take done into ++ more)) (sym size) ∙ take-append-add (take done into) more n
    ∙ ap (λ front. front ++ take n more) first ∙ ap (λ piece. take done (drop at file) ++ piece) second
    ∙ ap (λ rest. take done (drop at file) ++ take n rest) (sym (drop-drop done at file))
    ∙ sym (take-add done n (drop at file))

-- what was read into a part of a buffer stands in that part
pub reads_front : (held : Option (List ℕ)) (at n : ℕ) (part after : List ℕ) → n ≤ length part → IsRead held at n part → IsRead held at n (part ++ after)
reads_front None at n part after within read = tt
reads_front (Some file) at n part after within read = take-append-le n part after within ∙ read
