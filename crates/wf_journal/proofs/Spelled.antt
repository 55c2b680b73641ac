-- A journal's bytes are the frames of its bodies, and the other way round.
use Rattle.std.proofs.Common.{◌≡◌, ◌≢◌, ℕ, zero, suc, ◌≤◌, ◌<◌, Bool, true, false, ◌&&◌, ◌==◌, nat_le, cond, List, [], ◌∷◌, ◌++◌, All, length, take, get_or, refl, sym, ◌∙◌, ap, subst, arith, rules, length-append, length-take-le, append_assoc}
use Rattle.std.proofs.lemmas.Bool.{and_parts}
use Rattle.std.proofs.lemmas.List.Elements.{All-nil, All-head, All-tail, All-cons}
use Rattle.std.proofs.lemmas.Nat.{be_bytes_4}
use Rattle.std.specs.Int.{w32, to_be_bytes}
use Rattle.wf_model.specs.Limits.{max_body}
use Rattle.wf_journal.specs.Frames.{open_gate, number_of, packed, fits, bodies_of, IsAtRest}
use Rattle.wf_journal.proofs.Ends.{end_after, breaks_after, fits-inside, end_of-walk, is_broken-walk, rests-end}
use Rattle.wf_journal.specs.Laws.{IsBody, frame_of, frames_of, AreBytes}
use Rattle.wf_journal.proofs.Walks.{bodies_after, bodies_of-walk}
use Rattle.wf_journal.proofs.Cuts.{bodies-closed, end-closed, breaks-closed}
use Rattle.wf_journal.proofs.Shapes.{bodies-front, end-front, breaks-front, shut}

-- THE FRAMES ARE READ

record Spells (bodies : List (List ℕ)) (file : List ℕ) : Type 0 where
  has : bodies_after 0 file ≡ bodies
  end : end_after 0 file ≡ length (frames_of bodies)
  whole : breaks_after 0 file ≡ false

spells : (bodies : List (List ℕ)) (gate : ℕ) (tail : List ℕ) → All IsBody bodies → (gate == 1) ≡ false → Spells bodies (frames_of bodies ++ gate ∷ tail)
spells [] gate tail are shut = record { has = bodies-closed gate tail shut; end = end-closed gate tail shut; whole = breaks-closed gate tail shut }
spells (body ∷ bodies) gate tail are shut =
    let more = spells bodies gate tail (All-tail IsBody body bodies are) shut in
    let is = All-head IsBody body bodies are in
    let rest = frames_of bodies ++ gate ∷ tail in
    let some : 0 < length rest = omega (arith, length-append (frames_of bodies) (gate ∷ tail)) in
    let shape : frames_of (body ∷ bodies) ++ gate ∷ tail ≡ 1 ∷ (packed body ++ rest) = append_assoc (frame_of body) (frames_of bodies) (gate ∷ tail) in
    record {
      has = ap (bodies_after 0) shape ∙ bodies-front body is.some is.most rest some ∙ ap (λ l. body ∷ l) more.has;
      end =
          ap (end_after 0) shape ∙ end-front body is.some is.most rest some
          ∙ omega (arith, more.end, length-append (frame_of body) (frames_of bodies), length-append (to_be_bytes w32 (length body)) body);
      whole = ap (breaks_after 0) shape ∙ breaks-front body is.some is.most rest some ∙ more.whole;
    }

isnt_open : (gate : ℕ) → gate ≢ open_gate → (gate == 1) ≡ false
isnt_open gate isnt = search (rules, isnt)

pub frames_bodies : (bodies : List (List ℕ)) (gate : ℕ) (tail : List ℕ) → All IsBody bodies → gate ≢ open_gate → bodies_of (frames_of bodies ++ gate ∷ tail) ≡ bodies
frames_bodies bodies gate tail are isnt = let s = spells bodies gate tail are (isnt_open gate isnt) in bodies_of-walk (frames_of bodies ++ gate ∷ tail) ∙ s.has

pub frames_rest : (bodies : List (List ℕ)) (gate : ℕ) (tail : List ℕ) → All IsBody bodies → gate ≢ open_gate → IsAtRest (frames_of bodies ++ gate ∷ tail) (length (frames_of bodies))
frames_rest bodies gate tail are isnt =
    let s = spells bodies gate tail are (isnt_open gate isnt) in
    let file = frames_of bodies ++ gate ∷ tail in
    record { whole = is_broken-walk file ∙ s.whole; end = end_of-walk file ∙ s.end; within = omega (arith, length-append (frames_of bodies) (gate ∷ tail)) }

-- A JOURNAL IS FRAMES

-- a body that fits is one, and as long as its field says
taken_length : (n : ℕ) (rest : List ℕ) → fits n rest ≡ true → length (take n rest) ≡ n
taken_length n rest fit = let inside : n < length rest = fits-inside n rest fit in length-take-le n rest (omega (arith, inside))

is_body : (n : ℕ) (rest : List ℕ) → fits n rest ≡ true → IsBody (take n rest)
is_body n rest fit =
    let len = taken_length n rest fit in
    let low : 1 ≤ n = let test = (and_parts (nat_le 1 n) _ fit).0 in search (rules, test) in
    let high : n ≤ max_body = let test = (and_parts (nat_le n max_body) _ (and_parts (nat_le 1 n) _ fit).1).0 in search (rules, test) in
    record { some = omega (arith, len, low); most = omega (arith, len, high) }

are_bodies : (skip : ℕ) (file : List ℕ) → All IsBody (bodies_after skip file)
are_bodies (suc skip) [] = All-nil IsBody
are_bodies (suc skip) (byte ∷ file) = are_bodies skip file
are_bodies zero [] = All-nil IsBody
are_bodies zero (gate ∷ []) = All-nil IsBody
are_bodies zero (gate ∷ a ∷ []) = All-nil IsBody
are_bodies zero (gate ∷ a ∷ b ∷ []) = All-nil IsBody
are_bodies zero (gate ∷ a ∷ b ∷ c ∷ []) = All-nil IsBody
are_bodies zero (gate ∷ a ∷ b ∷ c ∷ d ∷ rest) = go (gate == 1) (fits (number_of a b c d) rest) refl (are_bodies (number_of a b c d) rest)
  where
    go : (o f : Bool) → fits (number_of a b c d) rest ≡ f → All IsBody (bodies_after (number_of a b c d) rest)
        → All IsBody (cond (o && f) (take (number_of a b c d) rest ∷ bodies_after (number_of a b c d) rest) [])
    go true true fit more = All-cons IsBody (take (number_of a b c d) rest) (bodies_after (number_of a b c d) rest) (is_body (number_of a b c d) rest fit) more
    go true false fit more = All-nil IsBody
    go false f fit more = All-nil IsBody

pub bodies_are : (file : List ℕ) → All IsBody (bodies_of file)
bodies_are file = subst (All IsBody) (sym (bodies_of-walk file)) (are_bodies 0 file)

-- the numbers of a list with one more in front
bytes_behind : (byte : ℕ) (file : List ℕ) → AreBytes (byte ∷ file) → AreBytes file
bytes_behind byte file are = All-tail (λ b. b < 256) byte file are

byte_first : (byte : ℕ) (file : List ℕ) → AreBytes (byte ∷ file) → byte < 256
byte_first byte file are = All-head (λ b. b < 256) byte file are

-- four bytes are the spelling of the number that they stand for
field_again : (a b c d : ℕ) (rest : List ℕ) → AreBytes (a ∷ b ∷ c ∷ d ∷ rest) → to_be_bytes w32 (number_of a b c d) ≡ a ∷ b ∷ c ∷ d ∷ []
field_again a b c d rest are = be_bytes_4 (a ∷ b ∷ c ∷ d ∷ []) (number_of a b c d) refl below refl
  where
    below : (i : ℕ) → get_or (a ∷ b ∷ c ∷ d ∷ []) i 0 < 256
    below zero = byte_first a (b ∷ c ∷ d ∷ rest) are
    below (suc zero) = byte_first b (c ∷ d ∷ rest) (bytes_behind a (b ∷ c ∷ d ∷ rest) are)
    below (suc (suc zero)) = byte_first c (d ∷ rest) (bytes_behind b (c ∷ d ∷ rest) (bytes_behind a (b ∷ c ∷ d ∷ rest) are))
    below (suc (suc (suc zero))) = byte_first d rest (bytes_behind c (d ∷ rest) (bytes_behind b (c ∷ d ∷ rest) (bytes_behind a (b ∷ c ∷ d ∷ rest) are)))
    below (suc (suc (suc (suc i)))) = omega arith

front : (skip : ℕ) (file : List ℕ) → skip ≤ length file → AreBytes file → take (end_after skip file) file ≡ take skip file ++ frames_of (bodies_after skip file)
front (suc skip) [] le are = absurd (omega arith)
front (suc skip) (byte ∷ file) le are = ap (λ l. byte ∷ l) (front skip file (omega arith) (bytes_behind byte file are))
front zero [] le are = refl
front zero (gate ∷ []) le are = refl
front zero (gate ∷ a ∷ []) le are = refl
front zero (gate ∷ a ∷ b ∷ []) le are = refl
front zero (gate ∷ a ∷ b ∷ c ∷ []) le are = refl
front zero (gate ∷ a ∷ b ∷ c ∷ d ∷ rest) le are = go (gate == 1) refl (fits (number_of a b c d) rest) refl (λ l. front (number_of a b c d) rest l bytes)
  where
    bytes : AreBytes rest
    bytes =
        bytes_behind d rest (bytes_behind c (d ∷ rest) (bytes_behind b (c ∷ d ∷ rest) (bytes_behind a (b ∷ c ∷ d ∷ rest) (bytes_behind gate (a ∷ b ∷ c ∷ d ∷ rest) are))))

    go : (o : Bool) → (gate == 1) ≡ o → (f : Bool) → fits (number_of a b c d) rest ≡ f
        → (number_of a b c d ≤ length rest → take (end_after (number_of a b c d) rest) rest ≡ take (number_of a b c d) rest ++ frames_of (bodies_after (number_of a b c d) rest))
        → take (cond (o && f) (suc (suc (suc (suc (suc (end_after (number_of a b c d) rest)))))) 0) (gate ∷ a ∷ b ∷ c ∷ d ∷ rest)
        ≡ frames_of (cond (o && f) (take (number_of a b c d) rest ∷ bodies_after (number_of a b c d) rest) [])
    go true is true fit more =
        let n = number_of a b c d in
        let inside : n < length rest = fits-inside n rest fit in
        let is_one : gate ≡ 1 = search (rules, is) in
        let field : packed (take n rest) ≡ a ∷ b ∷ c ∷ d ∷ take n rest =
        ap (λ k. to_be_bytes w32 k ++ take n rest) (taken_length n rest fit) ∙ ap (λ l. l ++ take n rest) (field_again a b c d rest (bytes_behind gate (a ∷ b ∷ c ∷ d ∷ rest) are)) in
        ap (λ k. k ∷ a ∷ b ∷ c ∷ d ∷ take (end_after n rest) rest) is_one ∙ ap (λ l. 1 ∷ a ∷ b ∷ c ∷ d ∷ l) (more (omega (arith, inside)))
        ∙ sym (ap (λ l. 1 ∷ (l ++ frames_of (bodies_after n rest))) field)
    go true is false fit more = refl
    go false is f fit more = refl

pub front_frames : (file : List ℕ) (place : ℕ) → AreBytes file → IsAtRest file place → take place file ≡ frames_of (bodies_of file)
front_frames file place are rests = ap (λ k. take k file) (sym (rests-end file place rests)) ∙ front 0 file (omega arith) are ∙ ap frames_of (sym (bodies_of-walk file))

pub gate_shut : (file : List ℕ) (place : ℕ) → IsAtRest file place → get_or file place open_gate ≢ open_gate
gate_shut file place rests = let is : (get_or file place 1 == 1) ≡ false = shut file place rests in search (rules, is)
