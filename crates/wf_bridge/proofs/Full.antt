-- The journal of a server in a play never gets full.
use Rattle.std.proofs.Common.{◌≡◌, ℕ, suc, ◌+◌, ◌*◌, ◌<◌, ◌≤◌, ◌==◌, not, List, [], ◌∷◌, ◌++◌, map, filter, flat_map, length, get_or, sym, ap, ap₂, ◌∙◌, subst, arith}
use Rattle.std.specs.List.{sum_by, range_with_len, AllByRecursion}
use Rattle.std.proofs.lemmas.List.{length-append, length-map}
use Rattle.std.proofs.lemmas.List.Sums.{sum_by-cons}
use Rattle.wf_model.specs.declared.update.Update.{Update}
use Rattle.wf_codec.specs.declared.record.JournalRecord.TheVariants as entry
use Rattle.wf_codec.specs.Records.{named, record_spelling}
use Rattle.wf_codec.specs.Spelling.{two, four, eight, outer_spelling, spelling_of}
use Rattle.wf_machine.specs.Server.{taken as steps_taken}
use Rattle.wf_machine.specs.Machine.{server}
use Rattle.wf_machine.proofs.Sent.{taken_was_sent}
use Rattle.wf_histories.specs.Histories.{Admission, TurnDone, taken}
use Rattle.wf_histories.specs.Agreement.{peers}
use Rattle.wf_worlds.specs.Worlds.{letter}
use Rattle.wf_worlds.specs.Ends.{IsShort, frame_size, end_of_history}
use Rattle.wf_bridge.specs.Full.{JournalNeverFull}
use Rattle.wf_bridge.proofs.Bridging.{taken_is}

head_length : (name unit : List ℕ) → frame_size (entry.Head 1 name unit) ≡ 9 + length name + length unit
unfolding record_spelling
head_length name unit = let a = length-append (named name) (named unit) in omega (arith, a)

admit_length : (a : Admission) → frame_size (entry.Admit a.request a.outer) ≡ 14 + length (outer_spelling a.outer)
unfolding record_spelling
admit_length a = let b = length-append (eight a.request) (outer_spelling a.outer) in omega (arith, b)

turn_length : (turn : TurnDone) → frame_size (entry.Turn turn.step turn.inputs turn.sealed) ≡ 13 + length (flat_map spelling_of turn.inputs)
unfolding record_spelling
turn_length turn =
    let a = length-append (four turn.step) (length turn.inputs ∷ flat_map spelling_of turn.inputs ++ two turn.sealed) in
    let b = length-append (flat_map spelling_of turn.inputs) (two turn.sealed) in omega (arith, a, b)

admissions_few : (xs : List Admission) → AllByRecursion (λ (a : Admission). IsShort a.outer) xs → sum_by (λ (a : Admission). frame_size (entry.Admit a.request a.outer)) xs ≤ 566 * length xs
admissions_few [] h = omega arith
admissions_few (a ∷ xs) h =
    let s = sum_by-cons (λ (a : Admission). frame_size (entry.Admit a.request a.outer)) a xs in
    let l = admit_length a in let f : length (outer_spelling a.outer) ≤ 552 = h.0 in let ih = admissions_few xs h.1 in omega (arith, s, l, f, ih)

abbrev bytes_of : List Update → ℕ
bytes_of ups = length (flat_map spelling_of ups)

turns_are : (turns : List TurnDone) → sum_by (λ (turn : TurnDone). frame_size (entry.Turn turn.step turn.inputs turn.sealed)) turns ≡ 13 * length turns + sum_by bytes_of (map (λ (t : TurnDone). t.inputs) turns)
turns_are [] = omega arith
turns_are (t ∷ turns) =
    let s = sum_by-cons (λ (turn : TurnDone). frame_size (entry.Turn turn.step turn.inputs turn.sealed)) t turns in
    let r = sum_by-cons bytes_of t.inputs (map (λ (t : TurnDone). t.inputs) turns) in
    let l = turn_length t in let ih = turns_are turns in omega (arith, s, r, l, ih)

-- a list, number by number
by_numbers : (f : List Update → ℕ) (g : ℕ → ℕ) (xs : List (List Update)) (a : ℕ) → ((i : ℕ) → i < length xs → f (get_or xs i []) ≤ g (a + i)) → sum_by f xs ≤ sum_by g (range_with_len a (length xs))
by_numbers f g [] a h = omega arith
by_numbers f g (x ∷ xs) a h =
    let s = sum_by-cons f x xs in
    let r = sum_by-cons g a (range_with_len (a + 1) (length xs)) in
    let first : f x ≤ g a = subst (λ (k : ℕ). f x ≤ g k) (let q : a + 0 ≡ a = omega arith in q) (h 0 (omega arith)) in
    let ih = by_numbers f g xs (a + 1) (λ i l. subst (λ (k : ℕ). f (get_or xs i []) ≤ g k) (let q : a + suc i ≡ a + 1 + i = omega arith in q) (h (suc i) (omega (arith, l)))) in
    omega (arith, s, r, first, ih)

letters_length : (f : ℕ → Update) (vs : List ℕ) → bytes_of (map f vs) ≡ sum_by (λ v. length (spelling_of (f v))) vs
letters_length f [] = omega arith
letters_length f (v ∷ vs) =
    let a = length-append (spelling_of (f v)) (flat_map spelling_of (map f vs)) in
    let b = sum_by-cons (λ v. length (spelling_of (f v))) v vs in
    let ih = letters_length f vs in omega (arith, a, b, ih)

pub journal_never_full : JournalNeverFull
unfolding end_of_history
journal_never_full chart m h u part are c is lt few small name_short unit_short sent =
    let n : ℕ = length chart.units in
    let size : ℕ → ℕ → ℕ → ℕ = λ v w j. length (spelling_of (letter chart h v w j)) in
    let ins : List (List Update) = map (λ (t : TurnDone). t.inputs) (h u).turns in
    let long : length ins ≡ taken (h u) = length-map (h u).turns (λ t. t.inputs) ∙ sym (length-map (h u).turns (λ t. t.sealed)) in
    let turned : length (h u).turns ≡ taken (h u) = sym (length-map (h u).turns (λ t. t.sealed)) in
    let kept : sum_by bytes_of ins ≤ sum_by (λ j. sum_by (λ v. size v u j) (peers n u)) (range_with_len 1 (length ins)) =
    by_numbers bytes_of (λ j. sum_by (λ v. size v u j) (peers n u)) ins 1 (λ i l.
    let at : get_or ins i [] ≡ map (λ v. letter chart h v u (suc i)) (peers n u) = are.agree.kept u i lt (omega (arith, l, long)) in
    let e : bytes_of (get_or ins i []) ≡ sum_by (λ v. size v u (1 + i)) (peers n u) =
    ap bytes_of at ∙ letters_length (λ v. letter chart h v u (suc i)) (peers n u) ∙ ap (λ (j : ℕ). sum_by (λ v. size v u j) (peers n u)) (let q : suc i ≡ 1 + i = omega arith in q) in
    omega (arith, e)) in
    let all = taken_was_sent m size u is (let q = c.units in omega (arith, lt, q)) in
    let here : sum_by (λ j. sum_by (λ v. size v u j) (peers n u)) (range_with_len 1 (length ins)) ≡ sum_by (λ j. sum_by (λ v. size v u j) (filter (λ v. not (v == u)) (range_with_len 0 (length m.servers)))) (range_with_len 1 (steps_taken (server m u))) =
    ap₂ (λ (k t : ℕ). sum_by (λ j. sum_by (λ v. size v u j) (filter (λ v. not (v == u)) (range_with_len 0 k))) (range_with_len 1 t)) (sym c.units) (long ∙ sym (taken_is m n h c u lt)) in
    let a = head_length part.chart part.name in
    let b = admissions_few (h u).admissions small in
    let t = turns_are (h u).turns in
    omega (arith, a, b, t, turned, kept, all, here, few, name_short, unit_short, sent)
