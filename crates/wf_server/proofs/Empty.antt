-- Files without a frame, and names that a head may have.
use Rattle.std.proofs.Common.{◌≡◌, ◌≢◌, ℕ, zero, suc, ◌+◌, ◌≤◌, ◌<◌, ◌&&◌, ◌==◌, ◌||◌, nat_le, if◌then◌else◌, Bool, true, false, true≢false, List, [], ◌∷◌, ◌++◌, length, take, map, slice_get, Option, Some, None, refl, sym, ap, ◌∙◌, subst, arith, rules}
use Rattle.std.specs.Prelude.{IsTrue, Result, Ok, not}
use Rattle.std.specs.List.{list_all}
use Rattle.std.specs.Option.{option_map_or}
use Rattle.std.specs.Str.{bytes_eq}
use Rattle.std.proofs.lemmas.Slice.Eq.{bytes_eq-Decides}
use Rattle.std.proofs.lemmas.List.Folds.{list_all-append}
use Rattle.wf_model.specs.Limits.{max_name}
use Rattle.wf_model.specs.Names.{is_word_char, is_letter, is_word, are_word_chars, is_reserved, is_name}
use Rattle.wf_model.specs.declared.chart.Chart.{Chart}
use Rattle.wf_model.specs.declared.chart.Event.{Event}
use Rattle.wf_model.specs.declared.chart.Variable.{Variable}
use Rattle.wf_model.specs.declared.chart.Activity.{Activity}
use Rattle.wf_model.specs.declared.chart.State.{State}
use Rattle.wf_model.specs.Accepted.{IsAccepted, is_accepted, is_named, names_of}
use Rattle.wf_model.proofs.Bools.{and_both, or_left}
use Rattle.wf_journal.specs.Frames.{Frame, open_gate, header, number_of, fits, frames_after, frames_from, frames_at, bodies_of, end_of, is_broken, is_open_at, can_start, IsAtRest}
use Rattle.wf_journal.specs.Journal.{IsPlace, IsRead}
use Rattle.wf_journal.proofs.Ends.{end_after, end_of-walk}
use Rattle.wf_codec.specs.Bodies.{IsBodyOf}
use Rattle.wf_codec.specs.Records.{IsHeadName, is_head_char, record_of}
use Rattle.wf_codec.specs.declared.record.JournalRecord.{JournalRecord}
use Rattle.wf_codec.specs.declared.record.JournalRecord.TheVariants.{Head}
use Rattle.wf_parts.specs.declared.data.PartData.{PartData}
use Rattle.wf_parts.specs.Parts.{IsPart, part_of}
use Rattle.wf_histories.specs.Histories.{History}
use Rattle.wf_worlds.specs.Worlds.{first_history}
use Rattle.wf_steps.specs.declared.fault.RecoverFault.{RecoverFault}
use Rattle.wf_steps.specs.Records.{head_of, and_on, read_on, history_in, history_of}
use Rattle.wf_server.specs.Starting.{has_none}
use Rattle.wf_server.proofs.Reading.{can_start_whole}

-- FILES

no_suc : {n : ℕ} → suc n ≡ 0 → ⊥
no_suc {n} e = absurd (omega (arith, e))

none_inside : (file : List ℕ) → end_after 0 file ≡ 0 → bodies_of file ≡ []
unfolding bodies_of frames_at
none_inside [] e = refl
none_inside (gate ∷ []) e = refl
none_inside (gate ∷ a ∷ []) e = refl
none_inside (gate ∷ a ∷ b ∷ []) e = refl
none_inside (gate ∷ a ∷ b ∷ c ∷ []) e = refl
none_inside (gate ∷ a ∷ b ∷ c ∷ d ∷ rest) e = go ((gate == open_gate) && fits (number_of a b c d) rest) e
  where
    go : (whole : Bool) → (if whole then suc (suc (suc (suc (suc (end_after (number_of a b c d) rest))))) else 0) ≡ 0
        → map (λ (frame : Frame). frame.body) (if whole then record { place = 0; body = take (number_of a b c d) rest } ∷ frames_after (0 + header) (number_of a b c d) rest else []) ≡ []
    go true e = absurd (no_suc e)
    go false e = refl

-- a file that ends where it begins has no body
pub end_none : (file : List ℕ) → 0 ≡ end_of file → bodies_of file ≡ []
end_none file e = none_inside file (sym (end_of-walk file) ∙ sym e)

pub short_none : (file : List ℕ) → length file < 2 → bodies_of file ≡ []
unfolding bodies_of frames_at
short_none [] short = refl
short_none (a ∷ []) short = refl
short_none (a ∷ b ∷ c) short = absurd (omega (arith, short))

no_cons : {A : Type 0} {x : A} {xs : List A} → x ∷ xs ≡ [] → ⊥
no_cons e = cc e

-- what a read at the front of a file says
pub read_none : (file body : List ℕ) (found : Option ℕ) → found ≡ None → IsRead file 0 found body → bodies_of file ≡ []
read_none file body found none is = let P : Option ℕ → Type 0 = λ o. IsRead file 0 o body in end_none file (subst P none is)

some_inside : (file body : List ℕ) (next : ℕ) → IsRead file 0 (Some next) body → bodies_of file ≢ []
unfolding bodies_of frames_at
some_inside file body next is = λ e. no_cons (sym (ap (map (λ (frame : Frame). frame.body)) is.1) ∙ e)

pub read_some : (file body : List ℕ) (found : Option ℕ) (next : ℕ) → found ≡ Some next → IsRead file 0 found body → bodies_of file ≢ []
read_some file body found next some is = let P : Option ℕ → Type 0 = λ o. IsRead file 0 o body in some_inside file body next (subst P some is)

pub has_none_of : (bodies : List (List ℕ)) → bodies ≡ [] → has_none bodies ≡ true
has_none_of bodies e = ap has_none e

pub has_some_of : (bodies : List (List ℕ)) → bodies ≢ [] → has_none bodies ≡ false
has_some_of [] e = absurd (e refl)
has_some_of (body ∷ bodies) e = refl

pub rests_readable : (file : List ℕ) (place : ℕ) → IsAtRest file place → IsPlace file 0
unfolding end_of is_broken frames_at
rests_readable file place rests = record { end = refl; whole = rests.whole; within = let w = rests.within in omega (arith, w) }

whole_read : (file : List ℕ) → IsPlace file 0 → is_broken file ≡ false
unfolding is_broken
whole_read file is = ap (is_open_at file) is.end ∙ is.whole

-- a journal starts on a file that can be read
pub can_start_read : (file : List ℕ) → IsPlace file 0 → can_start file ≡ true
can_start_read file is = can_start_whole file (whole_read file is)

-- HISTORIES

pub none_holds : (part : PartData) (file : List ℕ) → bodies_of file ≡ [] → history_of part file ≡ Ok (first_history part.unit.0)
unfolding history_of
none_holds part file e = ap (history_in part) e

eq_itself : (bs : List ℕ) → bytes_eq bs bs ≡ true
eq_itself bs = search (rules, bytes_eq-Decides bs bs)

own_head : (part : PartData) (body : List ℕ) → head_of part body (Some (Head 1 part.chart part.name)) ≡ Ok (first_history part.unit.0)
own_head part body = rw (eq_itself part.chart, eq_itself part.name) refl

pub head_holds : (part : PartData) (file body : List ℕ) → record_of body ≡ Some (Head 1 part.chart part.name) → bodies_of file ≡ body ∷ [] → history_of part file ≡ Ok (first_history part.unit.0)
unfolding history_of
head_holds part file body read e =
    ap (history_in part) e
    ∙ ap (λ (r : Result History RecoverFault). and_on r (λ h. read_on part [] (header + length body) h)) (ap (head_of part body) read ∙ own_head part body)

-- NAMES

word_is_head : (bs : List ℕ) → list_all is_word_char bs ≡ true → list_all is_head_char bs ≡ true
word_is_head [] h = refl
word_is_head (b ∷ bs) h = let p = and_both (is_word_char b) (list_all is_word_char bs) h in rw (p.0, word_is_head bs p.1) refl

letter_is_word : (b : ℕ) → is_letter b ≡ true → is_word_char b ≡ true
letter_is_word b h = rw h refl

word_is_name : (w : List ℕ) → is_word w ≡ true → (1 ≤ length w) × (list_all is_head_char w ≡ true)
word_is_name [] h = absurd (true≢false (sym h))
word_is_name (b ∷ bs) h =
    let p = and_both (is_letter b) (list_all is_word_char bs) h in
    (omega arith, word_is_head (b ∷ bs) (rw (letter_is_word b p.0, p.1) refl))

name_parts : (name : List ℕ) → is_name name ≡ true → (nat_le (length name) max_name ≡ true) × (is_word name ≡ true)
unfolding is_name
name_parts name h = grind arith

pub name_of_head : (name : List ℕ) → is_name name ≡ true → IsHeadName name
name_of_head name h =
    let p = name_parts name h in
    let w = word_is_name name p.1 in
    let le : length name ≤ max_name = search (rules, p.0) in
    (w.0, le, search (rules, w.1))

named_of : (chart : Chart) → IsAccepted chart → is_named chart ≡ true
unfolding is_accepted
named_of chart ok = grind arith

named_parts : (chart : Chart) → is_named chart ≡ true → (is_name chart.name ≡ true) × (list_all is_name (names_of chart) ≡ true)
unfolding is_named
named_parts chart h = (grind arith, grind arith)

front_all : (xs ys : List (List ℕ)) → list_all is_name (xs ++ ys) ≡ true → list_all is_name xs ≡ true
front_all xs ys h = (and_both (list_all is_name xs) (list_all is_name ys) (sym (list_all-append is_name xs ys) ∙ h)).0

units_named : (chart : Chart) → list_all is_name (names_of chart) ≡ true → list_all is_name chart.units ≡ true
units_named chart h =
    let events = map (λ (x : Event). x.name) chart.events in
    let vars = map (λ (x : Variable). x.name) chart.vars in
    let acts = map (λ (x : Activity). x.name) chart.acts in
    let states = map (λ (x : State). x.name) chart.states in
    let acts_too = front_all (chart.units ++ events ++ vars ++ acts) states h in
    let vars_too = front_all (chart.units ++ events ++ vars) acts acts_too in
    front_all chart.units events (front_all (chart.units ++ events) vars vars_too)

unit_name : (names : List (List ℕ)) (u : ℕ) → u < length names → list_all is_name names ≡ true → is_name (option_map_or (λ name. name) (slice_get names u) []) ≡ true
unit_name [] u within h = absurd (omega (arith, within))
unit_name (name ∷ names) zero within h = (and_both (is_name name) (list_all is_name names) h).0
unit_name (name ∷ names) (suc u) within h = unit_name names u (omega (arith, within)) (and_both (is_name name) (list_all is_name names) h).1

chart_named : (part : PartData) → IsPart part → is_name part.chart ≡ true
unfolding part_of
chart_named part is = let n = named_parts is.chart (named_of is.chart is.accepted) in ap (λ (p : PartData). is_name p.chart) is.is ∙ n.0

unit_named : (part : PartData) → IsPart part → is_name part.name ≡ true
unfolding part_of
unit_named part is =
    let n = named_parts is.chart (named_of is.chart is.accepted) in
    ap (λ (p : PartData). is_name p.name) is.is ∙ unit_name is.chart.units is.unit is.within (units_named is.chart n.1)

-- the names of a part are names that a head may have
pub chart_in_head : (part : PartData) → IsPart part → IsHeadName part.chart
chart_in_head part is = name_of_head part.chart (chart_named part is)

pub unit_in_head : (part : PartData) → IsPart part → IsHeadName part.name
unit_in_head part is = name_of_head part.name (unit_named part is)
