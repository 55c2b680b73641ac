-- The script that is generated arms no disk, so the summary of its play is one, whatever outcomes are named.
use Rattle.std.proofs.Common.{◌≡◌, ◌∙◌, ℕ, zero, suc, ◌+◌, ◌-◌, ◌/◌, ◌%◌, ◌==◌, ◌&&◌, not, nat_lt, nat_le, Bool, true, false, if◌then◌else◌, List, [], ◌∷◌, ◌++◌, take, drop, length, Option, Some, None, Result, Ok, Err, option_map, refl, sym, ap, ap₂, subst, arith, append_assoc, true≢false}
use Rattle.std.specs.List.{list_any}
use Rattle.std.specs.Str.{bytes_eq}
use Rattle.std.specs.Fmt.{digit_glyph, digits_onto, digits, decimal}
use Rattle.std.proofs.lemmas.Bool.{and_parts, not-true}
use Rattle.std.proofs.lemmas.Bool.Decides.{nat_tests}
use lib.Chars.{codes}
use Rattle.wf_model.specs.Ids.{unit_id}
use Rattle.wf_model.specs.Limits.{max_input, max_int, max_lines}
use Rattle.wf_model.specs.Steps.{both}
use Rattle.wf_model.specs.declared.chart.Chart.{Chart}
use Rattle.wf_model.specs.declared.outer.Outer.{Outer}
use Rattle.wf_model.specs.declared.status.Status.TheVariants as status
use Rattle.wf_refusals.specs.Lines.{refusal}
use Rattle.wf_refusals.specs.Scripts.{too_many_lines}
use Rattle.wf_disk.specs.declared.arm.Outcome.{Outcome}
use Rattle.wf_lex.specs.declared.token.Token.{Token}
use Rattle.wf_lex.specs.declared.token.LexFault.{LexFault}
use Rattle.wf_lex.specs.Lex.{line_tokens_of}
use Rattle.wf_machine.specs.declared.line.Line.{Line}
use Rattle.wf_machine.specs.declared.line.Line.TheVariants as line
use Rattle.wf_machine.specs.Runs.{Outcomes}
use Rattle.wf_scripts.specs.declared.script.ScriptFault.{ScriptFault}
use Rattle.wf_scripts.specs.declared.script.ScriptFault.TheVariants as script
use Rattle.wf_scripts.specs.Lines.{lines_of, with_byte, chart_part, script_part}
use Rattle.wf_scripts.specs.Names.{Finder, names_of}
use Rattle.wf_scripts.specs.Script.{or_refused, said_in, line_by, with_line, lines_from, script_by}
use Rattle.wf_scripts.specs.Values.{text_at, int_at}
use Rattle.wf_scripts.specs.Outers.{outer_of}
use Rattle.wf_play.specs.Lines.{command, unit_line, count_at, two_words, outcome_named, send_line, crash_line, three_words, admit_line, arm_line, arm_of, max_stroke, more_words, said_by}
use Rattle.wf_play.specs.Script.{play_of}
use Rattle.wf_gen.specs.Draws.{after, draw}
use Rattle.wf_gen.specs.GenScript as made
use Rattle.wf_gen.specs.GenText.{gen_text}
use Rattle.wf_gen_laws.proofs.Read.{divided}
use Rattle.wf_top.specs.declared.command.Command.TheVariants.{Play}
use Rattle.wf_top.specs.declared.command.Telling.{Telling}
use Rattle.wf_top.specs.declared.command.Telling.TheVariants.{Summary}
use Rattle.wf_top.specs.Answers.{answer, answer_of, answer_within, chart_answer, chart_in, play_answer, play_lines_answer}
use Rattle.wf_top.specs.Laws.{is_arm}
use Rattle.wf_gen_laws.specs.Laws.{BulksHaveOneAnswer}
use Rattle.wf_top.proofs.Unarmed.{unarmed_plays}

-- TEXTS WITHOUT `ar`

-- no `a` is followed by an `r`, where the flag says that an `a` stands before
abbrev lacks_ar : List ℕ → Bool → Bool
lacks_ar [] came = true
lacks_ar (b ∷ bs) true = not (b == 114) && lacks_ar bs (b == 97)
lacks_ar (b ∷ bs) false = lacks_ar bs (b == 97)

-- whatever stands before
abbrev Lacks : List ℕ → Type 0
Lacks text = (came : Bool) → lacks_ar text came ≡ true

rest_lacks : (came : Bool) (b : ℕ) (bs : List ℕ) → lacks_ar (b ∷ bs) came ≡ true → lacks_ar bs (b == 97) ≡ true
rest_lacks true b bs h = (and_parts (not (b == 114)) (lacks_ar bs (b == 97)) h).1
rest_lacks false b bs h = h

still_lacks : (came : Bool) (bs : List ℕ) → lacks_ar bs came ≡ true → lacks_ar bs false ≡ true
still_lacks came [] h = refl
still_lacks came (b ∷ bs) h = rest_lacks came b bs h

none_lacks : Lacks []
none_lacks came = refl

-- one byte more in front, which is no `r`
byte_lacks : (b : ℕ) (bs : List ℕ) → (b == 114) ≡ false → Lacks bs → Lacks (b ∷ bs)
byte_lacks b bs other h true = ap₂ (λ (x y : Bool). not x && y) other (h (b == 97))
byte_lacks b bs other h false = h (b == 97)

glyph_is : (n : ℕ) → (digit_glyph false (n % 10) == 114) ≡ false
glyph_is n =
    let small : nat_lt (n % 10) 10 ≡ true = grind (arith, nat_tests) in
    let other : (48 + n % 10 == 114) ≡ false = grind (arith, nat_tests) in
    ap (λ (b : Bool). (if b then 48 + n % 10 else 87 + n % 10) == 114) small ∙ other

either_lacks : (test : Bool) (xs ys rest : List ℕ) → Lacks (xs ++ rest) → Lacks (ys ++ rest) → Lacks ((if test then xs else ys) ++ rest)
either_lacks true xs ys rest first second = first
either_lacks false xs ys rest first second = second

digits_lack : (k n : ℕ) (acc rest : List ℕ) → Lacks (acc ++ rest) → Lacks (digits_onto k 10 false n acc ++ rest)
digits_lack zero n acc rest h = h
digits_lack (suc k) n acc rest h =
    let more : List ℕ = digit_glyph false (n % 10) ∷ acc in
    let here : Lacks (more ++ rest) = byte_lacks (digit_glyph false (n % 10)) (acc ++ rest) (glyph_is n) h in
    either_lacks (n / 10 == 0) more (digits_onto k 10 false (n / 10) more) rest here (digits_lack k (n / 10) more rest here)

number_lacks : (n : ℕ) (rest : List ℕ) → Lacks rest → Lacks (decimal n ++ rest)
unfolding digits
number_lacks n rest h = digits_lack 64 n [] rest h

-- the pieces of a line

admit_lacks : (rest : List ℕ) → Lacks rest → Lacks (codes "admit u" ++ rest)
admit_lacks rest h true = h false
admit_lacks rest h false = h false

blank_lacks : (rest : List ℕ) → Lacks rest → Lacks (codes " " ++ rest)
blank_lacks rest h true = h false
blank_lacks rest h false = h false

event_lacks : (rest : List ℕ) → Lacks rest → Lacks (codes " event e" ++ rest)
event_lacks rest h true = h false
event_lacks rest h false = h false

end_lacks : (rest : List ℕ) → lacks_ar rest false ≡ true → Lacks (codes "\n" ++ (codes "round\n" ++ rest))
end_lacks rest h true = h
end_lacks rest h false = h

regroup : (a u b q c v d e rest : List ℕ) → a ++ u ++ b ++ q ++ c ++ v ++ d ++ e ++ rest ≡ a ++ (u ++ (b ++ (q ++ (c ++ (v ++ (d ++ (e ++ rest)))))))
regroup a u b q c v d e rest = simp append_assoc

piece_lacks : (x q : ℕ) (rest : List ℕ) → lacks_ar rest false ≡ true → Lacks (made.admit_and_round x q ++ rest)
piece_lacks x q rest h =
    let d : ℕ = draw x q 3 in
    let end : List ℕ = codes "\n" ++ (codes "round\n" ++ rest) in
    subst Lacks (sym (regroup (codes "admit u") (decimal d) (codes " ") (decimal q) (codes " event e") (decimal d) (codes "\n") (codes "round\n") rest))
    (admit_lacks _ (number_lacks d _ (blank_lacks _ (number_lacks q _ (event_lacks _ (number_lacks d end (end_lacks rest h)))))))

admissions_lack : (x q : ℕ) (rest : List ℕ) → lacks_ar rest false ≡ true → lacks_ar (made.admissions x q ++ rest) false ≡ true
unfolding made.admissions
admissions_lack x zero rest h = h
admissions_lack x (suc q) rest h =
    ap (λ (text : List ℕ). lacks_ar text false) (append_assoc (made.admissions x q) (made.admit_and_round x (suc q)) rest)
    ∙ admissions_lack x q (made.admit_and_round x (suc q) ++ rest) (piece_lacks x (suc q) rest h false)

script_lacks : (x : ℕ) → lacks_ar (made.gen_script x) false ≡ true
unfolding made.gen_script
script_lacks x = admissions_lack x 1000 (codes "round\nround\nround\nround\n") refl

-- LINES AND WORDS

-- each line lacks it, the first one behind what came
abbrev EachLacks : List (List ℕ) → Bool → Type 0
EachLacks [] came = Unit {0}
EachLacks (l ∷ ls) came = (lacks_ar l came ≡ true) × EachLacks ls false

byte_onto : (came : Bool) (b : ℕ) (bs l : List ℕ) → lacks_ar (b ∷ bs) came ≡ true → lacks_ar l (b == 97) ≡ true → lacks_ar (b ∷ l) came ≡ true
byte_onto true b bs l h k = ap₂ (λ (x y : Bool). x && y) (and_parts (not (b == 114)) (lacks_ar bs (b == 97)) h).0 k
byte_onto false b bs l h k = k

with_byte_lacks : (came : Bool) (b : ℕ) (bs : List ℕ) (ls : List (List ℕ)) → lacks_ar (b ∷ bs) came ≡ true → EachLacks ls (b == 97) → EachLacks (with_byte b ls) came
with_byte_lacks came b bs [] h each = (byte_onto came b bs [] h refl, tt)
with_byte_lacks came b bs (l ∷ ls) h each = (byte_onto came b bs l h each.0, each.1)

lines_lack : (text : List ℕ) (came : Bool) → lacks_ar text came ≡ true → EachLacks (lines_of text) came
lines_lack [] came h = tt
lines_lack (b ∷ bs) came h =
    let rest : lacks_ar bs (b == 97) ≡ true = rest_lacks came b bs h in
    go (b == 10) (lines_lack bs false (still_lacks (b == 97) bs rest)) (with_byte_lacks came b bs (lines_of bs) h (lines_lack bs (b == 97) rest))
  where
    go : (ends : Bool) → EachLacks (lines_of bs) false → EachLacks (with_byte b (lines_of bs)) came → EachLacks (if ends then [] ∷ lines_of bs else with_byte b (lines_of bs)) came
    go true others on = (refl, others)
    go false others on = on

drop_lacks : (n : ℕ) (bs : List ℕ) (came : Bool) → lacks_ar bs came ≡ true → lacks_ar (drop n bs) false ≡ true
drop_lacks zero bs came h = still_lacks came bs h
drop_lacks (suc n) [] came h = refl
drop_lacks (suc n) (b ∷ bs) came h = drop_lacks n bs (b == 97) (rest_lacks came b bs h)

take_lacks : (n : ℕ) (bs : List ℕ) (came : Bool) → lacks_ar bs came ≡ true → lacks_ar (take n bs) came ≡ true
take_lacks zero bs came h = refl
take_lacks (suc n) [] came h = refl
take_lacks (suc n) (b ∷ bs) came h = byte_onto came b bs (take n bs) h (take_lacks n bs (b == 97) (rest_lacks came b bs h))

-- so no word of it is `arm`

not_both : (x : Bool) → (x && false) ≡ false
not_both true = refl
not_both false = refl

no_arm : (word : List ℕ) → lacks_ar word false ≡ true → bytes_eq word (codes "arm") ≡ false
no_arm [] h = refl
no_arm (a ∷ []) h = not_both (a == 97)
no_arm (a ∷ b ∷ word) h = go (a == 97) h
  where
    go : (came : Bool) → lacks_ar (b ∷ word) came ≡ true → (came && ((b == 114) && bytes_eq word (codes "m"))) ≡ false
    go true h = ap (λ (x : Bool). x && bytes_eq word (codes "m")) (not-true (b == 114) (and_parts (not (b == 114)) (lacks_ar word (b == 97)) h).0)
    go false h = refl

word_is : (text : List ℕ) (token : Token) → lacks_ar text false ≡ true → bytes_eq (text_at text token) (codes "arm") ≡ false
word_is text token h = no_arm (text_at text token) (take_lacks (token.end - token.start) (drop token.start text) false (drop_lacks token.start text false h))

-- WHAT THE LINES SAY

abbrev ArmsNone : Option Line → Type 0
ArmsNone None = Unit {0}
ArmsNone (Some x) = is_arm x ≡ false

either_none : (test : Bool) (x y : Option Line) → ArmsNone x → ArmsNone y → ArmsNone (if test then x else y)
either_none true x y first second = first
either_none false x y first second = second

unit_line_none : (word : List ℕ) (unit : Option ℕ) → ArmsNone (unit_line word unit)
unit_line_none word None = tt
unit_line_none word (Some u) =
    either_none (bytes_eq word (codes "turn")) (Some (line.Turn (unit_id u))) _ refl
    (either_none (bytes_eq word (codes "recover")) (Some (line.Recover (unit_id u))) _ refl
    (either_none (bytes_eq word (codes "show")) (Some (line.Show (unit_id u))) _ refl
    (either_none (bytes_eq word (codes "items")) (Some (line.Items (unit_id u))) None refl tt)))

deliver_none : (number : Option ℕ) → ArmsNone (option_map (λ m. line.Deliver m) number)
deliver_none None = tt
deliver_none (Some m) = refl

send_none : (from to : Option ℕ) → ArmsNone (send_line from to)
send_none None to = tt
send_none (Some u) None = tt
send_none (Some u) (Some v) = either_none (u == v) None (Some (line.Send (unit_id u) (unit_id v))) tt refl

crash_none : (unit : Option ℕ) (outcome : Option Outcome) → ArmsNone (crash_line unit outcome)
crash_none None outcome = tt
crash_none (Some u) None = tt
crash_none (Some u) (Some outcome) = refl

admit_none : (unit request : Option ℕ) (outer : Option Outer) → ArmsNone (admit_line unit request outer)
admit_none None request outer = tt
admit_none (Some u) None outer = tt
admit_none (Some u) (Some request) None = tt
admit_none (Some u) (Some request) (Some outer) = refl

not_there : (test : Bool) (x : Option Line) → test ≡ false → ArmsNone (if test then x else None)
not_there true x h = absurd (true≢false h)
not_there false x h = tt

abbrev SaysNone : Option (Option Line) → Type 0
SaysNone None = Unit {0}
SaysNone (Some said) = ArmsNone said

mapped_none : (said : Option Line) → ArmsNone said → SaysNone (option_map Some said)
mapped_none None h = tt
mapped_none (Some x) h = h

said_none : (names : Finder) (text : List ℕ) (tokens : List Token) → lacks_ar text false ≡ true → SaysNone (said_by names text tokens)
unfolding said_by
said_none names text [] h = tt
said_none names text (word ∷ []) h =
    mapped_none (command (text_at text word)) (either_none (bytes_eq (text_at text word) (codes "round")) (Some line.Round) None refl tt)
said_none names text (word ∷ other ∷ []) h =
    mapped_none (two_words names text word other)
    (either_none (bytes_eq (text_at text word) (codes "deliver")) (option_map (λ m. line.Deliver m) (count_at 4294967295 text other)) (unit_line (text_at text word) (names.unit (text_at text other)))
    (deliver_none (count_at 4294967295 text other)) (unit_line_none (text_at text word) (names.unit (text_at text other))))
said_none names text (word ∷ unit ∷ other ∷ []) h =
    mapped_none (three_words names text word unit other)
    (either_none (bytes_eq (text_at text word) (codes "send")) (send_line (names.unit (text_at text unit)) (names.unit (text_at text other))) _
    (send_none (names.unit (text_at text unit)) (names.unit (text_at text other)))
    (either_none (bytes_eq (text_at text word) (codes "crash")) (crash_line (names.unit (text_at text unit)) (outcome_named (text_at text other))) None
    (crash_none (names.unit (text_at text unit)) (outcome_named (text_at text other))) tt))
said_none names text (word ∷ unit ∷ number ∷ kind ∷ tokens) h =
    mapped_none (more_words names text word unit number kind tokens)
    (either_none (bytes_eq (text_at text word) (codes "admit")) (admit_line (names.unit (text_at text unit)) (int_at max_int text number) (outer_of names text (text_at text kind) tokens)) _
    (admit_none (names.unit (text_at text unit)) (int_at max_int text number) (outer_of names text (text_at text kind) tokens))
    (not_there (bytes_eq (text_at text word) (codes "arm")) (arm_line (names.unit (text_at text unit)) (count_at max_stroke text number) (arm_of text (text_at text kind) tokens)) (word_is text word h)))

-- so none of its lines arms a disk

abbrev IsUnarmed : Result (List (ℕ × Line)) ScriptFault → Type 0
IsUnarmed (Ok lines) = list_any (λ x. is_arm x.1) lines ≡ false
IsUnarmed (Err fault) = Unit {0}

abbrev LineIsUnarmed : Result (Option Line) ScriptFault → Type 0
LineIsUnarmed (Ok said) = ArmsNone said
LineIsUnarmed (Err fault) = Unit {0}

refused_none : (number : ℕ) (said : Option (Option Line)) → SaysNone said → LineIsUnarmed (or_refused number said)
refused_none number None h = tt
refused_none number (Some said) h = h

tokens_none : (names : Finder) (text : List ℕ) (tokens : Result (List Token) LexFault) → lacks_ar text false ≡ true → SaysNone (said_in said_by names text tokens)
tokens_none names text (Ok tokens) h = said_none names text tokens h
tokens_none names text (Err fault) h = tt

line_none : (names : Finder) (number : ℕ) (text : List ℕ) → lacks_ar text false ≡ true → LineIsUnarmed (line_by said_by names number text)
unfolding line_by
line_none names number text h = refused_none number (said_in said_by names text (line_tokens_of text)) (tokens_none names text (line_tokens_of text) h)

with_line_unarmed : (number : ℕ) (said : Option Line) (more : List (ℕ × Line)) → ArmsNone said → list_any (λ (x : ℕ × Line). is_arm x.1) more ≡ false
    → list_any (λ (x : ℕ × Line). is_arm x.1) (with_line number said more) ≡ false
with_line_unarmed number None more h k = k
with_line_unarmed number (Some x) more h k = rw (h, k) refl

both_unarmed : (number : ℕ) (said : Result (Option Line) ScriptFault) (more : Result (List (ℕ × Line)) ScriptFault) → LineIsUnarmed said → IsUnarmed more
    → IsUnarmed (both (λ said more. Ok (with_line number said more)) said more)
both_unarmed number (Err fault) more h k = tt
both_unarmed number (Ok said) (Err fault) h k = tt
both_unarmed number (Ok said) (Ok more) h k = with_line_unarmed number said more h k

lines_unarmed : (names : Finder) (number : ℕ) (lines : List (List ℕ)) → EachLacks lines false → IsUnarmed (lines_from said_by names number lines)
lines_unarmed names number [] each = refl
lines_unarmed names number (l ∷ ls) each =
    both_unarmed number (line_by said_by names number l) (lines_from said_by names (number + 1) ls) (line_none names number l each.0) (lines_unarmed names (number + 1) ls each.1)

script_unarmed : (chart : Chart) (x : ℕ) → IsUnarmed (play_of chart (made.gen_script x))
unfolding play_of script_by
script_unarmed chart x = lines_unarmed (names_of chart) 1 (lines_of (made.gen_script x)) (lines_lack (made.gen_script x) false (script_lacks x))

-- THE ANSWER

lines_answer_same : (telling : Telling) (chart : Chart) (found : Result (List (ℕ × Line)) ScriptFault) (o p : Outcomes) → IsUnarmed found
    → play_lines_answer telling chart o found ≡ play_lines_answer telling chart p found
lines_answer_same telling chart (Ok lines) o p unarmed = unarmed_plays telling chart lines o p unarmed
lines_answer_same telling chart (Err (script.Refused line)) o p unarmed = refl
lines_answer_same telling chart (Err script.NoMemory) o p unarmed = refl

chart_answer_same : (telling : Telling) (text : List ℕ) (found : Result Chart (List ℕ)) (o p : Outcomes) → ((chart : Chart) → IsUnarmed (play_of chart text))
    → chart_answer (Play telling) o text found ≡ chart_answer (Play telling) p text found
unfolding play_answer
chart_answer_same telling text (Err line) o p unarmed = refl
chart_answer_same telling text (Ok chart) o p unarmed =
    let same = lines_answer_same telling chart (play_of chart text) o p (unarmed chart) in
    λ i. if nat_le (length (lines_of text)) max_lines then same i else answer status.Limit too_many_lines

pub bulks_have_one_answer : BulksHaveOneAnswer
unfolding answer_of answer_within
bulks_have_one_answer n o p =
    let text : List ℕ = script_part (gen_text n) in
    let unarmed : (chart : Chart) → IsUnarmed (play_of chart (script_part (gen_text n))) =
    λ chart. subst (λ (t : List ℕ). IsUnarmed (play_of chart t)) (sym (divided n).1) (script_unarmed chart (after 120 n)) in
    let same = chart_answer_same (Summary n) text (chart_in (chart_part (gen_text n))) o p unarmed in
    λ i. if nat_le (length (gen_text n)) max_input then same i else answer status.Limit (refusal (codes "limit input"))
