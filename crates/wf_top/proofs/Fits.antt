-- The lines of a play's script are lines of its chart, which a world may act.
use Rattle.std.proofs.Common.{◌≡◌, ◌≤◌, ◌==◌, ◌&&◌, ℕ, ◌+◌, not, nat_le, nat_lt, Bool, true, false, if◌then◌else◌, List, [], ◌∷◌, length, map, Option, Some, None, Result, Ok, Err, IfSome, refl, ap, subst, arith}
use Rattle.std.specs.List.{list_all, position_from}
use Rattle.std.specs.Option.{option_map}
use Rattle.std.specs.Str.{bytes_eq}
use Rattle.std.proofs.lemmas.Bool.{lt-ltb}
use Rattle.std.proofs.lemmas.Bool.Decides.{nat_tests}
use lib.Chars.{codes}
use Rattle.wf_model.specs.Limits.{max_int, max_lines}
use Rattle.wf_model.specs.Steps.{both}
use Rattle.wf_model.specs.declared.chart.Chart.{Chart}
use Rattle.wf_model.specs.declared.outer.Outer.{Outer}
use Rattle.wf_model.specs.declared.outer.Outer.TheVariants.{Happen}
use Rattle.wf_model.specs.declared.outer.Output.{Output}
use Rattle.wf_model.specs.declared.value.Val.{Val}
use Rattle.wf_model.proofs.Bools.{and_true, and_both}
use Rattle.wf_disk.specs.declared.arm.Arm.{Arm}
use Rattle.wf_disk.specs.declared.arm.Outcome.{Outcome}
use Rattle.wf_lex.specs.declared.token.Token.{Token}
use Rattle.wf_lex.specs.declared.token.TokenKind.{TokenKind}
use Rattle.wf_lex.specs.declared.token.TokenKind.TheVariants as kinds
use Rattle.wf_lex.specs.declared.token.LexFault.{LexFault}
use Rattle.wf_lex.specs.Lex.{line_tokens_of}
use Rattle.wf_cursor.specs.Values.{number, number_up_to}
use Rattle.wf_scripts.specs.declared.script.ScriptFault.{ScriptFault}
use Rattle.wf_scripts.specs.Lines.{lines_of}
use Rattle.wf_scripts.specs.Names.{names_of}
use Rattle.wf_scripts.specs.Outers.{given, output_of, between_commas, with_output, each_output, outputs_of, gives_of, completion, done_of, event_of, outer_of}
use Rattle.wf_scripts.specs.Script.{or_refused, said_in, line_by, with_line, lines_from, script_by}
use Rattle.wf_scripts.specs.Values.{text_at, int_by, int_at, value_of}
use Rattle.wf_scripts.proofs.Counted as counted
use Rattle.wf_machine.specs.declared.line.Line.{Line}
use Rattle.wf_machine.specs.declared.line.Line.TheVariants as lines
use Rattle.wf_machine.specs.Fits.{is_known_outer, is_line}
use Rattle.wf_play.specs.Lines.{outcome_named, positive_count, count_at, command, unit_line, two_words, send_line, crash_line, three_words, admit_line, arm_of, arm_line, more_words, said_by}
use Rattle.wf_play.specs.Script.{play_of}
use Rattle.wf_world.specs.States.{FitFrom, DoFit, first_state}

-- what holds of two values holds of the one that is chosen
either : {A : Type 0} (P : A → Type 0) (test : Bool) (x y : A) → P x → P y → P (if test then x else y)
either P true x y first second = first
either P false x y first second = second

-- NAMES AND NUMBERS

abbrev IsBelow : ℕ → Option ℕ → Type 0
IsBelow bound found = IfSome found (λ n. nat_lt n bound ≡ true)

-- a name that is found has a number below that of all names
found_below : {X : Type 0} (test : X → Bool) (at : ℕ) (xs : List X) (bound : ℕ) → at + length xs ≡ bound → IsBelow bound (position_from test at xs)
found_below test at [] bound is = tt
found_below test at (x ∷ xs) bound is =
    either (IsBelow bound) (test x) (Some at) (position_from test (at + 1) xs) (lt-ltb at bound (omega (arith, is))) (found_below test (at + 1) xs bound (omega (arith, is)))

abbrev IsAtMost : ℕ → Option ℕ → Type 0
IsAtMost most found = IfSome found (λ n. nat_le n most ≡ true)

number_by : (most n : ℕ) (few : Bool) → nat_le n most ≡ few → IsAtMost most (if few then Some n else None)
number_by most n true is = is
number_by most n false is = tt

number_at_most : (most : ℕ) (digits : List ℕ) → IsAtMost most (number_up_to most digits)
unfolding number_up_to
number_at_most most digits = number_by most (number digits) (nat_le (number digits) most) refl

int_at_most_by : (most : ℕ) (kind : TokenKind) (spelling : List ℕ) → IsAtMost most (int_by most kind spelling)
int_at_most_by most kinds.Word spelling = tt
int_at_most_by most kinds.Int spelling = number_at_most most spelling
int_at_most_by most kinds.Text spelling = tt
int_at_most_by most kinds.Sign spelling = tt

int_at_most : (most : ℕ) (line : List ℕ) (token : Token) → IsAtMost most (int_at most line token)
int_at_most most line token = int_at_most_by most token.kind (text_at line token)

-- from 1 to a bound
abbrev IsCount : ℕ → Option ℕ → Type 0
IsCount most found = IfSome found (λ n. (nat_lt 0 n && nat_le n most) ≡ true)

above_zero : (n : ℕ) → (n == 0) ≡ false → nat_lt 0 n ≡ true
above_zero n is = grind (arith, nat_tests, is)

positive_by : (most n : ℕ) (none : Bool) → (n == 0) ≡ none → nat_le n most ≡ true → IsCount most (if none then None else Some n)
positive_by most n true is few = tt
positive_by most n false is few = and_true (nat_lt 0 n) (nat_le n most) (above_zero n is) few

positive_count_is : (most : ℕ) (found : Option ℕ) → IsAtMost most found → IsCount most (positive_count found)
positive_count_is most None few = tt
positive_count_is most (Some n) few = positive_by most n (n == 0) refl few

count_is : (most : ℕ) (line : List ℕ) (token : Token) → IsCount most (count_at most line token)
count_is most line token = positive_count_is most (int_at most line token) (int_at_most most line token)

-- OUTERS

abbrev OutputFits : Chart → Option Output → Type 0
OutputFits chart found = IfSome found (λ output. nat_lt output.var.0 (length chart.vars) ≡ true)

given_fits : (chart : Chart) (var : Option ℕ) (val : Option Val) → IsBelow (length chart.vars) var → OutputFits chart (given var val)
given_fits chart None val below = tt
given_fits chart (Some x) None below = tt
given_fits chart (Some x) (Some val) below = below

var_below : (chart : Chart) (name : List ℕ) → IsBelow (length chart.vars) ((names_of chart).var name)
var_below chart name = found_below (λ variable. bytes_eq name variable.name) 0 chart.vars (length chart.vars) (omega arith)

output_fits : (chart : Chart) (line : List ℕ) (tokens : List Token) → OutputFits chart (output_of (names_of chart) line tokens)
unfolding output_of
output_fits chart line [] = tt
output_fits chart line (x ∷ []) = tt
output_fits chart line (x ∷ equals ∷ val) =
    either (OutputFits chart) (bytes_eq (text_at line equals) (codes "=")) (given ((names_of chart).var (text_at line x)) (value_of line val)) None
    (given_fits chart ((names_of chart).var (text_at line x)) (value_of line val) (var_below chart (text_at line x))) tt

abbrev OutputsFit : Chart → Option (List Output) → Type 0
OutputsFit chart found = IfSome found (λ outputs. list_all (λ o. nat_lt o.var.0 (length chart.vars)) outputs ≡ true)

with_output_fits : (chart : Chart) (output : Option Output) (more : Option (List Output)) → OutputFits chart output → OutputsFit chart more → OutputsFit chart (with_output output more)
with_output_fits chart None more fits others = tt
with_output_fits chart (Some output) None fits others = tt
with_output_fits chart (Some output) (Some more) fits others = and_true _ _ fits others

each_fits : (chart : Chart) (line : List ℕ) (groups : List (List Token)) → OutputsFit chart (each_output (names_of chart) line groups)
each_fits chart line [] = refl
each_fits chart line (group ∷ groups) =
    with_output_fits chart (output_of (names_of chart) line group) (each_output (names_of chart) line groups) (output_fits chart line group) (each_fits chart line groups)

outputs_fit : (chart : Chart) (line : List ℕ) (tokens : List Token) → OutputsFit chart (outputs_of (names_of chart) line tokens)
unfolding outputs_of
outputs_fit chart line tokens = each_fits chart line (between_commas line tokens)

gives_fit : (chart : Chart) (line : List ℕ) (tokens : List Token) → OutputsFit chart (gives_of (names_of chart) line tokens)
unfolding gives_of
gives_fit chart line [] = refl
gives_fit chart line (gives ∷ tokens) =
    either (OutputsFit chart) (bytes_eq (text_at line gives) (codes "gives")) (outputs_of (names_of chart) line tokens) None (outputs_fit chart line tokens) tt

abbrev OuterFits : Chart → Option Outer → Type 0
OuterFits chart found = IfSome found (λ outer. is_known_outer chart outer ≡ true)

completion_fits : (chart : Chart) (act item : Option ℕ) (outputs : Option (List Output)) → IsBelow (length chart.acts) act → OutputsFit chart outputs → OuterFits chart (completion act item outputs)
completion_fits chart None item outputs below fits = tt
completion_fits chart (Some a) None outputs below fits = tt
completion_fits chart (Some a) (Some n) None below fits = tt
completion_fits chart (Some a) (Some n) (Some given) below fits = and_true _ _ below fits

act_below : (chart : Chart) (name : List ℕ) → IsBelow (length chart.acts) ((names_of chart).act name)
act_below chart name = found_below (λ act. bytes_eq name act.name) 0 chart.acts (length chart.acts) (omega arith)

done_fits : (chart : Chart) (line : List ℕ) (tokens : List Token) → OuterFits chart (done_of (names_of chart) line tokens)
unfolding done_of
done_fits chart line [] = tt
done_fits chart line (act ∷ []) = tt
done_fits chart line (act ∷ item ∷ gives) =
    completion_fits chart ((names_of chart).act (text_at line act)) (int_at 4294967295 line item) (gives_of (names_of chart) line gives) (act_below chart (text_at line act)) (gives_fit chart line gives)

happens_fits : (chart : Chart) (event : Option ℕ) → IsBelow (length chart.events) event → OuterFits chart (option_map (λ e. Happen (record { 0 = e })) event)
happens_fits chart None below = tt
happens_fits chart (Some e) below = below

event_below : (chart : Chart) (name : List ℕ) → IsBelow (length chart.events) ((names_of chart).event name)
event_below chart name = found_below (λ event. bytes_eq name event.name) 0 chart.events (length chart.events) (omega arith)

event_fits : (chart : Chart) (line : List ℕ) (tokens : List Token) → OuterFits chart (event_of (names_of chart) line tokens)
event_fits chart line [] = tt
event_fits chart line (event ∷ []) = happens_fits chart ((names_of chart).event (text_at line event)) (event_below chart (text_at line event))
event_fits chart line (event ∷ other ∷ more) = tt

outer_fits : (chart : Chart) (line kind : List ℕ) (tokens : List Token) → OuterFits chart (outer_of (names_of chart) line kind tokens)
unfolding outer_of
outer_fits chart line kind tokens =
    either (OuterFits chart) (bytes_eq kind (codes "event")) (event_of (names_of chart) line tokens)
    (if bytes_eq kind (codes "done") then done_of (names_of chart) line tokens else None) (event_fits chart line tokens)
    (either (OuterFits chart) (bytes_eq kind (codes "done")) (done_of (names_of chart) line tokens) None (done_fits chart line tokens) tt)

-- LINES

abbrev LineFits : Chart → Option Line → Type 0
LineFits chart found = IfSome found (λ x. is_line chart x ≡ true)

unit_below : (chart : Chart) (name : List ℕ) → IsBelow (length chart.units) ((names_of chart).unit name)
unit_below chart name = found_below (λ unit. bytes_eq name unit) 0 chart.units (length chart.units) (omega arith)

command_fits : (chart : Chart) (word : List ℕ) → LineFits chart (command word)
unfolding is_line
command_fits chart word = either (LineFits chart) (bytes_eq word (codes "round")) (Some lines.Round) None refl tt

unit_line_fits : (chart : Chart) (word : List ℕ) (unit : Option ℕ) → IsBelow (length chart.units) unit → LineFits chart (unit_line word unit)
unfolding is_line
unit_line_fits chart word None below = tt
unit_line_fits chart word (Some u) below =
    either (LineFits chart) (bytes_eq word (codes "turn")) _ _ below
    (either (LineFits chart) (bytes_eq word (codes "recover")) _ _ below
    (either (LineFits chart) (bytes_eq word (codes "show")) _ _ below
    (either (LineFits chart) (bytes_eq word (codes "items")) _ _ below tt)))

deliver_fits : (chart : Chart) (most : ℕ) (message : Option ℕ) → IsCount most message → LineFits chart (option_map (λ m. lines.Deliver m) message)
unfolding is_line
deliver_fits chart most None is = tt
deliver_fits chart most (Some m) is = (and_both (nat_lt 0 m) (nat_le m most) is).0

two_words_fit : (chart : Chart) (line : List ℕ) (word other : Token) → LineFits chart (two_words (names_of chart) line word other)
two_words_fit chart line word other =
    either (LineFits chart) (bytes_eq (text_at line word) (codes "deliver")) (option_map (λ m. lines.Deliver m) (count_at 4294967295 line other))
    (unit_line (text_at line word) ((names_of chart).unit (text_at line other)))
    (deliver_fits chart 4294967295 (count_at 4294967295 line other) (count_is 4294967295 line other))
    (unit_line_fits chart (text_at line word) ((names_of chart).unit (text_at line other)) (unit_below chart (text_at line other)))

sending_by : (chart : Chart) (u v : ℕ) (same : Bool) → (u == v) ≡ same → nat_lt u (length chart.units) ≡ true → nat_lt v (length chart.units) ≡ true
    → LineFits chart (if same then None else Some (lines.Send (record { 0 = u }) (record { 0 = v })))
unfolding is_line
sending_by chart u v true is first second = tt
sending_by chart u v false is first second =
    and_true (nat_lt u (length chart.units)) (nat_lt v (length chart.units) && not (u == v)) first
    (and_true (nat_lt v (length chart.units)) (not (u == v)) second (ap not is))

send_line_fits : (chart : Chart) (from to : Option ℕ) → IsBelow (length chart.units) from → IsBelow (length chart.units) to → LineFits chart (send_line from to)
send_line_fits chart None to first second = tt
send_line_fits chart (Some u) None first second = tt
send_line_fits chart (Some u) (Some v) first second = sending_by chart u v (u == v) refl first second

crash_line_fits : (chart : Chart) (unit : Option ℕ) (outcome : Option Outcome) → IsBelow (length chart.units) unit → LineFits chart (crash_line unit outcome)
unfolding is_line
crash_line_fits chart None outcome below = tt
crash_line_fits chart (Some u) None below = tt
crash_line_fits chart (Some u) (Some outcome) below = below

three_words_fit : (chart : Chart) (line : List ℕ) (word unit other : Token) → LineFits chart (three_words (names_of chart) line word unit other)
three_words_fit chart line word unit other =
    let from = (names_of chart).unit (text_at line unit) in
    let to = (names_of chart).unit (text_at line other) in
    let outcome = outcome_named (text_at line other) in
    either (LineFits chart) (bytes_eq (text_at line word) (codes "send")) (send_line from to)
    (if bytes_eq (text_at line word) (codes "crash") then crash_line from outcome else None)
    (send_line_fits chart from to (unit_below chart (text_at line unit)) (unit_below chart (text_at line other)))
    (either (LineFits chart) (bytes_eq (text_at line word) (codes "crash")) (crash_line from outcome) None (crash_line_fits chart from outcome (unit_below chart (text_at line unit))) tt)

admit_line_fits : (chart : Chart) (unit request : Option ℕ) (outer : Option Outer) → IsBelow (length chart.units) unit → IsAtMost max_int request → OuterFits chart outer
    → LineFits chart (admit_line unit request outer)
unfolding is_line
admit_line_fits chart None request outer below few fits = tt
admit_line_fits chart (Some u) None outer below few fits = tt
admit_line_fits chart (Some u) (Some r) None below few fits = tt
admit_line_fits chart (Some u) (Some r) (Some outer) below few fits =
    and_true (nat_lt u (length chart.units)) (nat_le r max_int && is_known_outer chart outer) below (and_true (nat_le r max_int) (is_known_outer chart outer) few fits)

arm_line_fits : (chart : Chart) (unit stroke : Option ℕ) (what : Option Arm) → IsBelow (length chart.units) unit → IsCount 1000 stroke → LineFits chart (arm_line unit stroke what)
unfolding is_line
arm_line_fits chart None stroke what below is = tt
arm_line_fits chart (Some u) None what below is = tt
arm_line_fits chart (Some u) (Some n) None below is = tt
arm_line_fits chart (Some u) (Some n) (Some what) below is = and_true (nat_lt u (length chart.units)) (nat_lt 0 n && nat_le n 1000) below is

more_words_fit : (chart : Chart) (line : List ℕ) (word unit number kind : Token) (tokens : List Token) → LineFits chart (more_words (names_of chart) line word unit number kind tokens)
more_words_fit chart line word unit number kind tokens =
    let at = (names_of chart).unit (text_at line unit) in
    let below = unit_below chart (text_at line unit) in
    let request = int_at max_int line number in
    let outer = outer_of (names_of chart) line (text_at line kind) tokens in
    let stroke = count_at 1000 line number in
    let what = arm_of line (text_at line kind) tokens in
    either (LineFits chart) (bytes_eq (text_at line word) (codes "admit")) (admit_line at request outer)
    (if bytes_eq (text_at line word) (codes "arm") then arm_line at stroke what else None)
    (admit_line_fits chart at request outer below (int_at_most max_int line number) (outer_fits chart line (text_at line kind) tokens))
    (either (LineFits chart) (bytes_eq (text_at line word) (codes "arm")) (arm_line at stroke what) None (arm_line_fits chart at stroke what below (count_is 1000 line number)) tt)

abbrev SaidFits : Chart → Option (Option Line) → Type 0
SaidFits chart found = IfSome found (LineFits chart)

some_fits : (chart : Chart) (found : Option Line) → LineFits chart found → SaidFits chart (option_map Some found)
some_fits chart None fits = tt
some_fits chart (Some x) fits = fits

said_fits : (chart : Chart) (line : List ℕ) (tokens : List Token) → SaidFits chart (said_by (names_of chart) line tokens)
unfolding said_by
said_fits chart line [] = tt
said_fits chart line (word ∷ []) = some_fits chart (command (text_at line word)) (command_fits chart (text_at line word))
said_fits chart line (word ∷ other ∷ []) = some_fits chart (two_words (names_of chart) line word other) (two_words_fit chart line word other)
said_fits chart line (word ∷ unit ∷ other ∷ []) = some_fits chart (three_words (names_of chart) line word unit other) (three_words_fit chart line word unit other)
said_fits chart line (word ∷ unit ∷ number ∷ kind ∷ tokens) =
    some_fits chart (more_words (names_of chart) line word unit number kind tokens) (more_words_fit chart line word unit number kind tokens)

-- SCRIPTS

abbrev ReadFits : Chart → Result (Option Line) ScriptFault → Type 0
ReadFits chart (Ok said) = LineFits chart said
ReadFits chart (Err fault) = Unit {0}

or_refused_fits : (chart : Chart) (number : ℕ) (said : Option (Option Line)) → SaidFits chart said → ReadFits chart (or_refused number said)
or_refused_fits chart number None fits = tt
or_refused_fits chart number (Some said) fits = fits

said_in_fits : (chart : Chart) (line : List ℕ) (found : Result (List Token) LexFault) → SaidFits chart (said_in said_by (names_of chart) line found)
said_in_fits chart line (Ok tokens) = said_fits chart line tokens
said_in_fits chart line (Err fault) = tt

line_fits : (chart : Chart) (number : ℕ) (line : List ℕ) → ReadFits chart (line_by said_by (names_of chart) number line)
unfolding line_by
line_fits chart number line = or_refused_fits chart number (said_in said_by (names_of chart) line (line_tokens_of line)) (said_in_fits chart line (line_tokens_of line))

-- all of them are lines of the chart
abbrev AreLines : Chart → List (ℕ × Line) → Type 0
AreLines chart xs = list_all (λ x. is_line chart x.1) xs ≡ true

abbrev LinesFit : Chart → Result (List (ℕ × Line)) ScriptFault → Type 0
LinesFit chart (Ok xs) = AreLines chart xs
LinesFit chart (Err fault) = Unit {0}

with_line_fits : (chart : Chart) (number : ℕ) (said : Option Line) (more : List (ℕ × Line)) → LineFits chart said → AreLines chart more → AreLines chart (with_line number said more)
with_line_fits chart number None more fits others = others
with_line_fits chart number (Some x) more fits others = and_true (is_line chart x) (list_all (λ (y : ℕ × Line). is_line chart y.1) more) fits others

both_fit : (chart : Chart) (number : ℕ) (said : Result (Option Line) ScriptFault) (more : Result (List (ℕ × Line)) ScriptFault) → ReadFits chart said → LinesFit chart more
    → LinesFit chart (both (λ said more. Ok (with_line number said more)) said more)
both_fit chart number (Err fault) more fits others = tt
both_fit chart number (Ok said) (Err fault) fits others = tt
both_fit chart number (Ok said) (Ok more) fits others = with_line_fits chart number said more fits others

lines_fit : (chart : Chart) (number : ℕ) (texts : List (List ℕ)) → LinesFit chart (lines_from said_by (names_of chart) number texts)
lines_fit chart number [] = refl
lines_fit chart number (text ∷ texts) =
    both_fit chart number (line_by said_by (names_of chart) number text) (lines_from said_by (names_of chart) (number + 1) texts) (line_fits chart number text)
    (lines_fit chart (number + 1) texts)

-- so few lines of a chart may be acted one after another
fit_from : (chart : Chart) (xs : List (ℕ × Line)) (acted : ℕ) → acted + length xs ≤ max_lines → AreLines chart xs → FitFrom chart acted (map (λ x. x.1) xs)
fit_from chart [] acted few fits = tt
fit_from chart (x ∷ xs) acted few fits =
    let are = and_both (is_line chart x.1) (list_all (λ (y : ℕ × Line). is_line chart y.1) xs) fits in
    (omega (arith, few), are.0, fit_from chart xs (acted + 1) (omega (arith, few)) are.1)

play_short : (chart : Chart) (script : List ℕ) (xs : List (ℕ × Line)) → play_of chart script ≡ Ok xs → length xs ≤ length (lines_of script)
unfolding play_of
play_short chart script xs is = counted.script_short said_by chart script xs is

play_lines : (chart : Chart) (script : List ℕ) (xs : List (ℕ × Line)) → play_of chart script ≡ Ok xs → AreLines chart xs
unfolding play_of script_by
play_lines chart script xs is = subst (LinesFit chart) is (lines_fit chart 1 (lines_of script))

-- a world of the chart may act the lines of its script, if that has few enough
pub play_fits : (chart : Chart) (script : List ℕ) (xs : List (ℕ × Line)) → play_of chart script ≡ Ok xs → length (lines_of script) ≤ max_lines
    → DoFit (first_state chart) (map (λ x. x.1) xs)
play_fits chart script xs is few = fit_from chart xs 0 (omega (arith, few, play_short chart script xs is)) (play_lines chart script xs is)

pub play_named : (chart : Chart) (script : List ℕ) → counted.IsNamed (play_of chart script)
unfolding play_of
play_named chart script = counted.script_named said_by chart script
