-- The steps that declare, and those that read literals.
use Rattle.std.proofs.Common.{◌≡◌, ℕ, suc, ◌+◌, ◌^◌, ◌<◌, ◌≤◌, ◌&&◌, true, false, nat_le, List, [], ◌∷◌, ◌++◌, length, Some, None, Ok, pos, negsuc, refl, sym, ◌∙◌, ap, ap₂, subst, arith}
use Rattle.std.specs.Fmt.{decimal}
use Rattle.std.proofs.lemmas.Bool.Decides.{nat_tests}
use lib.Chars.{codes}
use Rattle.wf_model.specs.Limits.{max_name, max_text, max_int}
use Rattle.wf_model.specs.declared.ids.UnitId.{UnitId}
use Rattle.wf_model.specs.declared.ids.EventId.{EventId}
use Rattle.wf_model.specs.declared.ids.VarId.{VarId}
use Rattle.wf_model.specs.declared.ids.ActId.{ActId}
use Rattle.wf_model.specs.declared.chart.Event.{Event}
use Rattle.wf_model.specs.declared.chart.Variable.{Variable}
use Rattle.wf_model.specs.declared.chart.Activity.{Activity}
use Rattle.wf_model.specs.declared.value.Sort.{Sort}
use Rattle.wf_model.specs.declared.value.Sort.TheVariants as sorts
use Rattle.wf_model.specs.declared.value.Val.{Val}
use Rattle.wf_model.specs.declared.value.Val.TheVariants as v
use Rattle.wf_model.specs.Txt.{is_text}
use Rattle.wf_lex.specs.declared.token.Token.{Token}
use Rattle.wf_lex.specs.declared.token.TokenKind.TheVariants as kinds
use Rattle.wf_cursor.specs.declared.names.Declared.{Declared}
use Rattle.wf_cursor.specs.declared.piece.Piece.TheVariants as pieces
use Rattle.wf_cursor.specs.Pieces.{piece_of, word_piece, state_word, moving_word, value_word, sort_word, sign_piece, comparing_sign, reckoning_sign}
use Rattle.wf_cursor.specs.Names.{declared_as}
use Rattle.wf_cursor.specs.Values.{number, number_up_to, short_text}
use Rattle.wf_cursor.specs.Input as input
use Rattle.wf_cursor.specs.Input.{Input, piece, spelling, declared, next, new_name, with_name, next_unit, next_event, next_var, next_act, with_unit, with_event, with_var, with_act, int_up_to}
use Rattle.wf_print.specs.Words as words
use Rattle.wf_print.specs.Words.{quoted}
use Rattle.wf_phrase.specs.Literals as lit
use Rattle.wf_grammar.specs.Lexemes.{Lexeme, lexeme_of, lexemes}
use Rattle.wf_grammar.specs.Phrases.{Is}
use Rattle.wf_grammar.proofs.Inputs.{here, spelling_here, next_here, declared_here}
use Rattle.wf_grammar.proofs.SpellSteps.{sees_here, text_here, headed}
use Rattle.wf_readback.proofs.Spans.{lexeme, lexemes_of}
use Rattle.wf_readback.specs.Held.{is_short_value}
use Rattle.wf_readback.proofs.ChartSpans.{literal_spans}
use Rattle.wf_readback.proofs.Literals.{decimal_is, text_is_read}
use Rattle.wf_readback.proofs.ChartNames.{below}
use Rattle.wf_readback.proofs.Steps.{Made, made_of, At, Answers, one_token, next_at, name_here, piece_at}

-- ---- new names

new_name_here : (i : Input) (t : Token) (rest : List Token) (at count : ℕ) (what : Declared) → Is pieces.Name (lexeme_of i.text t) → length (lexeme_of i.text t).bytes ≤ max_name
    → declared_as i.names (lexeme_of i.text t).bytes ≡ None
    → new_name what (here i (t ∷ rest) at count) ≡ Ok ((lexeme_of i.text t).bytes, next (with_name what (here i (t ∷ rest) at count)))
unfolding new_name
new_name_here i t rest at count what is short new =
    let none : declared (here i (t ∷ rest) at count) ≡ None = declared_here i t rest at count ∙ new in
    rw (name_here i t rest at count is short) (rw none (ap (λ (b : List ℕ). Ok (b, next (with_name what (here i (t ∷ rest) at count)))) (spelling_here i t rest at count)))

-- what was declared, and this name
abbrev pub with_new : Made → List ℕ → Declared → Made
with_new m name what = record m { names = m.names ++ (name, what) ∷ [] }

named_next : (i : Input) (t : Token) (rest : List Token) (w : Lexeme) (ws : List Lexeme) (m : Made) (what : Declared) → lexeme_of i.text t ≡ w → lexemes (here i rest i.at i.nodes) ≡ ws → made_of i ≡ m
    → At (next (with_name what (here i (t ∷ rest) i.at i.nodes))) ws (with_new m w.bytes what)
unfolding next with_name
named_next i t rest w ws m what same left made =
    let bytes : spelling (here i (t ∷ rest) i.at i.nodes) ≡ w.bytes = spelling_here i t rest i.at i.nodes ∙ ap (λ (l : Lexeme). l.bytes) same in
    record { left = left; made = ap₂ (λ (n : Made) (b : List ℕ). with_new n b what) made bytes }

pub new_name_step : (what : Declared) (i : Input) (w : Lexeme) (ws : List Lexeme) (m : Made) → At i (w ∷ ws) m → w.piece ≡ pieces.Name → length w.bytes ≤ max_name → declared_as m.names w.bytes ≡ None
    → Answers (new_name what i) w.bytes ws (with_new m w.bytes what)
new_name_step what i w ws m at is short new =
    let h = headed (lexeme_of i.text) w ws i.left at.left in
    let same = sym h.token_is in
    let t_is : Is pieces.Name (lexeme_of i.text h.token) = subst (λ (l : Lexeme). l.piece ≡ pieces.Name) same is in
    let t_short : length (lexeme_of i.text h.token).bytes ≤ max_name = subst (λ (l : Lexeme). length l.bytes ≤ max_name) same short in
    let t_new : declared_as i.names (lexeme_of i.text h.token).bytes ≡ None = ap₂ (λ (n : Made) (l : Lexeme). declared_as n.names l.bytes) at.made h.token_is ∙ new in
    let behind = next (with_name what (here i (h.token ∷ h.rest) i.at i.nodes)) in
    record {
      behind = behind;
      is = ap (λ (l : List Token). new_name what (here i l i.at i.nodes)) h.whole
          ∙ new_name_here i h.token h.rest i.at i.nodes what t_is t_short t_new
          ∙ ap (λ (l : Lexeme). Ok (l.bytes, behind)) h.token_is;
      at = named_next i h.token h.rest w ws m what h.token_is h.rest_is at.made;
    }

-- ---- the next number of each kind, and one part more

pub next_unit_is : (i : Input) (ws : List Lexeme) (m : Made) → At i ws m → next_unit i ≡ record { 0 = length m.units }
unfolding next_unit
next_unit_is i ws m at = ap (λ (k : Made). let u : UnitId = record { 0 = length k.units } in u) at.made

pub next_event_is : (i : Input) (ws : List Lexeme) (m : Made) → At i ws m → next_event i ≡ record { 0 = length m.events }
unfolding next_event
next_event_is i ws m at = ap (λ (k : Made). let u : EventId = record { 0 = length k.events } in u) at.made

pub next_var_is : (i : Input) (ws : List Lexeme) (m : Made) → At i ws m → next_var i ≡ record { 0 = length m.vars }
unfolding next_var
next_var_is i ws m at = ap (λ (k : Made). let u : VarId = record { 0 = length k.vars } in u) at.made

pub next_act_is : (i : Input) (ws : List Lexeme) (m : Made) → At i ws m → next_act i ≡ record { 0 = length m.acts }
unfolding next_act
next_act_is i ws m at = ap (λ (k : Made). let u : ActId = record { 0 = length k.acts } in u) at.made

pub with_unit_at : (i : Input) (ws : List Lexeme) (m : Made) (name : List ℕ) → At i ws m → At (with_unit name i) ws (record m { units = m.units ++ name ∷ [] })
unfolding with_unit
with_unit_at i ws m name at = record { left = at.left; made = ap (λ (k : Made). record k { units = k.units ++ name ∷ [] }) at.made }

pub with_event_at : (i : Input) (ws : List Lexeme) (m : Made) (x : Event) → At i ws m → At (with_event x i) ws (record m { events = m.events ++ x ∷ [] })
unfolding with_event
with_event_at i ws m x at = record { left = at.left; made = ap (λ (k : Made). record k { events = k.events ++ x ∷ [] }) at.made }

pub with_var_at : (i : Input) (ws : List Lexeme) (m : Made) (x : Variable) → At i ws m → At (with_var x i) ws (record m { vars = m.vars ++ x ∷ [] })
unfolding with_var
with_var_at i ws m x at = record { left = at.left; made = ap (λ (k : Made). record k { vars = k.vars ++ x ∷ [] }) at.made }

pub with_act_at : (i : Input) (ws : List Lexeme) (m : Made) (x : Activity) → At i ws m → At (with_act x i) ws (record m { acts = m.acts ++ x ∷ [] })
unfolding with_act
with_act_at i ws m x at = record { left = at.left; made = ap (λ (k : Made). record k { acts = k.acts ++ x ∷ [] }) at.made }

-- ---- sorts and literals

abbrev word_of : List ℕ → Lexeme
word_of bytes = lexeme kinds.Word bytes

bool_is : Is pieces.BoolSort (word_of (codes "bool"))
unfolding piece_of word_piece state_word moving_word value_word sort_word
bool_is = refl

int_is : Is pieces.IntSort (word_of (codes "int"))
unfolding piece_of word_piece state_word moving_word value_word sort_word
int_is = refl

text_is : Is pieces.TextSort (word_of (codes "text"))
unfolding piece_of word_piece state_word moving_word value_word sort_word
text_is = refl

pub sort_step : (sort : Sort) (i : Input) (ws : List Lexeme) (m : Made) → At i (word_of (words.sort_word sort) ∷ ws) m → Answers (lit.sort i) sort ws m
unfolding lit.sort
sort_step sorts.Bool i ws m at = record { behind = next i; is = rw (piece_at i _ m at ∙ ap Some bool_is) refl; at = next_at i _ ws m at }
sort_step sorts.Int i ws m at = record { behind = next i; is = rw (piece_at i _ m at ∙ ap Some int_is) refl; at = next_at i _ ws m at }
sort_step sorts.Text i ws m at = record { behind = next i; is = rw (piece_at i _ m at ∙ ap Some text_is) refl; at = next_at i _ ws m at }

true_is : Is pieces.True (word_of (codes "true"))
unfolding piece_of word_piece state_word moving_word value_word
true_is = refl

false_is : Is pieces.False (word_of (codes "false"))
unfolding piece_of word_piece state_word moving_word value_word
false_is = refl

minus_is : Is pieces.Minus (lexeme kinds.Sign (codes "-"))
unfolding piece_of sign_piece comparing_sign reckoning_sign
minus_is = refl

number_is : (bytes : List ℕ) → Is pieces.Int (lexeme kinds.Int bytes)
unfolding piece_of
number_is bytes = refl

characters_is : (bytes : List ℕ) → Is pieces.Text (lexeme kinds.Text bytes)
unfolding piece_of
characters_is bytes = refl

int_reads : (most n : ℕ) → n ≤ most → n < 2 ^ 64 → number_up_to most (decimal n) ≡ Some n
unfolding number_up_to
int_reads most n fits small =
    let is = (decimal_is n small).value in
    let few : nat_le (number (decimal n)) most ≡ true = grind (arith, nat_tests) in
    rw few (ap Some is)

int_here : (most n : ℕ) (i : Input) (t : Token) (rest : List Token) (at count : ℕ) → Is pieces.Int (lexeme_of i.text t) → number_up_to most (lexeme_of i.text t).bytes ≡ Some n
    → int_up_to most (here i (t ∷ rest) at count) ≡ Ok (n, here i rest (at + 1) count)
unfolding int_up_to
int_here most n i t rest at count is reads =
    let found : number_up_to most (spelling (here i (t ∷ rest) at count)) ≡ Some n = ap (number_up_to most) (spelling_here i t rest at count) ∙ reads in
    rw (sees_here i t rest at count pieces.Int is) (rw found (ap (λ (k : Input). Ok (n, k)) (next_here i t rest at count)))

int_step : (most n : ℕ) (i : Input) (ws : List Lexeme) (m : Made) → n ≤ most → n < 2 ^ 64 → At i (lexeme kinds.Int (decimal n) ∷ ws) m → Answers (int_up_to most i) n ws m
int_step most n i ws m fits small at =
    let w = lexeme kinds.Int (decimal n) in
    one_token i w ws m (int_up_to most) n at
    (λ t rest same. int_here most n i t rest i.at i.nodes (ap (λ (l : Lexeme). l.piece) same ∙ number_is (decimal n)) (ap (λ (l : Lexeme). number_up_to most l.bytes) same ∙ int_reads most n fits small))

text_step : (t : List ℕ) (i : Input) (ws : List Lexeme) (m : Made) → (is_text t && nat_le (length t) max_text) ≡ true → At i (lexeme kinds.Text (quoted t) ∷ ws) m → Answers (input.text i) t ws m
text_step t i ws m h at =
    one_token i (lexeme kinds.Text (quoted t)) ws m input.text t at
    (λ token rest same. text_here i token rest i.at i.nodes t (ap (λ (l : Lexeme). l.piece) same ∙ characters_is (quoted t)) (ap (λ (l : Lexeme). short_text l.bytes) same ∙ text_is_read t h))

pub literal_step : (value : Val) (i : Input) (ws : List Lexeme) (m : Made) → is_short_value value ≡ true → At i (lexemes_of (literal_spans value) ++ ws) m → Answers (lit.literal i) value ws m
unfolding lit.literal lit.number lit.negative_number lit.characters input.int input.negated_int
literal_step (v.Bool true) i ws m h at = record { behind = next i; is = rw (piece_at i _ m at ∙ ap Some true_is) refl; at = next_at i _ ws m at }
literal_step (v.Bool false) i ws m h at = record { behind = next i; is = rw (piece_at i _ m at ∙ ap Some false_is) refl; at = next_at i _ ws m at }
literal_step (v.Int (pos n)) i ws m h at =
    let small = below n (2 ^ 63) h in
    let a = int_step max_int n i ws m (omega (arith, small)) (omega (arith, small)) at in
    record { behind = a.behind; is = rw (piece_at i _ m at ∙ ap Some (number_is (decimal n))) (rw a.is refl); at = a.at }
literal_step (v.Int (negsuc n)) i ws m h at =
    let small = below n (2 ^ 63) h in
    let a = int_step (max_int + 1) (suc n) (next i) ws m (omega (arith, small)) (omega (arith, small)) (next_at i (lexeme kinds.Sign (codes "-")) (lexeme kinds.Int (decimal (suc n)) ∷ ws) m at) in
    record { behind = a.behind; is = rw (piece_at i _ m at ∙ ap Some minus_is) (rw a.is refl); at = a.at }
literal_step (v.Text t) i ws m h at =
    let a = text_step t i ws m h at in
    record { behind = a.behind; is = rw (piece_at i _ m at ∙ ap Some (characters_is (quoted t))) (rw a.is refl); at = a.at }
