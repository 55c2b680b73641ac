-- A text that is read as a chart is a text of this chart.
use Rattle.std.proofs.Common.{◌≡◌, ℕ, ◌+◌, ◌≤◌, true, if◌then◌else◌, nat_lt, List, [], ◌∷◌, ◌++◌, length, map, Result, Ok, Err, refl, ◌∙◌, ap, subst, append-nil, arith}
use Rattle.std.proofs.lemmas.Bool.Decides.{nat_tests}
use Rattle.wf_model.specs.declared.chart.Transition.{Transition}
use Rattle.wf_model.specs.Limits.{max_name}
use Rattle.wf_lex.specs.declared.token.Token.{Token}
use Rattle.wf_lex.specs.declared.token.LexFault.{LexFault}
use Rattle.wf_lex.specs.Lex.{tokens_of}
use Rattle.wf_cursor.specs.declared.piece.Piece.TheVariants as pieces
use Rattle.wf_cursor.specs.Input as input
use Rattle.wf_cursor.specs.Input.{Input, Outcome, Parser, and_then, ◌>>=◌, ◌>>◌, pure, syntax, next, spelling, name_ahead, start_of, chart_with}
use Rattle.wf_text.specs.Declarations.{declarations}
use Rattle.wf_text.specs.States.{root}
use Rattle.wf_text.specs.Transitions.{transitions}
use Rattle.wf_text.specs.Text.{text_end, contents, whole, with_place, chart_from, chart_of}
use Rattle.wf_grammar.specs.Lexemes.{Lexeme, lexeme_of}
use Rattle.wf_grammar.specs.Phrases.{Is}
use Rattle.wf_grammar.specs.Scopes.{Scope, first_scope}
use Rattle.wf_grammar.specs.Declaring.{Declarations}
use Rattle.wf_grammar.specs.Drawing.{Root}
use Rattle.wf_grammar.specs.Moving.{Transitions}
use Rattle.wf_grammar.specs.Charts.{IsChart, is_chart}
use Rattle.wf_grammar.specs.ChartLaws.{ChartReadIsSpelled}
use Rattle.wf_grammar.proofs.Inputs.{here, spelling_here, next_here, then_assoc, pure_gives}
use Rattle.wf_grammar.proofs.ReadSteps.{expect_then, NameAhead, name_then}
use Rattle.wf_grammar.proofs.Places.{within, read_then, change_then}
use Rattle.wf_grammar.proofs.Declared.{declarations_change}
use Rattle.wf_grammar.proofs.Drawn.{root_reads}
use Rattle.wf_grammar.proofs.Moved.{transitions_reads}

-- a name was taken, and a rule goes on with its bytes
any_name_then : {B : Type 0} (i : Input) (left : List Token) (at count : ℕ) (f : List ℕ → Parser B) (y : B) (j : Input)
    → and_then (input.name (here i left at count)) f ≡ Ok (y, j) → NameAhead i left at count (λ k. f (spelling k) (next k)) y j
unfolding input.name
any_name_then i left at count f y j h = name_then i left at count (λ _ k. f (spelling k) (next k)) y j (rw then_assoc at h)

-- no token was left
end_then : {B : Type 0} (i : Input) (left : List Token) (at count : ℕ) (f : Unit {0} → Parser B) (y : B) (j : Input)
    → and_then (text_end (here i left at count)) f ≡ Ok (y, j) → (left ≡ []) × (f tt (here i left at count) ≡ Ok (y, j))
end_then i [] at count f y j h = (refl, h)
end_then i (t ∷ rest) at count f y j h =
    let some : nat_lt 0 (length (t ∷ rest)) ≡ true = grind (arith, nat_tests) in
    let h' : and_then (if true then syntax (here i (t ∷ rest) at count) else pure tt (here i (t ∷ rest) at count)) f ≡ Ok (y, j) = rw some at h in
    let no : ⊥ = cc in absurd no

-- what a chart's text holds: its name and its transitions
abbrev Contents : Type 0
Contents = List ℕ × List Transition

-- the rules from the transitions on, and from the declarations on, behind the name
abbrev last_rules : List ℕ → Parser Contents
last_rules name = do
  found ← transitions
  text_end
  pure (name, found)

abbrev late_rules : List ℕ → Parser Contents
late_rules name = do
  declarations
  root
  last_rules name

-- all that was left was transitions
record Ended (text name : List ℕ) (s : Scope) (left : List Token) (x : Contents) (j : Input) : Type 0 where
  words : List Lexeme
  rest : List Token
  at : ℕ
  count : ℕ
  whole : map (lexeme_of text) left ≡ words
  taken : Transitions s.names words x.1
  named : name ≡ x.0
  end : here (within text s) rest at count ≡ j

last_read : (text name : List ℕ) (s : Scope) (left : List Token) (at count : ℕ) (x : Contents) (j : Input)
    → last_rules name (here (within text s) left at count) ≡ Ok (x, j) → Ended text name s left x j
last_read text name s left at count x j h =
    let i = within text s in
    let t = read_then i (Transitions s.names) transitions (transitions_reads i) left at count _ x j h in
    let z = end_then i t.rest t.at t.count _ x j t.goes_on in
    let g = pure_gives (name, t.value) x (here i t.rest t.at t.count) j z.1 in
    record {
      words = t.words;
      rest = t.rest;
      at = t.at;
      count = t.count;
      whole = t.whole ∙ ap (λ ls. t.words ++ map (lexeme_of text) ls) z.0 ∙ append-nil t.words;
      taken = subst (λ (y : Contents). Transitions s.names t.words y.1) g.0 t.taken;
      named = ap (λ (y : Contents). y.0) g.0;
      end = g.1;
    }

-- all that was left was declarations, a root and transitions
record Filled (text name : List ℕ) (left : List Token) (x : Contents) (j : Input) : Type 0 where
  ds : List Lexeme
  ss : List Lexeme
  ts : List Lexeme
  s : Scope
  s' : Scope
  rest : List Token
  at : ℕ
  count : ℕ
  whole : map (lexeme_of text) left ≡ ds ++ (ss ++ ts)
  declared : Declarations first_scope ds s
  drawn : Root s ss s'
  moved : Transitions s'.names ts x.1
  named : name ≡ x.0
  end : here (within text s') rest at count ≡ j

late_read : (text name : List ℕ) (left : List Token) (at count : ℕ) (x : Contents) (j : Input)
    → late_rules name (here (within text first_scope) left at count) ≡ Ok (x, j) → Filled text name left x j
late_read text name left at count x j h =
    let d = change_then text first_scope (Declarations first_scope) declarations (declarations_change text first_scope) left at count _ x j h in
    let r = change_then text d.after (Root d.after) root (root_reads text d.after) d.rest d.at d.count _ x j d.goes_on in
    let t = last_read text name r.after r.rest r.at r.count x j r.goes_on in
    record {
      ds = d.words;
      ss = r.words;
      ts = t.words;
      s = d.after;
      s' = r.after;
      rest = t.rest;
      at = t.at;
      count = t.count;
      whole = d.whole ∙ ap (λ ls. d.words ++ ls) (r.whole ∙ ap (λ ls. r.words ++ ls) t.whole);
      declared = d.taken;
      drawn = r.taken;
      moved = t.taken;
      named = t.named;
      end = t.end;
    }

-- three tokens before them
filled_is_chart : (text : List ℕ) (word n ends : Token) (left : List Token) (x : Contents) (j : Input)
    → Is pieces.Chart (lexeme_of text word) → Is pieces.Name (lexeme_of text n) → length (lexeme_of text n).bytes ≤ max_name → Is pieces.Semicolon (lexeme_of text ends)
    → Filled text (lexeme_of text n).bytes left x j → IsChart (map (lexeme_of text) (word ∷ n ∷ ends ∷ left)) (chart_with x.0 x.1 j)
unfolding chart_with
filled_is_chart text word n ends left x j is_chart_word is_name is_short is_end f =
    let name = lexeme_of text n in
    let words = lexeme_of text word ∷ name ∷ lexeme_of text ends ∷ (f.ds ++ (f.ss ++ f.ts)) in
    rw f.whole (subst (λ (k : Input). IsChart words (chart_with x.0 x.1 k)) f.end
    (subst (λ (b : List ℕ). IsChart words (chart_with b x.1 (here (within text f.s') f.rest f.at f.count))) f.named
    (is_chart (lexeme_of text word) name (lexeme_of text ends) f.s f.s' x.1 is_chart_word is_name is_short is_end f.declared f.drawn f.moved)))

named_read : (text : List ℕ) (tokens : List Token) (word n : Token) (behind_word behind_name : List Token) (at : ℕ) (x : Contents) (j : Input)
    → Is pieces.Chart (lexeme_of text word) → Is pieces.Name (lexeme_of text n) → length (lexeme_of text n).bytes ≤ max_name
    → tokens ≡ word ∷ behind_word → behind_word ≡ n ∷ behind_name
    → and_then (input.expect pieces.Semicolon (here (within text first_scope) behind_name at 0)) (λ _. late_rules (lexeme_of text n).bytes) ≡ Ok (x, j)
    → IsChart (map (lexeme_of text) tokens) (chart_with x.0 x.1 j)
named_read text tokens word n behind_word behind_name at x j is_chart_word is_name is_short first second h =
    let e = expect_then (within text first_scope) pieces.Semicolon behind_name at 0 _ x j h in
    let all : tokens ≡ word ∷ n ∷ e.token ∷ e.rest = first ∙ ap (λ ls. word ∷ ls) (second ∙ ap (λ ls. n ∷ ls) e.whole) in
    rw all (filled_is_chart text word n e.token e.rest x j is_chart_word is_name is_short e.is (late_read text (lexeme_of text n).bytes e.rest (at + 1) 0 x j e.goes_on))

contents_read : (text : List ℕ) (tokens : List Token) (x : Contents) (j : Input)
    → contents (here (within text first_scope) tokens 0 0) ≡ Ok (x, j) → IsChart (map (lexeme_of text) tokens) (chart_with x.0 x.1 j)
unfolding contents
contents_read text tokens x j h =
    let i = within text first_scope in
    let c = expect_then i pieces.Chart tokens 0 0 _ x j h in
    let n = any_name_then i c.rest (0 + 1) 0 (λ name. input.expect pieces.Semicolon >> late_rules name) x j c.goes_on in
    let went : and_then (input.expect pieces.Semicolon (next (here i (n.token ∷ n.rest) (0 + 1) 0))) (λ _. late_rules (spelling (here i (n.token ∷ n.rest) (0 + 1) 0))) ≡ Ok (x, j) = n.goes_on in
    let went' : and_then (input.expect pieces.Semicolon (here i n.rest (0 + 1 + 1) 0)) (λ _. late_rules (lexeme_of text n.token).bytes) ≡ Ok (x, j) =
    subst (λ (k : Input). and_then (input.expect pieces.Semicolon k) (λ _. late_rules (lexeme_of text n.token).bytes) ≡ Ok (x, j)) (next_here i n.token n.rest (0 + 1) 0)
    (subst (λ (b : List ℕ). and_then (input.expect pieces.Semicolon (next (here i (n.token ∷ n.rest) (0 + 1) 0))) (λ _. late_rules b) ≡ Ok (x, j)) (spelling_here i n.token n.rest (0 + 1) 0) went) in
    named_read text tokens c.token n.token c.rest n.rest (0 + 1 + 1) x j c.is n.is_name n.is_short c.whole n.whole went'

pub chart_read : ChartReadIsSpelled
unfolding chart_of start_of
chart_read text chart h = by_tokens (tokens_of text) refl h
  where
    by_contents : (tokens : List Token) (o : Outcome (List ℕ × List Transition)) → contents (start_of text tokens) ≡ o
        → with_place text tokens (whole o) ≡ Ok chart → IsChart (map (lexeme_of text) tokens) chart
    by_contents tokens (Ok p) is h' =
        let same : chart_with p.0.0 p.0.1 p.1 ≡ chart = cc in
        subst (IsChart (map (lexeme_of text) tokens)) same (contents_read text tokens p.0 p.1 is)
    by_contents tokens (Err e) is h' = cc

    by_tokens : (r : Result (List Token) LexFault) → tokens_of text ≡ r → chart_from text r ≡ Ok chart
        → (tokens : List Token) × (tokens_of text ≡ Ok tokens) × IsChart (map (lexeme_of text) tokens) chart
    by_tokens (Ok tokens) is h' = (tokens, is, by_contents tokens (contents (start_of text tokens)) refl h')
    by_tokens (Err e) is h' = cc
