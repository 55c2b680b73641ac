-- What a rule took is spelled: how that is shown of rules that are made of rules.
use Rattle.std.proofs.Common.{◌≡◌, ℕ, zero, suc, ◌+◌, ◌≤◌, List, [], ◌∷◌, ◌++◌, length, map, Option, Some, None, Ok, refl, sym, ◌∙◌, ap, ap₂, subst, arith, append_assoc, length-append}
use Rattle.std.proofs.lemmas.List.{map-append}
use Rattle.wf_model.specs.Limits.{max_nodes}
use Rattle.wf_model.specs.declared.expr.Op.{Op}
use Rattle.wf_model.specs.declared.expr.Expr.{Expr}
use Rattle.wf_model.specs.declared.expr.Expr.TheVariants as e
use Rattle.wf_model.specs.Accepted.{nodes}
use Rattle.wf_lex.specs.declared.token.Token.{Token}
use Rattle.wf_cursor.specs.declared.piece.Piece.{Piece}
use Rattle.wf_cursor.specs.Input.{Input, Parser, and_then, ◌>>=◌, ◌>>◌, pure, take, piece, node}
use Rattle.wf_phrase.specs.Expressions.{chain_by, chain_from, chain}
use Rattle.wf_grammar.specs.Lexemes.{Lexeme, lexeme_of}
use Rattle.wf_model.specs.NodesLaws.{nodes-Bin}
use Rattle.wf_grammar.proofs.Inputs.{here, piece_here, piece_none, next_here, steps_of, pure_gives}
use Rattle.wf_grammar.proofs.ReadSteps.{node_then}

-- which lexemes spell which expressions
abbrev pub Phrase : Type 1
Phrase = List Lexeme → Expr → Type 0

-- a front part of the tokens spells the expression, and the input is then behind it
pub record Took (i : Input) (P : Phrase) (left : List Token) (at count : ℕ) (x : Expr) (j : Input) : Type 0 where
  pub words : List Token
  pub rest : List Token
  pub whole : left ≡ words ++ rest
  pub spelled : P (map (lexeme_of i.text) words) x
  pub few : count + nodes x ≤ max_nodes
  pub end : j ≡ here i rest (at + length words) (count + nodes x)

-- what this rule reads is spelled
abbrev pub IsSound : Input → Phrase → Parser Expr → Type 0
IsSound i P p = (left : List Token) (at count : ℕ) (x : Expr) (j : Input) → p (here i left at count) ≡ Ok (x, j) → Took i P left at count x j

-- what is spelled in one way is spelled in another
pub weaker : (i : Input) (P Q : Phrase) → ((ws : List Lexeme) (x : Expr) → P ws x → Q ws x) → (left : List Token) (at count : ℕ) (x : Expr) (j : Input) → Took i P left at count x j → Took i Q left at count x j
weaker i P Q f left at count x j t = record { words = t.words; rest = t.rest; whole = t.whole; spelled = f (map (lexeme_of i.text) t.words) x t.spelled; few = t.few; end = t.end }

-- ---- a token that makes a node, and a phrase behind it

module _ (i : Input) (P : Phrase) (make : Expr → Expr) (counted : (x : Expr) → nodes (make x) ≡ nodes x + 1) (p : Parser Expr) (sound : IsSound i P p) where
  pub prefixed : (t : Token) (rest : List Token) (at count : ℕ) (x : Expr) (j : Input)
      → ((ws : List Lexeme) (y : Expr) → P ws y → P (lexeme_of i.text t ∷ ws) (make y))
      → and_then (node (here i (t ∷ rest) at count)) (λ _. take >> (p >>= (λ y. pure (make y)))) ≡ Ok (x, j)
      → Took i P (t ∷ rest) at count x j
  prefixed t rest at count x j wraps h =
      let n = node_then i (t ∷ rest) at count (λ _. take >> (p >>= (λ y. pure (make y)))) x j h in
      let h' : and_then (p (here i rest (at + 1) (count + 1))) (λ y. pure (make y)) ≡ Ok (x, j) = rw (next_here i t rest at (count + 1)) at n.1 in
      let s = steps_of (p (here i rest (at + 1) (count + 1))) (λ y. pure (make y)) x j h' in
      let took = sound rest (at + 1) (count + 1) s.value s.between s.first in
      let made = pure_gives (make s.value) x s.between j s.second in
      let size : nodes x ≡ nodes s.value + 1 = ap nodes (sym made.0) ∙ counted s.value in
      let place : at + 1 + length took.words ≡ at + suc (length took.words) = omega arith in
      let total : count + 1 + nodes s.value ≡ count + nodes x = omega arith in
      record {
        words = t ∷ took.words;
        rest = took.rest;
        whole = ap (λ ls. t ∷ ls) took.whole;
        spelled = subst (P (lexeme_of i.text t ∷ map (lexeme_of i.text) took.words)) made.0 (wraps (map (lexeme_of i.text) took.words) s.value took.spelled);
        few = (let f = took.few in omega arith);
        end = sym made.1 ∙ took.end ∙ ap₂ (here i took.rest) place total;
      }

-- ---- an operator and its right side, behind a left side that was read before

-- so much was read before, and it spells this
pub record Before (i : Input) (P : Phrase) (at0 count0 : ℕ) (words : List Token) (at count : ℕ) (l : Expr) : Type 0 where
  pub spelled : P (map (lexeme_of i.text) words) l
  pub place : at ≡ at0 + length words
  pub total : count ≡ count0 + nodes l
  pub few : count ≤ max_nodes

-- a rule that goes on behind a left side reads what is spelled
abbrev pub GoesOn : Input → (P Q : Phrase) → (Expr → Parser Expr) → Type 0
GoesOn i P Q f =
    (at0 count0 : ℕ) (words left : List Token) (at count : ℕ) (l x : Expr) (j : Input)
    → Before i P at0 count0 words at count l → f l (here i left at count) ≡ Ok (x, j) → Took i Q (words ++ left) at0 count0 x j

-- nothing more is read
pub stops : (i : Input) (P : Phrase) → GoesOn i P P pure
stops i P at0 count0 words left at count l x j b h =
    let gave = pure_gives l x (here i left at count) j h in
    let place = b.place in
    let total : count ≡ count0 + nodes x = b.total ∙ ap (λ y. count0 + nodes y) gave.0 in
    record {
      words = words;
      rest = left;
      whole = refl;
      spelled = subst (P (map (lexeme_of i.text) words)) gave.0 b.spelled;
      few = (let f = b.few in omega arith);
      end = sym gave.1 ∙ ap₂ (here i left) place total;
    }

module _ (i : Input) (L R Q : Phrase) (operator : Option Piece → Option Op) (operand : Parser Expr) (more : Expr → Parser Expr)
    (ends : (ws : List Lexeme) (x : Expr) → L ws x → Q ws x)
    (joins : (us vs : List Lexeme) (w : Lexeme) (op : Op) (x y : Expr) → L us x → operator (Some w.piece) ≡ Some op → R vs y → Q (us ++ w ∷ vs) (e.Bin op x y))
    (none : operator None ≡ None) (sound : IsSound i R operand) (goes_on : GoesOn i Q Q more) where
  joined : (at0 count0 : ℕ) (words : List Token) (t : Token) (rest : List Token) (at count : ℕ) (l x : Expr) (j : Input) (op : Op)
      → Before i L at0 count0 words at count l → operator (Some (lexeme_of i.text t).piece) ≡ Some op
      → chain_by operand more l (Some op) (here i (t ∷ rest) at count) ≡ Ok (x, j) → Took i Q (words ++ t ∷ rest) at0 count0 x j
  joined at0 count0 words t rest at count l x j op b is h =
      let n = node_then i (t ∷ rest) at count (λ _. take >> (operand >>= (λ r. more (e.Bin op l r)))) x j h in
      let h' : and_then (operand (here i rest (at + 1) (count + 1))) (λ r. more (e.Bin op l r)) ≡ Ok (x, j) = rw (next_here i t rest at (count + 1)) at n.1 in
      let s = steps_of (operand (here i rest (at + 1) (count + 1))) (λ r. more (e.Bin op l r)) x j h' in
      let took = sound rest (at + 1) (count + 1) s.value s.between s.first in
      let went = subst (λ (k : Input). more (e.Bin op l s.value) k ≡ Ok (x, j)) took.end s.second in
      let size = nodes-Bin op l s.value in
      let place = b.place in
      let total = b.total in
      let long = length-append words (t ∷ took.words) in
      let few = took.few in
      let all = goes_on at0 count0 (words ++ t ∷ took.words) took.rest (at + 1 + length took.words) (count + 1 + nodes s.value) (e.Bin op l s.value) x j
      (record {
        spelled = rw map-append (joins (map (lexeme_of i.text) words) (map (lexeme_of i.text) took.words) (lexeme_of i.text t) op l s.value b.spelled is took.spelled);
        place = omega arith;
        total = omega arith;
        few = few;
      }) went in
      let same : (words ++ t ∷ took.words) ++ took.rest ≡ words ++ t ∷ rest = append_assoc words (t ∷ took.words) took.rest ∙ ap (λ ls. words ++ t ∷ ls) (sym took.whole) in
      subst (λ (ls : List Token). Took i Q ls at0 count0 x j) same all

  by_operator : (at0 count0 : ℕ) (words : List Token) (t : Token) (rest : List Token) (at count : ℕ) (l x : Expr) (j : Input) (o : Option Op)
      → Before i L at0 count0 words at count l → operator (Some (lexeme_of i.text t).piece) ≡ o
      → chain_by operand more l o (here i (t ∷ rest) at count) ≡ Ok (x, j) → Took i Q (words ++ t ∷ rest) at0 count0 x j
  by_operator at0 count0 words t rest at count l x j None b is h = weaker i L Q ends (words ++ t ∷ rest) at0 count0 x j (stops i L at0 count0 words (t ∷ rest) at count l x j b h)
  by_operator at0 count0 words t rest at count l x j (Some op) b is h = joined at0 count0 words t rest at count l x j op b is h

  -- an operator and its right side, if there is one, and what goes on behind
  pub turn : GoesOn i L Q (λ l k. chain_by operand more l (operator (piece k)) k)
  turn at0 count0 words [] at count l x j b h =
      let h' : chain_by operand more l (operator None) (here i [] at count) ≡ Ok (x, j) = rw (piece_none i at count) at h in
      let h'' : chain_by operand more l None (here i [] at count) ≡ Ok (x, j) = rw none at h' in
      weaker i L Q ends (words ++ []) at0 count0 x j (stops i L at0 count0 words [] at count l x j b h'')
  turn at0 count0 words (t ∷ rest) at count l x j b h =
      by_operator at0 count0 words t rest at count l x j (operator (Some (lexeme_of i.text t).piece)) b refl (rw (piece_here i t rest at count) at h)

-- ---- chains

module _ (i : Input) (R Q : Phrase) (operator : Option Piece → Option Op) (operand : Parser Expr)
    (joins : (us vs : List Lexeme) (w : Lexeme) (op : Op) (x y : Expr) → Q us x → operator (Some w.piece) ≡ Some op → R vs y → Q (us ++ w ∷ vs) (e.Bin op x y))
    (none : operator None ≡ None) (sound : IsSound i R operand) where
  pub turns : (n : ℕ) → GoesOn i Q Q (chain_from operator operand n)
  unfolding chain_from
  turns zero = stops i Q
  turns (suc n) = turn i Q R Q operator operand (chain_from operator operand n) (λ ws x s. s) joins none sound (turns n)

-- a rule, and what goes on behind what it reads
pub followed : (i : Input) (P Q : Phrase) (p : Parser Expr) (f : Expr → Parser Expr) → IsSound i P p → GoesOn i P Q f → IsSound i Q (p >>= f)
followed i P Q p f sound goes_on left at count x j h =
    let s = steps_of (p (here i left at count)) f x j h in
    let took = sound left at count s.value s.between s.first in
    let went = subst (λ (k : Input). f s.value k ≡ Ok (x, j)) took.end s.second in
    let all = goes_on at count took.words took.rest (at + length took.words) (count + nodes s.value) s.value x j
    (record { spelled = took.spelled; place = refl; total = refl; few = took.few }) went in
    subst (λ (ls : List Token). Took i Q ls at count x j) (sym took.whole) all

-- an operand, and then any number of operators with their right sides
pub chained : (i : Input) (P Q : Phrase) (operator : Option Piece → Option Op) (operand : Parser Expr)
    → ((ws : List Lexeme) (x : Expr) → P ws x → Q ws x)
    → ((us vs : List Lexeme) (w : Lexeme) (op : Op) (x y : Expr) → Q us x → operator (Some w.piece) ≡ Some op → P vs y → Q (us ++ w ∷ vs) (e.Bin op x y))
    → operator None ≡ None → IsSound i P operand → IsSound i Q (chain operator operand)
chained i P Q operator operand starts joins none sound =
    followed i Q Q operand (λ l k. chain_from operator operand (length k.left) l k)
    (λ left at count x j h. weaker i P Q starts left at count x j (sound left at count x j h))
    (λ at0 count0 words left at count l x j b h. turns i P Q operator operand joins none sound (length left) at0 count0 words left at count l x j b h)
