-- The rules of expressions take the phrases of their lines, and tell a fault of syntax at the first piece that fits none.
use Rattle.std.proofs.Common.{arith, ◌≡◌, ℕ, zero, suc, ◌≤◌, Bool, true, false, List, [], ◌∷◌, ◌++◌, length, Option, Some, None, refl, sym, ◌∙◌, ap, subst}
use Rattle.std.proofs.lemmas.List.{length-map}
use Rattle.wf_model.specs.Limits.{max_open, max_int}
use Rattle.wf_model.specs.declared.expr.Op.{Op}
use Rattle.wf_model.specs.declared.expr.Expr.{Expr}
use Rattle.wf_model.specs.declared.expr.Expr.TheVariants as e
use Rattle.wf_cursor.specs.declared.piece.Piece.{Piece}
use Rattle.wf_cursor.specs.declared.piece.Piece.TheVariants as pieces
use Rattle.wf_cursor.specs.Input as input
use Rattle.wf_cursor.specs.Input.{Input, Outcome, Parser, and_then, ◌>>=◌, ◌>>◌, pure, take, syntax, oversize, piece, sees, next, node, expect, without_nodes}
use Rattle.wf_phrase.specs.Operators.{or_operator, and_operator, comparison, sum_operator, product_operator}
use Rattle.wf_phrase.specs.Expressions.{open_paren, activity_inside, truth, number, characters, variable, in_state, count_of, done_of, chain_by, chain, atom_by, atom, unary_from, unary, prod, sum, comp, neg_from, neg, conj, disj, parens, expr}
use Rattle.wf_grammar.specs.Lexemes.{lexeme_of}
use Rattle.wf_grammar.specs.Phrases.{Rank}
use Rattle.wf_grammar.proofs.Follows.{Anything, EndsProd, EndsSum, EndsComp, EndsConj, EndsExpr, sum_ends, comparison_ends, and_ends, or_ends, close_ends}
use Rattle.wf_viable.specs.Shapes.{Shape, first, One, ◌·◌}
use Rattle.wf_viable.specs.Expressions.{Line, Phrase}
use Rattle.wf_viable.specs.Expressions as phrase
use Rattle.wf_viable.proofs.Fits.{pieces_left, Fits, Productive, Joins, recast, recast_all, then_fits}
use Rattle.wf_viable.proofs.Steps.{piece_first, Next, behind_next, took_one, took_none, stuck_here, faults_next, by_seeing, node_then, with_node, then_keeps, same_fits, expect_fits, variable_fits, state_fits, activity_fits, int_fits, text_fits, open_paren_fits}
use Rattle.wf_viable.proofs.Repeats.{some_one, some_then, one_then, next_then}
use Rattle.wf_viable.proofs.Turns.{none_left, turn_fits, tail_joins, chain_fits}
use Rattle.wf_viable.proofs.Chains.{or_table, and_table, comparison_table, sum_table, product_table, or_turns, and_turns, sum_turns, product_turns, comparison_turns, Compared, Empty, expr_wider, expr_narrower, conj_wider, conj_narrower, sum_wider, sum_narrower, prod_wider, prod_narrower, comp_wider, comp_narrower, comp_with_not}

-- ---- atoms

-- ( NAME )
abbrev pub InParens : Shape
InParens = One pieces.OpenParen · (One pieces.Name · One pieces.CloseParen)

-- ( expr )
abbrev pub ExprInParens : Shape
ExprInParens = One pieces.OpenParen · (Phrase Line.expr · One pieces.CloseParen)

-- the atoms that begin with this
abbrev AtomWith : Piece → Shape
AtomWith pieces.True = One pieces.True
AtomWith pieces.False = One pieces.False
AtomWith pieces.Int = One pieces.Int
AtomWith pieces.Text = One pieces.Text
AtomWith pieces.Name = One pieces.Name
AtomWith pieces.In = One pieces.In · InParens
AtomWith pieces.Count = One pieces.Count · InParens
AtomWith pieces.Done = One pieces.Done · InParens
AtomWith pieces.OpenParen = ExprInParens
AtomWith _ = λ ps. ⊥

in_parens : InParens (pieces.OpenParen ∷ pieces.Name ∷ pieces.CloseParen ∷ [])
in_parens = record {
  front = pieces.OpenParen ∷ [];
  back = pieces.Name ∷ pieces.CloseParen ∷ [];
  whole = refl;
  is_front = One.one;
  is_back = record { front = pieces.Name ∷ []; back = pieces.CloseParen ∷ []; whole = refl; is_front = One.one; is_back = One.one };
}

test_in_parens : (p : Piece) → (One p · InParens) (p ∷ pieces.OpenParen ∷ pieces.Name ∷ pieces.CloseParen ∷ [])
test_in_parens p = record { front = p ∷ []; back = pieces.OpenParen ∷ pieces.Name ∷ pieces.CloseParen ∷ []; whole = refl; is_front = One.one; is_back = in_parens }

is_test : (p : Piece) (us : List Piece) → (One p · InParens) us → us ≡ p ∷ pieces.OpenParen ∷ pieces.Name ∷ pieces.CloseParen ∷ []
is_test p us both = both.whole ∙ by_one both.front both.back both.is_front both.is_back
  where
    by_three : (a b : List Piece) → One pieces.Name a → One pieces.CloseParen b → a ++ b ≡ pieces.Name ∷ pieces.CloseParen ∷ []
    by_three a b One.one One.one = refl

    by_two : (a b : List Piece) → One pieces.OpenParen a → (One pieces.Name · One pieces.CloseParen) b → a ++ b ≡ pieces.OpenParen ∷ pieces.Name ∷ pieces.CloseParen ∷ []
    by_two a b One.one both' = ap (λ x. pieces.OpenParen ∷ x) (both'.whole ∙ by_three both'.front both'.back both'.is_front both'.is_back)

    by_one : (a b : List Piece) → One p a → InParens b → a ++ b ≡ p ∷ pieces.OpenParen ∷ pieces.Name ∷ pieces.CloseParen ∷ []
    by_one a b One.one both' = ap (λ x. p ∷ x) (both'.whole ∙ by_two both'.front both'.back both'.is_front both'.is_back)

is_in_parens : (us : List Piece) → ExprInParens us → Phrase Line.atom us
is_in_parens us both = subst (Phrase Line.atom) (sym both.whole) (by_one both.front both.back both.is_front both.is_back)
  where
    by_close : (a b : List Piece) → Phrase Line.expr a → One pieces.CloseParen b → Phrase Line.atom (pieces.OpenParen ∷ (a ++ b))
    by_close a b shaped One.one = phrase.atom_expr shaped

    by_one : (a b : List Piece) → One pieces.OpenParen a → (Phrase Line.expr · One pieces.CloseParen) b → Phrase Line.atom (a ++ b)
    by_one a b One.one both' = subst (λ x. Phrase Line.atom (pieces.OpenParen ∷ x)) (sym both'.whole) (by_close both'.front both'.back both'.is_front both'.is_back)

-- they are atoms
atom_wider : (p : Piece) (us : List Piece) → AtomWith p us → Phrase Line.atom us
atom_wider pieces.True us One.one = phrase.atom_true
atom_wider pieces.False us One.one = phrase.atom_false
atom_wider pieces.Int us One.one = phrase.atom_int
atom_wider pieces.Text us One.one = phrase.atom_text
atom_wider pieces.Name us One.one = phrase.atom_name
atom_wider pieces.In us shaped = subst (Phrase Line.atom) (sym (is_test pieces.In us shaped)) phrase.atom_in
atom_wider pieces.Count us shaped = subst (Phrase Line.atom) (sym (is_test pieces.Count us shaped)) phrase.atom_count
atom_wider pieces.Done us shaped = subst (Phrase Line.atom) (sym (is_test pieces.Done us shaped)) phrase.atom_done
atom_wider pieces.OpenParen us shaped = is_in_parens us shaped
atom_wider _ us shaped = absurd shaped

-- and each atom is one of those that begin as it does
atom_narrow : (p : Piece) (us vs : List Piece) → Phrase Line.atom us → first (us ++ vs) ≡ Some p → AtomWith p us
atom_narrow p us vs phrase.atom_true is = let same : pieces.True ≡ p = cc in subst (λ q. AtomWith q (pieces.True ∷ [])) same One.one
atom_narrow p us vs phrase.atom_false is = let same : pieces.False ≡ p = cc in subst (λ q. AtomWith q (pieces.False ∷ [])) same One.one
atom_narrow p us vs phrase.atom_int is = let same : pieces.Int ≡ p = cc in subst (λ q. AtomWith q (pieces.Int ∷ [])) same One.one
atom_narrow p us vs phrase.atom_text is = let same : pieces.Text ≡ p = cc in subst (λ q. AtomWith q (pieces.Text ∷ [])) same One.one
atom_narrow p us vs phrase.atom_name is = let same : pieces.Name ≡ p = cc in subst (λ q. AtomWith q (pieces.Name ∷ [])) same One.one
atom_narrow p us vs phrase.atom_in is = let same : pieces.In ≡ p = cc in subst (λ q. AtomWith q (pieces.In ∷ pieces.OpenParen ∷ pieces.Name ∷ pieces.CloseParen ∷ [])) same (test_in_parens pieces.In)
atom_narrow p us vs phrase.atom_count is = let same : pieces.Count ≡ p = cc in subst (λ q. AtomWith q (pieces.Count ∷ pieces.OpenParen ∷ pieces.Name ∷ pieces.CloseParen ∷ [])) same (test_in_parens pieces.Count)
atom_narrow p us vs phrase.atom_done is = let same : pieces.Done ≡ p = cc in subst (λ q. AtomWith q (pieces.Done ∷ pieces.OpenParen ∷ pieces.Name ∷ pieces.CloseParen ∷ [])) same (test_in_parens pieces.Done)
atom_narrow p us vs (phrase.atom_expr {us = ws} inner) is =
    let same : pieces.OpenParen ≡ p = cc in
    subst (λ q. AtomWith q (pieces.OpenParen ∷ (ws ++ pieces.CloseParen ∷ []))) same
    (record { front = pieces.OpenParen ∷ []; back = ws ++ pieces.CloseParen ∷ []; whole = refl; is_front = One.one; is_back = record { front = ws; back = pieces.CloseParen ∷ []; whole = refl; is_front = inner; is_back = One.one } })

some_atom : Productive (Phrase Line.atom)
some_atom = record { pieces = pieces.Name ∷ []; shaped = phrase.atom_name }

-- what reads the atoms that begin with the next piece reads an atom
by_next : {A : Type 0} (i : Input) (p : Piece) (r : Outcome A) → Next p i → Fits i (AtomWith p) Anything r → Fits i (Phrase Line.atom) Anything r
by_next i p r h fits = recast i (AtomWith p) (Phrase Line.atom) Anything Anything r (record { wider = atom_wider p; narrow = λ us vs shaped follows is. (atom_narrow p us vs shaped (is ∙ h), tt) }) fits

-- one piece, and a node
truth_fits : (i : Input) (p : Piece) (b : Bool) → Next p i → Fits i (One p) Anything (truth b i)
unfolding truth
truth_fits i p b h =
    then_keeps i (One p) Anything ((node >> take) i) (λ _. pure (e.Bool b)) (node_then i p [] (One p) Anything take h One.one (took_one (with_node i) (next (with_node i)) p h (refl, refl)))
    (λ x j. (refl, refl))

number_fits : (i : Input) → Next pieces.Int i → Fits i (One pieces.Int) Anything (number i)
unfolding number input.int
number_fits i h = node_then i pieces.Int [] (One pieces.Int) Anything (input.int >>= (λ n. pure (e.Int n))) h One.one
    (then_keeps (with_node i) (One pieces.Int) Anything (input.int (with_node i)) (λ n. pure (e.Int n)) (int_fits (with_node i) max_int) (λ x j. (refl, refl)))

characters_fits : (i : Input) → Next pieces.Text i → Fits i (One pieces.Text) Anything (characters i)
unfolding characters
characters_fits i h = node_then i pieces.Text [] (One pieces.Text) Anything (input.text >>= (λ t. pure (e.Text t))) h One.one
    (then_keeps (with_node i) (One pieces.Text) Anything (input.text (with_node i)) (λ t. pure (e.Text t)) (text_fits (with_node i)) (λ x j. (refl, refl)))

variable_atom_fits : (i : Input) → Next pieces.Name i → Fits i (One pieces.Name) Anything (variable i)
unfolding variable
variable_atom_fits i h = node_then i pieces.Name [] (One pieces.Name) Anything (input.variable >>= (λ x. pure (e.Var x))) h One.one
    (then_keeps (with_node i) (One pieces.Name) Anything (input.variable (with_node i)) (λ x. pure (e.Var x)) (variable_fits (with_node i)) (λ x j. (refl, refl)))

-- ( NAME ), whatever the name is to be
inside_fits : {A B : Type 0} (i : Input) (depth : ℕ) (named : Parser A) (f : A → Parser B) → ((k : Input) → Fits k (One pieces.Name) Anything (named k))
    → ((x : A) (k : Input) → Fits k (One pieces.CloseParen) Anything (f x k)) → Fits i InParens Anything ((open_paren depth >> (named >>= f)) i)
inside_fits i depth named f named_fits f_fits =
    one_then i pieces.OpenParen (One pieces.Name · One pieces.CloseParen) Anything (open_paren depth i) (λ _. named >>= f)
    (some_then (One pieces.Name) (One pieces.CloseParen) (some_one pieces.Name) (some_one pieces.CloseParen)) (open_paren_fits i depth)
    (λ x j. one_then j pieces.Name (One pieces.CloseParen) Anything (named j) f (some_one pieces.CloseParen) (named_fits j) f_fits)

close_fits : {A : Type 0} (i : Input) (a : A) → Fits i (One pieces.CloseParen) Anything ((expect pieces.CloseParen >> pure a) i)
close_fits i a = then_keeps i (One pieces.CloseParen) Anything (expect pieces.CloseParen i) (λ _. pure a) (expect_fits i pieces.CloseParen) (λ x j. (refl, refl))

-- a word, a node, and what stands in parentheses
test_fits : {A : Type 0} (i : Input) (p : Piece) (f : Parser A) → Next p i → ((k : Input) → Fits k InParens Anything (f k)) → Fits i (One p · InParens) Anything ((node >> (take >> f)) i)
test_fits i p f h fits =
    let k = with_node i in
    node_then i p (pieces.OpenParen ∷ pieces.Name ∷ pieces.CloseParen ∷ []) (One p · InParens) Anything (take >> f) h (test_in_parens p)
    (next_then k p InParens Anything (f (next k)) h (fits (next k)))

in_state_fits : (i : Input) (depth : ℕ) → Next pieces.In i → Fits i (One pieces.In · InParens) Anything (in_state depth i)
unfolding in_state
in_state_fits i depth h = test_fits i pieces.In (open_paren depth >> (input.state >>= (λ s. expect pieces.CloseParen >> pure (e.In s)))) h
    (λ k. inside_fits k depth input.state (λ s. expect pieces.CloseParen >> pure (e.In s)) state_fits (λ s j. close_fits j (e.In s)))

activity_inside_fits : (i : Input) (depth : ℕ) → Fits i InParens Anything (activity_inside depth i)
unfolding activity_inside
activity_inside_fits i depth = inside_fits i depth input.activity (λ a. expect pieces.CloseParen >> pure a) activity_fits (λ a j. close_fits j a)

count_fits : (i : Input) (depth : ℕ) → Next pieces.Count i → Fits i (One pieces.Count · InParens) Anything (count_of depth i)
unfolding count_of
count_fits i depth h = test_fits i pieces.Count (activity_inside depth >>= (λ a. pure (e.Count a))) h
    (λ k. then_keeps k InParens Anything (activity_inside depth k) (λ a. pure (e.Count a)) (activity_inside_fits k depth) (λ x j. (refl, refl)))

done_fits : (i : Input) (depth : ℕ) → Next pieces.Done i → Fits i (One pieces.Done · InParens) Anything (done_of depth i)
unfolding done_of
done_fits i depth h = test_fits i pieces.Done (activity_inside depth >>= (λ a. pure (e.Done a))) h
    (λ k. then_keeps k InParens Anything (activity_inside depth k) (λ a. pure (e.Done a)) (activity_inside_fits k depth) (λ x j. (refl, refl)))

-- the reader of parentheses takes them
abbrev NestedFits : Parser Expr → Type 0
NestedFits nested = (i : Input) → Next pieces.OpenParen i → Fits i ExprInParens Anything (nested i)

module _ (depth : ℕ) (nested : Parser Expr) (nested_fits : NestedFits nested) where
  atom_by_fits : (i : Input) (p : Piece) → Next p i → Fits i (Phrase Line.atom) Anything (atom_by depth nested (Some p) i)
  atom_by_fits i pieces.True h = by_next i pieces.True (truth true i) h (truth_fits i pieces.True true h)
  atom_by_fits i pieces.False h = by_next i pieces.False (truth false i) h (truth_fits i pieces.False false h)
  atom_by_fits i pieces.Int h = by_next i pieces.Int (number i) h (number_fits i h)
  atom_by_fits i pieces.Text h = by_next i pieces.Text (characters i) h (characters_fits i h)
  atom_by_fits i pieces.Name h = by_next i pieces.Name (variable i) h (variable_atom_fits i h)
  atom_by_fits i pieces.In h = by_next i pieces.In (in_state depth i) h (in_state_fits i depth h)
  atom_by_fits i pieces.Count h = by_next i pieces.Count (count_of depth i) h (count_fits i depth h)
  atom_by_fits i pieces.Done h = by_next i pieces.Done (done_of depth i) h (done_fits i depth h)
  atom_by_fits i pieces.OpenParen h = by_next i pieces.OpenParen (nested i) h (nested_fits i h)
  atom_by_fits i p h = stuck_here i (Phrase Line.atom) Anything some_atom (λ us vs shaped follows is. atom_narrow p us vs shaped (is ∙ h))

  pub atom_fits : (i : Input) → Fits i (Phrase Line.atom) Anything (atom depth nested i)
  unfolding atom
  atom_fits i = by_piece (piece i) refl
    where
      by_piece : (q : Option Piece) → piece i ≡ q → Fits i (Phrase Line.atom) Anything (atom_by depth nested q i)
      by_piece None is = stuck_here i (Phrase Line.atom) Anything some_atom (λ us vs shaped follows at_end. by_atom us vs shaped (at_end ∙ sym (piece_first i) ∙ is))
        where
          by_atom : (us vs : List Piece) → Phrase Line.atom us → first (us ++ vs) ≡ None → ⊥
          by_atom us vs phrase.atom_true h = cc
          by_atom us vs phrase.atom_false h = cc
          by_atom us vs phrase.atom_int h = cc
          by_atom us vs phrase.atom_text h = cc
          by_atom us vs phrase.atom_name h = cc
          by_atom us vs phrase.atom_in h = cc
          by_atom us vs phrase.atom_count h = cc
          by_atom us vs phrase.atom_done h = cc
          by_atom us vs (phrase.atom_expr inner) h = cc
      by_piece (Some p) is = atom_by_fits i p (sym (piece_first i) ∙ is)

  -- ---- unary

  some_unary : Productive (Phrase Line.unary)
  some_unary = record { pieces = pieces.Name ∷ []; shaped = phrase.unary_atom phrase.atom_name }

  -- what a rule reads where no sign or word is before it
  unary_of_atom : (i : Input) → (Next pieces.Minus i → ⊥) → Fits i (Phrase Line.unary) Anything (atom depth nested i)
  unary_of_atom i absent = recast i (Phrase Line.atom) (Phrase Line.unary) Anything Anything (atom depth nested i) (record { wider = λ us shaped. phrase.unary_atom shaped; narrow = narrow }) (atom_fits i)
    where
      narrow : (us vs : List Piece) → Phrase Line.unary us → Anything (first vs) → first (us ++ vs) ≡ first (pieces_left i) → Phrase Line.atom us × Anything (first vs)
      narrow us vs (phrase.minus shaped) follows is = absurd (absent (sym is))
      narrow us vs (phrase.unary_atom shaped) follows is = (shaped, tt)

  no_atom_with_minus : (us vs : List Piece) → Phrase Line.atom us → first (us ++ vs) ≡ Some pieces.Minus → ⊥
  no_atom_with_minus us vs shaped is = atom_narrow pieces.Minus us vs shaped is

  -- - unary
  unary_of_minus : {A : Type 0} (i : Input) (r : Outcome A) → Next pieces.Minus i → Fits i (One pieces.Minus · Phrase Line.unary) Anything r → Fits i (Phrase Line.unary) Anything r
  unary_of_minus i r h fits = recast i (One pieces.Minus · Phrase Line.unary) (Phrase Line.unary) Anything Anything r (record { wider = wider; narrow = narrow }) fits
    where
      by_one : (a b : List Piece) → One pieces.Minus a → Phrase Line.unary b → Phrase Line.unary (a ++ b)
      by_one a b One.one shaped = phrase.minus shaped

      wider : (us : List Piece) → (One pieces.Minus · Phrase Line.unary) us → Phrase Line.unary us
      wider us both = subst (Phrase Line.unary) (sym both.whole) (by_one both.front both.back both.is_front both.is_back)

      narrow : (us vs : List Piece) → Phrase Line.unary us → Anything (first vs) → first (us ++ vs) ≡ first (pieces_left i) → (One pieces.Minus · Phrase Line.unary) us × Anything (first vs)
      narrow us vs (phrase.minus {us = ws} shaped) follows is = (record { front = pieces.Minus ∷ []; back = ws; whole = refl; is_front = One.one; is_back = shaped }, tt)
      narrow us vs (phrase.unary_atom shaped) follows is = absurd (no_atom_with_minus us vs shaped (is ∙ h))

  unary_from_fits : (n : ℕ) (i : Input) → length (pieces_left i) ≤ n → Fits i (Phrase Line.unary) Anything (unary_from depth nested n i)
  unfolding unary_from
  unary_from_fits zero i short = unary_of_atom i (λ h. (let empty = ap first (none_left i short) in cc))
  unary_from_fits (suc n) i short =
      by_seeing i pieces.Minus (Phrase Line.unary) Anything ((node >> (take >> (unary_from depth nested n >>= (λ x. pure (e.Neg x))))) i) (atom depth nested i)
      (λ h.
      let k = with_node i in
      let b = behind_next k pieces.Minus h in
      let w = ap length b.whole in
      let inner : Fits (next k) (Phrase Line.unary) Anything ((unary_from depth nested n >>= (λ x. pure (e.Neg x))) (next k)) =
      then_keeps (next k) (Phrase Line.unary) Anything (unary_from depth nested n (next k)) (λ x. pure (e.Neg x)) (unary_from_fits n (next k) (omega (arith, w, short))) (λ x j. (refl, refl)) in
      unary_of_minus i ((node >> (take >> (unary_from depth nested n >>= (λ x. pure (e.Neg x))))) i) h
      (node_then i pieces.Minus (pieces.Name ∷ []) (One pieces.Minus · Phrase Line.unary) Anything (take >> (unary_from depth nested n >>= (λ x. pure (e.Neg x)))) h
      (record { front = pieces.Minus ∷ []; back = pieces.Name ∷ []; whole = refl; is_front = One.one; is_back = phrase.unary_atom phrase.atom_name })
      (next_then k pieces.Minus (Phrase Line.unary) Anything ((unary_from depth nested n >>= (λ x. pure (e.Neg x))) (next k)) h inner)))
      (unary_of_atom i)

  unary_fits : (i : Input) → Fits i (Phrase Line.unary) Anything (unary depth nested i)
  unary_fits i = unary_from_fits (length i.left) i (let l = length-map i.left (λ t. (lexeme_of i.text t).piece) in omega arith)

  -- ---- chains

  product_ends : (p : Piece) (o : Op) → product_operator (Some p) ≡ Some o → Anything (Some p)
  product_ends p o found = tt

  prod_fits : (i : Input) → Fits i (Phrase Line.prod) EndsProd (prod depth nested i)
  unfolding prod
  prod_fits i = recast_all i (Phrase Line.unary · Phrase Line.times_unaries) (Phrase Line.prod) EndsProd (chain product_operator (unary depth nested) i) prod_wider prod_narrower
      (chain_fits Rank.prod product_operator product_table (Phrase Line.unary) (Phrase Line.times_unaries) product_turns Anything product_ends (unary depth nested) unary_fits some_unary i)

  some_prod : Productive (Phrase Line.prod)
  some_prod = record { pieces = pieces.Name ∷ []; shaped = phrase.prod (phrase.unary_atom phrase.atom_name) phrase.no_times }

  sum_fits : (i : Input) → Fits i (Phrase Line.sum) EndsSum (sum depth nested i)
  unfolding sum
  sum_fits i = recast_all i (Phrase Line.prod · Phrase Line.plus_prods) (Phrase Line.sum) EndsSum (chain sum_operator (prod depth nested) i) sum_wider sum_narrower
      (chain_fits Rank.sum sum_operator sum_table (Phrase Line.prod) (Phrase Line.plus_prods) sum_turns EndsProd sum_ends (prod depth nested) prod_fits some_prod i)

  some_sum : Productive (Phrase Line.sum)
  some_sum = record { pieces = pieces.Name ∷ []; shaped = phrase.sum (phrase.prod (phrase.unary_atom phrase.atom_name) phrase.no_times) phrase.no_plus }

  nothing_joins : Joins Empty EndsSum EndsComp
  nothing_joins us vs Empty.empty follows = follows.0

  pure_fits : (i : Input) (x : Expr) → Fits i Empty EndsComp (pure x i)
  pure_fits i x = took_none i i Empty EndsComp (refl, refl) Empty.empty only
    where
      only : (us vs : List Piece) → Empty us → EndsComp (first vs) → first (us ++ vs) ≡ first (pieces_left i) → us ≡ []
      only us vs Empty.empty follows is = refl

  comp_fits : (i : Input) → Fits i (Phrase Line.comp) EndsComp (comp depth nested i)
  unfolding comp
  comp_fits i = recast_all i (Phrase Line.sum · Compared) (Phrase Line.comp) EndsComp (comp depth nested i) comp_wider comp_narrower
      (then_fits i (Phrase Line.sum) Compared EndsSum EndsComp (sum depth nested i) (λ left k. chain_by (sum depth nested) pure left (comparison (piece k)) k)
      (tail_joins Rank.comp comparison comparison_table (Phrase Line.sum) Empty Compared comparison_turns EndsSum comparison_ends)
      (record { pieces = []; shaped = Compared.not_compared }) (sum_fits i)
      (λ left k got. turn_fits Rank.comp comparison comparison_table (Phrase Line.sum) Empty Compared comparison_turns EndsSum comparison_ends
      (sum depth nested) sum_fits some_sum (record { pieces = []; shaped = Empty.empty }) nothing_joins k pure left (λ j x shorter. pure_fits j x)))

  -- ---- neg

  some_comp : Phrase Line.comp (pieces.Name ∷ [])
  some_comp = phrase.comp_sum (phrase.sum (phrase.prod (phrase.unary_atom phrase.atom_name) phrase.no_times) phrase.no_plus)

  some_neg : Productive (Phrase Line.neg)
  some_neg = record { pieces = pieces.Name ∷ []; shaped = phrase.neg_comp some_comp }

  neg_of_comp : (i : Input) → (Next pieces.Not i → ⊥) → Fits i (Phrase Line.neg) EndsComp (comp depth nested i)
  neg_of_comp i absent = recast i (Phrase Line.comp) (Phrase Line.neg) EndsComp EndsComp (comp depth nested i) (record { wider = λ us shaped. phrase.neg_comp shaped; narrow = narrow }) (comp_fits i)
    where
      narrow : (us vs : List Piece) → Phrase Line.neg us → EndsComp (first vs) → first (us ++ vs) ≡ first (pieces_left i) → Phrase Line.comp us × EndsComp (first vs)
      narrow us vs (phrase.not shaped) follows is = absurd (absent (sym is))
      narrow us vs (phrase.neg_comp shaped) follows is = (shaped, follows)

  -- not neg
  neg_of_not : {A : Type 0} (i : Input) (r : Outcome A) → Next pieces.Not i → Fits i (One pieces.Not · Phrase Line.neg) EndsComp r → Fits i (Phrase Line.neg) EndsComp r
  neg_of_not i r h fits = recast i (One pieces.Not · Phrase Line.neg) (Phrase Line.neg) EndsComp EndsComp r (record { wider = wider; narrow = narrow }) fits
    where
      by_one : (a b : List Piece) → One pieces.Not a → Phrase Line.neg b → Phrase Line.neg (a ++ b)
      by_one a b One.one shaped = phrase.not shaped

      wider : (us : List Piece) → (One pieces.Not · Phrase Line.neg) us → Phrase Line.neg us
      wider us both = subst (Phrase Line.neg) (sym both.whole) (by_one both.front both.back both.is_front both.is_back)

      narrow : (us vs : List Piece) → Phrase Line.neg us → EndsComp (first vs) → first (us ++ vs) ≡ first (pieces_left i) → (One pieces.Not · Phrase Line.neg) us × EndsComp (first vs)
      narrow us vs (phrase.not {us = ws} shaped) follows is = (record { front = pieces.Not ∷ []; back = ws; whole = refl; is_front = One.one; is_back = shaped }, follows)
      narrow us vs (phrase.neg_comp shaped) follows is = absurd (comp_with_not us vs shaped (is ∙ h))

  neg_from_fits : (n : ℕ) (i : Input) → length (pieces_left i) ≤ n → Fits i (Phrase Line.neg) EndsComp (neg_from depth nested n i)
  unfolding neg_from
  neg_from_fits zero i short = neg_of_comp i (λ h. (let empty = ap first (none_left i short) in cc))
  neg_from_fits (suc n) i short =
      by_seeing i pieces.Not (Phrase Line.neg) EndsComp ((node >> (take >> (neg_from depth nested n >>= (λ x. pure (e.Not x))))) i) (comp depth nested i)
      (λ h.
      let k = with_node i in
      let b = behind_next k pieces.Not h in
      let w = ap length b.whole in
      let inner : Fits (next k) (Phrase Line.neg) EndsComp ((neg_from depth nested n >>= (λ x. pure (e.Not x))) (next k)) =
      then_keeps (next k) (Phrase Line.neg) EndsComp (neg_from depth nested n (next k)) (λ x. pure (e.Not x)) (neg_from_fits n (next k) (omega (arith, w, short))) (λ x j. (refl, refl)) in
      neg_of_not i ((node >> (take >> (neg_from depth nested n >>= (λ x. pure (e.Not x))))) i) h
      (node_then i pieces.Not (pieces.Name ∷ []) (One pieces.Not · Phrase Line.neg) EndsComp (take >> (neg_from depth nested n >>= (λ x. pure (e.Not x)))) h
      (record { front = pieces.Not ∷ []; back = pieces.Name ∷ []; whole = refl; is_front = One.one; is_back = phrase.neg_comp some_comp })
      (next_then k pieces.Not (Phrase Line.neg) EndsComp ((neg_from depth nested n >>= (λ x. pure (e.Not x))) (next k)) h inner)))
      (neg_of_comp i)

  neg_fits : (i : Input) → Fits i (Phrase Line.neg) EndsComp (neg depth nested i)
  neg_fits i = neg_from_fits (length i.left) i (let l = length-map i.left (λ t. (lexeme_of i.text t).piece) in omega arith)

  -- ---- and the rest

  conj_fits : (i : Input) → Fits i (Phrase Line.conj) EndsConj (conj depth nested i)
  unfolding conj
  conj_fits i = recast_all i (Phrase Line.neg · Phrase Line.and_negs) (Phrase Line.conj) EndsConj (chain and_operator (neg depth nested) i) conj_wider conj_narrower
      (chain_fits Rank.conj and_operator and_table (Phrase Line.neg) (Phrase Line.and_negs) and_turns EndsComp and_ends (neg depth nested) neg_fits some_neg i)

  some_conj : Productive (Phrase Line.conj)
  some_conj = record { pieces = pieces.Name ∷ []; shaped = phrase.conj (phrase.neg_comp some_comp) phrase.no_and }

  pub disj_fits : (i : Input) → Fits i (Phrase Line.expr) EndsExpr (disj depth nested i)
  unfolding disj
  disj_fits i = recast_all i (Phrase Line.conj · Phrase Line.or_conjs) (Phrase Line.expr) EndsExpr (chain or_operator (conj depth nested) i) expr_wider expr_narrower
      (chain_fits Rank.expr or_operator or_table (Phrase Line.conj) (Phrase Line.or_conjs) or_turns EndsConj or_ends (conj depth nested) conj_fits some_conj i)

-- ---- expressions

-- a name is an expression
pub name_is_expr : Phrase Line.expr (pieces.Name ∷ [])
name_is_expr = phrase.expr (phrase.conj (phrase.neg_comp (phrase.comp_sum (phrase.sum (phrase.prod (phrase.unary_atom phrase.atom_name) phrase.no_times) phrase.no_plus))) phrase.no_and) phrase.no_or

close_joins : Joins (One pieces.CloseParen) EndsExpr Anything
close_joins us vs One.one follows = close_ends pieces.CloseParen refl

name_in_parens : ExprInParens (pieces.OpenParen ∷ pieces.Name ∷ pieces.CloseParen ∷ [])
name_in_parens = record {
  front = pieces.OpenParen ∷ [];
  back = pieces.Name ∷ pieces.CloseParen ∷ [];
  whole = refl;
  is_front = One.one;
  is_back = record { front = pieces.Name ∷ []; back = pieces.CloseParen ∷ []; whole = refl; is_front = name_is_expr; is_back = One.one };
}

parens_fits : (depth : ℕ) → NestedFits (parens depth)
unfolding parens
parens_fits zero i h = faults_next i pieces.OpenParen ExprInParens (pieces.Name ∷ pieces.CloseParen ∷ []) h name_in_parens
parens_fits (suc depth) i h =
    next_then i pieces.OpenParen (Phrase Line.expr · One pieces.CloseParen) Anything ((disj depth (parens depth) >>= (λ x. expect pieces.CloseParen >> pure x)) (next i)) h
    (then_fits (next i) (Phrase Line.expr) (One pieces.CloseParen) EndsExpr Anything (disj depth (parens depth) (next i)) (λ x. expect pieces.CloseParen >> pure x) close_joins (some_one pieces.CloseParen)
    (disj_fits depth (parens depth) (parens_fits depth) (next i)) (λ x j got. close_fits j x))

pub expr_fits : (i : Input) → Fits i (Phrase Line.expr) EndsExpr (expr i)
unfolding expr without_nodes
expr_fits i = same_fits i (record i { nodes = 0 }) (Phrase Line.expr) EndsExpr (disj max_open (parens max_open) (record i { nodes = 0 })) (refl, refl)
    (disj_fits max_open (parens max_open) (parens_fits max_open) (record i { nodes = 0 }))
