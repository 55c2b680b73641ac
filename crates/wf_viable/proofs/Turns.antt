-- Chains of operands: an operand, and any number of operators with an operand behind each.
use Rattle.std.proofs.Common.{arith, ◌≡◌, ℕ, zero, suc, ◌≤◌, ◌⊎◌, inl, inr, List, [], ◌∷◌, ◌++◌, length, Option, Some, None, refl, sym, ◌∙◌, ap, subst}
use Rattle.std.proofs.lemmas.List.{length-map}
use Rattle.wf_model.specs.declared.expr.Op.{Op}
use Rattle.wf_model.specs.declared.expr.Expr.{Expr}
use Rattle.wf_model.specs.declared.expr.Expr.TheVariants as e
use Rattle.wf_cursor.specs.declared.piece.Piece.{Piece}
use Rattle.wf_cursor.specs.Input.{Input, Parser, ◌>>=◌, ◌>>◌, take, piece, next}
use Rattle.wf_phrase.specs.Expressions.{chain_by, chain_from, rest_of, chain}
use Rattle.wf_grammar.specs.Lexemes.{lexeme_of}
use Rattle.wf_grammar.specs.Phrases.{Rank, sign_of, line_of}
use Rattle.wf_grammar.proofs.Reading.{Follow}
use Rattle.wf_grammar.proofs.Follows.{Anything}
use Rattle.wf_grammar.proofs.Tables.{HasSign}
use Rattle.wf_viable.specs.Shapes.{Shape, first, One, ◌·◌}
use Rattle.wf_viable.proofs.Fits.{pieces_left, Fits, Productive, Joins, Recasts, recast, behind_fits, then_fits, no_longer}
use Rattle.wf_viable.proofs.Steps.{piece_first, Next, behind_next, took_one, took_none, node_then, with_node}

-- an operator of this line, an operand, and what follows
pub record Turned (rank : Rank) (L M : List Piece → Type 0) (ws : List Piece) : Type 0 where
  pub operator : Op
  pub line : line_of operator ≡ rank
  pub us : List Piece
  pub vs : List Piece
  pub whole : ws ≡ sign_of operator ∷ (us ++ vs)
  pub is_operand : L us
  pub is_more : M vs

-- the shape is that, or nothing
pub record Turns (rank : Rank) (L M T : List Piece → Type 0) : Type 0 where
  pub ends : T []
  pub turns : (o : Op) (us vs : List Piece) → line_of o ≡ rank → L us → M vs → T (sign_of o ∷ (us ++ vs))
  pub cases : (ws : List Piece) → T ws → (ws ≡ []) ⊎ Turned rank L M ws

-- what a table of operators finds is of this line, and each of the line is found
pub record Table (rank : Rank) (operator : Option Piece → Option Op) : Type 0 where
  pub at_end : operator None ≡ None
  pub has_sign : (p : Piece) (o : Op) → operator (Some p) ≡ Some o → HasSign rank o p
  pub finds : (p : Piece) (o : Op) → line_of o ≡ rank → p ≡ sign_of o → operator (Some p) ≡ Some o

-- what may follow a chain: what may follow an operand, but no operator
abbrev pub EndsAll : (Option Piece → Option Op) → Follow → Follow
EndsAll operator F q = F q × (operator q ≡ None)

module _ (rank : Rank) (operator : Option Piece → Option Op) (table : Table rank operator) (L M T : Shape) (turns : Turns rank L M T) (F : Follow)
    (ends : (p : Piece) (o : Op) → operator (Some p) ≡ Some o → F (Some p)) where
  abbrev G : Follow
  G = EndsAll operator F

  -- what begins with no operator is nothing
  only_none : (i : Input) → operator (piece i) ≡ None → (us vs : List Piece) → T us → G (first vs) → first (us ++ vs) ≡ first (pieces_left i) → us ≡ []
  only_none i none us vs shaped follows is = by_case (turns.cases us shaped)
    where
      by_case : (us ≡ []) ⊎ Turned rank L M us → us ≡ []
      by_case (inl empty) = empty
      by_case (inr t) =
          let begins : first (us ++ vs) ≡ Some (sign_of t.operator) = ap (λ x. first (x ++ vs)) t.whole in
          let found = table.finds (sign_of t.operator) t.operator t.line refl in
          let same : piece i ≡ Some (sign_of t.operator) = piece_first i ∙ sym is ∙ begins in
          let no : Some t.operator ≡ None = sym found ∙ ap operator (sym same) ∙ none in
          let never : ⊥ = cc in absurd never

  -- a turn, and more behind it
  pub tail_joins : Joins T F G
  tail_joins us vs shaped follows = by_case (turns.cases us shaped)
    where
      by_case : (us ≡ []) ⊎ Turned rank L M us → F (first (us ++ vs))
      by_case (inl empty) = subst (λ x. F (first (x ++ vs))) (sym empty) follows.0
      by_case (inr t) = subst (λ x. F (first (x ++ vs))) (sym t.whole) (ends (sign_of t.operator) t.operator (table.finds (sign_of t.operator) t.operator t.line refl))

  recasts : (i : Input) (p : Piece) (o : Op) → Next p i → operator (Some p) ≡ Some o → Recasts i (One p · (L · M)) G T G
  recasts i p o h found = record { wider = wider; narrow = narrow }
    where
      by_one : (front back : List Piece) → One p front → (L · M) back → T (front ++ back)
      by_one front back One.one both =
          let sign = table.has_sign p o found in
          let t : T (sign_of o ∷ (both.front ++ both.back)) = turns.turns o both.front both.back sign.0 both.is_front both.is_back in
          subst T (ap (λ q. q ∷ (both.front ++ both.back)) (sym sign.1) ∙ ap (λ x. p ∷ x) (sym both.whole)) t

      wider : (us : List Piece) → (One p · (L · M)) us → T us
      wider us both = subst T (sym both.whole) (by_one both.front both.back both.is_front both.is_back)

      narrow : (us vs : List Piece) → T us → G (first vs) → first (us ++ vs) ≡ first (pieces_left i) → (One p · (L · M)) us × G (first vs)
      narrow us vs shaped follows is = by_case (turns.cases us shaped)
        where
          by_case : (us ≡ []) ⊎ Turned rank L M us → (One p · (L · M)) us × G (first vs)
          by_case (inl empty) =
              let at_hand : first vs ≡ Some p = ap (λ x. first (x ++ vs)) (sym empty) ∙ is ∙ h in
              let no : None ≡ Some o = sym follows.1 ∙ ap operator at_hand ∙ found in
              let never : ⊥ = cc in absurd never
          by_case (inr t) =
              let begins : Some (sign_of t.operator) ≡ Some p = sym (ap (λ x. first (x ++ vs)) t.whole) ∙ is ∙ h in
              let same : sign_of t.operator ≡ p = cc in
              (record { front = p ∷ []; back = t.us ++ t.vs; whole = t.whole ∙ ap (λ q. q ∷ (t.us ++ t.vs)) same; is_front = One.one; is_back = record { front = t.us; back = t.vs; whole = refl; is_front = t.is_operand; is_back = t.is_more } }, follows)

  module _ (operand : Parser Expr) (operand_fits : (i : Input) → Fits i L F (operand i)) (some : Productive L) (some_more : Productive M) (more_joins : Joins M F G) where
    -- a turn, if an operator is next
    pub turn_fits : (i : Input) (more : Expr → Parser Expr) (left : Expr) → ((j : Input) (x : Expr) → suc (length (pieces_left j)) ≤ length (pieces_left i) → Fits j M G (more x j))
        → Fits i T G (chain_by operand more left (operator (piece i)) i)
    turn_fits i more left more_fits = by_found (operator (piece i)) refl
      where
        by_piece : (q : Option Piece) (o : Op) → piece i ≡ q → operator q ≡ Some o
            → Fits i T G (chain_by operand more left (Some o) i)
        by_piece None o is found = let no = table.at_end in let never : ⊥ = cc in absurd never
        by_piece (Some p) o is found =
            let h : Next p i = sym (piece_first i) ∙ is in
            let b = behind_next i p h in
            let w = ap length b.whole in
            let r = recasts i p o h found in
            let k = with_node i in
            let inner : Fits (next k) (L · M) G ((operand >>= (λ right. more (e.Bin o left right))) (next k)) =
            then_fits (next k) L M F G (operand (next k)) (λ right. more (e.Bin o left right)) more_joins some_more (operand_fits (next k))
            (λ x j got. more_fits j (e.Bin o left x) (let l = no_longer (next k) j L F (operand (next k)) x (operand_fits (next k)) got in
            let n = behind_next k p h in let m = ap length n.whole in omega arith)) in
            let whole : Fits k (One p · (L · M)) G ((take >> (operand >>= (λ right. more (e.Bin o left right)))) k) =
            behind_fits k (next k) (One p) (L · M) Anything G ((operand >>= (λ right. more (e.Bin o left right))) (next k)) (λ us vs a b. tt) (took_one k (next k) p h (refl, refl)) inner in
            recast i (One p · (L · M)) T G G (chain_by operand more left (Some o) i) r
            (node_then i p (some.pieces ++ some_more.pieces) (One p · (L · M)) G (take >> (operand >>= (λ right. more (e.Bin o left right)))) h
            (record { front = p ∷ []; back = some.pieces ++ some_more.pieces; whole = refl; is_front = One.one; is_back = record { front = some.pieces; back = some_more.pieces; whole = refl; is_front = some.shaped; is_back = some_more.shaped } })
            whole)

        by_found : (found : Option Op) → operator (piece i) ≡ found → Fits i T G (chain_by operand more left found i)
        by_found None is = took_none i i T G (refl, refl) turns.ends (only_none i is)
        by_found (Some o) is = by_piece (piece i) o refl is

-- no piece is left where their count is nothing
pub none_left : (i : Input) → length (pieces_left i) ≤ zero → pieces_left i ≡ []
none_left i h = by_list (pieces_left i) h
  where
    by_list : (ps : List Piece) → length ps ≤ zero → ps ≡ []
    by_list [] h' = refl
    by_list (p ∷ ps) h' = let never : ⊥ = omega (arith, h') in absurd never

module _ (rank : Rank) (operator : Option Piece → Option Op) (table : Table rank operator) (L T : Shape) (turns : Turns rank L T T) (F : Follow)
    (ends : (p : Piece) (o : Op) → operator (Some p) ≡ Some o → F (Some p)) (operand : Parser Expr) (operand_fits : (i : Input) → Fits i L F (operand i)) (some : Productive L) where
  joins : Joins T F (EndsAll operator F)
  joins = tail_joins rank operator table L T T turns F ends

  chain_from_fits : (n : ℕ) (i : Input) (left : Expr) → length (pieces_left i) ≤ n → Fits i T (EndsAll operator F) (chain_from operator operand n left i)
  unfolding chain_from
  chain_from_fits zero i left short =
      let at_end : operator (piece i) ≡ None = ap operator (piece_first i ∙ ap first (none_left i short)) ∙ table.at_end in
      took_none i i T (EndsAll operator F) (refl, refl) turns.ends (only_none rank operator table L T T turns F ends i at_end)
  chain_from_fits (suc n) i left short =
      turn_fits rank operator table L T T turns F ends operand operand_fits some (record { pieces = []; shaped = turns.ends }) joins i (chain_from operator operand n) left
      (λ j x shorter. chain_from_fits n j x (omega (arith, shorter, short)))

  -- operand { operator operand }
  pub chain_fits : (i : Input) → Fits i (L · T) (EndsAll operator F) (chain operator operand i)
  chain_fits i =
      then_fits i L T F (EndsAll operator F) (operand i) (rest_of operator operand) joins (record { pieces = []; shaped = turns.ends }) (operand_fits i)
      (λ x j got. chain_from_fits (length j.left) j x (let l = length-map j.left (λ t. (lexeme_of j.text t).piece) in omega arith))
