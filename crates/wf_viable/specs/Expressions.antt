-- Of the laws. The grammar of expressions over pieces alone.
-- Any name, Int and Text, and any number of parentheses and nodes.
use Rattle.std.specs.Prelude.{◌≡◌, List, [], ◌∷◌, ◌++◌}
use Rattle.wf_model.specs.declared.expr.Op.{Op}
use Rattle.wf_cursor.specs.declared.piece.Piece.{Piece}
use Rattle.wf_cursor.specs.declared.piece.Piece.TheVariants as pieces
use Rattle.wf_grammar.specs.Phrases.{Rank, sign_of, line_of}

-- the lines of the grammar, and what is repeated in them
pub data Line : Type 0 where
  expr or_conjs conj and_negs neg comp sum plus_prods prod times_unaries unary atom : Line

-- the pieces that are this line of the grammar, with a constructor for each alternative
pub data Phrase : Line → List Piece → Type 0 where
  -- expr = conj { or conj }
  expr : {us vs : List Piece} → Phrase Line.conj us → Phrase Line.or_conjs vs → Phrase Line.expr (us ++ vs)
  no_or : Phrase Line.or_conjs []
  or : {us vs : List Piece} (o : Op) → line_of o ≡ Rank.expr → Phrase Line.conj us → Phrase Line.or_conjs vs → Phrase Line.or_conjs (sign_of o ∷ (us ++ vs))
  -- conj = neg { and neg }
  conj : {us vs : List Piece} → Phrase Line.neg us → Phrase Line.and_negs vs → Phrase Line.conj (us ++ vs)
  no_and : Phrase Line.and_negs []
  and : {us vs : List Piece} (o : Op) → line_of o ≡ Rank.conj → Phrase Line.neg us → Phrase Line.and_negs vs → Phrase Line.and_negs (sign_of o ∷ (us ++ vs))
  -- neg = not neg | comp
  not : {us : List Piece} → Phrase Line.neg us → Phrase Line.neg (pieces.Not ∷ us)
  neg_comp : {us : List Piece} → Phrase Line.comp us → Phrase Line.neg us
  -- comp = sum [ ( = | != | < | <= | > | >= ) sum ]
  comp_sum : {us : List Piece} → Phrase Line.sum us → Phrase Line.comp us
  comp_both : {us vs : List Piece} (o : Op) → line_of o ≡ Rank.comp → Phrase Line.sum us → Phrase Line.sum vs → Phrase Line.comp (us ++ sign_of o ∷ vs)
  -- sum = prod { ( + | - ) prod }
  sum : {us vs : List Piece} → Phrase Line.prod us → Phrase Line.plus_prods vs → Phrase Line.sum (us ++ vs)
  no_plus : Phrase Line.plus_prods []
  plus : {us vs : List Piece} (o : Op) → line_of o ≡ Rank.sum → Phrase Line.prod us → Phrase Line.plus_prods vs → Phrase Line.plus_prods (sign_of o ∷ (us ++ vs))
  -- prod = unary { ( * | / | % ) unary }
  prod : {us vs : List Piece} → Phrase Line.unary us → Phrase Line.times_unaries vs → Phrase Line.prod (us ++ vs)
  no_times : Phrase Line.times_unaries []
  times : {us vs : List Piece} (o : Op) → line_of o ≡ Rank.prod → Phrase Line.unary us → Phrase Line.times_unaries vs
      → Phrase Line.times_unaries (sign_of o ∷ (us ++ vs))
  -- unary = - unary | atom
  minus : {us : List Piece} → Phrase Line.unary us → Phrase Line.unary (pieces.Minus ∷ us)
  unary_atom : {us : List Piece} → Phrase Line.atom us → Phrase Line.unary us
  -- atom = true | false | INT | TEXT | NAME | in ( NAME ) | count ( NAME ) | done ( NAME ) | ( expr )
  atom_true : Phrase Line.atom (pieces.True ∷ [])
  atom_false : Phrase Line.atom (pieces.False ∷ [])
  atom_int : Phrase Line.atom (pieces.Int ∷ [])
  atom_text : Phrase Line.atom (pieces.Text ∷ [])
  atom_name : Phrase Line.atom (pieces.Name ∷ [])
  atom_in : Phrase Line.atom (pieces.In ∷ pieces.OpenParen ∷ pieces.Name ∷ pieces.CloseParen ∷ [])
  atom_count : Phrase Line.atom (pieces.Count ∷ pieces.OpenParen ∷ pieces.Name ∷ pieces.CloseParen ∷ [])
  atom_done : Phrase Line.atom (pieces.Done ∷ pieces.OpenParen ∷ pieces.Name ∷ pieces.CloseParen ∷ [])
  atom_expr : {us : List Piece} → Phrase Line.expr us → Phrase Line.atom (pieces.OpenParen ∷ (us ++ pieces.CloseParen ∷ []))
