-- The tables of operators that the reader goes by, and the operators of each line of the grammar.
use Rattle.std.proofs.Common.{◌≡◌, Option, Some, None, refl, subst, ap}
use Rattle.wf_model.specs.declared.expr.Op.{Op}
use Rattle.wf_model.specs.declared.expr.Op.TheVariants as op
use Rattle.wf_cursor.specs.declared.piece.Piece.{Piece}
use Rattle.wf_cursor.specs.declared.piece.Piece.TheVariants as pieces
use Rattle.wf_phrase.specs.Operators.{or_operator, and_operator, comparison, sum_operator, product_operator}
use Rattle.wf_grammar.specs.Phrases.{Rank, sign_of, line_of}
use Rattle.wf_grammar.specs.Laws.{IsNoOperator}

-- the operator of a piece, at this line
abbrev pub HasSign : Rank → Op → Piece → Type 0
HasSign rank o p = (line_of o ≡ rank) × (p ≡ sign_of o)

moved : (rank : Rank) (p : Piece) (a o : Op) → HasSign rank a p → Some a ≡ Some o → HasSign rank o p
moved rank p a o has h = let same : a ≡ o = cc in subst (λ (b : Op). HasSign rank b p) same has

-- ---- what a table finds is an operator of the line

pub or_has_sign : (p : Piece) (o : Op) → or_operator (Some p) ≡ Some o → HasSign Rank.expr o p
unfolding or_operator
or_has_sign pieces.Or o h = moved Rank.expr pieces.Or op.Or o (refl, refl) h
or_has_sign _ o h = cc

pub and_has_sign : (p : Piece) (o : Op) → and_operator (Some p) ≡ Some o → HasSign Rank.conj o p
unfolding and_operator
and_has_sign pieces.And o h = moved Rank.conj pieces.And op.And o (refl, refl) h
and_has_sign _ o h = cc

pub comparison_has_sign : (p : Piece) (o : Op) → comparison (Some p) ≡ Some o → HasSign Rank.comp o p
unfolding comparison
comparison_has_sign pieces.Equal o h = moved Rank.comp pieces.Equal op.Eq o (refl, refl) h
comparison_has_sign pieces.NotEqual o h = moved Rank.comp pieces.NotEqual op.Ne o (refl, refl) h
comparison_has_sign pieces.Less o h = moved Rank.comp pieces.Less op.Lt o (refl, refl) h
comparison_has_sign pieces.AtMost o h = moved Rank.comp pieces.AtMost op.Le o (refl, refl) h
comparison_has_sign pieces.Greater o h = moved Rank.comp pieces.Greater op.Gt o (refl, refl) h
comparison_has_sign pieces.AtLeast o h = moved Rank.comp pieces.AtLeast op.Ge o (refl, refl) h
comparison_has_sign _ o h = cc

pub sum_has_sign : (p : Piece) (o : Op) → sum_operator (Some p) ≡ Some o → HasSign Rank.sum o p
unfolding sum_operator
sum_has_sign pieces.Plus o h = moved Rank.sum pieces.Plus op.Add o (refl, refl) h
sum_has_sign pieces.Minus o h = moved Rank.sum pieces.Minus op.Sub o (refl, refl) h
sum_has_sign _ o h = cc

pub product_has_sign : (p : Piece) (o : Op) → product_operator (Some p) ≡ Some o → HasSign Rank.prod o p
unfolding product_operator
product_has_sign pieces.Star o h = moved Rank.prod pieces.Star op.Mul o (refl, refl) h
product_has_sign pieces.Slash o h = moved Rank.prod pieces.Slash op.Div o (refl, refl) h
product_has_sign pieces.Percent o h = moved Rank.prod pieces.Percent op.Rem o (refl, refl) h
product_has_sign _ o h = cc

-- ---- and each operator of the line is found

or_finds : (o : Op) → line_of o ≡ Rank.expr → or_operator (Some (sign_of o)) ≡ Some o
unfolding or_operator
or_finds op.Or h = refl
or_finds _ h = cc

and_finds : (o : Op) → line_of o ≡ Rank.conj → and_operator (Some (sign_of o)) ≡ Some o
unfolding and_operator
and_finds op.And h = refl
and_finds _ h = cc

comparison_finds : (o : Op) → line_of o ≡ Rank.comp → comparison (Some (sign_of o)) ≡ Some o
unfolding comparison
comparison_finds op.Eq h = refl
comparison_finds op.Ne h = refl
comparison_finds op.Lt h = refl
comparison_finds op.Le h = refl
comparison_finds op.Gt h = refl
comparison_finds op.Ge h = refl
comparison_finds _ h = cc

sum_finds : (o : Op) → line_of o ≡ Rank.sum → sum_operator (Some (sign_of o)) ≡ Some o
unfolding sum_operator
sum_finds op.Add h = refl
sum_finds op.Sub h = refl
sum_finds _ h = cc

product_finds : (o : Op) → line_of o ≡ Rank.prod → product_operator (Some (sign_of o)) ≡ Some o
unfolding product_operator
product_finds op.Mul h = refl
product_finds op.Div h = refl
product_finds op.Rem h = refl
product_finds _ h = cc

pub or_found : (p : Piece) (o : Op) → line_of o ≡ Rank.expr → p ≡ sign_of o → or_operator (Some p) ≡ Some o
or_found p o line sign = rw sign (or_finds o line)

pub and_found : (p : Piece) (o : Op) → line_of o ≡ Rank.conj → p ≡ sign_of o → and_operator (Some p) ≡ Some o
and_found p o line sign = rw sign (and_finds o line)

pub comparison_found : (p : Piece) (o : Op) → line_of o ≡ Rank.comp → p ≡ sign_of o → comparison (Some p) ≡ Some o
comparison_found p o line sign = rw sign (comparison_finds o line)

pub sum_found : (p : Piece) (o : Op) → line_of o ≡ Rank.sum → p ≡ sign_of o → sum_operator (Some p) ≡ Some o
sum_found p o line sign = rw sign (sum_finds o line)

pub product_found : (p : Piece) (o : Op) → line_of o ≡ Rank.prod → p ≡ sign_of o → product_operator (Some p) ≡ Some o
product_found p o line sign = rw sign (product_finds o line)

-- ---- no table finds an operator where there is none

none_found : (table : Option Piece → Option Op) → table None ≡ None → (rank : Rank) → ((p : Piece) (o : Op) → table (Some p) ≡ Some o → HasSign rank o p)
    → (p : Option Piece) → IsNoOperator p → table p ≡ None
none_found table empty rank has None none = empty
none_found table empty rank has (Some p) none = by_found (table (Some p)) refl
  where
    by_found : (found : Option Op) → table (Some p) ≡ found → table (Some p) ≡ None
    by_found None is = is
    by_found (Some o) is = let sign = (has p o is).1 in absurd (none o (ap Some sign))

pub no_or : (p : Option Piece) → IsNoOperator p → or_operator p ≡ None
unfolding or_operator
no_or = none_found or_operator refl Rank.expr or_has_sign

pub no_and : (p : Option Piece) → IsNoOperator p → and_operator p ≡ None
unfolding and_operator
no_and = none_found and_operator refl Rank.conj and_has_sign

pub no_comparison : (p : Option Piece) → IsNoOperator p → comparison p ≡ None
unfolding comparison
no_comparison = none_found comparison refl Rank.comp comparison_has_sign

pub no_sum : (p : Option Piece) → IsNoOperator p → sum_operator p ≡ None
unfolding sum_operator
no_sum = none_found sum_operator refl Rank.sum sum_has_sign

pub no_product : (p : Option Piece) → IsNoOperator p → product_operator p ≡ None
unfolding product_operator
no_product = none_found product_operator refl Rank.prod product_has_sign
