-- What may follow a phrase of each line of the grammar: no operator that the line or one below it goes on with.
use Rattle.std.proofs.Common.{◌≡◌, Option, Some, None, refl}
use Rattle.wf_model.specs.declared.expr.Op.{Op}
use Rattle.wf_cursor.specs.declared.piece.Piece.{Piece}
use Rattle.wf_cursor.specs.declared.piece.Piece.TheVariants as pieces
use Rattle.wf_phrase.specs.Operators.{or_operator, and_operator, comparison, sum_operator, product_operator}
use Rattle.wf_grammar.specs.Laws.{IsNoOperator}
use Rattle.wf_grammar.proofs.Tables.{no_or, no_and, no_comparison, no_sum, no_product}
use Rattle.wf_grammar.proofs.Reading.{Follow}

abbrev pub Anything : Follow
Anything p = Unit {0}

abbrev pub EndsProd : Follow
EndsProd p = Anything p × (product_operator p ≡ None)

abbrev pub EndsSum : Follow
EndsSum p = EndsProd p × (sum_operator p ≡ None)

abbrev pub EndsComp : Follow
EndsComp p = EndsSum p × (comparison p ≡ None)

abbrev pub EndsConj : Follow
EndsConj p = EndsComp p × (and_operator p ≡ None)

abbrev pub EndsExpr : Follow
EndsExpr p = EndsConj p × (or_operator p ≡ None)

-- the operators of each line end the phrases of the lines below it
pub sum_ends : (p : Piece) (op : Op) → sum_operator (Some p) ≡ Some op → EndsProd (Some p)
unfolding sum_operator product_operator
sum_ends pieces.Plus op h = (tt, refl)
sum_ends pieces.Minus op h = (tt, refl)
sum_ends _ op h = cc

pub comparison_ends : (p : Piece) (op : Op) → comparison (Some p) ≡ Some op → EndsSum (Some p)
unfolding comparison sum_operator product_operator
comparison_ends pieces.Equal op h = ((tt, refl), refl)
comparison_ends pieces.NotEqual op h = ((tt, refl), refl)
comparison_ends pieces.Less op h = ((tt, refl), refl)
comparison_ends pieces.AtMost op h = ((tt, refl), refl)
comparison_ends pieces.Greater op h = ((tt, refl), refl)
comparison_ends pieces.AtLeast op h = ((tt, refl), refl)
comparison_ends _ op h = cc

pub and_ends : (p : Piece) (op : Op) → and_operator (Some p) ≡ Some op → EndsComp (Some p)
unfolding and_operator comparison sum_operator product_operator
and_ends pieces.And op h = (((tt, refl), refl), refl)
and_ends _ op h = cc

pub or_ends : (p : Piece) (op : Op) → or_operator (Some p) ≡ Some op → EndsConj (Some p)
unfolding or_operator and_operator comparison sum_operator product_operator
or_ends pieces.Or op h = ((((tt, refl), refl), refl), refl)
or_ends _ op h = cc

-- a closing parenthesis ends each phrase
pub close_ends : (p : Piece) → p ≡ pieces.CloseParen → EndsExpr (Some p)
unfolding or_operator and_operator comparison sum_operator product_operator
close_ends p is = rw is (((((tt, refl), refl), refl), refl), refl)

pub no_operator_ends : (p : Option Piece) → IsNoOperator p → EndsExpr p
no_operator_ends p none = (((((tt, no_product p none), no_sum p none), no_comparison p none), no_and p none), no_or p none)
