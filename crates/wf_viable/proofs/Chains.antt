-- The lines of expressions that are chains, as what chains are made of.
use Rattle.std.proofs.Common.{◌≡◌, ◌⊎◌, inl, inr, List, [], ◌∷◌, ◌++◌, Some, refl, sym, ◌∙◌, ap, subst, append_assoc, append-nil}
use Rattle.wf_model.specs.declared.expr.Op.{Op}
use Rattle.wf_cursor.specs.declared.piece.Piece.{Piece}
use Rattle.wf_cursor.specs.declared.piece.Piece.TheVariants as pieces
use Rattle.wf_phrase.specs.Operators.{or_operator, and_operator, comparison, sum_operator, product_operator}
use Rattle.wf_grammar.specs.Phrases.{Rank, sign_of, line_of}
use Rattle.wf_grammar.proofs.Tables.{or_has_sign, and_has_sign, comparison_has_sign, sum_has_sign, product_has_sign, or_found, and_found, comparison_found, sum_found, product_found}
use Rattle.wf_viable.specs.Shapes.{first, ◌·◌}
use Rattle.wf_viable.specs.Expressions as phrase
use Rattle.wf_viable.specs.Expressions.{Line, Phrase}
use Rattle.wf_viable.proofs.Turns.{Table, Turns, Turned}

-- ---- the tables of operators

pub or_table : Table Rank.expr or_operator
unfolding or_operator
or_table = record { at_end = refl; has_sign = or_has_sign; finds = or_found }

pub and_table : Table Rank.conj and_operator
unfolding and_operator
and_table = record { at_end = refl; has_sign = and_has_sign; finds = and_found }

pub comparison_table : Table Rank.comp comparison
unfolding comparison
comparison_table = record { at_end = refl; has_sign = comparison_has_sign; finds = comparison_found }

pub sum_table : Table Rank.sum sum_operator
unfolding sum_operator
sum_table = record { at_end = refl; has_sign = sum_has_sign; finds = sum_found }

pub product_table : Table Rank.prod product_operator
unfolding product_operator
product_table = record { at_end = refl; has_sign = product_has_sign; finds = product_found }

-- ---- what is repeated

or_cases : (ws : List Piece) → Phrase Line.or_conjs ws → (ws ≡ []) ⊎ Turned Rank.expr (Phrase Line.conj) (Phrase Line.or_conjs) ws
or_cases ws phrase.no_or = inl refl
or_cases ws (phrase.or {us = us} {vs = vs} o line a b) = inr (record { operator = o; line = line; us = us; vs = vs; whole = refl; is_operand = a; is_more = b })

pub or_turns : Turns Rank.expr (Phrase Line.conj) (Phrase Line.or_conjs) (Phrase Line.or_conjs)
or_turns = record { ends = phrase.no_or; turns = λ o us vs line a b. phrase.or o line a b; cases = or_cases }

and_cases : (ws : List Piece) → Phrase Line.and_negs ws → (ws ≡ []) ⊎ Turned Rank.conj (Phrase Line.neg) (Phrase Line.and_negs) ws
and_cases ws phrase.no_and = inl refl
and_cases ws (phrase.and {us = us} {vs = vs} o line a b) = inr (record { operator = o; line = line; us = us; vs = vs; whole = refl; is_operand = a; is_more = b })

pub and_turns : Turns Rank.conj (Phrase Line.neg) (Phrase Line.and_negs) (Phrase Line.and_negs)
and_turns = record { ends = phrase.no_and; turns = λ o us vs line a b. phrase.and o line a b; cases = and_cases }

sum_cases : (ws : List Piece) → Phrase Line.plus_prods ws → (ws ≡ []) ⊎ Turned Rank.sum (Phrase Line.prod) (Phrase Line.plus_prods) ws
sum_cases ws phrase.no_plus = inl refl
sum_cases ws (phrase.plus {us = us} {vs = vs} o line a b) = inr (record { operator = o; line = line; us = us; vs = vs; whole = refl; is_operand = a; is_more = b })

pub sum_turns : Turns Rank.sum (Phrase Line.prod) (Phrase Line.plus_prods) (Phrase Line.plus_prods)
sum_turns = record { ends = phrase.no_plus; turns = λ o us vs line a b. phrase.plus o line a b; cases = sum_cases }

product_cases : (ws : List Piece) → Phrase Line.times_unaries ws → (ws ≡ []) ⊎ Turned Rank.prod (Phrase Line.unary) (Phrase Line.times_unaries) ws
product_cases ws phrase.no_times = inl refl
product_cases ws (phrase.times {us = us} {vs = vs} o line a b) = inr (record { operator = o; line = line; us = us; vs = vs; whole = refl; is_operand = a; is_more = b })

pub product_turns : Turns Rank.prod (Phrase Line.unary) (Phrase Line.times_unaries) (Phrase Line.times_unaries)
product_turns = record { ends = phrase.no_times; turns = λ o us vs line a b. phrase.times o line a b; cases = product_cases }

-- [ ( = | != | < | <= | > | >= ) sum ]
pub data Compared : List Piece → Type 0 where
  not_compared : Compared []
  compared : {us : List Piece} (o : Op) → line_of o ≡ Rank.comp → Phrase Line.sum us → Compared (sign_of o ∷ us)

-- nothing
pub data Empty : List Piece → Type 0 where
  empty : Empty []

comparison_turns_more : (o : Op) (us vs : List Piece) → line_of o ≡ Rank.comp → Phrase Line.sum us → Empty vs → Compared (sign_of o ∷ (us ++ vs))
comparison_turns_more o us vs line a Empty.empty = subst Compared (ap (λ x. sign_of o ∷ x) (sym (append-nil us))) (Compared.compared o line a)

comparison_cases : (ws : List Piece) → Compared ws → (ws ≡ []) ⊎ Turned Rank.comp (Phrase Line.sum) Empty ws
comparison_cases ws Compared.not_compared = inl refl
comparison_cases ws (Compared.compared {us = us} o line a) =
    inr (record { operator = o; line = line; us = us; vs = []; whole = ap (λ x. sign_of o ∷ x) (sym (append-nil us)); is_operand = a; is_more = Empty.empty })

pub comparison_turns : Turns Rank.comp (Phrase Line.sum) Empty Compared
comparison_turns = record { ends = Compared.not_compared; turns = comparison_turns_more; cases = comparison_cases }

-- ---- a chain is its first operand and what is repeated

pub expr_wider : (us : List Piece) → (Phrase Line.conj · Phrase Line.or_conjs) us → Phrase Line.expr us
expr_wider us both = subst (Phrase Line.expr) (sym both.whole) (phrase.expr both.is_front both.is_back)

pub expr_narrower : (us : List Piece) → Phrase Line.expr us → (Phrase Line.conj · Phrase Line.or_conjs) us
expr_narrower ws (phrase.expr {us = us} {vs = vs} a b) = record { front = us; back = vs; whole = refl; is_front = a; is_back = b }

pub conj_wider : (us : List Piece) → (Phrase Line.neg · Phrase Line.and_negs) us → Phrase Line.conj us
conj_wider us both = subst (Phrase Line.conj) (sym both.whole) (phrase.conj both.is_front both.is_back)

pub conj_narrower : (us : List Piece) → Phrase Line.conj us → (Phrase Line.neg · Phrase Line.and_negs) us
conj_narrower ws (phrase.conj {us = us} {vs = vs} a b) = record { front = us; back = vs; whole = refl; is_front = a; is_back = b }

pub sum_wider : (us : List Piece) → (Phrase Line.prod · Phrase Line.plus_prods) us → Phrase Line.sum us
sum_wider us both = subst (Phrase Line.sum) (sym both.whole) (phrase.sum both.is_front both.is_back)

pub sum_narrower : (us : List Piece) → Phrase Line.sum us → (Phrase Line.prod · Phrase Line.plus_prods) us
sum_narrower ws (phrase.sum {us = us} {vs = vs} a b) = record { front = us; back = vs; whole = refl; is_front = a; is_back = b }

pub prod_wider : (us : List Piece) → (Phrase Line.unary · Phrase Line.times_unaries) us → Phrase Line.prod us
prod_wider us both = subst (Phrase Line.prod) (sym both.whole) (phrase.prod both.is_front both.is_back)

pub prod_narrower : (us : List Piece) → Phrase Line.prod us → (Phrase Line.unary · Phrase Line.times_unaries) us
prod_narrower ws (phrase.prod {us = us} {vs = vs} a b) = record { front = us; back = vs; whole = refl; is_front = a; is_back = b }

pub comp_wider : (us : List Piece) → (Phrase Line.sum · Compared) us → Phrase Line.comp us
comp_wider us both = subst (Phrase Line.comp) (sym both.whole) (by_case both.front both.back both.is_front both.is_back)
  where
    by_case : (a b : List Piece) → Phrase Line.sum a → Compared b → Phrase Line.comp (a ++ b)
    by_case a b shaped Compared.not_compared = subst (Phrase Line.comp) (sym (append-nil a)) (phrase.comp_sum shaped)
    by_case a b shaped (Compared.compared o line c) = phrase.comp_both o line shaped c

pub comp_narrower : (us : List Piece) → Phrase Line.comp us → (Phrase Line.sum · Compared) us
comp_narrower us (phrase.comp_sum a) = record { front = us; back = []; whole = sym (append-nil us); is_front = a; is_back = Compared.not_compared }
comp_narrower ws (phrase.comp_both {us = us} {vs = vs} o line a b) = record { front = us; back = sign_of o ∷ vs; whole = refl; is_front = a; is_back = Compared.compared o line b }

-- ---- none of them begins with `not`

unary_with_not : (us vs : List Piece) → Phrase Line.unary us → first (us ++ vs) ≡ Some pieces.Not → ⊥
unary_with_not us vs (phrase.minus shaped) is = cc
unary_with_not us vs (phrase.unary_atom phrase.atom_true) is = cc
unary_with_not us vs (phrase.unary_atom phrase.atom_false) is = cc
unary_with_not us vs (phrase.unary_atom phrase.atom_int) is = cc
unary_with_not us vs (phrase.unary_atom phrase.atom_text) is = cc
unary_with_not us vs (phrase.unary_atom phrase.atom_name) is = cc
unary_with_not us vs (phrase.unary_atom phrase.atom_in) is = cc
unary_with_not us vs (phrase.unary_atom phrase.atom_count) is = cc
unary_with_not us vs (phrase.unary_atom phrase.atom_done) is = cc
unary_with_not us vs (phrase.unary_atom (phrase.atom_expr inner)) is = cc

prod_with_not : (us vs : List Piece) → Phrase Line.prod us → first (us ++ vs) ≡ Some pieces.Not → ⊥
prod_with_not ws more (phrase.prod {us = us} {vs = vs} a b) is = unary_with_not us (vs ++ more) a (ap first (sym (append_assoc us vs more)) ∙ is)

sum_with_not : (us vs : List Piece) → Phrase Line.sum us → first (us ++ vs) ≡ Some pieces.Not → ⊥
sum_with_not ws more (phrase.sum {us = us} {vs = vs} a b) is = prod_with_not us (vs ++ more) a (ap first (sym (append_assoc us vs more)) ∙ is)

pub comp_with_not : (us vs : List Piece) → Phrase Line.comp us → first (us ++ vs) ≡ Some pieces.Not → ⊥
comp_with_not us vs (phrase.comp_sum a) is = sum_with_not us vs a is
comp_with_not ws more (phrase.comp_both {us = us} {vs = vs} o line a b) is = sum_with_not us ((sign_of o ∷ vs) ++ more) a (ap first (sym (append_assoc us (sign_of o ∷ vs) more)) ∙ is)
