-- A rule that begins with any number of one token, by whether that token comes next.
use Rattle.std.proofs.Common.{◌≡◌, ℕ, zero, suc, Bool, true, false, refl}
use Rattle.wf_model.specs.declared.expr.Expr.{Expr}
use Rattle.wf_model.specs.declared.expr.Expr.TheVariants as e
use Rattle.wf_cursor.specs.declared.piece.Piece.TheVariants as pieces
use Rattle.wf_cursor.specs.Input.{Input, Parser, ◌>>=◌, ◌>>◌, pure, take, sees, node}
use Rattle.wf_phrase.specs.Expressions.{atom, unary_from, comp, neg_from}

pub unary_stops : (depth : ℕ) (nested : Parser Expr) (n : ℕ) (i : Input) (found : Bool) → found ≡ sees pieces.Minus i → found ≡ false → unary_from depth nested n i ≡ atom depth nested i
unfolding unary_from
unary_stops depth nested zero i found is_seen absent = refl
unary_stops depth nested (suc n) i found is_seen absent = rw (← is_seen) (rw absent refl)

pub unary_goes_on : (depth : ℕ) (nested : Parser Expr) (n m : ℕ) (i : Input) (found : Bool) → found ≡ sees pieces.Minus i → found ≡ true → n ≡ suc m
    → unary_from depth nested n i ≡ (node >> (take >> (unary_from depth nested m >>= (λ x. pure (e.Neg x))))) i
unfolding unary_from
unary_goes_on depth nested n m i found is_seen present is = rw is (rw (← is_seen) (rw present refl))

pub neg_stops : (depth : ℕ) (nested : Parser Expr) (n : ℕ) (i : Input) (found : Bool) → found ≡ sees pieces.Not i → found ≡ false → neg_from depth nested n i ≡ comp depth nested i
unfolding neg_from
neg_stops depth nested zero i found is_seen absent = refl
neg_stops depth nested (suc n) i found is_seen absent = rw (← is_seen) (rw absent refl)

pub neg_goes_on : (depth : ℕ) (nested : Parser Expr) (n m : ℕ) (i : Input) (found : Bool) → found ≡ sees pieces.Not i → found ≡ true → n ≡ suc m
    → neg_from depth nested n i ≡ (node >> (take >> (neg_from depth nested m >>= (λ x. pure (e.Not x))))) i
unfolding neg_from
neg_goes_on depth nested n m i found is_seen present is = rw is (rw (← is_seen) (rw present refl))
