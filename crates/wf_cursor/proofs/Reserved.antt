-- A word is a name exactly where it isn't reserved.
use Rattle.std.proofs.Common.{◌≡◌, Bool, true, false, not, ◌||◌, if◌then◌else◌, refl}
use Rattle.std.specs.Str.{bytes_eq}
use lib.Chars.{codes}
use Rattle.std.proofs.Math.Bool.{or_assoc, or-false}
use Rattle.wf_model.specs.Names.{is_reserved}
use Rattle.wf_cursor.specs.declared.piece.Piece.{Piece}
use Rattle.wf_cursor.specs.declared.piece.Piece.TheVariants as piece
use Rattle.wf_cursor.specs.Pieces.{same_piece, word_piece, state_word, moving_word, value_word, sort_word}
use Rattle.wf_cursor.specs.Laws.{NamesAreNotReserved}

-- the piece is a name exactly where the word is none of these
record IsNameElse (found : Piece) (is_other : Bool) : Type 0 where
  told : same_piece found piece.Name ≡ not is_other

name : IsNameElse piece.Name false
unfolding same_piece
name = record { told = refl }

-- one word more that isn't a name
either : (is_it : Bool) (it : Piece) {rest : Piece} {is_other : Bool} → same_piece it piece.Name ≡ false → IsNameElse rest is_other
    → IsNameElse (if is_it then it else rest) (is_it || is_other)
either true it other rest = record { told = other }
either false it other rest = record { told = rest.told }

pub names_are_not_reserved : NamesAreNotReserved
unfolding same_piece word_piece state_word moving_word value_word sort_word is_reserved
names_are_not_reserved w =
    let all =
    either (bytes_eq w (codes "chart")) piece.Chart refl (
    either (bytes_eq w (codes "unit")) piece.Unit refl (
    either (bytes_eq w (codes "event")) piece.Event refl (
    either (bytes_eq w (codes "var")) piece.Var refl (
    either (bytes_eq w (codes "activity")) piece.Activity refl (
    either (bytes_eq w (codes "at")) piece.At refl (
    either (bytes_eq w (codes "gives")) piece.Gives refl (
    either (bytes_eq w (codes "basic")) piece.Basic refl (
    either (bytes_eq w (codes "or")) piece.Or refl (
    either (bytes_eq w (codes "and")) piece.And refl (
    either (bytes_eq w (codes "from")) piece.From refl (
    either (bytes_eq w (codes "to")) piece.To refl (
    either (bytes_eq w (codes "on")) piece.On refl (
    either (bytes_eq w (codes "if")) piece.If refl (
    either (bytes_eq w (codes "do")) piece.Do refl (
    either (bytes_eq w (codes "raise")) piece.Raise refl (
    either (bytes_eq w (codes "start")) piece.Start refl (
    either (bytes_eq w (codes "true")) piece.True refl (
    either (bytes_eq w (codes "false")) piece.False refl (
    either (bytes_eq w (codes "not")) piece.Not refl (
    either (bytes_eq w (codes "in")) piece.In refl (
    either (bytes_eq w (codes "count")) piece.Count refl (
    either (bytes_eq w (codes "done")) piece.Done refl (
    either (bytes_eq w (codes "bool")) piece.BoolSort refl (
    either (bytes_eq w (codes "int")) piece.IntSort refl (
    either (bytes_eq w (codes "text")) piece.TextSort refl (
    name)))))))))))))))))))))))))) in
    simp or_assoc (simp or-false at all.told)
