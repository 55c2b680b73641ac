use Rattle.std.proofs.Common.{rules, sym, ◌∙◌}
use denote.Enum.Bare.{same_true}
use Rattle.wf_cursor.specs.contracts.piece.Piece.{the_type}
use Rattle.wf_cursor.specs.Pieces.{same_piece}
use Rattle.wf_cursor.proofs.piece.same_piece.Goals as goal

pub returns-clause-value : goal.returns-clause-value
unfolding same_piece
returns-clause-value c = search rules

pub returns-clause-same : goal.returns-clause-same
returns-clause-same c is = same_true the_type (search rules) _ _ (sym c.eq.ensures ∙ is)
