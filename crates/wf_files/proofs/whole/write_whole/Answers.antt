use Rattle.std.proofs.Common.{arith}
use Rattle.std.proofs.lemmas.List.{take_rest, length-drop}
use Rattle.wf_files.proofs.Pieces.{puts_on}
use Rattle.wf_files.proofs.whole.write_whole.Goals as goal

pub pieces-preserved : goal.pieces-preserved
pieces-preserved g c =
    let rest = take_rest c.args.bytes.now c.pieces.done in
    let bound = rw rest at c.in_ok-count.ensures.bound in
    let wrote = rw rest at c.in_ok-count.ensures.bytes in (
      omega (arith, bound, length-drop c.pieces.done c.args.bytes.now),
      puts_on (g.F.ByteFile.held c.args.file.now) (g.F.ByteFile.held c.pieces.file) (g.F.ByteFile.held c.write_again.new.file)
          c.args.at c.pieces.done c.in_ok-count.count c.args.bytes.now c.pieces.invariant.0 c.pieces.invariant.1 wrote,
    )
