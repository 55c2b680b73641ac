use Rattle.std.proofs.Common.{◌+◌, ◌-◌, ◌++◌, length, take, arith, ◌∙◌, subst, length-append}
use Rattle.std.proofs.lemmas.List.{length-take-le}
use borrow.Rule.Slice.PartMut.{post_of}
use Rattle.wf_files.specs.Bytes.{IsRead}
use Rattle.wf_files.proofs.Pieces.{reads_on, reads_front}
use Rattle.wf_files.proofs.whole.read_whole.Goals as goal

pub pieces-preserved : goal.pieces-preserved
pieces-preserved g c =
    let into = c.pieces.into in
    let done = c.pieces.done in
    let count = c.in_ok-count.count in
    let more = c.read_again.new.into in
    let after = post_of done (length into - done) into in
    let held = g.F.ByteFile.held c.args.file.now in
    let within = c.in_ok-count.ensures.bound.0 in
    let read : IsRead held c.in-Some.place count more =
    subst (λ h. IsRead h c.in-Some.place count more) c.pieces.invariant.2 c.in_ok-count.ensures.bytes in
    let piece : IsRead held (c.args.at + done) count more = subst (λ p. IsRead held p count more) c.in-Some.ensures.1 read in (
      omega (arith, within, length-append (take done into) (more ++ after), length-append more after, length-take-le done into c.pieces.invariant.0),
      reads_on held c.args.at done count into (more ++ after) c.pieces.invariant.0 c.pieces.invariant.1
          (reads_front held (c.args.at + done) count more after within piece),
      c.in_ok-count.ensures.same ∙ c.pieces.invariant.2,
    )
