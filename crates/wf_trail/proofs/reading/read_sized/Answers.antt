use Rattle.std.proofs.Common.{◌<◌, length, refl, arith}
use Rattle.wf_disk.proofs.Runs.{cause_none}
use Rattle.wf_trail.proofs.Readings.{short_has_none}
use Rattle.wf_trail.proofs.Crashes.{idle}
use Rattle.wf_trail.proofs.reading.read_sized.Goals as goal

pub returns-then-size-lt-FEWEST_BYTES-clause-kept : goal.returns-then-size-lt-FEWEST_BYTES-clause-kept
returns-then-size-lt-FEWEST_BYTES-clause-kept g c = λ file image.
    let short : length file < 2 = omega (arith, c.requires file image, c.if-size-lt-FEWEST_BYTES.true) in
    short_has_none c.args.part file short

pub returns-then-size-lt-FEWEST_BYTES-clause-cause : goal.returns-then-size-lt-FEWEST_BYTES-clause-cause
returns-then-size-lt-FEWEST_BYTES-clause-cause g c = cause_none _ _ _ refl (λ e. cc e)

pub returns-then-size-lt-FEWEST_BYTES-clause-crash : goal.returns-then-size-lt-FEWEST_BYTES-clause-crash
returns-then-size-lt-FEWEST_BYTES-clause-crash g c = idle _ (g.met.D.Disk.lawful c.args.disk)

pub read_journal-requires : goal.read_journal-requires
read_journal-requires g c = λ file image. omega (arith, c.requires file image, c.if-size-lt-FEWEST_BYTES.false)
