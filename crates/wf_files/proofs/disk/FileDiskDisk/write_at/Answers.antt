use Rattle.std.proofs.Common.{length}
use Rattle.wf_files.proofs.Plans.{torn_same}
use Rattle.wf_files.proofs.disk.FileDiskDisk.write_at.Goals as goal

pub returns-in_err-put_bytes-clause-crash : goal.returns-in_err-put_bytes-clause-crash
returns-in_err-put_bytes-clause-crash g c file left = (file, left, torn_same c.args.at (length c.args.bytes.now) file)

pub returns-clause-crash : goal.returns-clause-crash
returns-clause-crash g c file left = (file, left, torn_same c.args.at (length c.args.bytes.now) file)
