use Rattle.wf_trail.proofs.shelf.is_a_disk.Goals as goal

pub returns : goal.returns
returns g c = g.met.D.Disk.lawful c.args.disk.now
