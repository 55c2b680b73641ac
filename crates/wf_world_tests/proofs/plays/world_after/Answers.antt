use Rattle.wf_top.proofs.Fits.{play_fits}
use Rattle.wf_world_tests.proofs.plays.world_after.Goals as goal

pub world_after_lines-requires : goal.world_after_lines-requires
world_after_lines-requires c = play_fits c.args.checked c.args.script.now c.in-Ok.lines c.in-Ok.ensures c.requires.few
