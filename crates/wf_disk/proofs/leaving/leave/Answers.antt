use Rattle.std.proofs.Common.{arith, vec_capacity}
use Rattle.wf_disk.proofs.Replays.{first_fits, front_fits, later_fits, lost_within, torn_left}
use Rattle.wf_disk.proofs.leaving.leave.Goals as goal

pub lose-requires-clause-room : goal.lose-requires-clause-room
lose-requires-clause-room c = first_fits c.args.first.now c.args.image.now.items c.args.history.now.strokes 0 (vec_capacity c.args.image.now) c.requires.replayed c.requires.fit (omega arith)

pub lose-requires-clause-fit : goal.lose-requires-clause-fit
lose-requires-clause-fit c =
    front_fits c.args.first.now c.args.image.now.items c.args.history.now.strokes c.args.history.now.synced (vec_capacity c.args.image.now) c.requires.replayed c.requires.fit (omega arith)

pub lose-requires-in-Torn-clause-room : goal.lose-requires-in-Torn-clause-room
lose-requires-in-Torn-clause-room c =
    first_fits c.args.first.now c.args.image.now.items c.args.history.now.strokes 0 (vec_capacity c.args.image.now) c.requires.replayed c.requires.fit (omega arith)

pub lose-requires-in-Torn-clause-fit : goal.lose-requires-in-Torn-clause-fit
lose-requires-in-Torn-clause-fit c =
    front_fits c.args.first.now c.args.image.now.items c.args.history.now.strokes c.args.history.now.synced (vec_capacity c.args.image.now) c.requires.replayed c.requires.fit (omega arith)

pub tear_unsynced-requires : goal.tear_unsynced-requires
tear_unsynced-requires c =
    later_fits c.args.first.now c.args.image.now.items c.args.history.now.strokes c.args.history.now.synced (vec_capacity c.args.image.now) c.requires.replayed c.requires.fit (omega arith)
    c.lose-in-Torn.new.image.items (vec_capacity c.lose-in-Torn.new.image) c.lose-in-Torn.ensures.image c.lose-in-Torn.ensures.capacity

pub returns-in-Lose-clause-size : goal.returns-in-Lose-clause-size
returns-in-Lose-clause-size c =
    lost_within c.args.first.now c.args.image.now.items c.args.history.now.strokes c.args.history.now.synced (vec_capacity c.args.image.now) c.requires.replayed c.requires.fit (omega arith)
    c.lose.new.image.items c.lose.ensures.image

pub returns-in-Torn-clause-size : goal.returns-in-Torn-clause-size
returns-in-Torn-clause-size c =
    torn_left c.args.first.now c.args.image.now.items c.args.history.now.strokes c.args.history.now.synced (vec_capacity c.args.image.now) c.requires.replayed c.requires.fit (omega arith)
    c.lose-in-Torn.new.image.items c.tear_unsynced.new.image.items c.lose-in-Torn.ensures.image c.tear_unsynced.ensures.image
