use Rattle.std.proofs.Common.{◌∙◌, get_or}
use Rattle.wf_partition.proofs.Shared.{bits_got, unit_there, watched_at}
use Rattle.wf_partition.proofs.UnitTexts.{told_of_known}
use Rattle.wf_partition.proofs.split.append_unit.Goals as goal

pub bounds-all-unit : goal.bounds-all-unit
bounds-all-unit c = unit_there c.args.chart.now c.args.unit.0 c.args.all.now c.requires.all c.requires.within

pub append_part-requires : goal.append_part-requires
append_part-requires c =
    let chart = c.args.chart.now in
    let u = c.args.unit.0 in
    let bits = c.index-all-unit.result in
    let there = unit_there chart u c.args.all.now c.requires.all c.requires.within in
    told_of_known chart u c.in_ok-part.part c.as_slice.result.now c.in_ok-part.ensures
    (c.as_slice.ensures ∙ watched_at chart u (get_or c.args.all.now u bits) (bits_got chart u c.args.all.now bits c.requires.all there))
