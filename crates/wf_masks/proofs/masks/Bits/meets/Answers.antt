use Rattle.std.proofs.Common.{◌*◌, sym, arith}
use Rattle.wf_masks.proofs.Words.{none_yet, none_meet, some_meet, bits_long}
use Rattle.wf_masks.proofs.masks.Bits.meets.Goals as goal

pub loop-at-init : goal.loop-at-init
loop-at-init g c = λ i lt. absurd (omega arith)

pub loop-at-preserved : goal.loop-at-preserved
loop-at-preserved g c =
    none_yet c.self.inside.words c.other.inside.words c.args.self.now c.args.other.now g.row.W c.loop-at.at (sym c.self.view_is) (sym c.other.view_is) c.self.told c.other.told c.loop-at-test.true
    c.if-has_common.ensures c.loop-at.invariant

pub returns-then-has_common : goal.returns-then-has_common
returns-then-has_common g c =
    some_meet c.self.inside.words c.other.inside.words c.args.self.now c.args.other.now g.row.W c.loop-at.at (sym c.self.view_is) (sym c.other.view_is) c.self.told c.other.told c.loop-at-test.true
    c.if-has_common.ensures

pub returns : goal.returns
returns g c = none_meet c.args.self.now c.args.other.now (64 * g.row.W) (bits_long c.self.inside.words c.args.self.now g.row.W (sym c.self.view_is) c.self.told) (λ i lt. c.loop-at.invariant i (omega arith))
