use Rattle.std.proofs.Common.{◌≡◌, drop, length}
use Rattle.wf_effects.specs.Numbers.{numbers}
use Rattle.wf_effects.specs.Performing.{fired_all}
use Rattle.wf_effects.proofs.gathered.Gathered.fire_all.Given as goal

abbrev pub invariant-loop-trans : goal.invariant-loop-trans
invariant-loop-trans g l = record {
  rest : fired_all l.chart (g.S.Snapshot.seen l.snap) (numbers (drop l.trans-index l.fired)) l.self ≡ fired_all l.chart (g.S.Snapshot.seen l.snap) (numbers l.fired) l.initial.self;
  vars : length l.self.store ≡ length l.initial.self.store;
  events : length l.self.raised ≡ length l.initial.self.raised;
}
