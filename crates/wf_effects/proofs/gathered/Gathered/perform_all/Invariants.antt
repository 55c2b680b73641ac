use Rattle.std.proofs.Common.{◌≡◌, drop, length}
use Rattle.wf_effects.specs.Performing.{performed_all}
use Rattle.wf_effects.proofs.gathered.Gathered.perform_all.Given as goal

abbrev pub invariant-loop-place : goal.invariant-loop-place
invariant-loop-place g l = record {
  rest : performed_all (g.S.Snapshot.seen l.snap) l.trans.0 l.place (drop l.place l.actions) l.self ≡ performed_all (g.S.Snapshot.seen l.snap) l.trans.0 0 l.actions l.initial.self;
  vars : length l.self.store ≡ length l.initial.self.store;
  events : length l.self.raised ≡ length l.initial.self.raised;
}
