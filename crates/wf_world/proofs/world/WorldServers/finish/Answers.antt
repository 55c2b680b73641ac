use Rattle.std.proofs.Common.{false, subst}
use Rattle.wf_world.specs.States.{Kept, state_of, Finishes}
use Rattle.wf_world.proofs.Worlds.{kept, finishes, stands_after}
use Rattle.wf_world.proofs.world.WorldServers.finish.Goals as goal

pub finish-requires-clause-worn : goal.finish-requires-clause-worn
finish-requires-clause-worn c = let stands = c.self.invariant c.if-self.false in (c.self.inside.acted, stands.few, stands.worn)

pub invariant_of-self-2 : goal.invariant_of-self-2
invariant_of-self-2 c = λ e. stands_after c.self.inside.fleet c.finish.new.self c.self.inside.acted (c.self.invariant c.if-self.false) c.in_ok-ending.ensures.fleet c.in_ok-ending.ensures.wear

pub returns-clause-ended : goal.returns-clause-ended
returns-clause-ended c =
    let g = c.finish.new.self in
    let n = c.self.inside.acted in
    subst (λ (k : Kept). Finishes (state_of k) c.in_ok-ending.ending (state_of (kept g n false))) c.self.view_is (finishes c.self.inside.fleet g n c.self.inside.lost c.in_ok-ending.ending c.in_ok-ending.ensures.chart c.in_ok-ending.ensures.ended)
