use Rattle.std.proofs.Common.{false, ◌+◌, [], ◌∷◌, sym, subst}
use Rattle.wf_world.specs.States.{Kept, state_of, DoFit, Acts}
use Rattle.wf_world.proofs.Worlds.{kept, have_room, stands_on, does}
use Rattle.wf_world.proofs.world.WorldServers.act.Goals as goal

pub act-requires-clause-room : goal.act-requires-clause-room
act-requires-clause-room c =
    let fit = subst (λ (k : Kept). DoFit (state_of k) (c.args.line.now ∷ [])) (sym c.self.view_is) c.requires in
    have_room c.self.inside.fleet c.self.inside.acted (c.self.invariant c.if-self.false) fit.0

pub invariant_of-self-2 : goal.invariant_of-self-2
invariant_of-self-2 c =
    λ e.
    let fit = subst (λ (k : Kept). DoFit (state_of k) (c.args.line.now ∷ [])) (sym c.self.view_is) c.requires in
    stands_on c.self.inside.fleet c.act.new.self c.self.inside.acted c.args.line.now c.in_ok-reply.reply (c.self.invariant c.if-self.false) fit.0 c.in_ok-reply.ensures.led c.in_ok-reply.ensures.wear

pub returns-clause-acted : goal.returns-clause-acted
returns-clause-acted c =
    let g = c.act.new.self in
    let n = c.self.inside.acted in
    subst (λ (k : Kept). Acts (state_of k) c.args.line.now c.in_ok-reply.reply (state_of (kept g (n + 1) false))) c.self.view_is (does c.self.inside.fleet g n c.self.inside.lost c.args.line.now c.in_ok-reply.reply c.in_ok-reply.ensures.led)
