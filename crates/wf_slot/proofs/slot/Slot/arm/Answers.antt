use Rattle.std.proofs.Common.{Some, refl, ap}
use Rattle.wf_disk.specs.Memory.{Held, armed}
use Rattle.wf_slot.specs.declared.slot.Slot.TheInside.{Inside}
use Rattle.wf_slot.proofs.Seats.{not_away}
use Rattle.wf_slot.proofs.Arming.{armed_fused, up_slot, up_state, down_slot, down_state}
use Rattle.wf_slot.proofs.slot.Slot.arm.Goals as goal
use Rattle.wf_slot.proofs.slot.Slot.arm.Goals.{in-Up, in-Down}

pub unreachable-requires : goal.unreachable-requires
unreachable-requires c = not_away _ _ _ c.self.invariant c.in-Away.is

pub unreachable-unreachable : goal.unreachable-unreachable
unreachable-unreachable c = c.unreachable.result

pub invariant_of-self : goal.invariant_of-self
invariant_of-self c =
    elim c.match-self.branch [
      | in-Up w ↦
          up_slot (λ d. armed d c.args.stroke c.args.what) (λ d. refl) (λ d file may. may) c.self.inside.fuse (Some (record { left = c.args.stroke; what = c.args.what }))
          (armed_fused c.self.inside.fuse c.args.stroke c.args.what c.requires.number.0 c.requires.number.1) c.self.inside.seat c.self.inside.doubt _ c.self.view_is c.self.invariant c.requires.early
          _ _ (ap (λ (s : Inside). s.doubt) w.self-inside-is) w.in-Up.node _ w.in-Up.is w.arm.ensures (ap (λ (s : Inside). s.seat) w.self-inside-is)
      | in-Down w ↦
          down_slot (λ d. armed d c.args.stroke c.args.what) (λ d. refl) (λ d file may. may) c.self.inside.fuse (Some (record { left = c.args.stroke; what = c.args.what }))
          (armed_fused c.self.inside.fuse c.args.stroke c.args.what c.requires.number.0 c.requires.number.1) c.self.inside.seat c.self.inside.doubt _ c.self.view_is c.self.invariant c.requires.early
          _ _ (ap (λ (s : Inside). s.doubt) w.self-inside-is) w.in-Down.remains _ w.in-Down.is (ap (λ (d : Held). record w.in-Down.remains { disk = d }) w.arm-in-Down.ensures) (ap (λ (s : Inside). s.seat) w.self-inside-is)
    ]

pub returns : goal.returns
returns c =
    elim c.match-self.branch [
      | in-Up w ↦
          up_state (λ d. armed d c.args.stroke c.args.what) (λ d. refl) (λ d file may. may) c.self.inside.fuse (Some (record { left = c.args.stroke; what = c.args.what }))
          (armed_fused c.self.inside.fuse c.args.stroke c.args.what c.requires.number.0 c.requires.number.1) c.self.inside.seat c.self.inside.doubt _ c.self.view_is c.self.invariant c.requires.early
          _ _ (ap (λ (s : Inside). s.doubt) w.self-inside-is) w.in-Up.node _ w.in-Up.is w.arm.ensures (ap (λ (s : Inside). s.seat) w.self-inside-is)
      | in-Down w ↦
          down_state (λ d. armed d c.args.stroke c.args.what) (λ d. refl) (λ d file may. may) c.self.inside.fuse (Some (record { left = c.args.stroke; what = c.args.what }))
          (armed_fused c.self.inside.fuse c.args.stroke c.args.what c.requires.number.0 c.requires.number.1) c.self.inside.seat c.self.inside.doubt _ c.self.view_is c.self.invariant c.requires.early
          _ _ (ap (λ (s : Inside). s.doubt) w.self-inside-is) w.in-Down.remains _ w.in-Down.is (ap (λ (d : Held). record w.in-Down.remains { disk = d }) w.arm-in-Down.ensures) (ap (λ (s : Inside). s.seat) w.self-inside-is)
    ]
