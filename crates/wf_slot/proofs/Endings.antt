-- What an end does to a unit is what it does to the server that counts for it.
use Rattle.std.proofs.Common.{◌≡◌, ◌≢◌, Bool, true, Option, None, refl, ap, ◌∙◌}
use Rattle.wf_machine.specs.Bars.{Bar}
use Rattle.wf_machine.specs.Server.{Health, Works, Failed, IsDown, Server, recovered}
use Rattle.wf_machine.specs.Runs.{is_lost, at_end_by, at_end}
use Rattle.wf_slot.specs.Units.{UnitState, server_of}

-- one that works loses its arm
pub works_on : (stands : Bool) (unit : UnitState) → unit.health ≡ Works → at_end stands (server_of unit) ≡ server_of (record unit { fuse = None })
works_on stands unit works = ap (λ (h : Health). at_end_by (is_lost h) stands (server_of unit)) works

lost_by : (h : Health) → h ≢ Works → is_lost h ≡ true
lost_by Works lost = absurd (lost refl)
lost_by Failed lost = refl
lost_by IsDown lost = refl

-- another one is recovered without it
pub is_recovered : (stands : Bool) (unit next : UnitState) (bar : Option Bar) → unit.health ≢ Works → recovered stands (server_of (record unit { fuse = None })) ≡ (bar, server_of next) → at_end stands (server_of unit) ≡ server_of next
is_recovered stands unit next bar lost e =
    ap (λ (b : Bool). at_end_by b stands (server_of unit)) (lost_by unit.health lost) ∙ ap (λ (did : Option Bar × Server). did.1) e
