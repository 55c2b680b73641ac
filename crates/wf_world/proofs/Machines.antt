-- The machine of a world, unit by unit.
use Rattle.std.proofs.Common.{◌≡◌, ℕ, List, slice_get, slice_set, unwrap_or, Option, Some, option_map, sym, ap, ◌∙◌}
use Rattle.std.proofs.lemmas.List.{map-set}
use Rattle.std.proofs.lemmas.Option.{slice_get-map}
use Rattle.wf_machine.specs.Server.{Server, new_server}
use Rattle.wf_machine.specs.Machine.{server, with_server}
use Rattle.wf_slot.specs.Units.{UnitState, server_of}
use Rattle.wf_world.specs.declared.mail.Sent.{Sent}
use Rattle.wf_world.specs.Machines.{machine_of}

pub server_is : (units : List UnitState) (messages : List Sent) (u : ℕ) (unit : UnitState) → slice_get units u ≡ Some unit → server (machine_of units messages) u ≡ server_of unit
server_is units messages u unit at = ap (λ (o : Option Server). unwrap_or o new_server) (slice_get-map server_of units u ∙ ap (option_map server_of) at)

pub with_is : (units : List UnitState) (messages : List Sent) (u : ℕ) (unit : UnitState) → with_server (machine_of units messages) u (server_of unit) ≡ machine_of (slice_set units u unit) messages
with_is units messages u unit = ap (λ (servers : List Server). record (machine_of units messages) { servers = servers }) (sym (map-set server_of units u unit))
