-- Inner. The entries that stand at places of the merged list.
use Rattle.std.specs.Prelude.{◌-◌, List, Option, slice_get, option_map}
use Rattle.std.specs.Option.{option_to_list}
use Rattle.wf_model.specs.declared.outer.Entry.{Entry}
use Rattle.wf_machine.specs.declared.admission.Place.{Place}
use Rattle.wf_machine.specs.Machine.{CountingMachine, server, entry_of}

-- what stands at a place, if anything does
abbrev pub entry_at : CountingMachine → Place → Option Entry
entry_at m place = option_map (λ a. entry_of place.unit.0 a.outer) (slice_get (server m place.unit.0).admissions (place.number - 1))

abbrev pub entries_of : CountingMachine → Place → List Entry
entries_of m place = option_to_list (entry_at m place)
