-- Inner. Ties the tables of a step to the snapshot that they are.
use Rattle.wf_model.specs.Bits.{bit}
use Rattle.wf_semantics.specs.Snapshot.{Snapshot}
use Rattle.wf_flat.specs.declared.sighting.Sighting.{Sighting}
use Rattle.wf_flat.specs.Sights.{seen_by}

abbrev pub shown_by : Sighting → Snapshot
shown_by it = record { seen = seen_by it.known it.inside it.vars it.unclosed it.done; there = bit it.there }
