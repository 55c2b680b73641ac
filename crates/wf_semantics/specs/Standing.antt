-- Where a central run stands between steps: its state, and what was admitted for the next step.
use Rattle.std.specs.Prelude.{ℕ, ◌==◌, ◌++◌, List, [], ◌∷◌, length, filter, flat_map, Result, Ok, Err}
use Rattle.std.specs.List.{range_with_len}
use Rattle.wf_model.specs.declared.ids.UnitId.{UnitId}
use Rattle.wf_model.specs.declared.chart.Chart.{Chart}
use Rattle.wf_model.specs.declared.outer.Outer.{Outer}
use Rattle.wf_model.specs.declared.outer.Entry.{Entry}
use Rattle.wf_model.specs.declared.outer.OuterFault.{OuterFault}
use Rattle.wf_semantics.specs.Run.{CentralState, first_state, next_state}
use Rattle.wf_semantics.specs.Admission.{may_be_admitted}

pub record Standing : Type 0 where
  pub central : CentralState
  -- in the order of their admission
  pub pending : List Entry

abbrev pub first_standing : Chart → Standing
first_standing chart = record { central = first_state chart; pending = [] }

-- the entries of unit 0, then those of unit 1, and so on, each in their order
abbrev pub in_unit_order : Chart → List Entry → List Entry
in_unit_order chart entries = flat_map (λ u. filter (λ x. x.unit.0 == u) entries) (range_with_len 0 (length chart.units))

-- the entries of the next step
abbrev pub next_entries : Chart → Standing → List Entry
next_entries chart s = in_unit_order chart s.pending

-- the answer to an outer at a unit
abbrev pub admission : Chart → Standing → UnitId → Outer → Result (Unit {0}) OuterFault
admission chart s unit outer = may_be_admitted chart s.central.items s.pending unit.0 outer

-- one more entry, where it was admitted
abbrev pub with_entry : Standing → Entry → Result (Unit {0}) OuterFault → Standing
with_entry s entry (Ok admitted) = record s { pending = s.pending ++ entry ∷ [] }
with_entry s entry (Err fault) = s

abbrev pub after_admission : Chart → Standing → UnitId → Outer → Standing
after_admission chart s unit outer = with_entry s (record { unit = unit; outer = outer }) (admission chart s unit outer)

-- after a step no entry is left
abbrev pub after_step : Chart → Standing → Standing
after_step chart s = record { central = next_state chart s.central (next_entries chart s); pending = [] }
