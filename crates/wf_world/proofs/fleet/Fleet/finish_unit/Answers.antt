use Rattle.std.proofs.Common.{◌≡◌, ◌<◌, ◌+◌, ◌≤◌, ℕ, List, ◌++◌, length, slice_get, slice_set, Option, Some, refl, sym, ap, ap₂, ◌∙◌, subst}
use Rattle.wf_model.specs.declared.ids.UnitId.{UnitId}
use Rattle.wf_model.specs.Faults.{last_count}
use Rattle.wf_machine.specs.Runs.{is_lost, recovery_of}
use Rattle.wf_slot.specs.Slots.{SlotState, server}
use Rattle.wf_slot.specs.Answers.{Ends}
use Rattle.wf_world.specs.Fleets.{FleetState, slot_at, IsFleet, EndsOne, counted_by}
use Rattle.wf_world.specs.contracts.fleet.Fleet.{the_view}
use Rattle.wf_world.proofs.Results.{read_at, slot_is, on_ok, always_ok}
use Rattle.wf_world.proofs.Closing.{ends_fleet, ends_worn, counts_are}
use Rattle.wf_world.proofs.Sounds.{get_there}
use Rattle.std.proofs.lemmas.Option.{slice_get_within}
use Rattle.wf_world.proofs.fleet.Fleet.finish_unit.Goals as goal

pub finish-requires : goal.finish-requires
finish-requires c =
    let v = the_view c.self.inside in
    let is : IsFleet v = subst IsFleet (sym c.self.view_is) c.requires.fleet in
    let s = c.index_mut.result.now in
    let at : slice_get v.slots c.args.unit.0 ≡ Some s = read_at v is c.args.unit.0 s (subst (λ (y : FleetState). c.args.unit.0 < length y.chart.units) (sym c.self.view_is) c.requires.unit) c.index_mut.ensures.value in
    let at_f : slice_get c.args.self.now.slots c.args.unit.0 ≡ Some s = subst (λ (y : FleetState). slice_get y.slots c.args.unit.0 ≡ Some s) c.self.view_is at in
    record { early = subst (λ (x : SlotState). x.clock + 2000 ≤ last_count) (slot_is c.args.self.now c.args.unit.0 s at_f) c.requires.early }

pub returns-clause-ended : goal.returns-clause-ended
returns-clause-ended c =
    let v = the_view c.self.inside in
    let is : IsFleet v = subst IsFleet (sym c.self.view_is) c.requires.fleet in
    let s = c.index_mut.result.now in
    let u = c.args.unit.0 in
    let at : slice_get v.slots u ≡ Some s = read_at v is u s (subst (λ (y : FleetState). u < length y.chart.units) (sym c.self.view_is) c.requires.unit) c.index_mut.ensures.value in
    let t = c.finish.new.self in
    let did = c.in_ok-counts.ensures in
    let one : EndsOne v u (record v { slots = slice_set v.slots u t }) = record {
      t = t;
      ends = subst (λ (x : SlotState). Ends x t) (sym (slot_is v u s at)) did.ends;
      after = refl;
      fleet = ends_fleet v is c.args.unit s at t did.ends did.writes did.goes did.calm;
      worn = ends_worn v is c.args.unit s at t did.ends did.writes did.goes did.calm;
    } in
    always_ok c.add_counts.result (EndsOne c.args.self.now u (record v { slots = slice_set v.slots u t })) (subst (λ (y : FleetState). EndsOne y u (record v { slots = slice_set v.slots u t })) c.self.view_is one)

pub returns-clause-counts : goal.returns-clause-counts
returns-clause-counts c =
    let v = the_view c.self.inside in
    let is : IsFleet v = subst IsFleet (sym c.self.view_is) c.requires.fleet in
    let s = c.index_mut.result.now in
    let u = c.args.unit.0 in
    let at : slice_get v.slots u ≡ Some s = read_at v is u s (subst (λ (y : FleetState). u < length y.chart.units) (sym c.self.view_is) c.requires.unit) c.index_mut.ensures.value in
    let t = c.finish.new.self in
    let g = record v { slots = slice_set v.slots u t } in
    let old = c.args.recovered.now in
    let here : slot_at c.args.self.now u ≡ s = ap (λ (y : FleetState). slot_at y u) (sym c.self.view_is) ∙ slot_is v u s at in
    let there : slot_at g u ≡ t = slot_is g u t (get_there v.slots u t (slice_get_within v.slots u s at)) in
    on_ok c.add_counts.result (c.add_counts.new.recovered ≡ old ++ counted_by c.args.unit c.in_ok-counts.counts) (c.add_counts.new.recovered ≡ old ++ recovery_of (is_lost (slot_at c.args.self.now u).health) u (server (slot_at g u))) c.add_counts.ensures
    (λ e. e
    ∙ ap (λ (x : Option (ℕ × ℕ)). old ++ counted_by c.args.unit x) c.in_ok-counts.ensures.counts
    ∙ ap (λ (l : List (UnitId × ℕ × ℕ)). old ++ l) (counts_are c.args.unit s t)
    ∙ ap₂ (λ (x y : SlotState). old ++ recovery_of (is_lost x.health) u (server y)) (sym here) (sym there))
