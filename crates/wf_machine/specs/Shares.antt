-- What a unit tells the others of a step.
-- Its share of the central run, and the outers that it lets in two steps later.
use Rattle.std.specs.Prelude.{ℕ, ◌-◌, ◌==◌, ◌&&◌, Bool, not, List, [], ◌∷◌, length, map, filter, if◌then◌else◌, Option, Some, None, Result, Ok, Err}
use Rattle.std.specs.List.{range_with_len, filter_map}
use Rattle.wf_model.specs.declared.value.Val.{Val}
use Rattle.wf_model.specs.declared.expr.Fault.{Fault}
use Rattle.wf_model.specs.declared.chart.Action.{Action}
use Rattle.wf_model.specs.declared.chart.Action.TheVariants.{Assign, Raise, Start}
use Rattle.wf_model.specs.declared.chart.Chart.{Chart}
use Rattle.wf_model.specs.declared.outer.Outer.{Outer}
use Rattle.wf_model.specs.declared.outer.Entry.{Entry}
use Rattle.wf_model.specs.declared.update.Write.{Write}
use Rattle.wf_model.specs.declared.update.Update.{Update}
use Rattle.wf_model.specs.Values.{value_of}
use Rattle.wf_model.specs.Tree.{all_states}
use Rattle.wf_semantics.specs.Configuration.{Tree, is_in}
use Rattle.wf_semantics.specs.Snapshot.{Snapshot}
use Rattle.wf_semantics.specs.Effects.{actions_of, raised_by, starts_of}
use Rattle.wf_semantics.specs.Run.{CentralState, snapshot_of, fired_in}
use Rattle.wf_parts.specs.Known.{is_state_of, is_own}
use Rattle.wf_machine.specs.Server.{outers_sealed}
use Rattle.wf_machine.specs.Machine.{CountingMachine, Message, server, entries_at, central_at}
use Rattle.wf_model.specs.Ids.{state_id, var_id, trans_id, unit_id}

-- ---- writes

-- the value that is given last
abbrev pub later_value : Option Val → Result Val Fault → Option Val
later_value before (Ok val) = Some val
later_value before (Err fault) = before

abbrev pub value_after : Snapshot → ℕ → Option Val → List Action → Option Val
value_after snap x before [] = before
value_after snap x before (Assign v value ∷ more) =
    value_after snap x (if v.0 == x then later_value before (value_of snap.seen value) else before) more
value_after snap x before (Raise e ∷ more) = value_after snap x before more
value_after snap x before (Start a ∷ more) = value_after snap x before more

-- the value that transition t gives variable x
abbrev pub value_given : Chart → Snapshot → ℕ → ℕ → Option Val
value_given chart snap x t = value_after snap x None (actions_of chart t)

abbrev pub write_or : Option Write → ℕ → ℕ → Option Val → Option Write
write_or before x t None = before
write_or before x t (Some val) = Some (record { var = var_id x; trans = trans_id t; val = val })

-- of these transitions, ascending, the last that gives variable x a value
abbrev pub write_by : Chart → Snapshot → ℕ → Option Write → List ℕ → Option Write
write_by chart snap x before [] = before
write_by chart snap x before (t ∷ ts) = write_by chart snap x (write_or before x t (value_given chart snap x t)) ts

abbrev pub writes_of : Chart → Snapshot → List ℕ → List Write
writes_of chart snap fired = filter_map (λ x. write_by chart snap x None fired) (range_with_len 0 (length chart.vars))

-- ---- a share

-- z is in after one of the two alone
abbrev pub has_flipped : Tree → Tree → ℕ → Bool
has_flipped before after z = if is_in z before then not (is_in z after) else is_in z after

-- the own transitions of u that fire
abbrev pub fired_at : Chart → ℕ → CentralState → List Entry → List ℕ
fired_at chart u c entries = filter (is_own chart u) (fired_in chart c entries)

-- what u contributes to step k, which leads from a state to another
abbrev pub share_by : Chart → ℕ → ℕ → CentralState → List Entry → CentralState → List Outer → Update
share_by chart u k before entries after outers =
    record {
      from = unit_id u;
      step = k;
      flips = map state_id (filter (λ z. is_state_of chart u z && has_flipped before.configuration after.configuration z) (all_states chart));
      writes = writes_of chart (snapshot_of chart before entries) (fired_at chart u before entries);
      raised = raised_by chart (snapshot_of chart before entries).seen (fired_at chart u before entries);
      starts = starts_of chart (fired_at chart u before entries);
      fired = map trans_id (fired_at chart u before entries);
      outer = outers;
    }

-- u's update of step k, where steps count from 1; its outers are what its turn k - 1 sealed
unfoldable pub update_at : Chart → CountingMachine → ℕ → ℕ → Update
update_at chart m u k =
    share_by chart u k (central_at chart m (k - 1)) (entries_at m k) (central_at chart m k) (outers_sealed (server m u).admissions (server m u).sealed (k - 1))

-- what a message brings
abbrev pub letter_of : Chart → CountingMachine → Message → Update
letter_of chart m x = update_at chart m x.sender x.step
