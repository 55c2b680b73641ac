-- Of other calls. What a unit made of its history.
use Rattle.std.specs.Prelude.{ℕ, List, map}
use Rattle.std.specs.List.{range_with_len}
use Rattle.wf_model.specs.declared.update.Update.{Update}
use Rattle.wf_parts.specs.declared.data.PartData.{PartData}
use Rattle.wf_histories.specs.Histories.{History, taken, local_update}

-- the unit's own updates of so many steps, from step 1 on
abbrev pub updates_to : PartData → History → ℕ → List Update
updates_to part h n = map (local_update part h) (range_with_len 1 n)

-- those of all steps that it took
abbrev pub own_updates : PartData → History → List Update
own_updates part h = updates_to part h (taken h)
