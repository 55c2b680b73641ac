-- Of the laws. The run of all parts side by side.
use Rattle.std.specs.Prelude.{ℕ, zero, suc, List, map}
use Rattle.std.specs.List.{range_with_len}
use Rattle.wf_model.specs.declared.outer.Outer.{Outer}
use Rattle.wf_model.specs.declared.outer.Entry.{Entry}
use Rattle.wf_parts.specs.declared.data.PartData.{PartData}
use Rattle.wf_model.specs.declared.update.Update.{Update}
use Rattle.wf_views.specs.Views.{View, first_view}
use Rattle.wf_views.specs.OwnSteps.{own_update}
use Rattle.wf_views.specs.Absorbing.{absorbed}
use Rattle.wf_lockstep.specs.Shares.{entries_at, outers_to}

-- the view of unit u after j steps in which the n parts take in each other's updates; update j + 1 of unit v has the outers `outers v j`
unfoldable pub lock_view : ℕ → (ℕ → PartData) → (ℕ → ℕ → List Outer) → ℕ → ℕ → View
lock_view n part outers zero u = first_view (part u)
lock_view n part outers (suc j) u =
    absorbed (part u) (lock_view n part outers j u) (map (λ v. own_update (part v) (suc j) (lock_view n part outers j v) (outers v j)) (range_with_len 0 n))

-- u's update of step j + 1 in this run
abbrev pub lock_update : ℕ → (ℕ → PartData) → (ℕ → ℕ → List Outer) → ℕ → ℕ → Update
lock_update n part outers j u = own_update (part u) (suc j) (lock_view n part outers j u) (outers u j)

-- the outers that come with these lists of entries: update j + 1 has those of step j + 2
abbrev pub outers_by : List (List Entry) → ℕ → ℕ → List Outer
outers_by steps u j = outers_to u (entries_at steps (suc (suc j)))
