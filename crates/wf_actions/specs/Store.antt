-- Of the laws. What fired transitions write, and the store after writes.
use Rattle.std.specs.Prelude.{ℕ, List, [], ◌∷◌, Option, None, option_map, filter_map, flat_map, slice_set}
use Rattle.std.specs.Result.{result_ok}
use Rattle.wf_model.specs.declared.chart.Action.{Action}
use Rattle.wf_model.specs.declared.chart.Action.TheVariants.{Assign, Raise, Start}
use Rattle.wf_model.specs.declared.chart.Chart.{Chart}
use Rattle.wf_model.specs.declared.value.Val.{Val}
use Rattle.wf_model.specs.declared.update.Write.{Write}
use Rattle.wf_model.specs.Values.{value_of}
use Rattle.wf_model.specs.Seen.{Seen}
use Rattle.wf_semantics.specs.Effects.{actions_of}

-- what an action of transition t writes: an assignment its value, where it has one
abbrev pub write_of : Seen → ℕ → Action → Option Write
write_of seen t (Assign x value) = option_map (λ val. record { var = x; trans = record { 0 = t }; val = val }) (result_ok (value_of seen value))
write_of seen t (Raise e) = None
write_of seen t (Start a) = None

-- the writes of these transitions, in the order of their actions
abbrev pub writes_of : Chart → Seen → List ℕ → List Write
writes_of chart seen fired = flat_map (λ t. filter_map (write_of seen t) (actions_of chart t)) fired

-- the store after writes in order
abbrev pub after_writes : List Write → List Val → List Val
after_writes [] store = store
after_writes (write ∷ writes) store = after_writes writes (slice_set store write.var.0 write.val)
