-- Inner. The two halves of the lists of an update.
use Rattle.std.specs.Prelude.{ℕ, List, ◌++◌}
use Rattle.wf_model.specs.declared.update.Update.{Update}
use Rattle.wf_codec.specs.Spelling.{listed, state_spelling, write_spelling, event_spelling, start_spelling, trans_spelling, outer_spelling}

-- the states, the variables and the events
unfoldable pub changes_spelling : Update → List ℕ
changes_spelling u = listed state_spelling u.flips ++ (listed write_spelling u.writes ++ listed event_spelling u.raised)

-- the starts, what fired and the outers
unfoldable pub rest_spelling : Update → List ℕ
rest_spelling u = listed start_spelling u.starts ++ (listed trans_spelling u.fired ++ listed outer_spelling u.outer)
