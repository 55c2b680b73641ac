-- Of other calls. Which write of a variable stays.
use Rattle.std.specs.Prelude.{ℕ, ◌+◌, ◌==◌, max, nat_lt, if◌then◌else◌, List, Option, Some, None, filter, filter_map, fold}
use Rattle.std.specs.List.{range_with_len}
use Rattle.wf_model.specs.declared.update.Write.{Write}

-- a write takes the place of an earlier one, unless that is of a transition of greater number
abbrev pub over : Option Write → Write → Option Write
over None write = Some write
over (Some earlier) write = if nat_lt write.trans.0 earlier.trans.0 then Some earlier else Some write

-- the writes of variable x, and those by transition t, in order
abbrev pub of_variable : ℕ → List Write → List Write
of_variable x writes = filter (λ write. write.var.0 == x) writes

abbrev pub by_transition : ℕ → List Write → List Write
by_transition t writes = filter (λ write. write.trans.0 == t) writes

-- the write of variable x that stays
abbrev pub winner : ℕ → List Write → Option Write
winner x writes = fold over None (of_variable x writes)

-- one past the greatest number of a variable that is written
abbrev pub past_variables : List Write → ℕ
past_variables writes = fold (λ past write. max past (write.var.0 + 1)) 0 writes

-- for each variable the write that stays, ascending by variable
abbrev pub merged : List Write → List Write
merged writes = filter_map (λ x. winner x writes) (range_with_len 0 (past_variables writes))
