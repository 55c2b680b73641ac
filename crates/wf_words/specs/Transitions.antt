-- Transitions by their numbers.
use Rattle.std.specs.Prelude.{ℕ, ◌++◌, List}
use Rattle.std.specs.List.{flat_map}
use Rattle.std.specs.Fmt.{decimal}
use lib.Chars.{codes}
use Rattle.wf_model.specs.declared.ids.TransId.{TransId}

-- a transition as a blank, `t` and its number
abbrev pub trans_text : TransId → List ℕ
trans_text t = codes " t" ++ decimal t.0

abbrev pub trans_list : List TransId → List ℕ
trans_list ts = flat_map trans_text ts
