-- Inner. The numbers of transitions.
use Rattle.std.specs.Prelude.{ℕ, List, map}
use Rattle.wf_model.specs.declared.ids.TransId.{TransId}

-- the numbers of these transitions
abbrev pub numbers : List TransId → List ℕ
numbers fired = map (λ t. t.0) fired
