use Rattle.std.proofs.Common.{◌≡◌, ◌++◌, drop, filter, flat_map, map}
use Rattle.wf_words.specs.Names.{state_name}
use Rattle.wf_partition.specs.SplitText.{name_text, bit}
use Rattle.wf_partition.proofs.split.append_states.Given as goal

abbrev pub invariant-loop-state : goal.invariant-loop-state
invariant-loop-state l =
    l.text ++ flat_map name_text (map (λ k. state_name l.chart k.id) (filter (λ k. bit l.bits k.id.0) (drop l.state-index l.states)))
    ≡ l.initial.text ++ flat_map name_text (map (λ k. state_name l.chart k.id) (filter (λ k. bit l.bits k.id.0) l.states))
