use Rattle.std.proofs.Common.{◌≡◌, ◌++◌, drop, flat_map, map}
use Rattle.wf_words.specs.Names.{act_name}
use Rattle.wf_partition.specs.SplitText.{name_text}
use Rattle.wf_partition.proofs.split.append_acts.Given as goal

abbrev pub invariant-loop-act : goal.invariant-loop-act
invariant-loop-act l =
    l.text ++ flat_map name_text (map (λ k. act_name l.chart k.id) (drop l.act-index l.acts)) ≡ l.initial.text ++ flat_map name_text (map (λ k. act_name l.chart k.id) l.acts)
