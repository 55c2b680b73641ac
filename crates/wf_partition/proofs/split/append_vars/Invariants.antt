use Rattle.std.proofs.Common.{◌≡◌, ◌++◌, drop, flat_map, map}
use Rattle.wf_words.specs.Names.{var_name}
use Rattle.wf_partition.specs.SplitText.{name_text}
use Rattle.wf_partition.proofs.split.append_vars.Given as goal

abbrev pub invariant-loop-var : goal.invariant-loop-var
invariant-loop-var l =
    l.text ++ flat_map name_text (map (λ k. var_name l.chart k.id) (drop l.var-index l.vars)) ≡ l.initial.text ++ flat_map name_text (map (λ k. var_name l.chart k.id) l.vars)
