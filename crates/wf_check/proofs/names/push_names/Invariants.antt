use Rattle.std.proofs.Common.{◌≡◌, ◌++◌, map, take}
use Rattle.wf_check.specs.Naming.{texts}
use Rattle.wf_check.proofs.names.push_names.Given as goal

abbrev pub invariant-loop-part : goal.invariant-loop-part
invariant-loop-part g l = texts l.names.items ≡ texts l.initial.names.items ++ map g.T.Named.name (take l.part-index l.parts)
