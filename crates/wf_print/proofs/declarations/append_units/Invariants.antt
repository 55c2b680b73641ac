use Rattle.std.proofs.Common.{◌≡◌, ◌++◌, drop, flat_map}
use Rattle.wf_print.specs.Declarations.{unit_line}
use Rattle.wf_print.proofs.declarations.append_units.Given as goal

abbrev pub invariant-loop-unit : goal.invariant-loop-unit
invariant-loop-unit l = l.text ++ flat_map unit_line (drop l.unit-index l.units) ≡ l.fn.text ++ flat_map unit_line l.units
