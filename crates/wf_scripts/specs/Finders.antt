-- Inner. Ties the maps of a chart's names to the names that a script may use.
use Rattle.wf_scripts.specs.declared.names.Names.{Names}
use Rattle.wf_scripts.specs.Names.{Finder, found_in}

abbrev pub finder_of : Names → Finder
finder_of names = record { unit = found_in names.units; event = found_in names.events; act = found_in names.acts; var = found_in names.vars }
