-- The line of a chart that isn't accepted: the first rule that it breaks.
use Rattle.std.specs.Prelude.{ℕ, ◌++◌, List, []}
use Rattle.std.specs.Fmt.{decimal}
use lib.Chars.{codes}
use Rattle.wf_model.specs.declared.chart.Chart.{Chart}
use Rattle.wf_check.specs.declared.fault.What.{What}
use Rattle.wf_check.specs.declared.fault.What.TheVariants as what
use Rattle.wf_check.specs.declared.fault.TypePlace.{TypePlace}
use Rattle.wf_check.specs.declared.fault.TypePlace.TheVariants as place
use Rattle.wf_check.specs.declared.fault.CheckFault.{CheckFault}
use Rattle.wf_check.specs.declared.fault.CheckFault.TheVariants as fault
use Rattle.wf_words.specs.Names.{act_name, state_name, var_name}
use Rattle.wf_refusals.specs.Lines.{refusal}

unfoldable pub what_word : What → List ℕ
what_word what.Units = codes "units"
what_word what.Events = codes "events"
what_word what.Vars = codes "vars"
what_word what.Activities = codes "activities"
what_word what.States = codes "states"
what_word what.Transitions = codes "transitions"
what_word what.Actions = codes "actions"
what_word what.Outputs = codes "outputs"
what_word what.Nodes = codes "nodes"
what_word what.Chart = codes "chart"

-- the place of a value of another sort
abbrev pub place_words : Chart → TypePlace → List ℕ
place_words chart (place.Var x) = codes "var " ++ var_name chart x
place_words chart (place.Guard t) = codes "t" ++ decimal t.0 ++ codes " guard"
place_words chart (place.Act t p) = codes "t" ++ decimal t.0 ++ codes " action " ++ decimal p

abbrev pub check_line : List ℕ → List ℕ
check_line rule = refusal (codes "check " ++ rule)

-- want of memory has no line
unfoldable pub check_fault_line : Chart → CheckFault → List ℕ
check_fault_line chart (fault.TooMany w) = check_line (codes "too many " ++ what_word w)
check_fault_line chart (fault.BadId w at) = check_line (codes "bad id " ++ what_word w ++ codes " " ++ decimal at)
check_fault_line chart (fault.BadName w at) = check_line (codes "bad name " ++ what_word w ++ codes " " ++ decimal at)
check_fault_line chart fault.NoRoot = check_line (codes "no root")
check_fault_line chart fault.RootNotOr = check_line (codes "root is not or")
check_fault_line chart (fault.TooDeep s) = check_line (codes "state " ++ state_name chart s ++ codes " is too deep")
check_fault_line chart (fault.EmptyOr s) = check_line (codes "or " ++ state_name chart s ++ codes " is empty")
check_fault_line chart (fault.EmptyAnd s) = check_line (codes "and " ++ state_name chart s ++ codes " is empty")
check_fault_line chart (fault.BasicWithChildren s) = check_line (codes "basic " ++ state_name chart s ++ codes " has children")
check_fault_line chart (fault.BadType p) = check_line (codes "type in " ++ place_words chart p)
check_fault_line chart (fault.BadOutput a) = check_line (codes "outputs of " ++ act_name chart a)
check_fault_line chart (fault.SourceRoot t) = check_line (codes "t" ++ decimal t.0 ++ codes " leaves the root")
check_fault_line chart (fault.TargetRoot t) = check_line (codes "t" ++ decimal t.0 ++ codes " enters the root")
check_fault_line chart fault.NoMemory = []
