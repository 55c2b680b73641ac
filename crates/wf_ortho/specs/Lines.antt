-- The line of a component.
use Rattle.std.specs.Prelude.{ℕ, ◌++◌, Bool, true, false, List}
use lib.Chars.{codes}
use Rattle.wf_parts.specs.declared.data.Component.{Component}
use Rattle.wf_model.specs.declared.chart.Chart.{Chart}
use Rattle.wf_words.specs.Names.{state_name}
use Rattle.wf_words.specs.Transitions.{trans_list}

abbrev pub first_word : Bool → List ℕ
first_word true = codes " in"
first_word false = codes " out"

-- component NAME, in or out at first
abbrev pub component_head : Chart → Component → List ℕ
component_head chart c = codes "component " ++ state_name chart c.state ++ first_word c.first

-- the transitions that let it in
abbrev pub enter_words : Component → List ℕ
enter_words c = codes " enter" ++ trans_list c.enter

-- the transitions that let it out
abbrev pub leave_words : Component → List ℕ
leave_words c = codes " leave" ++ trans_list c.leave

-- component NAME, in or out at first, and the transitions that let it in and out
unfoldable pub component_line : Chart → Component → List ℕ
component_line chart c = component_head chart c ++ enter_words c ++ leave_words c ++ codes "\n"
