-- How large things may be, as numbers. `limits` ties the program's constants to them.
use Rattle.std.specs.Prelude.{ℕ}

-- A CHART

-- units
abbrev pub max_units : ℕ
max_units = 8

-- events, `fault` among them
abbrev pub max_events : ℕ
max_events = 128

-- variables
abbrev pub max_vars : ℕ
max_vars = 128

-- activities
abbrev pub max_acts : ℕ
max_acts = 128

-- states
abbrev pub max_states : ℕ
max_states = 512

-- transitions
abbrev pub max_transitions : ℕ
max_transitions = 1024

-- actions of a transition
abbrev pub max_actions : ℕ
max_actions = 16

-- outputs of an activity
abbrev pub max_outputs : ℕ
max_outputs = 8

-- nodes of an expression
abbrev pub max_nodes : ℕ
max_nodes = 64

-- how deep a state may lie; the root has depth 1
abbrev pub max_depth : ℕ
max_depth = 16

-- bytes of a name
abbrev pub max_name : ℕ
max_name = 32

-- characters of a text value
abbrev pub max_text : ℕ
max_text = 64

-- the greatest integer
abbrev pub max_int : ℕ
max_int = 9223372036854775807

-- INPUT AND OUTPUT

-- bytes of an input
abbrev pub max_input : ℕ
max_input = 4194304

-- tokens of a chart's text
abbrev pub max_tokens : ℕ
max_tokens = 1048576

-- braces, and parentheses of an expression, that are open at once
abbrev pub max_open : ℕ
max_open = 64

-- lines of a script
abbrev pub max_lines : ℕ
max_lines = 20000

-- bytes of a text that is written
abbrev pub max_report : ℕ
max_report = 268435456

-- A RUN

-- steps
abbrev pub max_steps : ℕ
max_steps = 20000

-- transitions that fire in one step
abbrev pub max_fired : ℕ
max_fired = 511

-- activities that are started in one step
abbrev pub max_starts : ℕ
max_starts = 8176

-- admissions that one turn seals
abbrev pub max_sealed : ℕ
max_sealed = 64

-- bytes of all messages of a `play`
abbrev pub max_sent : ℕ
max_sent = 268435456

-- client lines of a `host`
abbrev pub max_client_lines : ℕ
max_client_lines = 1000

-- the goal of a `host`, in rounds
abbrev pub max_goal : ℕ
max_goal = 1000

abbrev pub max_clients : ℕ
max_clients = 16

abbrev pub max_workers : ℕ
max_workers = 16

-- turns that a unit takes in one round of a `host`
abbrev pub max_turns : ℕ
max_turns = 8

-- JOURNALS

-- bytes of one body of a journal
abbrev pub max_body : ℕ
max_body = 1048576

-- bytes of a journal's file
abbrev pub max_journal : ℕ
max_journal = 536870912
