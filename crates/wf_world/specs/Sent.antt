-- How many bytes all messages of a play have, and whether they are too many.
use Rattle.std.specs.Prelude.{ℕ, ◌||◌, nat_lt, Bool, false, List, [], ◌∷◌, length}
use Rattle.std.specs.List.{sum_by}
use Rattle.wf_model.specs.Limits.{max_sent}
use Rattle.wf_model.specs.declared.chart.Chart.{Chart}
use Rattle.wf_model.specs.declared.update.Update.{Update}
use Rattle.wf_codec.specs.Spelling.{spelling_of}
use Rattle.wf_parts.specs.Peers.{peers_of}
use Rattle.wf_views.specs.Relevant.{relevant}
use Rattle.wf_machine.specs.declared.line.Line.{Line}
use Rattle.wf_machine.specs.Machine.{CountingMachine, Message}
use Rattle.wf_machine.specs.Shares.{letter_of}
use Rattle.wf_machine.specs.Lines.{act}
use Rattle.wf_machine.specs.Runs.{first_outcome, other_outcomes}

-- what a message brings: its sender's update of its step, cut by what its receiver knows
abbrev pub brought : Chart → CountingMachine → Message → Update
brought chart m x = relevant (peers_of chart x.sender) (letter_of chart m x) x.receiver

-- THE BYTES OF A MESSAGE spell what it brings
abbrev pub bytes_of : Chart → CountingMachine → Message → List ℕ
bytes_of chart m x = spelling_of (brought chart m x)

-- how many bytes all messages have that were ever sent
unfoldable pub sent_bytes : Chart → CountingMachine → ℕ
sent_bytes chart m = sum_by (λ (x : Message). length (bytes_of chart m x)) m.messages

-- they are too many
abbrev pub is_over : Chart → CountingMachine → Bool
is_over chart m = nat_lt max_sent (sent_bytes chart m)

-- they are too many after one of these lines
abbrev pub passes : Chart → CountingMachine → List Bool → List (ℕ × Line) → Bool
passes chart m bs [] = false
passes chart m bs (x ∷ xs) =
    is_over chart (act chart m (first_outcome bs) x.1).after || passes chart (act chart m (first_outcome bs) x.1).after (other_outcomes bs) xs
