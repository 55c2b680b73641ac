use Rattle.std.proofs.Common.{◌≡◌, ℕ, List, drop}
use Rattle.std.specs.List.{position_from}
use Rattle.std.specs.Option.{option_or}
use Rattle.std.specs.Str.{bytes_eq}
use Rattle.wf_scripts.specs.Names.{found_in}
use Rattle.wf_scripts.proofs.names.event_numbers.Given as goal

abbrev pub invariant-loop-at : goal.invariant-loop-at
invariant-loop-at l =
    (word : List ℕ) → option_or (found_in l.numbers word) (position_from (λ event. bytes_eq word event.name) l.at (drop l.at l.events))
    ≡ position_from (λ event. bytes_eq word event.name) 0 l.events
