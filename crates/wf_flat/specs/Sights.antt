-- Inner. Ties tables to what they show.
use Rattle.std.specs.Prelude.{ℕ, Bool, List, Option, Some, None, if◌then◌else◌}
use Rattle.std.specs.Option.{option_map}
use Rattle.wf_model.specs.declared.value.Val.{Val}
use Rattle.wf_model.specs.Bits.{bit}
use Rattle.wf_model.specs.Seen.{Seen}
use Rattle.wf_updates.specs.Tables.{entry}

-- of the known states which are in, the values of variables, the open items of activities, and which of these have one completed
abbrev pub seen_by : List Bool → List Bool → List (Option Val) → List (Option ℕ) → List Bool → Seen
seen_by known inside vars unclosed done =
    record {
      state = λ s. if bit known s then Some (bit inside s) else None;
      var = entry vars;
      count = entry unclosed;
      done = λ a. option_map (λ n. bit done a) (entry unclosed a);
    }
