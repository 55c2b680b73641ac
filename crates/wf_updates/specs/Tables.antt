-- Of other calls. What tables by number tell.
use Rattle.std.specs.Prelude.{ℕ, ◌+◌, ◌==◌, ◌&&◌, Bool, List, [], ◌∷◌, length, filter, find, max, fold, Option, Some, None, if◌then◌else◌, slice_index_or}
use Rattle.std.specs.Option.{option_map, option_map_or}
use Rattle.std.specs.List.{list_any}
use Rattle.wf_model.specs.Bits.{bit}
use Rattle.wf_model.specs.declared.value.Val.{Val}
use Rattle.wf_model.specs.declared.ids.EventId.{EventId}
use Rattle.wf_model.specs.declared.outer.Output.{Output}
use Rattle.wf_model.specs.declared.outer.Outer.{Outer}
use Rattle.wf_model.specs.declared.outer.Outer.TheVariants.{Happen, Complete}
use Rattle.wf_model.specs.declared.update.Update.{Update}
use Rattle.wf_parts.specs.declared.data.Known.{Known}
use Rattle.wf_parts.specs.Peers.{Knowledge}
use Rattle.wf_views.specs.Relevant.{is_listed, nothing}
use Rattle.wf_updates.specs.declared.sets.KnownSets.{KnownSets}

-- one past the greatest of these numbers
abbrev pub past_numbers : List ℕ → ℕ
past_numbers numbers = fold (λ past n. max past (n + 1)) 0 numbers

-- whether a number is among these
abbrev pub is_among : List ℕ → ℕ → Bool
is_among numbers k = list_any (λ n. n == k) numbers

-- what these sets know
abbrev pub told_by : KnownSets → Knowledge
told_by sets = record { states = bit sets.states; vars = bit sets.vars; events = bit sets.events; acts = bit sets.acts }

-- what this peer knows by what is kept of peers; who is no peer knows nothing
abbrev pub known_at : List Known → ℕ → Knowledge
known_at peers peer = option_map_or is_listed (find (λ known. known.unit.0 == peer) peers) nothing

-- an update has nothing that may be cut
abbrev pub is_bare : Update → Bool
is_bare update =
    ((((length update.flips == 0) && (length update.writes == 0)) && (length update.raised == 0)) && (length update.starts == 0)) && (length update.outer == 0)

-- how many of these numbers are k
abbrev pub count_of : List ℕ → ℕ → ℕ
count_of numbers k = length (filter (λ n. n == k) numbers)

-- the value of the last of the outputs of variable x
abbrev pub last_of : List Output → ℕ → Option Val
last_of outputs x = fold (λ last o. if o.var.0 == x then Some o.val else last) None outputs

-- what stands at a number, nothing past the end
abbrev pub entry : {A : Type 0} → List (Option A) → ℕ → Option A
entry table k = slice_index_or table k None

-- the first item that is given to a number
abbrev pub given_by : {A : Type 0} → List (ℕ × A) → ℕ → Option A
given_by pairs k = option_map (λ pair. pair.1) (find (λ pair. pair.0 == k) pairs)

-- the event that happens, if one does
abbrev pub happening_in : Outer → List EventId
happening_in (Happen e) = e ∷ []
happening_in (Complete item a outputs) = []
