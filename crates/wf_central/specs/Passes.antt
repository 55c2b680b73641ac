-- Inner. What each pass of a step makes of the one before it.
use Rattle.std.specs.Prelude.{ℕ, ◌==◌, ◌&&◌, Bool, false, List, [], ◌∷◌, Option, Some, None, is_some, unwrap_or, slice_get, find, length, option_map, if◌then◌else◌}
use Rattle.std.specs.List.{list_any}
use Rattle.wf_model.specs.declared.ids.StateId.{StateId}
use Rattle.wf_model.specs.declared.ids.TransId.{TransId}
use Rattle.wf_model.specs.declared.chart.Chart.{Chart}
use Rattle.wf_model.specs.Tree.{ancestors, scope, all_transitions}
use Rattle.wf_model.specs.Ids.{trans_id}
use Rattle.wf_semantics.specs.Configuration.{is_in}
use Rattle.wf_semantics.specs.Entry.{entry_tree}
use Rattle.wf_scopes.specs.Tables.{ancestor_ids}
use Rattle.wf_model.specs.Bits.{bit}

-- the transition, if any, that stands for state s
abbrev pub at : List (Option TransId) → ℕ → Option TransId
at table s = unwrap_or (slice_get table s) None

-- the first ready transition whose scope is s
abbrev pub chosen_by : Chart → List Bool → ℕ → Option TransId
chosen_by chart ready s = option_map trans_id (find (λ t. bit ready t && (scope chart t == s)) (all_transitions chart))

-- what is chosen at s, where nothing is chosen above it
abbrev pub firing_by : Chart → List (Option TransId) → ℕ → Option TransId
firing_by chart chosen s = if list_any (λ a. is_some (at chosen a)) (ancestors chart s) then None else at chosen s

abbrev pub is_number : ℕ → Option TransId → Bool
is_number t None = false
is_number t (Some u) = u.0 == t

-- t is what fires at its scope
abbrev pub fired_by : Chart → List (Option TransId) → ℕ → Bool
fired_by chart firing t = is_number t (at firing (scope chart t))

abbrev pub or_else : {A : Type 0} → Option A → Option A → Option A
or_else None o = o
or_else (Some x) o = Some x

-- what fires at the first of these states at which something does
abbrev pub first_ids : List (Option TransId) → List StateId → Option TransId
first_ids firing [] = None
first_ids firing (a ∷ more) = or_else (at firing a.0) (first_ids firing more)

-- what a transition that leaves z makes of it
abbrev pub bit_by : Chart → ℕ → Bool → Option TransId → Bool
bit_by chart z was None = was
bit_by chart z was (Some t) = is_in z (entry_tree chart t.0)

-- whether z is in afterwards
abbrev pub moved_by : Chart → List Bool → List (Option TransId) → ℕ → Bool
moved_by chart active firing z = bit_by chart z (bit active z) (first_ids firing (ancestor_ids chart z))
