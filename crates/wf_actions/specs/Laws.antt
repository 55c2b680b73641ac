-- Of the laws. Merged writes, the union of events and ordered starts.
use Rattle.std.specs.Prelude.{ℕ, ◌≡◌, ◌++◌, ◌<◌, ◌↔◌, List, [], map, filter, Contains, Some, None}
use Rattle.std.specs.List.{last_or}
use Rattle.std.specs.Option.{option_to_list}
use Rattle.std.specs.List.Sorted.{IsStrictlyIncreasing, IsSortedByKey}
use Rattle.wf_model.specs.declared.ids.EventId.{EventId}
use Rattle.wf_model.specs.declared.chart.Chart.{Chart}
use Rattle.wf_model.specs.declared.value.Val.{Val}
use Rattle.wf_model.specs.declared.update.Write.{Write}
use Rattle.wf_model.specs.declared.update.StartAt.{StartAt}
use Rattle.wf_model.specs.Seen.{Seen}
use Rattle.wf_semantics.specs.Effects.{after_fired, raised_by, starts_of}
use Rattle.wf_actions.specs.Writes.{of_variable, by_transition, winner, merged}
use Rattle.wf_actions.specs.Events.{numbers_of}
use Rattle.wf_actions.specs.Order.{place_of, place_cmp, is_at}
use Rattle.wf_actions.specs.Store.{after_writes, writes_of}

-- merged writes ascend by variable, and have of each variable just the write that stays
abbrev pub MergedReads : Type 0
MergedReads =
    (writes : List Write) →
    IsStrictlyIncreasing (map (λ write. write.var.0) (merged writes))
    × ((x : ℕ) → of_variable x (merged writes) ≡ option_to_list (winner x writes))

-- the write of a variable that stays is by the transition of greatest number that writes it, and is the last by that one
abbrev pub WinnerGoesByRule : Type 0
WinnerGoesByRule =
    (writes : List Write) (x : ℕ) (write : Write) → winner x writes ≡ Some write →
    ((t : ℕ) → write.trans.0 < t → by_transition t (of_variable x writes) ≡ [])
    × (last_or None (by_transition write.trans.0 (of_variable x writes)) ≡ Some write)

-- writes that are merged in two cuts are the same as in one
abbrev pub CutsDoNotMatter : Type 0
CutsDoNotMatter = (first second : List Write) → merged (merged first ++ second) ≡ merged (first ++ second)

-- the writes of the fired transitions, in whichever order the shares of a step come, as long as those of each transition are
-- in the order of its actions: merged, they give the store that follows in the central run
abbrev pub SharesGiveStore : Type 0
SharesGiveStore =
    (chart : Chart) (seen : Seen) (fired : List ℕ) (writes : List Write) (store : List Val) → IsStrictlyIncreasing fired →
    ((t : ℕ) → by_transition t writes ≡ by_transition t (writes_of chart seen fired)) →
    after_writes (merged writes) store ≡ after_fired chart seen fired store

-- lists that ascend and have the same members are equal, so a union of events doesn't depend on how they are cut into lists
abbrev pub UnionIsOne : Type 0
UnionIsOne =
    (xs ys : List ℕ) → IsStrictlyIncreasing xs → IsStrictlyIncreasing ys → ((e : ℕ) → Contains xs e ↔ Contains ys e) → xs ≡ ys

-- events that ascend and have the members of those that fired transitions raise, are the raised events of the central run's step
abbrev pub SharesGiveRaised : Type 0
SharesGiveRaised =
    (chart : Chart) (seen : Seen) (fired : List ℕ) (events : List EventId) → IsStrictlyIncreasing (numbers_of events) →
    ((e : ℕ) → Contains (numbers_of events) e ↔ Contains (numbers_of (raised_by chart seen fired)) e) →
    events ≡ raised_by chart seen fired

-- starts that are in order, and have at each transition and place those of the fired transitions, are the starts of the
-- central run's step
abbrev pub SharesGiveStarts : Type 0
SharesGiveStarts =
    (chart : Chart) (fired : List ℕ) (starts : List StartAt) → IsStrictlyIncreasing fired → IsSortedByKey place_of place_cmp starts →
    ((t place : ℕ) → filter (is_at t place) starts ≡ filter (is_at t place) (starts_of chart fired)) →
    starts ≡ starts_of chart fired
