use Rattle.std.proofs.Common.{◌≡◌, ◌↔◌, ◌∙◌, ℕ, List, Contains, flat_map, ap}
use Rattle.std.specs.List.Sorted.{IsStrictlyIncreasing}
use Rattle.std.proofs.lemmas.Result.{IfOk-weaker}
use Rattle.wf_model.specs.declared.ids.EventId.{EventId}
use Rattle.wf_actions.specs.Events.{numbers_of}
use Rattle.wf_actions.proofs.United.{ascends, united}
use Rattle.wf_actions.proofs.events.raised.Goals as goal

pub returns-clause-ascends : goal.returns-clause-ascends
returns-clause-ascends c =
    IfOk-weaker c.events.result (λ events. numbers_of events ≡ c.as_slice-2.result.now) (λ events. IsStrictlyIncreasing (numbers_of events))
    (λ events e. ascends c.sort_unstable.new.self.items c.dedup.new.self.items (numbers_of events) c.sort_unstable.ensures.sorted c.dedup.ensures.filtered (e ∙ c.as_slice-2.ensures.value))
    c.events.ensures

pub returns-clause-union : goal.returns-clause-union
returns-clause-union c =
    let given = flat_map (λ (list : List EventId). list) c.args.lists.now in
    let all = c.in_ok-numbers.ensures ∙ ap numbers_of (c.as_slice.ensures ∙ c.in_ok-all.ensures) in
    IfOk-weaker c.events.result (λ events. numbers_of events ≡ c.as_slice-2.result.now) (λ events. (e : ℕ) → Contains (numbers_of events) e ↔ Contains (numbers_of given) e)
    (λ events e. united (numbers_of given) c.in_ok-numbers.numbers.items c.sort_unstable.new.self.items c.dedup.new.self.items (numbers_of events) all c.sort_unstable.ensures.permutation c.dedup.ensures.filtered (e ∙ c.as_slice-2.ensures.value))
    c.events.ensures
