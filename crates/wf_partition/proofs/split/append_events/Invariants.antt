use Rattle.std.proofs.Common.{◌≡◌, ◌++◌, drop, flat_map, map}
use Rattle.wf_words.specs.Names.{event_name}
use Rattle.wf_partition.specs.SplitText.{name_text}
use Rattle.wf_partition.proofs.split.append_events.Given as goal

abbrev pub invariant-loop-event : goal.invariant-loop-event
invariant-loop-event l =
    l.text ++ flat_map name_text (map (λ k. event_name l.chart k.id) (drop l.event-index l.events)) ≡ l.initial.text ++ flat_map name_text (map (λ k. event_name l.chart k.id) l.events)
