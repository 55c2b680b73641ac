use Rattle.std.proofs.Common.{◌≡◌, ◌||◌, ℕ, Bool, length, map, take, subst}
use Rattle.std.specs.List.{list_any, range_with_len}
use Rattle.wf_model.specs.declared.outer.Entry.{Entry}
use Rattle.wf_semantics.specs.Run.{is_happening}
use Rattle.wf_central.specs.Sight.{was_raised}
use Rattle.wf_central.proofs.Marking.{happening_more, happening_none}
use Rattle.wf_central.proofs.passes.events_there.Goals as goal

pub loop-entry-init : goal.loop-entry-init
loop-entry-init c = happening_none c.args.raised.now (length c.args.chart.now.events) c.in_ok-bits.bits c.in_ok-bits.ensures

pub loop-entry-preserved : goal.loop-entry-preserved
loop-entry-preserved c =
    let n : ℕ = length c.args.chart.now.events in
    let i : ℕ = c.loop-entry.entry-index in
    let before : ℕ → Bool = λ e. was_raised c.args.raised.now e || list_any (λ x. is_happening e x.outer) (take i c.args.entries.now) in
    happening_more c.args.raised.now c.args.entries.now n i c.entry-item.result c.mark_happening.new.bits c.loop-entry-test.true
    (subst (λ (x : Entry). c.mark_happening.new.bits ≡ map (λ e. before e || is_happening e x.outer) (range_with_len 0 n)) c.entry-item.is
    (c.mark_happening.ensures before n c.loop-entry.invariant))
