use Rattle.std.proofs.Common.{◌≡◌, ℕ, ◌+◌, ◌<◌, length, get_or, ◌∙◌, arith, length-set}
use Rattle.std.proofs.lemmas.Grind.{get_or_default_zero}
use Rattle.wf_model.specs.declared.ids.ActId.{ActId}
use Rattle.wf_activities.proofs.Counting.{starts_some, starts_below, counted_more}
use Rattle.wf_activities.proofs.counts.count_all.Goals as goal

pub index_mut-requires : goal.index_mut-requires
index_mut-requires c =
    let s : ActId × ℕ = get_or c.args.fresh.now c.loop-start.start-index (record { 0 = 0 }, 0) in
    let within : s.0.0 < length c.args.counts.now.items = c.requires.wide s.0.0 (starts_some c.args.fresh.now c.loop-start.start-index (record { 0 = 0 }, 0) (omega arith)) in
    omega (arith, within, c.loop-start.invariant.long)

pub overflow_add-index_mut : goal.overflow_add-index_mut
overflow_add-index_mut c =
    let s : ActId × ℕ = get_or c.args.fresh.now c.loop-start.start-index (record { 0 = 0 }, 0) in
    let within : s.0.0 < length c.args.counts.now.items = c.requires.wide s.0.0 (starts_some c.args.fresh.now c.loop-start.start-index (record { 0 = 0 }, 0) (omega arith)) in
    let read : c.index_mut.result.now ≡ get_or c.loop-start.counts.items s.0.0 0 =
    c.index_mut.ensures.value ∙ get_or_default_zero c.loop-start.counts.items s.0.0 c.index_mut.result.now (omega (arith, within, c.loop-start.invariant.long)) in
    omega (arith, read, c.requires.room s.0.0, c.loop-start.invariant.made s.0.0, starts_below s.0.0 c.args.fresh.now c.loop-start.start-index (omega arith))

pub loop-start-preserved : goal.loop-start-preserved
loop-start-preserved c =
    let s : ActId × ℕ = get_or c.args.fresh.now c.loop-start.start-index (record { 0 = 0 }, 0) in
    let within : s.0.0 < length c.args.counts.now.items = c.requires.wide s.0.0 (starts_some c.args.fresh.now c.loop-start.start-index (record { 0 = 0 }, 0) (omega arith)) in
    let here : s.0.0 < length c.loop-start.counts.items = omega (arith, within, c.loop-start.invariant.long) in
    record {
      long = length-set c.loop-start.counts.items s.0.0 (c.index_mut.result.now + 1) ∙ c.loop-start.invariant.long;
      made = counted_more c.loop-start.counts.items c.args.fresh.now (λ (a : ℕ). get_or c.args.counts.now.items a 0) c.loop-start.start-index (record { 0 = 0 }, 0) c.index_mut.result.now (omega arith) here
          (c.index_mut.ensures.value ∙ get_or_default_zero c.loop-start.counts.items s.0.0 c.index_mut.result.now here) c.loop-start.invariant.made;
    }
