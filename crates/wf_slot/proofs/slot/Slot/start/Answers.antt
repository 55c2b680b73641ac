use Rattle.wf_slot.proofs.Starts.{is_new, is_kept, seven, ran_out}
use Rattle.wf_slot.proofs.slot.Slot.start.Goals as goal

pub invariant_of-result : goal.invariant_of-result
invariant_of-result c = is_kept c.args.part c.new.result c.new.ensures c.in-Ok.node c.in-Ok.ensures.started c.in-Ok.ensures.history (c.in-Ok.ensures.runs.done (λ e. e)) c.disk-disk.ensures.stands

pub returns-in-Ok-clause-new : goal.returns-in-Ok-clause-new
returns-in-Ok-clause-new c = is_new c.args.part c.new.result c.new.ensures c.in-Ok.node c.in-Ok.ensures.started c.in-Ok.ensures.history

pub returns-in-Ok-clause-clock : goal.returns-in-Ok-clause-clock
returns-in-Ok-clause-clock c = seven c.args.part c.new.result c.new.ensures c.in-Ok.node c.in-Ok.ensures.started c.in-Ok.ensures.history c.in-Ok.ensures.strokes

pub want_of_memory-requires : goal.want_of_memory-requires
want_of_memory-requires c = ran_out c.args.part c.new.result c.new.ensures c.in-Err.refused.disk c.in-Err.refused.fault c.in-Err.ensures.refused c.in-Err.ensures.runs_refused
