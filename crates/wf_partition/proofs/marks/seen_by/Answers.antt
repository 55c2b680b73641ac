use Rattle.wf_partition.proofs.Concerned.{watched_row}
use Rattle.wf_partition.proofs.marks.seen_by.Goals as goal

pub returns : goal.returns
returns c = record {
  states = watched_row c.args.chart.now c.args.unit.0 c.args.concerned.now c.in_ok-reads.reads.states c.mark_sources.new.bits c.requires c.in_ok-reads.ensures.states c.mark_sources.ensures;
  vars = c.in_ok-reads.ensures.vars;
  acts = c.in_ok-reads.ensures.acts;
}
