use Rattle.std.proofs.Common.{◌∙◌}
use Rattle.wf_updates.proofs.Pairs.{table_told}
use Rattle.wf_updates.proofs.tables.table_of.Goals as goal

pub returns : goal.returns
returns g c =
    table_told c.args.pairs.now c.from_vec.result c.in_ok-numbers.numbers.items c.as_slice.result.now c.past_numbers.result
    c.in_ok-numbers.ensures c.as_slice.ensures.value c.past_numbers.ensures (c.from_vec.ensures ∙ c.in_ok-firsts.ensures)
