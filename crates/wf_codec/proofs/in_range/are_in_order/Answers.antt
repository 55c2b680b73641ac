use Rattle.std.proofs.Common.{◌≤◌, ◌∙◌, length, sym, rules}
use Rattle.wf_codec.proofs.Ordered.{order_ends}
use Rattle.wf_codec.proofs.in_range.are_in_order.Goals as goal

pub returns : goal.returns
returns g c =
    let end : length c.args.items.now ≤ c.loop-at.at = search rules in
    sym (order_ends g.T.Ordered.before c.args.items.now c.loop-at.at end) ∙ c.loop-at.invariant
