use Rattle.std.proofs.Common.{◌≡◌, ◌++◌, drop, flat_map}
use lib.Chars.{codes}
use Rattle.wf_play.specs.Replies.{item_text, items_text}
use Rattle.wf_play.proofs.reply.append_items.Given as goal

abbrev pub invariant-loop-act : goal.invariant-loop-act
invariant-loop-act l =
    l.text ++ flat_map (λ item. codes " " ++ item_text l.chart item) (drop l.act-index l.items) ≡ l.fn.text ++ items_text l.chart l.items
