use Rattle.std.proofs.Common.{◌∙◌, ap, map, List}
use Rattle.wf_histories.specs.Histories.{History}
use Rattle.wf_worklist.specs.declared.listing.Item.{Item}
use Rattle.wf_worklist.specs.Worklists.{worklist_of}
use Rattle.wf_slot.proofs.Listing.{mark, marked_is}
use Rattle.wf_slot.proofs.slot.showing.items_of.Goals as goal

pub returns : goal.returns
returns c =
    c.in_ok-shown.ensures ∙ ap (λ (l : List Item). map mark l) (c.as_slice.ensures ∙ c.in_ok-list.ensures ∙ ap (λ (h : History). worklist_of c.items.result.now h) c.history.ensures.past)
    ∙ marked_is c.args.node.now.part c.args.node.now.past c.items.result.now c.items.ensures.items c.items.ensures.steps
