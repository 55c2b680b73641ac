use Rattle.std.proofs.Common.{◌≡◌, ◌++◌, take}
use Rattle.std.specs.List.{flat_map}
use Rattle.wf_codec.proofs.spelling.spell_items.Given as goal

-- the items so far are spelled
abbrev pub invariant-loop-item : goal.invariant-loop-item
invariant-loop-item g l = l.bytes.items ≡ l.fn.bytes.items ++ flat_map g.T.Spell.spelling (take l.item-index l.items)
