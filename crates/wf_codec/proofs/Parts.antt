-- An update's spelling, put together from its parts.
use Rattle.std.proofs.Common.{◌≡◌, ℕ, List, ◌∷◌, ◌++◌, ap, append_assoc}
use Rattle.wf_model.specs.declared.update.Update.{Update}
use Rattle.wf_codec.specs.Tags.{update_tag}
use Rattle.wf_codec.specs.Spelling.{four, listed, state_spelling, write_spelling, event_spelling, start_spelling, trans_spelling, outer_spelling, spelling_of}
use Rattle.wf_codec.specs.Parts.{changes_spelling, rest_spelling}

regroup : (a b c d : List ℕ) → a ++ (b ++ (c ++ d)) ≡ (a ++ (b ++ c)) ++ d
regroup a b c d = simp append_assoc

-- the tag, the unit and the step, and then the two halves
pub update_spelling : (u : Update) → spelling_of u ≡ update_tag ∷ u.from.0 ∷ four u.step ++ (changes_spelling u ++ rest_spelling u)
unfolding spelling_of changes_spelling rest_spelling
update_spelling u = ap (λ (x : List ℕ). update_tag ∷ u.from.0 ∷ four u.step ++ x) (regroup (listed state_spelling u.flips) (listed write_spelling u.writes) (listed event_spelling u.raised) (listed start_spelling u.starts ++ (listed trans_spelling u.fired ++ listed outer_spelling u.outer)))
