use Rattle.std.proofs.Common.{◌≡◌, ◌++◌, drop, flat_map}
use Rattle.wf_play.specs.Ending.{place_text}
use Rattle.wf_play.proofs.ending.append_places.Given as goal

abbrev pub invariant-loop-place : goal.invariant-loop-place
invariant-loop-place l = l.text ++ flat_map (place_text l.chart) (drop l.place-index l.places) ≡ l.fn.text ++ flat_map (place_text l.chart) l.places
