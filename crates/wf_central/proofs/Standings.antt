-- How the entries of a run are put in order, and where it begins.
use Rattle.std.proofs.Common.{◌≡◌, ℕ, ◌+◌, ◌++◌, ◌∙◌, ap, List, [], ◌∷◌, flat_map, append-nil}
use Rattle.std.proofs.lemmas.Grind.{flat_map-append}
use Rattle.std.specs.List.{range_with_len}
use Rattle.wf_model.specs.declared.chart.Chart.{Chart}
use Rattle.wf_model.proofs.Rows.{range_more}
use Rattle.wf_semantics.specs.Run.{CentralState, first_state}
use Rattle.wf_central.specs.Kept.{Kept, central_of}

-- one more number makes one more piece
pub pieces_more : {A : Type 0} (f : ℕ → List A) (n : ℕ) → flat_map f (range_with_len 0 (n + 1)) ≡ flat_map f (range_with_len 0 n) ++ f n
pieces_more {A} f n =
    ap (flat_map f) (range_more n) ∙ flat_map-append f (range_with_len 0 n) (n ∷ []) ∙ ap (λ (l : List A). flat_map f (range_with_len 0 n) ++ l) (append-nil (f n))

-- no step was taken at first
pub none_taken : (chart : Chart) (k : Kept) → central_of chart k ≡ first_state chart → k.taken ≡ 0
unfolding central_of first_state
none_taken chart k e = ap (λ (c : CentralState). c.taken) e
