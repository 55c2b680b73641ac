-- Entries one by one.
use Rattle.std.proofs.Common.{◌≡◌, ◌∙◌, ◌<◌, ◌+◌, ◌++◌, ◌&&◌, ℕ, Bool, true, List, [], ◌∷◌, Result, length, get_or, take, drop, sym, ap, is_ok, arith}
use Rattle.std.proofs.lemmas.List.{take_more, drop_all, drop_more}
use Rattle.wf_model.specs.declared.chart.Chart.{Chart}
use Rattle.wf_model.specs.declared.outer.Entry.{Entry}
use Rattle.wf_model.specs.declared.outer.OuterFault.{OuterFault}
use Rattle.wf_semantics.specs.Items.{Item}
use Rattle.wf_semantics.specs.Admission.{may_be_admitted, may_come_after}

-- those from this place on may come behind those before it
abbrev pub rest_may_come : Chart → (ℕ → List Item) → List Entry → ℕ → Bool
rest_may_come chart items xs at = may_come_after chart items (take at xs) (drop at xs)

one_comes : (chart : Chart) (items : ℕ → List Item) (xs : List Entry) (at : ℕ) (x : Entry) → at < length xs → x ≡ get_or xs at x
    → rest_may_come chart items xs at ≡ (is_ok (may_be_admitted chart items (take at xs) x.unit.0 x.outer) && rest_may_come chart items xs (at + 1))
one_comes chart items xs at x lt is =
    ap (may_come_after chart items (take at xs)) (drop_more xs at x lt ∙ ap (λ (y : Entry). y ∷ drop (at + 1) xs) (sym is))
    ∙ ap (λ (ps : List Entry). is_ok (may_be_admitted chart items (take at xs) x.unit.0 x.outer) && may_come_after chart items ps (drop (at + 1) xs))
    (sym (take_more xs at x lt ∙ ap (λ (y : Entry). take at xs ++ y ∷ []) (sym is)))

-- the entry at a place, by the answer of its admission
pub next_comes : (chart : Chart) (items : ℕ → List Item) (xs : List Entry) (at : ℕ) (x : Entry) (answer : Result (Unit {0}) OuterFault) (admitted : Bool) → at < length xs → x ≡ get_or xs at x
    → answer ≡ may_be_admitted chart items (take at xs) x.unit.0 x.outer → is_ok answer ≡ admitted → (admitted && rest_may_come chart items xs (at + 1)) ≡ rest_may_come chart items xs at
next_comes chart items xs at x answer admitted lt is e ok =
    sym (one_comes chart items xs at x lt is ∙ ap (λ (b : Bool). b && rest_may_come chart items xs (at + 1)) (sym (ap is_ok e) ∙ ok))

-- behind the last entry none is left
pub none_left : (chart : Chart) (items : ℕ → List Item) (xs : List Entry) (at : ℕ) → at ≡ length xs → true ≡ rest_may_come chart items xs at
none_left chart items xs at e = sym (ap (may_come_after chart items (take at xs)) (drop_all at xs (omega (arith, e))))
