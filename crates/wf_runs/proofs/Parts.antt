-- Entries and steps, one list behind another.
use Rattle.std.proofs.Common.{◌≡◌, ◌&&◌, Bool, true, false, List, [], ◌∷◌, ◌++◌, refl, sym, ap, ◌∙◌, append_assoc}
use Rattle.std.specs.Prelude.{is_ok}
use Rattle.std.proofs.lemmas.List.{append-nil}
use Rattle.wf_model.specs.declared.chart.Chart.{Chart}
use Rattle.wf_model.specs.declared.outer.Entry.{Entry}
use Rattle.wf_semantics.specs.Run.{CentralState, next_state, after_steps}
use Rattle.wf_semantics.specs.Admission.{may_be_admitted, may_come_after, may_come}
use Rattle.wf_runs.specs.Runs.{IsRunFrom}

and_assoc : (p q r : Bool) → (p && (q && r)) ≡ ((p && q) && r)
and_assoc true q r = refl
and_assoc false q r = refl

-- entries may come where the first of them may, and then the others behind these
pub comes_in_parts : (chart : Chart) (c : CentralState) (pending xs ys : List Entry) →
    may_come_after chart c.items pending (xs ++ ys) ≡ (may_come_after chart c.items pending xs && may_come_after chart c.items (pending ++ xs) ys)
comes_in_parts chart c pending [] ys = ap (λ (before : List Entry). may_come_after chart c.items before ys) (sym (append-nil pending))
comes_in_parts chart c pending (x ∷ xs) ys =
    ap (λ (b : Bool). is_ok (may_be_admitted chart c.items pending x.unit.0 x.outer) && b)
    (comes_in_parts chart c (pending ++ x ∷ []) xs ys
    ∙ ap (λ (before : List Entry). may_come_after chart c.items (pending ++ x ∷ []) xs && may_come_after chart c.items before ys) (append_assoc pending (x ∷ []) xs))
    ∙ and_assoc (is_ok (may_be_admitted chart c.items pending x.unit.0 x.outer)) (may_come_after chart c.items (pending ++ x ∷ []) xs) (may_come_after chart c.items (pending ++ x ∷ xs) ys)

pub step_comes_in_parts : (chart : Chart) (c : CentralState) (xs ys : List Entry) → may_come chart c.items (xs ++ ys) ≡ (may_come chart c.items xs && may_come_after chart c.items xs ys)
step_comes_in_parts chart c xs ys = comes_in_parts chart c [] xs ys

-- the state after some steps and then others
pub steps_in_parts : (chart : Chart) (c : CentralState) (xs ys : List (List Entry)) → after_steps chart c (xs ++ ys) ≡ after_steps chart (after_steps chart c xs) ys
steps_in_parts chart c [] ys = refl
steps_in_parts chart c (entries ∷ xs) ys = steps_in_parts chart (next_state chart c entries) xs ys

-- a run is one of its first steps, and goes on from where these lead
pub run_in_parts : (chart : Chart) (c : CentralState) (xs ys : List (List Entry)) → IsRunFrom chart c (xs ++ ys) → IsRunFrom chart c xs × IsRunFrom chart (after_steps chart c xs) ys
run_in_parts chart c [] ys h = (tt, h)
run_in_parts chart c (entries ∷ xs) ys h = let r = run_in_parts chart (next_state chart c entries) xs ys h.1 in ((h.0, r.0), r.1)

pub run_from_parts : (chart : Chart) (c : CentralState) (xs ys : List (List Entry)) → IsRunFrom chart c xs → IsRunFrom chart (after_steps chart c xs) ys → IsRunFrom chart c (xs ++ ys)
run_from_parts chart c [] ys h k = k
run_from_parts chart c (entries ∷ xs) ys h k = (h.0, run_from_parts chart (next_state chart c entries) xs ys h.1 k)
