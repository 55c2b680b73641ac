-- Texts of states, a piece further on.
use Rattle.std.proofs.Common.{◌≡◌, ℕ, zero, suc, ◌+◌, ◌-◌, ◌<◌, ◌≤◌, ◌==◌, true, false, Bool, List, [], ◌∷◌, ◌++◌, length, flat_map, drop, slice_get, get_or, Some, None, Result, refl, sym, ◌∙◌, ap, arith, append-nil}
use Rattle.std.specs.Result.{OnOk}
use Rattle.std.proofs.lemmas.Result.{on_ok_weaker}
use Rattle.std.proofs.lemmas.List.{append_assoc, drop_all}
use Rattle.wf_model.specs.Limits.{max_depth}
use Rattle.wf_model.specs.declared.chart.Chart.{Chart}
use Rattle.wf_model.specs.declared.chart.State.{State}
use Rattle.wf_model.specs.Tree.{children}
use Rattle.wf_print.specs.States.{opening, closing, body, state_text, children_of}
use Rattle.wf_print.proofs.Gathered.{at_row}
use Rattle.wf_print.proofs.Written.{three_written}

-- the texts of these states, one level below
abbrev pub inner : Chart → ℕ → List ℕ → List ℕ
inner chart depth inside = flat_map (state_text chart (max_depth - (depth + 1)) (depth + 1)) inside

-- a state has its line and, between braces, the texts of its children
pub state_text-some : (chart : Chart) (depth s : ℕ) (state : State) → depth < max_depth → slice_get chart.states s ≡ Some state
    → state_text chart (max_depth - depth) depth s ≡ opening chart depth state ++ body depth (length (children chart s) == 0) (inner chart depth (children chart s))
unfolding state_text
state_text-some chart depth s state within is =
    let level : max_depth - depth ≡ suc (max_depth - (depth + 1)) = omega arith in
    rw (level, is) refl

pub none_written : (chart : Chart) (levels depth s : ℕ) (t : List ℕ) → slice_get chart.states s ≡ None → t ≡ t ++ state_text chart levels depth s
unfolding state_text
none_written chart zero depth s t is = sym (append-nil t)
none_written chart (suc levels) depth s t is = rw is (sym (append-nil t))

pub deep_written : (chart : Chart) (depth s : ℕ) (t : List ℕ) → depth ≡ max_depth → t ≡ t ++ state_text chart (max_depth - depth) depth s
unfolding state_text
deep_written chart depth s t deep = let level : max_depth - depth ≡ 0 = omega arith in rw level (sym (append-nil t))

-- what the table has of a state
pub table_row : (chart : Chart) (table : List (List ℕ)) (s : ℕ) → table ≡ children_of chart → s < length chart.states → get_or table s [] ≡ children chart s
unfolding children_of
table_row chart table s is within =
    let zeros : 0 + s ≡ s = omega arith in
    ap (λ (rows : List (List ℕ)). get_or rows s []) is ∙ at_row (children chart) 0 (length chart.states) s [] within ∙ ap (children chart) zeros

pub leaf_written : {E : Type 0} (r : Result (Unit {0}) E) (chart : Chart) (depth s : ℕ) (state : State) (inside t0 t1 t2 : List ℕ) → depth < max_depth → slice_get chart.states s ≡ Some state
    → inside ≡ children chart s → (length inside == 0) ≡ true → t1 ≡ t0 ++ opening chart depth state → OnOk r (t2 ≡ t1 ++ 59 ∷ 10 ∷ [])
    → OnOk r (t2 ≡ t0 ++ state_text chart (max_depth - depth) depth s)
leaf_written r chart depth s state inside t0 t1 t2 within is row leaf first last =
    let whole : state_text chart (max_depth - depth) depth s ≡ opening chart depth state ++ 59 ∷ 10 ∷ [] =
    state_text-some chart depth s state within is
    ∙ ap (λ (b : Bool). opening chart depth state ++ body depth b (inner chart depth (children chart s))) (ap (λ (ids : List ℕ). length ids == 0) (sym row) ∙ leaf) in
    on_ok_weaker r
    (λ (e : t2 ≡ t1 ++ 59 ∷ 10 ∷ []). e ∙ ap (λ (t : List ℕ). t ++ 59 ∷ 10 ∷ []) first ∙ append_assoc t0 (opening chart depth state) (59 ∷ 10 ∷ []) ∙ ap (λ (t : List ℕ). t0 ++ t) (sym whole))
    last

pub nest_written : {E : Type 0} (r : Result (Unit {0}) E) (chart : Chart) (depth s i : ℕ) (state : State) (inside t0 t1 t2 t3 t4 : List ℕ) → depth < max_depth → slice_get chart.states s ≡ Some state
    → inside ≡ children chart s → (length inside == 0) ≡ false → t1 ≡ t0 ++ opening chart depth state → t2 ≡ t1 ++ 32 ∷ 123 ∷ 10 ∷ []
    → t3 ++ inner chart depth (drop i inside) ≡ t2 ++ inner chart depth inside → length inside ≤ i → OnOk r (t4 ≡ t3 ++ closing depth)
    → OnOk r (t4 ≡ t0 ++ state_text chart (max_depth - depth) depth s)
nest_written r chart depth s i state inside t0 t1 t2 t3 t4 within is row some first second texts over last =
    let head = opening chart depth state ++ 32 ∷ 123 ∷ 10 ∷ [] in
    let between = inner chart depth inside in
    let whole : state_text chart (max_depth - depth) depth s ≡ head ++ between ++ closing depth =
    state_text-some chart depth s state within is
    ∙ ap (λ (ids : List ℕ). opening chart depth state ++ body depth (length ids == 0) (inner chart depth ids)) (sym row)
    ∙ ap (λ (b : Bool). opening chart depth state ++ body depth b between) some
    ∙ sym (ap (λ (t : List ℕ). t ++ closing depth) (append_assoc (opening chart depth state) (32 ∷ 123 ∷ 10 ∷ []) between)
    ∙ append_assoc (opening chart depth state) (32 ∷ 123 ∷ 10 ∷ [] ++ between) (closing depth)) in
    let opened : t2 ≡ t0 ++ head = second ∙ ap (λ (t : List ℕ). t ++ 32 ∷ 123 ∷ 10 ∷ []) first ∙ append_assoc t0 (opening chart depth state) (32 ∷ 123 ∷ 10 ∷ []) in
    let inner_done : t3 ≡ t2 ++ between = sym (append-nil t3) ∙ ap (λ (ids : List ℕ). t3 ++ inner chart depth ids) (sym (drop_all i inside over)) ∙ texts in
    three_written r t0 t2 t3 t4 head between (closing depth) (state_text chart (max_depth - depth) depth s) opened inner_done whole last
