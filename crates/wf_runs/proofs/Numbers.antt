-- Items are starts, and their numbers.
use Rattle.std.proofs.Common.{◌≡◌, ℕ, zero, suc, ◌+◌, ◌==◌, ◌++◌, cond, Bool, true, false, List, [], ◌∷◌, Option, Some, None, length, map, filter, refl, sym, ◌∙◌, ap, ap₂, arith, eqb-true, true≢false, append_assoc}
use Rattle.std.specs.List.{slice_get, range_with_len, zip}
use Rattle.std.specs.Option.{option_map, option_map_or}
use Rattle.std.proofs.lemmas.List.{append-nil, map-append, length-map}
use Rattle.std.proofs.lemmas.Option.{slice_get-map}
use Rattle.std.proofs.lemmas.Simd.{map-map}
use Rattle.wf_model.specs.declared.ids.ActId.{ActId}
use Rattle.wf_model.specs.declared.chart.Chart.{Chart}
use Rattle.wf_model.specs.declared.outer.Entry.{Entry}
use Rattle.wf_model.specs.declared.update.StartAt.{StartAt}
use Rattle.wf_semantics.specs.Effects.{starts_of}
use Rattle.wf_semantics.specs.Items.{Item, Completion, new_item, item_at, close, close_all}
use Rattle.wf_semantics.specs.Run.{CentralState, first_state, next_state, after_steps, central_run, fired_in, started_in, act_unit, is_at, items_closed, completions_at, numbered}
use Rattle.wf_semantics.specs.Admission.{is_act_at}
use Rattle.wf_runs.specs.Starts.{StartIn, in_step, starts_at, starts_along, all_starts, start_at, started_at}

-- the activities of items, and of starts
abbrev pub acts : List Item → List ActId
acts items = map (λ x. x.act) items

abbrev pub acts_started : List StartIn → List ActId
acts_started starts = map (λ s. s.start.act) starts

close_keeps_acts : (n : ℕ) (items : List Item) → acts (close n items) ≡ acts items
close_keeps_acts n [] = refl
close_keeps_acts zero (x ∷ xs) = refl
close_keeps_acts (suc zero) (x ∷ xs) = refl
close_keeps_acts (suc (suc n)) (x ∷ xs) = ap (λ (l : List ActId). x.act ∷ l) (close_keeps_acts (suc n) xs)

pub closing_keeps_acts : (cs : List Completion) (items : List Item) → acts (close_all cs items) ≡ acts items
closing_keeps_acts [] items = refl
closing_keeps_acts (c ∷ cs) items = closing_keeps_acts cs (close c.item items) ∙ close_keeps_acts c.item items

module _ (chart : Chart) where
  pub next_taken : (c : CentralState) (entries : List Entry) → (next_state chart c entries).taken ≡ c.taken + 1
  unfolding next_state
  next_taken c entries = refl

  taken_along : (c : CentralState) (steps : List (List Entry)) → (after_steps chart c steps).taken ≡ c.taken + length steps
  taken_along c [] = omega arith
  taken_along c (entries ∷ steps) = omega (arith, taken_along (next_state chart c entries) steps, next_taken c entries)

  taken_first : (first_state chart).taken ≡ 0
  unfolding first_state
  taken_first = refl

  module _ (u : ℕ) where
    next_acts : (c : CentralState) (entries : List Entry) → acts ((next_state chart c entries).items u) ≡ acts (c.items u) ++ map (λ s. s.act) (starts_at chart u c entries)
    unfolding next_state
    next_acts c entries =
        map-append (λ (x : Item). x.act) (items_closed c.items entries u) (map (λ s. new_item s.act) (starts_at chart u c entries))
        ∙ ap₂ (λ (l m : List ActId). l ++ m) (closing_keeps_acts (completions_at u entries) (c.items u)) (map-map (λ (x : Item). x.act) (λ (s : StartAt). new_item s.act) (starts_at chart u c entries))

    step_acts : (k : ℕ) (starts : List StartAt) (more : List StartIn) → acts_started (map (in_step k) starts ++ more) ≡ map (λ s. s.act) starts ++ acts_started more
    step_acts k starts more =
        map-append (λ (s : StartIn). s.start.act) (map (in_step k) starts) more
        ∙ ap (λ (l : List ActId). l ++ acts_started more) (map-map (λ (s : StartIn). s.start.act) (in_step k) starts)

    acts_along : (c : CentralState) (steps : List (List Entry)) → acts ((after_steps chart c steps).items u) ≡ acts (c.items u) ++ acts_started (starts_along chart u c steps)
    acts_along c [] = sym (append-nil (acts (c.items u)))
    acts_along c (entries ∷ steps) =
        acts_along (next_state chart c entries) steps
        ∙ ap (λ (l : List ActId). l ++ acts_started (starts_along chart u (next_state chart c entries) steps)) (next_acts c entries)
        ∙ append_assoc (acts (c.items u)) (map (λ s. s.act) (starts_at chart u c entries)) (acts_started (starts_along chart u (next_state chart c entries) steps))
        ∙ ap (λ (l : List ActId). acts (c.items u) ++ l) (sym (step_acts (c.taken + 1) (starts_at chart u c entries) (starts_along chart u (next_state chart c entries) steps)))

    none_first : (first_state chart).items u ≡ []
    unfolding first_state
    none_first = refl

    -- the activities of a unit's items are those of its starts, in order
    pub acts_of_run : (steps : List (List Entry)) → acts ((central_run chart steps).items u) ≡ acts_started (all_starts chart u steps)
    acts_of_run steps = acts_along (first_state chart) steps ∙ ap (λ (l : List Item). acts l ++ acts_started (all_starts chart u steps)) none_first

    pub as_many : (steps : List (List Entry)) → length ((central_run chart steps).items u) ≡ length (all_starts chart u steps)
    as_many steps =
        sym (length-map ((central_run chart steps).items u) (λ x. x.act))
        ∙ ap length (acts_of_run steps)
        ∙ length-map (all_starts chart u steps) (λ s. s.start.act)

    pub same_acts : (steps : List (List Entry)) (n : ℕ) → option_map (λ x. x.act) (item_at ((central_run chart steps).items u) n) ≡ option_map (λ s. s.start.act) (start_at (all_starts chart u steps) n)
    same_acts steps zero = refl
    same_acts steps (suc n) =
        sym (slice_get-map (λ (x : Item). x.act) ((central_run chart steps).items u) n)
        ∙ ap (λ (l : List ActId). slice_get l n) (acts_of_run steps)
        ∙ slice_get-map (λ (s : StartIn). s.start.act) (all_starts chart u steps) n

    starts_in_parts : (c : CentralState) (xs ys : List (List Entry)) → starts_along chart u c (xs ++ ys) ≡ starts_along chart u c xs ++ starts_along chart u (after_steps chart c xs) ys
    starts_in_parts c [] ys = refl
    starts_in_parts c (entries ∷ xs) ys =
        ap (λ (l : List StartIn). map (in_step (c.taken + 1)) (starts_at chart u c entries) ++ l) (starts_in_parts (next_state chart c entries) xs ys)
        ∙ sym (append_assoc (map (in_step (c.taken + 1)) (starts_at chart u c entries)) (starts_along chart u (next_state chart c entries) xs) (starts_along chart u (after_steps chart c (entries ∷ xs)) ys))

    pub starts_go_on : (steps : List (List Entry)) (entries : List Entry) →
        all_starts chart u (steps ++ entries ∷ []) ≡ all_starts chart u steps ++ map (in_step (length steps + 1)) (starts_at chart u (central_run chart steps) entries)
    starts_go_on steps entries =
        let k : (central_run chart steps).taken + 1 ≡ length steps + 1 = omega (arith, taken_along (first_state chart) steps, taken_first) in
        starts_in_parts (first_state chart) steps (entries ∷ [])
        ∙ ap (λ (l : List StartIn). all_starts chart u steps ++ l) (append-nil (map (in_step ((central_run chart steps).taken + 1)) (starts_at chart u (central_run chart steps) entries)))
        ∙ ap (λ (m : ℕ). all_starts chart u steps ++ map (in_step m) (starts_at chart u (central_run chart steps) entries)) k

    front_at : (xs ys : List StartIn) (n : ℕ) (s : StartIn) → start_at xs n ≡ Some s → start_at (xs ++ ys) n ≡ Some s
    front_at xs ys zero s e = e
    front_at [] ys (suc n) s e = absurd (none e)
      where
        none : None ≡ Some s → ⊥
        none q = cc
    front_at (x ∷ xs) ys (suc zero) s e = e
    front_at (x ∷ xs) ys (suc (suc n)) s e = front_at xs ys (suc n) s e

    pub starts_keep_numbers : (steps more : List (List Entry)) (n : ℕ) (s : StartIn) → start_at (all_starts chart u steps) n ≡ Some s → start_at (all_starts chart u (steps ++ more)) n ≡ Some s
    starts_keep_numbers steps more n s e =
        ap (λ (l : List StartIn). start_at l n) (starts_in_parts (first_state chart) steps more)
        ∙ front_at (all_starts chart u steps) (starts_along chart u (central_run chart steps) more) n s e

    number_of : (before : ℕ → ℕ) (o : Option ℕ) → option_map_or (λ v. v == u) o false ≡ true → option_map_or before o 0 ≡ before u
    number_of before None h = absurd (true≢false (sym h))
    number_of before (Some v) h = ap before (eqb-true v u h)

    -- at unit u the starts have the numbers that follow
    numbered_at : (before : ℕ → ℕ) (starts : List StartAt) →
        filter (λ s. is_act_at chart u s.0.0) (numbered chart before starts)
        ≡ zip (map (λ s. s.act) (filter (is_at chart u) starts)) (range_with_len (before u + 1) (length (filter (is_at chart u) starts)))
    numbered_at before [] = refl
    numbered_at before (s ∷ starts) = go (is_at chart u s) refl (numbered_at after starts)
      where
        after : ℕ → ℕ
        after = λ v. cond (is_at chart v s) (before v + 1) (before v)

        rest : List (ActId × ℕ)
        rest = filter (λ s. is_act_at chart u s.0.0) (numbered chart after starts)

        here : List StartAt
        here = filter (is_at chart u) starts

        go : (b : Bool) → is_at chart u s ≡ b → rest ≡ zip (map (λ s. s.act) here) (range_with_len (cond (is_at chart u s) (before u + 1) (before u) + 1) (length here)) →
            cond b ((s.act, option_map_or before (act_unit chart s.act.0) 0 + 1) ∷ rest) rest
            ≡ zip (map (λ s. s.act) (cond b (s ∷ here) here)) (range_with_len (before u + 1) (length (cond b (s ∷ here) here)))
        go true e ih =
            ap₂ (λ (k : ℕ) (l : List (ActId × ℕ)). (s.act, k + 1) ∷ l) (number_of before (act_unit chart s.act.0) e)
            (ih ∙ ap (λ (b : Bool). zip (map (λ s. s.act) here) (range_with_len (cond b (before u + 1) (before u) + 1) (length here))) e)
        go false e ih = ih ∙ ap (λ (b : Bool). zip (map (λ s. s.act) here) (range_with_len (cond b (before u + 1) (before u) + 1) (length here))) e

    pub numbers_go_on : (steps : List (List Entry)) (entries : List Entry) →
        started_at chart u (central_run chart steps) entries
        ≡ zip (map (λ s. s.act) (starts_at chart u (central_run chart steps) entries))
        (range_with_len (length (all_starts chart u steps) + 1) (length (starts_at chart u (central_run chart steps) entries)))
    unfolding started_in
    numbers_go_on steps entries =
        numbered_at (λ v. length ((central_run chart steps).items v)) (starts_of chart (fired_in chart (central_run chart steps) entries))
        ∙ ap (λ (k : ℕ). zip (map (λ s. s.act) (starts_at chart u (central_run chart steps) entries)) (range_with_len (k + 1) (length (starts_at chart u (central_run chart steps) entries)))) (as_many steps)

  numbered_acts : (before : ℕ → ℕ) (starts : List StartAt) → map (λ s. s.0) (numbered chart before starts) ≡ map (λ s. s.act) starts
  numbered_acts before [] = refl
  numbered_acts before (s ∷ starts) = ap (λ (l : List ActId). s.act ∷ l) (numbered_acts (λ v. cond (is_at chart v s) (before v + 1) (before v)) starts)

  -- a step tells its starts in order
  pub tells_starts : (c : CentralState) (entries : List Entry) → map (λ s. s.0) (started_in chart c entries) ≡ map (λ s. s.act) (starts_of chart (fired_in chart c entries))
  unfolding started_in
  tells_starts c entries = numbered_acts (λ v. length (c.items v)) (starts_of chart (fired_in chart c entries))
