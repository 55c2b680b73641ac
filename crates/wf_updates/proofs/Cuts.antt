-- Outers and updates, cut piece by piece.
use Rattle.std.proofs.Common.{◌≡◌, ◌↔◌, ◌<◌, ◌+◌, ◌==◌, ◌&&◌, ◌||◌, ℕ, IsTrue, Bool, true, false, not, cond, List, [], ◌∷◌, ◌++◌, length, take, get_or, filter, filter_map, Option, Some, None, refl, sym, ap, ◌∙◌, true≢false, eqb-true, arith}
use Rattle.std.specs.List.{list_any, cons_option}
use Rattle.std.proofs.lemmas.List.{take_more, append-nil}
use Rattle.std.proofs.lemmas.List.Elements.{filter_map-append}
use Rattle.wf_model.specs.declared.ids.StateId.{StateId}
use Rattle.wf_model.specs.declared.ids.EventId.{EventId}
use Rattle.wf_model.specs.declared.ids.ActId.{ActId}
use Rattle.wf_model.specs.declared.ids.TransId.{TransId}
use Rattle.wf_model.specs.declared.outer.Output.{Output}
use Rattle.wf_model.specs.declared.outer.Outer.{Outer}
use Rattle.wf_model.specs.declared.outer.Outer.TheVariants.{Complete}
use Rattle.wf_model.specs.declared.update.Write.{Write}
use Rattle.wf_model.specs.declared.update.StartAt.{StartAt}
use Rattle.wf_model.specs.declared.update.Update.{Update}
use Rattle.wf_parts.specs.Peers.{Knowledge}
use Rattle.wf_views.specs.Knowledge.{cut_outer}
use Rattle.wf_views.specs.Relevant.{cut_update}
use Rattle.wf_updates.specs.Tables.{is_bare}

-- a list of which nothing passes
none_passes : {A : Type 0} (p : A → Bool) (xs : List A) → list_any p xs ≡ false → filter p xs ≡ []
none_passes p [] h = refl
none_passes {A = A} p (x ∷ xs) h = go (p x) h (none_passes p xs)
  where
    go : (b : Bool) → (b || list_any p xs) ≡ false → (list_any p xs ≡ false → filter p xs ≡ []) → cond b (x ∷ filter p xs) (filter p xs) ≡ []
    go true e rest = absurd (true≢false e)
    go false e rest = rest e

some_passes : {A : Type 0} (p : A → Bool) (xs : List A) → list_any p xs ≡ true → filter p xs ≡ [] → ⊥
some_passes p [] h e = true≢false (sym h)
some_passes {A = A} p (x ∷ xs) h e = go (p x) h e (some_passes p xs)
  where
    go : (b : Bool) → (b || list_any p xs) ≡ true → cond b (x ∷ filter p xs) (filter p xs) ≡ [] → (list_any p xs ≡ true → filter p xs ≡ [] → ⊥) → ⊥
    go true k f rest = cc
    go false k f rest = rest k f

-- whether a completion stays, by what is left of its outputs
pub passes_by_rest : (known : Knowledge) (outputs rest : List Output) (empty : Bool) → rest ≡ filter (λ o. known.vars o.var.0) outputs → (IsTrue empty ↔ (rest ≡ []))
    → list_any (λ o. known.vars o.var.0) outputs ≡ not empty
passes_by_rest known outputs rest empty cut same = go (list_any (λ o. known.vars o.var.0) outputs) refl empty same
  where
    go : (b : Bool) → list_any (λ o. known.vars o.var.0) outputs ≡ b → (e : Bool) → (IsTrue e ↔ (rest ≡ [])) → b ≡ not e
    go true h true s = absurd (some_passes (λ o. known.vars o.var.0) outputs h (sym cut ∙ s.0 refl))
    go true h false s = refl
    go false h true s = refl
    go false h false s = absurd (true≢false (sym (s.1 (cut ∙ none_passes (λ o. known.vars o.var.0) outputs h))))

pub or_first : (a b c : Bool) → a ≡ true → (a || b) ≡ true
or_first true b c h = refl
or_first false b c h = absurd (true≢false (sym h))

pub or_second : (a b c : Bool) → a ≡ false → b ≡ c → (a || b) ≡ c
or_second true b c h k = absurd (true≢false h)
or_second false b c h k = k

-- a completion that stays, and one that is left out

pub completion_kept : (known : Knowledge) (item : ℕ) (act : ActId) (outputs rest : List Output) → rest ≡ filter (λ o. known.vars o.var.0) outputs
    → (known.acts act.0 || list_any (λ o. known.vars o.var.0) outputs) ≡ true → Some (Complete item act rest) ≡ cut_outer known (Complete item act outputs)
completion_kept known item act outputs rest cut h =
    ap (λ (l : List Output). Some (Complete item act l)) cut
    ∙ sym (ap (λ (b : Bool). cond b (Some (Complete item act (filter (λ o. known.vars o.var.0) outputs))) None) h)

pub completion_left : (known : Knowledge) (item : ℕ) (act : ActId) (outputs : List Output)
    → (known.acts act.0 || list_any (λ o. known.vars o.var.0) outputs) ≡ false → None ≡ cut_outer known (Complete item act outputs)
completion_left known item act outputs h =
    sym (ap (λ (b : Bool). cond b (Some (Complete item act (filter (λ o. known.vars o.var.0) outputs))) None) h)

-- one item more of what is mapped and kept

pub kept_more : {A B : Type 0} (f : A → Option B) (xs : List A) (i : ℕ) (x : A) (y : B) (old new : List B) → i < length xs → x ≡ get_or xs i x → f x ≡ Some y
    → old ≡ filter_map f (take i xs) → new ≡ old ++ y ∷ [] → new ≡ filter_map f (take (i + 1) xs)
kept_more {A = A} {B = B} f xs i x y old new lt is gives before now =
    now ∙ ap (λ (l : List B). l ++ y ∷ []) before
    ∙ sym (ap (filter_map f) (take_more xs i x lt ∙ ap (λ (z : A). take i xs ++ z ∷ []) (sym is)) ∙ filter_map-append f (take i xs) (x ∷ [])
    ∙ ap (λ (o : Option B). filter_map f (take i xs) ++ cons_option o []) gives)

pub left_more : {A B : Type 0} (f : A → Option B) (xs : List A) (i : ℕ) (x : A) (old : List B) → i < length xs → x ≡ get_or xs i x → f x ≡ None
    → old ≡ filter_map f (take i xs) → old ≡ filter_map f (take (i + 1) xs)
left_more {A = A} {B = B} f xs i x old lt is gives before =
    before
    ∙ sym (ap (filter_map f) (take_more xs i x lt ∙ ap (λ (z : A). take i xs ++ z ∷ []) (sym is)) ∙ filter_map-append f (take i xs) (x ∷ [])
    ∙ ap (λ (o : Option B). filter_map f (take i xs) ++ cons_option o []) gives ∙ append-nil (filter_map f (take i xs)))

-- an update of cut lists
pub update_made : (known : Knowledge) (update : Update) (flips : List StateId) (writes : List Write) (raised : List EventId) (starts : List StartAt) (fired : List TransId) (outer : List Outer)
    → flips ≡ filter (λ s. known.states s.0) update.flips → writes ≡ filter (λ write. known.vars write.var.0) update.writes → raised ≡ filter (λ e. known.events e.0) update.raised
    → starts ≡ filter (λ start. known.acts start.act.0) update.starts → fired ≡ [] → outer ≡ filter_map (cut_outer known) update.outer
    → let cut : Update = record { from = update.from; step = update.step; flips = flips; writes = writes; raised = raised; starts = starts; fired = fired; outer = outer } in cut ≡ cut_update known update
unfolding cut_update
update_made known update flips writes raised starts fired outer f w r s d o =
    λ i. record { from = update.from; step = update.step; flips = f i; writes = w i; raised = r i; starts = s i; fired = d i; outer = o i }

-- an update that has nothing is cut to the same by whatever is known

no_item : {A : Type 0} (xs : List A) → (length xs == 0) ≡ true → xs ≡ []
no_item [] e = refl
no_item (x ∷ xs) e = let zero : length (x ∷ xs) ≡ 0 = eqb-true (length (x ∷ xs)) 0 e in absurd (omega (arith, zero))

both_true : (a b : Bool) → (a && b) ≡ true → (a ≡ true) × (b ≡ true)
both_true true b e = (refl, e)
both_true false b e = absurd (true≢false (sym e))

same_filter : {A : Type 0} (p q : A → Bool) (xs : List A) → (length xs == 0) ≡ true → filter p xs ≡ filter q xs
same_filter p q xs e = let none = no_item xs e in ap (filter p) none ∙ sym (ap (filter q) none)

pub bare_cut : (known other : Knowledge) (update : Update) → is_bare update ≡ true → cut_update known update ≡ cut_update other update
unfolding cut_update
bare_cut known other update bare =
    let a = both_true ((((length update.flips == 0) && (length update.writes == 0)) && (length update.raised == 0)) && (length update.starts == 0)) (length update.outer == 0) bare in
    let b = both_true (((length update.flips == 0) && (length update.writes == 0)) && (length update.raised == 0)) (length update.starts == 0) a.0 in
    let d = both_true ((length update.flips == 0) && (length update.writes == 0)) (length update.raised == 0) b.0 in
    let e = both_true (length update.flips == 0) (length update.writes == 0) d.0 in
    let none = no_item update.outer a.1 in
    update_made other update (filter (λ s. known.states s.0) update.flips) (filter (λ write. known.vars write.var.0) update.writes) (filter (λ e. known.events e.0) update.raised) (filter (λ start. known.acts start.act.0) update.starts) []
    (filter_map (cut_outer known) update.outer) (same_filter (λ s. known.states s.0) (λ s. other.states s.0) update.flips e.0)
    (same_filter (λ write. known.vars write.var.0) (λ write. other.vars write.var.0) update.writes e.1) (same_filter (λ e. known.events e.0) (λ e. other.events e.0) update.raised d.1)
    (same_filter (λ start. known.acts start.act.0) (λ start. other.acts start.act.0) update.starts b.1) refl
    (ap (filter_map (cut_outer known)) none ∙ sym (ap (filter_map (cut_outer other)) none))
