-- What is gathered from the fired transitions is what the definitions of a step's effects say.
use Rattle.std.proofs.Common.{◌≡◌, ℕ, zero, suc, ◌+◌, ◌<◌, ◌==◌, ◌&&◌, ◌||◌, Bool, true, false, List, [], ◌∷◌, ◌++◌, length, map, filter, get_or, set, replicate, Ok, Err, Result, Option, Some, None, unwrap_or, slice_get, refl, sym, ap, ◌∙◌, subst, arith, eqb-true, append_assoc, append-nil}
use Rattle.std.specs.List.{list_any, list_all, range_with_len}
use Rattle.std.specs.Option.{option_map}
use Rattle.std.proofs.lemmas.List.{length-replicate, get_or-replicate, get_or-set_same, get_or-set_other}
use Rattle.std.proofs.lemmas.Bool.{eqb-false}
use Rattle.std.proofs.lemmas.Bool.Decides.{nat_tests}
use Rattle.wf_model.specs.declared.ids.EventId.{EventId}
use Rattle.wf_model.specs.declared.value.Val.{Val}
use Rattle.wf_model.specs.declared.value.Sort.{Sort}
use Rattle.wf_model.specs.declared.expr.Fault.{Fault}
use Rattle.wf_model.specs.declared.chart.Action.{Action}
use Rattle.wf_model.specs.declared.chart.Action.TheVariants.{Assign, Raise, Start}
use Rattle.wf_model.specs.declared.chart.Transition.{Transition}
use Rattle.wf_model.specs.declared.chart.Variable.{Variable}
use Rattle.wf_model.specs.declared.chart.Chart.{Chart}
use Rattle.wf_model.specs.declared.update.StartAt.{StartAt}
use Rattle.wf_model.specs.Seen.{Seen, val_sort}
use Rattle.wf_model.specs.Sorts.{var_sort}
use Rattle.wf_model.specs.Accepted.{IsAccepted, is_small_action, is_known_action, is_sorted_action}
use Rattle.wf_model.proofs.Sound.{value_sort}
use Rattle.wf_model.specs.Values.{value_of}
use Rattle.wf_semantics.specs.Effects.{actions_of, written, after_action, after_actions, after_fired, is_fault, action_raises, raises, raised_by, starts_from, starts_of}
use Rattle.wf_semantics.specs.Shown.{Shows, HasSorts}
use Rattle.wf_model.proofs.Bools.{and_both}
use Rattle.wf_semantics.proofs.Lists.{filter_agree, range_mem}
use Rattle.wf_effects.specs.declared.gathered.Gathered.{Gathered}
use Rattle.wf_effects.specs.Performing.{nothing_yet, assigned, performed, performed_all, fired_all, events_of}
use Rattle.wf_effects.proofs.Expressions.{AreActionsOf, actions_are, value_of_action, typed}
use Rattle.wf_effects.proofs.Performed.{sizes_performed, sizes_performed_all, size_fired, actions_at}

or_assoc : (a b c : Bool) → ((a || b) || c) ≡ (a || (b || c))
or_assoc true b c = refl
or_assoc false b c = refl

or_false : (a : Bool) → a ≡ (a || false)
or_false true = refl
or_false false = refl

or_true : (a : Bool) → true ≡ (a || true)
or_true true = refl
or_true false = refl

-- a bit that is set
bit_set : (bits : List Bool) (f e : ℕ) → e < length bits → get_or (set bits f true) e false ≡ (get_or bits e false || (f == e))
bit_set bits f e lt = go (f == e) refl
  where
    go : (b : Bool) → (f == e) ≡ b → get_or (set bits f true) e false ≡ (get_or bits e false || b)
    go true q =
        let same : f ≡ e = eqb-true f e q in
        subst (λ (n : ℕ). get_or (set bits n true) e false ≡ true) (sym same) (get_or-set_same bits e true false lt) ∙ or_true (get_or bits e false)
    go false q = get_or-set_other bits f e true false (λ s. eqb-false f e q (sym s)) ∙ or_false (get_or bits e false)

flip : (e : ℕ) → (0 == e) ≡ ((e == 0) && true)
flip zero = refl
flip (suc e) = grind (arith, nat_tests)

and_false : (b : Bool) → false ≡ (b && false)
and_false true = refl
and_false false = refl

module _ (chart : Chart) (seen : Seen) where
  -- THE STORE

  store_assigned : (x : ℕ) (r : Result Val Fault) (g : Gathered) → (assigned x r g).store ≡ written x r g.store
  store_assigned x (Ok val) g = refl
  store_assigned x (Err fault) g = refl

  store_performed : (t place : ℕ) (a : Action) (g : Gathered) → (performed seen t place a g).store ≡ after_action seen a g.store
  store_performed t place (Assign x value) g = store_assigned x.0 (value_of seen value) g
  store_performed t place (Raise e) g = refl
  store_performed t place (Start a) g = refl

  store_all : (t place : ℕ) (acts : List Action) (g : Gathered) → (performed_all seen t place acts g).store ≡ after_actions seen acts g.store
  store_all t place [] g = refl
  store_all t place (a ∷ acts) g =
      store_all t (place + 1) acts (performed seen t place a g) ∙ ap (after_actions seen acts) (store_performed t place a g)

  store_fired : (ts : List ℕ) (g : Gathered) → (fired_all chart seen ts g).store ≡ after_fired chart seen ts g.store
  store_fired [] g = refl
  store_fired (t ∷ ts) g =
      store_fired ts (performed_all seen t 0 (actions_of chart t) g) ∙ ap (after_fired chart seen ts) (store_all t 0 (actions_of chart t) g)

  -- RAISED EVENTS

  bit_assigned : (x : ℕ) (r : Result Val Fault) (g : Gathered) (e : ℕ) → e < length g.raised → get_or (assigned x r g).raised e false ≡ (get_or g.raised e false || ((e == 0) && is_fault r))
  bit_assigned x (Ok val) g e lt = or_false (get_or g.raised e false) ∙ ap (λ (b : Bool). get_or g.raised e false || b) (and_false (e == 0))
  bit_assigned x (Err fault) g e lt = bit_set g.raised 0 e lt ∙ ap (λ (b : Bool). get_or g.raised e false || b) (flip e)

  bit_performed : (t place : ℕ) (a : Action) (g : Gathered) (e : ℕ) → e < length g.raised → get_or (performed seen t place a g).raised e false ≡ (get_or g.raised e false || action_raises seen e a)
  bit_performed t place (Assign x value) g e lt = bit_assigned x.0 (value_of seen value) g e lt
  bit_performed t place (Raise f) g e lt = bit_set g.raised f.0 e lt
  bit_performed t place (Start a) g e lt = or_false (get_or g.raised e false)

  bit_all : (t place : ℕ) (acts : List Action) (g : Gathered) (e : ℕ) → e < length g.raised → get_or (performed_all seen t place acts g).raised e false ≡ (get_or g.raised e false || list_any (action_raises seen e) acts)
  bit_all t place [] g e lt = or_false (get_or g.raised e false)
  bit_all t place (a ∷ acts) g e lt =
      let size = (sizes_performed seen t place a g).events in
      bit_all t (place + 1) acts (performed seen t place a g) e (omega arith)
      ∙ ap (λ (b : Bool). b || list_any (action_raises seen e) acts) (bit_performed t place a g e lt)
      ∙ or_assoc (get_or g.raised e false) (action_raises seen e a) (list_any (action_raises seen e) acts)

  bit_fired : (ts : List ℕ) (g : Gathered) (e : ℕ) → e < length g.raised → get_or (fired_all chart seen ts g).raised e false ≡ (get_or g.raised e false || list_any (raises chart seen e) ts)
  bit_fired [] g e lt = or_false (get_or g.raised e false)
  bit_fired (t ∷ ts) g e lt =
      let size = (sizes_performed_all seen t 0 (actions_of chart t) g).events in
      bit_fired ts (performed_all seen t 0 (actions_of chart t) g) e (omega arith)
      ∙ ap (λ (b : Bool). b || list_any (raises chart seen e) ts) (bit_all t 0 (actions_of chart t) g e lt)
      ∙ or_assoc (get_or g.raised e false) (raises chart seen e t) (list_any (raises chart seen e) ts)

  raised_fired : (ts : List ℕ) (g : Gathered) → g.raised ≡ replicate (length chart.events) false → events_of (fired_all chart seen ts g).raised ≡ raised_by chart seen ts
  raised_fired ts g none =
      let bits = (fired_all chart seen ts g).raised in
      let asks = λ (e : ℕ). list_any (raises chart seen e) ts in
      let event : ℕ → EventId = λ e. record { 0 = e } in
      let before : length g.raised ≡ length chart.events = ap length none ∙ length-replicate (length chart.events) false in
      let size = size_fired chart seen ts g none in
      ap (λ (n : ℕ). map event (filter (λ e. get_or bits e false) (range_with_len 0 n))) size
      ∙ ap (map event) (filter_agree (λ e. get_or bits e false) asks (range_with_len 0 (length chart.events)) (λ e m.
      let within = range_mem 0 (length chart.events) e m in
      let unset : get_or g.raised e false ≡ false = ap (λ (l : List Bool). get_or l e false) none ∙ get_or-replicate (length chart.events) e false false (omega (arith, within.1)) in
      bit_fired ts g e (omega (arith, within.1)) ∙ ap (λ (b : Bool). b || asks e) unset))

  -- STARTS

  starts_all : (t place : ℕ) (acts : List Action) (g : Gathered) → (performed_all seen t place acts g).starts ≡ g.starts ++ starts_from t place acts
  starts_all t place [] g = sym (append-nil g.starts)
  starts_all t place (Assign x value ∷ acts) g =
      starts_all t (place + 1) acts (assigned x.0 (value_of seen value) g) ∙ ap (λ (l : List StartAt). l ++ starts_from t (place + 1) acts) (same (value_of seen value))
    where
      same : (r : Result Val Fault) → (assigned x.0 r g).starts ≡ g.starts
      same (Ok val) = refl
      same (Err fault) = refl
  starts_all t place (Raise e ∷ acts) g = starts_all t (place + 1) acts (performed seen t place (Raise e) g)
  starts_all t place (Start a ∷ acts) g = starts_all t (place + 1) acts (performed seen t place (Start a) g) ∙ append_assoc g.starts (record { act = a; trans = record { 0 = t }; place = place } ∷ []) (starts_from t (place + 1) acts)

  starts_fired : (ts : List ℕ) (g : Gathered) → (fired_all chart seen ts g).starts ≡ g.starts ++ starts_of chart ts
  starts_fired [] g = sym (append-nil g.starts)
  starts_fired (t ∷ ts) g =
      starts_fired ts (performed_all seen t 0 (actions_of chart t) g)
      ∙ ap (λ (l : List StartAt). l ++ starts_of chart ts) (starts_all t 0 (actions_of chart t) g)
      ∙ append_assoc g.starts (starts_from t 0 (actions_of chart t)) (starts_of chart ts)

-- SORTS

same_sorts : (vars : List Variable) (store : List Val) (x : ℕ) (sort : Sort) (val : Val) → map val_sort store ≡ map (λ v. v.sort) vars → option_map (λ v. v.sort) (slice_get vars x) ≡ Some sort → val_sort val ≡ sort → map val_sort (set store x val) ≡ map (λ v. v.sort) vars
same_sorts vars [] x sort val h e q = h
same_sorts [] (v ∷ store) x sort val h e q = cc
same_sorts (w ∷ vars) (v ∷ store) zero sort val h e q = cc
same_sorts (w ∷ vars) (v ∷ store) (suc x) sort val h e q =
    let first : val_sort v ≡ w.sort = cc in
    let rest : map val_sort store ≡ map (λ (v : Variable). v.sort) vars = cc in
    let more = same_sorts vars store x sort val rest e q in
    cc

module _ (chart : Chart) (seen : Seen) (shows : Shows chart seen) where
  sorts_written : (x : ℕ) (sort : Sort) (r : Result Val Fault) (store : List Val) → var_sort chart x ≡ Some sort → ((val : Val) → r ≡ Ok val → val_sort val ≡ sort) → HasSorts chart store → HasSorts chart (written x r store)
  sorts_written x sort (Ok val) store e q h = same_sorts chart.vars store x sort val h e (q val refl)
  sorts_written x sort (Err fault) store e q h = h

  sorts_action : (acts : List Action) (i : ℕ) (a : Action) (store : List Val) → AreActionsOf chart acts → slice_get acts i ≡ Some a → HasSorts chart store → HasSorts chart (after_action seen a store)
  sorts_action acts i (Assign x value) store are e h =
      let w = value_of_action chart acts i x value are e in
      sorts_written x.0 w.1 (value_of seen value) store w.2 (λ val q. value_sort seen value w.1 val (typed chart seen value w.1 shows w.3.sorted) q) h
  sorts_action acts i (Raise e) store are q h = h
  sorts_action acts i (Start a) store are q h = h

  rest_are : (a : Action) (acts : List Action) → AreActionsOf chart (a ∷ acts) → AreActionsOf chart acts
  rest_are a acts are = record {
    few = let few = are.few in omega arith;
    small = (and_both (is_small_action a) (list_all is_small_action acts) are.small).1;
    known = (and_both (is_known_action chart a) (list_all (is_known_action chart) acts) are.known).1;
    sorted = (and_both (is_sorted_action chart a) (list_all (is_sorted_action chart) acts) are.sorted).1;
  }

  sorts_actions : (acts : List Action) (store : List Val) → AreActionsOf chart acts → HasSorts chart store → HasSorts chart (after_actions seen acts store)
  sorts_actions [] store are h = h
  sorts_actions (a ∷ acts) store are h =
      sorts_actions acts (after_action seen a store) (rest_are a acts are) (sorts_action (a ∷ acts) 0 a store are refl h)

  sorts_transition : (t : ℕ) (store : List Val) → IsAccepted chart → HasSorts chart store → HasSorts chart (after_actions seen (actions_of chart t) store)
  sorts_transition t store ok h = go (slice_get chart.transitions t) refl
    where
      go : (o : Option Transition) → slice_get chart.transitions t ≡ o → HasSorts chart (after_actions seen (actions_of chart t) store)
      go None e =
          let none : actions_of chart t ≡ [] = ap (λ (o : Option Transition). unwrap_or (option_map (λ trans. trans.actions) o) []) e in
          subst (λ (acts : List Action). HasSorts chart (after_actions seen acts store)) (sym none) h
      go (Some trans) e =
          subst (λ (acts : List Action). HasSorts chart (after_actions seen acts store)) (sym (actions_at chart t trans e))
          (sorts_actions trans.actions store (actions_are chart t trans ok e) h)

  -- fired transitions leave each variable a value of its sort
  sorts_fired : (ts : List ℕ) (store : List Val) → IsAccepted chart → HasSorts chart store → HasSorts chart (after_fired chart seen ts store)
  sorts_fired [] store ok h = h
  sorts_fired (t ∷ ts) store ok h =
      sorts_fired ts (after_actions seen (actions_of chart t) store) ok (sorts_transition t store ok h)

-- from what there is first to what there is after the fired transitions
module _ (chart : Chart) (seen : Seen) (fired : List ℕ) (store : List Val) (g h : Gathered) (first : g ≡ nothing_yet store (length chart.events)) (last : h ≡ fired_all chart seen fired g) where
  none_first : g.raised ≡ replicate (length chart.events) false
  none_first = ap (λ (x : Gathered). x.raised) first

  pub store_is : h.store ≡ after_fired chart seen fired store
  store_is =
      ap (λ (x : Gathered). x.store) last ∙ store_fired chart seen fired g
      ∙ ap (λ (x : Gathered). after_fired chart seen fired x.store) first

  pub raised_is : events_of h.raised ≡ raised_by chart seen fired
  raised_is = ap (λ (x : Gathered). events_of x.raised) last ∙ raised_fired chart seen fired g none_first

  pub raised_size : length h.raised ≡ length chart.events
  raised_size = ap (λ (x : Gathered). length x.raised) last ∙ size_fired chart seen fired g none_first

  pub starts_is : h.starts ≡ starts_of chart fired
  starts_is =
      ap (λ (x : Gathered). x.starts) last ∙ starts_fired chart seen fired g
      ∙ ap (λ (x : Gathered). x.starts ++ starts_of chart fired) first

  pub sorts_is : Shows chart seen → IsAccepted chart → HasSorts chart store → HasSorts chart h.store
  sorts_is shows ok h =
      subst (HasSorts chart) (sym store_is) (sorts_fired chart seen shows fired store ok h)
