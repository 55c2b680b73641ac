-- Updates cut to what is known.
use Rattle.std.proofs.Common.{◌≡◌, ℕ, ◌==◌, ◌||◌, ◌&&◌, cond, Bool, true, false, List, [], ◌∷◌, ◌++◌, length, map, filter, filter_map, fold, Option, Some, None, option_map, refl, sym, ap, ap₂, ◌∙◌, eqb-true}
use Rattle.std.specs.List.{list_any, list_all, cons_option}
use Rattle.std.specs.Option.{option_and_then}
use Rattle.std.proofs.lemmas.List.Elements.{filter-append, filter_map-append}
use Rattle.std.proofs.lemmas.Map.Views.{any-filter_same}
use Rattle.wf_model.specs.declared.ids.UnitId.{UnitId}
use Rattle.wf_model.specs.declared.outer.Output.{Output}
use Rattle.wf_model.specs.declared.outer.Outer.{Outer}
use Rattle.wf_model.specs.declared.outer.Outer.TheVariants.{Happen, Complete}
use Rattle.wf_model.specs.declared.outer.Entry.{Entry}
use Rattle.wf_model.specs.declared.update.Write.{Write}
use Rattle.wf_model.specs.declared.update.StartAt.{StartAt}
use Rattle.wf_model.specs.declared.update.Update.{Update}
use Rattle.wf_model.proofs.Bools.{and_both}
use Rattle.wf_actions.specs.Writes.{of_variable, over, winner}
use Rattle.wf_views.specs.Knowledge.{cut_outer, cut_entry, cut_entries}
use Rattle.wf_views.specs.Absorbing.{is_flipped, is_raised, writes_in, starts_in, entries_of, entries_in, start_count}
use Rattle.wf_views.specs.Relevant.{cut_update, is_outer_within, is_within}
use Rattle.wf_views.proofs.Lists.{filter_within, filter_all, any_all, filter_map_all}
use Rattle.wf_parts.specs.Peers.{Knowledge}

-- TWO WAYS TO KNOW THE SAME

-- all that is held is known alike
pub record SameOn (held k l : Knowledge) : Type 0 where
  pub states : (n : ℕ) → held.states n ≡ true → k.states n ≡ l.states n
  pub vars : (n : ℕ) → held.vars n ≡ true → k.vars n ≡ l.vars n
  pub events : (n : ℕ) → held.events n ≡ true → k.events n ≡ l.events n
  pub acts : (n : ℕ) → held.acts n ≡ true → k.acts n ≡ l.acts n

module _ (held k l : Knowledge) (same : SameOn held k l) where
  outer_alike : (o : Outer) → is_outer_within held o ≡ true → cut_outer k o ≡ cut_outer l o
  outer_alike (Happen e) h = ap (λ (b : Bool). cond b (Some (Happen e)) None) (same.events e.0 h)
  outer_alike (Complete n a outputs) h =
      let both = and_both (held.acts a.0) (list_all (λ o. held.vars o.var.0) outputs) h in
      ap₂ (λ (b : Bool) (os : List Output). cond b (Some (Complete n a os)) None)
      (ap₂ (λ (b c : Bool). b || c) (same.acts a.0 both.0) (any_all (λ o. held.vars o.var.0) (λ o. k.vars o.var.0) (λ o. l.vars o.var.0) (λ o. same.vars o.var.0) outputs both.1))
      (filter_all (λ o. held.vars o.var.0) (λ o. k.vars o.var.0) (λ o. l.vars o.var.0) (λ o. same.vars o.var.0) outputs both.1)

  pub update_alike : (update : Update) → is_within held update ≡ true → cut_update k update ≡ cut_update l update
  unfolding cut_update
  update_alike update h =
      let a = and_both (list_all (λ s. held.states s.0) update.flips) (list_all (λ write. held.vars write.var.0) update.writes && (list_all (λ e. held.events e.0) update.raised && (list_all (λ start. held.acts start.act.0) update.starts && list_all (is_outer_within held) update.outer))) h in
      let b = and_both (list_all (λ write. held.vars write.var.0) update.writes) (list_all (λ e. held.events e.0) update.raised && (list_all (λ start. held.acts start.act.0) update.starts && list_all (is_outer_within held) update.outer)) a.1 in
      let c = and_both (list_all (λ e. held.events e.0) update.raised) (list_all (λ start. held.acts start.act.0) update.starts && list_all (is_outer_within held) update.outer) b.1 in
      let d = and_both (list_all (λ start. held.acts start.act.0) update.starts) (list_all (is_outer_within held) update.outer) c.1 in
      let flips : filter (λ s. k.states s.0) update.flips ≡ filter (λ s. l.states s.0) update.flips = filter_all (λ s. held.states s.0) (λ s. k.states s.0) (λ s. l.states s.0) (λ s. same.states s.0) update.flips a.0 in
      let writes : filter (λ w. k.vars w.var.0) update.writes ≡ filter (λ w. l.vars w.var.0) update.writes = filter_all (λ w. held.vars w.var.0) (λ w. k.vars w.var.0) (λ w. l.vars w.var.0) (λ w. same.vars w.var.0) update.writes b.0 in
      let raised : filter (λ e. k.events e.0) update.raised ≡ filter (λ e. l.events e.0) update.raised = filter_all (λ e. held.events e.0) (λ e. k.events e.0) (λ e. l.events e.0) (λ e. same.events e.0) update.raised c.0 in
      let starts : filter (λ s. k.acts s.act.0) update.starts ≡ filter (λ s. l.acts s.act.0) update.starts = filter_all (λ s. held.acts s.act.0) (λ s. k.acts s.act.0) (λ s. l.acts s.act.0) (λ s. same.acts s.act.0) update.starts d.0 in
      let outer : filter_map (cut_outer k) update.outer ≡ filter_map (cut_outer l) update.outer = filter_map_all (is_outer_within held) (cut_outer k) (cut_outer l) outer_alike update.outer d.1 in
      λ i. record update { flips = flips i; writes = writes i; raised = raised i; starts = starts i; fired = []; outer = outer i }

-- CUT AND CUT AGAIN

module _ (k : Knowledge) where
  both_alike : (b : Bool) → (b && b) ≡ b
  both_alike true = refl
  both_alike false = refl

  any_kept : (os : List Output) → list_any (λ o. k.vars o.var.0) (filter (λ o. k.vars o.var.0) os) ≡ list_any (λ o. k.vars o.var.0) os
  any_kept [] = refl
  any_kept (o ∷ os) = go (k.vars o.var.0) refl (any_kept os)
    where
      go : (b : Bool) → k.vars o.var.0 ≡ b → list_any (λ o. k.vars o.var.0) (filter (λ o. k.vars o.var.0) os) ≡ list_any (λ o. k.vars o.var.0) os →
          list_any (λ o. k.vars o.var.0) (cond b (o ∷ filter (λ o. k.vars o.var.0) os) (filter (λ o. k.vars o.var.0) os)) ≡ (b || list_any (λ o. k.vars o.var.0) os)
      go true e ih = rw e refl
      go false e ih = ih

  -- an outer that was cut is cut no more
  pub cut_again : (o : Outer) → option_and_then (cut_outer k) (cut_outer k o) ≡ cut_outer k o
  cut_again (Happen e) = go (k.events e.0) refl
    where
      go : (b : Bool) → k.events e.0 ≡ b → option_and_then (cut_outer k) (cond b (Some (Happen e)) None) ≡ cond b (Some (Happen e)) None
      go true q = ap (λ (b : Bool). cond b (Some (Happen e)) None) q
      go false q = refl
  cut_again (Complete n a os) = go (k.acts a.0 || list_any (λ o. k.vars o.var.0) os) refl
    where
      kept : List Output
      kept = filter (λ o. k.vars o.var.0) os

      go : (b : Bool) → (k.acts a.0 || list_any (λ o. k.vars o.var.0) os) ≡ b → option_and_then (cut_outer k) (cond b (Some (Complete n a (filter (λ o. k.vars o.var.0) os))) None) ≡ cond b (Some (Complete n a (filter (λ o. k.vars o.var.0) os))) None
      go true q = ap₂ (λ (b : Bool) (l : List Output). cond b (Some (Complete n a l)) None) (ap (λ (b : Bool). k.acts a.0 || b) (any_kept os) ∙ q) (filter_within (λ o. k.vars o.var.0) (λ o. k.vars o.var.0) (λ o e. e) os)
      go false q = refl

  outers_again : (os : List Outer) → filter_map (cut_outer k) (filter_map (cut_outer k) os) ≡ filter_map (cut_outer k) os
  outers_again [] = refl
  outers_again (o ∷ os) = go (cut_outer k o) (cut_again o) (outers_again os)
    where
      go : (c : Option Outer) → option_and_then (cut_outer k) c ≡ c → filter_map (cut_outer k) (filter_map (cut_outer k) os) ≡ filter_map (cut_outer k) os →
          filter_map (cut_outer k) (cons_option c (filter_map (cut_outer k) os)) ≡ cons_option c (filter_map (cut_outer k) os)
      go None e ih = ih
      go (Some x) e ih = ap₂ (λ (d : Option Outer) (l : List Outer). cons_option d l) e ih

  pub update_again : (update : Update) → cut_update k (cut_update k update) ≡ cut_update k update
  unfolding cut_update
  update_again update = λ i. record update {
    flips = filter_within (λ s. k.states s.0) (λ s. k.states s.0) (λ s e. e) update.flips i;
    writes = filter_within (λ w. k.vars w.var.0) (λ w. k.vars w.var.0) (λ w e. e) update.writes i;
    raised = filter_within (λ e. k.events e.0) (λ e. k.events e.0) (λ x e. e) update.raised i;
    starts = filter_within (λ s. k.acts s.act.0) (λ s. k.acts s.act.0) (λ s e. e) update.starts i;
    fired = [];
    outer = outers_again update.outer i;
  }

  -- WHAT IS READ OF CUT UPDATES

  pub flipped_same : (s : ℕ) → k.states s ≡ true → (updates : List Update) → is_flipped (map (cut_update k) updates) s ≡ is_flipped updates s
  unfolding cut_update
  flipped_same s h [] = refl
  flipped_same s h (up ∷ ups) = ap₂ (λ (a b : Bool). a || b) (any-filter_same (λ i. i.0 == s) (λ i. k.states i.0) true (λ i e. ap k.states (eqb-true i.0 s e) ∙ h) up.flips) (flipped_same s h ups)

  pub raised_same : (n : ℕ) → k.events n ≡ true → (updates : List Update) → is_raised (map (cut_update k) updates) n ≡ is_raised updates n
  unfolding cut_update
  raised_same n h [] = refl
  raised_same n h (up ∷ ups) = ap₂ (λ (a b : Bool). a || b) (any-filter_same (λ i. i.0 == n) (λ i. k.events i.0) true (λ i e. ap k.events (eqb-true i.0 n e) ∙ h) up.raised) (raised_same n h ups)

  writes_same : (x : ℕ) → k.vars x ≡ true → (updates : List Update) → of_variable x (writes_in (map (cut_update k) updates)) ≡ of_variable x (writes_in updates)
  unfolding cut_update
  writes_same x h [] = refl
  writes_same x h (up ∷ ups) =
      filter-append (λ write. write.var.0 == x) (filter (λ write. k.vars write.var.0) up.writes) (writes_in (map (cut_update k) ups))
      ∙ ap₂ (λ (a b : List Write). a ++ b) (filter_within (λ write. write.var.0 == x) (λ write. k.vars write.var.0) (λ write e. ap k.vars (eqb-true write.var.0 x e) ∙ h) up.writes) (writes_same x h ups)
      ∙ sym (filter-append (λ write. write.var.0 == x) up.writes (writes_in ups))

  pub winner_same : (x : ℕ) → k.vars x ≡ true → (updates : List Update) → winner x (writes_in (map (cut_update k) updates)) ≡ winner x (writes_in updates)
  winner_same x h updates = ap (λ (l : List Write). fold over None l) (writes_same x h updates)

  starts_same : (a : ℕ) → k.acts a ≡ true → (updates : List Update) → filter (λ s. s.act.0 == a) (starts_in (map (cut_update k) updates)) ≡ filter (λ s. s.act.0 == a) (starts_in updates)
  unfolding cut_update
  starts_same a h [] = refl
  starts_same a h (up ∷ ups) =
      filter-append (λ s. s.act.0 == a) (filter (λ s. k.acts s.act.0) up.starts) (starts_in (map (cut_update k) ups))
      ∙ ap₂ (λ (a b : List StartAt). a ++ b) (filter_within (λ s. s.act.0 == a) (λ s. k.acts s.act.0) (λ s e. ap k.acts (eqb-true s.act.0 a e) ∙ h) up.starts) (starts_same a h ups)
      ∙ sym (filter-append (λ s. s.act.0 == a) up.starts (starts_in ups))

  pub count_same : (a : ℕ) → k.acts a ≡ true → (updates : List Update) → start_count a (starts_in (map (cut_update k) updates)) ≡ start_count a (starts_in updates)
  count_same a h updates = ap length (starts_same a h updates)

  entries_cut : (u : UnitId) (os : List Outer) → cut_entries k (map (λ outer. record { unit = u; outer = outer }) (filter_map (cut_outer k) os)) ≡ cut_entries k (map (λ outer. record { unit = u; outer = outer }) os)
  entries_cut u [] = refl
  entries_cut u (o ∷ os) = go (cut_outer k o) (cut_again o) (entries_cut u os)
    where
      at : Outer → Entry
      at outer = record { unit = u; outer = outer }

      go : (c : Option Outer) → option_and_then (cut_outer k) c ≡ c →
          filter_map (cut_entry k) (map at (filter_map (cut_outer k) os)) ≡ filter_map (cut_entry k) (map at os) →
          filter_map (cut_entry k) (map at (cons_option c (filter_map (cut_outer k) os))) ≡ cons_option (option_map at c) (filter_map (cut_entry k) (map at os))
      go None e ih = ih
      go (Some x) e ih = ap₂ (λ (d : Option Outer) (l : List Entry). cons_option (option_map at d) l) e ih

  pub entries_same : (updates : List Update) → cut_entries k (entries_in (map (cut_update k) updates)) ≡ cut_entries k (entries_in updates)
  unfolding cut_update
  entries_same [] = refl
  entries_same (up ∷ ups) =
      filter_map-append (cut_entry k) (map (λ outer. record { unit = up.from; outer = outer }) (filter_map (cut_outer k) up.outer)) (entries_in (map (cut_update k) ups))
      ∙ ap₂ (λ (a b : List Entry). a ++ b) (entries_cut up.from up.outer) (entries_same ups)
      ∙ sym (filter_map-append (cut_entry k) (entries_of up) (entries_in ups))
