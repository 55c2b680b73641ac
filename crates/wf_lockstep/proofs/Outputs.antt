-- What entries write, raise and complete, of all and of what is known.
use Rattle.std.proofs.Common.{◌≡◌, ℕ, ◌+◌, ◌<◌, ◌==◌, ◌||◌, not, cond, Bool, true, false, List, [], ◌∷◌, ◌++◌, length, filter, flat_map, Option, Some, None, get_or, set, refl, sym, ap, ◌∙◌, arith, eqb-true, eq-eqb, true≢false}
use Rattle.std.specs.Prelude.{option_map, is_ok, Result, Ok, Err}
use Rattle.std.specs.Option.{option_map_or}
use Rattle.std.specs.List.{list_any, cons_option}
use Rattle.std.proofs.lemmas.List.{length-set, get_or-set_same, get_or-set_other}
use Rattle.std.proofs.lemmas.Bool.{eqb-false}
use Rattle.wf_model.specs.declared.value.Val.{Val}
use Rattle.wf_model.specs.declared.ids.ActId.{ActId}
use Rattle.wf_model.specs.declared.chart.Chart.{Chart}
use Rattle.wf_model.specs.declared.outer.Output.{Output}
use Rattle.wf_model.specs.declared.outer.Outer.{Outer}
use Rattle.wf_model.specs.declared.outer.Outer.TheVariants.{Happen, Complete}
use Rattle.wf_model.specs.declared.outer.OuterFault.{OuterFault}
use Rattle.wf_model.specs.declared.outer.OuterFault.TheVariants.{WrongUnit, NoItem, AlreadyDone, WrongOutput}
use Rattle.wf_model.specs.declared.outer.Entry.{Entry}
use Rattle.wf_semantics.specs.Effects.{after_entries, after_outer}
use Rattle.wf_semantics.specs.Effects as effects
use Rattle.wf_semantics.specs.Items.{Completion, one, item_at, done_count}
use Rattle.wf_semantics.specs.Run.{CentralState, completions_of, completions_at, is_happening, act_unit}
use Rattle.wf_semantics.specs.Admission.{is_act_at, is_of, is_closed, is_pending, are_outputs_of, may_be_admitted, may_come_after, may_come}
use Rattle.wf_model.proofs.Bools.{and_both, not_true}
use Rattle.wf_views.specs.Knowledge.{cut_outer, cut_entries}
use Rattle.wf_views.specs.Views.{outputs_of, outputs_in, completions_in, after_outputs}
use Rattle.wf_parts.specs.Peers.{Knowledge}

-- ONE VARIABLE OF THE STORE

pub outputs_length : (os : List Output) (store : List Val) → length (effects.after_outputs os store) ≡ length store
outputs_length [] store = refl
outputs_length (o ∷ os) store = outputs_length os (set store o.var.0 o.val) ∙ length-set store o.var.0 o.val

pub entries_length : (es : List Entry) (store : List Val) → length (after_entries es store) ≡ length store
entries_length [] store = refl
entries_length (x ∷ es) store = entries_length es (after_outer x.outer store) ∙ one_outer x.outer
  where
    one_outer : (o : Outer) → length (after_outer o store) ≡ length store
    one_outer (Happen e) = refl
    one_outer (Complete n a os) = outputs_length os store

outputs_read : (os : List Output) (store : List Val) (x : ℕ) (d : Val) → x < length store → get_or (effects.after_outputs os store) x d ≡ after_outputs x os (get_or store x d)
outputs_read [] store x d h = refl
outputs_read (o ∷ os) store x d h = outputs_read os (set store o.var.0 o.val) x d (omega (arith, length-set store o.var.0 o.val)) ∙ ap (after_outputs x os) (go (o.var.0 == x) refl)
  where
    go : (b : Bool) → (o.var.0 == x) ≡ b → get_or (set store o.var.0 o.val) x d ≡ cond b o.val (get_or store x d)
    go true t = ap (λ (y : ℕ). get_or (set store o.var.0 o.val) y d) (sym (eqb-true o.var.0 x t)) ∙ get_or-set_same store o.var.0 o.val d (omega (arith, eqb-true o.var.0 x t))
    go false t = get_or-set_other store o.var.0 x o.val d (λ e. eqb-false o.var.0 x t (sym e))

after_both : (x : ℕ) (os ps : List Output) (val : Val) → after_outputs x (os ++ ps) val ≡ after_outputs x ps (after_outputs x os val)
after_both x [] ps val = refl
after_both x (o ∷ os) ps val = after_both x os ps (cond (o.var.0 == x) o.val val)

-- a variable's value after entries is what it has after their outputs
pub entries_read : (es : List Entry) (store : List Val) (x : ℕ) (d : Val) → x < length store → get_or (after_entries es store) x d ≡ after_outputs x (outputs_in es) (get_or store x d)
entries_read [] store x d h = refl
entries_read (y ∷ es) store x d h =
    entries_read es (after_outer y.outer store) x d (omega (arith, same_length y.outer)) ∙ ap (after_outputs x (outputs_in es)) (one_outer y.outer)
    ∙ sym (after_both x (outputs_of y.outer) (outputs_in es) (get_or store x d))
  where
    same_length : (o : Outer) → length (after_outer o store) ≡ length store
    same_length (Happen e) = refl
    same_length (Complete n a os) = outputs_length os store

    one_outer : (o : Outer) → get_or (after_outer o store) x d ≡ after_outputs x (outputs_of o) (get_or store x d)
    one_outer (Happen e) = refl
    one_outer (Complete n a os) = outputs_read os store x d h

-- OF CUT ENTRIES

module _ (k : Knowledge) where
  after_kept : (x : ℕ) → k.vars x ≡ true → (os : List Output) (val : Val) → after_outputs x (filter (λ o. k.vars o.var.0) os) val ≡ after_outputs x os val
  after_kept x h [] val = refl
  after_kept x h (o ∷ os) val = go (k.vars o.var.0) refl (o.var.0 == x) refl (λ v. after_kept x h os v)
    where
      go : (b : Bool) → k.vars o.var.0 ≡ b → (c : Bool) → (o.var.0 == x) ≡ c → ((v : Val) → after_outputs x (filter (λ o. k.vars o.var.0) os) v ≡ after_outputs x os v) → after_outputs x (cond b (o ∷ filter (λ o. k.vars o.var.0) os) (filter (λ o. k.vars o.var.0) os)) val ≡ after_outputs x os (cond c o.val val)
      go true e c f ih = ih (cond (o.var.0 == x) o.val val) ∙ ap (λ (c : Bool). after_outputs x os (cond c o.val val)) f
      go false e true f ih = absurd (true≢false (sym h ∙ ap k.vars (sym (eqb-true o.var.0 x f)) ∙ e))
      go false e false f ih = ih val

  none_kept : (os : List Output) → list_any (λ o. k.vars o.var.0) os ≡ false → filter (λ o. k.vars o.var.0) os ≡ []
  none_kept [] h = refl
  none_kept (o ∷ os) h = go (k.vars o.var.0) h (none_kept os)
    where
      go : (b : Bool) → (b || list_any (λ o. k.vars o.var.0) os) ≡ false → (list_any (λ o. k.vars o.var.0) os ≡ false → filter (λ o. k.vars o.var.0) os ≡ []) → cond b (o ∷ filter (λ o. k.vars o.var.0) os) (filter (λ o. k.vars o.var.0) os) ≡ []
      go true h f = absurd (true≢false h)
      go false h f = f h

  or_false : (a b : Bool) → (a || b) ≡ false → (a ≡ false) × (b ≡ false)
  or_false true b h = absurd (true≢false h)
  or_false false b h = (refl, h)

  -- the rest of the entries behind one that was cut
  abbrev behind : Option Outer → List Entry → Entry → List Entry
  behind o rest x = cons_option (option_map (λ outer. record { unit = x.unit; outer = outer }) o) rest

  -- a known variable's value
  pub outputs_cut : (x : ℕ) → k.vars x ≡ true → (es : List Entry) (val : Val) → after_outputs x (outputs_in (cut_entries k es)) val ≡ after_outputs x (outputs_in es) val
  outputs_cut x h [] val = refl
  outputs_cut x h (y ∷ es) val = one_outer y.outer (λ v. outputs_cut x h es v) ∙ sym (after_both x (outputs_of y.outer) (outputs_in es) val)
    where
      one_outer : (o : Outer) → ((v : Val) → after_outputs x (outputs_in (cut_entries k es)) v ≡ after_outputs x (outputs_in es) v) → after_outputs x (outputs_in (behind (cut_outer k o) (cut_entries k es) y)) val ≡ after_outputs x (outputs_in es) (after_outputs x (outputs_of o) val)
      one_outer (Happen e) ih = go (k.events e.0)
        where
          go : (b : Bool) → after_outputs x (outputs_in (behind (cond b (Some (Happen e)) None) (cut_entries k es) y)) val ≡ after_outputs x (outputs_in es) val
          go true = ih val
          go false = ih val
      one_outer (Complete n a os) ih = go (k.acts a.0 || list_any (λ o. k.vars o.var.0) os) refl
        where
          go : (b : Bool) → (k.acts a.0 || list_any (λ o. k.vars o.var.0) os) ≡ b →
              after_outputs x (outputs_in (behind (cond b (Some (Complete n a (filter (λ o. k.vars o.var.0) os))) None) (cut_entries k es) y)) val ≡ after_outputs x (outputs_in es) (after_outputs x os val)
          go true e =
              after_both x (filter (λ o. k.vars o.var.0) os) (outputs_in (cut_entries k es)) val
              ∙ ap (after_outputs x (outputs_in (cut_entries k es))) (after_kept x h os val) ∙ ih (after_outputs x os val)
          go false e =
              ih val
              ∙ ap (after_outputs x (outputs_in es)) (sym (ap (λ (l : List Output). after_outputs x l val) (none_kept os (or_false (k.acts a.0) (list_any (λ o. k.vars o.var.0) os) e).1)) ∙ after_kept x h os val)

  done_both : (a : ℕ) (xs ys : List Completion) → done_count a (xs ++ ys) ≡ done_count a xs + done_count a ys
  done_both a [] ys = omega arith
  done_both a (x ∷ xs) ys = let ih : done_count a (xs ++ ys) ≡ done_count a xs + done_count a ys = done_both a xs ys in omega arith

  -- a known activity's completions
  pub done_cut : (a : ℕ) → k.acts a ≡ true → (es : List Entry) → done_count a (completions_in (cut_entries k es)) ≡ done_count a (completions_in es)
  done_cut a h [] = refl
  done_cut a h (y ∷ es) = one_outer y.outer (done_cut a h es)
    where
      one_outer : (o : Outer) → done_count a (completions_in (cut_entries k es)) ≡ done_count a (completions_in es) → done_count a (completions_in (behind (cut_outer k o) (cut_entries k es) y)) ≡ done_count a (completions_of o ++ completions_in es)
      one_outer (Happen e) ih = go (k.events e.0)
        where
          go : (b : Bool) → done_count a (completions_in (behind (cond b (Some (Happen e)) None) (cut_entries k es) y)) ≡ done_count a (completions_in es)
          go true = ih
          go false = ih
      one_outer (Complete n b os) ih = go (k.acts b.0) refl (list_any (λ o. k.vars o.var.0) os)
        where
          go : (c : Bool) → k.acts b.0 ≡ c → (d : Bool) →
              done_count a (completions_in (behind (cond (c || d) (Some (Complete n b (filter (λ o. k.vars o.var.0) os))) None) (cut_entries k es) y)) ≡ one (b.0 == a) + done_count a (completions_in es)
          go true e d = ap (λ (m : ℕ). one (b.0 == a) + m) ih
          go false e true = ap (λ (m : ℕ). one (b.0 == a) + m) ih
          go false e false =
              ih
              ∙ (let plus : done_count a (completions_in es) ≡ 0 + done_count a (completions_in es) = omega arith in plus)
              ∙ ap (λ (b : Bool). one b + done_count a (completions_in es)) (sym (not_true (b.0 == a) (λ q. true≢false (sym h ∙ ap k.acts (sym (eqb-true b.0 a q)) ∙ e))))

  -- a known event
  pub happens_cut : (n : ℕ) → k.events n ≡ true → (es : List Entry) → list_any (λ x. is_happening n x.outer) (cut_entries k es) ≡ list_any (λ x. is_happening n x.outer) es
  happens_cut n h [] = refl
  happens_cut n h (y ∷ es) = one_outer y.outer (happens_cut n h es)
    where
      one_outer : (o : Outer) → list_any (λ x. is_happening n x.outer) (cut_entries k es) ≡ list_any (λ x. is_happening n x.outer) es → list_any (λ x. is_happening n x.outer) (behind (cut_outer k o) (cut_entries k es) y) ≡ (is_happening n o || list_any (λ x. is_happening n x.outer) es)
      one_outer (Happen e) ih = go (k.events e.0) refl
        where
          go : (b : Bool) → k.events e.0 ≡ b → list_any (λ x. is_happening n x.outer) (behind (cond b (Some (Happen e)) None) (cut_entries k es) y) ≡ ((e.0 == n) || list_any (λ x. is_happening n x.outer) es)
          go true f = ap (λ (b : Bool). (e.0 == n) || b) ih
          go false f = ih ∙ ap (λ (b : Bool). b || list_any (λ x. is_happening n x.outer) es) (sym (not_true (e.0 == n) (λ q. true≢false (sym h ∙ ap k.events (sym (eqb-true e.0 n q)) ∙ f))))
      one_outer (Complete m a os) ih = go (k.acts a.0 || list_any (λ o. k.vars o.var.0) os)
        where
          go : (b : Bool) → list_any (λ x. is_happening n x.outer) (behind (cond b (Some (Complete m a (filter (λ o. k.vars o.var.0) os))) None) (cut_entries k es) y) ≡ list_any (λ x. is_happening n x.outer) es
          go true = ih
          go false = ih

-- COMPLETIONS COME TO THEIR UNIT

-- the answer to a completion, by what is tested
abbrev answer : Bool → Bool → Bool → Bool → Result (Unit {0}) OuterFault
answer at of done fit = cond (not at) (Err WrongUnit) (cond (not of) (Err NoItem) (cond done (Err AlreadyDone) (cond (not fit) (Err WrongOutput) (Ok tt))))

first_test : (at of done fit : Bool) → is_ok (answer at of done fit) ≡ true → at ≡ true
first_test true of done fit h = refl
first_test false of done fit h = absurd (true≢false (sym h))

module _ (chart : Chart) (c : CentralState) where
  at_unit : (pending : List Entry) (u n : ℕ) (a : ActId) (os : List Output) → is_ok (may_be_admitted chart c.items pending u (Complete n a os)) ≡ true → is_act_at chart u a.0 ≡ true
  unfolding may_be_admitted
  at_unit pending u n a os h = first_test (is_act_at chart u a.0) (is_of a.0 (item_at (c.items u) n)) (is_closed (item_at (c.items u) n) || is_pending pending u n) (are_outputs_of chart a.0 os) h

  done_from : (pending es : List Entry) (a v : ℕ) → act_unit chart a ≡ Some v → may_come_after chart c.items pending es ≡ true → done_count a (completions_in es) ≡ done_count a (completions_at v es)
  done_from pending [] a v e h = refl
  done_from pending (x ∷ es) a v e h =
      let both = and_both (is_ok (may_be_admitted chart c.items pending x.unit.0 x.outer)) (may_come_after chart c.items (pending ++ x ∷ []) es) h in
      go (x.unit.0 == v) refl x.outer both.0 (done_from (pending ++ x ∷ []) es a v e both.1)
    where
      go : (b : Bool) → (x.unit.0 == v) ≡ b → (o : Outer) → is_ok (may_be_admitted chart c.items pending x.unit.0 o) ≡ true → done_count a (completions_in es) ≡ done_count a (completions_at v es) →
          done_count a (completions_of o ++ completions_in es) ≡ done_count a (flat_map (λ y. completions_of y.outer) (cond b (record x { outer = o } ∷ filter (λ y. y.unit.0 == v) es) (filter (λ y. y.unit.0 == v) es)))
      go true q (Happen n) ok ih = ih
      go false q (Happen n) ok ih = ih
      go true q (Complete n b os) ok ih = ap (λ (m : ℕ). one (b.0 == a) + m) ih
      go false q (Complete n b os) ok ih =
          let at : is_act_at chart x.unit.0 b.0 ≡ true = at_unit pending x.unit.0 n b os ok in
          let other : b.0 ≡ a → ⊥ = λ r. true≢false (sym (eq-eqb x.unit.0 v (sym (eqb-true v x.unit.0 (sym (ap (λ (o : Option ℕ). option_map_or (λ unit. unit == x.unit.0) o false) (ap (act_unit chart) r ∙ e)) ∙ at)))) ∙ q) in
          ap (λ (d : Bool). one d + done_count a (completions_in es)) (not_true (b.0 == a) (λ r. other (eqb-true b.0 a r)))
          ∙ (let plus : 0 + done_count a (completions_in es) ≡ done_count a (completions_in es) = omega arith in plus) ∙ ih

  pub done_at_unit : (es : List Entry) (a v : ℕ) → act_unit chart a ≡ Some v → may_come chart c.items es ≡ true → done_count a (completions_in es) ≡ done_count a (completions_at v es)
  done_at_unit es a v e h = done_from [] es a v e h
