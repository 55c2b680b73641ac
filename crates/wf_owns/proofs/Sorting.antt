-- Sorts of views, guards and values.
use Rattle.std.proofs.Common.{◌≡◌, ℕ, zero, suc, ◌+◌, ◌<◌, ◌==◌, ◌||◌, ◌&&◌, nat_lt, cond, Bool, true, false, List, [], ◌∷◌, ◌++◌, length, map, filter, filter_map, flat_map, find, Option, Some, None, Result, Ok, Err, slice_get, inl, inr, refl, sym, ap, ap₂, ◌∙◌, subst, arith, eqb-true, eq-eqb, true≢false, ltb-true}
use Rattle.std.specs.Prelude.{option_map, unwrap_or}
use Rattle.std.specs.Option.{option_map_or}
use Rattle.std.specs.Result.{result_ok}
use Rattle.std.specs.List.{list_any, list_all, range_with_len, cons_option}
use Rattle.std.proofs.lemmas.List.Folds.{list_all-map, list_all-append, flat_map-map}
use Rattle.std.proofs.lemmas.Option.{slice_get-map}
use Rattle.wf_model.specs.declared.ids.VarId.{VarId}
use Rattle.wf_model.specs.declared.value.Val.{Val}
use Rattle.wf_model.specs.declared.value.Sort.{Sort}
use Rattle.wf_model.specs.declared.value.Sort.TheVariants as s
use Rattle.wf_model.specs.declared.expr.Fault.{Fault}
use Rattle.wf_model.specs.declared.expr.TypeFault.{TypeFault}
use Rattle.wf_model.specs.declared.expr.Expr.{Expr, end_of-Expr, more_of-Expr}
use Rattle.wf_model.specs.declared.expr.Expr.TheVariants as e
use Rattle.wf_model.specs.declared.chart.Action.{Action}
use Rattle.wf_model.specs.declared.chart.Action.TheVariants.{Assign, Raise, Start}
use Rattle.wf_model.specs.declared.chart.Activity.{Activity}
use Rattle.wf_model.specs.declared.chart.Variable.{Variable}
use Rattle.wf_model.specs.declared.chart.Chart.{Chart}
use Rattle.wf_model.specs.declared.chart.Transition.{Transition}
use Rattle.wf_model.specs.declared.outer.Output.{Output}
use Rattle.wf_model.specs.declared.outer.Outer.{Outer}
use Rattle.wf_model.specs.declared.outer.Outer.TheVariants.{Happen, Complete}
use Rattle.wf_model.specs.declared.outer.Entry.{Entry}
use Rattle.wf_parts.specs.declared.data.KnownVariable.{KnownVariable}
use Rattle.wf_parts.specs.declared.data.PartTransition.{PartTransition}
use Rattle.wf_parts.specs.declared.data.PartData.{PartData}
use Rattle.wf_model.specs.declared.update.Write.{Write}
use Rattle.wf_model.specs.declared.update.Update.{Update}
use Rattle.wf_model.specs.Steps.{◌>>=◌, both}
use Rattle.wf_model.specs.Seen.{val_sort, var_sorts, option_sort}
use Rattle.wf_model.specs.Sorts.{sort_of, op_sort, takes, var_sort, alike}
use Rattle.wf_model.specs.Values.{value_of}
use Rattle.wf_model.specs.Tree.{all_transitions, all_acts}
use Rattle.wf_model.specs.Accepted.{IsAccepted, is_sorted, is_sorted_transition, is_sorted_action, has_sort, gives, all_of, is_known_expr, is_known_action, is_known_transition}
use Rattle.wf_model.proofs.Sound.{value_sort}
use Rattle.wf_semantics.specs.Snapshot.{Snapshot}
use Rattle.wf_semantics.specs.Admission.{is_act_at, are_values, are_outputs_of}
use Rattle.wf_model.proofs.Bools.{Mem, or_left, or_right, and_both, and_true, mem_any}
use Rattle.wf_semantics.proofs.Lists.{filter_mem}
use Rattle.wf_semantics.proofs.Children.{item_at, at_any}
use Rattle.wf_semantics.proofs.Steps.{mem_transition, transition_mem}
use Rattle.wf_semantics.proofs.Facts.{rules, parts}
use Rattle.wf_actions.specs.Writes.{of_variable, winner, merged}
use Rattle.wf_actions.specs.Store.{write_of}
use Rattle.wf_parts.specs.Reads.{reads_var, action_reads, action_assigns, assigns}
use Rattle.wf_parts.specs.Known.{concerns, is_own, is_such, knows_var, is_read, has_output}
use Rattle.wf_parts.specs.Parts.{part_of, part_transition, known_variable}
use Rattle.wf_views.specs.Knowledge.{cut_outer, cut_entries, known_to}
use Rattle.wf_views.specs.Views.{View, first_view, sees, outputs_of, outputs_in, after_outputs, value_now}
use Rattle.wf_views.specs.OwnSteps.{own_fired, part_step}
use Rattle.wf_views.specs.Absorbing.{absorbed, writes_in, entries_of, entries_in, value_after}
use Rattle.wf_views.specs.Relevant.{cut_update}
use Rattle.wf_lockstep.specs.Within.{is_at_unit}
use Rattle.wf_lockstep.proofs.Numbered.{at_number, numbered_at, find_at, find_map_none, numbers_mem}
use Rattle.wf_lockstep.proofs.Firing.{trans_at, trans_of_part, at_some, own_actions, read_in_guard, read_in_values, read_var}
use Rattle.wf_lockstep.proofs.Within.{passes, fold_passes, all_filter, all_flat, merged_pass, mine, mine_owned, own_fired_at}
use Rattle.wf_lockstep.proofs.Readable.{var_within, slice_mem}
use Rattle.wf_owns.specs.Sorted.{part_sort, is_fit_value, is_fit_output, is_fit_write, is_fit, IsSortedPart, PartIsSorted, FirstIsSorted, AbsorbedIsSorted, SeesSorts, OwnIsFit, CutIsFit}
use Rattle.wf_model.proofs.Items.{all_at}
use Rattle.wf_parts.specs.Peers.{Knowledge}

alike_same : (a b : Sort) → alike a b ≡ true → a ≡ b
alike_same s.Bool s.Bool h = refl
alike_same s.Int s.Int h = refl
alike_same s.Text s.Text h = refl
alike_same s.Bool s.Int h = absurd (true≢false (sym h))
alike_same s.Bool s.Text h = absurd (true≢false (sym h))
alike_same s.Int s.Bool h = absurd (true≢false (sym h))
alike_same s.Int s.Text h = absurd (true≢false (sym h))
alike_same s.Text s.Bool h = absurd (true≢false (sym h))
alike_same s.Text s.Int h = absurd (true≢false (sym h))

same_alike : (a : Sort) → alike a a ≡ true
same_alike s.Bool = refl
same_alike s.Int = refl
same_alike s.Text = refl

all_flat_of : {A B : Type 0} (p : B → Bool) (f : A → List B) (xs : List A) → list_all p (flat_map f xs) ≡ list_all (λ x. list_all p (f x)) xs
all_flat_of p f [] = refl
all_flat_of p f (x ∷ xs) = list_all-append p (f x) (flat_map f xs) ∙ ap (λ (b : Bool). list_all p (f x) && b) (all_flat_of p f xs)

all_both : {A : Type 0} (p q : A → Bool) (xs : List A) → list_all (λ x. p x && q x) xs ≡ true → (list_all p xs ≡ true) × (list_all q xs ≡ true)
all_both p q [] h = (refl, refl)
all_both p q (x ∷ xs) h =
    let a = and_both (p x && q x) (list_all (λ x. p x && q x) xs) h in
    let b = and_both (p x) (q x) a.0 in
    let c = all_both p q xs a.1 in
    (and_true (p x) (list_all p xs) b.0 c.0, and_true (q x) (list_all q xs) b.1 c.1)

pub all_imply : {A : Type 0} (p q : A → Bool) → ((x : A) → p x ≡ true → q x ≡ true) → (xs : List A) → list_all p xs ≡ true → list_all q xs ≡ true
all_imply p q f [] h = refl
all_imply p q f (x ∷ xs) h = let a = and_both (p x) (list_all p xs) h in and_true (q x) (list_all q xs) (f x a.0) (all_imply p q f xs a.1)

-- VIEWS

module _ (part : PartData) where
  outputs_fit : (x : ℕ) (os : List Output) (val : Val) → list_all (is_fit_output part) os ≡ true → is_fit_value part x val ≡ true → is_fit_value part x (after_outputs x os val) ≡ true
  outputs_fit x [] val h k = k
  outputs_fit x (o ∷ os) val h k = let a = and_both (is_fit_output part o) (list_all (is_fit_output part) os) h in outputs_fit x os (cond (o.var.0 == x) o.val val) a.1 (go (o.var.0 == x) refl a.0)
    where
      go : (b : Bool) → (o.var.0 == x) ≡ b → is_fit_output part o ≡ true → is_fit_value part x (cond b o.val val) ≡ true
      go true q f = ap (λ (n : ℕ). is_fit_value part n o.val) (sym (eqb-true o.var.0 x q)) ∙ f
      go false q f = k

  pub now_fits : (view : View) → list_all (is_fit_output part) (outputs_in view.next) ≡ true → (os : List Output) → list_all (is_fit_output part) os ≡ true → list_all (λ o. is_fit_value part o.var.0 (value_now view o)) os ≡ true
  now_fits view h os k = all_imply (is_fit_output part) (λ o. is_fit_value part o.var.0 (value_now view o)) (λ o f. outputs_fit o.var.0 (outputs_in view.next) o.val h f) os k

  winner_fits : (x : ℕ) (ws : List Write) (val : Val) → list_all (is_fit_write part) ws ≡ true → is_fit_value part x val ≡ true → is_fit_value part x (value_after ws x val) ≡ true
  winner_fits x ws val h k = go (winner x ws) (fold_passes (λ w. (w.var.0 == x) && is_fit_write part w) (of_variable x ws) None refl (both_pass ws h))
    where
      both_pass : (ws : List Write) → list_all (is_fit_write part) ws ≡ true → list_all (λ w. (w.var.0 == x) && is_fit_write part w) (of_variable x ws) ≡ true
      both_pass [] h = refl
      both_pass (w ∷ ws) h = let a = and_both (is_fit_write part w) (list_all (is_fit_write part) ws) h in step (w.var.0 == x) refl a.0 (both_pass ws a.1)
        where
          step : (b : Bool) → (w.var.0 == x) ≡ b → is_fit_write part w ≡ true → list_all (λ w. (w.var.0 == x) && is_fit_write part w) (of_variable x ws) ≡ true →
              list_all (λ w. (w.var.0 == x) && is_fit_write part w) (cond b (w ∷ of_variable x ws) (of_variable x ws)) ≡ true
          step true e f ih = and_true ((w.var.0 == x) && is_fit_write part w) (list_all (λ w. (w.var.0 == x) && is_fit_write part w) (of_variable x ws)) (and_true (w.var.0 == x) (is_fit_write part w) e f) ih
          step false e f ih = ih

      go : (o : Option Write) → passes (λ w. (w.var.0 == x) && is_fit_write part w) o ≡ true → is_fit_value part x (option_map_or (λ write. write.val) o val) ≡ true
      go None p = k
      go (Some w) p = let a = and_both (w.var.0 == x) (is_fit_write part w) p in ap (λ (n : ℕ). is_fit_value part n w.val) (sym (eqb-true w.var.0 x a.0)) ∙ a.1

  outer_cut_fits : (known : Knowledge) (o : Outer) → list_all (is_fit_output part) (outputs_of o) ≡ true → (r : Option Outer) → cut_outer known o ≡ r → list_all (is_fit_output part) (option_map_or outputs_of r []) ≡ true
  outer_cut_fits known o h None e = refl
  outer_cut_fits known (Happen v) h (Some w) e = go (known.events v.0) e
    where
      go : (b : Bool) → cond b (Some (Happen v)) None ≡ Some w → list_all (is_fit_output part) (outputs_of w) ≡ true
      go true q = let same : Happen v ≡ w = cc in ap (λ (o : Outer). list_all (is_fit_output part) (outputs_of o)) (sym same)
      go false q = cc
  outer_cut_fits known (Complete n a os) h (Some w) e = go (known.acts a.0 || list_any (λ o. known.vars o.var.0) os) e
    where
      go : (b : Bool) → cond b (Some (Complete n a (filter (λ o. known.vars o.var.0) os))) None ≡ Some w → list_all (is_fit_output part) (outputs_of w) ≡ true
      go true q = let same : Complete n a (filter (λ o. known.vars o.var.0) os) ≡ w = cc in ap (λ (o : Outer). list_all (is_fit_output part) (outputs_of o)) (sym same) ∙ all_filter (is_fit_output part) (λ o. known.vars o.var.0) os h
      go false q = cc

  pub outers_cut_fit : (known : Knowledge) (os : List Outer) → list_all (is_fit_output part) (flat_map outputs_of os) ≡ true → list_all (is_fit_output part) (flat_map outputs_of (filter_map (cut_outer known) os)) ≡ true
  outers_cut_fit known [] h = refl
  outers_cut_fit known (o ∷ os) h =
      let a = and_both (list_all (is_fit_output part) (outputs_of o)) (list_all (is_fit_output part) (flat_map outputs_of os)) (sym (list_all-append (is_fit_output part) (outputs_of o) (flat_map outputs_of os)) ∙ h) in
      go (cut_outer known o) (outer_cut_fits known o a.0 (cut_outer known o) refl) (outers_cut_fit known os a.1)
    where
      go : (r : Option Outer) → list_all (is_fit_output part) (option_map_or outputs_of r []) ≡ true → list_all (is_fit_output part) (flat_map outputs_of (filter_map (cut_outer known) os)) ≡ true →
          list_all (is_fit_output part) (flat_map outputs_of (cons_option r (filter_map (cut_outer known) os))) ≡ true
      go None k ih = ih
      go (Some w) k ih = list_all-append (is_fit_output part) (outputs_of w) (flat_map outputs_of (filter_map (cut_outer known) os)) ∙ and_true (list_all (is_fit_output part) (outputs_of w)) (list_all (is_fit_output part) (flat_map outputs_of (filter_map (cut_outer known) os))) k ih

  entries_cut_fit : (known : Knowledge) (es : List Entry) → list_all (is_fit_output part) (outputs_in es) ≡ true → list_all (is_fit_output part) (outputs_in (cut_entries known es)) ≡ true
  entries_cut_fit known [] h = refl
  entries_cut_fit known (x ∷ es) h =
      let a = and_both (list_all (is_fit_output part) (outputs_of x.outer)) (list_all (is_fit_output part) (outputs_in es)) (sym (list_all-append (is_fit_output part) (outputs_of x.outer) (outputs_in es)) ∙ h) in
      go (cut_outer known x.outer) (outer_cut_fits known x.outer a.0 (cut_outer known x.outer) refl) (entries_cut_fit known es a.1)
    where
      go : (r : Option Outer) → list_all (is_fit_output part) (option_map_or outputs_of r []) ≡ true → list_all (is_fit_output part) (outputs_in (cut_entries known es)) ≡ true →
          list_all (is_fit_output part) (outputs_in (cons_option (option_map (λ outer. record { unit = x.unit; outer = outer }) r) (cut_entries known es))) ≡ true
      go None k ih = ih
      go (Some w) k ih = list_all-append (is_fit_output part) (outputs_of w) (outputs_in (cut_entries known es)) ∙ and_true (list_all (is_fit_output part) (outputs_of w)) (list_all (is_fit_output part) (outputs_in (cut_entries known es))) k ih

  entries_outputs : (update : Update) → outputs_in (entries_of update) ≡ flat_map outputs_of update.outer
  entries_outputs update = flat_map-map (λ x. outputs_of x.outer) (λ outer. record { unit = update.from; outer = outer }) update.outer

  outputs_in_append : (xs ys : List Entry) → outputs_in (xs ++ ys) ≡ outputs_in xs ++ outputs_in ys
  outputs_in_append xs ys = Rattle.std.proofs.lemmas.Grind.flat_map-append (λ (x : Entry). outputs_of x.outer) xs ys

  all_fit_in : (updates : List Update) → list_all (is_fit part) updates ≡ true → (list_all (is_fit_write part) (writes_in updates) ≡ true) × (list_all (is_fit_output part) (outputs_in (entries_in updates)) ≡ true)
  all_fit_in [] h = (refl, refl)
  all_fit_in (update ∷ updates) h =
      let a = and_both (is_fit part update) (list_all (is_fit part) updates) h in
      let b = and_both (list_all (is_fit_write part) update.writes) (list_all (is_fit_output part) (flat_map outputs_of update.outer)) a.0 in
      let ih = all_fit_in updates a.1 in (
        list_all-append (is_fit_write part) update.writes (writes_in updates) ∙ and_true (list_all (is_fit_write part) update.writes) (list_all (is_fit_write part) (writes_in updates)) b.0 ih.0,
        ap (list_all (is_fit_output part)) (outputs_in_append (entries_of update) (entries_in updates))
            ∙ list_all-append (is_fit_output part) (outputs_in (entries_of update)) (outputs_in (entries_in updates))
            ∙ and_true (list_all (is_fit_output part) (outputs_in (entries_of update))) (list_all (is_fit_output part) (outputs_in (entries_in updates))) (ap (list_all (is_fit_output part)) (entries_outputs update) ∙ b.1) ih.1,
      )

pub absorbed_is_sorted : AbsorbedIsSorted
unfolding absorbed
absorbed_is_sorted part view updates is fit =
    let all = all_fit_in part updates fit in
    record {
      vars =
          list_all-map (is_fit_output part) (λ o. record { var = o.var; val = value_after (writes_in updates) o.var.0 (value_now view o) }) view.vars
          ∙ all_imply (λ o. is_fit_value part o.var.0 (value_now view o)) (λ o. is_fit_value part o.var.0 (value_after (writes_in updates) o.var.0 (value_now view o))) (λ o f. winner_fits part o.var.0 (writes_in updates) (value_now view o) all.0 f) view.vars (now_fits part view is.next view.vars is.vars);
      next = entries_cut_fit part (known_to part) (entries_in updates) all.1;
    }

pub cut_is_fit : CutIsFit
unfolding cut_update
cut_is_fit part known update h =
    let a = and_both (list_all (is_fit_write part) update.writes) (list_all (is_fit_output part) (flat_map outputs_of update.outer)) h in
    and_true (list_all (is_fit_write part) (filter (λ write. known.vars write.var.0) update.writes)) (list_all (is_fit_output part) (flat_map outputs_of (filter_map (cut_outer known) update.outer)))
    (all_filter (is_fit_write part) (λ write. known.vars write.var.0) update.writes a.0) (outers_cut_fit part known update.outer a.1)

-- WHAT A STEP SEES

module _ (part : PartData) (view : View) (x : ℕ) where
  seen_sort : (os : List Output) (ks : List KnownVariable) → map (λ o. o.var) os ≡ map (λ known. known.id) ks → list_all (λ o. is_fit_value part o.var.0 (value_now view o)) os ≡ true →
      option_map (λ known. known.sort) (find (λ known. known.id.0 == x) ks) ≡ part_sort part x → option_sort (option_map (value_now view) (find (λ o. o.var.0 == x) os)) ≡ part_sort part x
  seen_sort [] [] e h q = q
  seen_sort [] (k ∷ ks) e h q = cc
  seen_sort (o ∷ os) [] e h q = cc
  seen_sort (o ∷ os) (k ∷ ks) e h q =
      let first : o.var ∷ map (λ (o : Output). o.var) os ≡ k.id ∷ map (λ (known : KnownVariable). known.id) ks = e in
      let here : o.var ≡ k.id = cc in
      let rest : map (λ (o : Output). o.var) os ≡ map (λ (known : KnownVariable). known.id) ks = cc in
      let a = and_both (is_fit_value part o.var.0 (value_now view o)) (list_all (λ o. is_fit_value part o.var.0 (value_now view o)) os) h in
      go (o.var.0 == x) refl (ap (λ (i : VarId). i.0 == x) (sym here)) a.0 (seen_sort os ks rest a.1) q
    where
      fit_sort : (w : Option Sort) → Some k.sort ≡ w → option_map_or (λ sort. alike sort (val_sort (value_now view o))) w true ≡ true → Some (val_sort (value_now view o)) ≡ w
      fit_sort None r f = cc
      fit_sort (Some sort) r f = ap Some (sym (alike_same sort (val_sort (value_now view o)) f))

      go : (b : Bool) → (o.var.0 == x) ≡ b → (k.id.0 == x) ≡ (o.var.0 == x) → is_fit_value part o.var.0 (value_now view o) ≡ true →
          (option_map (λ known. known.sort) (find (λ known. known.id.0 == x) ks) ≡ part_sort part x → option_sort (option_map (value_now view) (find (λ o. o.var.0 == x) os)) ≡ part_sort part x) →
          option_map (λ known. known.sort) (cond (k.id.0 == x) (Some k) (find (λ known. known.id.0 == x) ks)) ≡ part_sort part x →
          option_sort (option_map (value_now view) (cond b (Some o) (find (λ o. o.var.0 == x) os))) ≡ part_sort part x
      go true t same f ih w =
          let at : Some k.sort ≡ part_sort part x = ap (λ (b : Bool). option_map (λ (known : KnownVariable). known.sort) (cond b (Some k) (find (λ known. known.id.0 == x) ks))) (sym (same ∙ t)) ∙ w in
          fit_sort (part_sort part x) at (ap (λ (n : ℕ). is_fit_value part n (value_now view o)) (sym (eqb-true o.var.0 x t)) ∙ f)
      go false t same f ih w = ih (ap (λ (b : Bool). option_map (λ (known : KnownVariable). known.sort) (cond b (Some k) (find (λ known. known.id.0 == x) ks))) (sym (same ∙ t)) ∙ w)

pub sees_sorts : SeesSorts
unfolding sees
sees_sorts part view is sorted = λ i x. seen_sort part view x view.vars part.vars is.vars (now_fits part view sorted.next view.vars sorted.vars) refl i

-- THE PART OF AN ACCEPTED CHART

-- over variables of the same sorts an expression has the same
sort_same : (f g : ℕ → Option Sort) (x : Expr) → ((y : ℕ) → reads_var y x ≡ true → f y ≡ g y) → sort_of f x ≡ sort_of g x
sort_same f g (e.Bool b) h = refl
sort_same f g (e.Int n) h = refl
sort_same f g (e.Text t) h = refl
sort_same f g (e.Var v) h = ap (λ (o : Option Sort). Rattle.std.specs.Option.ok_or o Rattle.wf_model.specs.declared.expr.TypeFault.TheVariants.Mismatch) (h v.0 (eq-eqb v.0 v.0 refl))
sort_same f g (e.In i) h = refl
sort_same f g (e.Count a) h = refl
sort_same f g (e.Done a) h = refl
sort_same f g (e.Not' p (more_of-Expr x end_of-Expr)) h = ap (λ (r : Result Sort TypeFault). r >>= takes s.Bool s.Bool) (sort_same f g x h)
sort_same f g (e.Neg' p (more_of-Expr x end_of-Expr)) h = ap (λ (r : Result Sort TypeFault). r >>= takes s.Int s.Int) (sort_same f g x h)
sort_same f g (e.Bin' op p (more_of-Expr x end_of-Expr) q (more_of-Expr y end_of-Expr)) h =
    ap₂ (both (op_sort op)) (sort_same f g x (λ z k. h z (or_left (reads_var z x) (reads_var z y) k))) (sort_same f g y (λ z k. h z (or_right (reads_var z x) (reads_var z y) k)))

gives_is : (sort : Sort) (r : Result Sort TypeFault) → gives sort r ≡ true → r ≡ Ok sort
gives_is sort (Ok t) h = ap Ok (sym (alike_same sort t h))
gives_is sort (Err d) h = absurd (true≢false (sym h))

abbrev fits_chart : Chart → ℕ → Val → Bool
fits_chart chart x val = option_map_or (λ sort. alike sort (val_sort val)) (var_sort chart x) true

module _ (chart : Chart) (u : ℕ) where
  abbrev no_variable : ℕ → KnownVariable
  no_variable x = record { id = record { 0 = x }; sort = s.Bool; first = Rattle.wf_model.specs.declared.value.Val.TheVariants.Bool false }

  abbrev var_at : ℕ → KnownVariable
  var_at x = at_number known_variable no_variable chart.vars x

  var_id : (x : ℕ) → (var_at x).id.0 ≡ x
  var_id x = go (slice_get chart.vars x)
    where
      go : (o : Option Variable) → (unwrap_or (option_map (λ y. known_variable (x, y)) o) (no_variable x)).id.0 ≡ x
      go None = refl
      go (Some v) = refl

  vars_of_part : (part_of chart u).vars ≡ map var_at (filter (knows_var chart u) (range_with_len 0 (length chart.vars)))
  unfolding part_of
  vars_of_part = numbered_at known_variable no_variable (knows_var chart u) chart.vars

  pub known_sort : (x : ℕ) → x < length chart.vars → knows_var chart u x ≡ true → part_sort (part_of chart u) x ≡ var_sort chart x
  known_sort x lt h =
      ap (λ (l : List KnownVariable). option_map (λ (known : KnownVariable). known.sort) (find (λ known. known.id.0 == x) l)) vars_of_part
      ∙ ap (λ (o : Option KnownVariable). option_map (λ (known : KnownVariable). known.sort) o) (find_at var_at (λ known. known.id.0) var_id (knows_var chart u) (length chart.vars) x lt h)
      ∙ at (item_at chart.vars x lt)
    where
      at : (v : Variable) × (slice_get chart.vars x ≡ Some v) → Some (var_at x).sort ≡ var_sort chart x
      at w = ap (λ (o : Option Variable). Some ((unwrap_or (option_map (λ y. known_variable (x, y)) o) (no_variable x)).sort)) w.1 ∙ ap (λ (o : Option Variable). option_map (λ (v : Variable). v.sort) o) (sym w.1)

  unknown_sort : (x : ℕ) → (nat_lt x (length chart.vars) && knows_var chart u x) ≡ false → part_sort (part_of chart u) x ≡ None
  unknown_sort x h =
      ap (λ (l : List KnownVariable). option_map (λ (known : KnownVariable). known.sort) (find (λ known. known.id.0 == x) l)) vars_of_part
      ∙ ap (λ (o : Option KnownVariable). option_map (λ (known : KnownVariable). known.sort) o) (find_map_none var_at (λ known. known.id.0) var_id (filter (knows_var chart u) (range_with_len 0 (length chart.vars))) x (λ m.
      let r = numbers_mem (knows_var chart u) (length chart.vars) x m in
      true≢false (sym (and_true (nat_lt x (length chart.vars)) (knows_var chart u x) (Rattle.std.proofs.Common.lt-ltb x (length chart.vars) r.0) r.1) ∙ h)))

  -- what fits the chart fits the part
  pub fits_part : (x : ℕ) (val : Val) → fits_chart chart x val ≡ true → is_fit_value (part_of chart u) x val ≡ true
  fits_part x val h = go (nat_lt x (length chart.vars) && knows_var chart u x) refl
    where
      go : (b : Bool) → (nat_lt x (length chart.vars) && knows_var chart u x) ≡ b → is_fit_value (part_of chart u) x val ≡ true
      go true q =
          let a = and_both (nat_lt x (length chart.vars)) (knows_var chart u x) q in
          ap (λ (o : Option Sort). option_map_or (λ sort. alike sort (val_sort val)) o true) (known_sort x (ltb-true x (length chart.vars) a.0) a.1) ∙ h
      go false q = ap (λ (o : Option Sort). option_map_or (λ sort. alike sort (val_sort val)) o true) (unknown_sort x q)

  -- VALUES AND GUARDS OF THE PART'S TRANSITIONS

  read_sort : (x : Expr) → is_known_expr chart x ≡ true → ((y : ℕ) → reads_var y x ≡ true → knows_var chart u y ≡ true) → sort_of (part_sort (part_of chart u)) x ≡ sort_of (var_sort chart) x
  read_sort x known rx = sort_same (part_sort (part_of chart u)) (var_sort chart) x (λ y r. known_sort y (ltb-true y (length chart.vars) (var_within chart y x known r)) (rx y r))

  module _ (ok : IsAccepted chart) where
    sorted_transition : (t : ℕ) (trans : Transition) → slice_get chart.transitions t ≡ Some trans → is_sorted_transition chart trans ≡ true
    unfolding is_sorted
    sorted_transition t trans w =
        let r = (rules chart ok).sorted in
        all_at (is_sorted_transition chart) chart.transitions (and_both (list_all (λ x. alike (val_sort x.first) x.sort) chart.vars) (list_all (is_sorted_transition chart) chart.transitions) r).1 t trans w

    known_transition : (t : ℕ) (trans : Transition) → slice_get chart.transitions t ≡ Some trans → is_known_transition chart trans ≡ true
    known_transition t trans w = all_at (is_known_transition chart) chart.transitions (parts chart ok).known_transitions t trans w

    guard_sort : (t : ℕ) (trans : Transition) (guard : Expr) → t < length chart.transitions → concerns chart u t ≡ true → slice_get chart.transitions t ≡ Some trans → trans.guard ≡ Some guard → sort_of (part_sort (part_of chart u)) guard ≡ Ok s.Bool
    guard_sort t trans guard lt con w g =
        let k = known_transition t trans w in
        let guards : all_of (is_known_expr chart) trans.guard ≡ true = grind arith in
        let known : is_known_expr chart guard ≡ true = ap (all_of (is_known_expr chart)) (sym g) ∙ guards in
        let h = (and_both (all_of (λ guard. has_sort chart guard s.Bool) trans.guard) (list_all (is_sorted_action chart) trans.actions) (sorted_transition t trans w)).0 in
        read_sort guard known (λ y r. read_var chart u y (read_in_guard chart u (reads_var y) t trans guard lt con w g r))
        ∙ gives_is s.Bool (sort_of (var_sort chart) guard) (ap (all_of (λ (guard : Expr). has_sort chart guard s.Bool)) (sym g) ∙ h)

    value_sorts : (t : ℕ) (trans : Transition) → t < length chart.transitions → is_own chart u t ≡ true → slice_get chart.transitions t ≡ Some trans → (k : ℕ) (x : VarId) (value : Expr) → slice_get trans.actions k ≡ Some (Assign x value) →
        (sort : Sort) × (var_sort chart x.0 ≡ Some sort) × (sort_of (part_sort (part_of chart u)) value ≡ Ok sort)
    value_sorts t trans lt own w k x value g =
        let kt = known_transition t trans w in
        let all : list_all (is_known_action chart) trans.actions ≡ true = grind arith in
        let named = and_both (nat_lt x.0 (length chart.vars)) (is_known_expr chart value) (all_at (is_known_action chart) trans.actions all k (Assign x value) g) in
        let h = (and_both (all_of (λ guard. has_sort chart guard s.Bool) trans.guard) (list_all (is_sorted_action chart) trans.actions) (sorted_transition t trans w)).1 in
        let fits : all_of (has_sort chart value) (var_sort chart x.0) ≡ true = all_at (is_sorted_action chart) trans.actions h k (Assign x value) g in
        let v = item_at chart.vars x.0 (ltb-true x.0 (length chart.vars) named.0) in
        let is : var_sort chart x.0 ≡ Some v.0.sort = ap (λ (o : Option Variable). option_map (λ (v : Variable). v.sort) o) v.1 in (
          v.0.sort,
          is,
          read_sort value named.1 (λ y r. read_var chart u y (read_in_values chart u (reads_var y) t trans lt own w (at_any (action_reads (reads_var y)) trans.actions k (Assign x value) g r)))
              ∙ gives_is v.0.sort (sort_of (var_sort chart) value) (ap (all_of (has_sort chart value)) (sym is) ∙ fits),
        )

    -- what an own transition assigns is known
    assigned_known : (t : ℕ) (trans : Transition) → t < length chart.transitions → is_own chart u t ≡ true → slice_get chart.transitions t ≡ Some trans → (k : ℕ) (x : VarId) (value : Expr) → slice_get trans.actions k ≡ Some (Assign x value) → knows_var chart u x.0 ≡ true
    unfolding knows_var
    assigned_known t trans lt own w k x value g =
        or_right (is_read chart u (reads_var x.0)) (list_any (λ t. is_own chart u t && is_such (assigns x.0) chart t) (all_transitions chart) || list_any (λ a. is_act_at chart u a && has_output chart x.0 a) (all_acts chart))
        (or_left (list_any (λ t. is_own chart u t && is_such (assigns x.0) chart t) (all_transitions chart)) (list_any (λ a. is_act_at chart u a && has_output chart x.0 a) (all_acts chart))
        (mem_any (λ t. is_own chart u t && is_such (assigns x.0) chart t) t (all_transitions chart) (mem_transition chart t lt)
        (and_true (is_own chart u t) (is_such (assigns x.0) chart t) own
        (ap (λ (o : Option Transition). option_map_or (assigns x.0) o false) w ∙ at_any (action_assigns x.0) trans.actions k (Assign x value) g (eq-eqb x.0 x.0 refl)))))

    var_inside : (x : ℕ) (sort : Sort) → var_sort chart x ≡ Some sort → x < length chart.vars
    var_inside x sort e = go (slice_get chart.vars x) refl e
      where
        go : (o : Option Variable) → slice_get chart.vars x ≡ o → option_map (λ v. v.sort) o ≡ Some sort → x < length chart.vars
        go None q h = cc
        go (Some v) q h = Rattle.std.proofs.lemmas.Option.slice_get_within chart.vars x v q

    at_transition : (t : ℕ) (trans : Transition) → t < length chart.transitions → concerns chart u t ≡ true → slice_get chart.transitions t ≡ Some trans → (p : PartTransition) → p ≡ part_transition chart u (t, trans) →
        ((guard : Expr) → p.guard ≡ Some guard → sort_of (part_sort (part_of chart u)) guard ≡ Ok s.Bool)
        × ((k : ℕ) (x : VarId) (value : Expr) → slice_get p.actions k ≡ Some (Assign x value) → (sort : Sort) × (part_sort (part_of chart u) x.0 ≡ Some sort) × (sort_of (part_sort (part_of chart u)) value ≡ Ok sort))
    at_transition t trans lt con w p same = (
      (λ guard g. guard_sort t trans guard lt con w (ap (λ (q : PartTransition). q.guard) (sym same) ∙ g)),
      (λ k x value g. by_own (is_own chart u t) refl k x value (ap (λ (q : PartTransition). slice_get q.actions k) (sym same) ∙ g)),
    )
      where
        none : (k : ℕ) (a : Action) → slice_get {X = Action} [] k ≡ Some a → ⊥
        none k a g = cc

        by_own : (b : Bool) → is_own chart u t ≡ b → (k : ℕ) (x : VarId) (value : Expr) → slice_get (cond b trans.actions []) k ≡ Some (Assign x value) → (sort : Sort) × (part_sort (part_of chart u) x.0 ≡ Some sort) × (sort_of (part_sort (part_of chart u)) value ≡ Ok sort)
        by_own true own k x value g =
            let v = value_sorts t trans lt own w k x value g in
            (v.0, known_sort x.0 (var_inside x.0 v.0 v.1) (assigned_known t trans lt own w k x value g) ∙ v.1, v.2)
        by_own false own k x value g = absurd (none k (Assign x value) g)

    pub part_sorted : IsSortedPart (part_of chart u)
    part_sorted i trans w = go (slice_get (filter (concerns chart u) (all_transitions chart)) i) refl
        (sym (slice_get-map (trans_at chart u) (filter (concerns chart u) (all_transitions chart)) i) ∙ ap (λ (l : List PartTransition). slice_get l i) (sym (trans_of_part chart u)) ∙ w)
      where
        go : (o : Option ℕ) → slice_get (filter (concerns chart u) (all_transitions chart)) i ≡ o → option_map (trans_at chart u) o ≡ Some trans →
            ((guard : Expr) → trans.guard ≡ Some guard → sort_of (part_sort (part_of chart u)) guard ≡ Ok s.Bool)
            × ((k : ℕ) (x : VarId) (value : Expr) → slice_get trans.actions k ≡ Some (Assign x value) → (sort : Sort) × (part_sort (part_of chart u) x.0 ≡ Some sort) × (sort_of (part_sort (part_of chart u)) value ≡ Ok sort))
        go None q h = cc
        go (Some t) q h =
            let m = filter_mem (concerns chart u) (all_transitions chart) t (slice_mem (filter (concerns chart u) (all_transitions chart)) i t q) in
            let lt : t < length chart.transitions = transition_mem chart t m.0 in
            let w = item_at chart.transitions t lt in
            let same : trans_at chart u t ≡ trans = cc in
            at_transition t w.0 lt m.1 w.1 trans (sym same ∙ at_some chart u t w.0 w.1)

    -- the first values
    first_fits : (x : ℕ) → x < length chart.vars → fits_chart chart x (var_at x).first ≡ true
    unfolding is_sorted
    first_fits x lt =
        let v = item_at chart.vars x lt in
        let r = (rules chart ok).sorted in
        let firsts = (and_both (list_all (λ x. alike (val_sort x.first) x.sort) chart.vars) (list_all (is_sorted_transition chart) chart.transitions) r).0 in
        let h : alike (val_sort v.0.first) v.0.sort ≡ true = all_at (λ x. alike (val_sort x.first) x.sort) chart.vars firsts x v.0 v.1 in
        ap (λ (o : Option Variable). option_map_or (λ sort. alike sort (val_sort (unwrap_or (option_map (λ y. known_variable (x, y)) o) (no_variable x)).first)) (option_map (λ (v : Variable). v.sort) o) true) v.1
        ∙ ap (λ (t : Sort). alike v.0.sort t) (alike_same (val_sort v.0.first) v.0.sort h) ∙ same_alike v.0.sort

    pub first_sorted : list_all (λ (known : KnownVariable). is_fit_value (part_of chart u) known.id.0 known.first) (part_of chart u).vars ≡ true
    first_sorted =
        ap (list_all (λ (known : KnownVariable). is_fit_value (part_of chart u) known.id.0 known.first)) vars_of_part
        ∙ list_all-map (λ (known : KnownVariable). is_fit_value (part_of chart u) known.id.0 known.first) var_at (filter (knows_var chart u) (range_with_len 0 (length chart.vars)))
        ∙ go (filter (knows_var chart u) (range_with_len 0 (length chart.vars))) (λ x m. (numbers_mem (knows_var chart u) (length chart.vars) x m).0)
      where
        go : (xs : List ℕ) → ((x : ℕ) → Mem x xs → x < length chart.vars) → list_all (λ x. is_fit_value (part_of chart u) (var_at x).id.0 (var_at x).first) xs ≡ true
        go [] h = refl
        go (x ∷ xs) h =
            and_true (is_fit_value (part_of chart u) (var_at x).id.0 (var_at x).first) (list_all (λ x. is_fit_value (part_of chart u) (var_at x).id.0 (var_at x).first) xs)
            (ap (λ (n : ℕ). is_fit_value (part_of chart u) n (var_at x).first) (var_id x) ∙ fits_part x (var_at x).first (first_fits x (h x (inl refl))))
            (go xs (λ y m. h y (inr m)))

pub part_is_sorted : PartIsSorted
part_is_sorted chart u ok = part_sorted chart u ok

pub first_is_sorted : FirstIsSorted
unfolding first_view
first_is_sorted chart u ok = record {
  vars = list_all-map (is_fit_output (part_of chart u)) (λ known. record { var = known.id; val = known.first }) (part_of chart u).vars ∙ first_sorted chart u ok;
  next = refl;
}

-- OWN UPDATES

abbrev fits_write : Chart → Write → Bool
fits_write chart w = fits_chart chart w.var.0 w.val

module _ (chart : Chart) (snap : Snapshot) (t : ℕ) where
  -- of actions whose values have their variables' sorts
  writes_sorted : (xs : List Action) → ((k : ℕ) (x : VarId) (value : Expr) → slice_get xs k ≡ Some (Assign x value) → (sort : Sort) × (var_sort chart x.0 ≡ Some sort) × (sort_of (var_sorts snap.seen) value ≡ Ok sort)) → list_all (fits_write chart) (filter_map (write_of snap.seen t) xs) ≡ true
  writes_sorted [] h = refl
  writes_sorted (Raise e ∷ xs) h = writes_sorted xs (λ k x value g. h (suc k) x value g)
  writes_sorted (Start a ∷ xs) h = writes_sorted xs (λ k x value g. h (suc k) x value g)
  writes_sorted (Assign y value ∷ xs) h = go (value_of snap.seen value) refl (h 0 y value refl) (writes_sorted xs (λ k x value g. h (suc k) x value g))
    where
      go : (r : Result Val Fault) → value_of snap.seen value ≡ r → (sort : Sort) × (var_sort chart y.0 ≡ Some sort) × (sort_of (var_sorts snap.seen) value ≡ Ok sort) → list_all (fits_write chart) (filter_map (write_of snap.seen t) xs) ≡ true →
          list_all (fits_write chart) (cons_option (option_map (λ val. record { var = y; trans = record { 0 = t }; val = val }) (result_ok r)) (filter_map (write_of snap.seen t) xs)) ≡ true
      go (Err d) e w ih = ih
      go (Ok val) e w ih =
          let is : val_sort val ≡ w.0 = value_sort snap.seen value w.0 val w.2 e in
          and_true (fits_chart chart y.0 val) (list_all (fits_write chart) (filter_map (write_of snap.seen t) xs))
          (ap (λ (o : Option Sort). option_map_or (λ sort. alike sort (val_sort val)) o true) w.1 ∙ ap (alike w.0) is ∙ same_alike w.0) ih

values_fit : (chart : Chart) (xs : List VarId) (os : List Output) → are_values chart xs os ≡ true → list_all (λ (o : Output). fits_chart chart o.var.0 o.val) os ≡ true
values_fit chart [] [] h = refl
values_fit chart [] (o ∷ os) h = absurd (true≢false (sym h))
values_fit chart (x ∷ xs) [] h = refl
values_fit chart (x ∷ xs) (o ∷ os) h =
    let a = and_both (o.var.0 == x.0) (option_map_or (λ sort. alike sort (val_sort o.val)) (var_sort chart x.0) false && are_values chart xs os) h in
    let b = and_both (option_map_or (λ sort. alike sort (val_sort o.val)) (var_sort chart x.0) false) (are_values chart xs os) a.1 in
    and_true (fits_chart chart o.var.0 o.val) (list_all (λ (o : Output). fits_chart chart o.var.0 o.val) os)
    (ap (λ (n : ℕ). fits_chart chart n o.val) (eqb-true o.var.0 x.0 a.0) ∙ weaker (var_sort chart x.0) b.0) (values_fit chart xs os b.1)
  where
    weaker : (w : Option Sort) → option_map_or (λ sort. alike sort (val_sort o.val)) w false ≡ true → option_map_or (λ sort. alike sort (val_sort o.val)) w true ≡ true
    weaker None k = refl
    weaker (Some sort) k = k

outer_sorted : (chart : Chart) (u : ℕ) (o : Outer) → is_at_unit chart u o ≡ true → list_all (λ (o : Output). fits_chart chart o.var.0 o.val) (outputs_of o) ≡ true
outer_sorted chart u (Happen e) h = refl
outer_sorted chart u (Complete n a os) h = go (slice_get chart.acts a.0) (and_both (is_act_at chart u a.0) (are_outputs_of chart a.0 os) h).1
  where
    go : (w : Option Activity) → option_map_or (λ act. are_values chart act.outputs os) w false ≡ true → list_all (λ (o : Output). fits_chart chart o.var.0 o.val) os ≡ true
    go None k = absurd (true≢false (sym k))
    go (Some act) k = values_fit chart act.outputs os k

pub outers_sorted : (chart : Chart) (u : ℕ) (os : List Outer) → list_all (is_at_unit chart u) os ≡ true → list_all (λ (o : Output). fits_chart chart o.var.0 o.val) (flat_map outputs_of os) ≡ true
outers_sorted chart u [] h = refl
outers_sorted chart u (o ∷ os) h =
    let a = and_both (is_at_unit chart u o) (list_all (is_at_unit chart u) os) h in
    list_all-append (λ (o : Output). fits_chart chart o.var.0 o.val) (outputs_of o) (flat_map outputs_of os)
    ∙ and_true (list_all (λ (o : Output). fits_chart chart o.var.0 o.val) (outputs_of o)) (list_all (λ (o : Output). fits_chart chart o.var.0 o.val) (flat_map outputs_of os)) (outer_sorted chart u o a.0) (outers_sorted chart u os a.1)

pub own_is_fit : OwnIsFit
unfolding part_step
own_is_fit chart u v k view outers ok is sorted at =
    and_true (list_all (is_fit_write (part_of chart v)) (merged writes)) (list_all (is_fit_output (part_of chart v)) (flat_map outputs_of outers))
    (all_imply (fits_write chart) (is_fit_write (part_of chart v)) (λ w h. fits_part chart v w.var.0 w.val h) (merged writes) (merged_pass (fits_write chart) writes written))
    (all_imply (λ (o : Output). fits_chart chart o.var.0 o.val) (is_fit_output (part_of chart v)) (λ o h. fits_part chart v o.var.0 o.val h) (flat_map outputs_of outers) (outers_sorted chart u outers at))
  where
    snap : Snapshot
    snap = sees (part_of chart u) view

    writes : List Write
    writes = flat_map (λ p. filter_map (write_of snap.seen p.id.0) p.actions) (own_fired (part_of chart u) snap)

    seen_sorts : var_sorts (sees (part_of chart u) view).seen ≡ part_sort (part_of chart u)
    seen_sorts = sees_sorts (part_of chart u) view is sorted

    at_trans : (t : ℕ) → Mem t (mine chart u (sees (part_of chart u) view)) → (k : ℕ) (x : VarId) (value : Expr) → slice_get (trans_at chart u t).actions k ≡ Some (Assign x value) → (sort : Sort) × (var_sort chart x.0 ≡ Some sort) × (sort_of (var_sorts (sees (part_of chart u) view).seen) value ≡ Ok sort)
    at_trans t m k x value g =
        let o = mine_owned chart u (sees (part_of chart u) view) t m in
        let w = item_at chart.transitions t o.0 in
        let same : (trans_at chart u t).actions ≡ w.0.actions = own_actions chart u t o.1 ∙ ap (λ (o : Option Transition). unwrap_or (option_map (λ trans. trans.actions) o) []) w.1 in
        let z = value_sorts chart u ok t w.0 o.0 o.1 w.1 k x value (ap (λ (l : List Action). slice_get l k) (sym same) ∙ g) in
        (z.0, z.1, ap (λ (f : ℕ → Option Sort). sort_of f value) seen_sorts ∙ z.2)

    written : list_all (fits_write chart) writes ≡ true
    written =
        ap (list_all (fits_write chart)) (ap (flat_map (λ (p : PartTransition). filter_map (write_of snap.seen p.id.0) p.actions)) (own_fired_at chart u snap)
        ∙ flat_map-map (λ (p : PartTransition). filter_map (write_of snap.seen p.id.0) p.actions) (trans_at chart u) (mine chart u snap))
        ∙ all_flat (fits_write chart) (λ t. filter_map (write_of snap.seen (trans_at chart u t).id.0) (trans_at chart u t).actions) (mine chart u snap) (λ t m.
        writes_sorted chart snap (trans_at chart u t).id.0 (trans_at chart u t).actions (at_trans t m))
