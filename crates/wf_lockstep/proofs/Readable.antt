-- What a part's transitions read of a view of the part is there.
use Rattle.std.proofs.Common.{◌≡◌, ℕ, zero, suc, ◌<◌, ◌==◌, ◌||◌, ◌&&◌, nat_lt, cond, Bool, true, false, List, [], ◌∷◌, filter, find, length, Option, Some, None, slice_get, inl, inr, refl, sym, ap, ap₂, ◌∙◌, arith, eqb-true, eq-eqb, true≢false}
use Rattle.std.specs.Prelude.{IsSome, is_some}
use Rattle.std.specs.Option.{option_map}
use Rattle.std.specs.List.{list_any, list_all}
use Rattle.std.proofs.lemmas.Option.{slice_get-map}
use Rattle.wf_model.specs.declared.ids.VarId.{VarId}
use Rattle.wf_model.specs.declared.ids.ActId.{ActId}
use Rattle.wf_model.specs.declared.expr.Expr.{Expr, end_of-Expr, more_of-Expr}
use Rattle.wf_model.specs.declared.expr.Expr.TheVariants as e
use Rattle.wf_model.specs.declared.chart.Action.{Action}
use Rattle.wf_model.specs.declared.chart.Action.TheVariants.{Assign}
use Rattle.wf_model.specs.declared.chart.Chart.{Chart}
use Rattle.wf_model.specs.declared.chart.Transition.{Transition}
use Rattle.wf_model.specs.declared.outer.Output.{Output}
use Rattle.wf_parts.specs.declared.data.KnownVariable.{KnownVariable}
use Rattle.wf_parts.specs.declared.data.KnownActivity.{KnownActivity}
use Rattle.wf_parts.specs.declared.data.PartTransition.{PartTransition}
use Rattle.wf_model.specs.Tree.{all_transitions}
use Rattle.wf_model.specs.Seen.{Seen, HasAll}
use Rattle.wf_model.specs.Accepted.{IsAccepted, is_known_expr, is_known_action, is_known_transition, all_of}
use Rattle.wf_model.proofs.Bools.{Mem, or_cases, or_left, or_right, and_both, any_map}
use Rattle.wf_semantics.proofs.Lists.{filter_mem}
use Rattle.wf_semantics.proofs.Steps.{transition_mem}
use Rattle.wf_semantics.proofs.Children.{item_at, at_any}
use Rattle.wf_semantics.proofs.Facts.{parts}
use Rattle.wf_parts.specs.Reads.{reads_state, reads_var, reads_act, action_reads}
use Rattle.wf_parts.specs.Known.{concerns, is_own, knows_state, knows_var, knows_act}
use Rattle.wf_parts.specs.Parts.{part_transition, part_of}
use Rattle.wf_views.specs.Knowledge.{known_to}
use Rattle.wf_views.specs.Views.{View, sees, is_inside, value_now, count_now, is_done_now}
use Rattle.wf_views.specs.Laws.{IsViewOf}
use Rattle.wf_views.proofs.Listing.{part_states, part_vars, part_acts}
use Rattle.wf_lockstep.specs.Readable.{PartReads}
use Rattle.wf_lockstep.proofs.Firing.{trans_at, trans_of_part, at_some, read_in_guard, read_in_values, read_state, read_var, read_act}
use Rattle.wf_model.proofs.Items.{all_at}

-- the snapshot has all that is read so
record Has (seen : Seen) (reads_s reads_x reads_a : ℕ → Bool) : Type 0 where
  states : (s : ℕ) → reads_s s ≡ true → IsSome (seen.state s)
  vars : (x : ℕ) → reads_x x ≡ true → IsSome (seen.var x)
  counts : (n : ℕ) → reads_a n ≡ true → IsSome (seen.count n)
  dones : (n : ℕ) → reads_a n ≡ true → IsSome (seen.done n)

has_all : (seen : Seen) (x : Expr) → Has seen (λ s. reads_state s x) (λ y. reads_var y x) (λ n. reads_act n x) → HasAll seen x
has_all seen (e.Bool b) h = tt
has_all seen (e.Int n) h = tt
has_all seen (e.Text t) h = tt
has_all seen (e.Var y) h = h.vars y.0 (eq-eqb y.0 y.0 refl)
has_all seen (e.In s) h = h.states s.0 (eq-eqb s.0 s.0 refl)
has_all seen (e.Count n) h = h.counts n.0 (eq-eqb n.0 n.0 refl)
has_all seen (e.Done n) h = h.dones n.0 (eq-eqb n.0 n.0 refl)
has_all seen (e.Not' p (more_of-Expr x end_of-Expr)) h = has_all seen x (record { states = h.states; vars = h.vars; counts = h.counts; dones = h.dones })
has_all seen (e.Neg' p (more_of-Expr x end_of-Expr)) h = has_all seen x (record { states = h.states; vars = h.vars; counts = h.counts; dones = h.dones })
has_all seen (e.Bin' op p (more_of-Expr x end_of-Expr) q (more_of-Expr y end_of-Expr)) h = (
  has_all seen x (record {
    states = λ s k. h.states s (or_left (reads_state s x) (reads_state s y) k);
    vars = λ s k. h.vars s (or_left (reads_var s x) (reads_var s y) k);
    counts = λ s k. h.counts s (or_left (reads_act s x) (reads_act s y) k);
    dones = λ s k. h.dones s (or_left (reads_act s x) (reads_act s y) k);
  }),
  has_all seen y (record {
    states = λ s k. h.states s (or_right (reads_state s x) (reads_state s y) k);
    vars = λ s k. h.vars s (or_right (reads_var s x) (reads_var s y) k);
    counts = λ s k. h.counts s (or_right (reads_act s x) (reads_act s y) k);
    dones = λ s k. h.dones s (or_right (reads_act s x) (reads_act s y) k);
  }),
)

-- the numbers that a known expression reads are those of parts of the chart
module _ (chart : Chart) where
  state_within : (s : ℕ) (x : Expr) → is_known_expr chart x ≡ true → reads_state s x ≡ true → nat_lt s (length chart.states) ≡ true
  state_within s (e.Bool b) k r = absurd (true≢false (sym r))
  state_within s (e.Int n) k r = absurd (true≢false (sym r))
  state_within s (e.Text t) k r = absurd (true≢false (sym r))
  state_within s (e.Var y) k r = absurd (true≢false (sym r))
  state_within s (e.In i) k r = ap (λ (n : ℕ). nat_lt n (length chart.states)) (sym (eqb-true i.0 s r)) ∙ k
  state_within s (e.Count n) k r = absurd (true≢false (sym r))
  state_within s (e.Done n) k r = absurd (true≢false (sym r))
  state_within s (e.Not' p (more_of-Expr x end_of-Expr)) k r = state_within s x k r
  state_within s (e.Neg' p (more_of-Expr x end_of-Expr)) k r = state_within s x k r
  state_within s (e.Bin' op p (more_of-Expr x end_of-Expr) q (more_of-Expr y end_of-Expr)) k r =
      let both = and_both (is_known_expr chart x) (is_known_expr chart y) k in
      elim (or_cases (reads_state s x) (reads_state s y) r) [ inl l ↦ state_within s x both.0 l | inr l ↦ state_within s y both.1 l ]

  pub var_within : (s : ℕ) (x : Expr) → is_known_expr chart x ≡ true → reads_var s x ≡ true → nat_lt s (length chart.vars) ≡ true
  var_within s (e.Bool b) k r = absurd (true≢false (sym r))
  var_within s (e.Int n) k r = absurd (true≢false (sym r))
  var_within s (e.Text t) k r = absurd (true≢false (sym r))
  var_within s (e.Var y) k r = ap (λ (n : ℕ). nat_lt n (length chart.vars)) (sym (eqb-true y.0 s r)) ∙ k
  var_within s (e.In i) k r = absurd (true≢false (sym r))
  var_within s (e.Count n) k r = absurd (true≢false (sym r))
  var_within s (e.Done n) k r = absurd (true≢false (sym r))
  var_within s (e.Not' p (more_of-Expr x end_of-Expr)) k r = var_within s x k r
  var_within s (e.Neg' p (more_of-Expr x end_of-Expr)) k r = var_within s x k r
  var_within s (e.Bin' op p (more_of-Expr x end_of-Expr) q (more_of-Expr y end_of-Expr)) k r =
      let both = and_both (is_known_expr chart x) (is_known_expr chart y) k in
      elim (or_cases (reads_var s x) (reads_var s y) r) [ inl l ↦ var_within s x both.0 l | inr l ↦ var_within s y both.1 l ]

  act_within : (s : ℕ) (x : Expr) → is_known_expr chart x ≡ true → reads_act s x ≡ true → nat_lt s (length chart.acts) ≡ true
  act_within s (e.Bool b) k r = absurd (true≢false (sym r))
  act_within s (e.Int n) k r = absurd (true≢false (sym r))
  act_within s (e.Text t) k r = absurd (true≢false (sym r))
  act_within s (e.Var y) k r = absurd (true≢false (sym r))
  act_within s (e.In i) k r = absurd (true≢false (sym r))
  act_within s (e.Count n) k r = ap (λ (m : ℕ). nat_lt m (length chart.acts)) (sym (eqb-true n.0 s r)) ∙ k
  act_within s (e.Done n) k r = ap (λ (m : ℕ). nat_lt m (length chart.acts)) (sym (eqb-true n.0 s r)) ∙ k
  act_within s (e.Not' p (more_of-Expr x end_of-Expr)) k r = act_within s x k r
  act_within s (e.Neg' p (more_of-Expr x end_of-Expr)) k r = act_within s x k r
  act_within s (e.Bin' op p (more_of-Expr x end_of-Expr) q (more_of-Expr y end_of-Expr)) k r =
      let both = and_both (is_known_expr chart x) (is_known_expr chart y) k in
      elim (or_cases (reads_act s x) (reads_act s y) r) [ inl l ↦ act_within s x both.0 l | inr l ↦ act_within s y both.1 l ]

some_found : {A B : Type 0} (p : A → Bool) (f : A → B) (xs : List A) → list_any p xs ≡ true → IsSome (option_map f (find p xs))
some_found p f [] h = absurd (true≢false (sym h))
some_found {A} {B} p f (x ∷ xs) h = go (p x) h (some_found p f xs)
  where
    go : (b : Bool) → (b || list_any p xs) ≡ true → (list_any p xs ≡ true → IsSome (option_map f (find p xs))) → IsSome (option_map f (cond b (Some x) (find p xs)))
    go true h ih = refl
    go false h ih = ih h

pub slice_mem : (ts : List ℕ) (i t : ℕ) → slice_get ts i ≡ Some t → Mem t ts
slice_mem [] i t h = cc
slice_mem (x ∷ ts) zero t h = let same : x ≡ t = cc in inl same
slice_mem (x ∷ ts) (suc i) t h = inr (slice_mem ts i t h)

module _ (chart : Chart) (ok : IsAccepted chart) (u : ℕ) (view : View) (is : IsViewOf (part_of chart u) view) where
  -- an expression that is known and read by what the part knows
  readable : (x : Expr) → is_known_expr chart x ≡ true → ((s : ℕ) → reads_state s x ≡ true → knows_state chart u s ≡ true) → ((y : ℕ) → reads_var y x ≡ true → knows_var chart u y ≡ true) →
      ((n : ℕ) → reads_act n x ≡ true → knows_act chart u n ≡ true) → HasAll (sees (part_of chart u) view).seen x
  unfolding sees
  readable x known rs rx ra = has_all (sees (part_of chart u) view).seen x (record { states = states; vars = vars; counts = counts; dones = dones })
    where
      states : (s : ℕ) → reads_state s x ≡ true → IsSome (cond ((known_to (part_of chart u)).states s) (Some (is_inside view s)) None)
      states s r = ap (λ (b : Bool). is_some (cond b (Some (is_inside view s)) None)) (part_states chart u s ∙ ap₂ (λ (a b : Bool). a && b) (state_within chart s x known r) (rs s r))

      vars : (y : ℕ) → reads_var y x ≡ true → IsSome (option_map (value_now view) (find (λ o. o.var.0 == y) view.vars))
      vars y r = some_found (λ o. o.var.0 == y) (value_now view) view.vars
          (sym (any_map (λ (i : VarId). i.0 == y) (λ (o : Output). o.var) view.vars) ∙ ap (list_any (λ (i : VarId). i.0 == y)) is.vars ∙ any_map (λ (i : VarId). i.0 == y) (λ (known : KnownVariable). known.id) (part_of chart u).vars
          ∙ part_vars chart u y ∙ ap₂ (λ (a b : Bool). a && b) (var_within chart y x known r) (rx y r))

      act_there : (n : ℕ) → reads_act n x ≡ true → list_any (λ c. c.0.0 == n) view.unclosed ≡ true
      act_there n r =
          sym (any_map (λ (i : ActId). i.0 == n) (λ (a : ActId × ℕ). a.0) view.unclosed) ∙ ap (list_any (λ (i : ActId). i.0 == n)) is.acts ∙ any_map (λ (i : ActId). i.0 == n) (λ (known : KnownActivity). known.id) (part_of chart u).acts
          ∙ part_acts chart u n ∙ ap₂ (λ (a b : Bool). a && b) (act_within chart n x known r) (ra n r)

      counts : (n : ℕ) → reads_act n x ≡ true → IsSome (option_map (count_now view) (find (λ c. c.0.0 == n) view.unclosed))
      counts n r = some_found (λ c. c.0.0 == n) (count_now view) view.unclosed (act_there n r)

      dones : (n : ℕ) → reads_act n x ≡ true → IsSome (option_map (λ c. is_done_now view n) (find (λ c. c.0.0 == n) view.unclosed))
      dones n r = some_found (λ c. c.0.0 == n) (λ c. is_done_now view n) view.unclosed (act_there n r)

  known_guard : (trans : Transition) (g : Expr) → is_known_transition chart trans ≡ true → trans.guard ≡ Some g → is_known_expr chart g ≡ true
  known_guard trans g k e =
      let guards : all_of (is_known_expr chart) trans.guard ≡ true = grind arith in
      ap (all_of (is_known_expr chart)) (sym e) ∙ guards

  known_value : (trans : Transition) (k : ℕ) (x : VarId) (value : Expr) → is_known_transition chart trans ≡ true → slice_get trans.actions k ≡ Some (Assign x value) → is_known_expr chart value ≡ true
  known_value trans k x value h e =
      let all : list_all (is_known_action chart) trans.actions ≡ true = grind arith in
      (and_both (nat_lt x.0 (length chart.vars)) (is_known_expr chart value) (all_at (is_known_action chart) trans.actions all k (Assign x value) e)).1

  at_transition : (t : ℕ) (trans : Transition) → t < length chart.transitions → concerns chart u t ≡ true → slice_get chart.transitions t ≡ Some trans → (p : PartTransition) → p ≡ part_transition chart u (t, trans) →
      ((guard : Expr) → p.guard ≡ Some guard → HasAll (sees (part_of chart u) view).seen guard)
      × ((k : ℕ) (x : VarId) (value : Expr) → slice_get p.actions k ≡ Some (Assign x value) → HasAll (sees (part_of chart u) view).seen value)
  at_transition t trans lt con e p same =
      let known : is_known_transition chart trans ≡ true = all_at (is_known_transition chart) chart.transitions (parts chart ok).known_transitions t trans e in (
        (λ guard g.
            let own : trans.guard ≡ Some guard = ap (λ (q : PartTransition). q.guard) (sym same) ∙ g in
            readable guard (known_guard trans guard known own) (λ s r. read_state chart u s (read_in_guard chart u (reads_state s) t trans guard lt con e own r)) (λ y r. read_var chart u y (read_in_guard chart u (reads_var y) t trans guard lt con e own r)) (λ n r. read_act chart u n (read_in_guard chart u (reads_act n) t trans guard lt con e own r))),
        (λ k x value g.
            let listed : slice_get (cond (is_own chart u t) trans.actions []) k ≡ Some (Assign x value) = ap (λ (q : PartTransition). slice_get q.actions k) (sym same) ∙ g in
            by_own (is_own chart u t) refl k x value listed known),
      )
    where
      by_own : (b : Bool) → is_own chart u t ≡ b → (k : ℕ) (x : VarId) (value : Expr) → slice_get (cond b trans.actions []) k ≡ Some (Assign x value) → is_known_transition chart trans ≡ true → HasAll (sees (part_of chart u) view).seen value
      by_own true own k x value g known =
          readable value (known_value trans k x value known g)
          (λ s r. read_state chart u s (read_in_values chart u (reads_state s) t trans lt own e (at_any (action_reads (reads_state s)) trans.actions k (Assign x value) g r)))
          (λ y r. read_var chart u y (read_in_values chart u (reads_var y) t trans lt own e (at_any (action_reads (reads_var y)) trans.actions k (Assign x value) g r)))
          (λ n r. read_act chart u n (read_in_values chart u (reads_act n) t trans lt own e (at_any (action_reads (reads_act n)) trans.actions k (Assign x value) g r)))
      by_own false own k x value g known = absurd (none k g)
        where
          none : (k : ℕ) → slice_get {X = Action} [] k ≡ Some (Assign x value) → ⊥
          none k g = cc

pub part_reads : PartReads
part_reads chart u view i trans ok is e = go (slice_get (filter (concerns chart u) (all_transitions chart)) i) refl
    (sym (slice_get-map (trans_at chart u) (filter (concerns chart u) (all_transitions chart)) i) ∙ ap (λ (l : List PartTransition). slice_get l i) (sym (trans_of_part chart u)) ∙ e)
  where
    go : (o : Option ℕ) → slice_get (filter (concerns chart u) (all_transitions chart)) i ≡ o → option_map (trans_at chart u) o ≡ Some trans →
        ((guard : Expr) → trans.guard ≡ Some guard → HasAll (sees (part_of chart u) view).seen guard)
        × ((k : ℕ) (x : VarId) (value : Expr) → slice_get trans.actions k ≡ Some (Assign x value) → HasAll (sees (part_of chart u) view).seen value)
    go None q h = cc
    go (Some t) q h =
        let m = filter_mem (concerns chart u) (all_transitions chart) t (slice_mem (filter (concerns chart u) (all_transitions chart)) i t q) in
        let lt : t < length chart.transitions = transition_mem chart t m.0 in
        let w = item_at chart.transitions t lt in
        let same : trans_at chart u t ≡ trans = cc in
        at_transition chart ok u view is t w.0 lt m.1 w.1 trans (sym same ∙ at_some chart u t w.0 w.1)
