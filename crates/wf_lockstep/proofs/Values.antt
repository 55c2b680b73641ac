-- Two snapshots that show alike what an expression reads give it the same value.
use Rattle.std.proofs.Common.{◌≡◌, ℕ, ◌==◌, ◌||◌, ◌&&◌, Bool, true, false, List, [], ◌∷◌, Option, unwrap_or, refl, ap, ap₂, eq-eqb, filter_map}
use Rattle.std.specs.Prelude.{pos, option_map}
use Rattle.std.specs.List.{list_any, cons_option}
use Rattle.std.specs.Result.{result_ok}
use Rattle.wf_model.specs.declared.value.Val.{Val}
use Rattle.wf_model.specs.declared.value.Val.TheVariants as v
use Rattle.wf_model.specs.declared.expr.Expr.{Expr, end_of-Expr, more_of-Expr}
use Rattle.wf_model.specs.declared.expr.Expr.TheVariants as e
use Rattle.wf_model.specs.declared.chart.Action.{Action}
use Rattle.wf_model.specs.declared.chart.Action.TheVariants.{Assign, Raise, Start}
use Rattle.wf_model.specs.declared.update.Write.{Write}
use Rattle.wf_model.specs.Steps.{◌>>=◌}
use Rattle.wf_model.specs.Seen.{Seen}
use Rattle.wf_model.specs.Values.{Outcome, truth, binary, not_of, neg_of, value_of}
use Rattle.wf_semantics.specs.Snapshot.{Snapshot}
use Rattle.wf_semantics.specs.Effects.{is_fault, action_raises}
use Rattle.wf_model.proofs.Bools.{or_left, or_right}
use Rattle.wf_actions.specs.Store.{write_of}
use Rattle.wf_parts.specs.Reads.{reads_state, reads_var, reads_act, action_reads}

-- they show alike all that is read so
pub record ShowAlike (a b : Seen) (reads_s reads_x reads_a : ℕ → Bool) : Type 0 where
  pub states : (s : ℕ) → reads_s s ≡ true → unwrap_or (a.state s) false ≡ unwrap_or (b.state s) false
  pub vars : (x : ℕ) → reads_x x ≡ true → a.var x ≡ b.var x
  pub counts : (n : ℕ) → reads_a n ≡ true → unwrap_or (a.count n) 0 ≡ unwrap_or (b.count n) 0
  pub dones : (n : ℕ) → reads_a n ≡ true → unwrap_or (a.done n) false ≡ unwrap_or (b.done n) false

same_number : (n : ℕ) → (n == n) ≡ true
same_number n = eq-eqb n n refl

pub value_same : (a b : Seen) (x : Expr) → ShowAlike a b (λ s. reads_state s x) (λ y. reads_var y x) (λ n. reads_act n x) → value_of a x ≡ value_of b x
value_same a b (e.Bool c) h = refl
value_same a b (e.Int n) h = refl
value_same a b (e.Text t) h = refl
value_same a b (e.Var x) h = ap (λ (o : Option Val). Rattle.std.specs.Prelude.Ok (unwrap_or o (v.Bool false))) (h.vars x.0 (same_number x.0))
value_same a b (e.In i) h = ap truth (h.states i.0 (same_number i.0))
value_same a b (e.Count n) h = ap (λ (m : ℕ). Rattle.std.specs.Prelude.Ok (v.Int (pos m))) (h.counts n.0 (same_number n.0))
value_same a b (e.Done n) h = ap truth (h.dones n.0 (same_number n.0))
value_same a b (e.Not' p (more_of-Expr x end_of-Expr)) h = ap (λ (o : Outcome). o >>= not_of) (value_same a b x (record { states = h.states; vars = h.vars; counts = h.counts; dones = h.dones }))
value_same a b (e.Neg' p (more_of-Expr x end_of-Expr)) h = ap (λ (o : Outcome). o >>= neg_of) (value_same a b x (record { states = h.states; vars = h.vars; counts = h.counts; dones = h.dones }))
value_same a b (e.Bin' op p (more_of-Expr x end_of-Expr) q (more_of-Expr y end_of-Expr)) h =
    ap₂ (binary op)
    (value_same a b x (record {
      states = λ s k. h.states s (or_left (reads_state s x) (reads_state s y) k);
      vars = λ s k. h.vars s (or_left (reads_var s x) (reads_var s y) k);
      counts = λ s k. h.counts s (or_left (reads_act s x) (reads_act s y) k);
      dones = λ s k. h.dones s (or_left (reads_act s x) (reads_act s y) k);
    }))
    (value_same a b y (record {
      states = λ s k. h.states s (or_right (reads_state s x) (reads_state s y) k);
      vars = λ s k. h.vars s (or_right (reads_var s x) (reads_var s y) k);
      counts = λ s k. h.counts s (or_right (reads_act s x) (reads_act s y) k);
      dones = λ s k. h.dones s (or_right (reads_act s x) (reads_act s y) k);
    }))

-- so actions write and raise the same
abbrev pub ShowActions : Snapshot → Snapshot → List Action → Type 0
ShowActions a b actions =
    ShowAlike a.seen b.seen (λ s. list_any (action_reads (reads_state s)) actions) (λ x. list_any (action_reads (reads_var x)) actions) (λ n. list_any (action_reads (reads_act n)) actions)

module _ (a b : Snapshot) where
  first_shown : (x : Action) (rest : List Action) → ShowActions a b (x ∷ rest) → ShowAlike a.seen b.seen (λ s. action_reads (reads_state s) x) (λ y. action_reads (reads_var y) x) (λ n. action_reads (reads_act n) x)
  first_shown x rest h = record {
    states = λ s k. h.states s (or_left (action_reads (reads_state s) x) (list_any (action_reads (reads_state s)) rest) k);
    vars = λ s k. h.vars s (or_left (action_reads (reads_var s) x) (list_any (action_reads (reads_var s)) rest) k);
    counts = λ s k. h.counts s (or_left (action_reads (reads_act s) x) (list_any (action_reads (reads_act s)) rest) k);
    dones = λ s k. h.dones s (or_left (action_reads (reads_act s) x) (list_any (action_reads (reads_act s)) rest) k);
  }

  rest_shown : (x : Action) (rest : List Action) → ShowActions a b (x ∷ rest) → ShowActions a b rest
  rest_shown x rest h = record {
    states = λ s k. h.states s (or_right (action_reads (reads_state s) x) (list_any (action_reads (reads_state s)) rest) k);
    vars = λ s k. h.vars s (or_right (action_reads (reads_var s) x) (list_any (action_reads (reads_var s)) rest) k);
    counts = λ s k. h.counts s (or_right (action_reads (reads_act s) x) (list_any (action_reads (reads_act s)) rest) k);
    dones = λ s k. h.dones s (or_right (action_reads (reads_act s) x) (list_any (action_reads (reads_act s)) rest) k);
  }

  write_same : (t : ℕ) (x : Action) → ShowAlike a.seen b.seen (λ s. action_reads (reads_state s) x) (λ y. action_reads (reads_var y) x) (λ n. action_reads (reads_act n) x) → write_of a.seen t x ≡ write_of b.seen t x
  write_same t (Assign x value) h =
      ap (λ (r : Outcome). option_map (λ val. record { var = x; trans = record { 0 = t }; val = val }) (result_ok r))
      (value_same a.seen b.seen value (record { states = h.states; vars = h.vars; counts = h.counts; dones = h.dones }))
  write_same t (Raise e) h = refl
  write_same t (Start n) h = refl

  raise_same : (n : ℕ) (x : Action) → ShowAlike a.seen b.seen (λ s. action_reads (reads_state s) x) (λ y. action_reads (reads_var y) x) (λ n. action_reads (reads_act n) x) → action_raises a.seen n x ≡ action_raises b.seen n x
  raise_same n (Assign x value) h =
      ap (λ (r : Outcome). (n == 0) && is_fault r)
      (value_same a.seen b.seen value (record { states = h.states; vars = h.vars; counts = h.counts; dones = h.dones }))
  raise_same n (Raise e) h = refl
  raise_same n (Start m) h = refl

  pub writes_same : (t : ℕ) (actions : List Action) → ShowActions a b actions → filter_map (write_of a.seen t) actions ≡ filter_map (write_of b.seen t) actions
  writes_same t [] h = refl
  writes_same t (x ∷ rest) h = ap₂ (λ (o : Option Write) (ws : List Write). cons_option o ws) (write_same t x (first_shown x rest h)) (writes_same t rest (rest_shown x rest h))

  pub raises_same : (n : ℕ) (actions : List Action) → ShowActions a b actions → list_any (action_raises a.seen n) actions ≡ list_any (action_raises b.seen n) actions
  raises_same n [] h = refl
  raises_same n (x ∷ rest) h = ap₂ (λ (p q : Bool). p || q) (raise_same n x (first_shown x rest h)) (raises_same n rest (rest_shown x rest h))
