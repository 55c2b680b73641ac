-- The counting machine's update is the unit's share.
use Rattle.std.proofs.Common.{◌≡◌, ℕ, zero, suc, ◌+◌, ◌-◌, ◌<◌, ◌≤◌, ◌==◌, ◌&&◌, not, max, nat_lt, cond, Bool, true, false, List, [], ◌∷◌, ◌++◌, map, filter, filter_map, fold, length, Option, Some, None, Result, Ok, Err, unwrap_or, refl, sym, ap, ap₂, ◌∙◌, arith, eqb-true, ltb-true}
use Rattle.std.specs.Prelude.{option_map}
use Rattle.std.specs.Result.{result_ok}
use Rattle.std.specs.List.{list_all, range_with_len, cons_option}
use Rattle.std.proofs.lemmas.List.{map-append}
use Rattle.wf_model.specs.declared.expr.Fault.{Fault}
use Rattle.wf_model.specs.declared.value.Val.{Val}
use Rattle.wf_model.specs.declared.chart.Action.{Action}
use Rattle.wf_model.specs.declared.chart.Action.TheVariants.{Assign, Raise, Start}
use Rattle.wf_model.specs.declared.chart.Transition.{Transition}
use Rattle.wf_model.specs.declared.chart.Chart.{Chart}
use Rattle.wf_model.specs.declared.outer.Outer.{Outer}
use Rattle.wf_model.specs.declared.outer.Entry.{Entry}
use Rattle.wf_model.specs.declared.update.Write.{Write}
use Rattle.wf_model.specs.Values.{value_of}
use Rattle.wf_model.specs.Tree.{all_states, all_transitions}
use Rattle.wf_model.specs.Accepted.{IsAccepted, is_known_action, is_known_expr, is_known_transition}
use Rattle.wf_semantics.specs.Configuration.{is_in, IsConfiguration}
use Rattle.wf_semantics.specs.Snapshot.{Snapshot, is_enabled}
use Rattle.wf_semantics.specs.Flat.{fires}
use Rattle.wf_semantics.specs.Effects.{actions_of}
use Rattle.wf_semantics.specs.Run.{CentralState, first_state, next_state, central_run, snapshot_of}
use Rattle.wf_model.proofs.Bools.{and_both, and_true, not_true}
use Rattle.wf_semantics.proofs.Lists.{filter_mem, filter_agree}
use Rattle.wf_semantics.proofs.Children.{item_at}
use Rattle.wf_semantics.proofs.Steps.{transition_mem}
use Rattle.wf_semantics.proofs.Facts.{chart_of, parts}
use Rattle.wf_semantics.proofs.Runs.{step_fires, run_configuration}
use Rattle.wf_runs.proofs.Parts.{steps_in_parts}
use Rattle.wf_actions.specs.Writes.{over, of_variable, winner, merged}
use Rattle.wf_actions.specs.Store.{write_of, writes_of}
use Rattle.wf_actions.proofs.Merging.{merged_longer}
use Rattle.wf_parts.specs.Known.{is_state_of, is_own}
use Rattle.wf_views.specs.OwnSteps.{differs}
use Rattle.wf_lockstep.specs.Shares.{fired_of_unit, moved_of_unit, share_from}
use Rattle.wf_lockstep.proofs.Numbered.{filter_filter}
use Rattle.wf_lockstep.proofs.Within.{all_flat}
use Rattle.wf_machine.specs.Server.{outers_sealed}
use Rattle.wf_machine.specs.Machine.{CountingMachine, server, entries_at, central_at}
use Rattle.wf_machine.specs.Shares.{later_value, value_after, value_given, write_or, write_by, writes_of as given_writes, has_flipped, share_by, update_at}
use Rattle.wf_bridge.specs.Sharing.{UpdateIsShare, UpdateSame}
use Rattle.wf_worlds.proofs.Growing.{range_push}
use Rattle.wf_bridge.proofs.Bridging.{letter_same}
use Rattle.wf_model.proofs.Items.{all_at}

-- THE LAST WRITE OF ASCENDING TRANSITIONS

-- a write of an earlier transition, if there is one
abbrev Before : Option Write → ℕ → Type 0
Before None t = Unit {0}
Before (Some w) t = w.trans.0 ≤ t

abbrev From : ℕ → List ℕ → Type 0
From lo [] = Unit {0}
From lo (t ∷ ts) = (lo ≤ t) × From (t + 1) ts

module _ (snap : Snapshot) (x t : ℕ) where
  abbrev given : Val → Write
  given val = record { var = record { 0 = x }; trans = record { 0 = t }; val = val }

  replaced : (o : Option Write) (acc : Option Val) (val : Val) → Before o t → over (write_or o x t acc) (given val) ≡ Some (given val)
  replaced None None val b = refl
  replaced (Some w) None val b = ap (λ (c : Bool). cond c (Some w) (Some (given val))) (not_true (nat_lt t w.trans.0) (λ h. let l = ltb-true t w.trans.0 h in omega (arith, l, b)))
  replaced o (Some a) val b = ap (λ (c : Bool). cond c (Some (given a)) (Some (given val))) (not_true (nat_lt t t) (λ h. let l = ltb-true t t h in omega (arith, l)))

  actions_last : (xs : List Action) (o : Option Write) (acc : Option Val) → Before o t →
      fold over (write_or o x t acc) (of_variable x (filter_map (write_of snap.seen t) xs)) ≡ write_or o x t (value_after snap x acc xs)
  actions_last [] o acc b = refl
  actions_last (Raise e ∷ xs) o acc b = actions_last xs o acc b
  actions_last (Start a ∷ xs) o acc b = actions_last xs o acc b
  actions_last (Assign v value ∷ xs) o acc b = go (value_of snap.seen value) (v.0 == x) refl (λ acc. actions_last xs o acc b)
    where
      rest : List Write
      rest = filter_map (write_of snap.seen t) xs

      go : (r : Result Val Fault) (c : Bool) → (v.0 == x) ≡ c → ((acc : Option Val) → fold over (write_or o x t acc) (of_variable x (filter_map (write_of snap.seen t) xs)) ≡ write_or o x t (value_after snap x acc xs)) →
          fold over (write_or o x t acc) (of_variable x (cons_option (option_map (λ val. record { var = v; trans = record { 0 = t }; val = val }) (result_ok r)) (filter_map (write_of snap.seen t) xs)))
          ≡ write_or o x t (value_after snap x (cond c (later_value acc r) acc) xs)
      go (Err d) true q ih = ih acc
      go (Err d) false q ih = ih acc
      go (Ok val) true q ih =
          ap (λ (c : Bool). fold over (write_or o x t acc) (cond c (record { var = v; trans = record { 0 = t }; val = val } ∷ of_variable x rest) (of_variable x rest))) q
          ∙ ap (λ (n : ℕ). fold over (over (write_or o x t acc) (record { var = record { 0 = n }; trans = record { 0 = t }; val = val })) (of_variable x rest)) (eqb-true v.0 x q)
          ∙ ap (λ (p : Option Write). fold over p (of_variable x rest)) (replaced o acc val b)
          ∙ ih (Some val)
      go (Ok val) false q ih = ap (λ (c : Bool). fold over (write_or o x t acc) (cond c (record { var = v; trans = record { 0 = t }; val = val } ∷ of_variable x rest) (of_variable x rest))) q ∙ ih acc

variables_both : (x : ℕ) (ps qs : List Write) → of_variable x (ps ++ qs) ≡ of_variable x ps ++ of_variable x qs
variables_both x ps qs = Rattle.std.proofs.lemmas.List.Elements.filter-append (λ (w : Write). w.var.0 == x) ps qs

fold_both : (o : Option Write) (ps qs : List Write) → fold over o (ps ++ qs) ≡ fold over (fold over o ps) qs
fold_both o [] qs = refl
fold_both o (p ∷ ps) qs = fold_both (over o p) ps qs

still_before : (x t : ℕ) (o : Option Write) (v : Option Val) → Before o t → Before (write_or o x t v) (t + 1)
still_before x t None None b = tt
still_before x t (Some w) None b = omega (arith, b)
still_before x t o (Some a) b = omega arith

before_from : (o : Option Write) (a b : ℕ) → a ≤ b → Before o a → Before o b
before_from None a b le h = tt
before_from (Some w) a b le h = omega (arith, le, h)

last_is : (chart : Chart) (snap : Snapshot) (x : ℕ) (ts : List ℕ) (lo : ℕ) (o : Option Write) → From lo ts → Before o lo → fold over o (of_variable x (writes_of chart snap.seen ts)) ≡ write_by chart snap x o ts
last_is chart snap x [] lo o f b = refl
last_is chart snap x (t ∷ ts) lo o f b =
    ap (fold over o) (variables_both x (filter_map (write_of snap.seen t) (actions_of chart t)) (writes_of chart snap.seen ts))
    ∙ fold_both o (of_variable x (filter_map (write_of snap.seen t) (actions_of chart t))) (of_variable x (writes_of chart snap.seen ts))
    ∙ ap (λ (p : Option Write). fold over p (of_variable x (writes_of chart snap.seen ts))) (actions_last snap x t (actions_of chart t) o None (before_from o lo t f.0 b))
    ∙ last_is chart snap x ts (t + 1) (write_or o x t (value_given chart snap x t)) f.1 (still_before x t o (value_given chart snap x t) (before_from o lo t f.0 b))

-- numbers of a range that pass
range_from : (p : ℕ → Bool) (a n : ℕ) → From a (filter p (range_with_len a n))
range_from p a zero = tt
range_from p a (suc n) = go (p a) (range_from p (a + 1) n)
  where
    lower : (lo hi : ℕ) (ts : List ℕ) → lo ≤ hi → From hi ts → From lo ts
    lower lo hi [] le f = tt
    lower lo hi (t ∷ ts) le f = (let g = f.0 in omega (arith, le, g), f.1)

    go : (b : Bool) → From (a + 1) (filter p (range_with_len (a + 1) n)) → From a (cond b (a ∷ filter p (range_with_len (a + 1) n)) (filter p (range_with_len (a + 1) n)))
    go true f = (omega arith, f)
    go false f = lower a (a + 1) (filter p (range_with_len (a + 1) n)) (omega arith) f

-- NO WRITE IS OF A VARIABLE PAST THE CHART'S

past_few : (n : ℕ) (ws : List Write) (acc : ℕ) → acc ≤ n → list_all (λ (w : Write). nat_lt w.var.0 n) ws ≡ true → fold (λ past write. max past (write.var.0 + 1)) acc ws ≤ n
past_few n [] acc le h = le
past_few n (w ∷ ws) acc le h =
    let a = and_both (nat_lt w.var.0 n) (list_all (λ (w : Write). nat_lt w.var.0 n) ws) h in
    let lt = ltb-true w.var.0 n a.0 in
    past_few n ws (max acc (w.var.0 + 1)) (omega (arith, le, lt)) a.1

actions_inside : (chart : Chart) (snap : Snapshot) (t : ℕ) (xs : List Action) → list_all (is_known_action chart) xs ≡ true → list_all (λ (w : Write). nat_lt w.var.0 (length chart.vars)) (filter_map (write_of snap.seen t) xs) ≡ true
actions_inside chart snap t [] h = refl
actions_inside chart snap t (Raise e ∷ xs) h = actions_inside chart snap t xs (and_both (is_known_action chart (Raise e)) (list_all (is_known_action chart) xs) h).1
actions_inside chart snap t (Start a ∷ xs) h = actions_inside chart snap t xs (and_both (is_known_action chart (Start a)) (list_all (is_known_action chart) xs) h).1
actions_inside chart snap t (Assign y value ∷ xs) h =
    let a = and_both (is_known_action chart (Assign y value)) (list_all (is_known_action chart) xs) h in
    go (value_of snap.seen value) (and_both (nat_lt y.0 (length chart.vars)) (is_known_expr chart value) a.0).0 (actions_inside chart snap t xs a.1)
  where
    go : (r : Result Val Fault) → nat_lt y.0 (length chart.vars) ≡ true → list_all (λ (w : Write). nat_lt w.var.0 (length chart.vars)) (filter_map (write_of snap.seen t) xs) ≡ true →
        list_all (λ (w : Write). nat_lt w.var.0 (length chart.vars)) (cons_option (option_map (λ val. record { var = y; trans = record { 0 = t }; val = val }) (result_ok r)) (filter_map (write_of snap.seen t) xs)) ≡ true
    go (Ok val) lt ih = and_true (nat_lt y.0 (length chart.vars)) (list_all (λ (w : Write). nat_lt w.var.0 (length chart.vars)) (filter_map (write_of snap.seen t) xs)) lt ih
    go (Err d) lt ih = ih

module _ (chart : Chart) (ok : IsAccepted chart) where
  known_actions : (t : ℕ) → t < length chart.transitions → list_all (is_known_action chart) (actions_of chart t) ≡ true
  known_actions t lt =
      let w = item_at chart.transitions t lt in
      let known : is_known_transition chart w.0 ≡ true = all_at (is_known_transition chart) chart.transitions (parts chart ok).known_transitions t w.0 w.1 in
      let all : list_all (is_known_action chart) w.0.actions ≡ true = grind arith in
      ap (λ (o : Option Transition). list_all (is_known_action chart) (unwrap_or (option_map (λ trans. trans.actions) o) [])) w.1 ∙ all

  -- both texts of what transitions write
  writes_are : (snap : Snapshot) (p : ℕ → Bool) → merged (writes_of chart snap.seen (filter p (all_transitions chart))) ≡ given_writes chart snap (filter p (all_transitions chart))
  writes_are snap p =
      let ts : List ℕ = filter p (all_transitions chart) in
      merged_longer (writes_of chart snap.seen ts) (length chart.vars)
      (past_few (length chart.vars) (writes_of chart snap.seen ts) 0 (omega arith)
      (all_flat (λ (w : Write). nat_lt w.var.0 (length chart.vars)) (λ t. filter_map (write_of snap.seen t) (actions_of chart t)) ts
      (λ t m. actions_inside chart snap t (actions_of chart t) (known_actions t (transition_mem chart t (filter_mem p (all_transitions chart) t m).0)))))
      ∙ same (range_with_len 0 (length chart.vars))
    where
      same : (xs : List ℕ) → filter_map (λ x. winner x (writes_of chart snap.seen (filter p (all_transitions chart)))) xs ≡ filter_map (λ x. write_by chart snap x None (filter p (all_transitions chart))) xs
      same [] = refl
      same (x ∷ xs) = ap₂ (λ (o : Option Write) (l : List Write). cons_option o l) (last_is chart snap x (filter p (all_transitions chart)) 0 None (range_from p 0 (length chart.transitions)) tt) (same xs)

  module _ (c : CentralState) (es : List Entry) (conf : IsConfiguration chart c.configuration) (u : ℕ) where
    snap : Snapshot
    snap = snapshot_of chart c es

    own_fires : fired_of_unit chart c es u ≡ filter (λ t. is_own chart u t && fires chart (is_enabled chart (snapshot_of chart c es)) t) (all_transitions chart)
    own_fires = ap (filter (is_own chart u)) (step_fires chart (chart_of chart ok) c es conf) ∙ filter_filter (is_own chart u) (fires chart (is_enabled chart (snapshot_of chart c es))) (all_transitions chart)

    moved_are : (after : CentralState) → after ≡ next_state chart c es → filter (λ z. is_state_of chart u z && has_flipped c.configuration after.configuration z) (all_states chart) ≡ moved_of_unit chart c es u
    moved_are after e =
        ap (λ (d : CentralState). filter (λ z. is_state_of chart u z && has_flipped c.configuration d.configuration z) (all_states chart)) e
        ∙ filter_agree (λ z. is_state_of chart u z && has_flipped c.configuration (next_state chart c es).configuration z) (λ z. differs (is_in z c.configuration) (is_in z (next_state chart c es).configuration) && is_state_of chart u z) (all_states chart)
        (λ z m. both (is_state_of chart u z) (is_in z c.configuration) (is_in z (next_state chart c es).configuration))
        ∙ sym (filter_filter (λ z. differs (is_in z c.configuration) (is_in z (next_state chart c es).configuration)) (is_state_of chart u) (all_states chart))
      where
        both : (own b a : Bool) → (own && cond b (not a) a) ≡ (differs b a && own)
        both true true true = refl
        both true true false = refl
        both true false true = refl
        both true false false = refl
        both false true true = refl
        both false true false = refl
        both false false true = refl
        both false false false = refl

    pub share_is : (k : ℕ) (after : CentralState) (outers : List Outer) → after ≡ next_state chart c es → share_by chart u k c es after outers ≡ share_from chart c es u k outers
    unfolding share_from
    share_is k after outers e =
        let moved = moved_are after e in
        let writes = ap (given_writes chart (snapshot_of chart c es)) own_fires ∙ sym (writes_are (snapshot_of chart c es) (λ t. is_own chart u t && fires chart (is_enabled chart (snapshot_of chart c es)) t)) ∙ ap (λ (ts : List ℕ). merged (writes_of chart (snapshot_of chart c es).seen ts)) (sym own_fires) in
        λ i. record {
          from = record { 0 = u };
          step = k;
          flips = map Rattle.wf_model.specs.Ids.state_id (moved i);
          writes = writes i;
          raised = Rattle.wf_semantics.specs.Effects.raised_by chart (snapshot_of chart c es).seen (fired_of_unit chart c es u);
          starts = Rattle.wf_semantics.specs.Effects.starts_of chart (fired_of_unit chart c es u);
          fired = map (λ t. record { 0 = t }) (fired_of_unit chart c es u);
          outer = outers;
        }

-- the machine's central run goes on step by step
central_next : (chart : Chart) (m : CountingMachine) (j : ℕ) → central_at chart m (suc j) ≡ next_state chart (central_at chart m j) (entries_at m (suc j))
unfolding central_at
central_next chart m j =
    ap (λ (ks : List ℕ). central_run chart (map (entries_at m) ks)) (sym (range_push 1 j))
    ∙ ap (central_run chart) (map-append (entries_at m) (range_with_len 1 j) ((1 + j) ∷ []))
    ∙ steps_in_parts chart (first_state chart) (map (entries_at m) (range_with_len 1 j)) (entries_at m (1 + j) ∷ [])
    ∙ ap (λ (k : ℕ). next_state chart (central_run chart (map (entries_at m) (range_with_len 1 j))) (entries_at m k)) (let q : 1 + j ≡ suc j = omega arith in q)

configured : (chart : Chart) (m : CountingMachine) (j : ℕ) → IsAccepted chart → IsConfiguration chart (central_at chart m j).configuration
unfolding central_at
configured chart m j ok = run_configuration chart (chart_of chart ok) (map (entries_at m) (range_with_len 1 j))

pub update_is_share : UpdateIsShare
unfolding update_at
update_is_share chart m u j ok =
    ap (λ (i : ℕ). share_by chart u (suc j) (central_at chart m i) (entries_at m (suc j)) (central_at chart m (suc j)) (outers_sealed (server m u).admissions (server m u).sealed i)) (let q : suc j - 1 ≡ j = omega arith in q)
    ∙ share_is chart ok (central_at chart m j) (entries_at m (suc j)) (configured chart m j ok) u (suc j) (central_at chart m (suc j)) (outers_sealed (server m u).admissions (server m u).sealed j) (central_next chart m j)

pub update_same : UpdateSame
update_same chart m h u j are c lt le = letter_same chart m h u j are c lt le ∙ sym (update_is_share chart m u j are.accepted)
