-- The merged writes of fired transitions, put into the store.
use Rattle.std.proofs.Common.{◌≡◌, ℕ, ◌+◌, ◌<◌, ◌≤◌, ◌==◌, Bool, true, false, cond, List, [], ◌∷◌, ◌++◌, length, get_or, set, fold, filter_map, Option, Some, None, Ok, Err, Result, nat_lt, refl, sym, ap, ◌∙◌, arith, eqb-true}
use Rattle.std.specs.List.{cons_option}
use Rattle.std.specs.List.Sorted.{IsStrictlyIncreasing}
use Rattle.std.specs.Option.{option_to_list, option_map_or}
use Rattle.std.proofs.lemmas.List.{length-set, get_or-set_same, get_or-set_other, same_lists}
use Rattle.std.proofs.lemmas.Bool.{eqb-false}
use Rattle.std.proofs.lemmas.Bool.Decides.{nat_tests}
use Rattle.wf_model.specs.declared.value.Val.{Val}
use Rattle.wf_model.specs.declared.expr.Fault.{Fault}
use Rattle.wf_model.specs.declared.chart.Action.{Action}
use Rattle.wf_model.specs.declared.chart.Action.TheVariants.{Assign, Raise, Start}
use Rattle.wf_model.specs.declared.chart.Chart.{Chart}
use Rattle.wf_model.specs.declared.update.Write.{Write}
use Rattle.wf_model.specs.Values.{value_of}
use Rattle.wf_model.specs.Seen.{Seen}
use Rattle.wf_semantics.specs.Effects.{actions_of, after_action, after_actions, after_fired}
use Rattle.wf_actions.specs.Writes.{of_variable, by_transition, over, winner, merged}
use Rattle.wf_actions.specs.Store.{write_of, writes_of, after_writes}
use Rattle.wf_actions.proofs.Merging.{merged_of, merged_same}
use Rattle.wf_actions.proofs.Ranked.{same_winner}
use Rattle.wf_actions.proofs.Ascending.{Ascends, ascends_from}

-- the central run's store is that of its writes in order
after_append : (ws vs : List Write) (store : List Val) → after_writes (ws ++ vs) store ≡ after_writes vs (after_writes ws store)
after_append [] vs store = refl
after_append (w ∷ ws) vs store = after_append ws vs (set store w.var.0 w.val)

one_action : (seen : Seen) (t : ℕ) (a : Action) (ws : List Write) (store : List Val) → after_writes (cons_option (write_of seen t a) ws) store ≡ after_writes ws (after_action seen a store)
one_action seen t (Assign x value) ws store = go (value_of seen value) refl
  where
    go : (r : Result Val Fault) → value_of seen value ≡ r → after_writes (cons_option (write_of seen t (Assign x value)) ws) store ≡ after_writes ws (after_action seen (Assign x value) store)
    go (Ok val) e = rw e refl
    go (Err fault) e = rw e refl
one_action seen t (Raise e) ws store = refl
one_action seen t (Start a) ws store = refl

actions_store : (seen : Seen) (t : ℕ) (acts : List Action) (store : List Val) → after_writes (filter_map (write_of seen t) acts) store ≡ after_actions seen acts store
actions_store seen t [] store = refl
actions_store seen t (a ∷ acts) store =
    one_action seen t a (filter_map (write_of seen t) acts) store ∙ actions_store seen t acts (after_action seen a store)

fired_store : (chart : Chart) (seen : Seen) (fired : List ℕ) (store : List Val) → after_writes (writes_of chart seen fired) store ≡ after_fired chart seen fired store
fired_store chart seen [] store = refl
fired_store chart seen (t ∷ ts) store =
    after_append (filter_map (write_of seen t) (actions_of chart t)) (writes_of chart seen ts) store
    ∙ ap (λ (s : List Val). after_writes (writes_of chart seen ts) s) (actions_store seen t (actions_of chart t) store)
    ∙ fired_store chart seen ts (after_actions seen (actions_of chart t) store)

after_length : (ws : List Write) (store : List Val) → length (after_writes ws store) ≡ length store
after_length [] store = refl
after_length (w ∷ ws) store = after_length ws (set store w.var.0 w.val) ∙ length-set store w.var.0 w.val

-- one variable's value after writes is that of its last write
read_after : (ws : List Write) (store : List Val) (x : ℕ) (d : Val) → x < length store → get_or (after_writes ws store) x d ≡ fold (λ val (write : Write). write.val) (get_or store x d) (of_variable x ws)
read_after [] store x d h = refl
read_after (w ∷ ws) store x d h = read_after ws (set store w.var.0 w.val) x d (omega (arith, length-set store w.var.0 w.val)) ∙ go (w.var.0 == x) refl
  where
    go : (b : Bool) → (w.var.0 == x) ≡ b →
        fold (λ val (write : Write). write.val) (get_or (set store w.var.0 w.val) x d) (of_variable x ws)
        ≡ fold (λ val (write : Write). write.val) (get_or store x d) (cond b (w ∷ of_variable x ws) (of_variable x ws))
    go true t =
        let same : w.var.0 ≡ x = eqb-true w.var.0 x t in
        ap (λ (v : Val). fold (λ val (write : Write). write.val) v (of_variable x ws))
        (ap (λ (y : ℕ). get_or (set store w.var.0 w.val) y d) (sym same) ∙ get_or-set_same store w.var.0 w.val d (omega arith))
    go false t =
        ap (λ (v : Val). fold (λ val (write : Write). write.val) v (of_variable x ws))
        (get_or-set_other store w.var.0 x w.val d (λ e. eqb-false w.var.0 x t (sym e)))

-- writes whose transitions don't fall, from t on
abbrev Rises : ℕ → List Write → Type 0
Rises t [] = Unit {0}
Rises t (w ∷ ws) = (t ≤ w.trans.0) × Rises w.trans.0 ws

rises_weaker : (s t : ℕ) (ws : List Write) → s ≤ t → Rises t ws → Rises s ws
rises_weaker s t [] l r = tt
rises_weaker s t (w ∷ ws) l r = (omega (arith, r.0), r.1)

rises_filter : (x t : ℕ) (ws : List Write) → Rises t ws → Rises t (of_variable x ws)
rises_filter x t [] r = tt
rises_filter x t (w ∷ ws) r = go (w.var.0 == x) (rises_filter x w.trans.0 ws r.1)
  where
    go : (b : Bool) → Rises w.trans.0 (of_variable x ws) → Rises t (cond b (w ∷ of_variable x ws) (of_variable x ws))
    go true rest = (r.0, rest)
    go false rest = rises_weaker t w.trans.0 (of_variable x ws) r.0 rest

-- of writes whose transitions don't fall the last stays
last_stays : (u : Write) (ws : List Write) (first : Val) → Rises u.trans.0 ws → fold (λ val (write : Write). write.val) u.val ws ≡ option_map_or (λ (write : Write). write.val) (fold over (Some u) ws) first
last_stays u [] first r = refl
last_stays u (w ∷ ws) first r =
    let up : nat_lt w.trans.0 u.trans.0 ≡ false = let le = r.0 in grind (arith, nat_tests) in
    last_stays w ws first r.1
    ∙ ap (λ (b : Bool). option_map_or (λ (write : Write). write.val) (fold over (cond b (Some u) (Some w)) ws) first) (sym up)

last_wins : (t : ℕ) (ws : List Write) (first : Val) → Rises t ws → fold (λ val (write : Write). write.val) first ws ≡ option_map_or (λ (write : Write). write.val) (fold over None ws) first
last_wins t [] first r = refl
last_wins t (w ∷ ws) first r = last_stays w ws first r.1

one_value : (o : Option Write) (first : Val) → fold (λ val (write : Write). write.val) first (option_to_list o) ≡ option_map_or (λ (write : Write). write.val) o first
one_value None first = refl
one_value (Some w) first = refl

-- the fired transitions ascend, and so do those of their writes
block_rises : (seen : Seen) (t lo : ℕ) (acts : List Action) (rest : List Write) → lo ≤ t → Rises t rest → Rises lo (filter_map (write_of seen t) acts ++ rest)
block_rises seen t lo [] rest l r = rises_weaker lo t rest l r
block_rises seen t lo (Raise e ∷ acts) rest l r = block_rises seen t lo acts rest l r
block_rises seen t lo (Start a ∷ acts) rest l r = block_rises seen t lo acts rest l r
block_rises seen t lo (Assign x value ∷ acts) rest l r =
    go (value_of seen value) refl (block_rises seen t t acts rest (omega arith) r) (block_rises seen t lo acts rest l r)
  where
    go : (q : Result Val Fault) → value_of seen value ≡ q → Rises t (filter_map (write_of seen t) acts ++ rest) → Rises lo (filter_map (write_of seen t) acts ++ rest)
        → Rises lo (filter_map (write_of seen t) (Assign x value ∷ acts) ++ rest)
    go (Ok val) e more skip = rw e (l, more)
    go (Err fault) e more skip = rw e skip

writes_rise : (chart : Chart) (seen : Seen) (lo : ℕ) (fired : List ℕ) → Ascends lo fired → Rises lo (writes_of chart seen fired)
writes_rise chart seen lo [] a = tt
writes_rise chart seen lo (t ∷ ts) a =
    block_rises seen t lo (actions_of chart t) (writes_of chart seen ts) a.0
    (rises_weaker t (t + 1) (writes_of chart seen ts) (omega arith) (writes_rise chart seen (t + 1) ts a.1))

merged_store : (chart : Chart) (seen : Seen) (fired : List ℕ) (store : List Val) → IsStrictlyIncreasing fired → after_writes (merged (writes_of chart seen fired)) store ≡ after_fired chart seen fired store
merged_store chart seen fired store up =
    let ws : List Write = writes_of chart seen fired in
    let rise : Rises 0 ws = writes_rise chart seen 0 fired (ascends_from 0 fired (λ l. omega arith) up) in
    same_lists (after_writes (merged ws) store) (after_writes ws store)
    (after_length (merged ws) store ∙ sym (after_length ws store))
    (λ x d l.
    let h : x < length store = omega (arith, after_length (merged ws) store) in
    read_after (merged ws) store x d h
    ∙ ap (λ (vs : List Write). fold (λ val (write : Write). write.val) (get_or store x d) vs) (merged_of ws x)
    ∙ one_value (winner x ws) (get_or store x d)
    ∙ sym (last_wins 0 (of_variable x ws) (get_or store x d) (rises_filter x 0 ws rise))
    ∙ sym (read_after ws store x d h))
    ∙ fired_store chart seen fired store

pub shares_store : (chart : Chart) (seen : Seen) (fired : List ℕ) (writes : List Write) (store : List Val) → IsStrictlyIncreasing fired → ((t : ℕ) → by_transition t writes ≡ by_transition t (writes_of chart seen fired)) → after_writes (merged writes) store ≡ after_fired chart seen fired store
shares_store chart seen fired writes store up same =
    let ws : List Write = writes_of chart seen fired in
    ap (λ (l : List Write). after_writes l store) (merged_same writes ws (same_winner writes ws same)) ∙ merged_store chart seen fired store up
