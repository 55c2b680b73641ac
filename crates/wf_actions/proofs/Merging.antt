-- What merged writes have of each variable, and that cuts make no difference.
use Rattle.std.proofs.Common.{◌≡◌, ◌⊎◌, ℕ, zero, suc, ◌+◌, ◌-◌, ◌<◌, ◌≤◌, ◌==◌, max, Bool, true, false, cond, List, [], ◌∷◌, ◌++◌, map, fold, filter_map, Option, Some, None, nat_lt, inl, inr, refl, sym, ap, subst, ◌∙◌, arith, eqb-true, eq-eqb}
use Rattle.std.specs.List.{range_with_len, AllByRecursion, cons_option}
use Rattle.std.specs.List.Sorted.{IsStrictlyIncreasing, IsStrictlySortedBy}
use Rattle.std.specs.Option.{option_to_list}
use Rattle.std.specs.Ordering.{nat_cmp}
use Rattle.std.specs.declared.cmp.Ordering.TheVariants.{Less}
use Rattle.std.proofs.lemmas.List.{append-nil}
use Rattle.std.proofs.lemmas.List.Elements.{filter-append, filter_map-append}
use Rattle.std.proofs.lemmas.List.Sums.{fold-append}
use Rattle.std.proofs.lemmas.Map.Keys.{IsStrictlyIncreasing-from_sorted}
use Rattle.std.proofs.lemmas.Bool.{cases_lt}
use Rattle.std.proofs.lemmas.Bool.Decides.{nat_tests}
use Rattle.wf_model.specs.declared.update.Write.{Write}
use Rattle.wf_actions.specs.Writes.{of_variable, over, winner, past_variables, merged}
use Rattle.wf_actions.proofs.Winners.{above_start}

-- what stays of the writes of x is a write of x
abbrev Of : ℕ → Option Write → Type 0
Of x o = (w : Write) → o ≡ Some w → w.var.0 ≡ x

over_of : (x : ℕ) (o : Option Write) (w : Write) → w.var.0 ≡ x → Of x o → Of x (over o w)
over_of x None w h k v e = let same : w ≡ v = cc in ap (λ (u : Write). u.var.0) (sym same) ∙ h
over_of x (Some u) w h k v e = go (nat_lt w.trans.0 u.trans.0) e
  where
    go : (b : Bool) → cond b (Some u) (Some w) ≡ Some v → v.var.0 ≡ x
    go true f = k v f
    go false f = let same : w ≡ v = cc in ap (λ (u : Write). u.var.0) (sym same) ∙ h

fold_of : (x : ℕ) (ws : List Write) (o : Option Write) → Of x o → Of x (fold over o (of_variable x ws))
fold_of x [] o h = h
fold_of x (w ∷ ws) o h = go (w.var.0 == x) refl (fold_of x ws o h) (λ k. fold_of x ws (over o w) k)
  where
    go : (b : Bool) → (w.var.0 == x) ≡ b → Of x (fold over o (of_variable x ws)) → (Of x (over o w) → Of x (fold over (over o w) (of_variable x ws)))
        → Of x (fold over o (cond b (w ∷ of_variable x ws) (of_variable x ws)))
    go true t skip more = more (over_of x o w (eqb-true w.var.0 x t) h)
    go false t skip more = skip

winner_of : (ws : List Write) (x : ℕ) → Of x (winner x ws)
winner_of ws x = fold_of x ws None (λ w e. cc)

-- a row of slots, each empty or with a write of its own variable
module _ (f : ℕ → Option Write) (of : (x : ℕ) → Of x (f x)) where
  row_none : (x s n : ℕ) → x < s → of_variable x (filter_map f (range_with_len s n)) ≡ []
  row_none x s zero h = refl
  row_none x s (suc n) h = go (f s) refl (row_none x (s + 1) n (omega arith))
    where
      go : (o : Option Write) → f s ≡ o → of_variable x (filter_map f (range_with_len (s + 1) n)) ≡ [] → of_variable x (cons_option o (filter_map f (range_with_len (s + 1) n))) ≡ []
      go None e rest = rest
      go (Some w) e rest =
          let off : (w.var.0 == x) ≡ false = let at = of s w e in grind (arith, nat_tests) in
          rw off rest

  pub row_some : (x s n : ℕ) → s ≤ x → x < s + n → of_variable x (filter_map f (range_with_len s n)) ≡ option_to_list (f x)
  row_some x s zero l h = absurd (omega arith)
  row_some x s (suc n) l h = go (f s) refl (cases_lt s x) (λ k. row_some x (s + 1) n (omega arith) (omega arith))
    where
      go : (o : Option Write) → f s ≡ o → (s < x) ⊎ (x ≤ s) → (s < x → of_variable x (filter_map f (range_with_len (s + 1) n)) ≡ option_to_list (f x))
          → of_variable x (cons_option o (filter_map f (range_with_len (s + 1) n))) ≡ option_to_list (f x)
      go None e (inl k) rest = rest k
      go (Some w) e (inl k) rest =
          let off : (w.var.0 == x) ≡ false = let at = of s w e in grind (arith, nat_tests) in
          rw off (rest k)
      go None e (inr k) rest =
          let at : s ≡ x = omega arith in
          row_none x (s + 1) n (omega arith) ∙ ap option_to_list (sym e ∙ ap f at)
      go (Some w) e (inr k) rest =
          let at : s ≡ x = omega arith in
          let on : (w.var.0 == x) ≡ true = eq-eqb w.var.0 x (of s w e ∙ at) in
          rw (on, row_none x (s + 1) n (omega arith)) (ap option_to_list (sym e ∙ ap f at))

  low : (lo s n : ℕ) → lo < s → AllByRecursion (λ y. nat_cmp lo y ≡ Less) (map (λ (w : Write). w.var.0) (filter_map f (range_with_len s n)))
  low lo s zero h = tt
  low lo s (suc n) h = go (f s) refl (low lo (s + 1) n (omega arith))
    where
      go : (o : Option Write) → f s ≡ o → AllByRecursion (λ y. nat_cmp lo y ≡ Less) (map (λ (w : Write). w.var.0) (filter_map f (range_with_len (s + 1) n)))
          → AllByRecursion (λ y. nat_cmp lo y ≡ Less) (map (λ (w : Write). w.var.0) (cons_option o (filter_map f (range_with_len (s + 1) n))))
      go None e rest = rest
      go (Some w) e rest = ((let at = of s w e in grind (arith, nat_tests)), rest)

  rows_ascend : (s n : ℕ) → IsStrictlySortedBy nat_cmp (map (λ (w : Write). w.var.0) (filter_map f (range_with_len s n)))
  unfolding IsStrictlySortedBy
  rows_ascend s zero = tt
  rows_ascend s (suc n) = go (f s) refl (rows_ascend (s + 1) n)
    where
      go : (o : Option Write) → f s ≡ o → IsStrictlySortedBy nat_cmp (map (λ (w : Write). w.var.0) (filter_map f (range_with_len (s + 1) n)))
          → IsStrictlySortedBy nat_cmp (map (λ (w : Write). w.var.0) (cons_option o (filter_map f (range_with_len (s + 1) n))))
      go None e rest = rest
      go (Some w) e rest = (low w.var.0 (s + 1) n (let at = of s w e in omega arith), rest)

pub merged_ascends : (ws : List Write) → IsStrictlyIncreasing (map (λ write. write.var.0) (merged ws))
merged_ascends ws = IsStrictlyIncreasing-from_sorted _ (rows_ascend (λ x. winner x ws) (winner_of ws) 0 (past_variables ws))

-- past the variables that are written nothing stays
none_from : (x n : ℕ) (ws : List Write) → fold (λ past write. max past (write.var.0 + 1)) n ws ≤ x → of_variable x ws ≡ []
none_from x n [] h = refl
none_from x n (w ∷ ws) h =
    let off : (w.var.0 == x) ≡ false = let up = above_start (max n (w.var.0 + 1)) ws in grind (arith, nat_tests) in
    rw off (none_from x (max n (w.var.0 + 1)) ws h)

winner_none : (ws : List Write) (x : ℕ) → past_variables ws ≤ x → winner x ws ≡ None
winner_none ws x h = ap (λ (l : List Write). fold over None l) (none_from x 0 ws h)

range_split : (s n k : ℕ) → range_with_len s (n + k) ≡ range_with_len s n ++ range_with_len (s + n) k
range_split s zero k = let e : s + 0 ≡ s = omega arith in let z : 0 + k ≡ k = omega arith in rw (e, z) refl
range_split s (suc n) k =
    let e : suc n + k ≡ suc (n + k) = omega arith in
    let g : s + suc n ≡ s + 1 + n = omega arith in
    rw (e, g) (ap (λ (l : List ℕ). s ∷ l) (range_split (s + 1) n k))

empty_slots : (f : ℕ → Option Write) (s k : ℕ) → ((x : ℕ) → s ≤ x → f x ≡ None) → filter_map f (range_with_len s k) ≡ []
empty_slots f s zero h = refl
empty_slots f s (suc k) h = rw (h s (omega arith)) (empty_slots f (s + 1) k (λ x l. h x (omega arith)))

-- a longer row has no more
pub merged_longer : (ws : List Write) (n : ℕ) → past_variables ws ≤ n → merged ws ≡ filter_map (λ x. winner x ws) (range_with_len 0 n)
merged_longer ws n h =
    let f : ℕ → Option Write = λ x. winner x ws in
    let p : ℕ = past_variables ws in
    let e : p + (n - p) ≡ n = omega arith in
    sym (subst (λ (m : ℕ). filter_map f (range_with_len 0 m) ≡ merged ws) e
    (ap (λ (l : List ℕ). filter_map f l) (range_split 0 p (n - p)) ∙ filter_map-append f (range_with_len 0 p) (range_with_len (0 + p) (n - p))
    ∙ ap (λ (l : List Write). merged ws ++ l) (empty_slots f (0 + p) (n - p) (λ x l. winner_none ws x (omega arith))) ∙ append-nil (merged ws)))

pub merged_of : (ws : List Write) (x : ℕ) → of_variable x (merged ws) ≡ option_to_list (winner x ws)
merged_of ws x =
    let n : ℕ = max (past_variables ws) (x + 1) in
    ap (of_variable x) (merged_longer ws n (omega arith)) ∙ row_some (λ y. winner y ws) (winner_of ws) x 0 n (omega arith) (omega arith)

fold_one : (o : Option Write) → fold over None (option_to_list o) ≡ o
fold_one None = refl
fold_one (Some w) = refl

winner_cut : (ps qs : List Write) (x : ℕ) → winner x (merged ps ++ qs) ≡ winner x (ps ++ qs)
winner_cut ps qs x =
    ap (λ (l : List Write). fold over None l) (filter-append (λ write. write.var.0 == x) (merged ps) qs)
    ∙ fold-append over None (of_variable x (merged ps)) (of_variable x qs)
    ∙ ap (λ (o : Option Write). fold over o (of_variable x qs)) (ap (λ (l : List Write). fold over None l) (merged_of ps x) ∙ fold_one (winner x ps))
    ∙ sym (fold-append over None (of_variable x ps) (of_variable x qs))
    ∙ ap (λ (l : List Write). fold over None l) (sym (filter-append (λ write. write.var.0 == x) ps qs))

slots_agree : (f g : ℕ → Option Write) → ((x : ℕ) → f x ≡ g x) → (xs : List ℕ) → filter_map f xs ≡ filter_map g xs
slots_agree f g e [] = refl
slots_agree f g e (x ∷ xs) = rw (e x, slots_agree f g e xs) refl

-- the same stays of each variable, so the merged writes are the same
pub merged_same : (ps qs : List Write) → ((x : ℕ) → winner x ps ≡ winner x qs) → merged ps ≡ merged qs
merged_same ps qs e =
    let n : ℕ = max (past_variables ps) (past_variables qs) in
    merged_longer ps n (omega arith) ∙ slots_agree (λ x. winner x ps) (λ x. winner x qs) e (range_with_len 0 n) ∙ sym (merged_longer qs n (omega arith))

pub cuts : (ps qs : List Write) → merged (merged ps ++ qs) ≡ merged (ps ++ qs)
cuts ps qs = merged_same (merged ps ++ qs) (ps ++ qs) (winner_cut ps qs)
