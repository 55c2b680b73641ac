-- How many items of each activity entries complete.
use Rattle.std.proofs.Common.{◌≡◌, ◌≢◌, ℕ, ◌+◌, ◌<◌, ◌≤◌, ◌==◌, cond, nat_lt, Bool, true, false, List, [], ◌∷◌, ◌++◌, length, map, filter, flat_map, take, get_or, set, Option, Some, None, refl, sym, ◌∙◌, ap, arith, eq-eqb, eqb-true, true≢false, append-nil, length-set, length-take, get_or-set_other}
use Rattle.std.specs.List.{range_with_len}
use Rattle.std.specs.Option.{option_map_or}
use Rattle.std.proofs.lemmas.Bool.Decides.{nat_tests}
use Rattle.std.proofs.lemmas.List.{take_more}
use Rattle.std.proofs.lemmas.List.Elements.{filter-append}
use Rattle.std.proofs.lemmas.Grind.{get_or-set_at, flat_map-append}
use Rattle.wf_model.specs.declared.ids.ActId.{ActId}
use Rattle.wf_model.specs.declared.chart.Chart.{Chart}
use Rattle.wf_model.specs.declared.outer.Outer.{Outer}
use Rattle.wf_model.specs.declared.outer.Outer.TheVariants.{Happen, Complete}
use Rattle.wf_model.specs.declared.outer.Entry.{Entry}
use Rattle.wf_semantics.specs.Items.{Completion, one, done_count}
use Rattle.wf_semantics.specs.Run.{act_unit, completions_of, completions_at, done_now}
use Rattle.wf_semantics.specs.Admission.{is_act_at}
use Rattle.wf_activities.specs.Completed.{completed_at, done_by}
use Rattle.wf_activities.proofs.Rows.{row_at, row_len, row_made}

pub same_flip : (m n : ℕ) → (m == n) ≡ (n == m)
same_flip m n = go (m == n) refl
  where
    go : (b : Bool) → (m == n) ≡ b → (m == n) ≡ (n == m)
    go true q = q ∙ sym (eq-eqb n m (sym (eqb-true m n q)))
    go false q = let no : (n == m) ≡ false = grind (arith, nat_tests) in q ∙ sym no

done_append : (a : ℕ) (xs ys : List Completion) → done_count a (xs ++ ys) ≡ done_count a xs + done_count a ys
done_append a [] ys = omega arith
done_append a (x ∷ xs) ys = omega (arith, done_append a xs ys)

pub completions_append : (u : ℕ) (xs ys : List Entry) → completions_at u (xs ++ ys) ≡ completions_at u xs ++ completions_at u ys
completions_append u xs ys =
    ap (flat_map (λ (x : Entry). completions_of x.outer)) (filter-append (λ (x : Entry). x.unit.0 == u) xs ys)
    ∙ flat_map-append (λ (x : Entry). completions_of x.outer) (filter (λ (x : Entry). x.unit.0 == u) xs) (filter (λ (x : Entry). x.unit.0 == u) ys)

-- what one entry completes at a unit
pub at_one : (x : Entry) (v : ℕ) → completions_at v (x ∷ []) ≡ cond (x.unit.0 == v) (completions_of x.outer) []
at_one x v = go (x.unit.0 == v)
  where
    go : (b : Bool) → flat_map (λ (y : Entry). completions_of y.outer) (cond b (x ∷ []) []) ≡ cond b (completions_of x.outer) []
    go true = append-nil (completions_of x.outer)
    go false = refl

done_by_append : (chart : Chart) (xs ys : List Entry) (a : ℕ) → done_by chart (xs ++ ys) a ≡ done_by chart xs a + done_by chart ys a
done_by_append chart xs ys a = go (act_unit chart a)
  where
    go : (o : Option ℕ) → option_map_or (λ u. done_count a (completions_at u (xs ++ ys))) o 0 ≡ option_map_or (λ u. done_count a (completions_at u xs)) o 0 + option_map_or (λ u. done_count a (completions_at u ys)) o 0
    go None = omega arith
    go (Some u) = ap (done_count a) (completions_append u xs ys) ∙ done_append a (completions_at u xs) (completions_at u ys)

-- whether this is the activity
abbrev pub hits : Option ActId → ℕ → ℕ
hits None a = 0
hits (Some b) a = one (b.0 == a)

count_cond : (a : ℕ) (p : Bool) (c : Completion) → done_count a (cond p (c ∷ []) []) ≡ cond p (one (c.act.0 == a)) 0
count_cond a true c = omega arith
count_cond a false c = refl

hits_cond : (a : ℕ) (q : Bool) (b : ActId) → hits (cond q (Some b) None) a ≡ cond q (one (b.0 == a)) 0
hits_cond a true b = refl
hits_cond a false b = refl

same_cond : (p q r : Bool) → (r ≡ true → p ≡ q) → cond p (one r) 0 ≡ cond q (one r) 0
same_cond p q true h = ap (λ (b : Bool). cond b 1 0) (h refl)
same_cond true true false h = refl
same_cond true false false h = refl
same_cond false true false h = refl
same_cond false false false h = refl

-- the unit of an activity tells where it is
act_at : (chart : Chart) (a u v : ℕ) → act_unit chart a ≡ Some v → is_act_at chart u a ≡ (v == u)
act_at chart a u v e = ap (λ (o : Option ℕ). option_map_or (λ unit. unit == u) o false) e

no_act_at : (chart : Chart) (a u : ℕ) → act_unit chart a ≡ None → is_act_at chart u a ≡ false
no_act_at chart a u e = ap (λ (o : Option ℕ). option_map_or (λ unit. unit == u) o false) e

-- one entry completes an item of the activity that it names, if that is one of its unit
one_entry : (chart : Chart) (x : Entry) (a : ℕ) → done_by chart (x ∷ []) a ≡ hits (completed_at chart x.unit.0 x.outer) a
one_entry chart x a = go (act_unit chart a) refl
  where
    none_hit : (outer : Outer) → act_unit chart a ≡ None → 0 ≡ hits (completed_at chart x.unit.0 outer) a
    none_hit (Happen e) h = refl
    none_hit (Complete n b outputs) h =
        sym (hits_cond a (is_act_at chart x.unit.0 b.0) b
        ∙ same_cond (is_act_at chart x.unit.0 b.0) false (b.0 == a) (λ q. ap (is_act_at chart x.unit.0) (eqb-true b.0 a q) ∙ no_act_at chart a x.unit.0 h))

    some_hit : (outer : Outer) (v : ℕ) → act_unit chart a ≡ Some v → done_count a (cond (x.unit.0 == v) (completions_of outer) []) ≡ hits (completed_at chart x.unit.0 outer) a
    some_hit (Happen e) v h = both (x.unit.0 == v)
      where
        both : (p : Bool) → done_count a (cond p [] []) ≡ 0
        both true = refl
        both false = refl
    some_hit (Complete n b outputs) v h =
        count_cond a (x.unit.0 == v) (record { item = n; act = b })
        ∙ same_cond (x.unit.0 == v) (is_act_at chart x.unit.0 b.0) (b.0 == a)
        (λ q. same_flip x.unit.0 v ∙ sym (ap (is_act_at chart x.unit.0) (eqb-true b.0 a q) ∙ act_at chart a x.unit.0 v h))
        ∙ sym (hits_cond a (is_act_at chart x.unit.0 b.0) b)

    go : (o : Option ℕ) → act_unit chart a ≡ o → option_map_or (λ v. done_count a (completions_at v (x ∷ []))) o 0 ≡ hits (completed_at chart x.unit.0 x.outer) a
    go None h = none_hit x.outer h
    go (Some v) h = ap (done_count a) (at_one x v) ∙ some_hit x.outer v h

-- one entry more
pub done_more : (chart : Chart) (entries : List Entry) (i : ℕ) (x : Entry) (a : ℕ) → i < length entries → x ≡ get_or entries i x
    → done_by chart (take (i + 1) entries) a ≡ done_by chart (take i entries) a + hits (completed_at chart x.unit.0 x.outer) a
done_more chart entries i x a lt is =
    ap (λ (l : List Entry). done_by chart l a) (take_more entries i x lt ∙ ap (λ (y : Entry). take i entries ++ y ∷ []) (sym is))
    ∙ done_by_append chart (take i entries) (x ∷ []) a
    ∙ ap (λ (n : ℕ). done_by chart (take i entries) a + n) (one_entry chart x a)

hits_few : (o : Option ActId) (a : ℕ) → hits o a ≤ 1
hits_few None a = omega arith
hits_few (Some b) a = go (b.0 == a)
  where
    go : (p : Bool) → one p ≤ 1
    go true = omega arith
    go false = omega arith

done_few : (chart : Chart) (entries : List Entry) (a : ℕ) → done_by chart entries a ≤ length entries
done_few chart [] a = go (act_unit chart a)
  where
    go : (o : Option ℕ) → option_map_or (λ u. 0) o 0 ≤ 0
    go None = omega arith
    go (Some u) = omega arith
done_few chart (x ∷ xs) a =
    omega (arith, done_by_append chart (x ∷ []) xs a, one_entry chart x a, hits_few (completed_at chart x.unit.0 x.outer) a, done_few chart xs a)

-- fewer are done than there are entries before the last
pub done_below : (chart : Chart) (entries : List Entry) (i a : ℕ) → i < length entries → done_by chart (take i entries) a ≤ i
done_below chart entries i a lt = omega (arith, done_few chart (take i entries) a, length-take i entries)

module _ (chart : Chart) (entries : List Entry) (n i : ℕ) (x : Entry) (counts : List ℕ) (lt : i < length entries) (is : x ≡ get_or entries i x)
    (made : counts ≡ map (done_by chart (take i entries)) (range_with_len 0 n)) where
  -- the count of the activity that the entry completes an item of
  pub one_counted : (b : ActId) (m : ℕ) → Some b ≡ completed_at chart x.unit.0 x.outer → b.0 < n → m ≡ get_or counts b.0 0
      → set counts b.0 (m + 1) ≡ map (done_by chart (take (i + 1) entries)) (range_with_len 0 n)
  one_counted b m hit within e =
      row_made (done_by chart (take (i + 1) entries)) 0 n (set counts b.0 (m + 1)) (length-set counts b.0 (m + 1) ∙ row_len (done_by chart (take i entries)) n counts made) (λ j lj. go j lj (b.0 == j) refl)
    where
      go : (j : ℕ) → j < n → (p : Bool) → (b.0 == j) ≡ p → get_or (set counts b.0 (m + 1)) j 0 ≡ done_by chart (take (i + 1) entries) j
      go j lj true q =
          let same : b.0 ≡ j = eqb-true b.0 j q in
          let now : get_or (set counts b.0 (m + 1)) j 0 ≡ m + 1 = get_or-set_at counts b.0 j (m + 1) 0 (sym same) (omega (arith, within, row_len (done_by chart (take i entries)) n counts made)) in
          let was : m ≡ get_or counts j 0 = e ∙ ap (λ (k : ℕ). get_or counts k 0) same in
          let hitting : hits (completed_at chart x.unit.0 x.outer) j ≡ 1 = ap (λ (o : Option ActId). hits o j) (sym hit) ∙ ap one q in
          omega (arith, now, was, hitting, row_at (done_by chart (take i entries)) n j 0 counts made lj, done_more chart entries i x j lt is)
      go j lj false q =
          let other : j ≢ b.0 = λ r. true≢false (sym (eq-eqb b.0 j (sym r)) ∙ q) in
          let hitting : hits (completed_at chart x.unit.0 x.outer) j ≡ 0 = ap (λ (o : Option ActId). hits o j) (sym hit) ∙ ap one q in
          omega (arith, get_or-set_other counts b.0 j (m + 1) 0 other, hitting, row_at (done_by chart (take i entries)) n j 0 counts made lj, done_more chart entries i x j lt is)

  pub none_counted : None ≡ completed_at chart x.unit.0 x.outer → counts ≡ map (done_by chart (take (i + 1) entries)) (range_with_len 0 n)
  none_counted hit =
      row_made (done_by chart (take (i + 1) entries)) 0 n counts (row_len (done_by chart (take i entries)) n counts made)
      (λ j lj. let hitting : hits (completed_at chart x.unit.0 x.outer) j ≡ 0 = ap (λ (o : Option ActId). hits o j) (sym hit) in
      omega (arith, hitting, row_at (done_by chart (take i entries)) n j 0 counts made lj, done_more chart entries i x j lt is))

-- no entry completes nothing
pub none_done : (chart : Chart) (a : ℕ) → ◌≡◌ {A = ℕ} 0 (done_by chart [] a)
none_done chart a = go (act_unit chart a)
  where
    go : (o : Option ℕ) → ◌≡◌ {A = ℕ} 0 (option_map_or (λ u. 0) o 0)
    go None = refl
    go (Some u) = refl

-- whether there is one is told by how many there are
pub done_told : (chart : Chart) (entries : List Entry) (a : ℕ) → nat_lt 0 (done_by chart entries a) ≡ done_now chart entries a
done_told chart entries a = go (act_unit chart a)
  where
    go : (o : Option ℕ) → nat_lt 0 (option_map_or (λ u. done_count a (completions_at u entries)) o 0) ≡ option_map_or (λ u. nat_lt 0 (done_count a (completions_at u entries))) o false
    go None = refl
    go (Some u) = refl
