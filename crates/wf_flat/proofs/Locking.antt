-- The run of all parts, one step more.
use Rattle.std.proofs.Common.{◌≡◌, ℕ, zero, suc, ◌+◌, ◌<◌, ◌≤◌, ◌==◌, nat_lt, eqb-true, cond, Bool, true, false, List, [], ◌∷◌, ◌++◌, All, map, length, get_or, set, refl, sym, ap, ap₂, ◌∙◌, subst, arith}
use Rattle.std.specs.List.{range_with_len}
use Rattle.std.proofs.lemmas.Bool.Decides.{nat_tests}
use Rattle.std.proofs.lemmas.List.{get_or_default}
use Rattle.std.proofs.lemmas.List.Elements.{All-map}
use Rattle.wf_model.specs.Limits.{max_units, max_steps}
use Rattle.wf_model.specs.declared.outer.Entry.{Entry}
use Rattle.wf_model.specs.declared.outer.Outer.{Outer}
use Rattle.wf_model.specs.declared.update.Update.{Update}
use Rattle.wf_model.proofs.Rows.{row_at, row_agree, row_more, row_set}
use Rattle.wf_parts.specs.declared.data.PartData.{PartData}
use Rattle.wf_semantics.proofs.Children.{item_at}
use Rattle.wf_views.specs.Views.{View, first_view}
use Rattle.wf_views.specs.OwnSteps.{own_update}
use Rattle.wf_views.specs.Absorbing.{absorbed}
use Rattle.wf_views.specs.Laws.{IsViewOf}
use Rattle.wf_views.proofs.LawsHold.{first_is_view, absorbed_is_view}
use Rattle.wf_lockstep.specs.Shares.{entries_at, outers_to}
use Rattle.wf_lockstep.specs.Lock.{lock_view, lock_update, outers_by}
use Rattle.wf_updates.proofs.Pairs.{map_twice}
use Rattle.wf_flat.specs.Locking.{AreViews, HasFewStarts, HasFewOpen, HasRoomFor}
use Rattle.wf_flat.proofs.Bounds.{first_open, has_room, absorbed_open}

-- a list is a row of its items
row_from : {A : Type 0} (xs : List A) (f : ℕ → A) (a : ℕ) → ((k : ℕ) (d : A) → k < length xs → f (a + k) ≡ get_or xs k d) → xs ≡ map f (range_with_len a (length xs))
row_from [] f a h = refl
row_from {A} (x ∷ xs) f a h =
    let here : a + 0 ≡ a = omega arith in
    ap₂ (λ (y : A) (l : List A). y ∷ l) (sym (h 0 x (omega arith)) ∙ ap f here)
    (row_from xs f (a + 1) (λ k d lt. let e : a + 1 + k ≡ a + suc k = omega arith in ap f e ∙ h (suc k) d (omega arith)))

pub list_row : {A : Type 0} (xs : List A) (n : ℕ) (e : A) → length xs ≡ n → xs ≡ map (λ k. get_or xs k e) (range_with_len 0 n)
list_row xs n e long = row_from xs (λ k. get_or xs k e) 0 (λ k d lt. let z : 0 + k ≡ k = omega arith in ap (λ (m : ℕ). get_or xs m e) z ∙ get_or_default xs k e d lt) ∙ ap (λ (m : ℕ). map (λ k. get_or xs k e) (range_with_len 0 m)) long

-- two rows of one list
pub rows_same : {A : Type 0} (f g : ℕ → A) (n k : ℕ) (xs : List A) → xs ≡ map f (range_with_len 0 n) → xs ≡ map g (range_with_len 0 n) → k < n → f k ≡ g k
rows_same f g n k xs a b lt = sym (row_at f n k (f k) xs a lt) ∙ row_at g n k (f k) xs b lt

-- each view of the run is one of its part
lock_is_view : (n : ℕ) (part : ℕ → PartData) (outers : ℕ → ℕ → List Outer) (j u : ℕ) → IsViewOf (part u) (lock_view n part outers j u)
unfolding lock_view
lock_is_view n part outers zero u = first_is_view (part u)
lock_is_view n part outers (suc j) u = absorbed_is_view (part u) (lock_view n part outers j u) _ (lock_is_view n part outers j u)

-- where the run stands after so many steps
pub record Stands (parts : List PartData) (outer : List (List Entry)) (taken : ℕ) (views : List View) (steps : List (List Update)) : Type 0 where
  pub same : length views ≡ length parts
  pub few : All (HasFewOpen taken) views
  pub lock : (part : ℕ → PartData) → parts ≡ map part (range_with_len 0 (length parts)) → views ≡ map (lock_view (length parts) part (outers_by outer) taken) (range_with_len 0 (length parts))
  pub made : (part : ℕ → PartData) → parts ≡ map part (range_with_len 0 (length parts)) → steps ≡ map (λ j. map (lock_update (length parts) part (outers_by outer) j) (range_with_len 0 (length parts))) (range_with_len 0 taken)

few_first : (parts : List PartData) → All (HasFewOpen 0) (map first_view parts)
few_first parts = All-map (HasFewOpen 0) first_view parts (λ k d lt. first_open (get_or parts k d))

len_map : {A B : Type 0} (f : A → B) (xs : List A) → length (map f xs) ≡ length xs
len_map f [] = refl
len_map f (x ∷ xs) = ap suc (len_map f xs)

pub stands_first : (parts : List PartData) (outer : List (List Entry)) (views : List View) (steps : List (List Update)) → views ≡ map first_view parts → steps ≡ [] → Stands parts outer 0 views steps
unfolding lock_view
stands_first parts outer views steps are none =
    record {
      same = ap length are ∙ len_map first_view parts;
      few = subst (All (HasFewOpen 0)) (sym are) (few_first parts);
      lock = λ part row. are ∙ ap (map first_view) row ∙ map_twice first_view part (range_with_len 0 (length parts));
      made = λ part row. none;
    }

module _ (parts : List PartData) (outer : List (List Entry)) (taken : ℕ) (views : List View) (steps : List (List Update)) (s : Stands parts outer taken views steps) where
  pub are_views : AreViews parts views
  are_views part view pe ve u lt =
      subst (IsViewOf (part u)) (rows_same (lock_view (length parts) part (outers_by outer) taken) view (length parts) u views (s.lock part pe) ve lt) (lock_is_view (length parts) part (outers_by outer) taken u)

  pub room_for : (updates : List Update) → length updates ≡ length parts → length parts ≤ max_units → All HasFewStarts updates → taken < max_steps → All (HasRoomFor updates) views
  room_for updates long units few lt k d within = has_room (get_or views k d) updates taken (s.few k d within) few (omega arith) lt

  -- one step more
  pub stands_more : (updates : List Update) (after : List View) (more : List (List Update)) (entries : List Entry) → entries ≡ entries_at outer (suc (suc taken)) → length updates ≡ length parts → length after ≡ length parts → length parts ≤ max_units
      → All HasFewStarts updates
      → ((part : ℕ → PartData) (view : ℕ → View) → parts ≡ map part (range_with_len 0 (length parts)) → views ≡ map view (range_with_len 0 (length parts)) →
      updates ≡ map (λ u. own_update (part u) (taken + 1) (view u) (outers_to u entries)) (range_with_len 0 (length parts)))
      → ((part : ℕ → PartData) (view : ℕ → View) → parts ≡ map part (range_with_len 0 (length parts)) → views ≡ map view (range_with_len 0 (length parts)) →
      after ≡ map (λ u. absorbed (part u) (view u) updates) (range_with_len 0 (length parts)))
      → more ≡ steps ++ updates ∷ [] → Stands parts outer (taken + 1) after more
  unfolding lock_view
  stands_more updates after more entries coming long same units few make take grow =
      record {
        same = same;
        few = open_more;
        lock = λ part row.
            let view = lock_view (length parts) part (outers_by outer) taken in
            take part view row (s.lock part row)
            ∙ ap (λ (l : List Update). map (λ u. absorbed (part u) (view u) l) (range_with_len 0 (length parts))) (made_here part row)
            ∙ ap (λ (m : ℕ). map (lock_view (length parts) part (outers_by outer) m) (range_with_len 0 (length parts))) next;
        made = λ part row. grow ∙ row_more (λ j. map (lock_update (length parts) part (outers_by outer) j) (range_with_len 0 (length parts))) taken steps updates (s.made part row) (made_here part row);
      }
    where
      next : suc taken ≡ taken + 1
      next = omega arith

      made_here : (part : ℕ → PartData) → parts ≡ map part (range_with_len 0 (length parts)) → updates ≡ map (lock_update (length parts) part (outers_by outer) taken) (range_with_len 0 (length parts))
      made_here part row =
          let view = lock_view (length parts) part (outers_by outer) taken in
          make part view row (s.lock part row)
          ∙ ap₂ (λ (m : ℕ) (es : List Entry). map (λ u. own_update (part u) m (view u) (outers_to u es)) (range_with_len 0 (length parts))) (sym next) coming

      open_at : (k : ℕ) (d : View) → k < length after → (p : PartData) → HasFewOpen (taken + 1) (get_or after k d)
      open_at k d lt p =
          let part = λ (u : ℕ). get_or parts u p in
          let view = λ (u : ℕ). get_or views u d in
          let rows = take part view (list_row parts (length parts) p refl) (list_row views (length parts) d s.same) in
          let within : k < length views = omega (arith, s.same, same) in
          subst (HasFewOpen (taken + 1)) (sym (row_at (λ u. absorbed (part u) (view u) updates) (length parts) k d after rows (omega (arith, same))))
          (absorbed_open (part k) (view k) updates taken (s.few k d within) few (omega arith))

      open_more : All (HasFewOpen (taken + 1)) after
      open_more k d lt = open_at k d lt (item_at parts k (omega (arith, same))).0

-- views that take in a step one after another

below : (i k : ℕ) → i < k → nat_lt i k ≡ true
below i k h = grind (arith, nat_tests)

above : (i k : ℕ) → k ≤ i → nat_lt i k ≡ false
above i k h = grind (arith, nat_tests)

pub none_yet : {A : Type 0} (a b : ℕ → A) (n : ℕ) → map b (range_with_len 0 n) ≡ map (λ u. cond (nat_lt u 0) (a u) (b u)) (range_with_len 0 n)
none_yet {A} a b n = row_agree _ _ n (λ i lt. sym (ap (λ (t : Bool). let x : A = cond t (a i) (b i) in x) (above i 0 (omega arith))))

pub all_done : {A : Type 0} (a b : ℕ → A) (n k : ℕ) → n ≤ k → map (λ u. cond (nat_lt u k) (a u) (b u)) (range_with_len 0 n) ≡ map a (range_with_len 0 n)
all_done {A} a b n k le = row_agree _ _ n (λ i lt. ap (λ (t : Bool). let x : A = cond t (a i) (b i) in x) (below i k (omega arith)))

pub one_more : {A : Type 0} (a b : ℕ → A) (n k : ℕ) (x : A) (xs : List A) → xs ≡ map (λ u. cond (nat_lt u k) (a u) (b u)) (range_with_len 0 n) → k < n → x ≡ a k
    → set xs k x ≡ map (λ u. cond (nat_lt u (k + 1)) (a u) (b u)) (range_with_len 0 n)
one_more {A} a b n k x xs row lt is = row_set (λ u. cond (nat_lt u k) (a u) (b u)) n k x xs row lt ∙ row_agree _ _ n (λ i within. at i (i == k) refl)
  where
    at : (i : ℕ) (t : Bool) → (i == k) ≡ t → cond (i == k) x (cond (nat_lt i k) (a i) (b i)) ≡ cond (nat_lt i (k + 1)) (a i) (b i)
    at i true e =
        let same : i ≡ k = eqb-true i k e in
        ap (λ (t : Bool). cond t x (cond (nat_lt i k) (a i) (b i))) e ∙ is ∙ ap a (sym same) ∙ sym (ap (λ (t : Bool). cond t (a i) (b i)) (below i (k + 1) (omega arith)))
    at i false e =
        ap (λ (t : Bool). cond t x (cond (nat_lt i k) (a i) (b i))) e ∙ ap (λ (t : Bool). cond t (a i) (b i)) (tests i e)
      where
        tests : (i : ℕ) → (i == k) ≡ false → nat_lt i k ≡ nat_lt i (k + 1)
        tests i e = grind (arith, nat_tests)
