-- No difference is found exactly where the histories agree.
use Rattle.std.proofs.Common.{◌≡◌, ℕ, zero, suc, ◌+◌, ◌<◌, ◌≤◌, ◌==◌, ◌&&◌, not, nat_le, cond, Bool, true, false, List, [], ◌∷◌, map, length, Some, None, inl, inr, refl, sym, ap, ap₂, ◌∙◌, subst, arith, eqb-true, true≢false, le-leb}
use Rattle.std.specs.Option.{option_map_or}
use Rattle.std.specs.List.{list_all, range_with_len, AllByRecursion}
use Rattle.std.proofs.lemmas.Bool.{leb-true}
use Rattle.std.proofs.lemmas.List.{get_or_past, length-map}
use Rattle.std.proofs.lemmas.List.Folds.{list_all-map}
use Rattle.wf_model.specs.declared.chart.Chart.{Chart}
use Rattle.wf_model.specs.declared.update.Update.{Update}
use Rattle.wf_model.proofs.Bools.{Mem, and_both, and_true}
use Rattle.wf_semantics.proofs.Children.{lt_or_ge}
use Rattle.wf_lockstep.proofs.Numbered.{mem_numbers, numbers_mem}
use Rattle.wf_parts.specs.declared.data.Known.{Known}
use Rattle.wf_parts.specs.declared.data.PartData.{PartData}
use Rattle.wf_parts.specs.Peers.{known_of, peers_of}
use Rattle.wf_parts.specs.Parts.{part_of}
use Rattle.wf_views.specs.OwnSteps.{part_step}
use Rattle.wf_views.specs.Relevant.{cut_update, relevant}
use Rattle.wf_histories.specs.Histories.{History, TurnDone, taken, inputs_at, local_update}
use Rattle.wf_histories.specs.Agreement.{Agree, lean, peers}
use Rattle.wf_steps.specs.Fitting.{is_input, are_inputs_of, suits}
use Rattle.wf_steps.specs.Growing.{IsMade}
use Rattle.wf_steps.proofs.Fits.{all_flat}
use Rattle.wf_steps.proofs.Made.{inputs_taken}
use Rattle.wf_agreement.specs.Same.{same_update}
use Rattle.wf_agreement.specs.Differing.{Input, read_by, inputs_of, inputs_in, most_taken, inputs, sent, is_sent, first_difference}
use Rattle.wf_agreement.specs.Laws.{NoneWhereAgreed}
use Rattle.wf_agreement.proofs.Sameness.{update_Decides}
use Rattle.wf_agreement.proofs.Finding.{none_all, all_none}

-- LISTS

all_range : (p : ℕ → Bool) (a n i : ℕ) → list_all p (range_with_len a n) ≡ true → a ≤ i → i < a + n → p i ≡ true
all_range p a zero i h lo hi = absurd (omega (arith, lo, hi))
all_range p a (suc n) i h lo hi =
    let both = and_both (p a) (list_all p (range_with_len (a + 1) n)) h in
    elim (lt_or_ge a i) [
      | inl l ↦ all_range p (a + 1) n i both.1 (omega (arith, l)) (omega (arith, hi))
      | inr g ↦ ap p (let e : i ≡ a = omega (arith, g, lo) in e) ∙ both.0
    ]

range_all : (p : ℕ → Bool) (a n : ℕ) → ((i : ℕ) → a ≤ i → i < a + n → p i ≡ true) → list_all p (range_with_len a n) ≡ true
range_all p a zero h = refl
range_all p a (suc n) h = and_true (p a) (list_all p (range_with_len (a + 1) n)) (h a (omega arith) (omega arith)) (range_all p (a + 1) n (λ i lo hi. h i (omega (arith, lo)) (omega (arith, hi))))

all_mapped : {A : Type 0} (p : A → Bool) (f : ℕ → A) (xs : List ℕ) → ((x : ℕ) → Mem x xs → p (f x) ≡ true) → list_all p (map f xs) ≡ true
all_mapped p f [] h = refl
all_mapped p f (x ∷ xs) h = and_true (p (f x)) (list_all p (map f xs)) (h x (inl refl)) (all_mapped p f xs (λ y m. h y (inr m)))

most_above : (h : ℕ → History) (n u : ℕ) → u < n → taken (h u) ≤ most_taken n h
most_above h zero u lt = absurd (omega (arith, lt))
most_above h (suc n) u lt = elim (lt_or_ge u n) [
  | inl l ↦ omega (arith, most_above h n u l)
  | inr g ↦ let e : taken (h u) ≡ taken (h n) = ap (λ (v : ℕ). taken (h v)) (let q : u ≡ n = omega (arith, g, lt) in q) in omega (arith, e)
]

-- past the Turns nothing was taken in
pub none_past : (h : History) (j : ℕ) → taken h ≤ j → inputs_at h j ≡ []
none_past h j le =
    get_or_past (map (λ turn. turn.inputs) h.turns) j [] (omega (arith, le, length-map h.turns (λ (turn : TurnDone). turn.inputs), length-map h.turns (λ (turn : TurnDone). turn.sealed)))

-- all pass, exactly where those of each Turn do
module _ (p : Input → Bool) (n : ℕ) (h : ℕ → History) where
  each_turn : list_all p (inputs n h) ≡ true → (u j : ℕ) → u < n → j < taken (h u) → list_all (λ update. p (read_by u update)) (inputs_at (h u) j) ≡ true
  each_turn all u j lt l =
      let steps = sym (all_flat p (inputs_in n h) (range_with_len 0 (most_taken n h))) ∙ all in
      let step = all_range (λ k. list_all p (inputs_in n h k)) 0 (most_taken n h) j steps (omega arith) (omega (arith, l, most_above h n u lt)) in
      let readers = sym (all_flat p (inputs_of h j) (range_with_len 0 n)) ∙ step in
      sym (list_all-map p (read_by u) (inputs_at (h u) j)) ∙ all_range (λ v. list_all p (inputs_of h j v)) 0 n u readers (omega arith) (omega (arith, lt))

  all_turns : ((u j : ℕ) → u < n → j < taken (h u) → list_all (λ update. p (read_by u update)) (inputs_at (h u) j) ≡ true) → list_all p (inputs n h) ≡ true
  all_turns each =
      all_flat p (inputs_in n h) (range_with_len 0 (most_taken n h))
      ∙ range_all (λ k. list_all p (inputs_in n h k)) 0 (most_taken n h) (λ j lo hi.
      all_flat p (inputs_of h j) (range_with_len 0 n)
      ∙ range_all (λ v. list_all p (inputs_of h j v)) 0 n (λ u lo hi. list_all-map p (read_by u) (inputs_at (h u) j) ∙ of_turn u j (omega (arith, hi))))
    where
      of_turn : (u j : ℕ) → u < n → list_all (λ update. p (read_by u update)) (inputs_at (h u) j) ≡ true
      of_turn u j lt = elim (lt_or_ge j (taken (h u))) [
        | inl l ↦ each u j lt l
        | inr g ↦ ap (list_all (λ update. p (read_by u update))) (none_past (h u) j g)
      ]

-- ONE INPUT

module _ (part : ℕ → PartData) (h : ℕ → History) (u : ℕ) (x : Update) where
  abbrev made_of : Update
  made_of = relevant (part x.from.0).peers (local_update (part x.from.0) (h x.from.0) x.step) u

  abbrev passes : Bool → Bool
  passes b = option_map_or (same_update x) (cond b (Some made_of) None) false

  pub sent_is : is_sent part h (read_by u x) ≡ true → (x.step ≤ taken (h x.from.0) + 1) × (x ≡ made_of)
  unfolding sent
  sent_is e = go (nat_le x.step (taken (h x.from.0) + 1)) refl e
    where
      go : (b : Bool) → nat_le x.step (taken (h x.from.0) + 1) ≡ b → passes b ≡ true → (x.step ≤ taken (h x.from.0) + 1) × (x ≡ made_of)
      go true t q = (leb-true x.step (taken (h x.from.0) + 1) t, (update_Decides x made_of).0 q)
      go false t q = absurd (true≢false (sym q))

  pub is_sent_if : x.step ≤ taken (h x.from.0) + 1 → x ≡ made_of → is_sent part h (read_by u x) ≡ true
  unfolding sent
  is_sent_if le same = ap passes (le-leb x.step (taken (h x.from.0) + 1) le) ∙ (update_Decides x made_of).1 same

-- THE INPUTS OF A TURN

-- each tells its sender and its step
told_by : (part : PartData) (step : ℕ) (ps : List Known) (xs : List Update) → are_inputs_of part step ps xs ≡ true → (map (λ x. x.from.0) xs ≡ map (λ p. p.unit.0) ps) × AllByRecursion (λ x. x.step ≡ step) xs
told_by part step [] [] e = (refl, tt)
told_by part step [] (x ∷ xs) e = absurd (true≢false (sym e))
told_by part step (p ∷ ps) [] e = absurd (true≢false (sym e))
told_by part step (p ∷ ps) (x ∷ xs) e =
    let both = and_both (is_input part step p x) (are_inputs_of part step ps xs) e in
    let from = and_both (x.from.0 == p.unit.0) ((x.step == step) && suits part x) both.0 in
    let here = and_both (x.step == step) (suits part x) from.1 in
    let rest = told_by part step ps xs both.1 in
    (ap₂ (λ (n : ℕ) (l : List ℕ). n ∷ l) (eqb-true x.from.0 p.unit.0 from.0) rest.0, (eqb-true x.step step here.0, rest.1))

numbers_of : (chart : Chart) (u : ℕ) (vs : List ℕ) → map (λ (p : Known). p.unit.0) (map (known_of chart u) vs) ≡ vs
numbers_of chart u [] = refl
numbers_of chart u (v ∷ vs) = ap (λ (l : List ℕ). v ∷ l) (numbers_of chart u vs)

peers_are : (chart : Chart) (u : ℕ) → map (λ (p : Known). p.unit.0) (part_of chart u).peers ≡ peers (length chart.units) u
unfolding part_of peers_of
peers_are chart u = numbers_of chart u (peers (length chart.units) u)

-- they are of the step, one of each other unit
pub record AreFrom (chart : Chart) (u j : ℕ) (xs : List Update) : Type 0 where
  pub senders : map (λ x. x.from.0) xs ≡ peers (length chart.units) u
  pub steps : AllByRecursion (λ x. x.step ≡ j + 1) xs

pub are_from : (chart : Chart) (h : History) (u j : ℕ) → IsMade (part_of chart u) h → j < taken h → AreFrom chart u j (inputs_at h j)
are_from chart h u j made l =
    let part = part_of chart u in
    let told = told_by part (j + 1) part.peers (inputs_at h j) (inputs_taken part made j l).suited in
    record { senders = told.0 ∙ peers_are chart u; steps = told.1 }

module _ (chart : Chart) (h : ℕ → History) (u j : ℕ) where
  abbrev of_sender : ℕ → Update
  of_sender v = lean chart v u (local_update (part_of chart v) (h v) (suc j))

  abbrev passes_here : Update → Bool
  passes_here x = is_sent (part_of chart) h (read_by u x)

  lean_is : (v k : ℕ) → relevant (part_of chart v).peers (local_update (part_of chart v) (h v) k) u ≡ lean chart v u (local_update (part_of chart v) (h v) k)
  unfolding part_of
  lean_is v k = refl

  all_made : (xs : List Update) → AllByRecursion (λ x. x.step ≡ j + 1) xs → list_all passes_here xs ≡ true → xs ≡ map of_sender (map (λ x. x.from.0) xs)
  all_made [] steps e = refl
  all_made (x ∷ xs) steps e =
      let both = and_both (passes_here x) (list_all passes_here xs) e in
      let is = (sent_is (part_of chart) h u x both.0).1 in
      let step : x.step ≡ suc j = steps.0 ∙ (let q : j + 1 ≡ suc j = omega arith in q) in
      ap₂ (λ (y : Update) (l : List Update). y ∷ l)
      (is ∙ lean_is x.from.0 x.step ∙ ap (λ (k : ℕ). lean chart x.from.0 u (local_update (part_of chart x.from.0) (h x.from.0) k)) step)
      (all_made xs steps.1 both.1)

  has_made : (xs : List Update) (v : ℕ) → AllByRecursion (λ x. x.step ≡ j + 1) xs → list_all passes_here xs ≡ true → Mem v (map (λ x. x.from.0) xs) → suc j ≤ taken (h v) + 1
  has_made [] v steps e m = absurd m
  has_made (x ∷ xs) v steps e m =
      let both = and_both (passes_here x) (list_all passes_here xs) e in
      let le = (sent_is (part_of chart) h u x both.0).0 in
      elim m [
        | inl q ↦ let here : taken (h x.from.0) ≡ taken (h v) = ap (λ (w : ℕ). taken (h w)) q in omega (arith, le, here, steps.0)
        | inr r ↦ has_made xs v steps.1 both.1 r
      ]

  -- what a sender sends is told by it, of the step
  from_is : (v : ℕ) → (of_sender v).from.0 ≡ v
  unfolding cut_update part_step part_of
  from_is v = refl

  step_is : (v : ℕ) → (of_sender v).step ≡ suc j
  unfolding cut_update part_step
  step_is v = refl

  sends : (v : ℕ) → suc j ≤ taken (h v) + 1 → passes_here (of_sender v) ≡ true
  sends v le =
      is_sent_if (part_of chart) h u (of_sender v)
      (omega (arith, le, step_is v, ap (λ (w : ℕ). taken (h w)) (from_is v)))
      (sym (lean_is (of_sender v).from.0 (of_sender v).step ∙ ap₂ (λ (w k : ℕ). lean chart w u (local_update (part_of chart w) (h w) k)) (from_is v) (step_is v)))

-- ALL OF THEM

module _ (chart : Chart) (h : ℕ → History) where
  abbrev n : ℕ
  n = length chart.units

  agreed : ((u : ℕ) → u < n → IsMade (part_of chart u) (h u)) → list_all (is_sent (part_of chart) h) (inputs n h) ≡ true → Agree (lean chart) n (part_of chart) h
  agreed made all = record { kept = kept; made = λ u v lu lv. near u v lu lv (taken (h u)) refl }
    where
      passed : (u j : ℕ) → u < n → j < taken (h u) → list_all (passes_here chart h u j) (inputs_at (h u) j) ≡ true
      passed u j lt l = each_turn (is_sent (part_of chart) h) n h all u j lt l

      kept : (u j : ℕ) → u < n → j < taken (h u) → inputs_at (h u) j ≡ map (of_sender chart h u j) (peers n u)
      kept u j lt l =
          let from = are_from chart (h u) u j (made u lt) l in
          all_made chart h u j (inputs_at (h u) j) from.steps (passed u j lt l) ∙ ap (map (of_sender chart h u j)) from.senders

      near : (u v : ℕ) → u < n → v < n → (k : ℕ) → taken (h u) ≡ k → taken (h u) ≤ taken (h v) + 1
      near u v lu lv zero e = omega (arith, e)
      near u v lu lv (suc j) e = other (v == u) refl
        where
          other : (b : Bool) → (v == u) ≡ b → taken (h u) ≤ taken (h v) + 1
          other true q = let same : taken (h v) ≡ taken (h u) = ap (λ (w : ℕ). taken (h w)) (eqb-true v u q) in omega (arith, same)
          other false q =
              let l : j < taken (h u) = omega (arith, e) in
              let from = are_from chart (h u) u j (made u lu) l in
              let there : Mem v (peers n u) = mem_numbers (λ w. not (w == u)) n v lv (ap not q) in
              let in_them : Mem v (map (λ x. x.from.0) (inputs_at (h u) j)) = subst (Mem v) (sym from.senders) there in
              let reached = has_made chart h u j (inputs_at (h u) j) v from.steps (passed u j lu l) in_them in
              omega (arith, e, reached)

  all_sent : Agree (lean chart) n (part_of chart) h → list_all (is_sent (part_of chart) h) (inputs n h) ≡ true
  all_sent agree =
      all_turns (is_sent (part_of chart) h) n h (λ u j lt l.
      ap (list_all (passes_here chart h u j)) (agree.kept u j lt l)
      ∙ all_mapped (passes_here chart h u j) (of_sender chart h u j) (peers n u) (λ v m.
      let near = agree.made u v lt (numbers_mem (λ w. not (w == u)) n v m).0 in sends chart h u j v (omega (arith, near, l))))

pub none_where_agreed : NoneWhereAgreed
unfolding first_difference
none_where_agreed chart h made = (
  λ e. agreed chart h made (none_all (is_sent (part_of chart) h) (inputs (length chart.units) h) e),
  λ a. all_none (is_sent (part_of chart) h) (inputs (length chart.units) h) (all_sent chart h a),
)
