-- What is at hand of all units, and what each sends.
use Rattle.std.proofs.Common.{◌≡◌, ℕ, zero, suc, ◌+◌, ◌-◌, ◌<◌, ◌≤◌, ◌==◌, ◌⊎◌, ◌↔◌, not, nat_le, cond, Bool, true, false, List, [], ◌∷◌, map, length, get_or, max, Option, Some, None, slice_get, All, inl, inr, refl, sym, ap, ap₂, ◌∙◌, subst, arith, le-leb}
use Rattle.std.specs.Borrow.{Bor}
use Rattle.std.specs.List.{range_with_len, AllByRecursion}
use Rattle.std.proofs.lemmas.Bool.{leb-true}
use Rattle.std.proofs.lemmas.List.{get_or-map, length-map}
use Rattle.std.proofs.lemmas.List.Elements.{All-from_recursion}
use Rattle.std.proofs.lemmas.List.FromFn.{length-map-range_with_len}
use Rattle.std.proofs.lemmas.Option.{slice_get_past}
use Rattle.wf_model.specs.declared.update.Update.{Update}
use Rattle.wf_model.specs.declared.ids.UnitId.{UnitId}
use Rattle.wf_model.specs.Ids.{unit_id}
use Rattle.wf_model.specs.declared.chart.Chart.{Chart}
use Rattle.wf_model.proofs.Bools.{Mem, not_true}
use Rattle.wf_model.proofs.Rows.{row_at, row_get}
use Rattle.wf_semantics.proofs.Children.{lt_or_ge}
use Rattle.wf_lockstep.proofs.Numbered.{numbers_mem}
use Rattle.wf_parts.specs.declared.data.PartData.{PartData}
use Rattle.wf_parts.specs.Parts.{part_of}
use Rattle.wf_views.specs.Relevant.{relevant}
use Rattle.wf_histories.specs.Histories.{History, TurnDone, taken, inputs_at, local_update}
use Rattle.wf_histories.specs.Agreement.{Agree, lean}
use Rattle.wf_steps.specs.Growing.{IsMade}
use Rattle.wf_steps.specs.Room.{Kept}
use Rattle.wf_agreement.specs.Own.{updates_to}
use Rattle.wf_agreement.specs.declared.agreement.Agreement.{Agreement}
use Rattle.wf_agreement.specs.declared.agreement.Agreement.TheVariants as agreement
use Rattle.wf_agreement.specs.Differing.{AreOf, AreMade, Input, read_by, inputs_of, sent, most_taken, first_difference, told}
use Rattle.wf_agreement.specs.Senders.{HasSender, AreSenders}
use Rattle.wf_agreement.proofs.Agreed.{are_from, none_past, none_where_agreed}

-- THE UNIT AT A PLACE

pub history_at : (histories : List (Bor Kept)) (h : ℕ → History) (n u : ℕ) (kept : Bor Kept) → map (λ lent. lent.now.past) histories ≡ map h (range_with_len 0 n) → u < n → u < length histories → kept ≡ get_or histories u kept → kept.now.past ≡ h u
history_at histories h n u kept are lt within is =
    ap (λ (k : Bor Kept). k.now.past) is
    ∙ sym (get_or-map (λ (k : Bor Kept). k.now.past) histories u kept (h u) within)
    ∙ row_at h n u (h u) (map (λ k. k.now.past) histories) are lt

pub part_at : (parts : List (Bor PartData)) (part : ℕ → PartData) (n u : ℕ) (lent : Bor PartData) → map (λ l. l.now) parts ≡ map part (range_with_len 0 n) → u < n → u < length parts → lent ≡ get_or parts u lent → lent.now ≡ part u
part_at parts part n u lent are lt within is =
    ap (λ (l : Bor PartData). l.now) is
    ∙ sym (get_or-map (λ (l : Bor PartData). l.now) parts u lent (part u) within)
    ∙ row_at part n u (part u) (map (λ l. l.now) parts) are lt

pub as_many : (parts : List (Bor PartData)) (histories : List (Bor Kept)) (part : ℕ → PartData) (h : ℕ → History) → AreOf parts histories part h → length histories ≡ length parts
as_many parts histories part h of =
    sym (length-map histories (λ (k : Bor Kept). k.now.past)) ∙ ap length of.pasts_are ∙ length-map-range_with_len h 0 (length parts)

module _ (parts : List (Bor PartData)) (histories : List (Bor Kept)) (part : ℕ → PartData) (h : ℕ → History) (of : AreOf parts histories part h) (u : ℕ) (lt : u < length parts) where
  pub own_part : (lent : Bor PartData) → lent ≡ get_or parts u lent → lent.now ≡ part u
  own_part lent is = part_at parts part (length parts) u lent of.parts_are lt lt is

  pub own_past : (kept : Bor Kept) → kept ≡ get_or histories u kept → kept.now.past ≡ h u
  own_past kept is = history_at histories h (length parts) u kept of.pasts_are lt (omega (arith, lt, as_many parts histories part h of)) is

-- parts and histories of one chart, whichever is meant
pub made_by : (parts : List (Bor PartData)) (histories : List (Bor Kept)) (m : AreMade parts histories) (chart : Chart) (h : ℕ → History) → AreOf parts histories (part_of chart) h → (u : ℕ) → u < length parts → IsMade (part_of chart u) (h u)
made_by parts histories m chart h of u lt =
    let same_part : part_of m.chart u ≡ part_of chart u = sym (row_at (part_of m.chart) (length parts) u (part_of chart u) (map (λ l. l.now) parts) m.of.parts_are lt) ∙ row_at (part_of chart) (length parts) u (part_of chart u) (map (λ l. l.now) parts) of.parts_are lt in
    let same_past : m.past u ≡ h u = sym (row_at m.past (length parts) u (h u) (map (λ k. k.now.past) histories) m.of.pasts_are lt) ∙ row_at h (length parts) u (h u) (map (λ k. k.now.past) histories) of.pasts_are lt in
    subst (λ (p : PartData). IsMade p (h u)) same_part (subst (IsMade (part_of m.chart u)) same_past (m.made u lt))

-- ITS HISTORY

unit_of : (chart : Chart) (u : ℕ) → (part_of chart u).unit ≡ unit_id u
unfolding part_of
unit_of chart u = refl

all_senders : (n j : ℕ) (xs : List Update) → AllByRecursion (λ x. x.step ≡ j + 1) xs → ((v : ℕ) → Mem v (map (λ x. x.from.0) xs) → v < n) → AllByRecursion (HasSender n) xs
all_senders n j [] steps below = tt
all_senders n j (x ∷ xs) steps below = ((below x.from.0 (inl refl), omega (arith, steps.0)), all_senders n j xs steps.1 (λ v m. below v (inr m)))

module _ (parts : List (Bor PartData)) (histories : List (Bor Kept)) (m : AreMade parts histories) (u : ℕ) (lt : u < length parts) (lent : Bor PartData) (kept : Bor Kept) (lent_is : lent ≡ get_or parts u lent) (kept_is : kept ≡ get_or histories u kept) where
  past_is : kept.now.past ≡ m.past u
  past_is = own_past parts histories (part_of m.chart) m.past m.of u lt kept kept_is

  part_is : lent.now ≡ part_of m.chart u
  part_is = own_part parts histories (part_of m.chart) m.past m.of u lt lent lent_is

  pub is_made : IsMade lent.now kept.now.past
  is_made = subst (λ (q : PartData). IsMade q kept.now.past) (sym part_is) (subst (IsMade (part_of m.chart u)) (sym past_is) (m.made u lt))

  reader_is : lent.now.unit ≡ unit_id u
  reader_is = ap (λ (q : PartData). q.unit) part_is ∙ unit_of m.chart u

  pub senders_are : (j : ℕ) (xs : List Update) → xs ≡ inputs_at kept.now.past j → All (HasSender (length parts)) xs
  senders_are j xs xs_are =
      All-from_recursion (HasSender (length parts)) xs (subst (AllByRecursion (HasSender (length parts))) (sym (xs_are ∙ ap (λ (q : History). inputs_at q j) past_is)) (go (lt_or_ge j (taken (m.past u)))))
    where
      go : (j < taken (m.past u)) ⊎ (taken (m.past u) ≤ j) → AllByRecursion (HasSender (length parts)) (inputs_at (m.past u) j)
      go (inl l) =
          let from = are_from m.chart (m.past u) u j (m.made u lt) l in
          all_senders (length parts) j (inputs_at (m.past u) j) from.steps (λ v q.
          let below = (numbers_mem (λ w. not (w == u)) (length m.chart.units) v (subst (Mem v) from.senders q)).0 in omega (arith, below, m.units))
      go (inr g) = subst (AllByRecursion (HasSender (length parts))) (sym (none_past (m.past u) j g)) tt

  pub inputs_are : (part : ℕ → PartData) (h : ℕ → History) (j : ℕ) (r : UnitId) (xs : List Update) → AreOf parts histories part h → r ≡ lent.now.unit → xs ≡ inputs_at kept.now.past j → map (read_by r.0) xs ≡ inputs_of h j u
  inputs_are part h j r xs of r_is xs_are =
      ap₂ (λ (k : ℕ) (l : List Update). map (read_by k) l) (ap (λ (x : UnitId). x.0) (r_is ∙ reader_is)) (xs_are ∙ ap (λ (q : History). inputs_at q j) (own_past parts histories part h of u lt kept kept_is))

-- WHAT A SENDER SENDS

-- the own updates of the unit at a place
pub updates_at : (n : ℕ) (parts : List (Bor PartData)) (units : List (List Update)) (part : ℕ → PartData) (h : ℕ → History) → AreSenders n parts units part h → (u : ℕ) → u < n → (us : List Update) → us ≡ get_or units u us → us ≡ updates_to (part u) (h u) (taken (h u) + 1)
updates_at n parts units part h are u lt us is = is ∙ row_at (λ v. updates_to (part v) (h v) (taken (h v) + 1)) n u us units are.updates_are lt

shifted : {A : Type 0} (f : ℕ → A) (a n : ℕ) → map f (range_with_len (a + 1) n) ≡ map (λ j. f (suc j)) (range_with_len a n)
shifted f a zero = refl
shifted {A} f a (suc n) = ap₂ (λ (x : A) (xs : List A). x ∷ xs) (ap f (let e : a + 1 ≡ suc a = omega arith in e)) (shifted f (a + 1) n)

module _ (p : PartData) (h : History) (n step : ℕ) (some : 1 ≤ step) where
  made_there : step ≤ n → slice_get (updates_to p h n) (step - 1) ≡ Some (local_update p h step)
  made_there le =
      row_get (λ j. local_update p h (suc j)) n (step - 1) (updates_to p h n) (shifted (local_update p h) 0 n) (omega (arith, le, some))
      ∙ ap (λ (k : ℕ). Some (local_update p h k)) (let e : suc (step - 1) ≡ step = omega (arith, some) in e)

  none_there : n < step → slice_get (updates_to p h n) (step - 1) ≡ None
  none_there lt = slice_get_past (updates_to p h n) (step - 1) (omega (arith, lt, length-map-range_with_len (local_update p h) 1 n))

module _ (part : ℕ → PartData) (h : ℕ → History) (u : ℕ) (x : Update) (some : 1 ≤ x.step) where
  abbrev v : ℕ
  v = x.from.0

  abbrev made_of : Update
  made_of = relevant (part x.from.0).peers (local_update (part x.from.0) (h x.from.0) x.step) u

  sent_if : (b : Bool) → nat_le x.step (taken (h x.from.0) + 1) ≡ b → sent part h (read_by u x) ≡ cond b (Some made_of) None
  unfolding sent
  sent_if b e = ap (λ (t : Bool). cond t (Some made_of) None) e

  pub sends_it : (update cut : Update) → Some update ≡ slice_get (updates_to (part x.from.0) (h x.from.0) (taken (h x.from.0) + 1)) (x.step - 1) → cut ≡ relevant (part x.from.0).peers update u → Some cut ≡ sent part h (read_by u x)
  sends_it update cut got cut_is = elim (lt_or_ge (taken (h v) + 1) x.step) [
    | inl l ↦ absurd (no (got ∙ none_there (part v) (h v) (taken (h v) + 1) x.step some l))
    | inr g ↦
        let same : update ≡ local_update (part v) (h v) x.step = one (got ∙ made_there (part v) (h v) (taken (h v) + 1) x.step some g) in
        ap (λ (c : Update). Some c) (cut_is ∙ ap (λ (y : Update). relevant (part v).peers y u) same) ∙ sym (sent_if true (le-leb x.step (taken (h v) + 1) g))
  ]
    where
      no : {y : Update} → ◌≡◌ {A = Option Update} (Some y) None → ⊥
      no e = cc

      one : {y z : Update} → ◌≡◌ {A = Option Update} (Some y) (Some z) → y ≡ z
      one e = cc

  pub sends_none : None ≡ slice_get (updates_to (part x.from.0) (h x.from.0) (taken (h x.from.0) + 1)) (x.step - 1) → None ≡ sent part h (read_by u x)
  sends_none got = elim (lt_or_ge (taken (h v) + 1) x.step) [
    | inl l ↦ sym (sent_if false (not_true (nat_le x.step (taken (h v) + 1)) (λ e. let le = leb-true x.step (taken (h v) + 1) e in omega (arith, le, l))))
    | inr g ↦ absurd (no (got ∙ made_there (part v) (h v) (taken (h v) + 1) x.step some g))
  ]
    where
      no : {y : Update} → ◌≡◌ {A = Option Update} None (Some y) → ⊥
      no e = cc

-- THE MOST STEPS

pub turns_taken : (kept h : History) (turns : List TurnDone) → turns ≡ kept.turns → kept ≡ h → length turns ≡ taken h
turns_taken kept h turns same is = ap length (same ∙ ap (λ (x : History). x.turns) is) ∙ sym (length-map h.turns (λ (turn : TurnDone). turn.sealed))

pub most_more : (h : ℕ → History) (n most k : ℕ) → most ≡ most_taken n h → k ≡ taken (h n) → max most k ≡ most_taken (n + 1) h
most_more h n most k most_is k_is = ap₂ (λ (a b : ℕ). max a b) most_is k_is ∙ ap (λ (m : ℕ). most_taken m h) (let e : suc n ≡ n + 1 = omega arith in e)

-- THE ANSWER

told_iff : (part : ℕ → PartData) (h : ℕ → History) (o : Option Input) (found : Agreement) → found ≡ told part h o → (found ≡ agreement.Agree) ↔ (o ≡ None)
told_iff part h None found is = (λ e. refl, λ e. is)
told_iff part h (Some x) found is = (λ e. absurd (no (sym is ∙ e)), λ e. absurd (none e))
  where
    no : told part h (Some x) ≡ agreement.Agree → ⊥
    no q = cc

    none : ◌≡◌ {A = Option Input} (Some x) None → ⊥
    none q = cc

pub agreed_iff : (parts : List (Bor PartData)) (histories : List (Bor Kept)) (m : AreMade parts histories) (chart : Chart) (h : ℕ → History) → AreOf parts histories (part_of chart) h → length parts ≡ length chart.units →
    (found : Agreement) → found ≡ told (part_of chart) h (first_difference (length parts) (part_of chart) h) → (found ≡ agreement.Agree) ↔ Agree (lean chart) (length chart.units) (part_of chart) h
agreed_iff parts histories m chart h of units found is =
    let law = none_where_agreed chart h (λ u lt. made_by parts histories m chart h of u (omega (arith, lt, units))) in
    let one = told_iff (part_of chart) h (first_difference (length chart.units) (part_of chart) h) found (is ∙ ap (λ (n : ℕ). told (part_of chart) h (first_difference n (part_of chart) h)) units) in
    (λ e. law.0 (one.0 e), λ a. one.1 (law.1 a))

-- the most steps, by the histories as they are lent
pub most_of : (parts : List (Bor PartData)) (histories : List (Bor Kept)) (part : ℕ → PartData) (h : ℕ → History) (most : ℕ) → AreOf parts histories part h →
    ((g : ℕ → History) → map (λ lent. lent.now.past) histories ≡ map g (range_with_len 0 (length histories)) → most ≡ most_taken (length histories) g) → most ≡ most_taken (length parts) h
most_of parts histories part h most of is =
    let many = as_many parts histories part h of in
    is h (of.pasts_are ∙ ap (λ (n : ℕ). map h (range_with_len 0 n)) (sym many)) ∙ ap (λ (n : ℕ). most_taken n h) many
