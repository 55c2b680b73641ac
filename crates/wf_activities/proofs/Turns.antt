-- What may come completes open items one after another, and how the counts follow.
use Rattle.std.proofs.Common.{◌≡◌, ℕ, zero, suc, ◌+◌, ◌==◌, ◌&&◌, ◌||◌, not, cond, Bool, true, false, List, [], ◌∷◌, ◌++◌, Option, Some, None, Result, Ok, Err, refl, sym, ◌∙◌, ap, subst, arith, eqb-true, true≢false}
use Rattle.std.specs.List.{slice_get}
use Rattle.std.specs.Result.{is_ok}
use Rattle.wf_model.specs.declared.ids.ActId.{ActId}
use Rattle.wf_model.specs.declared.outer.Outer.{Outer}
use Rattle.wf_model.specs.declared.outer.Outer.TheVariants.{Happen, Complete}
use Rattle.wf_model.specs.declared.outer.OuterFault.{OuterFault}
use Rattle.wf_model.specs.declared.outer.OuterFault.TheVariants.{WrongUnit, NoItem, AlreadyDone, WrongOutput}
use Rattle.wf_model.specs.declared.outer.Output.{Output}
use Rattle.wf_model.specs.declared.outer.Entry.{Entry}
use Rattle.wf_model.specs.declared.chart.Chart.{Chart}
use Rattle.wf_semantics.specs.Items.{Item, Completion, one, item_at, open_count, close, close_all, done_count}
use Rattle.wf_semantics.specs.Run.{completions_of, completions_at}
use Rattle.wf_semantics.specs.Admission.{is_of, is_closed, is_act_at, completes, is_pending, are_outputs_of, may_be_admitted, may_come_after, may_come}
use Rattle.wf_model.proofs.Bools.{and_both}
use Rattle.wf_activities.specs.UnitItems.{is_open}
use Rattle.wf_activities.specs.Completed.{InTurn, CompleteInTurn}
use Rattle.wf_activities.proofs.Counting.{count_close}
use Rattle.wf_activities.proofs.LawsHold.{closes_one}
use Rattle.wf_activities.proofs.Done.{at_one, completions_append, same_flip}
use Rattle.wf_activities.proofs.Closing.{close_all_append}

open_bit : (x : Item) → not x.closed ≡ true → x.closed ≡ false
open_bit x h = go x.closed h
  where
    go : (b : Bool) → not b ≡ true → b ≡ false
    go false k = refl
    go true k = absurd (true≢false (sym k))

-- one completion of an open item takes one from the count of its activity
close_count : (a n : ℕ) (b : ActId) (items : List Item) → is_open (item_at items n) ≡ true → is_of b.0 (item_at items n) ≡ true → open_count a (close n items) + one (b.0 == a) ≡ open_count a items
close_count a zero b items h k = absurd (true≢false (sym h))
close_count a (suc n) b items h k = go (slice_get items n) refl h k
  where
    go : (o : Option Item) → slice_get items n ≡ o → is_open o ≡ true → is_of b.0 o ≡ true → open_count a (close (suc n) items) + one (b.0 == a) ≡ open_count a items
    go None e h k = absurd (true≢false (sym h))
    go (Some x) e h k = ap (λ (m : ℕ). open_count a (close (suc n) items) + one (m == a)) (sym (eqb-true x.act.0 b.0 k)) ∙ count_close a items n x e (open_bit x h)

-- completions one after another take from the count as many as they are
pub turn_counts : (a : ℕ) (cs : List Completion) (items : List Item) → InTurn cs items → open_count a (close_all cs items) + done_count a cs ≡ open_count a items
turn_counts a [] items h = omega arith
turn_counts a (c ∷ cs) items h = omega (arith, close_count a c.item c.act items h.0 h.1, turn_counts a cs (close c.item items) h.2)

or_none : (p q : Bool) → (p || q) ≡ false → (p ≡ false) × (q ≡ false)
or_none true q h = absurd (true≢false h)
or_none false q h = (refl, h)

-- an item that none of these entries completes stays as it is
untouched : (u n : ℕ) (ps : List Entry) (items : List Item) → is_pending ps u n ≡ false → item_at (close_all (completions_at u ps) items) n ≡ item_at items n
untouched u n [] items h = refl
untouched u n (p ∷ ps) items h =
    let both = or_none ((p.unit.0 == u) && completes n p.outer) (is_pending ps u n) h in
    ap (λ (l : List Item). item_at l n) (ap (λ (cs : List Completion). close_all cs items) (completions_append u (p ∷ []) ps) ∙ close_all_append (completions_at u (p ∷ [])) (completions_at u ps) items)
    ∙ untouched u n ps (close_all (completions_at u (p ∷ [])) items) both.1
    ∙ ap (λ (cs : List Completion). item_at (close_all cs items) n) (at_one p u)
    ∙ by_unit (p.unit.0 == u) p.outer both.0
  where
    by_unit : (b : Bool) (o : Outer) → (b && completes n o) ≡ false → item_at (close_all (cond b (completions_of o) []) items) n ≡ item_at items n
    by_unit false o k = refl
    by_unit true (Happen e) k = refl
    by_unit true (Complete m a outputs) k =
        closes_one items m n ∙ ap (λ (b : Bool). cond b (Rattle.std.specs.Option.option_map Rattle.wf_activities.specs.Laws.closed_item (item_at items n)) (item_at items n)) (same_flip n m ∙ k)

-- what an admitted completion says of its item
record Admitted (chart : Chart) (items : ℕ → List Item) (ps : List Entry) (u n : ℕ) (a : ActId) : Type 0 where
  of : is_of a.0 (item_at (items u) n) ≡ true
  open_item : is_open (item_at (items u) n) ≡ true
  free : is_pending ps u n ≡ false

abbrev answer_by : Bool → Bool → Bool → Bool → Result (Unit {0}) OuterFault
answer_by at of done fits = cond (not at) (Err WrongUnit) (cond (not of) (Err NoItem) (cond done (Err AlreadyDone) (cond (not fits) (Err WrongOutput) (Ok tt))))

admitted : (chart : Chart) (items : ℕ → List Item) (ps : List Entry) (u n : ℕ) (a : ActId) (outputs : List Output) → is_ok (may_be_admitted chart items ps u (Complete n a outputs)) ≡ true → Admitted chart items ps u n a
unfolding may_be_admitted
admitted chart items ps u n a outputs h = go (is_act_at chart u a.0) (item_at (items u) n) refl (is_pending ps u n) refl (are_outputs_of chart a.0 outputs) h
  where
    go : (at : Bool) (o : Option Item) → item_at (items u) n ≡ o → (p : Bool) → is_pending ps u n ≡ p → (s : Bool)
        → is_ok (answer_by at (is_of a.0 o) (is_closed o || p) s) ≡ true → Admitted chart items ps u n a
    go false o e p q s k = absurd (true≢false (sym k))
    go true None e p q s k = absurd (true≢false (sym k))
    go true (Some x) e p q s k = by_bits (x.act.0 == a.0) refl x.closed refl p q k
      where
        by_bits : (f : Bool) → (x.act.0 == a.0) ≡ f → (d : Bool) → x.closed ≡ d → (p : Bool) → is_pending ps u n ≡ p
            → is_ok (answer_by true f (d || p) s) ≡ true → Admitted chart items ps u n a
        by_bits false fe d de p q k = absurd (true≢false (sym k))
        by_bits true fe true de p q k = absurd (true≢false (sym k))
        by_bits true fe false de true q k = absurd (true≢false (sym k))
        by_bits true fe false de false q k = record { of = ap (is_of a.0) e ∙ fe; open_item = ap is_open e ∙ ap not de; free = q }

come_from : (chart : Chart) (items : ℕ → List Item) (u : ℕ) (ps xs : List Entry) → may_come_after chart items ps xs ≡ true → InTurn (completions_at u xs) (close_all (completions_at u ps) (items u))
come_from chart items u ps [] h = tt
come_from chart items u ps (x ∷ xs) h =
    let both = and_both (is_ok (may_be_admitted chart items ps x.unit.0 x.outer)) (may_come_after chart items (ps ++ x ∷ []) xs) h in
    let grown : close_all (completions_at u (ps ++ x ∷ [])) (items u) ≡ close_all (completions_at u (x ∷ [])) (close_all (completions_at u ps) (items u)) =
    ap (λ (cs : List Completion). close_all cs (items u)) (completions_append u ps (x ∷ [])) ∙ close_all_append (completions_at u ps) (completions_at u (x ∷ [])) (items u) in
    let rest = subst (λ (items : List Item). InTurn (completions_at u xs) items) (grown ∙ ap (λ (cs : List Completion). close_all cs (close_all (completions_at u ps) (items u))) (at_one x u))
    (come_from chart items u (ps ++ x ∷ []) xs both.1) in
    subst (λ (cs : List Completion). InTurn cs (close_all (completions_at u ps) (items u))) (sym (completions_append u (x ∷ []) xs ∙ ap (λ (cs : List Completion). cs ++ completions_at u xs) (at_one x u)))
    (by_unit (x.unit.0 == u) refl x.outer both.0 rest)
  where
    by_unit : (b : Bool) → (x.unit.0 == u) ≡ b → (o : Outer) → is_ok (may_be_admitted chart items ps x.unit.0 o) ≡ true
        → InTurn (completions_at u xs) (close_all (cond b (completions_of o) []) (close_all (completions_at u ps) (items u)))
        → InTurn (cond b (completions_of o) [] ++ completions_at u xs) (close_all (completions_at u ps) (items u))
    by_unit false q o k r = r
    by_unit true q (Happen e) k r = r
    by_unit true q (Complete n a outputs) k r =
        let here = admitted chart items ps u n a outputs (ap (λ (v : ℕ). is_ok (may_be_admitted chart items ps v (Complete n a outputs))) (sym (eqb-true x.unit.0 u q)) ∙ k) in
        let stays = untouched u n ps (items u) here.free in
        (ap is_open stays ∙ here.open_item, ap (is_of a.0) stays ∙ here.of, r)

-- entries that may come complete open items one after another
pub come_in_turn : (chart : Chart) (items : ℕ → List Item) (entries : List Entry) → may_come chart items entries ≡ true → CompleteInTurn items entries
come_in_turn chart items entries h u = come_from chart items u [] entries h
