-- The rule of admission over the items that a unit keeps.
use Rattle.std.proofs.Common.{◌≡◌, ℕ, zero, suc, ◌+◌, ◌<◌, ◌≤◌, ◌==◌, ◌||◌, ◌&&◌, not, cond, Bool, true, false, List, [], ◌∷◌, map, find, length, Option, Some, None, Result, Ok, Err, is_ok, slice_get, refl, sym, ap, ap₂, ◌∙◌, arith, eqb-true, true≢false}
use Rattle.std.specs.Option.{option_map_or}
use Rattle.std.specs.List.{list_any}
use Rattle.std.specs.Prelude.{IsTrue}
use Rattle.wf_model.specs.declared.ids.ActId.{ActId}
use Rattle.wf_model.specs.declared.ids.VarId.{VarId}
use Rattle.wf_model.specs.declared.value.Sort.{Sort}
use Rattle.wf_model.specs.declared.outer.Output.{Output}
use Rattle.wf_model.specs.declared.outer.Outer.{Outer}
use Rattle.wf_model.specs.declared.outer.Outer.TheVariants.{Happen, Complete}
use Rattle.wf_model.specs.declared.outer.OuterFault.{OuterFault}
use Rattle.wf_model.specs.declared.outer.OuterFault.TheVariants.{WrongUnit, NoItem, AlreadyDone, WrongOutput}
use Rattle.wf_model.specs.Seen.{val_sort}
use Rattle.wf_model.specs.Sorts.{alike}
use Rattle.wf_parts.specs.declared.data.KnownActivity.{KnownActivity}
use Rattle.wf_parts.specs.declared.data.PartData.{PartData}
use Rattle.wf_semantics.specs.Items.{Item, item_at}
use Rattle.wf_semantics.specs.Admission.{completes, is_of, is_closed}
use Rattle.wf_activities.specs.UnitItems.{is_open}
use Rattle.wf_activities.specs.Completing.{is_wanted, are_wanted, may_complete}
use Rattle.wf_histories.specs.Histories.{History, taken}
use Rattle.wf_histories.specs.Follows.{is_own_act, is_act, is_item, item_acts}
use Rattle.wf_worlds.specs.Admitting.{are_own_values, are_own_outputs, may_admit, lets_in, outers}
use Rattle.wf_steps.specs.Items.{is_completed, items_from, items_of}
use Rattle.wf_steps.specs.Replicas.{MayClose}

-- ITEMS BY NUMBER

of_from : (closed : ℕ → Bool) (a n m : ℕ) (acts : List ActId) → is_of a (slice_get (items_from closed n acts) m) ≡ is_act a (slice_get acts m)
of_from closed a n m [] = refl
of_from closed a n zero (x ∷ acts) = refl
of_from closed a n (suc m) (x ∷ acts) = of_from closed a (suc n) m acts

shut_from : (closed : ℕ → Bool) (a n m : ℕ) (acts : List ActId) → is_act a (slice_get acts m) ≡ true → is_closed (slice_get (items_from closed n acts) m) ≡ closed (n + m)
shut_from closed a n m [] h = absurd (true≢false (sym h))
shut_from closed a n zero (x ∷ acts) h = ap closed (let e : n ≡ n + 0 = omega arith in e)
shut_from closed a n (suc m) (x ∷ acts) h = shut_from closed a (suc n) m acts h ∙ ap closed (let e : suc n + m ≡ n + suc m = omega arith in e)

pub item_of : (closed : ℕ → Bool) (acts : List ActId) (n a : ℕ) → is_of a (item_at (items_from closed 1 acts) n) ≡ is_item acts n a
item_of closed acts zero a = refl
item_of closed acts (suc n) a = of_from closed a 1 n acts

pub item_shut : (closed : ℕ → Bool) (acts : List ActId) (n a : ℕ) → is_item acts n a ≡ true → is_closed (item_at (items_from closed 1 acts) n) ≡ closed n
item_shut closed acts zero a h = absurd (true≢false (sym h))
item_shut closed acts (suc n) a h = shut_from closed a 1 n acts h ∙ ap closed (let e : 1 + n ≡ suc n = omega arith in e)

act_within : (a m : ℕ) (acts : List ActId) → is_act a (slice_get acts m) ≡ true → m < length acts
act_within a m [] h = absurd (true≢false (sym h))
act_within a zero (x ∷ acts) h = omega arith
act_within a (suc m) (x ∷ acts) h = omega (arith, act_within a m acts h)

pub item_within : (acts : List ActId) (n a : ℕ) → is_item acts n a ≡ true → n ≤ length acts
item_within acts zero a h = absurd (true≢false (sym h))
item_within acts (suc n) a h = omega (arith, act_within a n acts h)

-- OUTPUTS

and_assoc : (a b c : Bool) → ((a && b) && c) ≡ (a && (b && c))
and_assoc true b c = refl
and_assoc false b c = refl

wanted_same : (ws : List (VarId × Sort)) (os : List Output) → are_wanted ws os ≡ are_own_values ws os
wanted_same [] [] = refl
wanted_same [] (o ∷ os) = refl
wanted_same (w ∷ ws) [] = refl
wanted_same (w ∷ ws) (o ∷ os) = ap (λ (b : Bool). is_wanted w o && b) (wanted_same ws os) ∙ and_assoc (o.var.0 == w.0.0) (alike w.1 (val_sort o.val)) (are_own_values ws os)

outputs_same : (a u : ℕ) (acts : List KnownActivity) (os : List Output) → list_any (λ known. (known.id.0 == a) && (known.unit.0 == u)) acts ≡ true →
    are_wanted (option_map_or (λ known. known.outputs) (find (λ known. known.id.0 == a) acts) []) os ≡ option_map_or (λ known. are_own_values known.outputs os) (find (λ known. known.id.0 == a) acts) false
outputs_same a u [] os h = absurd (true≢false (sym h))
outputs_same a u (k ∷ acts) os h = go (k.id.0 == a) (k.unit.0 == u) h (outputs_same a u acts os)
  where
    go : (b c : Bool) → ((b && c) || list_any (λ known. (known.id.0 == a) && (known.unit.0 == u)) acts) ≡ true →
        (list_any (λ known. (known.id.0 == a) && (known.unit.0 == u)) acts ≡ true → are_wanted (option_map_or (λ known. known.outputs) (find (λ known. known.id.0 == a) acts) []) os ≡ option_map_or (λ known. are_own_values known.outputs os) (find (λ known. known.id.0 == a) acts) false) →
        are_wanted (option_map_or (λ known. known.outputs) (cond b (Some k) (find (λ known. known.id.0 == a) acts)) []) os ≡ option_map_or (λ known. are_own_values known.outputs os) (cond b (Some k) (find (λ known. known.id.0 == a) acts)) false
    go true c h rest = wanted_same k.outputs os
    go false c h rest = rest h

-- THE RULE

abbrev item_answer : Bool → Bool → Bool → Result (Unit {0}) OuterFault
item_answer of shut wanted = cond (not of) (Err NoItem) (cond shut (Err AlreadyDone) (cond (not wanted) (Err WrongOutput) (Ok tt)))

abbrev answer : Bool → Bool → Bool → Bool → Result (Unit {0}) OuterFault
answer own of shut wanted = cond (not own) (Err WrongUnit) (item_answer of shut wanted)

same_answer : (own of of' shut shut' wanted wanted' : Bool) → own ≡ true → of ≡ of' → (of' ≡ true → shut ≡ shut') → wanted ≡ wanted' → item_answer of shut wanted ≡ answer own of' shut' wanted'
same_answer true of true shut shut' wanted wanted' own e f g = ap₂ (λ (a b : Bool). item_answer a b wanted) e (f refl) ∙ ap (item_answer true shut') g
same_answer true of false shut shut' wanted wanted' own e f g = ap (λ (a : Bool). item_answer a shut wanted) e
same_answer false of of' shut shut' wanted wanted' own e f g = absurd (true≢false (sym own))

module _ (part : PartData) (h : History) (n : ℕ) (a : ActId) (os : List Output) where
  pub not_own : is_own_act part a.0 ≡ false → ◌≡◌ {A = Result (Unit {0}) OuterFault} (Err WrongUnit) (lets_in part h (Complete n a os))
  unfolding may_admit
  not_own e =
      sym (ap (λ (own : Bool). answer own (is_item (item_acts part h (taken h)) n a.0) (list_any (completes n) (outers h.admissions)) (are_own_outputs part a.0 os)) e)

  pub lets_own : is_own_act part a.0 ≡ true → may_complete (items_of part h) n a os (option_map_or (λ known. known.outputs) (find (λ known. known.id.0 == a.0) part.acts) []) ≡ lets_in part h (Complete n a os)
  unfolding may_complete may_admit items_of
  lets_own own =
      same_answer (is_own_act part a.0) (is_of a.0 (item_at (items_of part h) n)) (is_item (item_acts part h (taken h)) n a.0) (is_closed (item_at (items_of part h) n)) (list_any (completes n) (outers h.admissions))
      (are_wanted (option_map_or (λ known. known.outputs) (find (λ known. known.id.0 == a.0) part.acts) []) os) (are_own_outputs part a.0 os)
      own (item_of (is_completed h) (item_acts part h (taken h)) n a.0) (item_shut (is_completed h) (item_acts part h (taken h)) n a.0)
      (outputs_same a.0 part.unit.0 part.acts os own)

-- what is let in

tests : (own of shut wanted : Bool) → is_ok (answer own of shut wanted) ≡ true → (of ≡ true) × (shut ≡ false)
tests true true false true h = (refl, refl)
tests true true false false h = absurd (true≢false (sym h))
tests true true true wanted h = absurd (true≢false (sym h))
tests true false shut wanted h = absurd (true≢false (sym h))
tests false of shut wanted h = absurd (true≢false (sym h))

pub let_item : (part : PartData) (h : History) (n : ℕ) (a : ActId) (os : List Output) → is_ok (lets_in part h (Complete n a os)) ≡ true → (is_item (item_acts part h (taken h)) n a.0 ≡ true) × (is_completed h n ≡ false)
unfolding may_admit
let_item part h n a os lets = tests (is_own_act part a.0) (is_item (item_acts part h (taken h)) n a.0) (list_any (completes n) (outers h.admissions)) (are_own_outputs part a.0 os) lets

opened : (a : ℕ) (o : Option Item) → is_of a o ≡ true → is_closed o ≡ false → is_open o ≡ true
opened a None of shut = absurd (true≢false (sym of))
opened a (Some item) of shut = ap not shut

-- it may close its item
pub lets_close : (part : PartData) (h : History) (o : Outer) → is_ok (lets_in part h o) ≡ true → MayClose o (items_of part h)
unfolding items_of
lets_close part h (Happen e) lets = tt
lets_close part h (Complete n a os) lets =
    let known = let_item part h n a os lets in
    opened a.0 (item_at (items_of part h) n) (item_of (is_completed h) (item_acts part h (taken h)) n a.0 ∙ known.0) (item_shut (is_completed h) (item_acts part h (taken h)) n a.0 known.0 ∙ known.1)
