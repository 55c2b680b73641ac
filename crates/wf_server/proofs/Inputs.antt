-- What came of all peers is what the next Turn takes in.
use Rattle.std.proofs.Common.{◌≡◌, ℕ, zero, suc, ◌+◌, ◌-◌, ◌<◌, ◌≤◌, cond, Bool, true, false, not, true≢false, List, [], ◌∷◌, ◌++◌, length, map, take, filter, filter_map, get_or, Option, Some, None, refl, sym, ap, ap₂, ◌∙◌, subst, arith, eqb-true, eq-eqb, ltb-true, rules}
use Rattle.std.specs.Prelude.{◌==◌, ◌&&◌, nat_lt, is_some, IsSome, slice_index_or, ◌≢◌}
use Rattle.std.specs.Int.{bit_at}
use Rattle.std.specs.List.{range_with_len, AllByRecursion}
use Rattle.wf_model.specs.Limits.{max_units, max_steps}
use Rattle.wf_model.specs.declared.update.Update.{Update}
use Rattle.std.specs.List.{cons_option}
use Rattle.std.proofs.lemmas.List.{take_more, append-nil}
use Rattle.std.proofs.lemmas.List.Elements.{filter_map-append}
use Rattle.wf_model.proofs.Bools.{and_true}
use Rattle.std.proofs.lemmas.Nat.Bits.{bit_at-zero}
use Rattle.wf_owns.proofs.Small.{few}
use Rattle.wf_codec.specs.Ranges.{IsInRange}
use Rattle.wf_parts.specs.declared.data.Known.{Known}
use Rattle.wf_parts.specs.declared.data.PartData.{PartData}
use Rattle.wf_parts.specs.Parts.{part_of, IsPart}
use Rattle.wf_parts.specs.Peers.{peers_of, known_of}
use Rattle.wf_histories.specs.Histories.{History, taken}
use Rattle.wf_steps.specs.Fitting.{suits, is_input, are_inputs_of, are_inputs}
use Rattle.wf_steps.specs.Growing.{MayTurn}
use Rattle.wf_server.specs.Servers.{held_in, inputs_of}
use Rattle.wf_server.specs.Inbox.{IsPeer, AllCame, is_missing, AreMissing, IsUpdateOf, IsInbox}

-- A PART has fewer units than there may be, and what its peers know in their order

pub units_few : (part : PartData) → IsPart part → part.units ≤ max_units
unfolding part_of
units_few part is =
    let same : part.units ≡ length is.chart.units = ap (λ (p : PartData). p.units) is.is in
    let most = (few is.chart is.accepted).units in
    omega (arith, same, most)

-- THE SLOTS from unit k on, where unit u has none
-- THE SLOTS from unit k on, where unit u has none and each other one its update of this step
pub record AreFull (part : PartData) (step u k : ℕ) (slots : List (Option Update)) : Type 0 where
  pub own : (i : ℕ) → k + i ≡ u → held_in slots i ≡ None
  pub others : (i : ℕ) → i < length slots → (k + i ≡ u → ⊥) → IsSome (held_in slots i)
  pub each : (i : ℕ) (update : Update) → held_in slots i ≡ Some update → (update.from.0 ≡ k + i) × (update.step ≡ step) × (suits part update ≡ true)

rest_full : (part : PartData) (step u k : ℕ) (slot : Option Update) (slots : List (Option Update)) → AreFull part step u k (slot ∷ slots) → AreFull part step u (k + 1) slots
rest_full part step u k slot slots full = record {
  own = λ i e. full.own (suc i) (let q : k + suc i ≡ u = omega (arith, e) in q);
  others = λ i lt unlike. full.others (suc i) (omega (arith, lt)) (λ e. unlike (let q : k + 1 + i ≡ u = omega (arith, e) in q));
  each = λ i update is. let f = full.each (suc i) update is in ((let e = f.0 in let q : update.from.0 ≡ k + 1 + i = omega (arith, e) in q), f.1, f.2);
}

-- of these peers these are the inputs
module _ (part : PartData) (step u : ℕ) (known : ℕ → Known) (named : (v : ℕ) → (known v).unit.0 ≡ v) where
  inputs_are : (k : ℕ) (slots : List (Option Update)) → AreFull part step u k slots →
      are_inputs_of part step (map known (filter (λ v. not (v == u)) (range_with_len k (length slots)))) (inputs_of slots) ≡ true
  inputs_are k [] full = refl
  inputs_are k (slot ∷ slots) full = go slot (full.own 0) (full.others 0 (omega arith)) (full.each 0) (inputs_are (k + 1) slots (rest_full part step u k slot slots full))
    where
      peers : List Known
      peers = map known (filter (λ v. not (v == u)) (range_with_len (k + 1) (length slots)))

      -- this slot, and whether it is the unit's own
      by : (own : Bool) (update : Update) → own ≡ false → is_input part step (known k) update ≡ true → are_inputs_of part step peers (inputs_of slots) ≡ true → are_inputs_of part step (map known (cond (not own) (k ∷ filter (λ v. not (v == u)) (range_with_len (k + 1) (length slots))) (filter (λ v. not (v == u)) (range_with_len (k + 1) (length slots))))) (update ∷ inputs_of slots) ≡ true
      by true update unlike here rest = absurd (true≢false unlike)
      by false update unlike here rest = and_true (is_input part step (known k) update) (are_inputs_of part step peers (inputs_of slots)) here rest

      skip : (own : Bool) → own ≡ true → are_inputs_of part step peers (inputs_of slots) ≡ true → are_inputs_of part step (map known (cond (not own) (k ∷ filter (λ v. not (v == u)) (range_with_len (k + 1) (length slots))) (filter (λ v. not (v == u)) (range_with_len (k + 1) (length slots))))) (inputs_of slots) ≡ true
      skip true is_so rest = rest
      skip false unlike rest = absurd (true≢false (sym unlike))

      go : (s : Option Update) → (k + 0 ≡ u → s ≡ None) → ((k + 0 ≡ u → ⊥) → IsSome s) → ((update : Update) → s ≡ Some update → (update.from.0 ≡ k + 0) × (update.step ≡ step) × (suits part update ≡ true)) → are_inputs_of part step peers (inputs_of slots) ≡ true →
          are_inputs_of part step (map known (filter (λ v. not (v == u)) (range_with_len k (suc (length slots))))) (inputs_of (s ∷ slots)) ≡ true
      go None own others each rest = skip (k == u) (own_is (k == u) refl) rest
        where
          own_is : (b : Bool) → (k == u) ≡ b → (k == u) ≡ true
          own_is true e = e
          own_is false e = absurd (true≢false (sym (others (λ q. true≢false (sym (eq-eqb k u (let r : k ≡ u = omega (arith, q) in r)) ∙ e)))))
      go (Some update) own others each rest =
          let f = each update refl in
          let at : update.from.0 ≡ (known k).unit.0 = (let e = f.0 in let q : update.from.0 ≡ k = omega (arith, e) in q) ∙ sym (named k) in
          by (k == u) update (other_is (k == u) refl)
          (and_true (update.from.0 == (known k).unit.0) ((update.step == step) && suits part update) (eq-eqb update.from.0 (known k).unit.0 at)
          (and_true (update.step == step) (suits part update) (eq-eqb update.step step f.1) f.2)) rest
        where
          no_none : ◌≡◌ {A = Option Update} (Some update) None → ⊥
          no_none e = cc e

          other_is : (b : Bool) → (k == u) ≡ b → (k == u) ≡ false
          other_is true e = absurd (no_none (own (let q : k ≡ u = eqb-true k u e in let r : k + 0 ≡ u = omega (arith, q) in r)))
          other_is false e = e

ranges_are : (slots : List (Option Update)) → ((i : ℕ) (update : Update) → held_in slots i ≡ Some update → IsInRange update) → AllByRecursion IsInRange (inputs_of slots)
ranges_are [] each = tt
ranges_are (None ∷ slots) each = ranges_are slots (λ i. each (suc i))
ranges_are (Some update ∷ slots) each = (each 0 update refl, ranges_are slots (λ i. each (suc i)))

-- WHAT CAME IS WHAT THE TURN TAKES IN
pub may_turn : (part : PartData) (past : History) (came : List (Option Update)) → IsPart part → IsInbox part (taken past + 1) came → AllCame part came → taken past < max_steps → MayTurn part past (inputs_of came)
unfolding part_of peers_of
may_turn part past came is inbox all steps = record {
  steps = steps;
  suited = ap (λ (peers : List Known). are_inputs_of part (taken past + 1) peers (inputs_of came)) (peers_are ∙ ap (λ n. map (known_of is.chart is.unit) (filter (λ v. not (v == is.unit)) (range_with_len 0 n))) (sym units_are))
      ∙ inputs_are part (taken past + 1) is.unit (known_of is.chart is.unit) (λ v. refl) 0 came full;
  ranges = ranges_are came (λ i update there. (inbox.each i update there).fit.ranges);
}
  where
    peers_are : part.peers ≡ map (known_of is.chart is.unit) (filter (λ v. not (v == is.unit)) (range_with_len 0 (length is.chart.units)))
    peers_are = ap (λ (p : PartData). p.peers) is.is

    own_is : part.unit.0 ≡ is.unit
    own_is = ap (λ (p : PartData). p.unit.0) is.is

    units_are : length came ≡ length is.chart.units
    units_are = inbox.size ∙ ap (λ (p : PartData). p.units) is.is

    full : AreFull part (taken past + 1) is.unit 0 came
    full = record {
      own = λ i e. none (held_in came i) refl (λ update there. (inbox.each i update there).peer.other ((let q : i ≡ is.unit = omega (arith, e) in q) ∙ sym own_is));
      others = λ i lt unlike. all i (record { within = let n = inbox.size in omega (arith, lt, n); other = λ e. unlike (let q : i ≡ is.unit = e ∙ own_is in let r : 0 + i ≡ is.unit = omega (arith, q) in r) });
      each = λ i update there. let f = inbox.each i update there in ((let e = f.from in let q : update.from.0 ≡ 0 + i = omega (arith, e) in q), f.at_step, f.fit.suited);
    }
      where
        none : (o : Option Update) → o ≡ o → ((update : Update) → o ≡ Some update → ⊥) → o ≡ None
        none None e unlike = refl
        none (Some update) e unlike = absurd (unlike update refl)

-- THE SET OF THOSE THAT ARE MISSING

pub none_missing : (part : PartData) (came : List (Option Update)) (set : ℕ) → part.units ≤ max_units → AreMissing part came set → set ≡ 0 → AllCame part came
none_missing part came set few missing none v peer = go (is_some (held_in came v)) refl
  where
    one_is : (b : Bool) → ◌≡◌ {A = ℕ} (cond b 1 0) 0 → b ≡ false
    one_is true e = absurd (cc e)
    one_is false e = refl

    bit_none : bit_at set v ≡ 0
    bit_none = ap (λ n. bit_at n v) none ∙ bit_at-zero v

    not_missing : is_missing part came v ≡ false
    not_missing = one_is (is_missing part came v) (sym (missing v (let w = peer.within in omega (arith, w, few))) ∙ bit_none)

    go : (b : Bool) → is_some (held_in came v) ≡ b → is_some (held_in came v) ≡ true
    go true e = e
    go false e = absurd (true≢false (sym (and_true (nat_lt v part.units) (not (v == part.unit.0) && not (is_some (held_in came v))) (search (rules, peer.within)) (and_true (not (v == part.unit.0)) (not (is_some (held_in came v))) (other (v == part.unit.0) refl) (ap not e))) ∙ not_missing))
      where
        other : (b : Bool) → (v == part.unit.0) ≡ b → not (v == part.unit.0) ≡ true
        other true e = absurd (peer.other (eqb-true v part.unit.0 e))
        other false e = ap not e

-- COPIES, slot by slot

inputs_more : (slots : List (Option Update)) (i : ℕ) (slot : Option Update) → i < length slots → slot ≡ get_or slots i slot → inputs_of (take (i + 1) slots) ≡ inputs_of (take i slots) ++ cons_option slot []
inputs_more slots i slot lt is =
    ap inputs_of (take_more slots i slot lt ∙ ap (λ (z : Option Update). take i slots ++ z ∷ []) (sym is)) ∙ filter_map-append (λ (s : Option Update). s) (take i slots) (slot ∷ [])

pub copied : (slots : List (Option Update)) (i : ℕ) (slot : Option Update) (update : Update) (old new : List Update) → i < length slots → slot ≡ get_or slots i slot → slot ≡ Some update → old ≡ inputs_of (take i slots) → new ≡ old ++ update ∷ [] → new ≡ inputs_of (take (i + 1) slots)
copied slots i slot update old new lt is some before now =
    now ∙ ap (λ (l : List Update). l ++ update ∷ []) before
    ∙ sym (inputs_more slots i slot lt is ∙ ap (λ (o : Option Update). inputs_of (take i slots) ++ cons_option o []) some)

pub passed : (slots : List (Option Update)) (i : ℕ) (slot : Option Update) (old : List Update) → i < length slots → slot ≡ get_or slots i slot → slot ≡ None → old ≡ inputs_of (take i slots) → old ≡ inputs_of (take (i + 1) slots)
passed slots i slot old lt is none before =
    before ∙ sym (inputs_more slots i slot lt is ∙ ap (λ (o : Option Update). inputs_of (take i slots) ++ cons_option o []) none ∙ append-nil (inputs_of (take i slots)))

-- all came, if the set of those that are missing is empty
pub all_came : (part part' : PartData) (came came' : List (Option Update)) (set : ℕ) → IsPart part → part' ≡ part → came' ≡ came → AreMissing part' came' set → set ≡ 0 → AllCame part came
all_came part part' came came' set is part_is came_is missing none =
    none_missing part came set (units_few part is) (subst (λ p. AreMissing p came set) part_is (subst (λ (slots : List (Option Update)). AreMissing part' slots set) came_is missing)) none
