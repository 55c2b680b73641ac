-- Pairs, and what they give a number.
use Rattle.std.proofs.Common.{◌≡◌, ◌≢◌, ◌⊎◌, inl, inr, ℕ, ◌+◌, ◌-◌, ◌<◌, ◌≤◌, ◌==◌, ◌||◌, nat_lt, Bool, true, false, cond, List, [], ◌∷◌, ◌++◌, length, map, take, flat_map, find, get_or, Option, Some, None, All, refl, sym, ◌∙◌, ap, arith, eq-eqb}
use Rattle.std.specs.Option.{option_map, option_or}
use Rattle.std.specs.List.{list_any, range_with_len}
use Rattle.std.proofs.lemmas.Bool.{cases_lt}
use Rattle.std.proofs.lemmas.Bool.Decides.{nat_tests}
use Rattle.std.proofs.lemmas.List.{take_more, get_or_past}
use Rattle.std.proofs.lemmas.List.Folds.{find-append, list_any-append}
use Rattle.std.proofs.lemmas.List.Elements.{All-head, All-tail}
use Rattle.wf_model.specs.Bits.{bit}
use Rattle.wf_model.proofs.Bools.{any_flat_map}
use Rattle.wf_model.proofs.Rows.{row_at, row_len}
use Rattle.wf_model.specs.declared.ids.ActId.{ActId}
use Rattle.wf_model.specs.declared.ids.EventId.{EventId}
use Rattle.wf_model.specs.declared.value.Val.{Val}
use Rattle.wf_model.specs.declared.outer.Output.{Output}
use Rattle.wf_model.specs.declared.outer.Outer.{Outer}
use Rattle.wf_model.specs.declared.outer.Outer.TheVariants.{Happen, Complete}
use Rattle.wf_model.specs.declared.outer.Entry.{Entry}
use Rattle.wf_semantics.specs.Items.{Completion, done_count, one}
use Rattle.wf_semantics.specs.Run.{is_happening}
use Rattle.wf_views.specs.Views.{after_outputs, outputs_in}
use Rattle.wf_updates.specs.Tables.{past_numbers, is_among, entry, given_by, happening_in}
use Rattle.wf_updates.proofs.NumberSets.{differ}
use Rattle.wf_updates.specs.After.{vars_after}
use Rattle.wf_updates.proofs.Tabled.{below, map_agree}

map_or : {A B : Type 0} (f : A → B) (o p : Option A) → option_map f (option_or o p) ≡ option_or (option_map f o) (option_map f p)
map_or f None p = refl
map_or f (Some x) p = refl

or_none : {A : Type 0} (o : Option A) → option_or o None ≡ o
or_none None = refl
or_none (Some x) = refl

-- one pair more

given_more : {A : Type 0} (pairs : List (ℕ × A)) (i k : ℕ) (pair : ℕ × A) (b : Bool) → i < length pairs → pair ≡ get_or pairs i pair → (pair.0 == k) ≡ b
    → given_by (take (i + 1) pairs) k ≡ option_or (given_by (take i pairs) k) (cond b (Some pair.1) None)
given_more {A = A} pairs i k pair b lt is same =
    ap (λ (l : List (ℕ × A)). given_by l k) (take_more pairs i pair lt ∙ ap (λ (z : ℕ × A). take i pairs ++ z ∷ []) (sym is))
    ∙ ap (option_map (λ (p : ℕ × A). p.1)) (find-append (λ (p : ℕ × A). p.0 == k) (take i pairs) (pair ∷ []))
    ∙ map_or (λ (p : ℕ × A). p.1) (find (λ (p : ℕ × A). p.0 == k) (take i pairs)) (cond (pair.0 == k) (Some pair) None)
    ∙ ap (λ (o : Option A). option_or (given_by (take i pairs) k) o) (go (pair.0 == k) b same)
  where
    go : (a b : Bool) → a ≡ b → option_map (λ (p : ℕ × A). p.1) (cond a (Some pair) None) ≡ cond b (Some pair.1) None
    go true true e = refl
    go true false e = cc
    go false true e = cc
    go false false e = refl

pub given_here : {A : Type 0} (pairs : List (ℕ × A)) (i at : ℕ) (pair : ℕ × A) → i < length pairs → pair ≡ get_or pairs i pair → pair.0 ≡ at
    → given_by (take (i + 1) pairs) at ≡ option_or (given_by (take i pairs) at) (Some pair.1)
given_here pairs i at pair lt is e = given_more pairs i at pair true lt is (eq-eqb pair.0 at e)

pub given_other : {A : Type 0} (pairs : List (ℕ × A)) (i at : ℕ) (pair : ℕ × A) (k : ℕ) → i < length pairs → pair ≡ get_or pairs i pair → pair.0 ≡ at → k ≢ at
    → given_by (take (i + 1) pairs) k ≡ given_by (take i pairs) k
given_other pairs i at pair k lt is e ne =
    given_more pairs i k pair false lt is (differ pair.0 k (λ q. ne (sym q ∙ e))) ∙ or_none (given_by (take i pairs) k)

-- numbers past the greatest are given nothing
given_past : {A : Type 0} (pairs : List (ℕ × A)) (count k : ℕ) → All (λ p. p.0 < count) pairs → count ≤ k → given_by pairs k ≡ None
given_past [] count k h le = refl
given_past {A = A} (p ∷ ps) count k h le =
    let lt : p.0 < count = All-head (λ (p : ℕ × A). p.0 < count) p ps h in
    ap (λ (b : Bool). option_map (λ (p : ℕ × A). p.1) (cond b (Some p) (find (λ (p : ℕ × A). p.0 == k) ps))) (differ p.0 k (λ e. omega arith))
    ∙ given_past ps count k (All-tail (λ (p : ℕ × A). p.0 < count) p ps h) le

pub table_told : {A : Type 0} (pairs : List (ℕ × A)) (table : List (Option A)) (numbers given : List ℕ) (count : ℕ)
    → numbers ≡ map (λ pair. pair.0) pairs → given ≡ numbers → count ≡ past_numbers given → table ≡ map (given_by pairs) (range_with_len 0 count)
    → entry table ≡ given_by pairs
table_told {A = A} pairs table numbers given count are lent e row = λ i k. at k (cases_lt k count) i
  where
    at : (k : ℕ) → (k < count) ⊎ (count ≤ k) → entry table k ≡ given_by pairs k
    at k (inl lt) = row_at (given_by pairs) count k None table row lt
    at k (inr ge) =
        get_or_past table k None (let n = row_len (given_by pairs) count table row in omega arith)
        ∙ sym (given_past pairs count k (below (λ (p : ℕ × A). p.0) pairs numbers given count are lent e) ge)

-- pairs that are made of items
pub given_map : {A B : Type 0} (n : B → ℕ) (v : B → A) (xs : List B) (k : ℕ) → given_by (map (λ x. (n x, v x)) xs) k ≡ option_map v (find (λ x. n x == k) xs)
given_map n v [] k = refl
given_map {A = A} {B = B} n v (x ∷ xs) k = go (n x == k) (given_map n v xs k)
  where
    go : (b : Bool) → given_by (map (λ x. (n x, v x)) xs) k ≡ option_map v (find (λ x. n x == k) xs)
        → option_map (λ (p : ℕ × A). p.1) (cond b (Some (n x, v x)) (find (λ p. p.0 == k) (map {B = ℕ × A} (λ x. (n x, v x)) xs))) ≡ option_map v (cond b (Some x) (find (λ x. n x == k) xs))
    go true ih = refl
    go false ih = ih

pub map_twice : {A B C : Type 0} (f : B → C) (g : A → B) (xs : List A) → map f (map g xs) ≡ map (λ x. f (g x)) xs
map_twice f g [] = refl
map_twice {C = C} f g (x ∷ xs) = ap (λ (l : List C). f (g x) ∷ l) (map_twice f g xs)

-- what is done

done_among : (cs : List Completion) (k : ℕ) → is_among (map (λ c. c.act.0) cs) k ≡ nat_lt 0 (done_count k cs)
done_among [] k = refl
done_among (c ∷ cs) k = go (c.act.0 == k) (done_among cs k)
  where
    plus : (n : ℕ) → true ≡ nat_lt 0 (1 + n)
    plus n = grind (arith, nat_tests)

    go : (b : Bool) → is_among (map (λ c. c.act.0) cs) k ≡ nat_lt 0 (done_count k cs) → (b || is_among (map (λ c. c.act.0) cs) k) ≡ nat_lt 0 (one b + done_count k cs)
    go true ih = plus (done_count k cs)
    go false ih = let e : done_count k cs ≡ 0 + done_count k cs = omega arith in ih ∙ ap (nat_lt 0) e

pub done_told : (cs : List Completion) (numbers given : List ℕ) (bits : List Bool) → numbers ≡ map (λ c. c.act.0) cs → given ≡ numbers → bit bits ≡ is_among given
    → bit bits ≡ (λ a. nat_lt 0 (done_count a cs))
done_told cs numbers given bits are lent set = set ∙ ap is_among (lent ∙ are) ∙ (λ i k. done_among cs k i)

-- what is there

happens_in : (e : ℕ) (outer : Outer) → list_any (λ r. r.0 == e) (happening_in outer) ≡ is_happening e outer
happens_in e (Happen f) = go (f.0 == e)
  where
    go : (b : Bool) → (b || false) ≡ b
    go true = refl
    go false = refl
happens_in e (Complete item a outputs) = refl

pub there_told : (raised events : List EventId) (next : List Entry) (bits : List Bool) → events ≡ raised ++ flat_map (λ x. happening_in x.outer) next
    → bit bits ≡ (λ k. list_any (λ (r : EventId). r.0 == k) events)
    → bit bits ≡ (λ e. list_any (λ r. r.0 == e) raised || list_any (λ x. is_happening e x.outer) next)
there_told raised events next bits are set =
    set ∙ (λ i k. (ap (list_any (λ (r : EventId). r.0 == k)) are
    ∙ list_any-append (λ (r : EventId). r.0 == k) raised (flat_map (λ x. happening_in x.outer) next)
    ∙ ap (λ (b : Bool). list_any (λ r. r.0 == k) raised || b)
    (any_flat_map (λ (r : EventId). r.0 == k) (λ (x : Entry). happening_in x.outer) next ∙ (λ j. list_any (λ (x : Entry). happens_in k x.outer j) next))) i)

-- what is told of variables and activities

pub values_told : (vars : List Output) (next : List Entry) (values lent : List Output) (pairs given : List (ℕ × Val)) (table : List (Option Val))
    → values ≡ vars_after vars next [] → lent ≡ values → pairs ≡ map (λ o. (o.var.0, o.val)) lent → given ≡ pairs → entry table ≡ given_by given
    → entry table ≡ (λ x. option_map (λ o. after_outputs o.var.0 (outputs_in next) o.val) (find (λ o. o.var.0 == x) vars))
values_told vars next values lent pairs given table are lends make gives told =
    told
    ∙ ap given_by (gives ∙ make ∙ ap (map (λ (o : Output). let p : ℕ × Val = (o.var.0, o.val) in p)) (lends ∙ are)
    ∙ map_twice (λ (o : Output). let p : ℕ × Val = (o.var.0, o.val) in p) (λ (o : Output). let r : Output = record { var = o.var; val = after_outputs o.var.0 (outputs_in next) o.val } in r) vars)
    ∙ (λ i x. given_map (λ (o : Output). o.var.0) (λ (o : Output). after_outputs o.var.0 (outputs_in next) o.val) vars x i)

pub counts_told : (unclosed : List (ActId × ℕ)) (cs : List Completion) (done lent numbers given : List ℕ) (count : ℕ) (pairs gives : List (ℕ × ℕ)) (table : List (Option ℕ))
    → numbers ≡ map (λ it. it.0.0) unclosed → given ≡ numbers → count ≡ past_numbers given → done ≡ map (λ a. done_count a cs) (range_with_len 0 count) → lent ≡ done
    → pairs ≡ map (λ a. (a.0.0, a.1 - get_or lent a.0.0 0)) unclosed → gives ≡ pairs → entry table ≡ given_by gives
    → entry table ≡ (λ a. option_map (λ c. c.1 - done_count c.0.0 cs) (find (λ c. c.0.0 == a) unclosed))
counts_told unclosed cs done lent numbers given count pairs gives table are lends past row same make give told =
    told
    ∙ ap given_by (give ∙ make ∙ map_agree (λ (a : ActId × ℕ). let p : ℕ × ℕ = (a.0.0, a.1 - get_or lent a.0.0 0) in p) (λ (a : ActId × ℕ). let p : ℕ × ℕ = (a.0.0, a.1 - done_count a.0.0 cs) in p) unclosed (λ k d lt.
    let a : ActId × ℕ = get_or unclosed k d in
    ap (λ (n : ℕ). let p : ℕ × ℕ = (a.0.0, a.1 - n) in p)
    (row_at (λ a. done_count a cs) count a.0.0 0 lent (same ∙ row) (below (λ (it : ActId × ℕ). it.0.0) unclosed numbers given count are lends past k d lt))))
    ∙ (λ i x. given_map (λ (c : ActId × ℕ). c.0.0) (λ (c : ActId × ℕ). c.1 - done_count c.0.0 cs) unclosed x i)
