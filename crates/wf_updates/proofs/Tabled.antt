-- What is read of tables is what is searched for.
use Rattle.std.proofs.Common.{◌≡◌, ℕ, ◌+◌, ◌-◌, ◌<◌, ◌==◌, max, Bool, true, false, true≢false, ◌&&◌, cond, List, [], ◌∷◌, ◌++◌, length, map, take, filter, filter_map, flat_map, fold, get_or, unwrap_or, Option, Some, None, All, refl, sym, ◌∙◌, ap, ap₂, arith, eqb-true}
use Rattle.std.specs.Option.{option_map_or}
use Rattle.std.specs.List.{range_with_len, list_any, list_all, cons_option}
use Rattle.std.proofs.lemmas.List.{take_more, append-nil, append_assoc}
use Rattle.std.proofs.lemmas.List.Elements.{filter_map-append, All-nil, All-cons, All-head, All-tail}
use Rattle.std.proofs.lemmas.Grind.{flat_map-append}
use Rattle.wf_model.specs.Bits.{bit}
use Rattle.wf_model.proofs.Bools.{any_map, any_flat_map}
use Rattle.wf_model.proofs.Rows.{row_at}
use Rattle.wf_model.specs.declared.ids.ActId.{ActId}
use Rattle.wf_model.specs.declared.ids.StateId.{StateId}
use Rattle.wf_model.specs.declared.value.Val.{Val}
use Rattle.wf_model.specs.declared.outer.Output.{Output}
use Rattle.wf_model.specs.declared.outer.Outer.{Outer}
use Rattle.wf_model.specs.declared.outer.Entry.{Entry}
use Rattle.wf_model.specs.declared.update.Write.{Write}
use Rattle.wf_model.specs.declared.update.StartAt.{StartAt}
use Rattle.wf_model.specs.declared.update.Update.{Update}
use Rattle.wf_semantics.specs.Items.{Completion, done_count, one}
use Rattle.wf_parts.specs.declared.data.KnownState.{KnownState}
use Rattle.wf_parts.specs.declared.data.KnownEvent.{KnownEvent}
use Rattle.wf_parts.specs.Peers.{Knowledge}
use Rattle.wf_actions.specs.Writes.{winner}
use Rattle.wf_views.specs.OwnSteps.{differs}
use Rattle.wf_views.specs.Views.{after_outputs}
use Rattle.wf_views.specs.Knowledge.{cut_entry, cut_entries}
use Rattle.wf_views.specs.Absorbing.{is_flipped, is_raised, value_after, start_count, entries_of, entries_in}
use Rattle.wf_updates.specs.After.{moved, states_after, events_among, values_by, count_by, counted, entries_from}
use Rattle.wf_updates.specs.Tables.{past_numbers, is_among, count_of, last_of}
use Rattle.wf_updates.proofs.NumberSets.{above_start}
use Rattle.wf_updates.proofs.Cuts.{kept_more, left_more}

-- lists that agree item by item

pub filter_agree : {A : Type 0} (p q : A → Bool) (xs : List A) → All (λ x. p x ≡ q x) xs → filter p xs ≡ filter q xs
filter_agree p q [] h = refl
filter_agree {A = A} p q (x ∷ xs) h =
    ap₂ (λ (b : Bool) (l : List A). cond b (x ∷ l) l) (All-head (λ x. p x ≡ q x) x xs h) (filter_agree p q xs (All-tail (λ x. p x ≡ q x) x xs h))

pub map_agree : {A B : Type 0} (f g : A → B) (xs : List A) → All (λ x. f x ≡ g x) xs → map f xs ≡ map g xs
map_agree f g [] h = refl
map_agree {B = B} f g (x ∷ xs) h = ap₂ (λ (y : B) (l : List B). y ∷ l) (All-head (λ x. f x ≡ g x) x xs h) (map_agree f g xs (All-tail (λ x. f x ≡ g x) x xs h))

below_from : {A : Type 0} (f : A → ℕ) (s : ℕ) (xs : List A) → All (λ x. f x < fold (λ past n. max past (n + 1)) s (map f xs)) xs
below_from f s [] = All-nil (λ x. f x < fold (λ past n. max past (n + 1)) s (map f []))
below_from f s (x ∷ xs) =
    All-cons (λ y. f y < fold (λ past n. max past (n + 1)) s (map f (x ∷ xs))) x xs (let up = above_start (max s (f x + 1)) (map f xs) in omega arith)
    (below_from f (max s (f x + 1)) xs)

-- the numbers of items are below one past the greatest of them
pub below : {A : Type 0} (f : A → ℕ) (xs : List A) (numbers given : List ℕ) (count : ℕ) → numbers ≡ map f xs → given ≡ numbers → count ≡ past_numbers given → All (λ x. f x < count) xs
below f xs numbers given count are lent e k d lt = let s = e ∙ ap past_numbers (lent ∙ are) in let b = below_from f 0 xs k d lt in omega arith

-- numbers gathered from lists
pub among_flat : {A B : Type 0} (f : B → ℕ) (g : A → List B) (all : List A) (ids lent : List B) (numbers given : List ℕ) → ids ≡ flat_map g all → lent ≡ ids → numbers ≡ map f lent → given ≡ numbers
    → (k : ℕ) → is_among given k ≡ list_any (λ u. list_any (λ i. f i == k) (g u)) all
among_flat f g all ids lent numbers given a b c d k =
    ap (λ (ns : List ℕ). is_among ns k) (d ∙ c ∙ ap (map f) (b ∙ a)) ∙ any_map (λ n. n == k) f (flat_map g all) ∙ any_flat_map (λ i. f i == k) g all

-- numbers that are counted

count_map : {A : Type 0} (f : A → ℕ) (xs : List A) (k : ℕ) → count_of (map f xs) k ≡ length (filter (λ x. f x == k) xs)
count_map f [] k = refl
count_map {A = A} f (x ∷ xs) k = go (f x == k) (count_map f xs k)
  where
    go : (b : Bool) → length (filter (λ n. n == k) (map f xs)) ≡ length (filter (λ x. f x == k) xs)
        → length (cond b (f x ∷ filter (λ n. n == k) (map f xs)) (filter (λ n. n == k) (map f xs))) ≡ length (cond b (x ∷ filter (λ x. f x == k) xs) (filter (λ x. f x == k) xs))
    go true h = omega arith
    go false h = h

pub start_counted : (starts lent : List StartAt) (numbers given : List ℕ) → lent ≡ starts → numbers ≡ map (λ s. s.act.0) lent → given ≡ numbers → (k : ℕ) → count_of given k ≡ start_count k starts
start_counted starts lent numbers given a b c k =
    ap (λ (ns : List ℕ). count_of ns k) (c ∙ b ∙ ap (map (λ (s : StartAt). s.act.0)) a) ∙ count_map (λ (s : StartAt). s.act.0) starts k

done_map : (cs : List Completion) (k : ℕ) → count_of (map (λ c. c.act.0) cs) k ≡ done_count k cs
done_map [] k = refl
done_map (c ∷ cs) k = go (c.act.0 == k) (done_map cs k)
  where
    go : (b : Bool) → length (filter (λ n. n == k) (map (λ c. c.act.0) cs)) ≡ done_count k cs
        → length (cond b (c.act.0 ∷ filter (λ n. n == k) (map (λ c. c.act.0) cs)) (filter (λ n. n == k) (map (λ c. c.act.0) cs))) ≡ one b + done_count k cs
    go true h = omega arith
    go false h = omega arith

pub done_counted : (cs : List Completion) (numbers given : List ℕ) → numbers ≡ map (λ c. c.act.0) cs → given ≡ numbers → (k : ℕ) → count_of given k ≡ done_count k cs
done_counted cs numbers given a b k = ap (λ (ns : List ℕ). count_of ns k) (b ∙ a) ∙ done_map cs k

-- the last of a variable's outputs

last_from : (x : ℕ) (outputs : List Output) (last : Option Val) (val : Val) →
    unwrap_or (fold (λ (last : Option Val) (o : Output). cond (o.var.0 == x) (Some o.val) last) last outputs) val ≡ after_outputs x outputs (unwrap_or last val)
last_from x [] last val = refl
last_from x (o ∷ os) last val = last_from x os (cond (o.var.0 == x) (Some o.val) last) val ∙ ap (after_outputs x os) (go (o.var.0 == x))
  where
    go : (b : Bool) → unwrap_or (cond b (Some o.val) last) val ≡ cond b o.val (unwrap_or last val)
    go true = refl
    go false = refl

-- the lists of a view

pub states_same : (known : List KnownState) (before : List StateId) (all : List Update) (inside flipped : List Bool) (numbers given : List ℕ) (count : ℕ)
    → bit inside ≡ (λ s. list_any (λ id. id.0 == s) before) → numbers ≡ map (λ it. it.id.0) known → given ≡ numbers → count ≡ past_numbers given → flipped ≡ map (is_flipped all) (range_with_len 0 count)
    → moved known (bit inside) (bit flipped) ≡ states_after known before all
states_same known before all inside flipped numbers given count i n g e row =
    ap (map (λ (known : KnownState). known.id)) (filter_agree _ _ known (λ k d lt.
    let x : KnownState = get_or known k d in
    ap₂ (λ (a b : Bool). differs a b) (ap (λ (f : ℕ → Bool). f x.id.0) i)
    (row_at (is_flipped all) count x.id.0 false flipped row (below (λ (it : KnownState). it.id.0) known numbers given count n g e k d lt))))

pub events_same : (known : List KnownEvent) (all : List Update) (raised : List Bool) (numbers given : List ℕ) (count : ℕ)
    → numbers ≡ map (λ it. it.id.0) known → given ≡ numbers → count ≡ past_numbers given → raised ≡ map (is_raised all) (range_with_len 0 count)
    → events_among known (bit raised) ≡ events_among known (is_raised all)
events_same known all raised numbers given count n g e row =
    ap (map (λ (known : KnownEvent). known.id)) (filter_agree _ _ known (λ k d lt.
    let x : KnownEvent = get_or known k d in
    row_at (is_raised all) count x.id.0 false raised row (below (λ (it : KnownEvent). it.id.0) known numbers given count n g e k d lt)))

pub values_same : (vars : List Output) (outputs : List Output) (writes : List Write) (last : List (Option Val)) (best : List (Option Write)) (numbers given : List ℕ) (count : ℕ)
    → numbers ≡ map (λ it. it.var.0) vars → given ≡ numbers → count ≡ past_numbers given
    → last ≡ map (last_of outputs) (range_with_len 0 count) → best ≡ map (λ x. winner x writes) (range_with_len 0 count)
    → values_by vars last best
    ≡ map (λ o. record { var = o.var; val = value_after writes o.var.0 (after_outputs o.var.0 outputs o.val) }) vars
values_same vars outputs writes last best numbers given count n g e l b =
    map_agree _ _ vars (λ k d lt.
    let o : Output = get_or vars k d in
    let within : o.var.0 < count = below (λ (it : Output). it.var.0) vars numbers given count n g e k d lt in
    ap₂ (λ (w : Option Write) (v : Val). let r : Output = record { var = o.var; val = option_map_or (λ write. write.val) w v } in r)
    (row_at (λ x. winner x writes) count o.var.0 None best b within)
    (ap (λ (v : Option Val). unwrap_or v o.val) (row_at (last_of outputs) count o.var.0 None last l within) ∙ last_from o.var.0 outputs None o.val))

pub counts_at : (unclosed : List (ActId × ℕ)) (cs : List Completion) (starts : List StartAt) (done started numbers given : List ℕ) (count : ℕ)
    → numbers ≡ map (λ it. it.0.0) unclosed → given ≡ numbers → count ≡ past_numbers given
    → done ≡ map (λ a. done_count a cs) (range_with_len 0 count) → started ≡ map (λ a. start_count a starts) (range_with_len 0 count)
    → All (λ a. count_by done started a ≡ a.1 - done_count a.0.0 cs + start_count a.0.0 starts) unclosed
counts_at unclosed cs starts done started numbers given count n g e f h k d lt =
    let a : ActId × ℕ = get_or unclosed k d in
    let within : a.0.0 < count = below (λ (it : ActId × ℕ). it.0.0) unclosed numbers given count n g e k d lt in
    ap₂ (λ (x y : ℕ). a.1 - x + y) (row_at (λ a. done_count a cs) count a.0.0 0 done f within) (row_at (λ a. start_count a starts) count a.0.0 0 started h within)

pub counts_same : (unclosed : List (ActId × ℕ)) (cs : List Completion) (starts : List StartAt) (done started numbers given : List ℕ) (count : ℕ)
    → numbers ≡ map (λ it. it.0.0) unclosed → given ≡ numbers → count ≡ past_numbers given
    → done ≡ map (λ a. done_count a cs) (range_with_len 0 count) → started ≡ map (λ a. start_count a starts) (range_with_len 0 count)
    → counted (count_by done started) unclosed ≡ counted (λ a. a.1 - done_count a.0.0 cs + start_count a.0.0 starts) unclosed
counts_same unclosed cs starts done started numbers given count n g e f h =
    map_agree _ _ unclosed (λ k d lt.
    ap (λ (m : ℕ). let p : ActId × ℕ = ((get_or unclosed k d).0, m) in p) (counts_at unclosed cs starts done started numbers given count n g e f h k d lt))

-- entries

pub added_more : {A B : Type 0} (f : A → Option B) (xs : List A) (i : ℕ) (x : A) (y : B) (base old new : List B) → i < length xs → x ≡ get_or xs i x → f x ≡ Some y
    → old ≡ base ++ filter_map f (take i xs) → new ≡ old ++ y ∷ [] → new ≡ base ++ filter_map f (take (i + 1) xs)
added_more {A = A} {B = B} f xs i x y base old new lt is gives before now =
    now ∙ ap (λ (l : List B). l ++ y ∷ []) before ∙ append_assoc base (filter_map f (take i xs)) (y ∷ [])
    ∙ ap (λ (l : List B). base ++ l) (kept_more f xs i x y (filter_map f (take i xs)) (filter_map f (take i xs) ++ y ∷ []) lt is gives refl refl)

pub same_more : {A B : Type 0} (f : A → Option B) (xs : List A) (i : ℕ) (x : A) (base old : List B) → i < length xs → x ≡ get_or xs i x → f x ≡ None
    → old ≡ base ++ filter_map f (take i xs) → old ≡ base ++ filter_map f (take (i + 1) xs)
same_more {A = A} {B = B} f xs i x base old lt is gives before =
    before ∙ ap (λ (l : List B). base ++ l) (left_more f xs i x (filter_map f (take i xs)) lt is gives refl)

kept_map : {A B C : Type 0} (g : B → Option C) (h : A → B) (xs : List A) → filter_map g (map h xs) ≡ filter_map (λ x. g (h x)) xs
kept_map g h [] = refl
kept_map {C = C} g h (x ∷ xs) = ap (λ (l : List C). cons_option (g (h x)) l) (kept_map g h xs)

pub entries_more : (known : Knowledge) (all : List Update) (i : ℕ) (u : Update) (old new : List Entry) → i < length all → u ≡ get_or all i u
    → old ≡ cut_entries known (entries_in (take i all)) → new ≡ old ++ entries_from known u.from u.outer
    → new ≡ cut_entries known (entries_in (take (i + 1) all))
entries_more known all i u old new lt is before now =
    now ∙ ap₂ (λ (a b : List Entry). a ++ b) before (sym (kept_map (cut_entry known) (λ outer. record { unit = u.from; outer = outer }) u.outer))
    ∙ sym (ap (λ (l : List Update). cut_entries known (entries_in l)) (take_more all i u lt ∙ ap (λ (z : Update). take i all ++ z ∷ []) (sym is))
    ∙ ap (cut_entries known) (flat_map-append entries_of (take i all) (u ∷ []) ∙ ap (λ (l : List Entry). entries_in (take i all) ++ l) (append-nil (entries_of u)))
    ∙ filter_map-append (cut_entry known) (entries_in (take i all)) (entries_of u))

-- WHERE NOTHING CAME

-- an empty list, by its length
pub none_long : {A : Type 0} (xs : List A) → (length xs == 0) ≡ true → xs ≡ []
none_long [] e = refl
none_long (x ∷ xs) e = let zero : length (x ∷ xs) ≡ 0 = eqb-true (length (x ∷ xs)) 0 e in absurd (omega (arith, zero))

pub none_mapped : {A B : Type 0} (f : A → B) (xs : List A) → map f xs ≡ [] → xs ≡ []
none_mapped f [] e = refl
none_mapped f (x ∷ xs) e = cc

-- the variables and the counts stay

values_stay : (vars : List Output) → map (λ o. let r : Output = record { var = o.var; val = value_after [] o.var.0 (after_outputs o.var.0 [] o.val) } in r) vars ≡ vars
values_stay [] = refl
values_stay (o ∷ os) = ap (λ (l : List Output). o ∷ l) (values_stay os)

pub values_kept : (vars outputs : List Output) (writes : List Write) → outputs ≡ [] → writes ≡ [] → vars ≡ map (λ o. record { var = o.var; val = value_after writes o.var.0 (after_outputs o.var.0 outputs o.val) }) vars
values_kept vars outputs writes a b =
    sym (ap₂ (λ (os : List Output) (ws : List Write). map (λ o. let r : Output = record { var = o.var; val = value_after ws o.var.0 (after_outputs o.var.0 os o.val) } in r) vars) a b ∙ values_stay vars)

counts_stay : (unclosed : List (ActId × ℕ)) → counted (λ a. a.1 - done_count a.0.0 [] + start_count a.0.0 []) unclosed ≡ unclosed
counts_stay [] = refl
counts_stay (a ∷ rest) =
    let same : a.1 - 0 + 0 ≡ a.1 = omega arith in
    ap₂ (λ (n : ℕ) (l : List (ActId × ℕ)). let p : ActId × ℕ = (a.0, n) in p ∷ l) same (counts_stay rest)

pub counts_kept : (unclosed : List (ActId × ℕ)) (cs : List Completion) (starts : List StartAt) → cs ≡ [] → starts ≡ [] → unclosed ≡ counted (λ a. a.1 - done_count a.0.0 cs + start_count a.0.0 starts) unclosed
counts_kept unclosed cs starts a b =
    sym (ap₂ (λ (x : List Completion) (y : List StartAt). counted (λ a. a.1 - done_count a.0.0 x + start_count a.0.0 y) unclosed) a b ∙ counts_stay unclosed)

-- nothing is raised
pub none_raised : (known : List KnownEvent) (all : List Update) → flat_map (λ update. update.raised) all ≡ [] → [] ≡ events_among known (is_raised all)
none_raised [] all e = refl
none_raised (k ∷ ks) all e =
    let no : is_raised all k.id.0 ≡ false = sym (any_flat_map (λ r. r.0 == k.id.0) (λ (update : Update). update.raised) all) ∙ ap (list_any (λ r. r.0 == k.id.0)) e in
    none_raised ks all e
    ∙ sym (ap (λ (b : Bool). map (λ (known : KnownEvent). known.id) (cond b (k ∷ filter (λ known. is_raised all known.id.0) ks) (filter (λ known. is_raised all known.id.0) ks))) no)

-- no entry comes
pub none_entered : (known : Knowledge) (all : List Update) → list_all (λ update. length update.outer == 0) all ≡ true → [] ≡ cut_entries known (entries_in all)
none_entered known [] e = refl
none_entered known (u ∷ us) e = go (length u.outer == 0) refl e (none_entered known us)
  where
    go : (b : Bool) → (length u.outer == 0) ≡ b → (b && list_all (λ update. length update.outer == 0) us) ≡ true → (list_all (λ update. length update.outer == 0) us ≡ true → [] ≡ cut_entries known (entries_in us)) → [] ≡ cut_entries known (entries_in (u ∷ us))
    go true none rest on =
        on rest
        ∙ sym (ap (λ (outers : List Outer). cut_entries known (map (λ outer. record { unit = u.from; outer = outer }) outers ++ entries_in us)) (none_long u.outer none))
    go false none rest on = absurd (true≢false (sym rest))
