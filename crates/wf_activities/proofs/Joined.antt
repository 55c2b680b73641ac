-- Items as they are kept: what was started, beside the bits that say what is closed.
use Rattle.std.proofs.Common.{◌≡◌, ℕ, zero, suc, ◌-◌, ◌<◌, ◌≤◌, cond, Bool, true, false, List, [], ◌∷◌, ◌++◌, length, map, replicate, take, drop, get_or, set, Option, Some, None, Result, Ok, is_ok, refl, sym, ◌∙◌, ap, ap₂, arith, true≢false, length-append}
use Rattle.std.specs.List.{slice_get, zip}
use Rattle.std.proofs.lemmas.List.{map-append, drop_at, take_all}
use Rattle.std.proofs.lemmas.Simd.{map-map}
use Rattle.std.specs.Option.{option_map}
use Rattle.std.proofs.lemmas.Option.{slice_get_past}
use Rattle.wf_model.specs.declared.ids.ActId.{ActId}
use Rattle.wf_model.specs.declared.update.StartAt.{StartAt}
use Rattle.wf_semantics.specs.Items.{Item, new_item, item_at, close}
use Rattle.wf_activities.specs.UnitItems.{at_step, is_open, items_from}

abbrev made : ActId × ℕ → Bool → Item
made s b = record { act = s.0; closed = b }

pub length_items : (ss : List (ActId × ℕ)) (bs : List Bool) → length bs ≡ length ss → length (items_from ss bs) ≡ length ss
length_items [] bs e = refl
length_items (s ∷ ss) [] e = absurd (omega arith)
length_items (s ∷ ss) (b ∷ bs) e = let r : length (items_from ss bs) ≡ length ss = length_items ss bs (omega arith) in omega arith

-- the item at a place
pub get_item : (ss : List (ActId × ℕ)) (bs : List Bool) (k : ℕ) (s : ActId × ℕ) (b : Bool) → length bs ≡ length ss → k < length ss → s ≡ get_or ss k s → b ≡ get_or bs k b
    → slice_get (items_from ss bs) k ≡ Some (record { act = s.0; closed = b })
get_item [] bs k s b e lt hs hb = absurd (omega arith)
get_item (x ∷ ss) [] k s b e lt hs hb = absurd (omega arith)
get_item (x ∷ ss) (y ∷ bs) zero s b e lt hs hb = ap₂ (λ (t : ActId × ℕ) (c : Bool). Some (made t c)) (sym hs) (sym hb)
get_item (x ∷ ss) (y ∷ bs) (suc k) s b e lt hs hb = get_item ss bs k s b (omega arith) (omega arith) hs hb

within : (items : List Item) (k : ℕ) → is_open (slice_get items k) ≡ true → k < length items
within [] k h = absurd (true≢false (sym h))
within (x ∷ xs) zero h = omega arith
within (x ∷ xs) (suc k) h = let r : k < length xs = within xs k h in omega arith

-- an item that is there has one of the numbers from 1
pub open_within : (items : List Item) (n : ℕ) → is_open (item_at items n) ≡ true → (0 < n) × (n ≤ length items)
open_within items zero h = absurd (true≢false (sym h))
open_within items (suc k) h = let r : k < length items = within items k h in (omega arith, omega arith)

pub close_items : (ss : List (ActId × ℕ)) (bs : List Bool) (k : ℕ) → items_from ss (set bs k true) ≡ close (suc k) (items_from ss bs)
close_items [] bs k = refl
close_items (s ∷ ss) [] k = refl
close_items (s ∷ ss) (b ∷ bs) zero = refl
close_items (s ∷ ss) (b ∷ bs) (suc k) = ap (λ (l : List Item). made s b ∷ l) (close_items ss bs k)

pub items_append : (ss fs : List (ActId × ℕ)) (bs cs : List Bool) → length bs ≡ length ss → items_from (ss ++ fs) (bs ++ cs) ≡ items_from ss bs ++ items_from fs cs
items_append [] fs [] cs e = refl
items_append [] fs (b ∷ bs) cs e = absurd (omega arith)
items_append (s ∷ ss) fs [] cs e = absurd (omega arith)
items_append (s ∷ ss) fs (b ∷ bs) cs e = ap (λ (l : List Item). made s b ∷ l) (items_append ss fs bs cs (omega arith))

-- what a step starts
pub fresh_items : (step : ℕ) (ls : List StartAt) → items_from (at_step step ls) (replicate (length (at_step step ls)) false) ≡ map (λ s. new_item s.act) ls
fresh_items step [] = refl
fresh_items step (l ∷ ls) = ap (λ (r : List Item). new_item l.act ∷ r) (fresh_items step ls)

pub steps_append : (ss : List (ActId × ℕ)) (step : ℕ) (ls : List StartAt) → map (λ s. s.1) (ss ++ at_step step ls) ≡ map (λ s. s.1) ss ++ map (λ s. step) ls
steps_append ss step ls =
    map-append (λ (s : ActId × ℕ). s.1) ss (at_step step ls)
    ∙ ap (λ (l : List ℕ). map (λ (s : ActId × ℕ). s.1) ss ++ l) (map-map (λ (s : ActId × ℕ). s.1) (λ (s : StartAt). (s.act, step)) ls)

-- what was started is told by the activities and the steps
pub zip_parts : (ss : List (ActId × ℕ)) (bs : List Bool) → length bs ≡ length ss → ss ≡ zip (map (λ x. x.act) (items_from ss bs)) (map (λ s. s.1) ss)
zip_parts [] bs e = refl
zip_parts (s ∷ ss) [] e = absurd (omega arith)
zip_parts (s ∷ ss) (b ∷ bs) e = ap (λ (l : List (ActId × ℕ)). s ∷ l) (zip_parts ss bs (omega arith))

-- an open item's place
pub open_place : (ss : List (ActId × ℕ)) (bs : List Bool) (n : ℕ) → length bs ≡ length ss → is_open (item_at (items_from ss bs) n) ≡ true
    → (n ≡ suc (n - 1)) × (n - 1 < length ss) × (is_open (slice_get (items_from ss bs) (n - 1)) ≡ true)
open_place ss bs zero e h = absurd (true≢false (sym h))
open_place ss bs (suc k) e h =
    let r = open_within (items_from ss bs) (suc k) h in
    let back : suc k - 1 ≡ k = omega arith in
    (omega arith, omega (arith, r.1, length_items ss bs e), ap (λ (i : ℕ). is_open (slice_get (items_from ss bs) i)) back ∙ h)

-- what is known of an item: its activity, and whether it is closed
abbrev pub seen : Option Item → Option (ActId × Bool)
seen o = option_map (λ i. (i.act, i.closed)) o

pub find_item : (ss : List (ActId × ℕ)) (bs : List Bool) (n : ℕ) (s : ActId × ℕ) (b : Bool) → length bs ≡ length ss → 0 < n → n - 1 < length ss → s ≡ get_or ss (n - 1) s → b ≡ get_or bs (n - 1) b
    → Some (s.0, b) ≡ seen (item_at (items_from ss bs) n)
find_item ss bs zero s b e pos lt hs hb = absurd (omega arith)
find_item ss bs (suc k) s b e pos lt hs hb =
    let back : suc k - 1 ≡ k = omega arith in
    sym (ap seen (get_item ss bs k s b e (omega arith) (hs ∙ ap (λ (i : ℕ). get_or ss i s) back) (hb ∙ ap (λ (i : ℕ). get_or bs i b) back)))

pub find_none : (ss : List (ActId × ℕ)) (bs : List Bool) (n : ℕ) → length bs ≡ length ss → 0 < n → length ss ≤ n - 1 → None ≡ seen (item_at (items_from ss bs) n)
find_none ss bs zero e pos le = absurd (omega arith)
find_none ss bs (suc k) e pos le = sym (ap seen (slice_get_past (items_from ss bs) k (omega (arith, length_items ss bs e))))

pub grown_items : (ss fs ts : List (ActId × ℕ)) (bs cs : List Bool) (step : ℕ) (ls : List StartAt) → length bs ≡ length ss → fs ≡ at_step step ls → ts ≡ ss ++ fs → cs ≡ bs ++ replicate (length fs) false
    → items_from ts cs ≡ items_from ss bs ++ map (λ s. new_item s.act) ls
grown_items ss fs ts bs cs step ls e hf ht hc =
    ap₂ items_from ht hc
    ∙ items_append ss fs bs (replicate (length fs) false) e
    ∙ ap (λ (l : List (ActId × ℕ)). items_from ss bs ++ items_from l (replicate (length l) false)) hf
    ∙ ap (λ (l : List Item). items_from ss bs ++ l) (fresh_items step ls)

pub grown_steps : (ss fs ts : List (ActId × ℕ)) (step : ℕ) (ls : List StartAt) → fs ≡ at_step step ls → ts ≡ ss ++ fs → map (λ s. s.1) ts ≡ map (λ s. s.1) ss ++ map (λ s. step) ls
grown_steps ss fs ts step ls hf ht =
    ap (λ (l : List (ActId × ℕ)). map (λ (s : ActId × ℕ). s.1) l) (ht ∙ ap (λ (l : List (ActId × ℕ)). ss ++ l) hf) ∙ steps_append ss step ls

-- what stands behind a list
pub new_part : (ss fs ts : List (ActId × ℕ)) (n : ℕ) → n ≡ length ss → ts ≡ ss ++ fs → take (length ts - n) (drop n ts) ≡ fs
new_part ss fs ts n e h =
    let behind : drop n ts ≡ fs = ap (drop n) h ∙ drop_at ss fs n (sym e) in
    ap (take (length ts - n)) behind ∙ take_all (length ts - n) fs (omega (arith, e, ap length h, length-append ss fs))

-- a push that answered Ok
pub ok_pushed : {T E X : Type 0} (r : Result T E) (x : T) (new more old : List X) → r ≡ Ok x → new ≡ cond (is_ok r) more old → new ≡ more
ok_pushed {T} {E} r x new more old e h = h ∙ ap (λ (q : Result T E). cond (is_ok q) more old) e
