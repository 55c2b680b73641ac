-- How long spellings are.
use Rattle.std.proofs.Common.{◌≡◌, ℕ, ◌+◌, ◌*◌, ◌≤◌, List, [], ◌∷◌, ◌++◌, length, refl, ap, ◌∙◌, arith}
use Rattle.std.specs.List.{flat_map, AllByRecursion}
use Rattle.std.proofs.lemmas.List.{length-append}
use Rattle.std.proofs.lemmas.List.Concat.{flat_map-cons}
use Rattle.wf_model.specs.declared.value.Val.{Val}
use Rattle.wf_model.specs.declared.value.Val.TheVariants as v
use Rattle.wf_model.specs.declared.outer.Output.{Output}
use Rattle.wf_model.specs.declared.outer.Outer.{Outer}
use Rattle.wf_model.specs.declared.outer.Outer.TheVariants.{Happen, Complete}
use Rattle.wf_model.specs.declared.update.Write.{Write}
use Rattle.wf_model.specs.declared.update.Update.{Update}
use Rattle.wf_codec.specs.declared.room.TheConstants.{VALUE, OUTPUT, OUTER, WRITE, MAX_SPELLING}
use Rattle.wf_codec.specs.Spelling.{two, four, eight, value_spelling, state_spelling, event_spelling, trans_spelling, write_spelling, start_spelling, output_spelling, outer_spelling, listed, spelling_of}
use Rattle.wf_codec.specs.declared.field.Numbers.{Numbers}
use Rattle.wf_codec.specs.Tags.{head_tag, admit_tag, turn_tag}
use Rattle.wf_codec.specs.Ranges.{chart_numbers, any_numbers, IsOuter, IsHeldValue, IsHeldOuter, IsInRange, IsHeld, IsUpdate}
use Rattle.wf_codec.specs.Records.{named, record_spelling}
use Rattle.wf_codec.specs.Lengths.{HeadIsShort, AdmitIsShort, TurnIsShort}
use Rattle.wf_codec.proofs.Fits.{flips_few, writes_few, raised_few}

-- ---- items one after another

length_cons : {A : Type 0} (spelling : A → List ℕ) (x : A) (xs : List A) → length (flat_map spelling (x ∷ xs)) ≡ length (spelling x) + length (flat_map spelling xs)
length_cons spelling x xs = ap length (flat_map-cons spelling x xs) ∙ length-append (spelling x) (flat_map spelling xs)

-- items of one length
even_length : {A : Type 0} (spelling : A → List ℕ) (size : ℕ) → ((x : A) → length (spelling x) ≡ size) → (xs : List A) → length (flat_map spelling xs) ≡ size * length xs
even_length spelling size each [] = omega arith
even_length spelling size each (x ∷ xs) = omega (arith, length_cons spelling x xs, each x, even_length spelling size each xs)

-- items of at most a length
most_length : {A : Type 0} (spelling : A → List ℕ) (size : ℕ) (P : A → Type 0) → ((x : A) → P x → length (spelling x) ≤ size) → (xs : List A) → AllByRecursion P xs → length (flat_map spelling xs) ≤ size * length xs
most_length spelling size P each [] all = omega arith
most_length spelling size P each (x ∷ xs) all = omega (arith, length_cons spelling x xs, each x all.0, most_length spelling size P each xs all.1)

-- ---- an update

listed_length : {A : Type 0} (spelling : A → List ℕ) (xs : List A) → length (listed spelling xs) ≡ 2 + length (flat_map spelling xs)
listed_length spelling xs = length-append (two (length xs)) (flat_map spelling xs)

-- the parts of a spelling of which each has one length, and the two of which each has its own
pub spelling_length : (u : Update) → length (spelling_of u) ≡ 18 + 2 * length u.flips + length (flat_map write_spelling u.writes) + 2 * length u.raised + 5 * length u.starts + 2 * length u.fired + length (flat_map outer_spelling u.outer)
unfolding spelling_of
spelling_length u =
    let outer = listed outer_spelling u.outer in
    let fired = listed trans_spelling u.fired ++ outer in
    let starts = listed start_spelling u.starts ++ fired in
    let raised = listed event_spelling u.raised ++ starts in
    let writes = listed write_spelling u.writes ++ raised in
    let flips = listed state_spelling u.flips ++ writes in
    omega (
      arith,
      length-append (four u.step) flips,
      length-append (listed state_spelling u.flips) writes,
      listed_length state_spelling u.flips,
      even_length state_spelling 2 (λ x. refl) u.flips,
      length-append (listed write_spelling u.writes) raised,
      listed_length write_spelling u.writes,
      length-append (listed event_spelling u.raised) starts,
      listed_length event_spelling u.raised,
      even_length event_spelling 2 (λ x. refl) u.raised,
      length-append (listed start_spelling u.starts) fired,
      listed_length start_spelling u.starts,
      even_length start_spelling 5 (λ x. refl) u.starts,
      length-append (listed trans_spelling u.fired) outer,
      listed_length trans_spelling u.fired,
      even_length trans_spelling 2 (λ x. refl) u.fired,
      listed_length outer_spelling u.outer,
    )

-- ---- how long at most

value_most : (x : Val) → IsHeldValue x → length (value_spelling x) ≤ VALUE
unfolding value_spelling
value_most (v.Bool b) held = omega arith
value_most (v.Int z) held = omega arith
value_most (v.Text cs) held = omega (arith, held.0)

pub write_length : (w : Write) → length (write_spelling w) ≡ 4 + length (value_spelling w.val)
write_length w = omega (arith, length-append (two w.var.0) (two w.trans.0 ++ value_spelling w.val), length-append (two w.trans.0) (value_spelling w.val))

pub output_length : (o : Output) → length (output_spelling o) ≡ 2 + length (value_spelling o.val)
output_length o = length-append (two o.var.0) (value_spelling o.val)

pub completion_length : (item act : ℕ) (outputs : List Output) → length (outer_spelling (Complete item (record { 0 = act }) outputs)) ≡ 8 + length (flat_map output_spelling outputs)
unfolding outer_spelling
completion_length item act outputs =
    let behind = length outputs ∷ flat_map output_spelling outputs in
    omega (arith, length-append (four item) (two act ++ behind), length-append (two act) behind)

outer_most : (numbers : Numbers) (o : Outer) → IsOuter numbers o → IsHeldOuter o → length (outer_spelling o) ≤ OUTER
unfolding outer_spelling
outer_most numbers (Happen e) ranged held = omega arith
outer_most numbers (Complete item act outputs) ranged held =
    let most = most_length output_spelling OUTPUT (λ o. IsHeldValue o.val) (λ o h. omega (arith, output_length o, value_most o.val h)) outputs held.1 in
    omega (arith, completion_length item act.0 outputs, most, ranged.2)

outers_most : (os : List Outer) → AllByRecursion (IsOuter chart_numbers) os → AllByRecursion IsHeldOuter os → length (flat_map outer_spelling os) ≤ OUTER * length os
outers_most [] ranged held = omega arith
outers_most (o ∷ os) ranged held = omega (arith, length_cons outer_spelling o os, outer_most chart_numbers o ranged.0 held.0, outers_most os ranged.1 held.1)

-- an update has a short spelling
pub spelling_short : (u : Update) → IsUpdate u → length (spelling_of u) ≤ MAX_SPELLING
spelling_short u is =
    let writes = most_length write_spelling WRITE (λ w. IsHeldValue w.val) (λ w h. omega (arith, write_length w, value_most w.val h)) u.writes is.1.0 in
    let outers = outers_most u.outer is.0.outer is.1.1 in
    omega (arith, spelling_length u, flips_few u is.0, writes_few u is.0, raised_few u is.0, is.0.starts_few, is.0.fired_few, is.0.outer_few, writes, outers)

-- ---- records

pub head_short : HeadIsShort
unfolding record_spelling
head_short version chart unit is = omega (arith, length-append (head_tag ∷ version ∷ named chart) (named unit), is.0.1.1, is.0.2.1)

pub admit_short : AdmitIsShort
unfolding record_spelling
admit_short request outer is = omega (arith, length-append (admit_tag ∷ eight request) (outer_spelling outer), outer_most any_numbers outer is.0 is.1.1)

all_updates : (us : List Update) → AllByRecursion IsInRange us → AllByRecursion IsHeld us → AllByRecursion IsUpdate us
all_updates [] ranged held = tt
all_updates (u ∷ us) ranged held = ((ranged.0, held.0), all_updates us ranged.1 held.1)

pub turn_short : TurnIsShort
unfolding record_spelling
turn_short step inputs sealed is =
    omega (
      arith,
      length-append (turn_tag ∷ four step) (length inputs ∷ flat_map spelling_of inputs ++ two sealed),
      length-append (length inputs ∷ flat_map spelling_of inputs) (two sealed),
      most_length spelling_of MAX_SPELLING IsUpdate spelling_short inputs (all_updates inputs is.0.0 is.1.1),
    )
