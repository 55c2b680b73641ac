-- Records: what is read is spelled so and in its ranges, and what is spelled is read again, whatever follows.
use Rattle.std.proofs.Common.{◌≡◌, ◌⊎◌, inl, inr, ℕ, ◌+◌, ◌^◌, ◌<◌, Bool, true, false, cond, eqb, List, [], ◌∷◌, ◌++◌, length, Option, Some, None, Result, Ok, Err, refl, sym, ap, subst, ◌∙◌, arith}
use Rattle.std.specs.Prelude.{IfOk}
use Rattle.std.specs.List.{flat_map}
use Rattle.std.specs.Int.{w32}
use Rattle.std.proofs.lemmas.Bool.{eqb-true}
use Rattle.std.proofs.lemmas.List.{append-nil}
use Rattle.wf_model.specs.Limits.{max_units, max_name}
use Rattle.wf_model.specs.declared.outer.Outer.{Outer}
use Rattle.wf_model.specs.declared.outer.Outer.TheVariants.{Happen}
use Rattle.wf_model.specs.declared.update.Update.{Update}
use Rattle.wf_codec.specs.declared.fault.Misfit.{Misfit}
use Rattle.wf_codec.specs.declared.fault.RecordFault.{RecordFault}
use Rattle.wf_codec.specs.declared.record.JournalRecord.{JournalRecord}
use Rattle.wf_codec.specs.declared.record.JournalRecord.TheVariants.{Head, Admit, Turn}
use Rattle.wf_codec.specs.Tags.{head_tag, admit_tag, turn_tag}
use Rattle.wf_codec.specs.Spelling.{two, four, eight, outer_spelling, spelling_of}
use Rattle.wf_codec.specs.Ranges.{any_numbers, IsInRange, IsHeld, IsUpdate}
use Rattle.wf_codec.specs.Records.{is_head_char, named, record_spelling, IsHeadName, IsRecord, head_name_at, head_at, admit_at, turn_at, record_at, whole, record_of}
use Rattle.wf_codec.specs.Answers.{AnswersRecord}
use Rattle.wf_codec.proofs.Readers.{IsBytes, IsBytes-rest, ok_is, Takes, Reads, Reads-then, Reads-as, Reads-of}
use Rattle.wf_codec.proofs.Numbers.{IsWithin, Reads-that, Reads-byte, Reads-two, Reads-eight, Reads-number, wide32}
use Rattle.wf_codec.proofs.Lists.{EachFits, Reads-items, IsSplit, in_order, each_fits, all_both, all_as}
use Rattle.wf_codec.proofs.Values.{each_one_byte, all_pass, each_passes}
use Rattle.wf_codec.proofs.Outers.{IsWhole, Reads-outer}
use Rattle.wf_codec.proofs.Updates.{IsNextUpdate, Reads-update}

-- ---- names of a head

Reads-name : Reads head_name_at named IsHeadName
unfolding head_name_at
Reads-name =
    Reads-as named IsHeadName
    (Reads-then length (Reads-byte 1 (max_name + 1)) (λ n fit. Reads-items (λ before. Reads-that is_head_char) n None) (λ n cs fit fits. fits.0))
    (λ cs fit. ap (λ (s : List ℕ). length cs ∷ s) (each_one_byte cs))
    (λ cs fit. (fit.0.0, omega (arith, fit.0.1), all_pass is_head_char None cs fit.1.1))
    (λ cs fit. ((fit.0, omega (arith, fit.1)), (refl, each_passes is_head_char None cs fit.2)))

-- ---- a record by its tag

abbrev tag_of : JournalRecord → ℕ
tag_of (Head version chart unit) = head_tag
tag_of (Admit request outer) = admit_tag
tag_of (Turn step inputs sealed) = turn_tag

abbrev behind_tag : JournalRecord → List ℕ
behind_tag (Head version chart unit) = version ∷ named chart ++ named unit
behind_tag (Admit request outer) = eight request ++ outer_spelling outer
behind_tag (Turn step inputs sealed) = four step ++ (length inputs ∷ flat_map spelling_of inputs ++ two sealed)

abbrev IsTagged : ℕ → JournalRecord → Type 0
IsTagged tag r = (tag_of r ≡ tag) × IsRecord r

-- the parts of a head

abbrev version_of : JournalRecord → ℕ
version_of (Head version chart unit) = version
version_of (Admit request outer) = 0
version_of (Turn step inputs sealed) = 0

abbrev chart_of : JournalRecord → List ℕ
chart_of (Head version chart unit) = chart
chart_of (Admit request outer) = []
chart_of (Turn step inputs sealed) = []

abbrev unit_of : JournalRecord → List ℕ
unit_of (Head version chart unit) = unit
unit_of (Admit request outer) = []
unit_of (Turn step inputs sealed) = []

abbrev AreHeadParts : JournalRecord → Type 0
AreHeadParts r = IsWithin 1 2 (version_of r) × (IsHeadName (chart_of r) × (IsHeadName (unit_of r) × (r ≡ Head (version_of r) (chart_of r) (unit_of r))))

head_is : (r : JournalRecord) → AreHeadParts r → IsTagged head_tag r
head_is r (version, (chart, (unit, same))) =
    let one : version_of r ≡ 1 = omega (arith, version.0, version.1) in
    subst (λ (s : JournalRecord). IsTagged head_tag s) (sym same) (refl, ((one, chart, unit), tt))

head_fits : (r : JournalRecord) → IsTagged head_tag r → AreHeadParts r
head_fits (Head version chart unit) (tag, (ranges, held)) = ((omega (arith, ranges.0), omega (arith, ranges.0)), (ranges.1, (ranges.2, refl)))
head_fits (Admit request outer) h = absurd (omega arith)
head_fits (Turn step inputs sealed) h = absurd (omega arith)

Reads-head : Reads head_at behind_tag (IsTagged head_tag)
unfolding head_at
Reads-head =
    Reads-as behind_tag (IsTagged head_tag)
    (Reads-then version_of (Reads-byte 1 2)
    (λ version version_fits. Reads-then chart_of Reads-name
    (λ chart chart_fits. Reads-of unit_of (λ unit. Head version chart unit) Reads-name (λ unit fit. refl))
    (λ chart r fit fits. ap chart_of fits.1))
    (λ version r fit fits. ap version_of fits.1.1))
    (λ r fit. subst (λ (s : JournalRecord). version_of s ∷ named (chart_of s) ++ named (unit_of s) ≡ behind_tag s) (sym fit.1.1.1) refl)
    head_is head_fits

-- the parts of an admission

abbrev request_of : JournalRecord → ℕ
request_of (Head version chart unit) = 0
request_of (Admit request outer) = request
request_of (Turn step inputs sealed) = 0

abbrev no_outer : Outer
no_outer = Happen (record { 0 = 0 })

abbrev outer_of : JournalRecord → Outer
outer_of (Head version chart unit) = no_outer
outer_of (Admit request outer) = outer
outer_of (Turn step inputs sealed) = no_outer

abbrev AreAdmitParts : JournalRecord → Type 0
AreAdmitParts r = IsWithin 0 (2 ^ 64) (request_of r) × (IsWhole any_numbers (outer_of r) × (r ≡ Admit (request_of r) (outer_of r)))

admit_is : (r : JournalRecord) → AreAdmitParts r → IsTagged admit_tag r
admit_is r (request, (outer, same)) = subst (λ (s : JournalRecord). IsTagged admit_tag s) (sym same) (refl, (outer.0, (request.1, outer.1)))

admit_fits : (r : JournalRecord) → IsTagged admit_tag r → AreAdmitParts r
admit_fits (Head version chart unit) h = absurd (omega arith)
admit_fits (Admit request outer) (tag, (ranges, held)) = ((omega arith, held.0), ((ranges, held.1), refl))
admit_fits (Turn step inputs sealed) h = absurd (omega arith)

Reads-admit : Reads admit_at behind_tag (IsTagged admit_tag)
unfolding admit_at
Reads-admit =
    Reads-as behind_tag (IsTagged admit_tag)
    (Reads-then request_of Reads-eight
    (λ request request_fits. Reads-of outer_of (λ outer. Admit request outer) (Reads-outer any_numbers (omega arith, omega arith, omega arith) None) (λ outer fit. refl))
    (λ request r fit fits. ap request_of fits.1))
    (λ r fit. subst (λ (s : JournalRecord). eight (request_of s) ++ outer_spelling (outer_of s) ≡ behind_tag s) (sym fit.1.1) refl)
    admit_is admit_fits

-- the parts of a turn

updates_split : IsSplit IsNextUpdate IsUpdate (λ u v. u.from.0 < v.from.0)
updates_split = record {
  alone = λ u fit. fit.1;
  behind = λ u v fit. (fit.1, omega (arith, fit.0.0));
  first = λ u is. ((omega arith, is.0.from), is);
  next = λ u v is over. ((omega (arith, over), is.0.from), is);
}

few_updates : (u : Update) (us : List Update) → EachFits IsNextUpdate (Some u) us → u.from.0 < max_units → u.from.0 + length us < max_units
few_updates u [] fits below = omega arith
few_updates u (v ∷ us) fits below = omega (arith, fits.0.0.0, few_updates v us fits.1 fits.0.0.1)

few_inputs : (us : List Update) → EachFits IsNextUpdate None us → length us < 256
few_inputs [] fits = omega arith
few_inputs (u ∷ us) fits = omega (arith, few_updates u us fits.1 fits.0.0.1)

abbrev step_of : JournalRecord → ℕ
step_of (Head version chart unit) = 0
step_of (Admit request outer) = 0
step_of (Turn step inputs sealed) = step

abbrev inputs_of : JournalRecord → List Update
inputs_of (Head version chart unit) = []
inputs_of (Admit request outer) = []
inputs_of (Turn step inputs sealed) = inputs

abbrev sealed_of : JournalRecord → ℕ
sealed_of (Head version chart unit) = 0
sealed_of (Admit request outer) = 0
sealed_of (Turn step inputs sealed) = sealed

abbrev AreTurnParts : JournalRecord → Type 0
AreTurnParts r =
    IsWithin 0 (2 ^ 32) (step_of r) × (IsWithin 0 256 (length (inputs_of r)) × (((length (inputs_of r) ≡ length (inputs_of r)) × EachFits IsNextUpdate None (inputs_of r))
    × (IsWithin 0 (2 ^ 16) (sealed_of r) × (r ≡ Turn (step_of r) (inputs_of r) (sealed_of r)))))

turn_is : (r : JournalRecord) → AreTurnParts r → IsTagged turn_tag r
turn_is r (step, (count, ((len, fits), (sealed, same)))) =
    let each = in_order updates_split (inputs_of r) fits in
    let ranges = all_as IsUpdate IsInRange (λ u p. p.0) (inputs_of r) each.0 in
    let held = all_as IsUpdate IsHeld (λ u p. p.1) (inputs_of r) each.0 in
    subst (λ (s : JournalRecord). IsTagged turn_tag s) (sym same) (refl, ((ranges, each.1, sealed.1), (step.1, held)))

turn_fits : (r : JournalRecord) → IsTagged turn_tag r → AreTurnParts r
turn_fits (Head version chart unit) h = absurd (omega arith)
turn_fits (Admit request outer) h = absurd (omega arith)
turn_fits (Turn step inputs sealed) (tag, (ranges, held)) =
    let each = each_fits updates_split inputs (all_both IsInRange IsHeld inputs ranges.0 held.1) ranges.1 in
    ((omega arith, held.0), ((omega arith, few_inputs inputs each), ((refl, each), ((omega arith, ranges.2), refl))))

Reads-turn : Reads turn_at behind_tag (IsTagged turn_tag)
unfolding turn_at
Reads-turn =
    Reads-as behind_tag (IsTagged turn_tag)
    (Reads-then step_of (Reads-number w32 (2 ^ 32) wide32 0 (2 ^ 32) (omega arith))
    (λ step step_fits. Reads-then (λ (r : JournalRecord). length (inputs_of r)) (Reads-byte 0 256)
    (λ n n_fits. Reads-then inputs_of (Reads-items Reads-update n None)
    (λ inputs inputs_fit. Reads-of sealed_of (λ sealed. Turn step inputs sealed) (Reads-two 0 (2 ^ 16) (omega arith)) (λ sealed fit. refl))
    (λ inputs r fit fits. ap inputs_of fits.1))
    (λ n r fit fits. fits.0.0))
    (λ step r fit fits. ap step_of fits.1.1.1))
    (λ r fit. subst (λ (s : JournalRecord). four (step_of s) ++ (length (inputs_of s) ∷ flat_map spelling_of (inputs_of s) ++ two (sealed_of s)) ≡ behind_tag s) (sym fit.1.1.1.1) refl)
    turn_is turn_fits

-- ---- any record

either : {A : Type 0} (b : Bool) (x y : Result A Misfit) (z : A) → cond b x y ≡ Ok z → ((b ≡ true) × (x ≡ Ok z)) ⊎ (y ≡ Ok z)
either true x y z e = inl (refl, e)
either false x y z e = inr e

behind_tag_takes : (tag : ℕ) (bytes : List ℕ) (r : JournalRecord) (rest : List ℕ) → IsBytes bytes → record_at (tag ∷ bytes) ≡ Ok (r, rest) → Takes bytes (behind_tag r) rest × IsTagged tag r
unfolding record_at
behind_tag_takes tag bytes r rest fits e =
    elim (either (eqb tag head_tag) (head_at bytes) _ (r, rest) e) [
      | inl head ↦ subst (λ (t : ℕ). Takes bytes (behind_tag r) rest × IsTagged t r) (sym (eqb-true tag head_tag head.0)) (Reads-head.takes bytes r rest fits head.1)
      | inr others ↦ elim (either (eqb tag admit_tag) (admit_at bytes) _ (r, rest) others) [
        | inl admit ↦ subst (λ (t : ℕ). Takes bytes (behind_tag r) rest × IsTagged t r) (sym (eqb-true tag admit_tag admit.0)) (Reads-admit.takes bytes r rest fits admit.1)
        | inr last ↦ elim (either (eqb tag turn_tag) (turn_at bytes) _ (r, rest) last) [
          | inl turn ↦ subst (λ (t : ℕ). Takes bytes (behind_tag r) rest × IsTagged t r) (sym (eqb-true tag turn_tag turn.0)) (Reads-turn.takes bytes r rest fits turn.1)
          | inr bad ↦ absurd cc
        ]
      ]
    ]

tagged_spelling : (r : JournalRecord) → tag_of r ∷ behind_tag r ≡ record_spelling r
unfolding record_spelling
tagged_spelling (Head version chart unit) = refl
tagged_spelling (Admit request outer) = refl
tagged_spelling (Turn step inputs sealed) = refl

pub record_at_takes : (bytes : List ℕ) (r : JournalRecord) (rest : List ℕ) → IsBytes bytes → record_at bytes ≡ Ok (r, rest) → Takes bytes (record_spelling r) rest × IsRecord r
unfolding record_at
record_at_takes [] r rest fits e = absurd cc
record_at_takes (tag ∷ bytes) r rest fits e =
    let t = behind_tag_takes tag bytes r rest (IsBytes-rest tag bytes fits) e in
    let parts : tag ∷ bytes ≡ record_spelling r ++ rest =
    ap (λ (b : List ℕ). tag ∷ b) t.0.parts ∙ ap (λ (n : ℕ). n ∷ (behind_tag r ++ rest)) (sym t.1.0) ∙ ap (λ (b : List ℕ). b ++ rest) (tagged_spelling r) in
    (record { parts = parts; rest_fits = t.0.rest_fits }, t.1.1)

pub record_at_again : (r : JournalRecord) (rest : List ℕ) → IsRecord r → record_at (record_spelling r ++ rest) ≡ Ok (r, rest)
unfolding record_at record_spelling
record_at_again (Head version chart unit) rest is = Reads-head.again (Head version chart unit) rest (refl, is)
record_at_again (Admit request outer) rest is = Reads-admit.again (Admit request outer) rest (refl, is)
record_at_again (Turn step inputs sealed) rest is = Reads-turn.again (Turn step inputs sealed) rest (refl, is)

pub Reads-record : Reads record_at record_spelling IsRecord
Reads-record = record { takes = record_at_takes; again = record_at_again }

-- ---- the record that is a whole body

whole_is : (read : Result (JournalRecord × List ℕ) Misfit) (r : JournalRecord) → whole read ≡ Some r → read ≡ Ok (r, [])
whole_is (Ok (s, [])) r e =
    let same : s ≡ r = cc in
    ap (λ (x : JournalRecord). Ok (x, [])) same
whole_is (Ok (s, b ∷ rest)) r e = absurd cc
whole_is (Err misfit) r e = absurd cc

pub record_takes : (body : List ℕ) (r : JournalRecord) → IsBytes body → record_of body ≡ Some r → IsRecord r × (body ≡ record_spelling r)
unfolding record_of
record_takes body r fits e =
    let t = record_at_takes body r [] fits (whole_is (record_at body) r e) in
    (t.1, t.0.parts ∙ append-nil (record_spelling r))

pub record_again : (r : JournalRecord) → IsRecord r → record_of (record_spelling r) ≡ Some r
unfolding record_of
record_again r is =
    ap (λ (body : List ℕ). whole (record_at body)) (sym (append-nil (record_spelling r))) ∙ ap whole (record_at_again r [] is)

-- two records with bodies at the front of the same bytes are one
pub one_record : (a b : JournalRecord) (x y : List ℕ) → IsRecord a → IsRecord b → record_spelling a ++ x ≡ record_spelling b ++ y → (a ≡ b) × (x ≡ y)
one_record a b x y is_a is_b e =
    let same = ok_is (a, x) (b, y) (sym (record_at_again a x is_a) ∙ ap record_at e ∙ record_at_again b y is_b) in
    (ap (λ (p : JournalRecord × List ℕ). p.0) same, ap (λ (p : JournalRecord × List ℕ). p.1) same)

-- ---- the clauses of a function that answers the record of a body

pub is_found : (body : List ℕ) (result : Result JournalRecord RecordFault) → IsBytes body → AnswersRecord result (record_of body) → IfOk result (λ r. IsRecord r × (body ≡ record_spelling r))
is_found body (Ok r) fits answers = record_takes body r fits answers
is_found body (Err e) fits answers = tt

pub is_only : (body : List ℕ) (result : Result JournalRecord RecordFault) → AnswersRecord result (record_of body)
    → (r : JournalRecord) → IsRecord r → body ≡ record_spelling r → AnswersRecord result (Some r)
is_only body result answers r is e = subst (λ (o : Option JournalRecord). AnswersRecord result o) (ap record_of e ∙ record_again r is) answers
