-- How the end of a history's journal moves with each record.
use Rattle.std.proofs.Common.{◌≡◌, ◌≢◌, ℕ, ◌+◌, ◌==◌, ◌&&◌, nat_lt, cond, Bool, true, false, List, [], map, length, Option, Some, None, refl, sym, ap, ap₂, ◌∙◌, arith, rules, eqb-true}
use Rattle.std.specs.Prelude.{Result, Ok, Err, OnOk}
use Rattle.std.specs.Str.{bytes_eq}
use Rattle.std.specs.List.{sum_by}
use Rattle.std.proofs.lemmas.Slice.Eq.{bytes_eq-Decides}
use Rattle.std.proofs.lemmas.List.Sums.{sum_by_push}
use Rattle.wf_model.specs.Limits.{max_steps}
use Rattle.wf_model.specs.declared.outer.Outer.{Outer}
use Rattle.wf_model.specs.declared.update.Update.{Update}
use Rattle.wf_model.proofs.Bools.{and_both}
use Rattle.wf_journal.specs.Frames.{Frame, header, end_of, bodies_of, frames_at}
use Rattle.wf_journal.specs.Journal.{IsPlace}
use Rattle.wf_codec.specs.declared.record.JournalRecord.{JournalRecord}
use Rattle.wf_codec.specs.declared.record.JournalRecord.TheVariants.{Head, Admit, Turn}
use Rattle.wf_codec.specs.Records.{record_spelling, IsRecord}
use Rattle.wf_parts.specs.declared.data.PartData.{PartData}
use Rattle.wf_histories.specs.Histories.{Admission, TurnDone, History, taken}
use Rattle.wf_worlds.specs.Growing.{admitted, turned}
use Rattle.wf_worlds.specs.Worlds.{first_history}
use Rattle.wf_steps.specs.Fitting.{are_inputs}
use Rattle.wf_steps.specs.Growing.{sealing}
use Rattle.wf_steps.specs.Records.{admission_follows, turn_follows, after}
use Rattle.wf_disk.specs.Disk.{Told}
use Rattle.wf_worlds.specs.Ends.{frame_size, end_of_history}
use Rattle.wf_steps.specs.Recovering.{EndsAt}
use Rattle.wf_steps.proofs.Reading.{no_frames}

-- the head alone
pub end_first : (part : PartData) → end_of_history part (first_history part.unit.0) ≡ frame_size (Head 1 part.chart part.name)
unfolding end_of_history
end_first part = let e : frame_size (Head 1 part.chart part.name) + 0 + 0 ≡ frame_size (Head 1 part.chart part.name) = omega arith in e

pub end_admitted : (part : PartData) (h : History) (a : Admission) → end_of_history part (admitted h a) ≡ end_of_history part h + frame_size (Admit a.request a.outer)
unfolding end_of_history
end_admitted part h a = let more = sum_by_push (λ (x : Admission). frame_size (Admit x.request x.outer)) h.admissions a in omega (arith, more)

pub end_turned : (part : PartData) (h : History) (inputs : List Update) → end_of_history part (turned h inputs) ≡ end_of_history part h + frame_size (Turn (taken h + 1) inputs (sealing h))
unfolding end_of_history
end_turned part h inputs =
    let more = sum_by_push (λ (turn : TurnDone). frame_size (Turn turn.step turn.inputs turn.sealed)) h.turns (record { step = taken h + 1; inputs = inputs; sealed = sealing h }) in
    omega (arith, more)

some_is : {a b : History} → ◌≡◌ {A = Option History} (Some a) (Some b) → a ≡ b
some_is e = cc

none_some : {h : History} → ◌≡◌ {A = Option History} None (Some h) → ⊥
none_some e = cc

-- A RECORD THAT FOLLOWS moves it by its frame
pub end_after : (part : PartData) (h next : History) (r : JournalRecord) → after part h r ≡ Some next → end_of_history part next ≡ end_of_history part h + frame_size r
unfolding after
end_after part h next (Head version chart unit) follows = absurd (none_some follows)
end_after part h next (Admit request outer) follows = go (admission_follows part h request outer) follows
  where
    go : (b : Bool) → cond b (Some (admitted h (record { request = request; outer = outer }))) None ≡ Some next → end_of_history part next ≡ end_of_history part h + frame_size (Admit request outer)
    go true e = ap (end_of_history part) (sym (some_is e)) ∙ end_admitted part h (record { request = request; outer = outer })
    go false e = absurd (none_some e)
end_after part h next (Turn step inputs sealed) follows = go (turn_follows part h step inputs sealed) refl follows
  where
    go : (b : Bool) → turn_follows part h step inputs sealed ≡ b → cond b (Some (turned h inputs)) None ≡ Some next → end_of_history part next ≡ end_of_history part h + frame_size (Turn step inputs sealed)
    go true is e =
        let a = and_both (step == taken h + 1) (nat_lt (taken h) max_steps && ((sealed == sealing h) && are_inputs part step inputs)) is in
        let b = and_both (nat_lt (taken h) max_steps) ((sealed == sealing h) && are_inputs part step inputs) a.1 in
        let c = and_both (sealed == sealing h) (are_inputs part step inputs) b.1 in
        ap (end_of_history part) (sym (some_is e)) ∙ end_turned part h inputs
        ∙ ap₂ (λ (k n : ℕ). end_of_history part h + frame_size (Turn k inputs n)) (sym (eqb-true step (taken h + 1) a.0)) (sym (eqb-true sealed (sealing h) c.0))
    go false is e = absurd (none_some e)

-- with the record's body
pub end_grows : (part part' : PartData) (h next : History) (r : JournalRecord) (body : List ℕ) → part' ≡ part → after part h r ≡ Some next → body ≡ record_spelling r → end_of_history part' next ≡ end_of_history part h + (header + length body)
end_grows part part' h next r body same follows spelled =
    ap (λ (p : PartData). end_of_history p next) same ∙ end_after part h next r follows ∙ ap (λ (bytes : List ℕ). end_of_history part h + (header + length bytes)) (sym spelled)

-- HEADS

pub own_names : (chart name chart' name' : List ℕ) → (bytes_eq chart chart' && bytes_eq name name') ≡ true → (chart ≡ chart') × (name ≡ name')
own_names chart name chart' name' same =
    let both = and_both (bytes_eq chart chart') (bytes_eq name name') same in
    let a : chart ≡ chart' = search (rules, bytes_eq-Decides chart chart', both.0) in
    let b : name ≡ name' = search (rules, bytes_eq-Decides name name', both.1) in
    (a, b)

pub head_size : {E : Type 0} (r : Result (Unit {0}) E) (part : PartData) (version : ℕ) (chart unit body : List ℕ) → IsRecord (Head version chart unit) → body ≡ record_spelling (Head version chart unit) → OnOk r ((chart ≡ part.chart) × (unit ≡ part.name)) →
    OnOk r (header + length body ≡ frame_size (Head 1 part.chart part.name))
head_size (Ok u) part version chart unit body is spelled own =
    ap (λ (bytes : List ℕ). header + length bytes) spelled ∙ ap (λ (v : ℕ). frame_size (Head v chart unit)) is.0.0 ∙ ap₂ (λ (c n : List ℕ). frame_size (Head 1 c n)) own.0 own.1
head_size (Err e) part version chart unit body is spelled own = tt

-- a file that ends where it begins has no body
pub no_bodies : (file : List ℕ) → IsPlace file 0 → 0 ≡ end_of file → bodies_of file ≡ []
unfolding bodies_of frames_at
no_bodies file is ends = ap (λ (fs : List Frame). map (λ (frame : Frame). frame.body) fs) (no_frames file 0 is ends)

pub ok_grows : {E : Type 0} (r : Result (Unit {0}) E) (part part' : PartData) (h next : History) (entry : JournalRecord) (body : List ℕ) → part' ≡ part → OnOk r (after part h entry ≡ Some next) → body ≡ record_spelling entry →
    OnOk r (end_of_history part' next ≡ end_of_history part h + (header + length body))
ok_grows (Ok u) part part' h next entry body same follows spelled = end_grows part part' h next entry body same follows spelled
ok_grows (Err e) part part' h next entry body same follows spelled = tt

-- behind a head, the frames that are left end where the history does
pub all_ends : {E : Type 0} (old mid : Told) (r : Result (Unit {0}) E) (part part' : PartData) (first past : History) (next : ℕ) (body : List ℕ) → first ≡ first_history part.unit.0 → mid.image ≡ old.image → header + length body ≡ frame_size (Head 1 part.chart part.name) →
    next ≡ 0 + (header + length body) → ((file : List ℕ) → old.image ≡ Some file → IsPlace file 0 → IsPlace file next) →
    OnOk r (next ≡ end_of_history part first → (file : List ℕ) → mid.image ≡ Some file → IsPlace file next → end_of file ≡ end_of_history part' past) → OnOk r (EndsAt old part' past)
all_ends old mid (Ok u) part part' first past next body begins same size next_is on ends = λ file image place some.
    let behind : next ≡ header + length body = omega (arith, next_is) in
    let at : next ≡ end_of_history part first = behind ∙ size ∙ sym (end_first part) ∙ ap (end_of_history part) (sym begins) in
    ends at file (same ∙ image) (on file image place)
all_ends old mid (Err e) part part' first past next body begins same size next_is on ends = tt
