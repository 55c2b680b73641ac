-- Of other calls. What the records of a journal make of a history.
use Rattle.std.specs.Prelude.{ℕ, ◌+◌, ◌==◌, ◌&&◌, not, nat_lt, Bool, List, [], ◌∷◌, length, slice_index, Option, Some, None, Result, Ok, Err, is_ok, is_some, if◌then◌else◌, option_and_then}
use Rattle.std.specs.Str.{bytes_eq}
use Rattle.wf_model.specs.Limits.{max_steps}
use Rattle.wf_model.specs.declared.outer.Outer.{Outer}
use Rattle.wf_model.specs.declared.update.Update.{Update}
use Rattle.wf_parts.specs.declared.data.PartData.{PartData}
use Rattle.wf_journal.specs.Frames.{header, bodies_of}
use Rattle.wf_codec.specs.declared.record.JournalRecord.{JournalRecord}
use Rattle.wf_codec.specs.declared.record.JournalRecord.TheVariants.{Head, Admit, Turn}
use Rattle.wf_codec.specs.Records.{record_of}
use Rattle.wf_histories.specs.Histories.{History, taken}
use Rattle.wf_worlds.specs.Admitting.{lets_in}
use Rattle.wf_worlds.specs.Growing.{admitted, turned}
use Rattle.wf_worlds.specs.Worlds.{first_history}
use Rattle.wf_steps.specs.declared.fault.RecoverFault.{RecoverFault}
use Rattle.wf_steps.specs.declared.fault.RecoverFault.TheVariants.{Foreign, BadRecord}
use Rattle.wf_steps.specs.Fitting.{are_inputs}
use Rattle.wf_steps.specs.Growing.{place_of, sealing}

-- an admission follows: its request is new, and the part lets its outer in
abbrev pub admission_follows : PartData → History → ℕ → Outer → Bool
admission_follows part h request outer = not (is_some (place_of h request)) && is_ok (lets_in part h outer)

-- a Turn follows: it is of the next step, has an update of each peer, and seals what it may
abbrev pub turn_follows : PartData → History → ℕ → List Update → ℕ → Bool
turn_follows part h step inputs sealed = (step == taken h + 1) && (nat_lt (taken h) max_steps && ((sealed == sealing h) && are_inputs part step inputs))

-- the history with this record, if the record follows
unfoldable pub after : PartData → History → JournalRecord → Option History
after part h (Head version chart unit) = None
after part h (Admit request outer) = if admission_follows part h request outer then Some (admitted h (record { request = request; outer = outer })) else None
after part h (Turn step inputs sealed) = if turn_follows part h step inputs sealed then Some (turned h inputs) else None

-- the history with the record that has this body, if it is one and follows
abbrev pub after_body : PartData → History → List ℕ → Option History
after_body part h body = option_and_then (after part h) (record_of body)

-- the body at this place is no record, or doesn't follow
abbrev pub bad_at : ℕ → List ℕ → RecoverFault
bad_at at body = BadRecord at (slice_index body 0)

-- go on with what there is, or else this fault
abbrev pub or_bad : RecoverFault → Option History → (History → Result History RecoverFault) → Result History RecoverFault
or_bad fault None go = Err fault
or_bad fault (Some h) go = go h

-- the bodies of the frames from this place on, after this history
abbrev pub read_on : PartData → List (List ℕ) → ℕ → History → Result History RecoverFault
read_on part [] place h = Ok h
read_on part (body ∷ bodies) place h =
    or_bad (bad_at (place + header) body) (after_body part h body) (λ next. read_on part bodies (place + (header + length body)) next)

-- the history of a journal with this first record, which has this body
abbrev pub head_of : PartData → List ℕ → Option JournalRecord → Result History RecoverFault
head_of part body (Some (Head version chart unit)) =
    if bytes_eq chart part.chart && bytes_eq unit part.name then Ok (first_history part.unit.0)
    else Err (Foreign (record { chart = chart; unit = unit }) (record { chart = part.chart; unit = part.name }))
head_of part body (Some (Admit request outer)) = Err (bad_at header body)
head_of part body (Some (Turn step inputs sealed)) = Err (bad_at header body)
head_of part body None = Err (bad_at header body)

abbrev pub and_on : Result History RecoverFault → (History → Result History RecoverFault) → Result History RecoverFault
and_on (Ok h) go = go h
and_on (Err fault) go = Err fault

-- the history that these bodies hold, or what is wrong with them
abbrev pub history_in : PartData → List (List ℕ) → Result History RecoverFault
history_in part [] = Ok (first_history part.unit.0)
history_in part (body ∷ bodies) = and_on (head_of part body (record_of body)) (λ h. read_on part bodies (header + length body) h)

-- THE HISTORY THAT AN IMAGE HOLDS
unfoldable pub history_of : PartData → List ℕ → Result History RecoverFault
history_of part file = history_in part (bodies_of file)
