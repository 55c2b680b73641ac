-- The central run, line by line.
use Rattle.std.proofs.Common.{◌≡◌, ℕ, ◌+◌, ◌++◌, ◌∙◌, ap, List, ◌∷◌, ◌<◌, ◌≤◌, Err, refl, arith, length, length-append, get_or, drop, sym}
use Rattle.std.proofs.lemmas.List.{at_drop_more, append_assoc}
use Rattle.wf_model.specs.declared.ids.EventId.{EventId}
use Rattle.wf_model.specs.declared.ids.StateId.{StateId}
use Rattle.wf_model.specs.declared.chart.Chart.{Chart}
use Rattle.wf_model.specs.declared.outer.Output.{Output}
use Rattle.wf_model.specs.declared.outer.Entry.{Entry}
use Rattle.wf_semantics.specs.Standing.{Standing, in_unit_order}
use Rattle.wf_model.specs.declared.step_notes.StepNotes.{StepNotes}
use Rattle.wf_central.specs.Kept.{Kept, central_of, notes_of}
use Rattle.wf_audit.specs.declared.script.CentralLine.{CentralLine}
use Rattle.wf_audit.specs.declared.reply.Reply.TheVariants as reply
use Rattle.wf_audit.specs.declared.central.RunFault.{RunFault}
use Rattle.wf_audit.specs.declared.central.RunFault.TheVariants as faults
use Rattle.wf_audit.specs.CentralText.{states_in, vars_of, sight_of, stepped, reply_line, after_line, replies_to, Adds, GivesText}

pub sight_is : (chart : Chart) (k : Kept) (taken : ℕ) (states : List StateId) (vars : List Output) (raised : List EventId) → taken ≡ k.taken → states ≡ states_in chart (central_of chart k)
    → vars ≡ vars_of (central_of chart k) → raised ≡ k.raised → reply.Central taken states vars raised ≡ sight_of chart (central_of chart k)
unfolding central_of
sight_is chart k taken states vars raised t s v r = λ i. reply.Central (t i) (s i) (v i) (r i)

-- a step was taken
pub step_is : (chart : Chart) (k : Kept) (pending : List Entry) (step : ℕ) (notes : StepNotes) → step ≡ k.taken + 1
    → notes ≡ notes_of chart (central_of chart k) (in_unit_order chart pending) → reply.Stepped step notes ≡ stepped chart (record { central = central_of chart k; pending = pending })
unfolding central_of
step_is chart k pending step notes s n = λ i. reply.Stepped (s i) (n i)

-- the replies, one line further on
pub replies_on : (chart : Chart) (s t : Standing) (i : ℕ) (script : List (ℕ × CentralLine)) (said : ℕ × CentralLine) (old new total : List ℕ) → i < length script
    → said ≡ get_or script i said → t ≡ after_line chart s said.1 → new ≡ old ++ reply_line chart s said.0 said.1 → old ++ replies_to chart s (drop i script) ≡ total
    → new ++ replies_to chart t (drop (i + 1) script) ≡ total
replies_on chart s t i script said old new total lt is next wrote before =
    let rest = λ (u : Standing). replies_to chart u (drop (i + 1) script) in
    let line = reply_line chart s said.0 said.1 in
    let here : replies_to chart s (drop i script) ≡ line ++ rest (after_line chart s said.1) =
    at_drop_more (replies_to chart s) script i said lt ∙ ap (λ (x : ℕ × CentralLine). replies_to chart s (x ∷ drop (i + 1) script)) (sym is) in
    ap (λ (l : List ℕ). l ++ rest t) wrote ∙ append_assoc old line (rest t)
    ∙ ap (λ (u : Standing). old ++ (line ++ rest u)) next ∙ ap (λ (l : List ℕ). old ++ l) (sym here) ∙ before

-- so the text is at least as long as what was written and the next line
pub replies_long : (chart : Chart) (s : Standing) (i : ℕ) (script : List (ℕ × CentralLine)) (said : ℕ × CentralLine) (old total : List ℕ) → i < length script
    → said ≡ get_or script i said → old ++ replies_to chart s (drop i script) ≡ total → length old + length (reply_line chart s said.0 said.1) ≤ length total
replies_long chart s i script said old total lt is before =
    let line = reply_line chart s said.0 said.1 in
    let rest = replies_to chart (after_line chart s said.1) (drop (i + 1) script) in
    let whole : (old ++ line) ++ rest ≡ total = replies_on chart s (after_line chart s said.1) i script said old (old ++ line) total lt is refl refl before in
    omega (arith, ap length whole, length-append (old ++ line) rest, length-append old line)

-- a line that wasn't added
pub gives_fault : (fault : RunFault) (old new line whole : List ℕ) → Adds (Err fault) old new line → length old + length line ≤ length whole → GivesText (Err fault) whole
gives_fault faults.TooLong old new line whole long more = omega (arith, long, more)
gives_fault faults.NoMemory old new line whole long more = tt
