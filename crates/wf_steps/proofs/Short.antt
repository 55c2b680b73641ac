-- How long the bodies of records are.
use Rattle.std.proofs.Common.{◌≡◌, ◌+◌, ◌*◌, ◌≤◌, ℕ, true, List, ◌∷◌, ◌++◌, length, arith, sym, subst, length-append}
use Rattle.wf_model.specs.declared.outer.Outer.{Outer}
use Rattle.wf_model.specs.declared.update.Update.{Update}
use Rattle.wf_codec.specs.Bodies.{IsBodyOf}
use Rattle.wf_codec.specs.Tags.{admit_tag}
use Rattle.wf_codec.specs.Spelling.{eight, outer_spelling}
use Rattle.wf_codec.specs.Records.{record_spelling}
use Rattle.wf_codec.specs.declared.record.JournalRecord.TheVariants.{Admit, Turn}
use Rattle.wf_codec.proofs.Readers.{IsBytes}
use Rattle.wf_codec.proofs.Records.{record_takes}
use Rattle.wf_codec.proofs.Lengths.{admit_short, turn_short}
use Rattle.wf_parts.specs.declared.data.PartData.{PartData}
use Rattle.wf_parts.specs.Parts.{IsPart}
use Rattle.wf_histories.specs.Histories.{History}
use Rattle.wf_owns.proofs.Small.{few}
use Rattle.wf_worlds.specs.Ends.{IsShort, longest_turn}
use Rattle.wf_steps.specs.Growing.{MayTurn}
use Rattle.wf_steps.specs.Fitting.{are_inputs}
use Rattle.wf_steps.proofs.Made.{inputs_few}

pub short_outer : (request : ℕ) (outer : Outer) (body : List ℕ) → IsBytes body → IsBodyOf (Admit request outer) body → IsShort outer
unfolding record_spelling
short_outer request outer body bytes is =
    let all = admit_short request outer (record_takes body (Admit request outer) bytes is.read).0 in
    omega (arith, all, length-append (admit_tag ∷ eight request) (outer_spelling outer))

pub short_turn : (step : ℕ) (inputs : List Update) (sealed : ℕ) (body : List ℕ) → IsBytes body → IsBodyOf (Turn step inputs sealed) body → length body ≤ 8 + 87488 * length inputs
short_turn step inputs sealed body bytes is =
    let r = record_takes body (Turn step inputs sealed) bytes is.read in
    subst (λ (b : List ℕ). length b ≤ 8 + 87488 * length inputs) (sym r.1) (turn_short step inputs sealed r.0)

pub short_inputs : (part : PartData) (is : IsPart part) (step : ℕ) (inputs : List Update) (n : ℕ) → are_inputs part step inputs ≡ true → n ≤ 8 + 87488 * length inputs → n ≤ longest_turn
short_inputs part is step inputs n suited most =
    let under = inputs_few part is step inputs suited in
    let units = (few is.chart is.accepted).units in
    omega (arith, under, units, most)
