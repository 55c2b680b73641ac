-- A run of a world by its own relations is a play, for some outcomes of its doubts.
use Rattle.std.proofs.Common.{◌≡◌, inl, inr, ℕ, ◌||◌, Bool, true, false, List, [], ◌∷◌, refl, sym, ◌∙◌, ap, ap₂}
use Rattle.wf_model.specs.declared.chart.Chart.{Chart}
use Rattle.wf_machine.specs.declared.line.Line.{Line}
use Rattle.wf_machine.specs.declared.reply.Reply.{Reply}
use Rattle.wf_machine.specs.Machine.{CountingMachine}
use Rattle.wf_machine.specs.Lines.{Acted, act}
use Rattle.wf_machine.specs.Runs.{Outcomes, first_outcome, other_outcomes, replies_to, after_lines, ending}
use Rattle.wf_world.specs.Sent.{is_over, passes}
use Rattle.wf_drive.specs.Driven.{Runs, MayRefuse}
use Rattle.wf_world.specs.declared.fault.ActFault.TheVariants as faults
use Rattle.wf_world.specs.States as states
use Rattle.wf_world.specs.States.{WorldState, Acts, Finishes, MayBreak}
use Rattle.wf_world.specs.Plays.{RunsArePlays, RefusalsPass}

-- these outcomes lead from a state over the lines to these replies and this state, and never to too many bytes
record Led (s : WorldState) (lines : List (ℕ × Line)) (given : List (ℕ × Reply)) (t : WorldState) (bs : List Bool) : Type 0 where
  replies : given ≡ replies_to s.chart s.machine bs lines
  machine : t.machine ≡ after_lines s.chart s.machine bs lines
  chart : t.chart ≡ s.chart
  few : passes s.chart s.machine bs lines ≡ false

both_false : (a b : Bool) → a ≡ false → b ≡ false → (a || b) ≡ false
both_false a b e f = ap₂ (λ (x y : Bool). x || y) e f

led : (lines : List (ℕ × Line)) (replies : List (ℕ × Reply)) (s t : WorldState) → Runs Acts s lines replies t → (bs : List Bool) × Led s lines replies t bs
led [] [] s t run = ([], record { replies = refl; machine = ap (λ (w : WorldState). w.machine) (sym run); chart = ap (λ (w : WorldState). w.chart) (sym run); few = refl })
led [] (r ∷ rs) s t run = absurd run
led (x ∷ xs) [] s t run = absurd run
led (x ∷ xs) (r ∷ rs) s t run =
    let u = run.1.0 in
    let did = run.1.1 in
    let stands = did.machine.0 in
    let same = did.machine.1 in
    let rest = led xs rs u t run.1.2 in
    let reply : (act s.chart s.machine stands x.1).reply ≡ r.1 = ap (λ (d : Acted). d.reply) same in
    let after : (act s.chart s.machine stands x.1).after ≡ u.machine = ap (λ (d : Acted). d.after) same in
    let here : u.machine ≡ (act s.chart s.machine stands x.1).after = sym after in (
      stands ∷ rest.0,
      record {
        replies = ap₂ (λ (p : ℕ × Reply) (q : List (ℕ × Reply)). p ∷ q) (ap₂ (λ (n : ℕ) (y : Reply). (n, y)) (sym run.0) (sym reply))
            (rest.1.replies ∙ ap₂ (λ (chart : Chart) (m : CountingMachine). replies_to chart m rest.0 xs) did.chart here);
        machine = rest.1.machine ∙ ap₂ (λ (chart : Chart) (m : CountingMachine). after_lines chart m rest.0 xs) did.chart here;
        chart = rest.1.chart ∙ did.chart;
        few = both_false _ _
            (ap₂ (λ (chart : Chart) (m : CountingMachine). is_over chart m) (sym did.chart) after ∙ did.few)
            (ap₂ (λ (chart : Chart) (m : CountingMachine). passes chart m rest.0 xs) (sym did.chart) after ∙ rest.1.few);
      },
    )

pub runs_are_plays : RunsArePlays
unfolding Rattle.wf_machine.specs.Runs.ending Rattle.wf_machine.specs.Runs.closed
runs_are_plays s t u lines replies e run end =
    let found = led lines replies s t run in
    let to = found.1 in (
      record { at_lines = found.0; at_end = end.machine.0 },
      record {
        replies = to.replies;
        ending = sym (ap₂ (λ (chart : Chart) (m : CountingMachine). ending chart m end.machine.0) (sym to.chart) (sym to.machine) ∙ end.machine.1);
        few = to.few;
      },
    )

either_true : (a b : Bool) → a ≡ true → (a || b) ≡ true
either_true a b e = ap (λ (x : Bool). x || b) e

or_true : (a b : Bool) → b ≡ true → (a || b) ≡ true
or_true true b e = refl
or_true false b e = e

-- where a line may be refused for want of room, some outcomes pass the limit there
overruns : (lines : List (ℕ × Line)) (s : WorldState) → MayRefuse {R = Reply} Acts states.MayRefuse MayBreak s lines faults.SentLimit →
    (bs : List Bool) × (passes s.chart s.machine bs lines ≡ true)
overruns [] s none = absurd none
overruns (x ∷ xs) s (inl over) = (over.0 ∷ [], either_true _ _ over.1)
overruns (x ∷ xs) s (inr later) =
    let u = later.1 in
    let did = later.2 in
    let stands = did.machine.0 in
    let rest = overruns xs u later.3 in
    let after : (act s.chart s.machine stands x.1).after ≡ u.machine = ap (λ (d : Acted). d.after) did.machine.1 in
    (stands ∷ rest.0, or_true _ _ (ap₂ (λ (chart : Chart) (m : CountingMachine). passes chart m rest.0 xs) (sym did.chart) after ∙ rest.1))

pub refusals_pass : RefusalsPass
refusals_pass s lines refused = overruns lines s refused
