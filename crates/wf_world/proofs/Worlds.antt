-- A line of a world, by what it does to its fleet.
use Rattle.std.proofs.Common.{◌≡◌, ℕ, ◌+◌, ◌<◌, ◌≤◌, ◌==◌, cond, Bool, true, false, refl, arith}
use Rattle.wf_model.specs.Limits.{max_lines}
use Rattle.wf_model.specs.declared.ids.UnitId.{UnitId}
use Rattle.wf_machine.specs.declared.line.Line.{Line}
use Rattle.wf_machine.specs.declared.line.Line.TheVariants as line
use Rattle.wf_machine.specs.declared.reply.Reply.{Reply}
use Rattle.wf_machine.specs.Lines.{send, round, act}
use Rattle.wf_machine.specs.Runs.{MayEnd}
use Rattle.wf_machine.specs.declared.ending.Ending.{Ending}
use Rattle.wf_world.specs.Sent.{is_over}
use Rattle.wf_world.specs.States.{Kept, state_of, Stands, Acts, Finishes}
use Rattle.wf_world.specs.Fleets.{FleetState, machine_at, IsFleet, one_more, WearsOne, WearsNone, WearsAll, HasRoom, HaveRoom, Leads, IsPast}
use Rattle.wf_world.proofs.Letters.{keeps_it}
use Rattle.wf_world.proofs.Following.{stays}
use Rattle.wf_world.proofs.Rounds.{worn_more}

-- WEAR

one_most : (u n v : ℕ) → one_more u (λ w. n) v ≤ n + 1
one_most u n v = go (v == u)
  where
    go : (b : Bool) → cond b (n + 1) n ≤ n + 1
    go true = omega arith
    go false = omega arith

pub one_wears_all : (u : ℕ) (f g : FleetState) → WearsOne u f g → WearsAll f g
one_wears_all u f g worn n are v s at = worn_more (one_more u (λ w. n) v) (n + 1) s (one_most u n v) (worn (λ w. n) are v s at)

pub none_wears_all : (f g : FleetState) → WearsNone f g → WearsAll f g
none_wears_all f g worn n are v s at = worn_more n (n + 1) s (omega arith) (worn (λ w. n) are v s at)

pub same_wears : (f : FleetState) → WearsAll f f
same_wears f = none_wears_all f f (λ n are. are)

-- A LINE

abbrev pub kept : FleetState → ℕ → Bool → Kept
kept f n lost = record { chart = f.chart; slots = f.slots; messages = f.messages; acted = n; lost = lost }

pub have_room : (f : FleetState) (n : ℕ) → Stands f n → n < max_lines → HaveRoom f
have_room f n stands few = record { n = n; few = few; worn = stands.worn }

pub has_room : (f : FleetState) (u : ℕ) → HaveRoom f → HasRoom f u
has_room f u room = record { n = room.n; few = room.few; worn = λ s at. room.worn u s at }

pub stands_on : (f g : FleetState) (n : ℕ) (x : Line) (r : Reply) → Stands f n → n < max_lines → Leads f x r g → WearsAll f g → Stands g (n + 1)
stands_on f g n x r stands few led worn = record { fleet = led.fleet; few = omega (arith, few); worn = worn n stands.worn }

pub does : (f g : FleetState) (n : ℕ) (lost : Bool) (x : Line) (r : Reply) → Leads f x r g → Acts (state_of (kept f n lost)) x r (state_of (kept g (n + 1) false))
does f g n lost x r led = record { chart = led.chart; acted = refl; machine = led.machine; few = keeps_it g.chart (machine_at g) g.messages refl led.fleet.letters led.fleet.few; whole = refl }

-- TOO MANY BYTES

pub send_over : (f : FleetState) (u v : UnitId) → IsPast f.chart (send (machine_at f) u.0 v.0).after → is_over f.chart (act f.chart (machine_at f) true (line.Send u v)).after ≡ true
unfolding act
send_over f u v past = past (send (machine_at f) u.0 v.0).after (stays f.chart (send (machine_at f) u.0 v.0).after)

pub round_over : (f : FleetState) → IsPast f.chart (round (machine_at f)).after → is_over f.chart (act f.chart (machine_at f) true line.Round).after ≡ true
unfolding act
round_over f past = past (round (machine_at f)).after (stays f.chart (round (machine_at f)).after)

-- AN END

pub finishes : (f g : FleetState) (n : ℕ) (lost : Bool) (e : Ending) → g.chart ≡ f.chart → MayEnd f.chart (machine_at f) e (machine_at g) → Finishes (state_of (kept f n lost)) e (state_of (kept g n false))
finishes f g n lost e chart machine = record { chart = chart; acted = refl; machine = machine; whole = refl }

pub stands_after : (f g : FleetState) (n : ℕ) → Stands f n → IsFleet g → WearsNone f g → Stands g n
stands_after f g n stands fleet worn = record { fleet = fleet; few = stands.few; worn = worn (λ u. n) stands.worn }
