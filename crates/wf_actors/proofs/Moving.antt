-- What a unit does in a round, call by call.
use Rattle.std.proofs.Common.{◌≡◌, ℕ, ◌+◌, ◌≤◌, Bool, List, [], length, Result, Ok, Err, refl, sym, ap, ◌∙◌, subst, arith}
use Rattle.std.specs.Prelude.{IfErr}
use Rattle.std.specs.Option.{option_map_or}
use Rattle.std.proofs.lemmas.List.{length-map}
use Rattle.wf_model.specs.Faults.{Rose}
use Rattle.wf_model.specs.declared.update.Update.{Update}
use Rattle.wf_disk.specs.Disk.{Told}
use Rattle.wf_histories.specs.Histories.{taken}
use Rattle.wf_worlds.specs.Growing.{turned}
use Rattle.wf_worlds.proofs.Growing.{turn_takes}
use Rattle.wf_exchange.specs.declared.port.Port.{Port}
use Rattle.wf_exchange.specs.Rings.{ring_in, ring_out, popped}
use Rattle.wf_exchange.specs.Ports.{Ways, ways, popped_from, CanReach, SameMouths}
use Rattle.wf_server.specs.Servers.{Server, told_by}
use Rattle.wf_actors.specs.declared.stop.Stop.{Stop}
use Rattle.wf_actors.specs.declared.stop.Stop.TheVariants as stops
use Rattle.wf_actors.specs.Keeping.{Keeps, KeepsAll}
use Rattle.wf_actors.specs.Taking.{Anywhere}
use Rattle.wf_actors.specs.Peers.{TakesRows}
use Rattle.wf_actors.specs.Stops.{IsStopOf}
use Rattle.wf_actors.specs.Moves.{Moves}
use Rattle.wf_actors.proofs.Peering.{rows_stay, rows_then}

-- a port with the same rings reaches the same units
pub reach_stays : (a b : Port) (v : ℕ) → ways b ≡ ways a → CanReach a v → CanReach b v
reach_stays a b v same reach = (
  let to : length b.ends.items ≡ length a.ends.items = sym (length-map b.ends.items ring_in) ∙ ap (λ (w : Ways). length w.to) same ∙ length-map a.ends.items ring_in in let r = reach.0 in omega (arith, to),
  let from : length b.mouths.items ≡ length a.mouths.items = sym (length-map b.mouths.items ring_out) ∙ ap (λ (w : Ways). length w.from) same ∙ length-map a.mouths.items ring_out in let r = reach.1 in omega (arith, from),
)

-- from v the same came
pub popped_same : (a b : Port) (v : ℕ) → SameMouths a b v → popped_from b v ≡ popped_from a v
popped_same a b v same = ap (λ o. option_map_or popped o []) same

-- from all units
pub popped_all : (a b : Port) → ((v : ℕ) → SameMouths a b v) → popped_from b ≡ popped_from a
popped_all a b same = λ i v. popped_same a b v (same v) i

module _ {D : Type 0} (told : D → Told) where
  pub keeps_then : (a b c : Server D) → KeepsAll told a b → KeepsAll told b c → KeepsAll told a c
  keeps_then a b c p q = record { each = (λ taken opening kept. q.each taken opening (p.each taken opening kept)) }

  -- what came is no matter
  pub keeps_came : (old new : Server D) → new ≡ record old { came = new.came; early = new.early } → KeepsAll told old new
  keeps_came old new rest = record { each = (λ taken opening kept. subst (λ (s : Server D). Keeps told taken opening s) (sym rest) kept) }

  -- A CAUSE STAYS ONE, since an earlier moment and at a later one

  rose_since : (a b c : ℕ) → a ≤ b → Rose b c → Rose a c
  rose_since a b c le rose = omega (arith, le, rose)

  pub stop_since : (a b c : Server D) → (told_by told a).faults ≤ (told_by told b).faults → (r : Result Bool Stop) → IfErr r (IsStopOf told b c) → IfErr r (IsStopOf told a c)
  stop_since a b c le (Ok went) is = tt
  stop_since a b c le (Err stops.DiskFailed) is = rose_since (told_by told a).faults (told_by told b).faults (told_by told c).faults le is
  stop_since a b c le (Err stops.JournalFull) is = is
  stop_since a b c le (Err stops.StepLimit) is = is
  stop_since a b c le (Err stops.NoMemory) is = tt

  module _ (old new : Server D) where
    -- A STEP, OR NONE

    pub step_on : (inputs : List Update) → new.past ≡ turned old.past inputs → taken new.past ≡ taken old.past + 1
    step_on inputs past = let t = ap taken past ∙ turn_takes old.past inputs in omega (arith, t)

    -- nothing came meanwhile
    pub plain_moves : (port port_now : Port) (refused : Bool) → new.part ≡ old.part → KeepsAll told old new → (told_by told old).faults ≤ (told_by told new).faults → taken old.past ≤ taken new.past
        → ways port_now ≡ ways port → ((v : ℕ) → SameMouths port port_now v) → ((came : ℕ → List Update) → TakesRows Anywhere old new came came refused refused) → Moves told old new port port_now refused refused
    plain_moves port port_now refused part keeps faults on rings mouths rows =
        record {
          part = part;
          keeps = keeps;
          faults = faults;
          on = on;
          rings = rings;
          rows = subst (λ came. TakesRows Anywhere old new (popped_from port) came refused refused) (sym (popped_all port port_now mouths)) (rows (popped_from port));
        }

    -- what came was taken in
    pub taking_moves : (port port_now : Port) (refused refused_now : Bool) → new ≡ record old { came = new.came; early = new.early } → ways port_now ≡ ways port → TakesRows Anywhere old new (popped_from port) (popped_from port_now) refused refused_now → Moves told old new port port_now refused refused_now
    taking_moves port port_now refused refused_now rest rings rows =
        record {
          part = ap (λ (s : Server D). s.part) rest;
          keeps = keeps_came old new rest;
          faults = let same = ap (λ (s : Server D). (told_by told s).faults) rest in omega (arith, same);
          on = let same = ap (λ (s : Server D). taken s.past) rest in omega (arith, same);
          rings = rings;
          rows = rows;
        }

  pub moves_stay : (s : Server D) (port : Port) (refused : Bool) → Moves told s s port port refused refused
  moves_stay s port refused =
      record { part = refl; keeps = record { each = (λ taken opening kept. kept) }; faults = omega arith; on = omega arith; rings = refl; rows = rows_stay Anywhere s (popped_from port) refused }

  pub moves_then : (a b c : Server D) (pa pb pc : Port) (ra rb rc : Bool) → Moves told a b pa pb ra rb → Moves told b c pb pc rb rc → Moves told a c pa pc ra rc
  moves_then a b c pa pb pc ra rb rc p q =
      record {
        part = q.part ∙ p.part;
        keeps = keeps_then a b c p.keeps q.keeps;
        faults = let first = p.faults in let second = q.faults in omega arith;
        on = let first = p.on in let second = q.on in omega arith;
        rings = q.rings ∙ p.rings;
        rows = rows_then Anywhere a b c (popped_from pa) (popped_from pb) (popped_from pc) ra rb rc p.rows q.rows;
      }
