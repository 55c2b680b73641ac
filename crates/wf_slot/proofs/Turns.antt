-- How a turn of a unit that is up ends, by what its server answers.
use Rattle.std.proofs.Common.{◌≡◌, ◌≢◌, inl, inr, ℕ, suc, ◌+◌, ◌^◌, ◌<◌, ◌≤◌, ◌==◌, ◌&&◌, nat_lt, not, cond, if◌then◌else◌, Bool, true, false, List, [], ◌∷◌, length, map, sum, Option, Some, None, is_some, refl, sym, ap, ◌∙◌, arith, rules, eqb-true, eq-eqb}
use Rattle.std.specs.Int.{bit_at}
use Rattle.std.proofs.lemmas.Bool.{cond-true, cond-false}
use Rattle.wf_model.specs.declared.update.Update.{Update}
use Rattle.wf_model.specs.declared.update.UnitSet.{UnitSet}
use Rattle.wf_disk.specs.Memory.{Held}
use Rattle.wf_journal.specs.State.{Kept as Journal}
use Rattle.wf_model.proofs.Few.{few_units}
use Rattle.wf_parts.specs.declared.data.PartData.{PartData}
use Rattle.wf_parts.specs.Parts.{IsPart, part_of}
use Rattle.wf_machine.specs.declared.reply.TurnReply.TheVariants as turn
use Rattle.wf_machine.specs.Bars.{bar_of, turn_barred}
use Rattle.wf_machine.specs.Strokes.{Done, SetOff, strokes}
use Rattle.wf_machine.specs.Server.{Health, Works, later_than}
use Rattle.wf_machine.specs.Lines.{bar_at, unit_set, turn_by}
use Rattle.wf_histories.specs.Histories.{taken}
use Rattle.wf_worlds.specs.Growing.{turned}
use Rattle.wf_worlds.specs.Worlds.{Turns}
use Rattle.wf_worlds.proofs.Growing.{turn_takes}
use Rattle.wf_server.specs.Servers.{Server, held as held_by, held_in, inputs_of, with_turn}
use Rattle.wf_server.specs.Inbox.{AllCame, AreMissing, IsInbox}
use Rattle.wf_slot.specs.declared.fuse.Fuse.{Fuse as Kept}
use Rattle.wf_slot.specs.Units.{UnitState, server_of}
use Rattle.wf_slot.specs.Fuses.{fuse_of}
use Rattle.wf_slot.specs.Slots.{SlotState, held, unit_of, server, absent}
use Rattle.wf_slot.specs.Answers.{HoldsLess}
use Rattle.wf_slot.specs.Seats.{health_by, IsKept}
use Rattle.wf_slot.specs.Writes.{up, struck_at, TurnAnswered, AreAllOf}
use Rattle.wf_slot.proofs.Sets.{set_is}
use Rattle.wf_slot.proofs.Lines.{turn_waits, turn_took, turn_broke}
use Rattle.wf_slot.proofs.Seats.{struck_unit}
use Rattle.wf_slot.proofs.Gathers.{all_gathered, none_absent}

no_update : (update : Update) → None ≡ Some update → ⊥
no_update update e = cc

-- a chart has few units
pub units_few : (part : PartData) → IsPart part → part.units ≤ 8
unfolding part_of
units_few part is =
    let same : part.units ≡ length is.chart.units = ap (λ (p : PartData). p.units) is.is in
    let most = few_units is.chart is.accepted in
    omega (arith, same, most)

-- what it holds of the next step stands in the slots of that step
pub held_next : (slot : SlotState) (v : ℕ) → held slot v (taken slot.past + 1) ≡ held_in slot.came v
held_next slot v =
    cond-true (taken slot.past + 1 == taken slot.past + 1) (held_in slot.came v) (if taken slot.past + 1 == taken slot.past + 2 then held_in slot.early v else None)
    (eq-eqb (taken slot.past + 1) (taken slot.past + 1) refl)

held_suc : (slot : SlotState) (v : ℕ) → held slot v (suc (taken slot.past)) ≡ held_in slot.came v
held_suc slot v = let same : suc (taken slot.past) ≡ taken slot.past + 1 = omega arith in ap (held slot v) same ∙ held_next slot v

-- it holds nothing of a step that is taken
not_yet : (a b : ℕ) → a ≢ b → (c : Bool) → (a == b) ≡ c → c ≡ false
not_yet a b differs true e = absurd (differs (eqb-true a b e))
not_yet a b differs false e = refl

pub none_old : (slot : SlotState) (v j : ℕ) → j ≤ taken slot.past → held slot v j ≡ None
none_old slot v j old =
    cond-false (j == taken slot.past + 1) (held_in slot.came v) (if j == taken slot.past + 2 then held_in slot.early v else None) (not_yet j (taken slot.past + 1) (λ e. absurd (omega (arith, old, e))) (j == taken slot.past + 1) refl)
    ∙ cond-false (j == taken slot.past + 2) (held_in slot.early v) None (not_yet j (taken slot.past + 2) (λ e. absurd (omega (arith, old, e))) (j == taken slot.past + 2) refl)

-- AFTER A TURN it holds what it held of later steps
module _ (old new : SlotState) (updates : List Update) (past : new.past ≡ turned old.past updates) (later : (v j : ℕ) → taken old.past + 1 < j → held new v j ≡ held old v j) where
  count : taken new.past ≡ taken old.past + 1
  count = let did : taken new.past ≡ suc (taken old.past) = ap taken past ∙ turn_takes old.past updates in omega (arith, did)

  holds_later : (v j : ℕ) → (b : Bool) → nat_lt (taken old.past + 1) j ≡ b → held new v j ≡ (if b then held old v j else None)
  holds_later v j true e = later v j (search (rules, e))
  holds_later v j false e = let up_to : j ≤ taken old.past + 1 = search (rules, e) in let now = count in none_old new v j (omega (arith, up_to, now))

  some_if : (b : Bool) (o : Option Update) → is_some (if b then o else None) ≡ (b && is_some o)
  some_if true o = refl
  some_if false o = refl

  pub later_is : (v j : ℕ) → is_some (held new v j) ≡ later_than (taken old.past + 1) (λ v j. is_some (held old v j)) v j
  later_is v j = ap is_some (holds_later v j (nat_lt (taken old.past + 1) j) refl) ∙ some_if (nat_lt (taken old.past + 1) j) (held old v j)

  less_by : (v j : ℕ) (update : Update) (b : Bool) → (if b then held old v j else None) ≡ Some update → held old v j ≡ Some update
  less_by v j update true e = e
  less_by v j update false e = absurd (no_update update e)

  pub holds_less : HoldsLess old new
  holds_less v j update e = less_by v j update (nat_lt (taken old.past + 1) j) (sym (holds_later v j (nat_lt (taken old.past + 1) j) refl) ∙ e)

module _ (node : Server Held) (fuse : Option Kept) (healthy : node.journal.failed ≡ false) where
  abbrev unit : UnitState
  unit = unit_of (up node fuse)

  works : unit.health ≡ Works
  works = ap health_by healthy

  -- ALL CAME
  pub all_of : IsInbox node.part (taken node.past + 1) node.came → AllCame node.part node.came → AreAllOf (up node fuse) (inputs_of node.came)
  all_of inbox all =
      record {
        gathered = all_gathered node.part (taken node.past + 1) node.came inbox all (λ v. held (up node fuse) v (suc (taken node.past))) (held_suc (up node fuse));
        none_absent = none_absent node.part node.came (λ v. held (up node fuse) v (taken node.past + 1)) all (held_next (up node fuse));
      }

  -- SOME DIDN'T
  module _ (kept : IsKept node.part node.past node.journal.disk fuse None) (set : UnitSet) (small : set.0 < 2 ^ 8) (few : node.part.units ≤ 8) (missing : AreMissing node.part node.came set.0) (some : set.0 ≢ 0) where
    bits : (v : ℕ) → v < 8 → bit_at set.0 v ≡ cond (nat_lt v node.part.units && (not (v == node.part.unit.0) && not (is_some (held (up node fuse) v (taken node.past + 1))))) 1 0
    bits v lt =
        missing v lt
        ∙ ap (λ (o : Option Update). cond (nat_lt v node.part.units && (not (v == node.part.unit.0) && not (is_some o))) 1 0) (sym (held_next (up node fuse) v))

    sum_is : sum (map (λ v. 2 ^ v) (absent (up node fuse))) ≡ set.0
    sum_is = set_is set.0 node.part.unit.0 node.part.units (λ v. is_some (held (up node fuse) v (taken node.past + 1))) few small bits

    the_set : unit_set (absent (up node fuse)) ≡ set
    the_set = ap (λ (n : ℕ). set_of n) sum_is
      where
        set_of : ℕ → UnitSet
        set_of n = record { 0 = n }

    waits_by : (vs : List ℕ) → absent (up node fuse) ≡ vs → TurnAnswered node fuse node fuse (turn.Waiting set)
    waits_by [] is = absurd (some (sym sum_is ∙ ap (λ (vs : List ℕ). sum (map (λ v. 2 ^ v) vs)) is))
    waits_by (v ∷ vs) is =
        record {
          answer = turn_waits unit (absent (up node fuse)) v vs works is ∙ ap (λ (s : UnitSet). (turn.Waiting s, server_of unit)) the_set;
          writes = inl refl;
          goes = record { part = refl; clock = omega arith };
          kept = kept;
        }

    pub waits : TurnAnswered node fuse node fuse (turn.Waiting set)
    waits = waits_by (absent (up node fuse)) refl

  module _ (all : AreAllOf (up node fuse) (inputs_of node.came)) where
    -- THE TURN STANDS
    pub took : (j : Journal Held) (early : List (Option Update)) (rest : Option Kept) → j.failed ≡ false → strokes 4 (fuse_of fuse) ≡ Done (fuse_of rest) → j.disk.clock ≡ node.journal.disk.clock + 4 →
        ((v step : ℕ) → taken node.past + 1 < step → held_by (record node { journal = j; past = with_turn node.past node.came; came = node.early; early = early; ready = false }) v step ≡ held_by node v step) →
        IsKept node.part (with_turn node.past node.came) j.disk rest None →
        TurnAnswered node fuse (record node { journal = j; past = with_turn node.past node.came; came = node.early; early = early; ready = false }) rest (turn.Took (taken node.past + 1))
    took j early rest fine met clock later kept =
        let new : Server Held = record node { journal = j; past = with_turn node.past node.came; came = node.early; early = early; ready = false } in
        record {
          answer =
              turn_took unit (absent (up node fuse)) (inputs_of node.came) (held (up new rest)) (fuse_of rest) works all.none_absent met
              (later_is (up node fuse) (up new rest) (inputs_of node.came) refl later)
              ∙ ap (λ (h : Health). (turn.Took (taken node.past + 1), server_of (record unit { health = h; past = turned node.past (inputs_of node.came); held = held (up new rest); fuse = fuse_of rest }))) (ap health_by (healthy ∙ sym fine));
          writes = inr (inputs_of node.came, all.gathered, inl (record { past = refl; held = holds_less (up node fuse) (up new rest) (inputs_of node.came) refl later; doubt = refl }));
          goes = record { part = refl; clock = omega (arith, clock) };
          kept = kept;
        }

    -- ITS WRITE BROKE OFF
    pub answers_broke : (hit : Kept) (clock : ℕ) → strokes 4 (fuse_of fuse) ≡ SetOff hit.left hit.what →
        turn_by (bar_at (up node fuse).health) (absent (up node fuse)) (server (up node fuse)) ≡ (turn_barred (bar_of hit.what), server (struck_at (up node fuse) hit.left hit.what (Turns (inputs_of node.came)) clock))
    answers_broke hit clock met =
        turn_broke unit (absent (up node fuse)) hit.left hit.what works all.none_absent met
        ∙ ap (λ (u : UnitState). (turn_barred (bar_of hit.what), server_of u)) (sym (struck_unit (up node fuse) hit.left hit.what (Turns (inputs_of node.came)) clock))
